-- What a step takes of the changes that are left of a walk.
use Rattle.std.proofs.Common.{◌≡◌, ◌∙◌, ℕ, ◌+◌, ◌≤◌, Bool, true, false, List, [], ◌∷◌, ◌++◌, Option, None, Some, Result, Ok, Err, IfOk, inl, inr, ap, sym, refl, subst, arith}
use Rattle.std.proofs.lemmas.List.Elements.{All-cons, All-nil}
use Rattle.elf_model.specs.Checks.{first_refusal}
use Rattle.elf_model.specs.Image.{ImageChange, ImageSource, Keeps, Lacks, Refuses, SegmentWrite, Stores, entry_change, place_checks, relative_changes, RelativeAddress}
use Rattle.elf_model.specs.declared.causes.Cause.{Cause}
use Rattle.elf_model.specs.declared.causes.Refusal.{Refusal}
use Rattle.elf_record.specs.Rela.{IsRela}
use Rattle.elf_table.specs.declared.fault.Fault.{Fault}
use Rattle.elf_table.specs.declared.fault.Fault.TheVariants.{Refused, Source}
use Rattle.elf_image.specs.Changes.{FindsWord, GoesInTurn, IsUnwanted, Rises, StoresAs, StoresGiven, StoresInTurn, TakesChange, based_write, image_changes_left}
use Rattle.elf_image.specs.EntryOrder.{IsFarChange, IsFarWrite, PassesBy, TakesOrderedEntry, entry_changes_left}
use Rattle.elf_image.specs.RelativeRows.{TakesAddress, relative_left}
use Rattle.elf_image.specs.Relocated.{ChangesAs, IsHeldPlace, write_as}
use Rattle.elf_image.specs.Values.{IsGiven}
use Rattle.elf_image.specs.declared.changes.EntryResult.TheVariants as result
use Rattle.elf_image.specs.declared.changes.PlacedBytes.{PlacedBytes}
use Rattle.elf_image.specs.declared.changes.RelocatedBytes.{RelocatedBytes}
use Rattle.elf_image.specs.declared.changes.RelocatedBytes.TheVariants as stored
use Rattle.elf_image.specs.declared.entries.EntryStep.TheVariants as entry
use Rattle.elf_image.specs.declared.entries.OrderedEntries.{OrderedEntries}
use Rattle.elf_image.specs.declared.entries.OrderedEntry.{OrderedEntry}
use Rattle.elf_image.specs.declared.place.Place.{Place}
use Rattle.elf_image.specs.declared.rela_rows.WindowReach.{WindowReach}
use Rattle.elf_image.specs.declared.relative_rows.RelativeRow.{RelativeRow}
use Rattle.elf_image.specs.declared.relative_rows.RelativeStep.TheVariants as row
use Rattle.elf_image.specs.declared.walk.ImageWalk.{ImageWalk}
use Rattle.elf_image.specs.declared.walk.WalkStep.{WalkStep}
use Rattle.elf_image.specs.declared.walk.WalkStep.TheVariants as walked
use Rattle.elf_image.proofs.WordSteps.{far_word, not_below, place_found, placed_at, refusal_as, relative_based, relative_none, relative_outside, relative_refused}

-- changes that are passed by
pub passes_none : (file : List ℕ) (wanted : Option WindowReach) (before after : List ImageChange) → before ≡ after → PassesBy file wanted before after
passes_none file wanted before after e = ([], e, All-nil (IsFarChange file wanted))

pub passes_one : (file : List ℕ) (wanted : Option WindowReach) (change : ImageChange) (before after : List ImageChange) → before ≡ change ∷ after
    → IsFarChange file wanted change → PassesBy file wanted before after
passes_one file wanted change before after e far =
    (change ∷ [], e, All-cons (IsFarChange file wanted) change [] far (All-nil (IsFarChange file wanted)))

pub keeps_far : (file : List ℕ) (wanted : Option WindowReach) → IsFarChange file wanted Keeps
keeps_far file None = refl
keeps_far file (Some reach) = λ write is. absurd (cc)

stores_far : (file : List ℕ) (reach : WindowReach) (known : SegmentWrite) → IsFarWrite file reach known → IsFarChange file (Some reach) (Stores known)
stores_far file reach known far = λ write is. let same : known ≡ write = cc in subst (IsFarWrite file reach) same far

-- what is stored
stores_based : (source : ImageSource) (placed : PlacedBytes) (write : SegmentWrite) → placed.bytes ≡ stored.Based → write ≡ based_write source placed.place
    → StoresAs source placed write
stores_based source placed write based e = rw based e

stores_given : (source : ImageSource) (placed : PlacedBytes) (bytes : RelocatedBytes) → placed.bytes ≡ bytes → IsGiven bytes → StoresAs source placed (write_as placed)
stores_given source placed stored.Based is given = absurd given
stores_given source placed (stored.Value patch) is given = rw is refl
stores_given source placed (stored.Pair first second) is given = rw is refl
stores_given source placed (stored.Copied bytes) is given = rw is refl

-- WHAT IS LEFT, by whether there are more relative relocations
module _ (source : ImageSource) where
  pub left_rows : (walk : ImageWalk) → walk.past_rows ≡ false
      → image_changes_left source walk ≡ relative_changes source walk.rows.low (relative_left source.file walk.rows) ++ entry_changes_left source walk.entries
  left_rows walk e = rw e refl

  pub left_entries : (walk : ImageWalk) → walk.past_rows ≡ true → image_changes_left source walk ≡ entry_changes_left source walk.entries
  left_entries walk e = rw e refl

  module _ (old : ImageWalk) (rows : old.past_rows ≡ false) where
    abbrev others : List ImageChange
    others = entry_changes_left source old.entries

    -- a refusal of the rows
    pub row_refused : (partial : Bool) (wanted : Option WindowReach) (next : ℕ) (left : List RelativeAddress) (after : List ImageChange) (fault : Fault)
        → TakesAddress old.rows.low next (relative_left source.file old.rows) left (Err fault)
        → TakesChange source partial wanted (image_changes_left source old) after (Err fault)
    row_refused partial wanted next left after (Refused refusal) takes = λ fits.
        let t = takes fits in
        let first = relative_refused source old.rows.low refusal.at t.1 t.0 t.4 in
        let is = ap (λ (r : Refusal). Refuses r ∷ []) (refusal_as refusal _ t.3) in (
          Refuses refusal,
          others,
          left_rows old rows ∙ (ap (λ xs. relative_changes source old.rows.low xs ++ others) t.2 ∙ ap (λ cs. cs ++ others) (first ∙ is)),
          inl refl,
        )
    row_refused partial wanted next left after (Source fault at) takes = tt

    -- a refusal of the place of a row
    pub row_outside : (partial : Bool) (wanted : Option WindowReach) (next : ℕ) (left : List RelativeAddress) (after : List ImageChange) (it : RelativeRow) (fault : Fault)
        → TakesAddress old.rows.low next (relative_left source.file old.rows) left (Ok (row.Row it)) → FindsWord source it (Err fault)
        → TakesChange source partial wanted (image_changes_left source old) after (Err fault)
    row_outside partial wanted next left after it (Refused refusal) takes found = λ fits. (
      Refuses refusal,
      others,
      left_rows old rows
          ∙ (ap (λ xs. relative_changes source old.rows.low xs ++ others) takes.0
          ∙ ap (λ cs. cs ++ others) (relative_outside source old.rows.low it.at left it.address takes.1 refusal found)),
      inl refl,
    )
    row_outside partial wanted next left after it (Source fault at) takes found = absurd found

    -- there are no more rows
    pub rows_end : (partial : Bool) (wanted : Option WindowReach) (new : ImageWalk) (next : ℕ) (left : List RelativeAddress) → new.past_rows ≡ true → new.entries ≡ old.entries
        → TakesAddress old.rows.low next (relative_left source.file old.rows) left (Ok row.Ended)
        → TakesChange source partial wanted (image_changes_left source old) (image_changes_left source new) (Ok walked.Nothing)
    rows_end partial wanted new next left past same takes =
        inl (passes_none source.file wanted (image_changes_left source old) (image_changes_left source new)
        (left_rows old rows
        ∙ (ap (λ xs. relative_changes source old.rows.low xs ++ others) takes.0
        ∙ (ap (λ cs. cs ++ others) (relative_none source old.rows.low) ∙ (ap (entry_changes_left source) (sym same) ∙ sym (left_entries new past))))))

    module _ (new : ImageWalk) (still : new.past_rows ≡ false) (same : new.entries ≡ old.entries) where
      abbrev rows_after : List ImageChange
      rows_after = relative_changes source new.rows.low (relative_left source.file new.rows)

      same_after : rows_after ++ others ≡ image_changes_left source new
      same_after = ap (λ (entries : OrderedEntries). rows_after ++ entry_changes_left source entries) (sym same) ∙ sym (left_rows new still)

      -- a step over nothing
      pub row_nothing : (partial : Bool) (wanted : Option WindowReach)
          → TakesAddress old.rows.low new.rows.low (relative_left source.file old.rows) (relative_left source.file new.rows) (Ok row.Nothing)
          → TakesChange source partial wanted (image_changes_left source old) (image_changes_left source new) (Ok walked.Nothing)
      row_nothing partial wanted takes =
          inl (passes_none source.file wanted (image_changes_left source old) (image_changes_left source new)
          (left_rows old rows
          ∙ (ap (λ xs. relative_changes source old.rows.low xs ++ others) takes.0
          ∙ (ap (λ low. relative_changes source low (relative_left source.file new.rows) ++ others) (sym takes.1) ∙ same_after))))

      module _ (it : RelativeRow) (takes : TakesAddress old.rows.low new.rows.low (relative_left source.file old.rows) (relative_left source.file new.rows) (Ok (row.Row it))) where
        -- the word of a row
        word_first : first_refusal (place_checks source.file source.at it.at it.address 8) ≡ None → (place : Place) → IsHeldPlace source.file it.address 8 place
            → image_changes_left source old ≡ Stores (based_write source place) ∷ image_changes_left source new
        word_first passes place is =
            let first = relative_based source old.rows.low it.at (relative_left source.file new.rows) it.address takes.1 passes place is in
            left_rows old rows
            ∙ (ap (λ xs. relative_changes source old.rows.low xs ++ others) takes.0
            ∙ (ap (λ cs. cs ++ others) first
            ∙ ap (λ cs. Stores (based_write source place) ∷ cs)
            (ap (λ low. relative_changes source low (relative_left source.file new.rows) ++ others) (sym takes.2) ∙ same_after)))

        pub row_stores : (partial : Bool) (wanted : Option WindowReach) (placed : PlacedBytes) → FindsWord source it (Ok placed)
            → TakesChange source partial wanted (image_changes_left source old) (image_changes_left source new) (Ok (walked.Stores placed))
        row_stores partial wanted placed found = (
          based_write source placed.place,
          stores_based source placed (based_write source placed.place) found.0 refl,
          sym found.1,
          word_first found.2.0 placed.place found.2.1,
        )

        -- one that is passed by, whose place may be refused
        passed_in : (partial : Bool) (reach : WindowReach) → IsUnwanted (Some reach) it.address → (first : Option Refusal)
            → first_refusal (place_checks source.file source.at it.at it.address 8) ≡ first
            → TakesChange source partial (Some reach) (image_changes_left source old) (image_changes_left source new) (Ok walked.Nothing)
        passed_in partial reach unwanted None e =
            let found = place_found source it.at it.address 8 e in
            let far = far_word source reach it.address found.0 found.1 unwanted in
            inl (passes_one source.file (Some reach) (Stores (based_write source found.0)) (image_changes_left source old) (image_changes_left source new)
            (word_first e found.0 found.1) (stores_far source.file reach (based_write source found.0) far))
        passed_in partial reach unwanted (Some refusal) e =
            inr (
              refusal,
              others,
              left_rows old rows
                  ∙ (ap (λ xs. relative_changes source old.rows.low xs ++ others) takes.0
                  ∙ ap (λ cs. cs ++ others) (relative_outside source old.rows.low it.at (relative_left source.file new.rows) it.address takes.1 refusal e)),
            )

        pub row_passes : (partial : Bool) (wanted : Option WindowReach) → IsUnwanted wanted it.address
            → TakesChange source partial wanted (image_changes_left source old) (image_changes_left source new) (Ok walked.Nothing)
        row_passes partial None unwanted = absurd unwanted
        row_passes partial (Some reach) unwanted = passed_in partial reach unwanted _ refl

  -- ENTRIES
  module _ (old new : ImageWalk) (past : old.past_rows ≡ true) (still : new.past_rows ≡ true) where
    pub entries_end : (partial : Bool) (window wanted : Option WindowReach)
        → TakesOrderedEntry source window (entry_changes_left source old.entries) (entry_changes_left source new.entries) (Ok entry.Past)
        → TakesChange source partial wanted (image_changes_left source old) (image_changes_left source new) (Ok walked.End)
    entries_end partial window wanted takes = left_entries old past ∙ takes

    pub entries_pass : (partial : Bool) (window wanted : Option WindowReach) → window ≡ wanted
        → TakesOrderedEntry source window (entry_changes_left source old.entries) (entry_changes_left source new.entries) (Ok entry.Nothing)
        → TakesChange source partial wanted (image_changes_left source old) (image_changes_left source new) (Ok walked.Nothing)
    entries_pass partial window wanted same takes =
        let is : PassesBy source.file wanted (entry_changes_left source old.entries) (entry_changes_left source new.entries) =
        subst (λ (w : Option WindowReach). PassesBy source.file w (entry_changes_left source old.entries) (entry_changes_left source new.entries)) same takes in
        inl (is.0, left_entries old past ∙ (is.1 ∙ ap (λ xs. is.0 ++ xs) (sym (left_entries new still))), is.2)

    pub entries_first : (partial : Bool) (window wanted : Option WindowReach) (ordered : OrderedEntry) (found : Result WalkStep Fault)
        → TakesOrderedEntry source window (entry_changes_left source old.entries) (entry_changes_left source new.entries) (Ok (entry.Entry ordered))
        → TakesChange source partial wanted (entry_change source ordered.at ∷ image_changes_left source new) (image_changes_left source new) found
        → TakesChange source partial wanted (image_changes_left source old) (image_changes_left source new) found
    entries_first partial window wanted ordered found takes change =
        let before = left_entries old past ∙ (takes.0 ∙ ap (λ xs. entry_change source ordered.at ∷ xs) (sym (left_entries new still))) in
        subst (λ (xs : List ImageChange). TakesChange source partial wanted xs (image_changes_left source new) found) (sym before) change

  pub entries_refused : (old : ImageWalk) → old.past_rows ≡ true → (partial : Bool) (window wanted : Option WindowReach) (left after : List ImageChange) (fault : Fault)
      → TakesOrderedEntry source window (entry_changes_left source old.entries) left (Err fault) → TakesChange source partial wanted (image_changes_left source old) after (Err fault)
  entries_refused old past partial window wanted left after (Refused refusal) takes = λ fits.
      let t = takes fits in
      (Refuses refusal, t.0, left_entries old past ∙ t.1, inl refl)
  entries_refused old past partial window wanted left after (Source fault at) takes = tt

  -- an entry, by its result
  module _ (partial : Bool) (wanted : Option WindowReach) (at : ℕ) (rest : List ImageChange) where
    pub change_keeps : ChangesAs partial at (Ok result.Nothing) (entry_change source at)
        → TakesChange source partial wanted (entry_change source at ∷ rest) rest (Ok walked.Nothing)
    change_keeps is = inl (passes_one source.file wanted Keeps (entry_change source at ∷ rest) rest (ap (λ (c : ImageChange). c ∷ rest) is) (keeps_far source.file wanted))

    pub change_stores : (placed : PlacedBytes) → ChangesAs partial at (Ok (result.Stores placed)) (entry_change source at)
        → TakesChange source partial wanted (entry_change source at ∷ rest) rest (Ok (walked.Stores placed))
    change_stores placed is =
        (write_as placed, stores_given source placed placed.bytes refl is.1, refl, ap (λ (c : ImageChange). c ∷ rest) is.0)

    pub change_lacks : (ordered : OrderedEntry) (cause : Cause) → ordered.at ≡ at → ChangesAs partial at (Ok (result.Lacks cause)) (entry_change source at)
        → IsRela source.file at ordered.entry → TakesChange source partial wanted (entry_change source at ∷ rest) rest (Ok (walked.Lacks ordered cause))
    change_lacks ordered cause same is rela =
        let here = ap (λ (a : ℕ). let lack : Refusal = record { at = a; cause = cause } in Lacks lack ∷ rest) (sym same) in
        (is.0, ap (λ (c : ImageChange). c ∷ rest) is.1 ∙ here, subst (λ (a : ℕ). IsRela source.file a ordered.entry) (sym same) rela)

    pub change_refused : (fault : Fault) → ChangesAs partial at (Err fault) (entry_change source at)
        → TakesChange source partial wanted (entry_change source at ∷ rest) rest (Err fault)
    change_refused (Refused refusal) is = λ fits. (entry_change source at, rest, refl, is fits)
    change_refused (Source fault offset) is = tt

-- THE TURN of what is stored
module _ (file : List ℕ) (old new : ImageWalk) where
  pub rises_on : old.past_rows ≡ false → old.rows.low ≤ new.rows.low → Rises old new
  rises_on rows low = λ still. (rows, low)

  pub rises_past : new.past_rows ≡ true → Rises old new
  rises_past past = λ still. absurd (cc)

  pub row_rises : (it : RelativeRow) (before after : List RelativeAddress) → old.past_rows ≡ false → TakesAddress old.rows.low new.rows.low before after (Ok (row.Row it)) → Rises old new
  row_rises it before after rows takes =
      let low = not_below it.address old.rows.low takes.1 in
      rises_on rows (omega (arith, low, takes.2))

  pub word_turn : (it : RelativeRow) (placed : PlacedBytes) (before after : List RelativeAddress) → old.past_rows ≡ false → TakesAddress old.rows.low new.rows.low before after (Ok (row.Row it))
      → placed.bytes ≡ stored.Based → placed.width ≡ 8 → IsHeldPlace file it.address 8 placed.place → GoesInTurn file old new (walked.Stores placed)
  word_turn it placed before after rows takes based wide is =
      let here = placed_at file it.address 8 placed.place is in
      let low = not_below it.address old.rows.low takes.1 in
      let next = takes.2 ∙ ap (λ a. a + 8) (sym here) in
      let order : StoresInTurn file old new placed = rw based (rows, omega (arith, low, here), next, wide) in
      (order, row_rises it before after rows takes)

  given_turn : (placed : PlacedBytes) (bytes : RelocatedBytes) → placed.bytes ≡ bytes → IsGiven bytes → new.past_rows ≡ true → StoresInTurn file old new placed
  given_turn placed stored.Based is given past = absurd given
  given_turn placed (stored.Value patch) is given past = rw is past
  given_turn placed (stored.Pair first second) is given past = rw is past
  given_turn placed (stored.Copied bytes) is given past = rw is past

  pub entry_turn : (found : WalkStep) → StoresGiven found → new.past_rows ≡ true → GoesInTurn file old new found
  entry_turn (walked.Stores placed) given past = (given_turn placed placed.bytes refl given past, rises_past past)
  entry_turn (walked.Lacks ordered cause) given past = rises_past past
  entry_turn walked.Nothing given past = rises_past past
  entry_turn walked.End given past = tt

  pub turns : (found : Result WalkStep Fault) → IfOk found StoresGiven → new.past_rows ≡ true → IfOk found (GoesInTurn file old new)
  turns (Ok step) given past = entry_turn step given past
  turns (Err fault) given past = tt
