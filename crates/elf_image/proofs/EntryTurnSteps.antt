-- A cursor over entries in their order goes on: to the next part, or over entries of one.
use Rattle.std.proofs.Common.{◌≡◌, ◌∙◌, ℕ, zero, suc, ◌+◌, ◌-◌, ◌*◌, ◌^◌, ◌<◌, ◌≤◌, ◌⊎◌, Bool, true, false, List, [], ◌∷◌, ◌++◌, Option, None, Some, Result, Ok, Err, inl, inr, ap, sym, subst, refl, arith, append_assoc}
use Rattle.std.specs.List.{flat_map}
use Rattle.std.proofs.lemmas.Bool.{cases_eq, cases_lt}
use Rattle.std.proofs.lemmas.List.Elements.{All-nil, All-weaker}
use Rattle.elf_model.specs.Apply.{places_from}
use Rattle.elf_model.specs.Image.{ImageChange, ImageSource, Keeps, entry_change, is_resolved, resolved_changes}
use Rattle.elf_model.specs.Prelude.{r_addend}
use Rattle.elf_model.specs.Tables.{RELA_SIZE}
use Rattle.elf_record.specs.Rela.{IsRela}
use Rattle.elf_record.specs.declared.rela.Rela.{Rela}
use Rattle.elf_table.specs.Prelude.{TableRange}
use Rattle.elf_table.specs.Windows.{HoldsBytes}
use Rattle.elf_table.specs.declared.fault.Fault.{Fault}
use Rattle.elf_table.specs.declared.fault.Fault.TheVariants.{Refused, Source}
use Rattle.elf_image.specs.EntryOrder.{AreOrderedEntries, BeginsPart, IsFarChange, NoneResolved, PassesBy, TakesOrderedEntry, TakesRow, direct_part, entry_changes_left, is_noted, numbered_changes, part_changes, part_kind, parts_left, entry_places_left, range_table, relative_from}
use Rattle.elf_image.specs.Chunks.{HoldsChunks}
use Rattle.elf_image.specs.RelaRows.{IsFarEntry, IsFarRow, IsRelaRow, PassesRows, entry_place}
use Rattle.elf_image.specs.declared.chunks.EntryChunks.{EntryChunks}
use Rattle.elf_image.specs.declared.entries.EntryStep.{EntryStep}
use Rattle.elf_image.specs.declared.entries.EntryStep.TheVariants as step
use Rattle.elf_image.specs.declared.entries.OrderedEntries.{OrderedEntries}
use Rattle.elf_image.specs.declared.ranges.EntryRanges.{EntryRanges}
use Rattle.elf_image.specs.declared.rela_rows.RelaRow.{RelaRow}
use Rattle.elf_image.specs.declared.rela_rows.RelaRows.{RelaRows}
use Rattle.elf_image.specs.declared.rela_rows.WindowReach.{WindowReach}
use Rattle.elf_image.proofs.EntryOrderSteps.{entry_of, part-none, part-split, parts-next}
use Rattle.elf_image.proofs.FarEntrySteps.{keeps-far, none-resolved, part-far, unresolved}

-- BEFORE THE FIRST PART
pub left-at-first : (source : ImageSource) (entries : OrderedEntries) → entries.rows.table.count ≡ 0 → entry_changes_left source entries ≡ parts_left source entries.ranges entries.begun
unfolding entry_changes_left
left-at-first source entries none =
    let n : entries.rows.table.count - entries.rows.index ≡ 0 = omega (arith, none) in
    ap (λ (changes : List ImageChange). changes ++ parts_left source entries.ranges entries.begun)
    (part-none source entries.part.indirect (relative_from entries.ranges entries.part.second entries.rows.index) (entry_of entries.rows.table) entries.rows.index (entries.rows.table.count - entries.rows.index) n)

pub known-at-first : (file : List ℕ) (entries : OrderedEntries) → HoldsBytes file entries.rows.window → entries.rows.table.count ≡ 0 → entries.rows.index ≡ 0 → entries.begun ≡ 0
    → HoldsChunks file entries.ranges.first.at entries.chunks → AreOrderedEntries file entries
known-at-first file entries held none index begun chunks = record {
  held = held;
  before = λ first. none;
  kind = λ number later. absurd (omega (arith, later, begun));
  table = λ later. absurd (omega (arith, later, begun));
  part = λ direct unnoted i below. absurd (omega (arith, below, index));
  past = λ second later. absurd (omega (arith, later, begun));
  chunks = chunks;
}

-- AFTER THE LAST
pub left-at-end : (source : ImageSource) (entries : OrderedEntries) → entries.rows.index ≡ entries.rows.table.count → 4 ≤ entries.begun → entry_changes_left source entries ≡ []
unfolding entry_changes_left parts_left places_from
left-at-end source entries end last =
    let n : entries.rows.table.count - entries.rows.index ≡ 0 = omega (arith, end) in
    let parts : 4 - entries.begun ≡ 0 = omega (arith, last) in
    let none = part-none source entries.part.indirect (relative_from entries.ranges entries.part.second entries.rows.index) (entry_of entries.rows.table) entries.rows.index (entries.rows.table.count - entries.rows.index) n in
    ap (λ (changes : List ImageChange). changes ++ flat_map (numbered_changes source entries.ranges) (places_from (λ k. k) entries.begun (4 - entries.begun))) none
    ∙ ap (λ k. flat_map (numbered_changes source entries.ranges) (places_from (λ j. j) entries.begun k)) parts

-- THE NEXT PART
direct-before : (joined : Bool) (number : ℕ) → (part_kind joined number).1 ≡ true → direct_part joined (part_kind joined number).0 < number
direct-before true zero e = absurd (cc)
direct-before false zero e = absurd (cc)
direct-before true (suc zero) e = absurd (cc)
direct-before false (suc zero) e = omega arith
direct-before true (suc (suc zero)) e = omega arith
direct-before false (suc (suc zero)) e = absurd (cc)
direct-before true (suc (suc (suc number))) e = omega arith
direct-before false (suc (suc (suc number))) e = omega arith

kind-of-direct : (joined second : Bool) → ((part_kind joined (direct_part joined second)).0 ≡ second) × ((part_kind joined (direct_part joined second)).1 ≡ false)
kind-of-direct true true = (refl, refl)
kind-of-direct true false = (refl, refl)
kind-of-direct false true = (refl, refl)
kind-of-direct false false = (refl, refl)

-- the other entries of a table were passed
passed-direct : (file : List ℕ) (old : OrderedEntries) → AreOrderedEntries file old → old.rows.index ≡ old.rows.table.count
    → (second : Bool) → direct_part old.ranges.joined second < old.begun → is_noted old.indirect second ≡ false
    → NoneResolved file (range_table old.ranges second) (range_table old.ranges second).count
passed-direct file old known end second before unnoted = elim (cases_eq (direct_part old.ranges.joined second + 1) old.begun) [
  | inl now ↦
      let is = known.kind (direct_part old.ranges.joined second) now in
      let kind = kind-of-direct old.ranges.joined second in
      let same : old.part.second ≡ second = is.0 ∙ kind.0 in
      let direct : old.part.indirect ≡ false = is.1 ∙ kind.1 in
      let table : old.rows.table ≡ range_table old.ranges second
      = known.table (omega (arith, now)) direct ∙ ap (range_table old.ranges) same in
      let count : old.rows.index ≡ (range_table old.ranges second).count = end ∙ ap (λ (t : TableRange). t.count) table in
      let flag : is_noted old.indirect old.part.second ≡ false = ap (is_noted old.indirect) same ∙ unnoted in
      let none : NoneResolved file (range_table old.ranges second) old.rows.index
      = subst (λ (b : Bool). NoneResolved file (range_table old.ranges b) old.rows.index) same (known.part direct flag) in
      subst (NoneResolved file (range_table old.ranges second)) count none
  | inr earlier ↦ known.past second (omega (arith, before, earlier)) unnoted
]

pub known-at-part : (file : List ℕ) (old new : OrderedEntries) → AreOrderedEntries file old → old.rows.index ≡ old.rows.table.count → BeginsPart old new → AreOrderedEntries file new
known-at-part file old new known end b = record {
  held = b.held file;
  before = λ first. absurd (let e = b.begun in omega (arith, e, first));
  kind = λ number is.
      let same : number ≡ old.begun = let e = b.begun in omega (arith, e, is) in (
        b.kind.0 ∙ of-number same (λ (n : ℕ). (part_kind old.ranges.joined n).0) ∙ ap (λ (r : EntryRanges). (part_kind r.joined number).0) (sym b.ranges),
        b.kind.1 ∙ of-number same (λ (n : ℕ). (part_kind old.ranges.joined n).1) ∙ ap (λ (r : EntryRanges). (part_kind r.joined number).1) (sym b.ranges),
      );
  table = λ later direct. table-of direct b.table ∙ ap (λ (r : EntryRanges). range_table r new.part.second) (sym b.ranges);
  part = λ direct unnoted i below. absurd (let e = b.index in omega (arith, e, below));
  past = λ second later unnoted.
      let before : direct_part old.ranges.joined second < old.begun
      = let e = b.begun in let j = ap (λ (r : EntryRanges). direct_part r.joined second) b.ranges in omega (arith, e, j, later) in
      let flag : is_noted old.indirect second ≡ false = ap (λ (noted : Bool × Bool). is_noted noted second) (sym b.noted) ∙ unnoted in
      subst (λ (r : EntryRanges). NoneResolved file (range_table r second) (range_table r second).count) (sym b.ranges) (passed-direct file old known end second before flag);
  chunks = subst (λ (chunks : EntryChunks). HoldsChunks file new.ranges.first.at chunks) (sym b.chunks)
      (subst (λ (r : EntryRanges). HoldsChunks file r.first.at old.chunks) (sym b.ranges) known.chunks);
}
  where
    of-number : {X : Type 0} {number : ℕ} → number ≡ old.begun → (f : ℕ → X) → f old.begun ≡ f number
    of-number same f = ap f (sym same)

    table-of : new.part.indirect ≡ false
        → (new.rows.table ≡ range_table old.ranges new.part.second) ⊎ ((new.part.indirect ≡ true) × (new.rows.table.count ≡ 0) × (is_noted old.indirect new.part.second ≡ false))
        → new.rows.table ≡ range_table old.ranges new.part.second
    table-of direct (inl same) = same
    table-of direct (inr none) = let indirect = none.0 in absurd (cc)

module _ (source : ImageSource) (old new : OrderedEntries) (known : AreOrderedEntries source.file old) (end : old.rows.index ≡ old.rows.table.count) (b : BeginsPart old new) where
  -- all entries of the part that begins
  part-begun : numbered_changes source old.ranges old.begun
      ≡ part_changes source new.part.indirect (relative_from old.ranges new.part.second 0) (entry_places_left (range_table old.ranges new.part.second) 0)
  part-begun =
      ap (λ (second : Bool). part_changes source (part_kind old.ranges.joined old.begun).1 (relative_from old.ranges second 0) (entry_places_left (range_table old.ranges second) 0)) (sym b.kind.0)
      ∙ ap (λ (indirect : Bool). part_changes source indirect (relative_from old.ranges new.part.second 0) (entry_places_left (range_table old.ranges new.part.second) 0)) (sym b.kind.1)

  -- by its table
  begun-table : (new.rows.table ≡ range_table old.ranges new.part.second) ⊎ ((new.part.indirect ≡ true) × (new.rows.table.count ≡ 0) × (is_noted old.indirect new.part.second ≡ false))
      → part_changes source new.part.indirect (relative_from old.ranges new.part.second 0) (entry_places_left (range_table old.ranges new.part.second) 0)
      ≡ part_changes source new.part.indirect (relative_from old.ranges new.part.second 0) (entry_places_left new.rows.table 0)
  begun-table (inl same) = ap (λ (table : TableRange). part_changes source new.part.indirect (relative_from old.ranges new.part.second 0) (entry_places_left table 0)) (sym same)
  begun-table (inr none) =
      let table = range_table old.ranges new.part.second in
      let kind : (part_kind old.ranges.joined old.begun).1 ≡ true = sym b.kind.1 ∙ none.0 in
      let before : direct_part old.ranges.joined new.part.second < old.begun
      = subst (λ (second : Bool). direct_part old.ranges.joined second < old.begun) (sym b.kind.0) (direct-before old.ranges.joined old.begun kind) in
      let clear = passed-direct source.file old known end new.part.second before none.2 in
      let nothing : resolved_changes source (entry_places_left table 0) ≡ []
      = none-resolved source (entry_of table) 0 (table.count - 0) (λ k low high. clear k (omega (arith, high))) in
      let left : new.rows.table.count - 0 ≡ 0 = let n = none.1 in omega (arith, n) in
      ap (λ (indirect : Bool). part_changes source indirect (relative_from old.ranges new.part.second 0) (entry_places_left table 0)) none.0
      ∙ nothing
      ∙ sym (part-none source new.part.indirect (relative_from old.ranges new.part.second 0) (entry_of new.rows.table) 0 (new.rows.table.count - 0) left)

  pub left-at-part : old.begun < 4 → entry_changes_left source old ≡ entry_changes_left source new
  unfolding entry_changes_left
  left-at-part some =
      let n : old.rows.table.count - old.rows.index ≡ 0 = omega (arith, end) in
      let four : 4 - old.begun ≡ suc (3 - old.begun) = omega (arith, some) in
      let next : old.begun + 1 ≡ old.begun + 1 = refl in
      let none = part-none source old.part.indirect (relative_from old.ranges old.part.second old.rows.index) (entry_of old.rows.table) old.rows.index (old.rows.table.count - old.rows.index) n in
      let first = part-begun ∙ begun-table b.table in
      ap (λ (changes : List ImageChange). changes ++ parts_left source old.ranges old.begun) none
      ∙ parts-next source old.ranges old.begun (old.begun + 1) (3 - old.begun) four next
      ∙ ap (λ (changes : List ImageChange). changes ++ parts_left source old.ranges (old.begun + 1)) first
      ∙ ap (λ (i : ℕ). part_changes source new.part.indirect (relative_from old.ranges new.part.second i) (entry_places_left new.rows.table i) ++ parts_left source old.ranges (old.begun + 1)) (sym b.index)
      ∙ ap (λ (begun : ℕ). part_changes source new.part.indirect (relative_from old.ranges new.part.second new.rows.index) (entry_places_left new.rows.table new.rows.index) ++ parts_left source old.ranges begun) (sym b.begun)
      ∙ ap (λ (ranges : EntryRanges). part_changes source new.part.indirect (relative_from ranges new.part.second new.rows.index) (entry_places_left new.rows.table new.rows.index) ++ parts_left source ranges new.begun) (sym b.ranges)

-- ENTRIES OF A PART. A cursor whose rows went on
abbrev pub moved : OrderedEntries → RelaRows → (noted : Bool × Bool) → EntryChunks → OrderedEntries
moved old rows noted chunks =
    record { ranges = old.ranges; rows = rows; part = old.part; begun = old.begun; indirect = noted; wanted = old.wanted; chunks = chunks }

pub moved-as : (old new : OrderedEntries) (rows : RelaRows) → new.rows ≡ rows → new.ranges ≡ old.ranges → new.begun ≡ old.begun → new.part ≡ old.part → new.wanted ≡ old.wanted
    → moved old rows new.indirect new.chunks ≡ new
moved-as old new rows a b c d e =
    let f : moved old rows new.indirect new.chunks ≡ moved new new.rows new.indirect new.chunks = cc in f

module _ (old : OrderedEntries) (rows : RelaRows) (noted : Bool × Bool) (chunks : EntryChunks) (table : rows.table ≡ old.rows.table) (few : rows.index ≤ old.rows.table.count) where
  pub left-over : (source : ImageSource) (n : ℕ) → rows.index ≡ old.rows.index + n
      → entry_changes_left source old
      ≡ part_changes source old.part.indirect (relative_from old.ranges old.part.second old.rows.index) (places_from (entry_of old.rows.table) old.rows.index n)
      ++ entry_changes_left source (moved old rows noted chunks)
  unfolding entry_changes_left
  left-over source n is =
      let relative = relative_from old.ranges old.part.second old.rows.index in
      let front = part_changes source old.part.indirect relative (places_from (entry_of old.rows.table) old.rows.index n) in
      let rest = part_changes source old.part.indirect (relative_from old.ranges old.part.second rows.index) (entry_places_left old.rows.table rows.index) in
      let parts = parts_left source old.ranges old.begun in
      ap (λ (changes : List ImageChange). changes ++ parts) (part-split source old.ranges old.part.indirect old.part.second old.rows.table old.rows.index n rows.index is few)
      ∙ append_assoc front rest parts
      ∙ ap (λ (t : TableRange). front ++ (part_changes source old.part.indirect (relative_from old.ranges old.part.second rows.index) (entry_places_left t rows.index) ++ parts)) (sym table)

  pub known-over : (file : List ℕ) → AreOrderedEntries file old → HoldsBytes file rows.window → HoldsChunks file old.ranges.first.at chunks
      → ((second : Bool) → is_noted noted second ≡ false → is_noted old.indirect second ≡ false)
      → ((i : ℕ) → old.rows.index ≤ i → i < rows.index → old.part.indirect ≡ false → is_noted noted old.part.second ≡ false → is_resolved file (entry_place old.rows i) ≡ false)
      → AreOrderedEntries file (moved old rows noted chunks)
  known-over file known held holds keeps over = record {
    held = held;
    before = λ first. ap (λ (t : TableRange). t.count) table ∙ known.before first;
    kind = known.kind;
    table = λ later direct. table ∙ known.table later direct;
    part = λ direct unnoted i below. elim (cases_lt i old.rows.index) [
      | inl before ↦ known.part direct (keeps old.part.second unnoted) i before
      | inr after ↦
          let later : 0 < old.begun = elim (cases_eq old.begun 0) [
            | inl first ↦ let none = known.before first in absurd (omega (arith, none, few, below))
            | inr more ↦ omega (arith, more)
          ] in
          subst (λ (t : TableRange). is_resolved file (t.at + RELA_SIZE * i) ≡ false) (known.table later direct) (over i after below direct unnoted)
    ];
    past = λ second later unnoted. known.past second later (keeps second unnoted);
    chunks = holds;
  }

-- WHAT A STEP TAKES. An entry that was read, before the others
module _ (source : ImageSource) (wanted : Option WindowReach) where
  pub keeps-by : (wanted : Option WindowReach) (change : ImageChange) → change ≡ Keeps → IsFarChange source.file wanted change
  keeps-by None change e = e
  keeps-by (Some reach) change e = subst (IsFarChange source.file (Some reach)) (sym e) (keeps-far source.file reach)

  pub takes-row : (row : RelaRow) (changes before after : List ImageChange) (result : Result EntryStep Fault) → before ≡ changes ++ after
      → IsRela source.file row.at row.entry → r_addend source.file row.at < 2 ^ 64 → TakesRow source row changes result → TakesOrderedEntry source wanted before after result
  takes-row row changes before after (Ok (step.Entry ordered)) is rela small takes =
      let at = takes.1 in
      let entry = takes.2 in (
        is ∙ ap (λ (some : List ImageChange). some ++ after) takes.0 ∙ ap (λ (a : ℕ). entry_change source a ∷ after) (sym at),
        subst (λ (a : ℕ). IsRela source.file a ordered.entry) (sym at) (subst (λ (e : Rela). IsRela source.file row.at e) (sym entry) rela),
        subst (λ (a : ℕ). r_addend source.file a < 2 ^ 64) (sym at) small,
      )
  takes-row row changes before after (Ok step.Nothing) is rela small takes = (changes, is, All-weaker (λ change. change ≡ Keeps) (IsFarChange source.file wanted) (keeps-by wanted) changes takes)
  takes-row row changes before after (Ok step.Past) is rela small takes = absurd takes
  takes-row row changes before after (Err (Refused refusal)) is rela small takes = λ other. (after, is ∙ ap (λ (some : List ImageChange). some ++ after) takes)
  takes-row row changes before after (Err (Source fault at)) is rela small takes = tt

  -- nothing is passed by
  pub takes-none : (before after : List ImageChange) → before ≡ after → PassesBy source.file wanted before after
  takes-none before after e = ([], e, All-nil (IsFarChange source.file wanted))

-- entries that cannot store into the window are passed by
pub takes-far : (source : ImageSource) (wanted : Option WindowReach) (old : OrderedEntries) (rows : RelaRows) (noted : Bool × Bool) (chunks : EntryChunks) → rows.table ≡ old.rows.table → rows.index ≤ old.rows.table.count
    → old.rows.index ≤ rows.index → ((i : ℕ) → old.rows.index ≤ i → i < rows.index → IsFarRow source.file (entry_place old.rows i) wanted) → old.rows.index < rows.index
    → PassesBy source.file wanted (entry_changes_left source old) (entry_changes_left source (moved old rows noted chunks))
takes-far source None old rows noted chunks table few rises far some = absurd (far old.rows.index (omega arith) (omega (arith, some)))
takes-far source (Some reach) old rows noted chunks table few rises far some =
    let n = rows.index - old.rows.index in
    let relative = relative_from old.ranges old.part.second old.rows.index in
    let is : rows.index ≡ old.rows.index + n = omega (arith, rises) in (
      part_changes source old.part.indirect relative (places_from (entry_of old.rows.table) old.rows.index n),
      left-over old rows noted chunks table few source n is,
      part-far source (entry_of old.rows.table) reach old.part.indirect relative old.rows.index n (λ k low high. far k low (omega (arith, high, is))),
    )

pub far-unresolved : (file : List ℕ) (rela : ℕ) (wanted : Option WindowReach) → IsFarRow file rela wanted → is_resolved file rela ≡ false
far-unresolved file rela None far = absurd far
far-unresolved file rela (Some reach) far = unresolved file rela reach far

-- how the rows went on
pub passes-one : (old new : RelaRows) (wanted : Option WindowReach) (row : RelaRow) → PassesRows old new wanted (Some row) → (new.index ≡ old.index + 1) × (row.index ≡ old.index)
passes-one old new None row passes = passes
passes-one old new (Some reach) row passes = passes

pub passes-some : (old new : RelaRows) (wanted : Option WindowReach) → PassesRows old new wanted None → old.index < new.index
passes-some old new None passes = absurd passes
passes-some old new (Some reach) passes = passes

-- to the next entry
module _ (old : OrderedEntries) (rows : RelaRows) (noted : Bool × Bool) (chunks : EntryChunks) (row : RelaRow) (table : rows.table ≡ old.rows.table) (some : old.rows.index < old.rows.table.count)
    (one : (rows.index ≡ old.rows.index + 1) × (row.index ≡ old.rows.index)) where
  pub known-row : (file : List ℕ) → AreOrderedEntries file old → HoldsBytes file rows.window → HoldsChunks file old.ranges.first.at chunks → IsRelaRow file old.rows row
      → ((second : Bool) → is_noted noted second ≡ false → is_noted old.indirect second ≡ false)
      → (old.part.indirect ≡ false → is_noted noted old.part.second ≡ false → is_resolved file row.at ≡ false)
      → AreOrderedEntries file (moved old rows noted chunks)
  known-row file known held holds is keeps clear =
      let next = one.0 in
      known-over old rows noted chunks table (omega (arith, some, next)) file known held holds keeps (λ i low high direct unnoted.
      let same : old.rows.index ≡ i = omega (arith, low, high, next) in
      subst (λ (k : ℕ). is_resolved file (entry_place old.rows k) ≡ false) same (subst (λ (a : ℕ). is_resolved file a ≡ false) is.place (clear direct unnoted)))

  pub takes-next : (source : ImageSource) (wanted : Option WindowReach) (result : Result EntryStep Fault) → IsRelaRow source.file old.rows row
      → TakesRow source row (part_changes source old.part.indirect (relative_from old.ranges old.part.second row.index) (row.at ∷ [])) result
      → TakesOrderedEntry source wanted (entry_changes_left source old) (entry_changes_left source (moved old rows noted chunks)) result
  unfolding places_from
  takes-next source wanted result is takes =
      let next = one.0 in
      let rest = entry_changes_left source (moved old rows noted chunks) in
      let place : places_from (entry_of old.rows.table) old.rows.index 1 ≡ row.at ∷ [] = ap (λ (a : ℕ). a ∷ []) (sym is.place) in
      let before = left-over old rows noted chunks table (omega (arith, some, next)) source 1 next
      ∙ ap (λ (places : List ℕ). part_changes source old.part.indirect (relative_from old.ranges old.part.second old.rows.index) places ++ rest) place
      ∙ ap (λ (i : ℕ). part_changes source old.part.indirect (relative_from old.ranges old.part.second i) (row.at ∷ []) ++ rest) (sym one.1) in
      takes-row source wanted row (part_changes source old.part.indirect (relative_from old.ranges old.part.second row.index) (row.at ∷ [])) (entry_changes_left source old) rest result before is.entry is.addend takes

-- a part with entries was begun
some-begun : (file : List ℕ) (entries : OrderedEntries) → AreOrderedEntries file entries → 0 < entries.rows.table.count → 0 < entries.begun
some-begun file entries known some = elim (cases_eq entries.begun 0) [
  | inl first ↦ let none = known.before first in absurd (omega (arith, none, some))
  | inr more ↦ omega (arith, more)
]

-- the place of an entry that was read, in its table
pub row-place : (old : OrderedEntries) (row : RelaRow) (file : List ℕ) → AreOrderedEntries file old → row.index ≡ old.rows.index
    → 0 < old.rows.table.count → IsRelaRow file old.rows row → old.part.indirect ≡ false → row.at ≡ (range_table old.ranges old.part.second).at + 24 * row.index
row-place old row file known same some is direct =
    is.place
    ∙ (ap (λ (t : TableRange). t.at + 24 * old.rows.index) (known.table (some-begun file old known some) direct)
    ∙ ap (λ (i : ℕ). (range_table old.ranges old.part.second).at + 24 * i) (sym same))

-- an entry of a table that cannot store into the window is one that is ahead
pub far-ahead : (file : List ℕ) (entries : OrderedEntries) (reach : WindowReach) (i : ℕ) → AreOrderedEntries file entries → entries.part.indirect ≡ false → entries.part.second ≡ false → entries.wanted ≡ Some reach
    → i < entries.rows.table.count → IsFarEntry file (entries.ranges.first.at + 24 * i) reach → IsFarRow file (entry_place entries.rows i) entries.wanted
far-ahead file entries reach i known direct first is below far =
    subst (λ (wanted : Option WindowReach). IsFarRow file (entry_place entries.rows i) wanted) (sym is)
    (subst (λ (t : TableRange). IsFarEntry file (t.at + 24 * i) reach) (sym (known.table (some-begun file entries known (omega (arith, below))) direct ∙ ap (range_table entries.ranges) first)) far)
