-- The lines of rows, and of a link.
use Rattle.std.proofs.Common.{◌≡◌, ℕ, zero, suc, ◌+◌, ◌<◌, ◌≤◌, Bool, true, false, ◌||◌, List, [], ◌∷◌, ◌++◌, length, drop, get_or, drop-cons, Option, None, Some, Result, Ok, Err, refl, sym, ap, subst, ◌∙◌, arith, append_assoc, add-one}
use Rattle.std.specs.Prelude.{if◌then◌else◌}
use Rattle.std.specs.List.{concat, list_any, slice_get}
use Rattle.elf_model.specs.LinkArchives.{link_cause_word}
use Rattle.elf_model.specs.LinkKeys.{LinkKeys}
use Rattle.elf_model.specs.LinkLines.{FileNames, file_front, is_missing, is_unresolved, link_fails, name_of_row, reason_front}
use Rattle.elf_model.specs.Lines.{fault_line, named_line}
use Rattle.elf_model.specs.Names.{DisplayedName}
use Rattle.elf_model.specs.Names.DisplayedName.{Whole}
use Rattle.elf_model.specs.declared.formats.Format.{Format}
use Rattle.elf_model.specs.declared.link_states.LinkRow.{LinkRow}
use Rattle.elf_model.specs.declared.link_states.LinkRowKind.TheVariants as kind
use Rattle.elf_model.specs.declared.link_states.RowReason.{RowReason}
use Rattle.elf_source.specs.Output.{IsOutFault, OutPuts, OutState, SinkTakes, SinkTakesPrefix}
use Rattle.elf_source.specs.declared.faults.OutFault.{OutFault}
use Rattle.elf_source.proofs.PutsLaws.{SinkTakes-nothing, SinkTakes-then, SinkTakesPrefix-then, SinkTakesPrefix-more}
use Rattle.elf_resolve.specs.LinkTexts.{WritesText}
use Rattle.elf_resolve.specs.LinkerNames.{output_of}
use Rattle.elf_resolve.specs.MemberNames.{RowName, RowsAscend, name_of_row_in}
use Rattle.elf_resolve.specs.Resolved.{linking_of}
use Rattle.elf_resolve.specs.ShownLinks.{ends_at_row, is_shown_row, lines_of_reason, lines_of_row, marks_shown, reason_shown, row_if_shown, row_shown, shown_end, shown_keys, shown_link, shown_rows, shown_status, status_if}
use Rattle.elf_resolve.specs.StaticLinks.{AreRowsNamed, IsNameOfRow}
use Rattle.elf_resolve.specs.declared.resolver.LinkEnd.{LinkEnd}
use Rattle.elf_resolve.specs.declared.resolver.Resolver.{Resolver}
use Rattle.elf_resolve.proofs.KeyShownLaws.{writes_as, writes_first, writes_then}

append_nil : {A : Type 0} (xs : List A) → xs ++ [] ≡ xs
append_nil [] = refl
append_nil (x ∷ xs) = ap (λ ys. x ∷ ys) (append_nil xs)

pub puts_text : {X : Type 0} (a b : OutState) (result : Result X OutFault) (text : List ℕ) → OutPuts a b result text → WritesText a b result text
puts_text a b (Ok x) text puts = puts.0
puts_text a b (Err fault) text puts = puts

-- THE LINES OF A ROW
module _ (problems : Bool) (format : Format) (names : FileNames) (keys : LinkKeys) (index : ℕ) (row : LinkRow) where
  pub row_reasoned : {X : Type 0} (a b c : OutState) (result : Result X OutFault) (reason : RowReason) (name : List ℕ) → reason_shown problems row ≡ Some reason → name ≡ get_or keys.names reason.key []
      → SinkTakes a b (named_line (file_front format index row) (name_of_row names row.input row.member)) → OutPuts b c result (named_line (reason_front format index reason.row) (Whole name))
      → WritesText a c result (concat (lines_of_row problems format names keys index row))
  row_reasoned a b c result reason name is same takes puts =
      let first = named_line (file_front format index row) (name_of_row names row.input row.member) in
      writes_as a c result (first ++ (named_line (reason_front format index reason.row) (Whole name) ++ [])) (concat (lines_of_row problems format names keys index row))
      (ap (λ (n : List ℕ). first ++ (named_line (reason_front format index reason.row) (Whole n) ++ [])) same
      ∙ ap (λ (o : Option RowReason). first ++ concat (lines_of_reason format keys index o)) (sym is))
      (writes_then c first (named_line (reason_front format index reason.row) (Whole name) ++ []) result takes
      (writes_as b c result _ _ (sym (append_nil (named_line (reason_front format index reason.row) (Whole name)))) (puts_text b c result _ puts)))

  pub row_alone : (a b : OutState) → reason_shown problems row ≡ None → SinkTakes a b (named_line (file_front format index row) (name_of_row names row.input row.member))
      → SinkTakes a b (concat (lines_of_row problems format names keys index row))
  row_alone a b is takes =
      let first = named_line (file_front format index row) (name_of_row names row.input row.member) in
      subst (λ (text : List ℕ). SinkTakes a b text) (sym (append_nil first) ∙ ap (λ (o : Option RowReason). first ++ concat (lines_of_reason format keys index o)) (sym is)) takes

-- a row as it is shown has the same file
pub same_file : (text : ℕ → Option (List ℕ)) (names : FileNames) (held : List RowName) (end : Option LinkEnd) (index : ℕ) (row shown : LinkRow) → shown ≡ row_shown end index row
    → IsNameOfRow text names held index row.input row.member → IsNameOfRow text names held index shown.input shown.member
same_file text names held end index row shown same named =
    subst (λ (r : LinkRow). IsNameOfRow text names held index r.input r.member) (sym same) (by (ends_at_row end index))
  where
    by : (is : Bool) → IsNameOfRow text names held index (if is then record row { kind = kind.Refused; reason = None } else row).input (if is then record row { kind = kind.Refused; reason = None } else row).member
    by true = named
    by false = named

-- A ROW THAT IS CHOSEN
pub row_chosen : (problems : Bool) (format : Format) (names : FileNames) (link : Resolver) (index : ℕ) (shown wanted : LinkRow) → shown ≡ wanted → is_shown_row problems (marks_shown link link.end) index shown.kind ≡ true
    → concat (lines_of_row problems format names link.link.keys.keys index shown) ≡ concat (row_if_shown problems format names link index wanted)
row_chosen problems format names link index shown wanted same is =
    sym (ap (λ (b : Bool). concat (if b then lines_of_row problems format names link.link.keys.keys index shown else [])) is)
    ∙ ap (λ (r : LinkRow). concat (row_if_shown problems format names link index r)) same

pub row_hidden : (problems : Bool) (format : Format) (names : FileNames) (link : Resolver) (index : ℕ) (shown wanted : LinkRow) (a : OutState) → shown ≡ wanted → is_shown_row problems (marks_shown link link.end) index shown.kind ≡ false
    → SinkTakes a a (concat (row_if_shown problems format names link index wanted))
row_hidden problems format names link index shown wanted a same isnt =
    subst (λ (text : List ℕ). SinkTakes a a text)
    (sym (ap (λ (b : Bool). concat (if b then lines_of_row problems format names link.link.keys.keys index shown else [])) isnt) ∙ ap (λ (r : LinkRow). concat (row_if_shown problems format names link index r)) same)
    (SinkTakes-nothing a)

-- THE ROWS IN THEIR ORDER
concat_append : (xs ys : List (List ℕ)) → concat (xs ++ ys) ≡ concat xs ++ concat ys
concat_append [] ys = refl
concat_append (x ∷ xs) ys = ap (λ (t : List ℕ). x ++ t) (concat_append xs ys) ∙ sym (append_assoc x (concat xs) (concat ys))

drop_past : {A : Type 0} (n : ℕ) (xs : List A) → length xs ≤ n → drop n xs ≡ []
drop_past zero [] past = refl
drop_past (suc n) [] past = refl
drop_past zero (x ∷ xs) past = absurd (omega (arith, past))
drop_past (suc n) (x ∷ xs) past = drop_past n xs (omega (arith, past))

or_assoc : (a b c : Bool) → ((a || b) || c) ≡ (a || (b || c))
or_assoc true b c = refl
or_assoc false b c = refl

or_false : (b : Bool) → (b || false) ≡ b
or_false true = refl
or_false false = refl

pub get_at : (rows : List LinkRow) (at : ℕ) (d : LinkRow) → at < length rows → slice_get rows at ≡ Some (get_or rows at d)
get_at [] at d there = absurd (omega (arith, there))
get_at (row ∷ rows) zero d there = refl
get_at (row ∷ rows) (suc at) d there = get_at rows at d (omega (arith, there))

-- one is missing, among those up to one and those that are left
abbrev pub lacks_row : LinkRow → Bool
lacks_row row = is_missing row.kind

pub record AreMissing (rows : List LinkRow) (at : ℕ) (missing : Bool) : Type 0 where
  pub so_far : list_any lacks_row rows ≡ (missing || list_any lacks_row (drop at rows))

pub missing_begun : (rows : List LinkRow) → AreMissing rows 0 false
missing_begun rows = record { so_far = refl }

pub missing_more : (rows : List LinkRow) (at : ℕ) (d : LinkRow) (missing more : Bool) → at < length rows → AreMissing rows at missing → more ≡ is_missing (get_or rows at d).kind → AreMissing rows (at + 1) (missing || more)
missing_more rows at d missing more there before is = record {
  so_far = before.so_far
      ∙ ap (λ (l : List LinkRow). missing || list_any lacks_row l) (drop-cons rows at d there)
      ∙ ap (λ (n : ℕ). missing || (is_missing (get_or rows at d).kind || list_any lacks_row (drop n rows))) (sym (add-one at))
      ∙ ap (λ (b : Bool). missing || (b || list_any lacks_row (drop (at + 1) rows))) (sym is)
      ∙ sym (or_assoc missing more (list_any lacks_row (drop (at + 1) rows)));
}

pub missing_ended : (rows : List LinkRow) (at : ℕ) (missing : Bool) → length rows ≤ at → AreMissing rows at missing → missing ≡ list_any lacks_row rows
missing_ended rows at missing all before = sym (before.so_far ∙ ap (λ (l : List LinkRow). missing || list_any lacks_row l) (drop_past at rows all) ∙ or_false missing)

-- the lines of those up to one are written
pub record AreRowsShown (problems : Bool) (format : Format) (names : FileNames) (link : Resolver) (rows : List LinkRow) (at : ℕ) (a b : OutState) : Type 0 where
  pub done : List ℕ
  pub split : concat (shown_rows problems format names link 0 rows) ≡ done ++ concat (shown_rows problems format names link at (drop at rows))
  pub takes : SinkTakes a b done

module _ (problems : Bool) (format : Format) (names : FileNames) (link : Resolver) (rows : List LinkRow) where
  abbrev lines_at : (at : ℕ) (d : LinkRow) → List ℕ
  lines_at at d = concat (row_if_shown problems format names link at (row_shown link.end at (get_or rows at d)))

  pub rows_begun : (a : OutState) → AreRowsShown problems format names link rows 0 a a
  rows_begun a = record { done = []; split = refl; takes = SinkTakes-nothing a }

  next_split : (at : ℕ) (d : LinkRow) → at < length rows → concat (shown_rows problems format names link at (drop at rows)) ≡ lines_at at d ++ concat (shown_rows problems format names link (at + 1) (drop (at + 1) rows))
  next_split at d there =
      ap (λ (l : List LinkRow). concat (shown_rows problems format names link at l)) (drop-cons rows at d there)
      ∙ concat_append (row_if_shown problems format names link at (row_shown link.end at (get_or rows at d))) (shown_rows problems format names link (at + 1) (drop (suc at) rows))
      ∙ ap (λ (n : ℕ). lines_at at d ++ concat (shown_rows problems format names link (at + 1) (drop n rows))) (sym (add-one at))

  pub rows_more : (at : ℕ) (d : LinkRow) (a b c : OutState) → at < length rows → AreRowsShown problems format names link rows at a b → SinkTakes b c (lines_at at d) → AreRowsShown problems format names link rows (at + 1) a c
  rows_more at d a b c there before takes =
      let rest = concat (shown_rows problems format names link (at + 1) (drop (at + 1) rows)) in
      record {
        done = before.done ++ lines_at at d;
        split = before.split ∙ ap (λ (t : List ℕ). before.done ++ t) (next_split at d there) ∙ sym (append_assoc before.done (lines_at at d) rest);
        takes = SinkTakes-then before.done (lines_at at d) before.takes takes;
      }

  pub rows_fail : (at : ℕ) (d : LinkRow) (a b c : OutState) (fault : OutFault) → at < length rows → AreRowsShown problems format names link rows at a b → SinkTakesPrefix b c (lines_at at d) × IsOutFault c fault
      → SinkTakesPrefix a c (concat (shown_rows problems format names link 0 rows)) × IsOutFault c fault
  rows_fail at d a b c fault there before puts =
      let rest = concat (shown_rows problems format names link (at + 1) (drop (at + 1) rows)) in (
        subst (λ (text : List ℕ). SinkTakesPrefix a c text) (sym (before.split ∙ ap (λ (t : List ℕ). before.done ++ t) (next_split at d there)))
            (SinkTakesPrefix-then before.done (lines_at at d ++ rest) before.takes (SinkTakesPrefix-more (lines_at at d) rest puts.0)),
        puts.1,
      )

  pub rows_ended : (at : ℕ) (a b : OutState) → length rows ≤ at → AreRowsShown problems format names link rows at a b → SinkTakes a b (concat (shown_rows problems format names link 0 rows))
  rows_ended at a b all before =
      subst (λ (text : List ℕ). SinkTakes a b text)
      (sym (before.split ∙ ap (λ (l : List LinkRow). before.done ++ concat (shown_rows problems format names link at l)) (drop_past at rows all) ∙ append_nil before.done)) before.takes

-- one row more, by the rows as the code has them
module _ (text : ℕ → Option (List ℕ)) (problems : Bool) (format : Format) (names : FileNames) (link : Resolver) (held : List LinkRow) (same : held ≡ link.link.rows.rows) (named : AreRowsNamed text names link) where
  abbrev WritesRow : (at : ℕ) (row : LinkRow) → (List ℕ → Type 0) → Type 0
  WritesRow at row writes = (names : FileNames) → get_or link.kinds.items at None ≡ None → RowsAscend link.room.names → IsNameOfRow text names link.room.names at row.input row.member
      → writes (concat (row_if_shown problems format names link at (row_shown link.end at row)))

  by_row : (at : ℕ) (d : LinkRow) (writes : List ℕ → Type 0) → at < length link.link.rows.rows → WritesRow at (get_or held at d) writes
      → writes (concat (row_if_shown problems format names link at (row_shown link.end at (get_or link.link.rows.rows at d))))
  by_row at d writes there wrote =
      let here = subst (λ (rows : List LinkRow). WritesRow at (get_or rows at d) writes) same wrote in
      here names (named.kinds at) named.ascend (named.named at (get_or link.link.rows.rows at d) (get_at link.link.rows.rows at d there))

  pub row_more : (at : ℕ) (d : LinkRow) (a b c : OutState) → at < length link.link.rows.rows → AreRowsShown problems format names link link.link.rows.rows at a b → WritesRow at (get_or held at d) (λ line. SinkTakes b c line)
      → AreRowsShown problems format names link link.link.rows.rows (at + 1) a c
  row_more at d a b c there before wrote = rows_more problems format names link link.link.rows.rows at d a b c there before (by_row at d (λ line. SinkTakes b c line) there wrote)

  pub row_fails : (at : ℕ) (d : LinkRow) (a b c : OutState) (fault : OutFault) → at < length link.link.rows.rows → AreRowsShown problems format names link link.link.rows.rows at a b
      → WritesRow at (get_or held at d) (λ line. SinkTakesPrefix b c line × IsOutFault c fault) → SinkTakesPrefix a c (concat (shown_rows problems format names link 0 link.link.rows.rows)) × IsOutFault c fault
  row_fails at d a b c fault there before wrote =
      rows_fail problems format names link link.link.rows.rows at d a b c fault there before (by_row at d (λ line. SinkTakesPrefix b c line × IsOutFault c fault) there wrote)

pub missing_at : (rows held : List LinkRow) (at : ℕ) (d : LinkRow) (missing more : Bool) → held ≡ rows → at < length rows → AreMissing rows at missing → more ≡ is_missing (get_or held at d).kind → AreMissing rows (at + 1) (missing || more)
missing_at rows held at d missing more same there before is = missing_more rows at d missing more there before (is ∙ ap (λ (l : List LinkRow). is_missing (get_or l at d).kind) same)

-- A LINK: its rows, and its keys or its refusal
module _ (problems : Bool) (format : Format) (names : FileNames) (link : Resolver) where
  abbrev rows_text : List ℕ
  rows_text = concat (shown_rows problems format names link 0 link.link.rows.rows)

  whole_text : (end : Option LinkEnd) → link.end ≡ end → rows_text ++ concat (shown_end problems format names link end) ≡ concat (shown_link problems format names link)
  whole_text end is =
      ap (λ (e : Option LinkEnd). rows_text ++ concat (shown_end problems format names link e)) (sym is)
      ∙ sym (concat_append (shown_rows problems format names link 0 link.link.rows.rows) (shown_end problems format names link link.end))

  pub rows_first : (a b : OutState) (fault : OutFault) → SinkTakesPrefix a b rows_text × IsOutFault b fault → SinkTakesPrefix a b (concat (shown_link problems format names link)) × IsOutFault b fault
  rows_first a b fault puts =
      subst (λ (text : List ℕ). SinkTakesPrefix a b text × IsOutFault b fault) (whole_text link.end refl) (writes_first rows_text (concat (shown_end problems format names link link.end)) fault puts)

  pub refused_last : {X : Type 0} (a b c : OutState) (result : Result X OutFault) (end : LinkEnd) → link.end ≡ Some end → SinkTakes a b rows_text
      → OutPuts b c result (fault_line format end.refusal.at (link_cause_word end.refusal.cause)) → WritesText a c result (concat (shown_link problems format names link))
  refused_last a b c result end is first puts =
      let line = fault_line format end.refusal.at (link_cause_word end.refusal.cause) in
      writes_as a c result (rows_text ++ (line ++ [])) (concat (shown_link problems format names link)) (whole_text (Some end) is)
      (writes_then c rows_text (line ++ []) result first (writes_as b c result line (line ++ []) (sym (append_nil line)) (puts_text b c result line puts)))

  pub keys_last : {X : Type 0} (a b c : OutState) (result : Result X OutFault) → link.end ≡ None → SinkTakes a b rows_text
      → WritesText b c result (concat (shown_keys problems format (output_of link.output) (linking_of link) link.link.keys.keys.order)) → WritesText a c result (concat (shown_link problems format names link))
  keys_last a b c result is first writes =
      writes_as a c result (rows_text ++ concat (shown_end problems format names link None)) (concat (shown_link problems format names link)) (whole_text None is)
      (writes_then c rows_text (concat (shown_end problems format names link None)) result first writes)

pub status_is : (link : Resolver) (missing fails : Bool) → missing ≡ list_any lacks_row link.link.rows.rows → fails ≡ list_any (is_unresolved (output_of link.output) (linking_of link)) link.link.keys.keys.order
    → status_if (missing || fails) ≡ shown_status link None
unfolding link_fails
status_is link missing fails missing_is fails_is =
    ap (λ (b : Bool). status_if (b || fails)) missing_is ∙ ap (λ (b : Bool). status_if (list_any lacks_row link.link.rows.rows || b)) fails_is

-- THE NAME that is held for the row of a member
pub member_named : (text : ℕ → Option (List ℕ)) (names : FileNames) (held : List RowName) (index input number : ℕ) (member : Option ℕ) (shown : DisplayedName) → member ≡ Some number → IsNameOfRow text names held index input member
    → shown ≡ name_of_row_in held index → shown ≡ name_of_row names input member
member_named text names held index input number member shown is named same =
    same ∙ sym (subst (λ (m : Option ℕ). IsNameOfRow text names held index input m) is named) ∙ ap (name_of_row names input) (sym is)

pub puts_as : {X : Type 0} (a b : OutState) (result : Result X OutFault) (xs ys : List ℕ) → xs ≡ ys → OutPuts a b result xs → OutPuts a b result ys
puts_as a b result xs ys same puts = subst (λ (text : List ℕ). OutPuts a b result text) same puts
