-- The position of a cursor's window, and the rows that it holds.
use Rattle.std.proofs.Common.{◌≡◌, ℕ, zero, suc, ◌+◌, ◌-◌, ◌*◌, ◌/◌, ◌<◌, ◌≤◌, min, List, length, take, drop, Option, None, Some, inl, inr, ◌⊎◌, ap, sym, ◌∙◌, refl, arith, length-drop, length-take-le}
use Rattle.std.proofs.Math.Nat.{mul-le-mul_right}
use Rattle.std.proofs.lemmas.Bool.{cases_lt}
use Rattle.std.proofs.lemmas.Grind.{common_steps}
use Rattle.elf_model.specs.Bytes.{slice}
use Rattle.elf_source.specs.Prelude.{ReadsOnward, SourceState}
use Rattle.elf_source.proofs.OnwardLaws.{onward_more, onward_none, onward_then}
use Rattle.elf_table.specs.Prelude.{CursorState, GivesRow, HoldsBytes, HoldsCount, IsAt, IsAtRow, StillHolds, TableRange, WindowState, bytes_left, frontier, page_of, range_end, row_at, size_of}
use Rattle.elf_table.specs.declared.fault.Fault.{Fault}
use Rattle.elf_table.proofs.Paging.{Agrees-skip, held-front}

-- a product in two parts
mul-split : (d r u entry : ℕ) → d + r ≡ u → d * entry + r * entry ≡ u * entry
mul-split d r u entry e = omega (arith, ap (λ (x : ℕ). x * entry) e)

-- the row that was shown is skipped
pub Stands-skip : (table : TableRange) (index shown : ℕ) (old new : WindowState) → new.at ≡ old.at + shown → new.held ≡ drop shown old.held
    → IsAtRow table index shown old → IsAtRow table index 0 new
Stands-skip table index shown old new at held s = record {
  its_place = let p = s.its_place in omega arith;
  rows = s.rows;
  whole = let n = s.whole in let d = length-drop shown old.held in let h = ap length held in omega arith;
}

-- rows with fewer bytes than one are none
no_rows : (rows entry : ℕ) → rows * entry < entry → rows * entry ≡ 0
no_rows zero entry few = omega arith
no_rows (suc rows) entry few = absurd (omega arith)

-- a window that holds no whole row is where it reads
pub fault_at_row : (table : TableRange) (index : ℕ) (w : WindowState) (fault : Fault) → IsAtRow table index 0 w → length w.held < table.entry → IsAt (frontier w) fault
    → IsAt (row_at table index) fault
fault_at_row table index w fault s few is =
    let p = s.its_place in
    let n = s.whole in
    let none = no_rows s.rows table.entry (omega arith) in
    let place : frontier w ≡ row_at table index = omega arith in
    rw place at is

-- a row, and those after it, of some rows
one_row : (rows entry n : ℕ) → 0 < rows → n ≡ rows * entry → (more : ℕ) × (n ≡ entry + more * entry)
one_row rows entry n some is = let split = mul-split 1 (rows - 1) rows entry (omega arith) in (rows - 1, omega arith)

-- the fewer of two numbers of rows
fewer_rows : (p q entry n : ℕ) → 0 < p → 0 < q → n ≡ min (p * entry) (q * entry) → (more : ℕ) × (n ≡ entry + more * entry)
fewer_rows p q entry n a b is = go (cases_lt p q)
  where
    go : (p < q) ⊎ (q ≤ p) → (more : ℕ) × (n ≡ entry + more * entry)
    go (inl h) = let less = mul-le-mul_right {m = p} {n = q} entry (omega arith) in one_row p entry n a (omega arith)
    go (inr h) = let less = mul-le-mul_right {m = q} {n = p} entry h in one_row q entry n b (omega arith)

-- a page has rows
some_rows : (entry : ℕ) → 0 < entry → entry ≤ 4096 → 0 < 4096 / entry
some_rows entry some small = grind (arith, common_steps)

-- the bytes that are left are those of the rows that are left
left_rows : (table : TableRange) (index : ℕ) (w : WindowState) → index ≤ table.count → IsAtRow table index 0 w → range_end w ≡ table.at + size_of table
    → bytes_left w ≡ (table.count - index) * table.entry
left_rows table index w below s ends =
    let p = s.its_place in
    let split = mul-split index (table.count - index) table.count table.entry (omega arith) in
    omega arith

-- a window that was to hold a row holds whole rows
pub Stands-next : (table : TableRange) (index entry : ℕ) (old new : WindowState) → entry ≡ table.entry → 0 < entry → entry ≤ 4096 → index < table.count → old.page ≡ page_of table.entry
    → range_end old ≡ table.at + size_of table → IsAtRow table index 0 old → HoldsCount old new entry → IsAtRow table (index + 1) entry new
Stands-next table index entry old new e some small below page ends s h =
    let more = go (cases_lt (length old.held) entry) in
    record {
      its_place = let p = s.its_place in let stays = h.stays in let one = mul-split index 1 (index + 1) table.entry refl in omega arith;
      rows = more.0;
      whole = more.1 ∙ ap (λ (x : ℕ). x + more.0 * table.entry) (sym e);
    }
  where
    go : (length old.held < entry) ⊎ (entry ≤ length old.held) → (more : ℕ) × (length new.held ≡ table.entry + more * table.entry)
    go (inl few) =
        fewer_rows (4096 / table.entry) (table.count - index) table.entry (length new.held) (some_rows table.entry (omega arith) (omega arith)) (omega arith)
        (h.whole few ∙ rw (page, left_rows table index old (omega arith) s ends) refl)
    go (inr enough) =
        one_row s.rows table.entry (length new.held) (rows_held s.rows (let n = s.whole in omega arith))
        (ap (λ (w : WindowState). length w.held) (h.unchanged enough) ∙ let n = s.whole in omega arith)
      where
        rows_held : (rows : ℕ) → table.entry ≤ rows * table.entry → 0 < rows
        rows_held zero n = absurd (omega arith)
        rows_held (suc rows) n = omega arith

-- what a cursor's fields mean
abbrev pub reading : TableRange → ℕ → ℕ → Option Fault → WindowState → CursorState
reading table index shown failed w = record {
  table = table;
  index = index;
  left = table.count - index;
  unread = w.unread;
  held = drop shown w.held;
  row = take shown w.held;
  failed = failed;
}

-- a window that skipped a row and holds the next yields it
pub Gives-next : (file : Option (List ℕ)) (table : TableRange) (index shown entry : ℕ) (failed : Option Fault) (old passed new : WindowState) → entry ≡ table.entry → failed ≡ None
    → index < table.count → passed.at ≡ old.at + shown → passed.held ≡ drop shown old.held → IsAtRow table index 0 passed → HoldsCount passed new entry
    → StillHolds file passed new → GivesRow file (reading table index shown failed old) (reading table (index + 1) entry failed new)
Gives-next file table index shown entry failed old passed new e nf below at held s h agrees =
    let place : new.at ≡ row_at table index = h.stays ∙ let p = s.its_place in omega arith in
    let is_at : passed.at ≡ row_at table index = let p = s.its_place in omega arith in
    let next : row_at table (index + 1) ≡ new.at + entry = let one = mul-split index 1 (index + 1) table.entry refl in omega arith in
    let ag : (bytes : List ℕ) → file ≡ Some bytes → drop shown old.held ≡ slice bytes (row_at table index) (length (drop shown old.held)) → HoldsBytes bytes new =
    λ bytes same a. agrees bytes same (held ∙ a ∙ ap (λ (x : ℕ). slice bytes x (length (drop shown old.held))) (sym is_at) ∙ ap (λ (x : List ℕ). slice bytes passed.at (length x)) (sym held)) in
    record {
      same_table = refl;
      not_failed = nf;
      still_not_failed = nf;
      next_index = refl;
      one_less = omega arith;
      whole = length-take-le entry new.held h.long ∙ e;
      agrees = λ bytes same a.
          Agrees-skip bytes new (record { at = row_at table (index + 1); held = drop entry new.held; unread = 0; page = 0 }) entry next refl (ag bytes same a);
      exact = λ bytes same a.
          held-front bytes new entry h.long (ag bytes same a) ∙ ap (λ (x : ℕ). slice bytes x entry) place ∙ ap (slice bytes (row_at table index)) e;
    }

-- what a window requests once bytes were skipped, by the end of its range
pub onward_asked : (one_read : SourceState → ℕ → ℕ → SourceState → Type 0) (a b : SourceState) (ends unread : ℕ) (passed new : WindowState) → ReadsOnward one_read a b (frontier passed) (frontier new)
    → range_end passed ≡ ends → range_end new ≡ ends → passed.unread ≤ unread → ReadsOnward one_read a b (ends - unread) (ends - new.unread)
onward_asked one_read a b ends unread passed new onward from to less =
    onward_then one_read a a b _ (ends - unread) _ _ (omega arith) (onward_none one_read a a _ _ refl (omega arith)) (onward_more one_read a b _ _ _ (omega arith) onward)
