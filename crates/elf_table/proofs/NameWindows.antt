-- The position of a name's window between its pieces.
use Rattle.std.proofs.Common.{◌≡◌, ℕ, ◌+◌, ◌≤◌, ◌<◌, List, [], length, drop, Some, ap, sym, ◌∙◌, refl, arith}
use Rattle.std.proofs.lemmas.List.{drop_all}
use Rattle.elf_model.specs.Bytes.{slice}
use Rattle.elf_source.specs.Source.{CountedState, ReadsUpTo}
use Rattle.elf_source.proofs.ReadsLaws.{ReadsUpTo-then, ReadsUpTo-to}
use Rattle.elf_table.specs.Windows.{WindowState, StillHolds, HoldsCount, MovesOn, range_end}

-- a window over `want` bytes at an offset, between two pieces: some bytes are done, and it holds
-- none
pub record Between (start want done : ℕ) (w : WindowState) : Type 0 where
  pub its_place : w.at ≡ start + done
  pub its_end : range_end w ≡ start + want
  pub some_page : 0 < w.page
  pub none_held : w.held ≡ []

-- the piece that it then holds is the file's
pub piece-of_file : (file : List ℕ) (start want done : ℕ) (old new : WindowState) (piece : List ℕ) → Between start want done old → HoldsCount old new 1
    → StillHolds (Some file) old new → piece ≡ new.held → piece ≡ slice file (start + done) (length piece)
piece-of_file file start want done old new piece s h agrees e =
    let place : new.at ≡ start + done = h.stays ∙ s.its_place in
    let empty : old.held ≡ slice file old.at (length old.held) = rw s.none_held refl in
    e ∙ agrees file refl empty ∙ ap (λ (x : ℕ). slice file x (length new.held)) place ∙ ap (λ (x : List ℕ). slice file (start + done) (length x)) (sym e)

-- the piece has a byte, and none after the end
pub piece-some : (start want done : ℕ) (old new : WindowState) (piece : List ℕ) (before after : ℕ) → Between start want done old → HoldsCount old new 1
    → MovesOn old new before after → piece ≡ new.held → (0 < length piece) × (done + length piece ≤ want)
piece-some start want done old new piece before after s h m e =
    let long = ap length e in
    let one = h.long in
    let stays = h.stays in
    let place = s.its_place in
    let ends = s.its_end in
    let same = m.same_end in (omega arith, omega arith)

-- the window after the piece
pub Between-next : (start want done : ℕ) (old new next : WindowState) (piece : List ℕ) (before after : ℕ) → Between start want done old → HoldsCount old new 1 → MovesOn old new before after
    → piece ≡ new.held → next.at ≡ new.at + length piece → range_end next ≡ range_end new → next.page ≡ new.page → next.held ≡ drop (length piece) new.held
    → Between start want (done + length piece) next
Between-next start want done old new next piece before after s h m e at end page held = record {
  its_place = let a = h.stays in let b = s.its_place in omega arith;
  its_end = end ∙ m.same_end ∙ s.its_end;
  some_page = let p = s.some_page in let q = m.same_page in omega arith;
  none_held = held ∙ drop_all (length piece) new.held (let long = ap length e in omega arith);
}

-- the requested bytes are those that are done
pub ReadsUpTo-next : (first before after : CountedState) (start want done : ℕ) (old new : WindowState) (piece : List ℕ) → Between start want done old → HoldsCount old new 1
    → MovesOn old new before.asked after.asked → piece ≡ new.held → ReadsUpTo first before done → ReadsUpTo before after old.unread → ReadsUpTo first after (done + length piece)
ReadsUpTo-next first before after start want done old new piece s h m e p q =
    let long = ap length e in
    let stays = h.stays in
    let none = ap length s.none_held in
    let same = m.same_end in
    let account = m.account in
    let so_far = p.at_most in
    ReadsUpTo-to (ReadsUpTo-then p q) (omega arith)
