-- Texts that no budget allows, one by one.
use Rattle.std.proofs.Common.{◌≡◌, ◌<◌, ℕ, zero, suc, List, [], ◌∷◌, ◌++◌, take, Option, None, Some, refl, ap, sym, ◌∙◌, codes, slice_index, arith}
use Rattle.elf_model.specs.Prelude.{Fault, IsCut, Line, ListingItem, cause_word, lines_of, refusal_line}
use Rattle.elf_model.specs.declared.formats.Format.TheVariants.{Columns}
use Rattle.elf_model.specs.declared.causes.Refusal.{Refusal}
use Rattle.elf_model.specs.declared.causes.Cause.TheVariants.{Short}
use Rattle.elf_model.proofs.OnLiterals.{on_literals}
use Rattle.elf_examples.specs.ListedBudgets.{spent_at, OtherTextsAreNoCuts}
use Rattle.elf_examples.proofs.Budgets.{CutAfter, cut_after}

pub clash : (a b : ℕ) → a < b → a ≡ b → ⊥
clash a b less e = omega arith

-- equal texts have equal bytes
pub same_byte : (i : ℕ) (one other : List ℕ) → one ≡ other → slice_index one i ≡ slice_index other i
same_byte i one other e = ap (λ t. slice_index t i) e

-- the word of a fault
abbrev word_of : Option Refusal → List ℕ
word_of None = []
word_of (Some refusal) = cause_word refusal.cause

-- the offset of a fault
abbrev at_of : Option Refusal → ℕ
at_of None = 0
at_of (Some refusal) = refusal.at

at_length : CutAfter 64 [] (codes "! 0000000000000040 budget\n") (Some (spent_at 64)) → ⊥
at_length (count, at, is, inside, none, text) = let e : 64 ≡ at = ap at_of is in omega arith

other_cause : CutAfter 64 [] (codes "! 0000000000000000 short\n") (Some (record { at = 0; cause = Short })) → ⊥
unfolding on_literals
other_cause (count, at, is, inside, none, text) = clash 98 115 (omega arith) (same_byte 0 (codes "budget") (codes "short") (sym (ap word_of is)))

no_fault : CutAfter 64 [] (codes "! 0000000000000000 budget\n") None → ⊥
no_fault (count, at, is, inside, none, text) = cc

no_line : (count : ℕ) → lines_of (take count []) ≡ []
no_line zero = refl
no_line (suc count) = refl

other_offset : CutAfter 64 [] (codes "! 0000000000000001 budget\n") (Some (spent_at 0)) → ⊥
unfolding on_literals
other_offset (count, at, is, inside, none, text) =
    let place : 0 ≡ at = ap at_of is in
    let line : codes "! 0000000000000001 budget\n" ≡ refusal_line Columns (spent_at 0) =
    text ∙ ap (λ lines. lines ++ refusal_line Columns (spent_at at)) (no_line count) ∙ ap (λ at. refusal_line Columns (spent_at at)) (sym place) in
    clash 48 49 (omega arith) (same_byte 17 (refusal_line Columns (spent_at 0)) (codes "! 0000000000000001 budget\n") (sym line))

not_first : CutAfter 64 (Line (codes "a") ∷ []) (codes "b! 0000000000000000 budget\n") (Some (spent_at 0)) → ⊥
unfolding on_literals
not_first (zero, at, is, inside, none, text) = clash 33 98 (omega arith) (same_byte 0 (lines_of (take 0 (Line (codes "a") ∷ [])) ++ refusal_line Columns (spent_at at)) (codes "b! 0000000000000000 budget\n") (sym text))
not_first (suc count, at, is, inside, none, text) = clash 97 98 (omega arith) (same_byte 0 (lines_of (take (suc count) (Line (codes "a") ∷ [])) ++ refusal_line Columns (spent_at at)) (codes "b! 0000000000000000 budget\n") (sym text))

second_alone : CutAfter 64 (Line (codes "a") ∷ Line (codes "b") ∷ []) (codes "b! 0000000000000000 budget\n") (Some (spent_at 0)) → ⊥
unfolding on_literals
second_alone (zero, at, is, inside, none, text) = clash 33 98 (omega arith) (same_byte 0 (lines_of (take 0 (Line (codes "a") ∷ Line (codes "b") ∷ [])) ++ refusal_line Columns (spent_at at)) (codes "b! 0000000000000000 budget\n") (sym text))
second_alone (suc count, at, is, inside, none, text) = clash 97 98 (omega arith) (same_byte 0 (lines_of (take (suc count) (Line (codes "a") ∷ Line (codes "b") ∷ [])) ++ refusal_line Columns (spent_at at)) (codes "b! 0000000000000000 budget\n") (sym text))

fault_and_budget : CutAfter 64 (Fault (record { at = 0; cause = Short }) ∷ []) (codes "! 0000000000000000 short\n! 0000000000000000 budget\n") (Some (spent_at 0)) → ⊥
unfolding on_literals
fault_and_budget (zero, at, is, inside, none, text) =
    clash 98 115 (omega arith)
    (same_byte 19 (refusal_line Columns (spent_at at)) (codes "! 0000000000000000 short\n! 0000000000000000 budget\n") (sym text))
fault_and_budget (suc count, at, is, inside, none, text) = cc

no_cut : {size : ℕ} {all : List ListingItem} {text : List ℕ} {fault : Option Refusal} → (CutAfter size all text fault → ⊥) → IsCut Columns size all text fault → ⊥
no_cut {size} {all} {text} {fault} never is = never (cut_after size all text fault is)

pub no_cuts : OtherTextsAreNoCuts
no_cuts = (no_cut at_length, no_cut other_cause, no_cut no_fault, no_cut other_offset, no_cut not_first, no_cut second_alone, no_cut fault_and_budget)
