-- What a buffer keeps of some bytes, and what the pieces of a name that is compared imply for the
-- file.
use Rattle.std.proofs.Common.{◌≡◌, ◌≢◌, ℕ, ◌+◌, ◌-◌, ◌<◌, ◌≤◌, min, List, ◌++◌, length, get_or, take, drop, refl, ap, sym, ◌∙◌, arith, get_or-take, get_or-drop, ◌⊎◌, inl, inr}
use Rattle.std.proofs.Math.Seq.{take-append-add}
use Rattle.std.proofs.lemmas.List.{take_min}
use Rattle.std.proofs.lemmas.Bool.{cases_lt}
use Rattle.elf_model.specs.Bytes.{slice}
use Rattle.elf_model.proofs.Slices.{slice-size}
use Rattle.elf_table.specs.NamesRead.{DifferBelow}

-- bytes up to the capacity
pub take-room : (cap : ℕ) (a b : List ℕ) → length a ≤ cap → take cap (a ++ b) ≡ a ++ take (min (length b) (cap - length a)) b
take-room cap a b fits =
    ap (λ (n : ℕ). take n (a ++ b)) (omega arith) ∙ take-append-add a b (cap - length a)
    ∙ ap (λ (x : List ℕ). a ++ x) (sym (take_min (cap - length a) b) ∙ ap (λ (n : ℕ). take n b) (omega arith))

-- a byte of a piece is the file's
pub byte-of_file : (file piece : List ℕ) (at count k : ℕ) → piece ≡ slice file at count → k < count → get_or piece k 0 ≡ get_or file (at + k) 0
byte-of_file file piece at count k e inside =
    ap (λ (x : List ℕ). get_or x k 0) e ∙ get_or-take count (drop at file) k 0 inside ∙ get_or-drop at file k 0

-- one more piece that is equal
pub alike-more : (file piece wanted : List ℕ) (start done count : ℕ) → piece ≡ slice file (start + done) count → length piece ≡ count
    → ((k : ℕ) → k < done → get_or file (start + k) 0 ≡ get_or wanted k 0) → ((k : ℕ) → k < length piece → get_or piece k 0 ≡ get_or wanted (done + k) 0)
    → (k : ℕ) → k < done + count → get_or file (start + k) 0 ≡ get_or wanted k 0
alike-more file piece wanted start done count e size before here k below = split (cases_lt k done)
  where
    split : (k < done) ⊎ (done ≤ k) → get_or file (start + k) 0 ≡ get_or wanted k 0
    split (inl h) = before k h
    split (inr h) =
        ap (λ (x : ℕ). get_or file x 0) (omega arith) ∙ sym (byte-of_file file piece (start + done) count (k - done) e (omega arith))
        ∙ here (k - done) (omega arith) ∙ ap (λ (x : ℕ). get_or wanted x 0) (omega arith)

-- a byte that differs
pub differ-here : (file piece wanted : List ℕ) (start done count want k : ℕ) → piece ≡ slice file (start + done) count → length piece ≡ count
    → k < length piece → get_or piece k 0 ≢ get_or wanted (done + k) 0 → done + count ≤ want → start + want ≤ length file
    → DifferBelow (length (slice file start want)) (slice file start want) wanted
differ-here file piece wanted start done count want k e size below other within inside =
    let long = slice-size file start want inside in (
      done + k,
      omega arith,
      λ same. other
          (byte-of_file file piece (start + done) count k e (omega arith) ∙ ap (λ (x : ℕ). get_or file x 0) (omega arith)
          ∙ sym (byte-of_file file (slice file start want) start want (done + k) refl (omega arith)) ∙ same),
    )
