-- The addresses of the entries of a chunk, with those of one more.
use Rattle.std.proofs.Common.{◌≡◌, ℕ, ◌<◌, ◌≤◌, List, length, get_or, set, inl, inr, arith}
use Rattle.std.proofs.lemmas.Bool.{cases_eq}
use Rattle.std.proofs.lemmas.List.{get_or-set_other, get_or-set_same}
use Rattle.elf_image.specs.Chunks.{IsWithinChunk}

-- a chunk may have more addresses
pub wider : (file : List ℕ) (rela low high lowest highest : ℕ) → IsWithinChunk file rela low high → lowest ≤ low → high ≤ highest → IsWithinChunk file rela lowest highest
wider file rela low high lowest highest is below above = record {
  low = let l = is.low in omega (arith, l, below);
  high = λ some. let h = is.high (omega (arith, some, above)) in omega (arith, h, above);
  copy = λ kind. let all = is.copy kind in (omega (arith, all.0, below), omega (arith, all.1, above));
  resolved = λ kind. let all = is.resolved kind in (omega (arith, all.0, below), omega (arith, all.1, above));
}

-- one of some numbers is replaced by a smaller one, or by a larger one
pub set-below : (numbers : List ℕ) (c k x : ℕ) → c < length numbers → x ≤ get_or numbers c 0 → get_or (set numbers c x) k 0 ≤ get_or numbers k 0
set-below numbers c k x some less = elim (cases_eq k c) [
  | inl same ↦ let e : get_or (set numbers c x) c 0 ≡ x = get_or-set_same numbers c x 0 some in rw same (omega (arith, e, less))
  | inr other ↦ let e : get_or (set numbers c x) k 0 ≡ get_or numbers k 0 = get_or-set_other numbers c k x 0 other in omega (arith, e)
]

pub set-above : (numbers : List ℕ) (c k x : ℕ) → c < length numbers → get_or numbers c 0 ≤ x → get_or numbers k 0 ≤ get_or (set numbers c x) k 0
set-above numbers c k x some more = elim (cases_eq k c) [
  | inl same ↦ let e : get_or (set numbers c x) c 0 ≡ x = get_or-set_same numbers c x 0 some in rw same (omega (arith, e, more))
  | inr other ↦ let e : get_or (set numbers c x) k 0 ≡ get_or numbers k 0 = get_or-set_other numbers c k x 0 other in omega (arith, e)
]
