-- Changes row by row and section by section, and what they store.
use Rattle.std.proofs.Common.{◌≡◌, ℕ, zero, suc, List, ◌∷◌, ◌++◌, length, Result, Ok, Err, refl, ap}
use Rattle.elf_model.specs.Prelude.{StoredBytes, and_patches, places_from}
use Rattle.elf_model.specs.declared.causes.Refusal.{Refusal}

-- as many places as entries
pub length-places_from : (place : ℕ → ℕ) (i n : ℕ) → length (places_from place i n) ≡ n
unfolding places_from
length-places_from place i zero = refl
length-places_from place i (suc n) = ap suc (length-places_from place (suc i) n)

-- patches before those of further changes
abbrev pub before_more : List StoredBytes → Result (List StoredBytes) Refusal → Result (List StoredBytes) Refusal
before_more first (Err refusal) = Err refusal
before_more first (Ok second) = Ok (first ++ second)

record Parted (patch : StoredBytes) (rest : Result (List StoredBytes) Refusal) (all : List StoredBytes) : Type 0 where
  others : List StoredBytes
  rest_is : rest ≡ Ok others
  all_are : all ≡ patch ∷ others

parted : (patch : StoredBytes) (rest : Result (List StoredBytes) Refusal) (all : List StoredBytes) → and_patches patch rest ≡ Ok all → Parted patch rest all
unfolding and_patches
parted patch (Err refusal) all e = absurd (cc)
parted patch (Ok others) all e = record { others = others; rest_is = refl; all_are = cc }

-- a fault is the result, no matter what follows it
faulty : (patch : StoredBytes) (rest : Result (List StoredBytes) Refusal) (refusal : Refusal) → and_patches patch rest ≡ Err refusal → rest ≡ Err refusal
unfolding and_patches
faulty patch (Err other) refusal e = cc
faulty patch (Ok others) refusal e = absurd (cc)
