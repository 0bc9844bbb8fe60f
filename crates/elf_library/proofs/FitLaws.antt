-- Whether a file ends a search for a library, by its header.
use Rattle.std.proofs.Common.{◌≡◌, ℕ, ◌+◌, ◌*◌, ◌<◌, ◌≤◌, ◌==◌, ◌&&◌, ◌||◌, not, nat_lt, Bool, true, false, List, [], ◌∷◌, length, drop-cons, refl, ap, ◌∙◌, arith}
use Rattle.std.proofs.lemmas.Bool.Decides.{nat_tests}
use Rattle.elf_model.specs.Checks.{Check, refuse}
use Rattle.elf_model.specs.Prelude.{RefusedAt, field, is_for_machine, library_checks, library_file, number, slice}
use Rattle.elf_model.specs.Records.{ELF_MAGIC, has_elf_magic}
use Rattle.elf_model.specs.declared.causes.Cause.TheVariants.{BadData, BadVersion, Short, Unsupported}
use Rattle.elf_model.proofs.Slices.{field-slice}

pub short_is : (machine : ℕ) (file : List ℕ) → length file < 64 → RefusedAt (record { at = length file; cause = Short }) ≡ library_file machine file
unfolding library_file
short_is machine file less =
    let e : nat_lt (length file) 64 ≡ true = grind (arith, nat_tests) in
    rw (e, library_file) refl

module _ (machine : ℕ) (file front : List ℕ) (e : nat_lt (length file) 64 ≡ false) (s : nat_lt (length front) 64 ≡ false) where
  no_elf : has_elf_magic front ≡ false → has_elf_magic file ≡ false → library_file machine front ≡ library_file machine file
  unfolding library_file
  no_elf one two = rw (e, s, one, two, library_file) refl

  not_for : has_elf_magic front ≡ true → has_elf_magic file ≡ true → is_for_machine machine front ≡ false → is_for_machine machine file ≡ false
      → library_file machine front ≡ library_file machine file
  unfolding library_file
  not_for one two three four = rw (e, s, one, two, three, four, library_file) refl

  by_checks : has_elf_magic front ≡ true → has_elf_magic file ≡ true → is_for_machine machine front ≡ true → is_for_machine machine file ≡ true
      → library_checks front ≡ library_checks file → library_file machine front ≡ library_file machine file
  unfolding library_file
  by_checks one two three four checks = rw (e, s, one, two, three, four, checks, library_file) refl

  by_parts : has_elf_magic front ≡ has_elf_magic file → is_for_machine machine front ≡ is_for_machine machine file → library_checks front ≡ library_checks file
      → library_file machine front ≡ library_file machine file
  by_parts magic for checks = go (has_elf_magic file) refl (is_for_machine machine file) refl
    where
      go : (m : Bool) → has_elf_magic file ≡ m → (f : Bool) → is_for_machine machine file ≡ f → library_file machine front ≡ library_file machine file
      go false m f is = no_elf (magic ∙ m) m
      go true m false is = not_for (magic ∙ m) m (for ∙ is) is
      go true m true is = by_checks (magic ∙ m) m (for ∙ is) is checks

-- the checks of a header by its fields
abbrev checks_by : (encoding version abi level rest number kind : ℕ) → List Check
checks_by encoding version abi level rest number kind =
    refuse (not (encoding == 1)) 5 BadData
    ∷ refuse (not (version == 1)) 6 BadVersion
    ∷ refuse (not (abi == 0 || abi == 3) || (abi == 0 && not (level == 0)) || not (rest == 0)) 7 Unsupported
    ∷ refuse (not (number == 1)) 20 BadVersion
    ∷ refuse (not (kind == 2 || kind == 3)) 16 Unsupported
    ∷ []

pub front_is : (machine : ℕ) (file front : List ℕ) → front ≡ slice file 0 64 → length front ≡ 64 → 64 ≤ length file → library_file machine front ≡ library_file machine file
front_is machine file front is sized long =
    let e : nat_lt (length file) 64 ≡ false = grind (arith, nat_tests) in
    let s : nat_lt (length front) 64 ≡ false = grind (arith, nat_tests) in
    let part : (at width : ℕ) → at + width ≤ 64 → field front at width ≡ field file at width =
    λ at width within. ap (λ (b : List ℕ). field b at width) is ∙ field-slice file 0 64 at width within ∙ ap (λ (p : ℕ). field file p width) (omega arith) in
    by_parts machine file front e s (same_magic file front part) (same_machine machine file front part) (same_checks file front part)
  where
    same_magic : (file front : List ℕ) → ((at width : ℕ) → at + width ≤ 64 → field front at width ≡ field file at width) → has_elf_magic front ≡ has_elf_magic file
    same_magic file front part = ap (λ n. n == ELF_MAGIC) (part 0 4 (omega arith))

    same_machine : (machine : ℕ) (file front : List ℕ) → ((at width : ℕ) → at + width ≤ 64 → field front at width ≡ field file at width)
        → is_for_machine machine front ≡ is_for_machine machine file
    same_machine machine file front part =
        ap (λ n. n == 2 && field front 18 2 == machine) (part 4 1 (omega arith)) ∙ ap (λ n. field file 4 1 == 2 && n == machine) (part 18 2 (omega arith))

    same_checks : (file front : List ℕ) → ((at width : ℕ) → at + width ≤ 64 → field front at width ≡ field file at width) → library_checks front ≡ library_checks file
    same_checks file front part =
        ap (λ n. checks_by n (field front 6 1) (field front 7 1) (field front 8 1) (field front 9 7) (field front 20 4) (field front 16 2)) (part 5 1 (omega arith))
        ∙ (ap (λ n. checks_by (field file 5 1) n (field front 7 1) (field front 8 1) (field front 9 7) (field front 20 4) (field front 16 2)) (part 6 1 (omega arith))
        ∙ (ap (λ n. checks_by (field file 5 1) (field file 6 1) n (field front 8 1) (field front 9 7) (field front 20 4) (field front 16 2)) (part 7 1 (omega arith))
        ∙ (ap (λ n. checks_by (field file 5 1) (field file 6 1) (field file 7 1) n (field front 9 7) (field front 20 4) (field front 16 2)) (part 8 1 (omega arith))
        ∙ (ap (λ n. checks_by (field file 5 1) (field file 6 1) (field file 7 1) (field file 8 1) n (field front 20 4) (field front 16 2)) (part 9 7 (omega arith))
        ∙ (ap (λ n. checks_by (field file 5 1) (field file 6 1) (field file 7 1) (field file 8 1) (field file 9 7) n (field front 16 2)) (part 20 4 (omega arith))
        ∙ ap (λ n. checks_by (field file 5 1) (field file 6 1) (field file 7 1) (field file 8 1) (field file 9 7) (field file 20 4) n) (part 16 2 (omega arith)))))))

-- the reserved bytes are the higher ones of eight
pub higher_are : (front : List ℕ) → 16 ≤ length front → field front 8 8 ≡ field front 8 1 + 256 * field front 9 7
unfolding field number
higher_are front long =
    let inside : 8 < length front = omega arith in
    rw (drop-cons front 8 0 inside) (omega arith)
