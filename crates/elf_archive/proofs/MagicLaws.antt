-- The magic string of an archive.
use Rattle.std.proofs.Common.{◌≡◌, ◌≢◌, ℕ, ◌^◌, ◌<◌, ◌≤◌, ◌==◌, true, false, nat_lt, List, length, None, Some, refl, arith}
use Rattle.std.proofs.lemmas.Bool.Decides.{nat_tests}
use Rattle.elf_model.specs.Prelude.{ARCHIVE_MAGIC, THIN_MAGIC, archive_checks, archive_length_checks, field, first_refusal, slice}
use Rattle.elf_model.specs.declared.causes.Cause.TheVariants.{NotArchive, Thin}
use Rattle.elf_model.specs.declared.causes.Refusal.{Refusal}
use Rattle.elf_model.proofs.Slices.{field-slice}

-- the number of the first eight bytes
pub magic-of : (file bytes : List ℕ) → bytes ≡ slice file 0 8 → field bytes 0 8 ≡ field file 0 8
magic-of file bytes is = rw is (field-slice file 0 8 0 8 (omega arith))

pub is-thin : (file : List ℕ) → 8 ≤ length file → length file < 2 ^ 63 → field file 0 8 ≡ THIN_MAGIC → first_refusal (archive_checks file) ≡ Some (record { at = 0; cause = Thin })
is-thin file enough few is =
    let below : nat_lt (length file) (2 ^ 63) ≡ true = grind (arith, nat_tests) in
    let whole : nat_lt (length file) 8 ≡ false = grind (arith, nat_tests) in
    rw (below, whole, is) refl

pub is-other : (file : List ℕ) → 8 ≤ length file → length file < 2 ^ 63 → field file 0 8 ≢ THIN_MAGIC → field file 0 8 ≢ ARCHIVE_MAGIC
    → first_refusal (archive_checks file) ≡ Some (record { at = 0; cause = NotArchive })
is-other file enough few thin other =
    let below : nat_lt (length file) (2 ^ 63) ≡ true = grind (arith, nat_tests) in
    let whole : nat_lt (length file) 8 ≡ false = grind (arith, nat_tests) in
    let first : (field file 0 8 == THIN_MAGIC) ≡ false = grind (arith, nat_tests) in
    let second : (field file 0 8 == ARCHIVE_MAGIC) ≡ false = grind (arith, nat_tests) in
    rw (below, whole, first, second) refl

pub is-archive : (file : List ℕ) → 8 ≤ length file → length file < 2 ^ 63 → field file 0 8 ≡ ARCHIVE_MAGIC → first_refusal (archive_checks file) ≡ None
is-archive file enough few is =
    let below : nat_lt (length file) (2 ^ 63) ≡ true = grind (arith, nat_tests) in
    let whole : nat_lt (length file) 8 ≡ false = grind (arith, nat_tests) in
    rw (below, whole, is) refl

-- a length that an archive may have is not refused
pub length-passes : (size : ℕ) (refusal : Refusal) → 8 ≤ size → size < 2 ^ 63 → first_refusal (archive_length_checks size) ≡ Some refusal → ⊥
length-passes size refusal enough few is =
    let below : nat_lt size (2 ^ 63) ≡ true = grind (arith, nat_tests) in
    let whole : nat_lt size 8 ≡ false = grind (arith, nat_tests) in
    let none = rw (below, whole) at is in
    absurd (cc)
