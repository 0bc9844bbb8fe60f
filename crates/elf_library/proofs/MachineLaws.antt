-- The machine of a file, by its first bytes.
use Rattle.std.proofs.Common.{◌≡◌, ℕ, ◌+◌, ◌<◌, ◌≤◌, ◌==◌, ◌&&◌, if◌then◌else◌, nat_lt, true, false, List, length, Option, None, Some, refl, ap, ◌∙◌, arith}
use Rattle.std.proofs.lemmas.Bool.Decides.{nat_tests}
use Rattle.elf_model.specs.Bytes.{field, slice}
use Rattle.elf_model.specs.Links.{machine_in}
use Rattle.elf_model.specs.Records.{ELF_MAGIC}
use Rattle.elf_model.proofs.Slices.{field-slice}
use Rattle.elf_library.specs.Reading.{machine_by}

pub short_is : (file : List ℕ) → length file < 20 → ◌≡◌ {A = Option ℕ} None (machine_in file)
unfolding machine_in
short_is file less =
    let e : nat_lt (length file) 20 ≡ true = grind (arith, nat_tests) in
    rw (e, machine_in) refl

by_parts : (magic class encoding machine : ℕ) → Option ℕ
by_parts magic class encoding machine = if (magic == ELF_MAGIC) && ((class == 2) && (encoding == 1)) then Some machine else None

pub front_is : (file front : List ℕ) → front ≡ slice file 0 20 → 20 ≤ length file → machine_by front ≡ machine_in file
unfolding machine_in by_parts
front_is file front is long =
    let e : nat_lt (length file) 20 ≡ false = grind (arith, nat_tests) in
    let part : (at width : ℕ) → at + width ≤ 20 → field front at width ≡ field file at width =
    λ at width within. ap (λ (b : List ℕ). field b at width) is ∙ field-slice file 0 20 at width within ∙ ap (λ (p : ℕ). field file p width) (omega arith) in
    let whole : by_parts (field file 0 4) (field file 4 1) (field file 5 1) (field file 18 2) ≡ machine_in file = rw (e, machine_in) refl in
    ap (λ (n : ℕ). by_parts n (field front 4 1) (field front 5 1) (field front 18 2)) (part 0 4 (omega arith))
    ∙ ap (λ (n : ℕ). by_parts (field file 0 4) n (field front 5 1) (field front 18 2)) (part 4 1 (omega arith))
    ∙ ap (λ (n : ℕ). by_parts (field file 0 4) (field file 4 1) n (field front 18 2)) (part 5 1 (omega arith))
    ∙ ap (λ (n : ℕ). by_parts (field file 0 4) (field file 4 1) (field file 5 1) n) (part 18 2 (omega arith))
    ∙ whole
