-- Signed numbers and their bits.
use Rattle.std.proofs.Common.{◌≡◌, ℕ, ℤ, pos, negsuc, nat_lt, if◌then◌else◌, suc, ◌+◌, ◌-◌, ◌*◌, ◌^◌, ◌<◌, ◌≤◌, List, [], ◌∷◌, length, drop, ◌∙◌, ap, arith, length-drop, subst}
use Rattle.std.proofs.Math.Nat.{pow-succ'}
use Rattle.std.proofs.lemmas.List.{length-take-le}
use Rattle.std.proofs.lemmas.Int.{of_z-to_z}
use Rattle.std.specs.Int.{cast_unsigned, w64}
use Rattle.elf_model.specs.Prelude.{IsBytes, field, number, slice, twos_complement}
use Rattle.elf_record.specs.Prelude.{FieldsAreAt, IsDyn, IsRela, dyn_parts, rela_parts}
use Rattle.elf_record.specs.declared.dyn_entry.Dyn.{Dyn}
use Rattle.elf_record.specs.declared.rela.Rela.{Rela}
use Rattle.elf_record.proofs.PartLaws.{IsBytes-slice}

-- the number of some bytes fits in that many bytes
number_below : (bytes : List ℕ) → IsBytes bytes → number bytes < 256 ^ length bytes
unfolding number
number_below [] byte = omega arith
number_below (b ∷ bytes) byte =
    let power : 256 ^ suc (length bytes) ≡ 256 * 256 ^ length bytes = pow-succ' 256 (length bytes) in
    let first : b < 256 = byte 0 in
    let rest : number bytes < 256 ^ length bytes = number_below bytes (λ i. byte (suc i)) in
    omega arith

field_below : (file : List ℕ) (at width : ℕ) → IsBytes file → at + width ≤ length file → field file at width < 256 ^ width
unfolding field
field_below file at width byte inside =
    let room : width ≤ length (drop at file) = simp length-drop (omega arith) in
    let size : length (slice file at width) ≡ width = length-take-le width (drop at file) room in
    subst (λ n. number (slice file at width) < 256 ^ n) size (number_below (slice file at width) (IsBytes-slice file at width byte))

-- the bits of the number that some bits represent
bits-twos_complement : (n : ℕ) → n < 256 ^ 8 → cast_unsigned w64 (twos_complement n) ≡ n
bits-twos_complement n below =
    let same : 2 ^ 64 - 1 - n ≡ 2 ^ 64 - suc n = omega arith in
    ap (λ m. cast_unsigned w64 (if nat_lt n (2 ^ 63) then pos n else negsuc m)) same ∙ of_z-to_z w64 n below

signed_bits : (z : ℤ) (file : List ℕ) (at : ℕ) → IsBytes file → at + 8 ≤ length file → z ≡ twos_complement (field file at 8) → cast_unsigned w64 z ≡ field file at 8
signed_bits z file at byte inside is = ap (cast_unsigned w64) is ∙ bits-twos_complement (field file at 8) (field_below file at 8 byte inside)

pub rela_of_parts : (bytes : List ℕ) (r : Rela) → r.r_addend ≡ twos_complement (cast_unsigned w64 r.r_addend) → FieldsAreAt bytes 0 0 (rela_parts r) → IsRela bytes 0 r
rela_of_parts bytes r signed is_at = record {
  r_offset = is_at.0;
  r_info = is_at.1.0;
  r_addend = signed ∙ ap twos_complement is_at.1.1.0;
}

pub rela_to_parts : (bytes : List ℕ) (r : Rela) → IsBytes bytes → length bytes ≡ 24 → IsRela bytes 0 r → FieldsAreAt bytes 0 0 (rela_parts r)
rela_to_parts bytes r byte size is = (is.r_offset, (is.r_info, (signed_bits r.r_addend bytes 16 byte (omega arith) is.r_addend, tt)))

pub dyn_of_parts : (bytes : List ℕ) (r : Dyn) → r.d_tag ≡ twos_complement (cast_unsigned w64 r.d_tag) → cast_unsigned w64 r.d_tag < 256 ^ 8 → FieldsAreAt bytes 0 0 (dyn_parts r) → IsDyn bytes 0 r
dyn_of_parts bytes r signed low is_at = record {
  d_tag = signed ∙ ap twos_complement is_at.0;
  d_tag_bits = is_at.0;
  d_tag_low = omega (arith, is_at.0, low);
  d_un = is_at.1.0;
}

pub dyn_to_parts : (bytes : List ℕ) (r : Dyn) → IsDyn bytes 0 r → FieldsAreAt bytes 0 0 (dyn_parts r)
dyn_to_parts bytes r is = (is.d_tag_bits, (is.d_un, tt))
