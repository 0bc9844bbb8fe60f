-- Fields, as `byteorder` reads and writes them.
use Rattle.std.proofs.Common.{◌≡◌, ℕ, zero, suc, ◌+◌, ◌*◌, ◌/◌, ◌%◌, ◌^◌, ◌<◌, ◌≤◌, List, ◌∷◌, length, get_or, take, drop, refl, sym, ◌∙◌, ap, arith, drop-cons, length-drop}
use Rattle.std.proofs.Math.Nat.{div-div-eq-div-mul, div-one, pow-suc}
use Rattle.std.specs.Int.{bytes_low_first}
use Rattle.elf_model.specs.Bytes.{number, field, little}
use Rattle.byteorder.specs.Endian.{little_from, little_number, little_bytes}

-- the number of n bytes at position i, read byte by byte
number_from : (bytes : List ℕ) (i n : ℕ) → i + n ≤ length bytes → number (take n (drop i bytes)) ≡ little_from i n bytes
unfolding number
number_from bytes i zero h = refl
number_from bytes i (suc n) h =
    let inside : i < length bytes = omega arith in
    let rest : suc i + n ≤ length bytes = omega arith in
    rw (drop-cons bytes i 0) (ap (λ m. get_or bytes i 0 + 256 * m) (number_from bytes (suc i) n rest))

-- a field is what `byteorder` reads at its offset
pub field_read : (bytes : List ℕ) (at width : ℕ) → at + width ≤ length bytes → field bytes at width ≡ little_number width (drop at bytes)
unfolding field
field_read bytes at width h =
    let fits : 0 + width ≤ length (drop at bytes) = simp length-drop (omega arith) in number_from (drop at bytes) 0 width fits

-- a field of one byte is that byte
pub byte_read : (bytes : List ℕ) (at : ℕ) → at + 1 ≤ length bytes → field bytes at 1 ≡ get_or bytes at 0
unfolding field number
byte_read bytes at h = let inside : at < length bytes = omega arith in rw (drop-cons bytes at 0) (omega arith)

-- the bytes of a number from byte i, low first, are those of the remaining number
bytes_from : (width i n : ℕ) → bytes_low_first i width n ≡ little width (n / 256 ^ i)
unfolding little
bytes_from zero i n = refl
bytes_from (suc width) zero n =
    rw div-one (ap (λ bytes. n % 256 ∷ bytes) (bytes_from width 1 n))
bytes_from (suc width) (suc i) n =
    ap (λ bytes. n / 256 ^ suc i % 256 ∷ bytes)
    (bytes_from width (suc (suc i)) n ∙ ap (little width) (sym (rw div-div-eq-div-mul (rw (← pow-suc) refl))))

-- the bytes that `byteorder` writes
pub bytes_written : (width n : ℕ) → little_bytes width n ≡ little width n
bytes_written width n = bytes_from width 0 n ∙ ap (little width) (div-one n)
