-- Slices of a file, and the fields in them.
use Rattle.std.proofs.Common.{◌≡◌, ℕ, ◌+◌, ◌-◌, ◌<◌, ◌≤◌, List, ◌++◌, length, get_or, take, drop, ap, sym, ◌∙◌, arith, length-drop, length-take-le, take-take, drop-drop, get_or-take, get_or-drop}
use Rattle.std.proofs.lemmas.List.{take-append-le, drop-append-le, drop-take}
use Rattle.elf_model.specs.Bytes.{slice, field, number}

-- a slice that is in the bytes has its size
pub slice-size : (bytes : List ℕ) (at size : ℕ) → at + size ≤ length bytes → length (slice bytes at size) ≡ size
slice-size bytes at size h = length-take-le size (drop at bytes) (omega (arith, length-drop at bytes))

-- a slice of a slice
pub slice-slice : (bytes : List ℕ) (at size from width : ℕ) → from + width ≤ size → slice (slice bytes at size) from width ≡ slice bytes (at + from) width
slice-slice bytes at size from width h =
    let e : from + (size - from) ≡ size = omega arith in
    let d : drop from (take size (drop at bytes)) ≡ take (size - from) (drop from (drop at bytes)) =
    ap (λ n. drop from (take n (drop at bytes))) (sym e) ∙ drop-take from (size - from) (drop at bytes) in
    ap (take width) d ∙ take-take width (size - from) (drop from (drop at bytes)) (omega arith) ∙ ap (take width) (drop-drop from at bytes)

-- the rest of a slice from a position on
pub slice-rest : (bytes : List ℕ) (at size from : ℕ) → from ≤ size → drop from (slice bytes at size) ≡ slice bytes (at + from) (size - from)
slice-rest bytes at size from h =
    let e : from + (size - from) ≡ size = omega arith in
    ap (λ n. drop from (take n (drop at bytes))) (sym e) ∙ drop-take from (size - from) (drop at bytes) ∙ ap (take (size - from)) (drop-drop from at bytes)

-- a byte of a slice
pub get_or-slice : (bytes : List ℕ) (at size i : ℕ) → i < size → get_or (slice bytes at size) i 0 ≡ get_or bytes (at + i) 0
get_or-slice bytes at size i h = get_or-take size (drop at bytes) i 0 h ∙ get_or-drop at bytes i 0

-- a field of the prefix is a field of the whole
pub field-front : (x y : List ℕ) (at width : ℕ) → at + width ≤ length x → field (x ++ y) at width ≡ field x at width
unfolding field
field-front x y at width h =
    ap number (ap (take width) (drop-append-le at x y (omega arith)) ∙ take-append-le width (drop at x) y (omega (arith, length-drop at x)))

-- a field of a slice
pub field-slice : (bytes : List ℕ) (from size at width : ℕ) → at + width ≤ size → field (slice bytes from size) at width ≡ field bytes (from + at) width
unfolding field
field-slice bytes from size at width h = ap number (slice-slice bytes from size at width h)
