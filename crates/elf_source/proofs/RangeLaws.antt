-- What a range returns of its parent's file.
use Rattle.std.proofs.Common.{◌≡◌, ℕ, ◌+◌, ◌-◌, ◌≤◌, List, length, take, drop, Option, None, Some, Result, Ok, Err, sym, ap, refl, ◌∙◌, take-take, drop-drop, arith}
use Rattle.std.proofs.lemmas.List.{drop-take}
use Rattle.std.proofs.Math.Seq.{take-length}
use Rattle.std.specs.Prelude.{OnOk}
use Rattle.elf_source.specs.Prelude.{IsWholeRange, RangeOf, SourceState, file_within, seen_range}

-- a slice of a slice
slice_within : (bytes : List ℕ) (start size at n : ℕ) → at + n ≤ size → take n (drop at (take size (drop start bytes))) ≡ take n (drop (start + at) bytes)
slice_within bytes start size at n h =
    let e : at + (size - at) ≡ size = omega arith in
    let d : drop at (take size (drop start bytes)) ≡ take (size - at) (drop at (drop start bytes)) =
    ap (λ k. drop at (take k (drop start bytes))) (sym e) ∙ drop-take at (size - at) (drop start bytes) in
    ap (take n) d ∙ take-take n (size - at) (drop at (drop start bytes)) (omega arith) ∙ ap (take n) (drop-drop at start bytes)

-- what was read of the parent's file is the slice of the range's file
read_of : (below : Option (List ℕ)) (file out : List ℕ) (start size at n : ℕ) → at + n ≤ size → file_within below start size ≡ Some file
    → ((bytes : List ℕ) → below ≡ Some bytes → out ≡ take n (drop (start + at) bytes)) → out ≡ take n (drop at file)
read_of None file out start size at n h is read = cc
read_of (Some bytes) file out start size at n h is read =
    let same : take size (drop start bytes) ≡ file = cc in
    read bytes refl ∙ sym (ap (λ l. take n (drop at l)) (sym same) ∙ slice_within bytes start size at n h)

pub range_slice : {X E : Type 0} (result : Result X E) (r : RangeOf) (file out : List ℕ) (at n : ℕ) → at + n ≤ r.size → file_within r.below.file r.start r.size ≡ Some file
    → ((bytes : List ℕ) → r.below.file ≡ Some bytes → OnOk result (out ≡ take n (drop (r.start + at) bytes))) → OnOk result (out ≡ take n (drop at file))
range_slice (Ok x) r file out at n h is read = read_of r.below.file file out r.start r.size at n h is read
range_slice (Err fault) r file out at n h is read = tt

-- the range of all bytes has the whole file
all_of : (file : Option (List ℕ)) (size : ℕ) → ((bytes : List ℕ) → file ≡ Some bytes → length bytes ≡ size) → file_within file 0 size ≡ file
all_of None size sized = refl
all_of (Some bytes) size sized = ap Some (ap (λ n. take n bytes) (sym (sized bytes refl)) ∙ take-length bytes)

pub whole_file : (seen : SourceState) → file_within seen.file 0 seen.size ≡ seen.file
whole_file seen = all_of seen.file seen.size seen.sized

-- a range that begins at 0 and has the size of its parent is whole
pub is_whole : (r : RangeOf) → r.start ≡ 0 → r.size ≡ r.below.size → IsWholeRange (seen_range r)
is_whole r first all =
    let same : file_within r.below.file r.start r.size ≡ r.below.file =
    ap (λ start. file_within r.below.file start r.size) first ∙ (ap (file_within r.below.file 0) all ∙ whole_file r.below) in
    ap (λ (size : ℕ). Some (record { size = size; file = r.below.file })) (sym all)
    ∙ ap (λ (file : Option (List ℕ)). Some (record { size = r.size; file = file })) (sym same)
