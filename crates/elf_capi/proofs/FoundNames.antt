-- The bytes before the first NUL after an index of a string table are the name at that index.
use Rattle.std.proofs.Common.{◌≡◌, ℕ, ◌+◌, ◌-◌, ◌<◌, List, [], ◌∷◌, ◌++◌, length, take, drop, Some, Ok, inl, refl, ap, sym, ◌∙◌, arith, length-drop, length-take}
use Rattle.std.proofs.lemmas.List.{take_all, take_at, take-take, append_assoc}
use Rattle.elf_model.specs.Prelude.{IsNameOf, IsNulTerminatedAt, nul_in, slice}
use Rattle.elf_model.proofs.NameLemmas.{inside-full, inside-below}
use Rattle.elf_model.proofs.Nuls.{free-none, free-take, some-free, split_at_nul}
use Rattle.elf_model.proofs.Slices.{slice-rest}
use Rattle.elf_capi.specs.Prelude.{FindsName, bytes_in_range, name_size}
use Rattle.elf_table.specs.declared.byte_range.ByteRange.{ByteRange}

-- they are a name followed by its NUL
named : (table : List ℕ) (index place : ℕ) → nul_in (drop index table) ≡ Some place → IsNulTerminatedAt table index (take place (drop index table))
named table index place h =
    let rest : List ℕ = drop index table in
    let f = some-free rest place h in
    let few = free-take rest place (omega arith) in
    let name : List ℕ = take place rest in
    let n : ℕ = length (name ++ 0 ∷ []) in
    let halves = split_at_nul rest (omega arith) in
    let parts : rest ≡ name ++ 0 ∷ drop (place + 1) rest = rw f.0 at halves in
    (free-none name few, ap (take n) (parts ∙ sym (append_assoc name (0 ∷ []) (drop (place + 1) rest))) ∙ take_at (name ++ 0 ∷ []) (drop (place + 1) rest) n refl)

-- its length
pub sized : (table : List ℕ) (index place : ℕ) → index < length table → nul_in (drop index table) ≡ Some place → name_size table index ≡ Ok place
sized table index place below h = rw (inside-full table index below, inside-below table index below, h) refl

-- if the table is a range of a file, the name is a range of the file too
pub found_name : (file : List ℕ) (at size index place : ℕ) → index < length (slice file at size) → nul_in (drop index (slice file at size)) ≡ Some place
    → IsNameOf (slice file at size) index (slice file (at + index) place)
found_name file at size index place below h =
    let table : List ℕ = slice file at size in
    let f = some-free (drop index table) place h in
    let l = length-drop index table in
    let short = length-take size (drop at file) in
    let rest = slice-rest file at size index (omega arith) in
    let same : slice file (at + index) place ≡ take place (drop index table) =
    sym (ap (take place) rest ∙ take-take place (size - index) (drop (at + index) file) (omega arith)) in
    inl (rw same (named table index place h))

-- ITS RANGE, by the search of all bytes from the index on
pub named_there : (file : List ℕ) (strings : ByteRange) (index place : ℕ) (table : List ℕ) → table ≡ bytes_in_range file strings → index < length table
    → nul_in (take (length table - index) (drop index table)) ≡ Some place → FindsName file strings index (Ok (Some (record { at = strings.at + index; len = place })))
named_there file strings index place table is below h =
    let whole : take (length table - index) (drop index table) ≡ drop index table =
    take_all (length table - index) (drop index table) (omega (arith, length-drop index table)) in
    let all = rw whole at h in
    let inside = rw is at below in
    let nul = rw is at all in
    (rw (inside-full (bytes_in_range file strings) index inside) refl, sized (bytes_in_range file strings) index place inside nul, found_name file strings.at strings.len index place inside nul)
