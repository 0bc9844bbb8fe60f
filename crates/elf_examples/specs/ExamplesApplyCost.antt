-- Worked examples of what applying costs.
use Rattle.std.specs.Prelude.{◌≡◌, ◌++◌, ◌+◌, ◌*◌, ℕ, true, false, List, [], ◌∷◌, codes, replicate}
use Rattle.elf_model.specs.Prelude.{Compared, Layout, NameSearch, Searched, apply_cost, apply_cost_by_order, apply_cost_in_order, empty_layout, entry_layout, falling_relocations, full_layout, layout_names_cost, little, offsets_never_fall, one_call, overlapping_in_other_order, overlapping_relocations, relocated, relocation, rising_relocations, third_overflows, two_relocation_sections, with_bytes, with_entries_header, zeros}

-- two entries without symbols, and one call with a procedure linkage table entry
abbrev pub CostsOfWindows : Type 0
CostsOfWindows =
    (apply_cost overlapping_relocations 3 1 empty_layout ≡ 456) × (apply_cost one_call 5 1 entry_layout ≡ 613)
    × (apply_cost one_call 5 1 full_layout ≡ 741)

-- names that are searched for cost the longest of each kind, in pieces of 64 bytes with its NUL: of
-- 63 bytes one, of 64 two. Compared, each costs its own
abbrev pub CostsOfNames : Type 0
CostsOfNames =
    let definitions : List (List ℕ × ℕ) = (replicate 63 97, 1) ∷ (codes "f", 2) ∷ (codes "g", 3) ∷ [] in
    let linkage : List (List ℕ × ℕ) = (codes "f", 2) ∷ (replicate 64 97, 1) ∷ [] in
    let laid : NameSearch → Layout = λ lookup. record { lookup = lookup; sections = []; definitions = definitions; linkage = linkage; table = []; thread = [] } in
    (layout_names_cost (laid Searched) ≡ 64 + 128) × (layout_names_cost (laid Compared) ≡ 3 * 64 + (64 + 128))

-- a window has 64 bytes, the last one fewer
abbrev pub CostsOfLastWindows : Type 0
CostsOfLastWindows =
    (apply_cost (relocated (zeros 1) (relocation 0 14 1)) 3 1 empty_layout ≡ 64 + 192 + (1 + 1) * 48 + 1)
    × (apply_cost (relocated (zeros 64) (relocation 0 14 1)) 3 1 empty_layout ≡ 64 + 192 + (1 + 1) * 48 + 64)
    × (apply_cost (relocated (zeros 65) (relocation 0 14 1)) 3 1 empty_layout ≡ 64 + 192 + (1 + 2) * 48 + 65)
    × (apply_cost (relocated (zeros 128) (relocation 0 14 1)) 3 1 empty_layout ≡ 64 + 192 + (1 + 2) * 48 + 128)
    × (apply_cost (relocated (zeros 129) (relocation 0 14 1)) 3 1 empty_layout ≡ 64 + 192 + (1 + 3) * 48 + 129)

-- in order one pass applies all entries; otherwise each window of 64 bytes takes one, also if an
-- offset decreases by 1. With fewer headers allowed than there are, only the file header is read
abbrev pub CostsByOrder : Type 0
CostsByOrder =
    (apply_cost_by_order rising_relocations 3 1 empty_layout ≡ 768)
    × (apply_cost_by_order falling_relocations 3 1 empty_layout ≡ 960)
    × (apply_cost_by_order overlapping_relocations 3 1 empty_layout ≡ 456)
    × (apply_cost_by_order overlapping_in_other_order 3 1 empty_layout ≡ 456)
    × (apply_cost_by_order (relocated (zeros 65) (relocation 3 12 0 ++ relocation 4 12 0)) 3 1 empty_layout ≡ 64 + 192 + 2 * 2 * 48 + 65)
    × (apply_cost_by_order (relocated (zeros 65) (relocation 4 12 0 ++ relocation 3 12 0)) 3 1 empty_layout ≡ 64 + 192 + 3 * 2 * 48 + 65)
    × (apply_cost_by_order rising_relocations 2 1 empty_layout ≡ 64)
    × (apply_cost_by_order falling_relocations 2 1 empty_layout ≡ 64)

-- entries past a fault count, entries of a section that is refused do not
abbrev pub EntriesThatCount : Type 0
EntriesThatCount =
    (apply_cost third_overflows 3 1 empty_layout ≡ 64 + 192 + 2 * 3 * 48 + 8)
    × (apply_cost (two_relocation_sections 9 23) 4 1 empty_layout ≡ 64 + 256 + 2 * 1 * 48 + 8)
    × (apply_cost (two_relocation_sections 9 24) 4 1 empty_layout ≡ 64 + 256 + 2 * 2 * 48 + 8)

-- an entry that changes nothing has no part in the order, for any symbol, and those after it have
-- theirs
abbrev pub OrderLeavesOutNone : Type 0
OrderLeavesOutNone =
    (offsets_never_fall (relocated (zeros 8) (relocation 4 10 0 ++ relocation 0 0 0 ++ relocation 4 12 0)) 1 ≡ true)
    × (offsets_never_fall (relocated (zeros 8) (relocation 4 10 0 ++ relocation 0 0x500000000 0 ++ relocation 4 12 0)) 1 ≡ true)
    × (offsets_never_fall (relocated (zeros 8) (relocation 4 10 0 ++ relocation 4 0 0 ++ relocation 0 10 0)) 1 ≡ false)
    × (offsets_never_fall (relocated (zeros 8) (relocation 4 10 0 ++ relocation 0 10 0)) 1 ≡ false)
    × (offsets_never_fall (relocated (zeros 8) (relocation 4 12 0 ++ relocation 3 12 0)) 1 ≡ false)

-- what is refused before the entries costs no entries: section 0 and one past the last, also if
-- there are entries for them, a file that is not relocatable or for another machine, a section
-- outside the file; and what is refused before the section headers does not cost those either
abbrev pub CostsOfRefusals : Type 0
CostsOfRefusals =
    (apply_cost one_call 5 0 entry_layout ≡ 64 + 320)
    × (apply_cost (with_bytes 0x10 (little 2 2) one_call) 5 1 entry_layout ≡ 64 + 320)
    × (apply_cost (with_bytes 0x12 (little 2 183) one_call) 5 1 entry_layout ≡ 64 + 320)
    × (apply_cost (with_entries_header 44 (little 4 0)) 5 0 entry_layout ≡ 64 + 320)
    × (apply_cost (with_entries_header 44 (little 4 5)) 5 5 entry_layout ≡ 64 + 320)
    × (apply_cost (with_bytes 0xf0 (little 8 0x1000) one_call) 5 1 entry_layout ≡ 64 + 320)
    × (apply_cost (with_bytes 0xf0 (little 8 468) one_call) 5 1 entry_layout ≡ 64 + 320)
    × (apply_cost one_call 4 1 entry_layout ≡ 64)
    × (apply_cost_in_order one_call 4 1 entry_layout ≡ 64)

-- in a section without bytes a pass to check is enough, so that two passes are the larger bound
abbrev pub CostsWithoutBytes : Type 0
CostsWithoutBytes =
    (apply_cost (relocated [] (relocation 0 0 0)) 3 1 empty_layout ≡ 64 + 192 + 48)
    × (apply_cost_in_order (relocated [] (relocation 0 0 0)) 3 1 empty_layout ≡ 64 + 192 + 2 * 48)
