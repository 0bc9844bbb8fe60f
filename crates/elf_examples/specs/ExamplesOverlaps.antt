-- Worked examples of a loader's lookup in libraries whose LOAD segments overlap.
use Rattle.std.specs.Prelude.{ℕ, ◌-◌, ◌^◌, List, ◌++◌, codes}
use Rattle.elf_model.specs.Prelude.{little, program_header, versioned_library, versioned_without_sections, with_bytes}
use Rattle.elf_examples.specs.LoaderWords.{LoaderCosts, Fails, LoaderFinds, found_2, of_v2, second_f}

-- a segment that is loaded at an address, of this many bytes in memory and none in the file
abbrev load : (address size : ℕ) → List ℕ
load address size = with_bytes 0x20 (little 8 0) (program_header 1 6 0 address size 0x1000)

-- the library without section headers with other program headers, at 0x2f0: its own two, and some
-- more
abbrev with_loads : ℕ → List ℕ → List ℕ
with_loads count more =
    with_bytes 0x20 (little 8 0x2f0) (with_bytes 0x38 (little 2 count) versioned_without_sections)
    ++ (program_header 1 6 0 0 0x2f0 0x1000 ++ program_header 2 6 0x230 0x230 0xc0 8)
    ++ more

-- the lines of what is found by the program headers
abbrev found_lines : List ℕ
found_lines =
    codes "Y     1          4 00000000000002a9 0000000000000001 FUNC    GLOBAL DEFAULT       7 f\n"
    ++ codes "X     1          4     3 - V2\n"
    ++ found_2

-- a segment on the page that has the tables is refused at its program header; one on the next page,
-- and one that takes up no memory, is not
abbrev pub OverlapsAreRefused : Type 0
OverlapsAreRefused =
    Fails (with_loads 3 (load 0x800 1)) (codes "f") (codes "! 0000000000000360 load-overlap\n")
    × LoaderCosts (with_loads 3 (load 0x800 1)) (codes "f") 452
    × LoaderFinds (with_loads 3 (load 0x1000 1)) (codes "f") found_lines
    × LoaderFinds (with_loads 3 (load 0x800 0)) (codes "f") found_lines
    × Fails (with_loads 4 (load 0x5000 0 ++ load 0x800 1)) (codes "f") (codes "! 0000000000000398 load-overlap\n")
    × Fails (with_loads 4 (load (2 ^ 64 - 0x1000) 0x2000 ++ load 0x1000 1)) (codes "f") (codes "! 0000000000000398 load-overlap\n")

-- it comes before the refusals of the dynamic entries, and after the load checks; and with section
-- headers it is not checked
abbrev pub OverlapsBeforeTheEntries : Type 0
OverlapsBeforeTheEntries =
    Fails (with_bytes 0x78 (little 4 1) versioned_without_sections) (codes "f") (codes "! 0000000000000078 load-overlap\n")
    × Fails (with_bytes 0x38 (little 2 9) (with_loads 3 (load 0x800 1))) (codes "f") (codes "! 0000000000000038 too-many-headers\n")
    × LoaderFinds (with_bytes 0x78 (little 4 1) versioned_library) (codes "f") (second_f ++ of_v2 ++ found_2)
