-- Overlapping LOAD segments. A loader maps them in the order of their program headers, by whole
-- pages, and a later one covers an earlier one, so in a file with two on one page the first that
-- has an address is not what a process sees there (gABI 5, Program Header, Program Loading). A
-- program header is at an offset of the file. Sums do not wrap.
use Rattle.std.specs.Prelude.{ℕ, zero, suc, ◌+◌, ◌/◌, ◌==◌, ◌&&◌, nat_lt, not, Bool, List, [], ◌∷◌, if◌then◌else◌}
use Rattle.elf_model.specs.Checks.{Check, refuse}
use Rattle.elf_model.specs.Numbers.{PT_LOAD}
use Rattle.elf_model.specs.Records.{e_phnum, p_type, p_vaddr, p_memsz, segment_at}
use Rattle.elf_model.specs.declared.causes.Cause.TheVariants.{LoadOverlap}

-- the smallest page of the system, in bytes
abbrev pub PAGE_SIZE : ℕ
PAGE_SIZE = 4096

-- a LOAD segment takes up memory
abbrev pub takes_memory : List ℕ → ℕ → Bool
takes_memory file at = p_type file at == PT_LOAD && not (p_memsz file at == 0)

-- the page of its first byte in memory, and the first page after its last
abbrev pub first_page : List ℕ → ℕ → ℕ
first_page file at = p_vaddr file at / PAGE_SIZE

abbrev pub page_behind : List ℕ → ℕ → ℕ
page_behind file at = (p_vaddr file at + p_memsz file at + 4095) / PAGE_SIZE

-- the program headers of such segments, in their order: of this many from an index
unfoldable pub loads_from : List ℕ → (first count : ℕ) → List ℕ
loads_from file first zero = []
loads_from file first (suc count) =
    if takes_memory file (segment_at file first) then segment_at file first ∷ loads_from file (suc first) count
    else loads_from file (suc first) count

-- none of these segments begins below a page, and none of the others below the page after the one
-- before it
unfoldable pub overlaps_from : List ℕ → (page : ℕ) → (loads : List ℕ) → List Check
overlaps_from file page [] = []
overlaps_from file page (at ∷ loads) =
    refuse (nat_lt (first_page file at) page) at LoadOverlap ∷ overlaps_from file (page_behind file at) loads

-- no LOAD segment of the file begins on a page of the one before it, or below that; the first that
-- does is refused at its program header
unfoldable pub overlap_checks : List ℕ → List Check
overlap_checks file = overlaps_from file 0 (loads_from file 0 (e_phnum file))
