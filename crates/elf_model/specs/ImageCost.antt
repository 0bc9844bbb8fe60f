-- How many bytes may be read to make the image of a segment, and what is printed of it.
use Rattle.std.specs.Prelude.{ℕ, ◌+◌, ◌-◌, ◌*◌, ◌/◌, ◌==◌, ◌&&◌, ◌||◌, nat_lt, not, Bool, List, length, filter, Option, None, Some}
use Rattle.std.specs.List.{list_any}
use Rattle.elf_model.specs.Answer.{Answer}
use Rattle.elf_model.specs.Apply.{places_from}
use Rattle.elf_model.specs.FindApplyAnswer.{applied_status, applied_text}
use Rattle.elf_model.specs.ImageChecks.{LoadedTable, linkage_table, rela_table, relative_table}
use Rattle.elf_model.specs.Image.{SegmentWrite, image}
use Rattle.elf_model.specs.ImageItems.{ItemValues}
use Rattle.elf_model.specs.LoaderScope.{dynamic_segment_index}
use Rattle.elf_model.specs.Records.{FILE_HEADER_SIZE, PROGRAM_HEADER_SIZE, e_phnum, p_filesz, p_memsz, segment_at}
use Rattle.elf_model.specs.Tables.{RELA_SIZE, RELR_SIZE, SYMBOL_SIZE}

-- how many windows of a size a segment has in memory
abbrev pub windows_of : List ℕ → (segment window : ℕ) → ℕ
windows_of file segment window = (p_memsz file (segment_at file segment) + (window - 1)) / window

-- a write may change bytes in the window of an index
abbrev pub meets_window : (window index : ℕ) → SegmentWrite → Bool
meets_window window index write =
    nat_lt write.stored.at (window * index + window)
    && (nat_lt (window * index) (write.stored.at + write.size) && not (write.size == 0))

-- for how many windows it is known whether a write meets them
abbrev pub MARKED_WINDOWS : ℕ
MARKED_WINDOWS = 4096

-- how many windows, of a count, writes to a segment meet; those after the marked ones count as met
unfoldable pub met_windows : (window count : ℕ) → List SegmentWrite → ℕ
met_windows window count writes =
    length (filter (λ k. not (nat_lt k MARKED_WINDOWS) || list_any (meets_window window k) writes) (places_from (λ k. k) 0 count))

-- how many rows a table has
abbrev rows_of : Option LoadedTable → ℕ
rows_of None = 0
rows_of (Some table) = table.count

-- what one pass over the relocations reads: the relative ones, and of each entry itself, its symbol,
-- and itself again if resolvers are called
unfoldable pub relocation_pass : List ℕ → (at : ℕ) → ℕ
relocation_pass file at =
    RELR_SIZE * rows_of (relative_table file at)
    + (RELA_SIZE + SYMBOL_SIZE + RELA_SIZE) * (rows_of (rela_table file at) + rows_of (linkage_table file at))

-- the dynamic entries, and passes over the relocations: none without dynamic entries
unfoldable pub relocations_cost : List ℕ → (passes : ℕ) → ℕ
relocations_cost file passes = elim (dynamic_segment_index file) [
  | None ↦ 0
  | Some index ↦ let at = segment_at file index in p_filesz file at + passes * relocation_pass file at
]

-- HOW MANY BYTES AN IMAGE READS at most, in windows of a size of which this many are met: the
-- headers; the dynamic entries and the relocations, which are read once to be checked and once for
-- each of these windows; the segment, and seven bytes at both ends of each window, since a word of
-- eight bytes may lie over it
unfoldable pub image_cost : List ℕ → (segment window met : ℕ) → ℕ
image_cost file segment window met =
    FILE_HEADER_SIZE + PROGRAM_HEADER_SIZE * e_phnum file
    + relocations_cost file (met + 1)
    + p_filesz file (segment_at file segment) + 14 * windows_of file segment window

-- `image`: the bytes of a segment, or the refusal's line
abbrev pub image_answer : List ℕ → (headers segment most : ℕ) → ItemValues → Answer
image_answer file headers segment most items =
    let result = image file headers segment most items in
    record { text = applied_text result; status = applied_status result }
