-- The program headers that are loaded besides a file's section headers: where they describe its
-- tables.
use Rattle.std.specs.Prelude.{ℕ, ◌≡◌, ◌*◌, ◌^◌, ◌<◌, ◌≤◌, ◌==◌, ◌&&◌, ◌||◌, Bool, List, Option, None, Some, Result, Ok, Err, if◌then◌else◌}
use Rattle.elf_model.specs.Prelude.{Check, IsBudgetRefusal, ListingStyle, SEGMENTS, cost_where, first_refusal, has, lies_in_segments}
use Rattle.elf_source.specs.Source.{CountedState}
use Rattle.elf_table.specs.Prelude.{HoldsSegments, IsOpen, LoadedFile, SegmentsInBounds, StoreState}
use Rattle.elf_table.specs.declared.fault.Fault.{Fault}
use Rattle.elf_table.specs.declared.fault.Fault.TheVariants.{Refused, Source}

-- the parts of a file without sections, in a style, need its program headers
abbrev pub needs_segment_view : ListingStyle → ℕ → LoadedFile → Bool
needs_segment_view style parts loaded = loaded.header.e_shnum == 0 && (has parts SEGMENTS || lies_in_segments style parts)

-- how many program headers are loaded
abbrev pub viewed_headers : ListingStyle → ℕ → LoadedFile → ℕ
viewed_headers style parts loaded = if needs_segment_view style parts loaded then loaded.header.e_phnum else 0

-- how many bytes that reads
abbrev pub view_cost : ListingStyle → ℕ → LoadedFile → ℕ
view_cost style parts loaded = cost_where (needs_segment_view style parts loaded) (56 * loaded.header.e_phnum)

-- the length of a file passes its checks: it has a file header, and offsets in it may be added
pub record HasLength (size : ℕ) : Type 0 where
  pub least : 64 ≤ size
  pub small : size < 2 ^ 63

-- if program headers are loaded, all of them are, and they are those of the source's file
pub record IsViewed (file : Option (List ℕ)) (loaded : LoadedFile) (store : StoreState) : Type 0 where
  pub fits : HasLength loaded.size
  pub all : 0 < store.segments → store.segments ≡ loaded.header.e_phnum
  pub held : (bytes : List ℕ) → file ≡ Some bytes → HoldsSegments bytes store

-- THE PROGRAM HEADERS WERE READ AND CHECKED: all checks pass; or a read failed, or the refusal is
-- the first check that fails
abbrev pub ChecksView : List Check → Result (Unit {0}) Fault → Type 0
ChecksView checks (Ok passed) = first_refusal checks ≡ None
ChecksView checks (Err (Refused refusal)) = (IsBudgetRefusal refusal → ⊥) → first_refusal checks ≡ Some refusal
ChecksView checks (Err (Source fault at)) = Unit {0}

-- what holds before the program headers of a file are loaded: its section headers are in the store,
-- which has a slot for each program header
pub record MayLoadView (size : ℕ) (loaded : LoadedFile) (store : StoreState) : Type 0 where
  pub whole : store.loaded ≡ loaded.header.e_shnum
  pub none : store.segments ≡ 0
  pub room : loaded.header.e_phnum ≤ store.slots
  pub within : SegmentsInBounds size loaded.header

-- what holds when the tables of a file are listed: what was loaded is its source's, with the
-- program headers if the parts need them
pub record IsReady (style : ListingStyle) (parts : ℕ) (src : CountedState) (loaded : LoadedFile) (store : StoreState) : Type 0 where
  pub opened : IsOpen src loaded store
  pub whole : store.loaded ≡ loaded.header.e_shnum
  pub counted : store.segments ≡ viewed_headers style parts loaded
  pub viewed : IsViewed src.seen.file loaded store
