-- Loading a file's section headers.
use Rattle.std.specs.Prelude.{ℕ, ◌≡◌, ◌+◌, ◌*◌, ◌^◌, ◌<◌, ◌≤◌, List, length, is_none, None, Some, Result, Ok, Err}
use Rattle.elf_model.specs.Prelude.{Check, HeaderCounts, IsBudgetRefusal, cost_where, early_checks_of, first_refusal, length_checks, load_checks}
use Rattle.elf_record.specs.Prelude.{IsEhdr}
use Rattle.elf_record.specs.declared.ehdr.Ehdr.{Ehdr}
use Rattle.elf_source.specs.Source.{CountedState}
use Rattle.elf_table.specs.Store.{StoreState, HoldsSections, HoldsSegments}
use Rattle.elf_table.specs.declared.fault.Fault.{Fault}
use Rattle.elf_table.specs.declared.fault.Fault.TheVariants.{Refused, Source}

-- a file that was loaded: its length, and its file header
pub record LoadedFile : Type 0 where
  pub size : ℕ
  pub header : Ehdr

-- the counts and offsets that a decoded file header has for its headers
abbrev pub counts_of : Ehdr → HeaderCounts
counts_of header = record {
  phoff = header.e_phoff;
  shoff = header.e_shoff;
  phentsize = header.e_phentsize;
  phnum = header.e_phnum;
  shentsize = header.e_shentsize;
  shnum = header.e_shnum;
  shstrndx = header.e_shstrndx;
}

-- the checks before the section headers are read, over the fields of the file header
abbrev pub early_of : Ehdr → ℕ → ℕ → List Check
early_of header size headers = early_checks_of (counts_of header) size headers

-- the program headers, if there are any, end within a source of this size
abbrev pub SegmentsInBounds : ℕ → Ehdr → Type 0
SegmentsInBounds size header = 0 < header.e_phnum → header.e_phoff + 56 * header.e_phnum ≤ size

-- what those checks imply: headers within the file and within the slots, the section names among
-- the sections
pub record PassesLoadChecks (size headers : ℕ) (header : Ehdr) : Type 0 where
  pub few : header.e_shnum ≤ headers
  pub few_segments : header.e_phnum ≤ headers
  pub fits : size < 2 ^ 64
  pub sections : header.e_shoff + 64 * header.e_shnum ≤ size
  pub segments : SegmentsInBounds size header
  pub named : 0 < header.e_shnum → header.e_shstrndx < header.e_shnum

-- the file offset of the section header of an index
abbrev pub section_place : Ehdr → ℕ → ℕ
section_place header i = header.e_shoff + 64 * i

-- how many bytes are read for the file header of a file of this size
abbrev pub file_header_cost : ℕ → ℕ
file_header_cost size = cost_where (is_none (first_refusal (length_checks size))) 64

-- how many bytes a load reads at most, by the file header
abbrev pub load_cost : Ehdr → ℕ → ℕ → ℕ
load_cost header size headers = cost_where (is_none (first_refusal (early_of header size headers))) (64 * header.e_shnum)

-- a file of this size with this file header was loaded into the store, and its early checks pass
pub record IsOpened (loaded : LoadedFile) (size : ℕ) (header : Ehdr) (store : StoreState) : Type 0 where
  pub same_size : loaded.size ≡ size
  pub same_header : loaded.header ≡ header
  pub count : store.loaded ≡ header.e_shnum
  pub passes : PassesLoadChecks size store.slots header

-- the state after a load, for every source: a file that is opened, or nothing loaded
abbrev pub LoadOutcome : ℕ → Ehdr → StoreState → Result LoadedFile Fault → Type 0
LoadOutcome size header store (Ok loaded) = IsOpened loaded size header store
LoadOutcome size header store (Err fault) = store.loaded ≡ 0

-- this file was loaded, and the store holds its section headers
pub record HoldsSectionHeaders (file : List ℕ) (loaded : LoadedFile) (store : StoreState) : Type 0 where
  pub size : loaded.size ≡ length file
  pub header : IsEhdr file 0 loaded.header
  pub count : store.loaded ≡ loaded.header.e_shnum
  pub rows : HoldsSections file store
  pub passes : first_refusal (load_checks file store.slots) ≡ None

-- this file was loaded, and the store holds its program headers
pub record HoldsProgramHeaders (file : List ℕ) (loaded : LoadedFile) (store : StoreState) : Type 0 where
  pub belongs : HoldsSectionHeaders file loaded store
  pub count : store.segments ≡ loaded.header.e_phnum
  pub rows : HoldsSegments file store

-- the result of a load: a file that was loaded, or the first check that fails
abbrev pub LoadedAs : List ℕ → Result LoadedFile Fault → StoreState → Type 0
LoadedAs file (Ok loaded) store = HoldsSectionHeaders file loaded store
LoadedAs file (Err (Refused refusal)) store = (IsBudgetRefusal refusal → ⊥) → first_refusal (load_checks file store.slots) ≡ Some refusal
LoadedAs file (Err (Source fault at)) store = Unit {0}

-- a loaded file is that of a source: its size, and if the source has a file, that file
pub record IsOpen (src : CountedState) (loaded : LoadedFile) (store : StoreState) : Type 0 where
  pub size : loaded.size ≡ src.seen.size
  pub belongs : (file : List ℕ) → src.seen.file ≡ Some file → HoldsSectionHeaders file loaded store
