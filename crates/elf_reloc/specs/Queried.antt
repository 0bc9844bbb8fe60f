-- The bytes of a section or of a program header, as they are in the file.
use Rattle.std.specs.Prelude.{ℕ, ◌≡◌, ◌+◌, ◌*◌, ◌^◌, ◌<◌, ◌≤◌, true, false, if◌then◌else◌, Bool, List, [], ◌++◌, is_none, Option, None, Some, option_map, Result, Ok, Err, IfErr, IfSome}
use Rattle.elf_model.specs.Archive.{FileRange, bytes_in}
use Rattle.elf_model.specs.BytesQuery.{BytesQuery, OfName, OfSection, OfSegment, bytes_ceiling, bytes_cost, compared_bytes, headers_cost, queried_file, queried_range, range_by_section, range_if_passed, range_of_segment}
use Rattle.elf_model.specs.Prelude.{FILE_HEADER_SIZE, IsBudgetRefusal, SECTION_HEADER_SIZE, before_headers, cost_where, e_shnum, first_refusal, has_no_bytes, header_checks, load_checks, range_checks}
use Rattle.elf_model.specs.declared.causes.Refusal.{Refusal}
use Rattle.elf_source.specs.Prelude.{CountedState, OutGrows, OutState, SinkTakes, SinkTakesPrefix}
use Rattle.elf_hash.specs.Loading.{segments_load_cost}
use Rattle.elf_table.specs.Prelude.{CallReads, HoldsSectionHeaders, LoadedFile, StoreState, fault_of_result}
use Rattle.elf_table.specs.declared.fault.Fault.{Fault}
use Rattle.elf_table.specs.declared.fault.Fault.TheVariants.{Refused as Refuses, Source as Unread}
use Rattle.elf_table.specs.declared.run_fault.RunFault.{RunFault}
use Rattle.elf_table.specs.declared.run_fault.RunFault.TheVariants.{Refused, Source, Out}
use Rattle.elf_reloc.specs.Applied.{ApplySays, BudgetTooSmall, ReadsWithin}
use Rattle.elf_reloc.specs.declared.wanted_bytes.WantedBytes.{WantedBytes}
use Rattle.elf_reloc.specs.declared.wanted_bytes.WantedBytes.TheVariants.{Section, Name, Segment}

-- what is requested, in the definition's words
abbrev pub query_as : WantedBytes → BytesQuery
query_as (Section section) = OfSection section
query_as (Name name) = OfName name.bytes.now
query_as (Segment segment) = OfSegment segment

-- a range, by its offset and its number of bytes
abbrev pub range_as : ℕ × ℕ → FileRange
range_as range = record { at = range.0; size = range.1 }

-- the same as what is found
abbrev pub one_range : ℕ × ℕ → Option FileRange
one_range range = Some (range_as range)

abbrev pub some_range : Option (ℕ × ℕ) → Option FileRange
some_range found = option_map range_as found

-- what is found is the definition's, or the refusal is, unless that is `Budget`
abbrev pub FindsAs : {X Y : Type 0} → (X → Y) → Result X Fault → Result Y Refusal → Type 0
FindsAs as_found (Ok found) answer = answer ≡ Ok (as_found found)
FindsAs as_found (Err (Refuses refusal)) answer = (IsBudgetRefusal refusal → ⊥) → answer ≡ Err refusal
FindsAs as_found (Err (Unread fault at)) answer = Unit {0}

-- the range that a section has in the file, by its header, or the refusal if it ends past the end
abbrev pub held_range_of : List ℕ → ℕ → Result (Option FileRange) Refusal
held_range_of file at = range_if_passed (if has_no_bytes file at then [] else range_checks file at) (range_by_section file at)

-- a range ends within a source of a size, whose offsets fit
pub record EndsWithin (size : ℕ) (range : ℕ × ℕ) : Type 0 where
  pub within : range.0 + range.1 ≤ size
  pub fits : size < 2 ^ 64

-- how many bytes of section headers are read: those that the file has, if the checks before them
-- pass
abbrev pub sections_load_cost : List ℕ → ℕ → ℕ
sections_load_cost file headers = FILE_HEADER_SIZE + cost_where (is_none (first_refusal (before_headers file headers))) (SECTION_HEADER_SIZE * e_shnum file)

-- the checks pass, and the store holds the section headers; or the first check that fails, unless a
-- read failed
abbrev pub LoadsSections : List ℕ → ℕ → StoreState → Result LoadedFile Fault → Type 0
LoadsSections file headers store (Ok loaded) = (first_refusal (header_checks file ++ load_checks file headers) ≡ None) × HoldsSectionHeaders file loaded store
LoadsSections file headers store (Err (Refuses refusal)) = (IsBudgetRefusal refusal → ⊥) → first_refusal (header_checks file ++ load_checks file headers) ≡ Some refusal
LoadsSections file headers store (Err (Unread fault at)) = Unit {0}

-- THE LOAD of a known file: its cost, and its result
pub record LoadsAll (file : List ℕ) (headers : ℕ) (store : StoreState) (old new : CountedState) (result : Result LoadedFile Fault) : Type 0 where
  pub costs : CallReads old new (fault_of_result result) (sections_load_cost file headers)
  pub loads : LoadsSections file headers store result

-- for every source: the loaded file is as long as it, and its section headers are no more than the
-- store has slots
pub record HoldsAll (size : ℕ) (store : StoreState) (loaded : LoadedFile) : Type 0 where
  pub same_size : loaded.size ≡ size
  pub whole : store.loaded ≡ loaded.header.e_shnum
  pub few : store.loaded ≤ store.slots
  pub fits : size < 2 ^ 64

-- how many bytes are read until the range is known
abbrev pub range_cost : List ℕ → ℕ → BytesQuery → ℕ
range_cost file headers query =
    FILE_HEADER_SIZE
    + cost_where (is_none (first_refusal (before_headers (queried_file query file) headers))) (headers_cost (queried_file query file) query)

-- for every source
abbrev pub range_ceiling : ℕ → BytesQuery → ℕ
range_ceiling headers query = FILE_HEADER_SIZE + headers * (SECTION_HEADER_SIZE + compared_bytes query)

-- the range of a program header of a file that locates no section headers
abbrev pub range_if_loaded : List ℕ → ℕ → ℕ → Result (Option FileRange) Refusal
range_if_loaded file headers segment = elim (first_refusal (header_checks file ++ load_checks file headers)) [
  | Some refusal ↦ Err refusal
  | None ↦ range_of_segment file segment
]

-- THE RANGE of a known file: what it costs to find it, and the range
pub record FindsQueried {X : Type 0} (as_found : X → Option FileRange) (file : List ℕ) (headers : ℕ) (query : BytesQuery) (old new : CountedState) (result : Result X Fault) : Type 0 where
  pub costs : CallReads old new (fault_of_result result) (range_cost file headers query)
  pub finds : FindsAs as_found result (queried_range file headers query)

-- the same of a program header, in a file that locates no section headers
pub record ShowsRange (file : List ℕ) (headers segment : ℕ) (old new : CountedState) (result : Result (ℕ × ℕ) Fault) : Type 0 where
  pub costs : CallReads old new (fault_of_result result) (segments_load_cost file headers)
  pub finds : FindsAs one_range result (range_if_loaded file headers segment)

-- the bytes of a range that is found
abbrev pub found_bytes : List ℕ → Result (Option FileRange) Refusal → List ℕ
found_bytes file (Ok (Some range)) = bytes_in file range
found_bytes file (Ok None) = []
found_bytes file (Err refusal) = []

-- WHAT IS WRITTEN: all bytes of the range; nothing if there is no section of the name, if it is
-- refused, or with `Budget`; a prefix of them on a fault
abbrev pub WritesFound : OutState → OutState → Result Bool RunFault → List ℕ → Result (Option FileRange) Refusal → Type 0
WritesFound old new (Ok true) file answer = (range : FileRange) × (answer ≡ Ok (Some range)) × SinkTakes old new (bytes_in file range)
WritesFound old new (Ok false) file answer = (answer ≡ Ok None) × (new ≡ old)
WritesFound old new (Err (Refused refusal)) file answer = ((IsBudgetRefusal refusal → ⊥) → answer ≡ Err refusal) × (new ≡ old)
WritesFound old new (Err (Source fault at)) file answer = SinkTakesPrefix old new (found_bytes file answer)
WritesFound old new (Err (Out fault)) file answer = SinkTakesPrefix old new (found_bytes file answer)

-- THE EFFECT OF A CALL that writes the bytes that are requested, with a number of slots for headers
pub record WritesQueried (before after : CountedState) (old new : OutState) (result : Result Bool RunFault) (slots : ℕ) (query : BytesQuery) : Type 0 where
  pub says : IfErr result (ApplySays before after new (bytes_ceiling before.seen.size slots query))
  pub text : (file : List ℕ) → before.seen.file ≡ Some file → WritesFound old new result file (queried_range file slots query)
  pub enough : (file : List ℕ) → before.seen.file ≡ Some file → IfErr result (BudgetTooSmall before (bytes_cost file slots query))
  pub cost : (file : List ℕ) → before.seen.file ≡ Some file → after.asked ≤ before.asked + bytes_cost file slots query
  pub reads : ReadsWithin before after (bytes_ceiling before.seen.size slots query)
  pub grows : OutGrows old new
  pub wrote : new.written ≤ old.written + before.seen.size
