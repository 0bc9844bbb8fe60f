-- THE IMAGE OF A SEGMENT: the bytes that a LOAD segment of a program or shared library for x86-64
-- has once a loader has applied the relocations of the dynamic entries (gABI 5, Program Loading,
-- Dynamic Linking; x86-64 psABI, Relocation). The definitions are over a file that has no section
-- headers; the image is of the bytes of the file as it is. A program header of dynamic entries is at
-- an offset `at`, a relocation entry at an offset `rela`.
use Rattle.std.specs.Prelude.{ℕ, ◌+◌, ◌-◌, ◌*◌, ◌/◌, ◌%◌, ◌^◌, ◌==◌, ◌&&◌, ◌||◌, nat_lt, not, if◌then◌else◌, Bool, true, false, List, [], ◌∷◌, ◌++◌, length, replicate, flat_map, map, filter, Option, None, Some, option_to_list, unwrap_or, Result, Ok, Err}
use Rattle.std.specs.List.{list_any}
use Rattle.elf_model.specs.Apply.{StoredBytes, patched, places_from}
use Rattle.elf_model.specs.Bytes.{field, little, slice}
use Rattle.elf_model.specs.Checks.{Check, first_refusal, refuse}
use Rattle.elf_model.specs.Find.{first_that}
use Rattle.elf_model.specs.ImageItems.{ItemValues}
use Rattle.elf_model.specs.ImageValues.{changed_size, dynamic_symbol_checks, dynamic_type, entry_symbol, stored_bytes}
use Rattle.elf_model.specs.LoaderScope.{dynamic_segment_index, tagged_row}
use Rattle.elf_model.specs.Numbers.{DT_RELACOUNT, DT_SYMTAB, PT_LOAD, R_X86_64_IRELATIVE, R_X86_64_NONE, R_X86_64_RELATIVE}
use Rattle.elf_model.specs.Records.{d_un, e_phnum, p_filesz, p_memsz, p_offset, p_type, p_vaddr, r_offset, r_type, relr_word, segment_at}
use Rattle.elf_model.specs.RelativeRelocations.{LAST_ADDRESS, RELR_BITS, bitmap_base, is_bitmap}
use Rattle.elf_model.specs.Style.{without_sections}
use Rattle.elf_model.specs.Tables.{DYNAMIC_SIZE, RELA_SIZE, RELR_SIZE}
use Rattle.elf_model.specs.TraitNumbers.{PF_W}
use Rattle.elf_model.specs.Traits.{has_text_relocations, permits}
use Rattle.elf_model.specs.declared.causes.Cause.{Cause}
use Rattle.elf_model.specs.declared.causes.Cause.TheVariants.{PlaceOutside, Relr, TableWritten, Undefined, Unplaced, Unsupported}
use Rattle.elf_model.specs.declared.causes.Refusal.{Refusal}
use Rattle.elf_model.specs.declared.dynamic_types.DynamicType.{DynamicType}
use Rattle.elf_model.specs.ImageChecks.{LoadedTable, entries_end, image_checks, image_rows_of, linkage_table, rela_table, relative_table, requested_checks, row_value}

-- PLACES. A LOAD segment has this many bytes at an address in memory
abbrev pub holds_in_memory : List ℕ → (at address size : ℕ) → Bool
holds_in_memory file at address size =
    p_type file at == PT_LOAD
    && not (nat_lt address (p_vaddr file at))
    && not (nat_lt (p_vaddr file at + p_memsz file at) (address + size))

-- the index of the segment that has them: there is at most one if no LOAD segment overlaps another
unfoldable pub holder_of : List ℕ → (address size : ℕ) → Option ℕ
holder_of file address size = first_that (λ i. holds_in_memory file (segment_at file i) address size) 0 (e_phnum file)

-- the addresses of the tables that a loader reads
unfoldable pub read_addresses : List ℕ → ℕ → List ℕ
read_addresses file at =
    map (λ loaded. loaded.address) (option_to_list (relative_table file at))
    ++ map (λ loaded. loaded.address) (option_to_list (rela_table file at))
    ++ map (λ loaded. loaded.address) (option_to_list (linkage_table file at))
    ++ map (d_un file) (option_to_list (tagged_row file at DT_SYMTAB))

-- the first byte of a table is in the segment of an index
abbrev pub has_table : List ℕ → (segment address : ℕ) → Bool
has_table file segment address = elim (holder_of file address 1) [ None ↦ false | Some i ↦ i == segment ]

-- the bytes at an address are among those of the dynamic entries
abbrev pub meets_rows : List ℕ → (at address size : ℕ) → Bool
meets_rows file at address size =
    nat_lt address (p_vaddr file at + DYNAMIC_SIZE * length (image_rows_of file at)) && nat_lt (p_vaddr file at) (address + size)

-- THE CHECKS OF A PLACE, which refuse at an offset: a segment has it, which may be written, and has
-- no table that a loader reads, and the place has no dynamic entries: so relocations do not change
-- what says which they are
unfoldable pub place_checks : List ℕ → (at refused_at address size : ℕ) → List Check
place_checks file at refused_at address size = elim (holder_of file address size) [
  | None ↦ refuse true refused_at PlaceOutside ∷ []
  | Some i ↦
      refuse (not (permits file PF_W i || has_text_relocations file)) refused_at PlaceOutside
      ∷ refuse
      (list_any (has_table file i) (read_addresses file at) || meets_rows file at address size)
      refused_at TableWritten
      ∷ []
]

-- CHANGES. Bytes that are stored at an offset of a segment, by the index of its program header, and
-- how many bytes from there may be changed
pub record SegmentWrite : Type 0 where
  pub segment : ℕ
  pub size : ℕ
  pub stored : StoredBytes

-- what a relocation does: nothing; bytes are stored; an item of the entry at an offset is not there,
-- and the cause of that; or the image is refused
pub data ImageChange : Type 0 where
  Keeps : ImageChange
  Stores : SegmentWrite → ImageChange
  Lacks : Refusal → ImageChange
  Refuses : Refusal → ImageChange

-- bytes are stored at an address
unfoldable pub stored_at : List ℕ → (address size : ℕ) → List ℕ → ImageChange
stored_at file address size bytes =
    let segment = unwrap_or (holder_of file address size) 0 in
    Stores (record {
      segment = segment;
      size = size;
      stored = record { at = address - p_vaddr file (segment_at file segment); bytes = bytes };
    })

-- the bytes of a segment before relocations: those of the file, and zeros after them (gABI 5, Program
-- Header)
unfoldable pub unrelocated : (whole file : List ℕ) → (at : ℕ) → List ℕ
unrelocated whole file at = slice whole (p_offset file at) (p_filesz file at) ++ replicate (p_memsz file at - p_filesz file at) 0

-- the word at an address before relocations
unfoldable pub word_before : (whole file : List ℕ) → (address : ℕ) → ℕ
word_before whole file address =
    let at = segment_at file (unwrap_or (holder_of file address 8) 0) in
    field (unrelocated whole file at) (address - p_vaddr file at) 8

-- RELATIVE RELOCATIONS (gABI 4, Relative Relocation Table): an address that a word at an offset
-- gives, or none if it is a bitmap that no address precedes
pub record RelativeAddress : Type 0 where
  pub word_at : ℕ
  pub address : Option ℕ

-- that of a bit of a bitmap, if it is set
unfoldable pub bit_address : (word_at base word bit : ℕ) → List RelativeAddress
bit_address word_at base word bit =
    if word / 2 ^ (bit + 1) % 2 == 1 then record { word_at = word_at; address = Some (base + 8 * bit) } ∷ [] else []

-- those of a word
unfoldable pub word_addresses : (word_at : ℕ) → Option ℕ → (word : ℕ) → List RelativeAddress
word_addresses word_at base word =
    if is_bitmap word then (elim base [
      | None ↦ record { word_at = word_at; address = None } ∷ []
      | Some address ↦ flat_map (bit_address word_at address word) (places_from (λ bit. bit) 0 RELR_BITS)
    ])
    else record { word_at = word_at; address = Some word } ∷ []

-- those of a table
unfoldable pub table_addresses : List ℕ → LoadedTable → List RelativeAddress
table_addresses file table =
    flat_map (λ i.
    let word_at = table.place + RELR_SIZE * i in
    word_addresses word_at (bitmap_base file table.place i) (relr_word file word_at))
    (places_from (λ i. i) 0 table.count)

-- WHAT IS RELOCATED: the whole file, the same without section headers, its program header of dynamic
-- entries, and the items
pub record ImageSource : Type 0 where
  pub whole : List ℕ
  pub file : List ℕ
  pub at : ℕ
  pub items : ItemValues

-- what relative relocations do: each is at least 8 bytes after the one before it, the first at least
-- at `low`, and adds the load address to the word at its address
unfoldable pub relative_changes : ImageSource → (low : ℕ) → List RelativeAddress → List ImageChange
relative_changes source low [] = []
relative_changes source low (row ∷ rows) = elim row.address [
  | None ↦ Refuses (record { at = row.word_at; cause = Relr }) ∷ []
  | Some address ↦
      elim (first_refusal (refuse (nat_lt LAST_ADDRESS address || nat_lt address low) row.word_at Relr
      ∷ place_checks source.file source.at row.word_at address 8)) [
        | Some refusal ↦ Refuses refusal ∷ []
        | None ↦
            stored_at source.file address 8 (little 8 ((word_before source.whole source.file address + source.items.base) % 2 ^ 64))
            ∷ relative_changes source (address + 8) rows
      ]
]

-- ENTRIES WITH ADDENDS. A cause is that of an item that is not there
abbrev pub is_lack : Cause → Bool
is_lack Undefined = true
is_lack Unplaced = true
is_lack _ = false

-- what an entry does by the bytes that it stores at its place, of this many bytes
unfoldable pub change_by : ImageSource → (rela size : ℕ) → Result (List ℕ) Cause → ImageChange
change_by source rela size (Ok bytes) = stored_at source.file (r_offset source.file rela) size bytes
change_by source rela size (Err cause) =
    elim (is_lack cause) [ true ↦ Lacks (record { at = rela; cause = cause }) | false ↦ Refuses (record { at = rela; cause = cause }) ]

-- what an entry of a type does after the checks of its symbol and of its place
unfoldable pub change_of_type : ImageSource → (rela : ℕ) → Option DynamicType → ImageChange
change_of_type source rela None = Refuses (record { at = rela; cause = Unsupported })
change_of_type source rela (Some type) =
    let symbol = entry_symbol source.file source.at rela in
    let size = changed_size type source.file symbol in
    elim (first_refusal (dynamic_symbol_checks type source.file source.at rela
    ++ place_checks source.file source.at rela (r_offset source.file rela) size)) [
      | Some refusal ↦ Refuses refusal
      | None ↦ change_by source rela size (stored_bytes type source.file source.items rela symbol)
    ]

-- what an entry does: R_X86_64_NONE does nothing, and nothing of it is checked
unfoldable pub entry_change : ImageSource → (rela : ℕ) → ImageChange
entry_change source rela =
    if r_type source.file rela == R_X86_64_NONE then Keeps
    else change_of_type source rela (dynamic_type (r_type source.file rela))

-- the type of an entry is R_X86_64_IRELATIVE: a resolver may use what other entries store, so it is
-- called after these (x86-64 psABI, R_X86_64_IRELATIVE)
abbrev pub is_resolved : List ℕ → ℕ → Bool
is_resolved file rela = r_type file rela == R_X86_64_IRELATIVE

-- what an entry does before resolvers are called: nothing if it needs one; if it is one of the first
-- that are said to be relative, it is
unfoldable pub direct_change : ImageSource → (relative : Bool) → (rela : ℕ) → ImageChange
direct_change source relative rela =
    if relative && not (r_type source.file rela == R_X86_64_RELATIVE) then Refuses (record { at = rela; cause = Unsupported })
    else if is_resolved source.file rela then Keeps
    else entry_change source rela

-- what entries do before resolvers are called, of which the first `count` are said to be relative
unfoldable pub direct_changes : ImageSource → (count : ℕ) → List ℕ → List ImageChange
direct_changes source count [] = []
direct_changes source count (rela ∷ relas) =
    direct_change source (nat_lt 0 count) rela ∷ direct_changes source (count - 1) relas

-- what the others do
unfoldable pub resolved_changes : ImageSource → List ℕ → List ImageChange
resolved_changes source relas = map (entry_change source) (filter (is_resolved source.file) relas)

-- what the entries of a range do
abbrev pub range_changes : ImageSource → (count : ℕ) → List ℕ → List ImageChange
range_changes source count relas = direct_changes source count relas ++ resolved_changes source relas

-- RANGES. The offsets of the first entries of a table, as many as a count
unfoldable pub first_entries : LoadedTable → (count : ℕ) → List ℕ
first_entries table count = places_from (λ i. table.place + RELA_SIZE * i) 0 count

-- how many entries of a table are before another that ends where it ends
abbrev pub count_before : (entries calls : LoadedTable) → ℕ
count_before entries calls = if entries_end calls == entries_end entries then entries.count - calls.count else entries.count

-- the entries of two tables, the second of them those of the procedure linkage table: a range of
-- both if that begins where the other ends, otherwise one of each
unfoldable pub entry_ranges : Option LoadedTable → Option LoadedTable → List ℕ × List ℕ
entry_ranges None None = ([], [])
entry_ranges (Some entries) None = (first_entries entries entries.count, [])
entry_ranges None (Some calls) = ([], first_entries calls calls.count)
entry_ranges (Some entries) (Some calls) =
    let count = count_before entries calls in
    elim (entries.address + RELA_SIZE * count == calls.address) [
      | true ↦ (first_entries entries count ++ first_entries calls calls.count, [])
      | false ↦ (first_entries entries count, first_entries calls calls.count)
    ]

-- ALL CHANGES in the order in which a loader makes them
unfoldable pub relocation_changes : ImageSource → List ImageChange
relocation_changes source =
    let file = source.file in
    let ranges = entry_ranges (rela_table file source.at) (linkage_table file source.at) in
    relative_changes source 0 (flat_map (table_addresses file) (option_to_list (relative_table file source.at)))
    ++ range_changes source (row_value file source.at DT_RELACOUNT) ranges.0
    ++ range_changes source 0 ranges.1

-- those of a file; none without dynamic entries
unfoldable pub image_changes : (whole file : List ℕ) → ItemValues → List ImageChange
image_changes whole file items = elim (dynamic_segment_index file) [
  | None ↦ []
  | Some index ↦ relocation_changes (record { whole = whole; file = file; at = segment_at file index; items = items })
]

-- a write before others, unless there is a refusal among those
unfoldable pub and_writes : SegmentWrite → Result (List SegmentWrite) Refusal → Result (List SegmentWrite) Refusal
and_writes write (Err refusal) = Err refusal
and_writes write (Ok writes) = Ok (write ∷ writes)

-- all that is stored, or the first refusal: an entry without its item is refused unless the items are
-- partial
unfoldable pub writes_of : (partial : Bool) → List ImageChange → Result (List SegmentWrite) Refusal
writes_of partial [] = Ok []
writes_of partial (Keeps ∷ changes) = writes_of partial changes
writes_of partial (Refuses refusal ∷ changes) = Err refusal
writes_of partial (Lacks refusal ∷ changes) = elim partial [ true ↦ writes_of partial changes | false ↦ Err refusal ]
writes_of partial (Stores write ∷ changes) = and_writes write (writes_of partial changes)

-- the writes to the segment of an index
abbrev pub writes_in : (segment : ℕ) → List SegmentWrite → List SegmentWrite
writes_in segment writes = filter (λ write. write.segment == segment) writes

-- what is stored in it
unfoldable pub stored_in : (segment : ℕ) → List SegmentWrite → List StoredBytes
stored_in segment writes = map (λ write. write.stored) (writes_in segment writes)

-- the bytes of a segment with what is stored
unfoldable pub relocated_segment : (whole file : List ℕ) → (segment : ℕ) → List SegmentWrite → List ℕ
relocated_segment whole file segment writes =
    patched (stored_in segment writes) (unrelocated whole file (segment_at file segment))

-- the image by the program headers, or the first refusal
unfoldable pub image_by_segments : (whole file : List ℕ) → (headers segment most : ℕ) → ItemValues → Result (List ℕ) Refusal
image_by_segments whole file headers segment most items =
    elim (first_refusal (image_checks file headers (requested_checks file segment most))) [
      | Some refusal ↦ Err refusal
      | None ↦ elim (writes_of items.partial (image_changes whole file items)) [
        | Err refusal ↦ Err refusal
        | Ok writes ↦ Ok (relocated_segment whole file segment writes)
      ]
    ]

-- THE IMAGE of a segment of at most this many bytes in memory, with this many headers allowed, or the
-- first refusal
unfoldable pub image : List ℕ → (headers segment most : ℕ) → ItemValues → Result (List ℕ) Refusal
image file headers segment most items = image_by_segments file (without_sections file) headers segment most items
