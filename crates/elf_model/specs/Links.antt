-- HOW A FILE IS LINKED, as its dynamic entries say to a loader (gABI 5, Dynamic Section and Shared
-- Object Dependencies): which libraries it needs, its own name as a library, and where libraries
-- are searched for. The definitions are over a file that has no section headers.
use Rattle.std.specs.Prelude.{ℕ, zero, suc, ◌+◌, ◌-◌, ◌*◌, ◌/◌, ◌==◌, ◌&&◌, ◌||◌, nat_lt, Bool, true, false, if◌then◌else◌, List, [], ◌∷◌, ◌++◌, length, Option, None, Some, Result, Ok, Err}
use Rattle.elf_model.specs.Bytes.{field}
use Rattle.elf_model.specs.Checks.{first_refusal, header_checks, load_checks}
use Rattle.elf_model.specs.Dynamic.{dynamic_count, listed_value}
use Rattle.elf_model.specs.LoaderScope.{dynamic_segment_index, lookup_tables_by_segments}
use Rattle.elf_model.specs.Mapped.{strings_at}
use Rattle.elf_model.specs.Names.{name_bytes, shown}
use Rattle.elf_model.specs.Names.DisplayedName.{Whole, Cut}
use Rattle.elf_model.specs.Numbers.{DT_NEEDED, DT_RPATH, DT_RUNPATH, DT_SONAME, DT_STRSZ, DT_STRTAB}
use Rattle.elf_model.specs.Records.{FILE_HEADER_SIZE, PROGRAM_HEADER_SIZE, d_tag, d_un, e_machine, has_elf_magic, p_filesz, p_offset, segment_at}
use Rattle.elf_model.specs.Style.{without_sections}
use Rattle.elf_model.specs.Tables.{DYNAMIC_SIZE, segment_dynamic_checks}
use Rattle.elf_model.specs.Traits.{has_none}
use Rattle.elf_model.specs.declared.causes.Cause.TheVariants.{TooLong}
use Rattle.elf_model.specs.declared.causes.Refusal.{Refusal}

-- the maximum number of bytes of a text
abbrev pub LINK_TEXT_BYTES : ℕ
LINK_TEXT_BYTES = 4096

-- a needed library: the offset of its entry, and its name
pub record NeededName : Type 0 where
  pub at : ℕ
  pub name : List ℕ

-- WHAT A FILE'S ENTRIES SAY: the libraries that it needs, in order; its name as a library; where
-- libraries are searched for, and the same in its place. Of the last three the first entry counts
pub record LinkTexts : Type 0 where
  pub needed : List NeededName
  pub soname : Option (List ℕ)
  pub rpath : Option (List ℕ)
  pub runpath : Option (List ℕ)

abbrev pub no_link_info : LinkTexts
no_link_info = record { needed = []; soname = None; rpath = None; runpath = None }

-- ROOM: for this many texts, of this many bytes together
pub record TextRoom : Type 0 where
  pub bytes : ℕ
  pub texts : ℕ

abbrev pub has_room : TextRoom → List ℕ → Bool
has_room room text = if nat_lt room.bytes (length text) then false else nat_lt 0 room.texts

-- what is left of it after a text
abbrev pub room_after : TextRoom → List ℕ → TextRoom
room_after room text = record { bytes = room.bytes - length text; texts = room.texts - 1 }

-- entries that have a text: their value is its index in their strings
abbrev pub is_link : ℕ → Bool
is_link tag = tag == DT_NEEDED || (tag == DT_SONAME || (tag == DT_RPATH || tag == DT_RUNPATH))

-- THE TEXT of the entry at an offset, in the strings that entries locate by an address and a size:
-- these and the text are refused at the entry, and so is a text that is longer than is read or for
-- which there is no room
unfoldable pub link_text : List ℕ → (address size : Option ℕ) → TextRoom → ℕ → Result (List ℕ) Refusal
link_text file address size room at = elim (strings_at file at address size) [
  | Err refusal ↦ Err refusal
  | Ok strings ↦ elim (shown strings (d_un file at) LINK_TEXT_BYTES) [
    | Err cause ↦ Err (record { at = at; cause = cause })
    | Ok (Cut front) ↦ Err (record { at = at; cause = TooLong })
    | Ok (Whole text) ↦ elim (has_room room text) [
      | false ↦ Err (record { at = at; cause = TooLong })
      | true ↦ Ok text
    ]
  ]
]

-- a text that was found, or one if an entry has a tag
abbrev pub first_text : Option (List ℕ) → Bool → List ℕ → Option (List ℕ)
first_text (Some told) is text = Some told
first_text None true text = Some text
first_text None false text = None

-- one more library, if an entry has that tag
abbrev pub needed_after : List NeededName → Bool → NeededName → List NeededName
needed_after needed true name = needed ++ name ∷ []
needed_after needed false name = needed

-- with the text of an entry of a tag, which is at an offset
unfoldable pub linked_by : (tag at : ℕ) → List ℕ → LinkTexts → LinkTexts
linked_by tag at text links = record {
  needed = needed_after links.needed (tag == DT_NEEDED) (record { at = at; name = text });
  soname = first_text links.soname (tag == DT_SONAME) text;
  rpath = first_text links.rpath (tag == DT_RPATH) text;
  runpath = first_text links.runpath (tag == DT_RUNPATH) text;
}

-- what entries say, and the room that is left
pub record LinkState : Type 0 where
  pub links : LinkTexts
  pub room : TextRoom

-- with the entry at an offset
unfoldable pub linked_with : List ℕ → (address size : Option ℕ) → (at : ℕ) → LinkState → Result LinkState Refusal
linked_with file address size at linked = elim (is_link (d_tag file at)) [
  | false ↦ Ok linked
  | true ↦ elim (link_text file address size linked.room at) [
    | Err refusal ↦ Err refusal
    | Ok text ↦ Ok (record { links = linked_by (d_tag file at) at text linked.links; room = room_after linked.room text })
  ]
]

-- with this many entries at an offset
unfoldable pub linked_from : List ℕ → (address size : Option ℕ) → (at : ℕ) → LinkState → ℕ → Result LinkState Refusal
linked_from file address size at linked zero = Ok linked
linked_from file address size at linked (suc n) = elim (linked_with file address size at linked) [
  | Err refusal ↦ Err refusal
  | Ok more ↦ linked_from file address size (at + DYNAMIC_SIZE) more n
]

-- what the listed entries of a table of n say, those up to and with the first DT_NULL
unfoldable pub linked_in : List ℕ → (at n : ℕ) → TextRoom → Result LinkState Refusal
linked_in file at n room =
    linked_from file (listed_value file at n DT_STRTAB) (listed_value file at n DT_STRSZ) at
    (record { links = no_link_info; room = room }) (dynamic_count file at n)

-- a lookup's tables are refused; a file without a hash table has none
unfoldable pub lookup_refusal : List ℕ → Option Refusal
lookup_refusal file = elim (lookup_tables_by_segments file) [
  | Ok scope ↦ None
  | Err refusal ↦ elim (has_none refusal.cause) [ true ↦ None | false ↦ Some refusal ]
]

-- what a file says once its headers are loaded, or its first refusal: of the lookup tables; of the
-- first segment of dynamic entries; of an entry
unfoldable pub loaded_links : List ℕ → TextRoom → Result LinkState Refusal
loaded_links file room = elim (lookup_refusal file) [
  | Some refusal ↦ Err refusal
  | None ↦ elim (dynamic_segment_index file) [
    | None ↦ Ok (record { links = no_link_info; room = room })
    | Some i ↦ elim (first_refusal (segment_dynamic_checks file (segment_at file i))) [
      | Some refusal ↦ Err refusal
      | None ↦ linked_in file (p_offset file (segment_at file i)) (p_filesz file (segment_at file i) / DYNAMIC_SIZE) room
    ]
  ]
]

unfoldable pub links_by_segments : List ℕ → (headers : ℕ) → TextRoom → Result LinkState Refusal
links_by_segments file headers room = elim (first_refusal (header_checks file ++ load_checks file headers)) [
  | Some refusal ↦ Err refusal
  | None ↦ loaded_links file room
]

-- HOW A FILE IS LINKED, with this many headers allowed and this room for its texts: for any section
-- headers
unfoldable pub links_of : List ℕ → (headers : ℕ) → TextRoom → Result LinkState Refusal
links_of file headers room = links_by_segments (without_sections file) headers room

-- how many bytes it reads at most, by the file's length and how many headers are allowed: the
-- headers, the dynamic entries three times, and a text for each
unfoldable pub links_ceiling : (size headers : ℕ) → ℕ
links_ceiling size headers =
    FILE_HEADER_SIZE + headers * PROGRAM_HEADER_SIZE + 3 * size + size / DYNAMIC_SIZE * name_bytes LINK_TEXT_BYTES

-- WHICH MACHINE A FILE IS FOR, so that a loader of that machine takes it as a library: a file of 64
-- bits that is little-endian. None for any other file (gABI 4, ELF Identification: the magic
-- number, the class and the encoding; ELF Header, e_machine)
abbrev pub MACHINE_END : ℕ
MACHINE_END = 20

abbrev pub has_class_and_encoding : List ℕ → Bool
has_class_and_encoding file = field file 4 1 == 2 && field file 5 1 == 1

unfoldable pub machine_in : List ℕ → Option ℕ
machine_in file =
    if nat_lt (length file) MACHINE_END then None
    else if has_elf_magic file && has_class_and_encoding file then Some (e_machine file)
    else None
