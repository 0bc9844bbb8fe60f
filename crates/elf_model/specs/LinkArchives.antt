-- What an archive is to a link, by its bytes: its index, and its members as objects; and the answer
-- for inputs by their bytes.
use Rattle.std.specs.Prelude.{ℕ, zero, suc, ◌+◌, ◌*◌, ◌==◌, ◌&&◌, ◌||◌, not, nat_lt, if◌then◌else◌, Bool, true, false, List, [], ◌∷◌, ◌++◌, codes, drop, take, get_or, length, position, reverse, Option, None, Some, Result, Ok, Err}
use Rattle.elf_model.specs.Archive.{FileRange, MAGIC_SIZE, archive_checks, bytes_in, is_name_table, member_data, member_name, padded_end}
use Rattle.elf_model.specs.Bytes.{field, number, slice}
use Rattle.elf_model.specs.Causes.{cause_word}
use Rattle.elf_model.specs.Checks.{first_refusal}
use Rattle.elf_model.specs.Lines.{fault_line, named_line}
use Rattle.elf_model.specs.LinkInputs.{IndexSymbol, InputFile, LinkInputs, Linking, linked}
use Rattle.elf_model.specs.LinkInputs.InputFile.{ObjectFile, SearchedFile, WholeFile, MissingFile}
use Rattle.elf_model.specs.LinkLines.{FileNames, LinkOutput, file_front, file_lines, keys_lines, name_of_row}
use Rattle.elf_model.specs.LinkObjects.{LinkObject}
use Rattle.elf_model.specs.LinkPasses.{ArchiveMembers}
use Rattle.elf_model.specs.LinkSymbols.{as_any, object_defines, object_of, version_sign_in, with_one_sign, without_version}
use Rattle.elf_model.specs.Names.{DisplayedName, nul_in}
use Rattle.elf_model.specs.Names.DisplayedName.{Whole}
use Rattle.elf_model.specs.declared.causes.Cause.{Cause}
use Rattle.elf_model.specs.declared.causes.Refusal.{Refusal}
use Rattle.elf_model.specs.declared.formats.Format.{Format}
use Rattle.elf_model.specs.declared.link_states.LinkCause.{LinkCause}
use Rattle.elf_model.specs.declared.link_states.LinkCause.TheVariants as cause
use Rattle.elf_model.specs.declared.link_states.LinkRefusal.{LinkRefusal}
use Rattle.elf_model.specs.declared.link_states.LinkRow.{LinkRow}
use Rattle.elf_model.specs.declared.link_states.LinkRowKind.TheVariants as kind

-- THE INDEX of an archive is its first member, called `/`, with numbers of four bytes, or `/SYM64/`,
-- with numbers of eight; they are big-endian
abbrev pub FIRST_MEMBER : ℕ
FIRST_MEMBER = 8

abbrev pub index_width : List ℕ → Option ℕ
index_width file =
    if not (field file (FIRST_MEMBER + 8) 8 == 0x2020202020202020) then None
    else if field file FIRST_MEMBER 8 == 0x202020202020202f then Some 4
    else if field file FIRST_MEMBER 8 == 0x202f34364d59532f then Some 8
    else None

-- the member whose header is at an offset is the index or the table of names
abbrev pub is_archive_index : List ℕ → (at : ℕ) → Bool
is_archive_index file at =
    field file (at + 8) 8 == 0x2020202020202020 && (field file at 8 == 0x202020202020202f || field file at 8 == 0x202f34364d59532f)

abbrev pub big : List ℕ → (at width : ℕ) → ℕ
big bytes at width = number (reverse (slice bytes at width))

-- THE MEMBERS of an archive as a link finds them, whose names are not looked at: the offset of each
-- one's header, and its data
pub record LinkMember : Type 0 where
  pub header : ℕ
  pub extent : FileRange

-- members, and the refusal at the offset of the first that is none, if that is not the file's end
pub record LinkMembers : Type 0 where
  pub members : List LinkMember
  pub refusal : Option Refusal

abbrev pub with_link_member : LinkMember → LinkMembers → LinkMembers
with_link_member member rest = record { members = member ∷ rest.members; refusal = rest.refusal }

unfoldable pub link_members_from : ℕ → List ℕ → (at : ℕ) → LinkMembers
link_members_from zero file at = record { members = []; refusal = None }
link_members_from (suc most) file at =
    elim (nat_lt at (length file)) [
      | false ↦ record { members = []; refusal = None }
      | true ↦ elim (member_data file at) [
        | Err cause ↦ record { members = []; refusal = Some (record { at = at; cause = cause }) }
        | Ok extent ↦ with_link_member (record { header = at; extent = extent }) (link_members_from most file (padded_end at (extent.at + extent.size)))
      ]
    ]

abbrev pub link_members : List ℕ → LinkMembers
link_members file = link_members_from (length file) file MAGIC_SIZE

-- the index of the member whose header is at an offset
abbrev pub link_member_at : List LinkMember → (at : ℕ) → Option ℕ
link_member_at members at = position (λ (other : LinkMember). other.header == at) members

abbrev pub no_member : LinkMember
no_member = record { header = 0; extent = record { at = 0; size = 0 } }

-- the table of names, which is the first member called so, if it is before an offset
abbrev pub name_table : List ℕ → List LinkMember → Option LinkMember
name_table file [] = None
name_table file (member ∷ members) = if is_name_table file member.header then Some member else name_table file members

abbrev pub table_before : Option LinkMember → (at : ℕ) → Option FileRange
table_before None at = None
table_before (Some table) at = if nat_lt table.header at then Some table.extent else None

-- the name of a member, as it is shown
abbrev pub LINK_NAME_BYTES : ℕ
LINK_NAME_BYTES = 4096

abbrev pub link_member_name : List ℕ → List LinkMember → (index : ℕ) → Result DisplayedName Cause
link_member_name file members index =
    let at = (get_or members index no_member).header in
    member_name file LINK_NAME_BYTES (table_before (name_table file members) at) at

-- what an index has: count, offsets, and names that each end in a NUL
abbrev pub symbol_of_index : List ℕ → (member : ℕ) → IndexSymbol
symbol_of_index name member = record {
  name = with_one_sign name (version_sign_in name);
  default_name = without_version name (version_sign_in name);
  member = member;
}

abbrev pub symbols_after : IndexSymbol → Result (List IndexSymbol) LinkRefusal → Result (List IndexSymbol) LinkRefusal
symbols_after first (Err refusal) = Err refusal
symbols_after first (Ok rest) = Ok (first ∷ rest)

-- the symbols of an index of numbers of a width from one on, this many, with the bytes of the names
-- from there on: an offset of no member is refused there, a name without its NUL at the index
unfoldable pub index_symbols : List LinkMember → (bytes : List ℕ) → (start width index count : ℕ) → (names : List ℕ) → Result (List IndexSymbol) LinkRefusal
index_symbols members bytes start width index zero names = Ok []
index_symbols members bytes start width index (suc count) names =
    let at = width * (index + 1) in
    elim (nul_in names) [
      | None ↦ Err (record { at = FIRST_MEMBER; cause = cause.IndexCut })
      | Some end ↦ elim (link_member_at members (big bytes at width)) [
        | None ↦ Err (record { at = start + at; cause = cause.IndexMember })
        | Some member ↦ symbols_after (symbol_of_index (take end names) member) (index_symbols members bytes start width (index + 1) count (drop (end + 1) names))
      ]
    ]

abbrev pub index_in : List ℕ → List LinkMember → (width : ℕ) → FileRange → Result (List IndexSymbol) LinkRefusal
index_in file members width extent =
    let bytes = bytes_in file extent in
    let count = big bytes 0 width in
    if nat_lt (length bytes) (width * (count + 1)) then Err (record { at = FIRST_MEMBER; cause = cause.IndexCut })
    else index_symbols members bytes extent.at width 0 count (drop (width * (count + 1)) bytes)

-- an archive without members needs no index
unfoldable pub archive_index : List ℕ → List LinkMember → Result (List IndexSymbol) LinkRefusal
archive_index file [] = Ok []
archive_index file (first ∷ members) = elim (index_width file) [
  | None ↦ Err (record { at = FIRST_MEMBER; cause = cause.NoIndex })
  | Some width ↦ index_in file (first ∷ members) width first.extent
]

-- THE MEMBERS as objects: one that is refused is taken as an object without symbols, and its row is the
-- last one of the answer
abbrev pub or_empty : Result LinkObject LinkRefusal → LinkObject
or_empty (Ok object) = object
or_empty (Err refusal) = record { groups = []; sections = []; symbols = [] }

abbrev pub member_bytes : List ℕ → List LinkMember → (index : ℕ) → List ℕ
member_bytes file members index = bytes_in file (get_or members index no_member).extent

unfoldable pub members_as_objects : List ℕ → List LinkMember → (headers : ℕ) → ArchiveMembers
members_as_objects file members headers = record {
  objects = λ index. or_empty (object_of (member_bytes file members index) headers);
  defines = λ index name. object_defines (member_bytes file members index) headers name;
}

-- the members of a whole archive from an index on: all but the index and the table of names
abbrev pub whole_members : List ℕ → (index : ℕ) → List LinkMember → (headers : ℕ) → List (ℕ × LinkObject)
whole_members file index [] headers = []
whole_members file index (member ∷ members) headers =
    if is_archive_index file member.header || is_name_table file member.header then whole_members file (index + 1) members headers
    else (index, or_empty (object_of (bytes_in file member.extent) headers)) ∷ whole_members file (index + 1) members headers

abbrev pub members_refusal : List ℕ → Option LinkRefusal
members_refusal file = elim (first_refusal (archive_checks file)) [
  | Some refusal ↦ Some (as_any refusal)
  | None ↦ elim (link_members file).refusal [ None ↦ None | Some refusal ↦ Some (as_any refusal) ]
]

abbrev pub searched_by : List ℕ → (headers : ℕ) → Result (List IndexSymbol) LinkRefusal → Result InputFile LinkRefusal
searched_by file headers (Err refusal) = Err refusal
searched_by file headers (Ok symbols) =
    let members = (link_members file).members in
    Ok (SearchedFile (length members) symbols (members_as_objects file members headers))

abbrev pub archive_as : (whole : Bool) → List ℕ → (headers : ℕ) → Result InputFile LinkRefusal
archive_as true file headers = Ok (WholeFile (whole_members file 0 (link_members file).members headers))
archive_as false file headers = searched_by file headers (archive_index file (link_members file).members)

unfoldable pub archive_input : (whole : Bool) → List ℕ → (headers : ℕ) → Result InputFile LinkRefusal
archive_input whole file headers = elim (members_refusal file) [
  | Some refusal ↦ Err refusal
  | None ↦ archive_as whole file headers
]

abbrev pub object_input : Result LinkObject LinkRefusal → Result InputFile LinkRefusal
object_input (Err refusal) = Err refusal
object_input (Ok object) = Ok (ObjectFile object)

-- AN INPUT BY ITS BYTES: an archive, of which all members may be taken, or an object; or there is no
-- file
unfoldable pub input_of : (archive whole : Bool) → Option (List ℕ) → (headers : ℕ) → Result InputFile LinkRefusal
input_of archive whole None headers = Ok MissingFile
input_of true whole (Some file) headers = archive_input whole file headers
input_of false whole (Some file) headers = object_input (object_of file headers)

-- INPUTS BY THEIR BYTES: each one's file, if there is one; which of them are archives, and of which all
-- members are taken; and how many headers are allowed in each
pub record LinkFiles : Type 0 where
  pub file : (input : ℕ) → Option (List ℕ)
  pub is_archive : (input : ℕ) → Bool
  pub is_whole : (input : ℕ) → Bool
  pub headers : ℕ

abbrev pub or_object : Result InputFile LinkRefusal → InputFile
or_object (Ok file) = file
or_object (Err refusal) = ObjectFile (record { groups = []; sections = []; symbols = [] })

abbrev pub input_at : LinkFiles → (input : ℕ) → Result InputFile LinkRefusal
input_at files input = input_of (files.is_archive input) (files.is_whole input) (files.file input) files.headers

abbrev pub files_as_inputs : LinkFiles → (input : ℕ) → InputFile
files_as_inputs files input = or_object (input_at files input)

-- A ROW IS REFUSED: its input is, or the member, at an offset from the start of the archive
abbrev pub refusal_of : {A : Type 0} → Result A LinkRefusal → Option LinkRefusal
refusal_of (Ok value) = None
refusal_of (Err refusal) = Some refusal

abbrev pub moved : (by : ℕ) → Option LinkRefusal → Option LinkRefusal
moved by None = None
moved by (Some refusal) = Some (record { at = by + refusal.at; cause = refusal.cause })

abbrev pub refused_after_name : LinkFiles → List ℕ → LinkMember → Result DisplayedName Cause → Option LinkRefusal
refused_after_name files file member (Err other) = Some (record { at = member.header; cause = cause.Refused other })
refused_after_name files file member (Ok name) = moved member.extent.at (refusal_of (object_of (bytes_in file member.extent) files.headers))

abbrev pub member_refusal : LinkFiles → (member : ℕ) → Option (List ℕ) → Option LinkRefusal
member_refusal files member None = None
member_refusal files member (Some file) =
    let members = (link_members file).members in
    refused_after_name files file (get_or members member no_member) (link_member_name file members member)

unfoldable pub row_refusal : LinkFiles → LinkRow → Option LinkRefusal
row_refusal files row = elim row.member [
  | None ↦ refusal_of (input_at files row.input)
  | Some member ↦ member_refusal files member (files.file row.input)
]

-- the word of a cause
unfoldable pub link_cause_word : LinkCause → List ℕ
link_cause_word (cause.Refused other) = cause_word other
link_cause_word cause.FileType = codes "type"
link_cause_word cause.Machine = codes "machine"
link_cause_word cause.ScriptFault = codes "script"
link_cause_word cause.Lto = codes "lto"
link_cause_word cause.NoIndex = codes "no-index"
link_cause_word cause.IndexCut = codes "index-cut"
link_cause_word cause.IndexMember = codes "index-member"
link_cause_word cause.TooManyKeys = codes "too-many-keys"
link_cause_word cause.TooManyRows = codes "too-many-rows"

-- the last lines of an answer with a refusal: the file's, and where it is refused
unfoldable pub refused_lines : Format → FileNames → (index : ℕ) → LinkRow → LinkRefusal → List (List ℕ)
refused_lines format names index row refusal =
    named_line (file_front format index (record row { kind = kind.Refused })) (name_of_row names row.input row.member)
    ∷ fault_line format refusal.at (link_cause_word refusal.cause)
    ∷ []

-- the names of files, by the paths of the inputs: one that is refused is empty
abbrev pub or_no_name : Result DisplayedName Cause → DisplayedName
or_no_name (Err other) = Whole []
or_no_name (Ok name) = name

abbrev pub name_in_archive : Option (List ℕ) → (member : ℕ) → DisplayedName
name_in_archive None member = Whole []
name_in_archive (Some file) member = or_no_name (link_member_name file (link_members file).members member)

abbrev pub names_of_files : LinkFiles → (path : ℕ → List ℕ) → FileNames
names_of_files files path = record {
  path = λ input. Whole (path input);
  member = λ input member. name_in_archive (files.file input) member;
}

-- THE ANSWER: the rows up to the first that is refused, or all of them and the keys
abbrev pub answer_from : Format → LinkOutput → FileNames → LinkFiles → Linking → (index : ℕ) → List LinkRow → List (List ℕ)
answer_from format output names files link index [] = keys_lines format output link link.keys.order
answer_from format output names files link index (row ∷ rows) = elim (row_refusal files row) [
  | Some refusal ↦ refused_lines format names index row refusal
  | None ↦ file_lines format names link.keys index row ++ answer_from format output names files link (index + 1) rows
]

abbrev pub link_of_files : LinkFiles → (arguments : List (List ℕ)) → LinkInputs → Linking
link_of_files files arguments inputs = linked (files_as_inputs files) arguments inputs

unfoldable pub link_answer : Format → LinkOutput → FileNames → LinkFiles → (arguments : List (List ℕ)) → LinkInputs → List (List ℕ)
link_answer format output names files arguments inputs =
    let link = link_of_files files arguments inputs in
    answer_from format output names files link 0 link.rows
