-- The lines of a link: the files that were taken, and the state of each key.
use Rattle.std.specs.Prelude.{ℕ, ◌+◌, ◌==◌, ◌&&◌, ◌||◌, not, if◌then◌else◌, Bool, true, false, List, [], ◌∷◌, ◌++◌, codes, drop, take, get_or, length, map, is_some, Option, None, Some, bytes_eq}
use Rattle.std.specs.List.{filter, list_any}
use Rattle.elf_model.specs.LinkInputs.{Linking, OpenArchive}
use Rattle.elf_model.specs.LinkKeys.{LinkKeys, entry_named_as}
use Rattle.elf_model.specs.declared.link_states.FurtherDefinition.{FurtherDefinition}
use Rattle.elf_model.specs.declared.link_states.IndexEntry.{IndexEntry}
use Rattle.elf_model.specs.declared.link_states.KeyEntry.{KeyEntry}
use Rattle.elf_model.specs.declared.link_states.KeyState.{KeyState}
use Rattle.elf_model.specs.declared.link_states.KeyState.TheVariants.{New, Weak, Undefined, WeakDefined, Defined, Shared}
use Rattle.elf_model.specs.declared.link_states.KeyState.TheVariants as state
use Rattle.elf_model.specs.declared.link_states.LinkRow.{LinkRow}
use Rattle.elf_model.specs.declared.link_states.LinkRowKind.{LinkRowKind}
use Rattle.elf_model.specs.declared.link_states.LinkRowKind.TheVariants as kind
use Rattle.elf_model.specs.Fields.{Field, Fields, LinePrefix, front}
use Rattle.elf_model.specs.Fields.Field.{Decimal, ArgSpec, NameOrDecimal}
use Rattle.elf_model.specs.LinkKeys.{entry_named}
use Rattle.elf_model.specs.Lines.{named_line}
use Rattle.elf_model.specs.Names.{DisplayedName}
use Rattle.elf_model.specs.Names.DisplayedName.{Whole}
use Rattle.elf_model.specs.declared.formats.Format.{Format}

-- the kind of a file, in its line
abbrev pub row_kind_word : LinkRowKind → List ℕ
row_kind_word kind.Object = codes "object"
row_kind_word kind.Shared = codes "shared"
row_kind_word kind.Unneeded = codes "unneeded"
row_kind_word kind.Same = codes "same"
row_kind_word kind.Archive = codes "archive"
row_kind_word kind.Member = codes "member"
row_kind_word kind.Missing = codes "missing"
row_kind_word kind.Refused = codes "refused"

-- a row or a member by its index, or a hyphen
abbrev pub index_field : (key : List ℕ) → Option ℕ → Field
index_field key None = NameOrDecimal key 5 (Some (codes "-")) 0
index_field key (Some index) = NameOrDecimal key 5 None index

-- A FILE of a link: its index, its kind, and of a member the index of its archive and its own there
abbrev pub file_fields : (index : ℕ) → LinkRow → Fields
file_fields index row = record {
  letter = codes "I";
  fields =
      Decimal (codes "index") 5 index
      ∷ ArgSpec (codes "kind") 8 (row_kind_word row.kind)
      ∷ index_field (codes "archive") row.archive
      ∷ index_field (codes "member") row.member
      ∷ [];
}

unfoldable pub file_front : Format → (index : ℕ) → LinkRow → LinePrefix
file_front format index row = front format (codes "path") (file_fields index row)

-- WHY A MEMBER IS TAKEN: its index, the row that made the key's state, and the key
abbrev pub reason_fields : (index : ℕ) → (row : Option ℕ) → Fields
reason_fields index row = record {
  letter = codes "W";
  fields = Decimal (codes "index") 5 index ∷ index_field (codes "needed_by") row ∷ [];
}

unfoldable pub reason_front : Format → (index : ℕ) → (row : Option ℕ) → LinePrefix
reason_front format index row = front format (codes "name") (reason_fields index row)

-- A KEY: its state, the row that defines it, and the first that references it
abbrev pub key_fields : (state : List ℕ) → (definer reference : Option ℕ) → Fields
key_fields state definer reference = record {
  letter = codes "G";
  fields = ArgSpec (codes "state") 8 state ∷ index_field (codes "definer") definer ∷ index_field (codes "referrer") reference ∷ [];
}

unfoldable pub key_front : Format → (state : List ℕ) → (definer reference : Option ℕ) → LinePrefix
key_front format state definer reference = front format (codes "name") (key_fields state definer reference)

-- A FURTHER DEFINITION of a key: the row of its file
abbrev pub further_fields : (row : Option ℕ) → Fields
further_fields row = record { letter = codes "M"; fields = index_field (codes "index") row ∷ [] }

unfoldable pub further_front : Format → (row : Option ℕ) → LinePrefix
further_front format row = front format (codes "name") (further_fields row)

-- WHAT AN UNDEFINED KEY IS OFFERED: the row of an archive whose index has it, and the member
abbrev pub offer_fields : (row : ℕ) → (member : Option ℕ) → Fields
offer_fields row member = record { letter = codes "O"; fields = index_field (codes "index") (Some row) ∷ index_field (codes "member") member ∷ [] }

unfoldable pub offer_front : Format → (row : ℕ) → (member : Option ℕ) → LinePrefix
offer_front format row member = front format (codes "name") (offer_fields row member)

-- THE NAMES OF A LINK'S FILES: the path of an input, and the name of a member of one
pub record FileNames : Type 0 where
  pub path : (input : ℕ) → DisplayedName
  pub member : (input member : ℕ) → DisplayedName

abbrev pub name_of_row : FileNames → (input : ℕ) → (member : Option ℕ) → DisplayedName
name_of_row names input None = names.path input
name_of_row names input (Some member) = names.member input member

-- the lines of a file: its own, and why it is taken
abbrev pub reason_lines : Format → LinkKeys → (index : ℕ) → LinkRow → List (List ℕ)
reason_lines format keys index row = elim row.reason [
  | None ↦ []
  | Some reason ↦ named_line (reason_front format index reason.row) (Whole (get_or keys.names reason.key [])) ∷ []
]

unfoldable pub file_lines : Format → FileNames → LinkKeys → (index : ℕ) → LinkRow → List (List ℕ)
file_lines format names keys index row =
    named_line (file_front format index row) (name_of_row names row.input row.member) ∷ reason_lines format keys index row

abbrev pub rows_lines : Format → FileNames → LinkKeys → (index : ℕ) → List LinkRow → List (List ℕ)
rows_lines format names keys index [] = []
rows_lines format names keys index (row ∷ rows) = file_lines format names keys index row ++ rows_lines format names keys (index + 1) rows

-- WHAT A LINK MAKES: a shared library, or a file that is loaded with libraries or at any address
pub record LinkOutput : Type 0 where
  pub is_shared : Bool
  pub is_dynamic : Bool

-- THE NAMES THAT A LINKER DEFINES ITSELF
abbrev pub linker_names : List (List ℕ)
linker_names =
    codes "_GLOBAL_OFFSET_TABLE_" ∷ codes "_PROCEDURE_LINKAGE_TABLE_" ∷ codes "_TLS_MODULE_BASE_" ∷ codes "__bss_start"
    ∷ codes "_edata" ∷ codes "edata" ∷ codes "_end" ∷ codes "end" ∷ codes "__etext" ∷ codes "_etext" ∷ codes "etext"
    ∷ codes "__executable_start" ∷ codes "__ehdr_start" ∷ codes "__preinit_array_start" ∷ codes "__preinit_array_end"
    ∷ codes "__init_array_start" ∷ codes "__init_array_end" ∷ codes "__fini_array_start" ∷ codes "__fini_array_end"
    ∷ codes "__rela_iplt_start" ∷ codes "__rela_iplt_end" ∷ codes "__tdata_start" ∷ []

-- the start and the end of a section whose name is an identifier of C
abbrev pub has_section : LinkKeys → List ℕ → Bool
has_section keys name = (entry_named keys name).is_section

abbrev pub bounds_section : LinkKeys → (front name : List ℕ) → Bool
bounds_section keys front name = bytes_eq front (take (length front) name) && has_section keys (drop (length front) name)

unfoldable pub linker_defines : LinkOutput → LinkKeys → List ℕ → Bool
linker_defines output keys name =
    list_any (bytes_eq name) linker_names
    || (output.is_dynamic && bytes_eq name (codes "_DYNAMIC"))
    || (not output.is_shared && bytes_eq name (codes "__tls_get_addr"))
    || bounds_section keys (codes "__start_") name
    || bounds_section keys (codes "__stop_") name

-- an archive's index has a key
abbrev pub has_key : (key : ℕ) → IndexEntry → Bool
has_key key entry = entry.key == key || entry.default_key == key

abbrev pub offered_by : (key : ℕ) → OpenArchive → Bool
offered_by key archive = list_any (has_key key) archive.entries

abbrev pub is_available : (key : ℕ) → List OpenArchive → Bool
is_available key archives = list_any (offered_by key) archives

abbrev pub is_further_of : (key : ℕ) → FurtherDefinition → Bool
is_further_of key further = further.key == key

-- the first row that references a key, not weakly if there is one
abbrev pub reference_of : KeyEntry → Option ℕ
reference_of entry = elim entry.reference [ None ↦ entry.weak_reference | Some row ↦ Some row ]

-- THE STATE OF A KEY AT THE END, in its line
abbrev pub undefined_word : (is_referenced is_made is_available : Bool) → List ℕ
undefined_word is_referenced is_made is_available =
    if is_made then codes "linker"
    else if not is_referenced then codes "unused"
    else if is_available then codes "order"
    else codes "undef"

abbrev pub key_state_word : KeyState → (is_multiple is_referenced is_made is_available : Bool) → List ℕ
key_state_word Defined is_multiple is_referenced is_made is_available = if is_multiple then codes "multiple" else codes "defined"
key_state_word WeakDefined is_multiple is_referenced is_made is_available = codes "weakdef"
key_state_word (state.Common size) is_multiple is_referenced is_made is_available = codes "common"
key_state_word (Shared symbol) is_multiple is_referenced is_made is_available = codes "shared"
key_state_word Undefined is_multiple is_referenced is_made is_available = undefined_word is_referenced is_made is_available
key_state_word _ is_multiple is_referenced is_made is_available = if is_made then codes "linker" else codes "weak"

unfoldable pub word_of_key : LinkOutput → Linking → (key : ℕ) → List ℕ
word_of_key output link key =
    let entry = entry_named_as link.keys key in
    key_state_word entry.state (list_any (is_further_of key) link.keys.further) (is_some (reference_of entry))
    (linker_defines output link.keys (get_or link.keys.names key [])) (is_available key link.archives)

-- the row that defines a key
abbrev pub definition_row : KeyState → Option ℕ → Option ℕ
definition_row New row = None
definition_row Weak row = None
definition_row Undefined row = None
definition_row _ row = row

-- the lines after that of a key
abbrev pub is_any : List (List ℕ) → List ℕ → Bool
is_any words word = list_any (bytes_eq word) words

abbrev pub further_lines : Format → (name : List ℕ) → List FurtherDefinition → List (List ℕ)
further_lines format name further = map (λ (f : FurtherDefinition). named_line (further_front format f.row) (Whole name)) further

abbrev pub entry_lines : Format → (name : List ℕ) → (row : ℕ) → List IndexEntry → List (List ℕ)
entry_lines format name row entries = map (λ (e : IndexEntry). named_line (offer_front format row (Some e.member)) (Whole name)) entries

abbrev pub offer_lines : Format → (name : List ℕ) → (key : ℕ) → List OpenArchive → List (List ℕ)
offer_lines format name key [] = []
offer_lines format name key (archive ∷ archives) =
    entry_lines format name archive.row (filter (has_key key) archive.entries) ++ offer_lines format name key archives

abbrev pub lines_after : Format → Linking → (name : List ℕ) → (key : ℕ) → (word : List ℕ) → List (List ℕ)
lines_after format link name key word =
    if bytes_eq word (codes "multiple") then further_lines format name (filter (is_further_of key) link.keys.further)
    else if is_any (codes "undef" ∷ codes "order" ∷ codes "weak" ∷ []) word then offer_lines format name key link.archives
    else []

unfoldable pub key_lines : Format → LinkOutput → Linking → (key : ℕ) → List (List ℕ)
key_lines format output link key =
    let entry = entry_named_as link.keys key in
    let name = get_or link.keys.names key [] in
    let word = word_of_key output link key in
    named_line (key_front format word (definition_row entry.state entry.row) (reference_of entry)) (Whole name) ∷ lines_after format link name key word

-- the keys that an object has a symbol of, in the order in which they were first named
abbrev pub keys_lines : Format → LinkOutput → Linking → List ℕ → List (List ℕ)
keys_lines format output link [] = []
keys_lines format output link (key ∷ keys) =
    (if (entry_named_as link.keys key).is_own then key_lines format output link key else []) ++ keys_lines format output link keys

-- THE LINES OF A LINK: its files, then its keys
unfoldable pub link_lines : Format → LinkOutput → FileNames → Linking → List (List ℕ)
link_lines format output names link =
    rows_lines format names link.keys 0 link.rows ++ keys_lines format output link link.keys.order

-- a link has an undefined or a multiple key, or lacks a file
abbrev pub is_missing : LinkRowKind → Bool
is_missing kind.Missing = true
is_missing _ = false

abbrev pub is_unresolved : LinkOutput → Linking → ℕ → Bool
is_unresolved output link key =
    (entry_named_as link.keys key).is_own && is_any (codes "undef" ∷ codes "order" ∷ codes "multiple" ∷ []) (word_of_key output link key)

unfoldable pub link_fails : LinkOutput → Linking → Bool
link_fails output link =
    list_any (λ (row : LinkRow). is_missing row.kind) link.rows || list_any (is_unresolved output link) link.keys.order
