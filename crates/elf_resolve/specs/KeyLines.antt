-- The lines of files that have a key, by the lists of a resolver.
use Rattle.std.specs.Prelude.{ℕ, ◌/◌, if◌then◌else◌, List, [], ◌∷◌, codes, Option, None, Some}
use Rattle.std.specs.List.{filter, slice_get}
use Rattle.elf_model.specs.Fields.{Fields, LinePrefix, front}
use Rattle.elf_model.specs.LinkInputs.{Linking}
use Rattle.elf_model.specs.LinkLines.{further_front, further_lines, index_field, is_further_of, offer_lines}
use Rattle.elf_model.specs.Lines.{named_line}
use Rattle.elf_model.specs.Names.DisplayedName.{Whole}
use Rattle.elf_model.specs.declared.formats.Format.{Format}
use Rattle.elf_model.specs.declared.link_states.FurtherDefinition.{FurtherDefinition}
use Rattle.elf_model.specs.declared.link_states.IndexEntry.{IndexEntry}
use Rattle.elf_resolve.specs.EntryRows.{row_with_entry}
use Rattle.elf_resolve.specs.FoundStates.{has_offer_lines, is_multiple_state}
use Rattle.elf_resolve.specs.declared.archives.OpenedArchive.{OpenedArchive}
use Rattle.elf_resolve.specs.declared.key_states.FoundState.{FoundState}

-- a file that has a key, of a row if that is known
abbrev pub had_fields : (row member : Option ℕ) → Fields
had_fields row member = record { letter = codes "O"; fields = index_field (codes "index") row ∷ index_field (codes "member") member ∷ [] }

unfoldable pub had_front : Format → (row member : Option ℕ) → LinePrefix
had_front format row member = front format (codes "name") (had_fields row member)

abbrev pub member_of_entry : Option IndexEntry → Option ℕ
member_of_entry None = None
member_of_entry (Some entry) = Some entry.member

abbrev pub row_of_further : Option FurtherDefinition → Option ℕ
row_of_further None = None
row_of_further (Some further) = further.row

-- the line of an entry, by its number in the lists
abbrev pub line_of_number : Format → List OpenedArchive → List IndexEntry → (name : List ℕ) → (number : ℕ) → List ℕ
line_of_number format archives entries name number =
    named_line (had_front format (row_with_entry archives (number / 2)) (member_of_entry (slice_get entries (number / 2)))) (Whole name)

-- and of a further definition, by its place
abbrev pub line_of_further : Format → List FurtherDefinition → (name : List ℕ) → (place : ℕ) → List ℕ
line_of_further format further name place = named_line (further_front format (row_of_further (slice_get further place))) (Whole name)

-- the lines after that of a key, by what the link says of it
abbrev pub lines_found : Format → Linking → (name : List ℕ) → (key : ℕ) → FoundState → List (List ℕ)
lines_found format link name key state =
    if is_multiple_state state then further_lines format name (filter (is_further_of key) link.keys.further)
    else if has_offer_lines state then offer_lines format name key link.archives
    else []
