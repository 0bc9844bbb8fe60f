-- What is shown of a link: all of it, or only what makes the status 1.
use Rattle.std.specs.Prelude.{ℕ, ◌+◌, ◌==◌, ◌||◌, not, if◌then◌else◌, Bool, true, false, List, [], ◌∷◌, ◌++◌, get_or, Option, None, Some}
use Rattle.elf_model.specs.LinkArchives.{link_cause_word}
use Rattle.elf_model.specs.LinkInputs.{Linking}
use Rattle.elf_model.specs.LinkKeys.{LinkKeys, entry_named_as}
use Rattle.elf_model.specs.LinkLines.{FileNames, LinkOutput, file_front, is_missing, is_unresolved, key_lines, link_fails, name_of_row, reason_front}
use Rattle.elf_model.specs.Lines.{fault_line, named_line}
use Rattle.elf_model.specs.Names.DisplayedName.{Whole}
use Rattle.elf_model.specs.declared.formats.Format.{Format}
use Rattle.elf_model.specs.declared.formats.Format.TheVariants.{Columns, Object}
use Rattle.elf_model.specs.declared.link_states.LinkRow.{LinkRow}
use Rattle.elf_model.specs.declared.link_states.LinkRowKind.{LinkRowKind}
use Rattle.elf_model.specs.declared.link_states.LinkRowKind.TheVariants as kind
use Rattle.elf_model.specs.declared.link_states.RowReason.{RowReason}
use Rattle.elf_resolve.specs.LinkerNames.{output_of}
use Rattle.elf_resolve.specs.Resolved.{linking_of}
use Rattle.elf_resolve.specs.declared.resolver.LinkEnd.{LinkEnd}
use Rattle.elf_resolve.specs.declared.resolver.Resolver.{Resolver}

-- THE KEYS that an object has, or of them those that are undefined or multiple
abbrev pub is_shown_key : (problems : Bool) → LinkOutput → Linking → (key : ℕ) → Bool
is_shown_key false output link key = (entry_named_as link.keys key).is_own
is_shown_key true output link key = is_unresolved output link key

abbrev pub key_if_shown : (problems : Bool) → Format → LinkOutput → Linking → (key : ℕ) → List (List ℕ)
key_if_shown problems format output link key = if is_shown_key problems output link key then key_lines format output link key else []

abbrev pub shown_keys : (problems : Bool) → Format → LinkOutput → Linking → List ℕ → List (List ℕ)
shown_keys problems format output link [] = []
shown_keys problems format output link (key ∷ keys) =
    key_if_shown problems format output link key ++ shown_keys problems format output link keys

-- the status: 1 if a key is undefined or multiple, or a row fails
abbrev pub status_if : Bool → ℕ
status_if fails = if fails then 1 else 0

-- THE ROWS: that of the file that is refused at the end of a link is a refused one
abbrev pub is_row : Option ℕ → (index : ℕ) → Bool
is_row None index = false
is_row (Some row) index = row == index

abbrev pub ends_at_row : Option LinkEnd → (index : ℕ) → Bool
ends_at_row None index = false
ends_at_row (Some end) index = is_row end.row index

abbrev pub row_shown : Option LinkEnd → (index : ℕ) → LinkRow → LinkRow
row_shown end index row = if ends_at_row end index then record row { kind = kind.Refused; reason = None } else row

abbrev pub is_refused_kind : LinkRowKind → Bool
is_refused_kind kind.Refused = true
is_refused_kind _ = false

-- the marks of the rows that the lines of faults name; a link that is refused has no such lines
abbrev pub marks_shown : Resolver → Option LinkEnd → List Bool
marks_shown link None = link.problems.items
marks_shown link (Some end) = []

-- of all rows or those of files that are missing, refused, or marked since a fault names them
abbrev pub is_shown_row : (problems : Bool) → (marks : List Bool) → (index : ℕ) → LinkRowKind → Bool
is_shown_row problems marks index kind = not problems || (is_missing kind || (is_refused_kind kind || get_or marks index false))

-- the lines of a row; why a member is taken is left out if only problems are shown
abbrev pub reason_shown : (problems : Bool) → LinkRow → Option RowReason
reason_shown problems row = if problems then None else row.reason

abbrev pub lines_of_reason : Format → LinkKeys → (index : ℕ) → Option RowReason → List (List ℕ)
lines_of_reason format keys index None = []
lines_of_reason format keys index (Some reason) = named_line (reason_front format index reason.row) (Whole (get_or keys.names reason.key [])) ∷ []

abbrev pub lines_of_row : (problems : Bool) → Format → FileNames → LinkKeys → (index : ℕ) → LinkRow → List (List ℕ)
lines_of_row problems format names keys index row =
    named_line (file_front format index row) (name_of_row names row.input row.member) ∷ lines_of_reason format keys index (reason_shown problems row)

module _ (problems : Bool) (format : Format) (names : FileNames) (link : Resolver) where
  abbrev pub row_if_shown : (index : ℕ) → LinkRow → List (List ℕ)
  row_if_shown index row =
      if is_shown_row problems (marks_shown link link.end) index row.kind then lines_of_row problems format names link.link.keys.keys index row else []

  abbrev pub shown_rows : (index : ℕ) → List LinkRow → List (List ℕ)
  shown_rows index [] = []
  shown_rows index (row ∷ rows) = row_if_shown index (row_shown link.end index row) ++ shown_rows (index + 1) rows

  -- AND THE KEYS, or the refusal that ended the link
  abbrev pub shown_end : Option LinkEnd → List (List ℕ)
  shown_end None = shown_keys problems format (output_of link.output) (linking_of link) link.link.keys.keys.order
  shown_end (Some end) = fault_line format end.refusal.at (link_cause_word end.refusal.cause) ∷ []

  abbrev pub shown_link : List (List ℕ)
  shown_link = shown_rows 0 link.link.rows.rows ++ shown_end link.end

-- its status
abbrev pub shown_status : Resolver → Option LinkEnd → ℕ
shown_status link None = status_if (link_fails (output_of link.output) (linking_of link))
shown_status link (Some end) = 1

-- tables are written in columns
abbrev pub in_columns : Format → Format
in_columns Object = Object
in_columns _ = Columns
