-- The rows of files that the lines of keys name, and those that are marked for them.
use Rattle.std.specs.Prelude.{◌≡◌, ℕ, ◌≤◌, ◌<◌, ◌==◌, ◌||◌, if◌then◌else◌, Bool, true, false, List, [], ◌∷◌, ◌++◌, codes, get_or, length, map, Option, None, Some, bytes_eq}
use Rattle.std.proofs.Math.ListN.{set}
use Rattle.std.specs.List.{filter, list_any, slice_get}
use Rattle.elf_model.specs.LinkInputs.{Linking, OpenArchive}
use Rattle.elf_model.specs.LinkKeys.{entry_named_as}
use Rattle.elf_model.specs.LinkLines.{LinkOutput, definition_row, has_key, is_any, is_further_of, is_unresolved, reference_of, word_of_key}
use Rattle.elf_model.specs.declared.link_states.FurtherDefinition.{FurtherDefinition}
use Rattle.elf_model.specs.declared.link_states.IndexEntry.{IndexEntry}
use Rattle.elf_model.specs.declared.link_states.LinkRow.{LinkRow}
use Rattle.elf_resolve.specs.FoundStates.{has_offer_lines, is_multiple_state}
use Rattle.elf_resolve.specs.KeyLines.{row_of_further}
use Rattle.elf_resolve.specs.LinkerNames.{output_of}
use Rattle.elf_resolve.specs.Resolved.{linking_of}
use Rattle.elf_resolve.specs.RowTables.{LinkRows}
use Rattle.elf_resolve.specs.ShownLinks.{is_row}
use Rattle.elf_resolve.specs.declared.key_states.FoundState.{FoundState}
use Rattle.elf_resolve.specs.declared.resolver.Resolver.{Resolver}

-- THE ROWS THAT THE LINES OF A KEY NAME: of its definition, of its reference, and those in the lines
-- after that
abbrev pub rows_of_further : List FurtherDefinition → List (Option ℕ)
rows_of_further further = map (λ (f : FurtherDefinition). f.row) further

abbrev pub rows_of_entries : (row : ℕ) → List IndexEntry → List (Option ℕ)
rows_of_entries row entries = map (λ (e : IndexEntry). Some row) entries

abbrev pub rows_of_offers : (key : ℕ) → List OpenArchive → List (Option ℕ)
rows_of_offers key [] = []
rows_of_offers key (archive ∷ archives) = rows_of_entries archive.row (filter (has_key key) archive.entries) ++ rows_of_offers key archives

abbrev pub rows_after_key : Linking → (key : ℕ) → (word : List ℕ) → List (Option ℕ)
rows_after_key link key word =
    if bytes_eq word (codes "multiple") then rows_of_further (filter (is_further_of key) link.keys.further)
    else if is_any (codes "undef" ∷ codes "order" ∷ codes "weak" ∷ []) word then rows_of_offers key link.archives
    else []

abbrev pub rows_of_key : LinkOutput → Linking → (key : ℕ) → List (Option ℕ)
rows_of_key output link key =
    let entry = entry_named_as link.keys key in
    definition_row entry.state entry.row ∷ reference_of entry ∷ rows_after_key link key (word_of_key output link key)

-- the rows that the lines of keys name that are undefined or multiple
abbrev pub rows_of_fault : LinkOutput → Linking → (key : ℕ) → List (Option ℕ)
rows_of_fault output link key = if is_unresolved output link key then rows_of_key output link key else []

abbrev pub rows_of_faults : LinkOutput → Linking → List ℕ → List (Option ℕ)
rows_of_faults output link [] = []
rows_of_faults output link (key ∷ keys) = rows_of_fault output link key ++ rows_of_faults output link keys

-- a row is named, or it is that of the archive of a member that is
abbrev pub archive_of_row : Option LinkRow → Option ℕ
archive_of_row None = None
archive_of_row (Some row) = row.archive

abbrev pub names_row : List LinkRow → (index : ℕ) → Option ℕ → Bool
names_row rows index None = false
names_row rows index (Some row) = (row == index) || is_row (archive_of_row (slice_get rows row)) index

abbrev pub is_row_named : List LinkRow → List (Option ℕ) → (index : ℕ) → Bool
is_row_named rows named index = list_any (names_row rows index) named

-- THE ROWS THAT ARE NAMED ARE MARKED, with those that were, if there is a mark for each row for which
-- there is room
pub record AreMarked (rows : LinkRows) (named : List (Option ℕ)) (old new : List Bool) : Type 0 where
  pub count : length new ≡ length old
  pub marks : rows.most ≤ length old → (index : ℕ) → index < length rows.rows → get_or new index false ≡ (get_or old index false || is_row_named rows.rows named index)

-- at the end of a link those are marked, and no others, that the lines of its faults name
abbrev pub AreFaultsMarked : Resolver → Type 0
AreFaultsMarked link = (index : ℕ) → index < length link.link.rows.rows
    → get_or link.problems.items index false ≡ is_row_named link.link.rows.rows (rows_of_faults (output_of link.output) (linking_of link) link.link.keys.keys.order) index

-- the rows in the lines after that of a key, by what the link says of it
abbrev pub rows_found_after : Linking → (key : ℕ) → FoundState → List (Option ℕ)
rows_found_after link key state =
    if is_multiple_state state then rows_of_further (filter (is_further_of key) link.keys.further)
    else if has_offer_lines state then rows_of_offers key link.archives
    else []

-- the row of a further definition, by its place
abbrev pub further_row : List FurtherDefinition → (place : ℕ) → Option ℕ
further_row further place = row_of_further (slice_get further place)

-- a row marked, if there is one
abbrev pub with_mark : List Bool → Option ℕ → List Bool
with_mark marks None = marks
with_mark marks (Some row) = set marks row true
