-- A resolver that holds the names of the members of its rows: what its steps do.
use Rattle.std.proofs.Common.{◌≡◌, ℕ, ◌+◌, List, [], ◌∷◌, ◌++◌, get_or, length, refl, sym, ap, subst, ◌∙◌, arith}
use Rattle.std.specs.Prelude.{Option, None, Some}
use Rattle.std.specs.List.{slice_get}
use Rattle.elf_model.specs.LinkArchives.{LinkFiles, names_of_files}
use Rattle.elf_model.specs.LinkInputs.{file_row, whole_row}
use Rattle.elf_model.specs.declared.link_states.LinkRow.{LinkRow}
use Rattle.elf_model.specs.declared.link_states.LinkRowKind.{LinkRowKind}
use Rattle.elf_resolve.specs.MemberNames.{RowsAscend, name_of_row_in}
use Rattle.elf_resolve.specs.NamedRows.{HasNames, KeepsRowNames, named_in}
use Rattle.elf_resolve.specs.OpenedArchives.{HasMembers, archive_of_input}
use Rattle.elf_resolve.specs.ResolvedInputs.{IsLink}
use Rattle.elf_resolve.specs.RowNames.{AddsName, KeepsMemberNames, member_names, names_of_rows}
use Rattle.elf_resolve.specs.RowTables.{AddedRow}
use Rattle.elf_resolve.specs.StaticLinks.{AreRowsNamed, IsNameOfRow}
use Rattle.elf_resolve.specs.declared.archives.OpenedArchive.{OpenedArchive}
use Rattle.elf_resolve.specs.declared.resolver.Resolver.{Resolver}
use Rattle.elf_resolve.proofs.OpenedLaws.{found_opened}
use Rattle.elf_resolve.proofs.RowNameLaws.{file_named, member_named, name_held, names_ascend}

-- names and rows are the same
pub rows_still : (files : LinkFiles) (old new : Resolver) → new.room.names ≡ old.room.names → new.link.rows.rows ≡ old.link.rows.rows → KeepsRowNames files old new
rows_still files old new names rows held = names ∙ held ∙ ap (λ l. names_of_rows (named_in files) 0 l) (sym rows)

-- the row of a file was added
pub file_added : (files : LinkFiles) (old new : Resolver) (kind : LinkRowKind) (input : ℕ) → new.link.rows.rows ≡ old.link.rows.rows ++ file_row kind input ∷ [] → new.room.names ≡ old.room.names → KeepsRowNames files old new
file_added files old new kind input added names held =
    names ∙ file_named (named_in files) old.link.rows.rows new.link.rows.rows (file_row kind input) old.room.names added refl held

-- a member was taken
pub member_added : (files : LinkFiles) (file : List ℕ) (archive : OpenedArchive) (member row : ℕ) (one : LinkRow) (old new : Resolver) → files.file archive.input ≡ Some file
    → one ≡ whole_row archive.input archive.row member → AddedRow old.link.rows new.link.rows one row → AddsName old.room.names new.room.names row (member_names (Some file) member) → KeepsRowNames files old new
member_added files file archive member row one old new file_is one_is added_one name held =
    let added = subst (λ r. AddedRow old.link.rows new.link.rows r row) one_is added_one in
    member_named (named_in files) old.link.rows.rows new.link.rows.rows (whole_row archive.input archive.row member) row member old.room.names new.room.names added.rows added.index_is refl
    (name ∙ ap (λ f. old.room.names ++ (record { row = row; name = member_names f member }) ∷ []) (sym file_is)) held

-- an archive was searched
pub names_searched : (files : LinkFiles) (file : List ℕ) (archive : OpenedArchive) (old new : Resolver) → files.file archive.input ≡ Some file
    → KeepsMemberNames archive.input (member_names (Some file)) old.link.rows.rows new.link.rows.rows old.room.names new.room.names → KeepsRowNames files old new
names_searched files file archive old new file_is keeps held = keeps.keeps (named_in files) (ap member_names file_is) held

-- the members of an archive that is opened
one_file : (one other : List ℕ) (known : Option (List ℕ)) → known ≡ Some one → known ≡ Some other → one ≡ other
one_file one other known is is_other = let both : Some one ≡ Some other = sym is ∙ is_other in cc

pub archive_has : (files : LinkFiles) (file : List ℕ) (old : Resolver) (archive : OpenedArchive) → IsLink files old → archive_of_input old.tables.archives.items archive.input ≡ Some archive → files.file archive.input ≡ Some file
    → HasMembers file old.tables.members.items archive
archive_has files file old archive is found file_is =
    let opened = found_opened files old.tables.members.items (length old.tables.entries.items) 0 old.tables.archives.items archive.input archive is.opened found in
    subst (λ f. HasMembers f old.tables.members.items archive) (one_file opened.file file (files.file archive.input) opened.file_is file_is) opened.has_members

-- THE NAMES OF ROWS are those of the files
pub rows_are_named : (files : LinkFiles) (path : ℕ → List ℕ) (text : ℕ → Option (List ℕ)) (link : Resolver) → ((input : ℕ) → text input ≡ Some (path input)) → ((index : ℕ) → get_or link.kinds.items index None ≡ None) → HasNames files link
    → AreRowsNamed text (names_of_files files path) link
unfolding member_names
rows_are_named files path text link known kinds held = record {
  kinds = kinds;
  ascend = subst RowsAscend (sym held) (names_ascend (named_in files) link.link.rows.rows);
  named = λ index row at. by index row at row.member refl;
}
  where
    by : (index : ℕ) (row : LinkRow) → slice_get link.link.rows.rows index ≡ Some row → (member : Option ℕ) → row.member ≡ member → IsNameOfRow text (names_of_files files path) link.room.names index row.input member
    by index row at None is = (path row.input, known row.input, refl)
    by index row at (Some member) is =
        let here : 0 + index ≡ index = omega arith in
        sym (
        ap (λ h. name_of_row_in h index) held
        ∙ ap (λ n. name_of_row_in (names_of_rows (named_in files) 0 link.link.rows.rows) n) (sym here)
        ∙ name_held (named_in files) 0 index link.link.rows.rows row member at is
        )
