-- The rows of the archives that have the entries of all indexes.
use Rattle.std.specs.Prelude.{◌≡◌, ℕ, ◌≤◌, nat_lt, if◌then◌else◌, List, [], ◌∷◌, Option, None, Some}
use Rattle.elf_resolve.specs.declared.archives.OpenedArchive.{OpenedArchive}

-- each archive has the entries after those of the one before it, from one on, and together as many as
-- there are
abbrev pub AreConsecutive : (from : ℕ) → List OpenedArchive → (count : ℕ) → Type 0
AreConsecutive from [] count = from ≡ count
AreConsecutive from (archive ∷ archives) count =
    (archive.entries.0 ≡ from) × (from ≤ archive.entries.1) × AreConsecutive archive.entries.1 archives count

-- the row of the first archive whose entries end after a place
abbrev pub row_with_entry : List OpenedArchive → (place : ℕ) → Option ℕ
row_with_entry [] place = None
row_with_entry (archive ∷ archives) place = if nat_lt place archive.entries.1 then Some archive.row else row_with_entry archives place

abbrev pub row_of_archive : Option OpenedArchive → Option ℕ
row_of_archive None = None
row_of_archive (Some archive) = Some archive.row
