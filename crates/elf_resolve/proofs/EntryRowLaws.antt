-- The rows of archives by the places of their entries.
use Rattle.std.proofs.Common.{◌≡◌, ℕ, zero, suc, ◌<◌, ◌≤◌, Bool, List, [], ◌∷◌, length, get_or, Some, refl, sym, ap, ◌∙◌, arith}
use Rattle.std.specs.Prelude.{if◌then◌else◌}
use Rattle.std.specs.List.{slice_get}
use Rattle.std.specs.List.Sorted.{IsNonDecreasingBy}
use Rattle.std.proofs.lemmas.Bool.{lt-ltb, le-ltb}
use Rattle.elf_resolve.specs.EntryRows.{AreConsecutive, row_of_archive, row_with_entry}
use Rattle.elf_resolve.specs.declared.archives.OpenedArchive.{OpenedArchive}

abbrev pub entries_end : OpenedArchive → ℕ
entries_end archive = archive.entries.1

ends_above : (from count : ℕ) (archives : List OpenedArchive) → AreConsecutive from archives count → (j : ℕ) (d : OpenedArchive) → j < length archives → from ≤ entries_end (get_or archives j d)
ends_above from count [] are j d there = absurd (omega (arith, there))
ends_above from count (archive ∷ archives) are zero d there = are.1
ends_above from count (archive ∷ archives) are (suc j) d there = omega (arith, are.1, ends_above archive.entries.1 count archives are.2 j d (omega (arith, there)))

pub ends_ascend : (from count : ℕ) (archives : List OpenedArchive) → AreConsecutive from archives count → IsNonDecreasingBy entries_end archives
ends_ascend from count [] are i j d less there = absurd (omega (arith, there))
ends_ascend from count (archive ∷ archives) are zero zero d less there = omega arith
ends_ascend from count (archive ∷ archives) are zero (suc j) d less there = ends_above archive.entries.1 count archives are.2 j d (omega (arith, there))
ends_ascend from count (archive ∷ archives) are (suc i) zero d less there = absurd (omega (arith, less))
ends_ascend from count (archive ∷ archives) are (suc i) (suc j) d less there = ends_ascend archive.entries.1 count archives are.2 i j d (omega (arith, less)) (omega (arith, there))

pub row_at_point : (archives : List OpenedArchive) (place index : ℕ) → ((k : ℕ) (d : OpenedArchive) → k < index → k < length archives → entries_end (get_or archives k d) ≤ place)
    → ((d : OpenedArchive) → index < length archives → place < entries_end (get_or archives index d)) → row_of_archive (slice_get archives index) ≡ row_with_entry archives place
row_at_point [] place index before at = refl
row_at_point (archive ∷ archives) place zero before at = sym (ap (λ (b : Bool). if b then Some archive.row else row_with_entry archives place) (lt-ltb place archive.entries.1 (at archive (omega arith))))
row_at_point (archive ∷ archives) place (suc index) before at =
    row_at_point archives place index (λ k d less there. before (suc k) d (omega (arith, less)) (omega (arith, there))) (λ d there. at d (omega (arith, there)))
    ∙ sym (ap (λ (b : Bool). if b then Some archive.row else row_with_entry archives place) (le-ltb place archive.entries.1 (before zero archive (omega arith) (omega arith))))
