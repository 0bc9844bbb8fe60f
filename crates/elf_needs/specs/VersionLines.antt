-- The effect of writing the lines of the versions that objects need and that are not there.
use Rattle.std.specs.Prelude.{ℕ, ◌≡◌, is_some, Bool, List, [], get_or, Option, None, Some, Result, Ok, Err}
use Rattle.elf_model.specs.Prelude.{VersionItem, VersionRecordTable as IsTableOf, any_lacking, version_items_of, version_items_text, versions_needed}
use Rattle.elf_model.specs.declared.formats.Format.{Format}
use Rattle.elf_model.specs.declared.causes.Refusal.{Refusal}
use Rattle.elf_source.specs.Output.{OutState}
use Rattle.elf_needs.specs.ItemLines.{ItemLines, WritesLines, WritesSoFar, failing_of, status_after}
use Rattle.elf_library.specs.Prelude.{IsNeedsOf, NeedsWalkGoesOn, needs_left}
use Rattle.elf_needs.specs.Providers.{versioned_among}
use Rattle.elf_library.specs.declared.needed_versions.NeedsWalk.{NeedsWalk}
use Rattle.elf_needs.specs.declared.search_scope.SearchScope.{SearchScope}
use Rattle.elf_needs.specs.declared.search_scope.WriteEnd.{WriteEnd}
use Rattle.elf_needs.specs.declared.search_scope.WriteEnd.TheVariants.{Cut, Ended, Whole}
use Rattle.elf_needs.specs.declared.walk.Listed.{Listed}
use Rattle.elf_library.specs.declared.needs_fault.NeedsFault.{NeedsFault}

-- how the lines of versions are written
abbrev pub needed_version_lines : Format → ItemLines VersionItem
needed_version_lines format = record { format = format; text = version_items_text format; fails = any_lacking }

-- the effect of writing the line of one version, which is not the last that an object needs
abbrev pub WritesVersion : Format → List VersionItem → (short : Refusal → Type 0) → OutState → OutState → Result WriteEnd NeedsFault → Type 0
WritesVersion format all short old new (Ok (Whole fails)) = WritesLines (needed_version_lines format) all short old new (Ok (Whole fails))
WritesVersion format all short old new (Ok Ended) = ⊥
WritesVersion format all short old new (Ok Cut) = WritesLines (needed_version_lines format) all short old new (Ok Cut)
WritesVersion format all short old new (Err fault) = WritesLines (needed_version_lines format) all short old new (Err fault)

-- THE EFFECT OF READING ONE RECORD of what an object needs, and of writing its line: none was left;
-- some of the lines are written, and others are left; or it is the end of them
abbrev pub WritesNeed : Format → (all left : List VersionItem) → (short : Refusal → Type 0) → OutState → OutState → Result (Option WriteEnd) NeedsFault → Type 0
WritesNeed format all left short old new (Ok None) = (all ≡ []) × (new ≡ old)
WritesNeed format all left short old new (Ok (Some (Whole fails))) = WritesSoFar (needed_version_lines format) all left old new fails
WritesNeed format all left short old new (Ok (Some Ended)) = WritesLines (needed_version_lines format) all short old new (Ok Ended)
WritesNeed format all left short old new (Ok (Some Cut)) = WritesLines (needed_version_lines format) all short old new (Ok Cut)
WritesNeed format all left short old new (Err fault) = WritesLines (needed_version_lines format) all short old new (Err fault)

-- the items of the object at a position; and those of the records that are left of it
abbrev pub object_versions : (files : List (List ℕ)) → SearchScope → (place : ℕ) → List VersionItem
object_versions files scope place =
    version_items_of (versioned_among files scope) (get_or scope.indexes.now place 0) (versions_needed (get_or files place []))

abbrev pub left_versions : (files : List (List ℕ)) → SearchScope → (place : ℕ) → IsTableOf → NeedsWalk → List VersionItem
left_versions files scope place told walk =
    version_items_of (versioned_among files scope) (get_or scope.indexes.now place 0) (needs_left (get_or files place []) told walk)

-- the lines of an object are written but those of the records that are left
pub record WalksVersions (files : List (List ℕ)) (scope : SearchScope) (place : ℕ) (walk : NeedsWalk) (old new : OutState) (fails : Bool) : Type 0 where
  pub told : IsTableOf
  pub is : IsNeedsOf (get_or files place []) told walk
  pub writes : WritesSoFar (needed_version_lines scope.lines.format) (object_versions files scope place) (left_versions files scope place told walk) old new fails

-- THE EFFECT OF WRITING THE LINES OF ALL OBJECTS: the exit status is 1 if there is one, and
-- otherwise what it was
abbrev pub WritesAllVersions : Format → List VersionItem → (short : Refusal → Type 0) → OutState → OutState → (status : ℕ) → Result Listed NeedsFault → Type 0
WritesAllVersions format all short old new before (Ok listed) =
    (end : WriteEnd) × WritesLines (needed_version_lines format) all short old new (Ok end) × (listed.status ≡ status_after end before)
    × (listed.whole ≡ is_some (failing_of end))
WritesAllVersions format all short old new before (Err fault) = WritesLines (needed_version_lines format) all short old new (Err fault)

-- a walk goes on after the lines of a record, unless these are the last
abbrev pub GoesOnAfter : (size : ℕ) → (old new : NeedsWalk) → Result (Option WriteEnd) NeedsFault → Type 0
GoesOnAfter size old new (Ok (Some (Whole fails))) = NeedsWalkGoesOn size old new
GoesOnAfter size old new (Ok (Some Ended)) = Unit {0}
GoesOnAfter size old new (Ok (Some Cut)) = Unit {0}
GoesOnAfter size old new (Ok None) = Unit {0}
GoesOnAfter size old new (Err fault) = Unit {0}
