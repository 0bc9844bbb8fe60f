-- The members of an archive as they are walked over.
use Rattle.std.specs.Prelude.{ℕ, ◌≡◌, ◌++◌, List, [], ◌∷◌, Option, None, Result, Ok, Err, map, option_map}
use Rattle.elf_archive.specs.Members.{extent_of_names}
use Rattle.elf_archive.specs.declared.member.FileRange.{FileRange as Place}
use Rattle.elf_model.specs.Archive.{FileRange}
use Rattle.elf_model.specs.LinkArchives.{link_members, name_table}
use Rattle.elf_model.specs.LinkSymbols.{as_any}
use Rattle.elf_model.specs.declared.link_states.LinkCause.TheVariants as cause
use Rattle.elf_resolve.specs.Taken.{IsLinkFault, data_of, header_of}
use Rattle.elf_resolve.specs.declared.link_faults.LinkFault.{LinkFault}
use Rattle.elf_resolve.specs.declared.link_faults.LinkFault.TheVariants.{Refused}

-- an element is added, or there is no room for it, which is refused at an offset
abbrev pub AddsElement : {A : Type 0} → (old new : List A) → A → (at : ℕ) → Result (Unit {0}) LinkFault → Type 0
AddsElement old new element at (Ok done) = new ≡ old ++ element ∷ []
AddsElement old new element at (Err fault) = (new ≡ old) × (fault ≡ Refused (record { at = at; cause = cause.TooManyRows }))

-- all members are walked over, from the first on
pub record PassedMembers (file : List ℕ) (old new : List ℕ) (names : Option FileRange) : Type 0 where
  pub none_cut : (link_members file).refusal ≡ None
  pub members : new ≡ old ++ map header_of (link_members file).members
  pub names_are : names ≡ option_map data_of (name_table file (link_members file).members)

abbrev pub PassesMembers : List ℕ → (old new : List ℕ) → Result (Option Place) LinkFault → Type 0
PassesMembers file old new (Ok names) = PassedMembers file old new (extent_of_names names)
PassesMembers file old new (Err fault) = IsLinkFault (option_map as_any (link_members file).refusal) fault
