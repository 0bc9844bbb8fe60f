-- The listing of an archive, by its magic string and its members.
use Rattle.std.proofs.Common.{◌≡◌, ℕ, Bool, ◌+◌, ◌≤◌, List, [], ◌∷◌, length, None, Err, refl, arith}
use Rattle.elf_model.specs.Prelude.{Fault as FaultItem, IsBudgetRefusal, ListingStyle, archive_ceiling, archive_checks, archive_cost, archive_items, before_members, first_refusal, members_cost, members_of, walk_items}
use Rattle.elf_model.specs.declared.causes.Refusal.{Refusal}
use Rattle.elf_model.proofs.ListingLemmas.{guarded-passes, guarded-fault}
use Rattle.elf_table.specs.declared.fault.Fault.{Fault}
use Rattle.elf_table.specs.declared.fault.Fault.TheVariants.{Refused}
use Rattle.elf_archive.specs.Archives.{MagicRead}

pub magic_within : (size headers : ℕ) (style : ListingStyle) → 8 ≤ archive_ceiling size headers style
unfolding archive_ceiling
magic_within size headers style = omega arith

pub magic_cost : (file : List ℕ) (headers : ℕ) (style : ListingStyle) (parts : ℕ) → 8 ≤ archive_cost file headers style parts
unfolding archive_cost
magic_cost file headers style parts = omega arith

pub passed_cost : (file : List ℕ) (headers : ℕ) (style : ListingStyle) (parts : ℕ) → first_refusal (archive_checks file) ≡ None
    → archive_cost file headers style parts ≡ 8 + members_cost (length file) file headers style parts before_members
unfolding archive_cost
passed_cost file headers style parts passed = rw passed refl

pub passed_items : (alone : Bool) (file : List ℕ) (headers : ℕ) (style : ListingStyle) (parts : ℕ) → first_refusal (archive_checks file) ≡ None
    → archive_items alone file headers style parts ≡ walk_items alone file headers style parts (members_of file style.cap)
unfolding archive_items
passed_items alone file headers style parts passed = guarded-passes (archive_checks file) (walk_items alone file headers style parts (members_of file style.cap)) passed

pub magic_alone : (alone : Bool) (file : List ℕ) (headers : ℕ) (style : ListingStyle) (parts : ℕ) (fault : Fault) → MagicRead {X = Unit {0}} file (Err fault) → (refusal : Refusal) → fault ≡ Refused refusal
    → (IsBudgetRefusal refusal → ⊥) → archive_items alone file headers style parts ≡ FaultItem refusal ∷ []
unfolding archive_items
magic_alone alone file headers style parts fault read refusal is other =
    let first = rw is at read in
    guarded-fault (archive_checks file) (walk_items alone file headers style parts (members_of file style.cap)) refusal (first other)
