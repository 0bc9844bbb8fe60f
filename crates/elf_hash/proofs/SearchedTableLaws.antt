-- The counts of a table of either style are checked against its size, as a loader's lookup does;
-- and its walk is the one there.
use Rattle.std.proofs.Common.{◌≡◌, ℕ, Bool, List, [], ◌∷◌, Ok, Err, refl, sym, ap, ◌∙◌}
use Rattle.elf_model.specs.Prelude.{GnuTable, LookupTables, SymbolQuery, SysvTable, answers, counts_check, first_refusal, refuse, walk_in}
use Rattle.elf_model.specs.declared.causes.Cause.TheVariants.{HashShape}
use Rattle.elf_table.specs.declared.fault.Fault.{Fault}
use Rattle.elf_table.specs.declared.fault.Fault.TheVariants.{Refused, Source}
use Rattle.elf_hash.specs.Prelude.{HasCounts, HasGnuCounts, HasSysvCounts, IsPlaceIn, gnu_misshapen, hash_style_of, sysv_misshapen, walked_in}
use Rattle.elf_hash.specs.declared.gnu_table.GnuHashTable.{GnuHashTable as GnuHashTable}
use Rattle.elf_hash.specs.declared.place.HashTableLocation.{HashTableLocation}
use Rattle.elf_hash.specs.declared.sysv_table.SysvHashTable.{SysvHashTable as SysvHashTable}
use Rattle.elf_hash.specs.declared.hash_style.HashStyle.TheVariants.{Gnu, Sysv}
use Rattle.elf_hash.specs.declared.table.HashTable.TheVariants.{Gnu as IsGnuTable, Sysv as IsSysvTable}

module _ (file : List ℕ) (scope : LookupTables) (place : HashTableLocation) (is : IsPlaceIn scope place) where
  gnu_check : scope.kind ≡ GnuTable → first_refusal (counts_check file scope ∷ []) ≡ first_refusal (refuse (gnu_misshapen file scope.table) place.head HashShape ∷ [])
  unfolding counts_check
  gnu_check kind = rw (kind, is.head) refl

  sysv_check : scope.kind ≡ SysvTable → first_refusal (counts_check file scope ∷ []) ≡ first_refusal (refuse (sysv_misshapen file scope.table) place.head HashShape ∷ [])
  unfolding counts_check
  sysv_check kind = rw (kind, is.head) refl

  pub gnu_passes : (t : GnuHashTable) → place.kind ≡ Gnu → HasGnuCounts file scope.table place (Ok t) → HasCounts file scope (Ok (IsGnuTable t))
  gnu_passes t gnu counts =
      let kind : scope.kind ≡ GnuTable = sym is.kind ∙ ap hash_style_of gnu in
      let c = counts is.table in
      (gnu_check kind ∙ rw c.0 refl, (kind, c.1))

  pub sysv_passes : (t : SysvHashTable) → place.kind ≡ Sysv → HasSysvCounts file scope.table place (Ok t) → HasCounts file scope (Ok (IsSysvTable t))
  sysv_passes t sysv counts =
      let kind : scope.kind ≡ SysvTable = sym is.kind ∙ ap hash_style_of sysv in
      let c = counts is.table in
      (sysv_check kind ∙ rw c.0 refl, (kind, c.1))

  pub gnu_fails : (fault : Fault) → place.kind ≡ Gnu → HasGnuCounts file scope.table place (Err fault) → HasCounts file scope (Err fault)
  gnu_fails (Refused refusal) gnu counts = λ other.
      let c = counts is.table other in gnu_check (sym is.kind ∙ ap hash_style_of gnu) ∙ rw (c.0, c.1) refl
  gnu_fails (Source fault at) gnu counts = tt

  pub sysv_fails : (fault : Fault) → place.kind ≡ Sysv → HasSysvCounts file scope.table place (Err fault) → HasCounts file scope (Err fault)
  sysv_fails (Refused refusal) sysv counts = λ other.
      let c = counts is.table other in sysv_check (sym is.kind ∙ ap hash_style_of sysv) ∙ rw (c.0, c.1) refl
  sysv_fails (Source fault at) sysv counts = tt

-- the walk of a loader's lookup is that of its matcher
pub walk_in_is : (file : List ℕ) (scope : LookupTables) (wanted : SymbolQuery) (is_wanted : ℕ → Bool)
    → walk_in file scope wanted is_wanted ≡ walked_in file scope wanted.name (answers file scope.symbols wanted is_wanted)
unfolding walk_in
walk_in_is file scope wanted is_wanted = refl
