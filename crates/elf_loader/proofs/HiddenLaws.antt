-- The effect of a lookup while the header's fields for section headers are masked.
use Rattle.std.proofs.Common.{◌≡◌, ℕ, Bool, true, false, List, Result, refl, subst}
use Rattle.elf_model.specs.Prelude.{SymbolQuery, looked_at, without_sections}
use Rattle.elf_source.specs.Source.{CountedState, MasksSectionHeaders}
use Rattle.elf_table.proofs.FaultLaws.{charges_hidden}
use Rattle.elf_table.specs.Prelude.{CallDid, CallReads, fault_of_result}
use Rattle.elf_table.specs.declared.fault.Fault.{Fault}
use Rattle.elf_loader.specs.Prelude.{LooksUp}
use Rattle.elf_loader.specs.declared.lookup.SymbolLookup.{SymbolLookup}

-- the file that is searched
all_shown : (by_segments : Bool) (file : List ℕ) → by_segments ≡ false → looked_at by_segments file ≡ file
all_shown true file h = cc
all_shown false file h = refl

none_shown : (by_segments : Bool) (file : List ℕ) → by_segments ≡ true → looked_at by_segments file ≡ without_sections file
none_shown true file h = refl
none_shown false file h = cc

-- a lookup in the file as it is
module _ {headers : ℕ} {wanted : SymbolQuery} {told : List ℕ} {result : Result SymbolLookup Fault} (by_segments : Bool) where
  pub looked_as_it_is : {n : ℕ} {a b : CountedState} → by_segments ≡ false
      → CallDid a b (fault_of_result result) n (λ file. LooksUp file headers wanted told a b result)
      → CallDid a b (fault_of_result result) n (λ file. LooksUp (looked_at by_segments file) headers wanted told a b result)
  looked_as_it_is shown did = record {
    costs = did.costs;
    known = λ file held. rw (all_shown by_segments file shown) (did.known file held);
  }

  -- and if section headers are masked meanwhile
  pub looked_hidden : {a b c d : CountedState} (most : ℕ → ℕ) → by_segments ≡ true → MasksSectionHeaders a b true → MasksSectionHeaders c d a.hides
      → CallDid b c (fault_of_result result) (most b.seen.size) (λ file. LooksUp file headers wanted told b c result)
      → CallDid a d (fault_of_result result) (most a.seen.size) (λ file. LooksUp (looked_at by_segments file) headers wanted told a d result)
  looked_hidden {a} {b} {c} {d} most hidden hide show did = record {
    costs = subst (λ (size : ℕ). CallReads a d (fault_of_result result) (most size)) hide.same_size (charges_hidden _ (fault_of_result result) hide show did.costs);
    known = λ file held.
        let looks = did.known (without_sections file) (hide.shows refl file held) in
        rw (none_shown by_segments file hidden)
        (record { costs = charges_hidden _ (fault_of_result result) hide show looks.costs; tells = looks.tells });
  }
