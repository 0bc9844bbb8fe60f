-- Which of many files have needs that are listed, by their headers, which are loaded.
use Rattle.std.proofs.Common.{◌≡◌, ℕ, Bool, true, List, ◌++◌, None, Some, Result, Ok, Err, refl}
use Rattle.elf_model.specs.Prelude.{e_shnum, first_refusal, header_checks, load_checks, without_sections}
use Rattle.elf_model.specs.declared.causes.Refusal.{Refusal}
use Rattle.elf_model.proofs.StyleLemmas.{view_tells_of_none}
use Rattle.elf_source.specs.Source.{CountedState, MasksSectionHeaders}
use Rattle.elf_table.proofs.FaultLaws.{charges_hidden}
use Rattle.elf_table.specs.Prelude.{CallDid, StoreState, fault_of_result}
use Rattle.elf_table.specs.declared.fault.Fault.{Fault}
use Rattle.elf_table.specs.declared.fault.Fault.TheVariants.{Refused, Source}
use Rattle.elf_hash.specs.Prelude.{LoadsSegments}
use Rattle.elf_library.specs.Linked.{ReturnsLinked, is_linked, linked_file, linked_shown}

module _ (file : List ℕ) (headers : ℕ) where
  linked_fails : (refusal : Refusal) → first_refusal (header_checks file ++ load_checks file headers) ≡ Some refusal → linked_shown file headers ≡ Err refusal
  unfolding linked_shown
  linked_fails refusal e = rw (e, linked_shown) refl

  pub linked_is : first_refusal (header_checks file ++ load_checks file headers) ≡ None → linked_shown file headers ≡ Ok (is_linked file)
  unfolding linked_shown
  linked_is e = rw (e, linked_shown) refl

  pub linked_stops : (fault : Fault) (store : StoreState) → LoadsSegments file headers store (Err fault) → ReturnsLinked (linked_shown file headers) (Err fault)
  linked_stops (Refused refusal) store loads = λ other. linked_fails refusal (loads other)
  linked_stops (Source fault at) store loads = tt

-- the section header fields of the file header are masked meanwhile
pub linked_hidden : {a b c d : CountedState} (headers : ℕ) (result : Result Bool Fault) (most : ℕ) → MasksSectionHeaders a b true → MasksSectionHeaders c d a.hides
    → CallDid b c (fault_of_result result) most (λ file. e_shnum file ≡ 0 → ReturnsLinked (linked_shown file headers) result)
    → CallDid a d (fault_of_result result) most (λ file. ReturnsLinked (linked_file file headers) result)
linked_hidden {a} {b} {c} {d} headers result most hide show did = record {
  costs = charges_hidden _ (fault_of_result result) hide show did.costs;
  known = λ file held. did.known (without_sections file) (hide.shows refl file held) (view_tells_of_none file).1;
}
