-- What is found while the header's fields for section headers are masked.
use Rattle.std.proofs.Common.{◌≡◌, ℕ, Result, refl, subst, true}
use Rattle.elf_model.specs.Prelude.{e_shnum, without_sections}
use Rattle.elf_model.specs.declared.traits.Hardening.{Hardening}
use Rattle.elf_model.proofs.StyleLemmas.{view_tells_of_none}
use Rattle.elf_source.specs.Source.{CountedState, MasksSectionHeaders}
use Rattle.elf_table.proofs.FaultLaws.{charges_hidden}
use Rattle.elf_table.specs.Prelude.{CallDid, CallReads, fault_of_result}
use Rattle.elf_table.specs.declared.fault.Fault.{Fault}
use Rattle.elf_loader.specs.Prelude.{FindsMasked, FindsShown}

pub found_hidden : {a b c d : CountedState} {headers : ℕ} {result : Result Hardening Fault} (most : ℕ → ℕ) → MasksSectionHeaders a b true → MasksSectionHeaders c d a.hides
    → CallDid b c (fault_of_result result) (most b.seen.size) (λ file. e_shnum file ≡ 0 → FindsShown file headers b c result)
    → CallDid a d (fault_of_result result) (most a.seen.size) (λ file. FindsMasked file headers a d result)
found_hidden {a} {b} {c} {d} {headers} {result} most hide show did = record {
  costs = subst (λ (size : ℕ). CallReads a d (fault_of_result result) (most size)) hide.same_size (charges_hidden _ (fault_of_result result) hide show did.costs);
  known = λ file held.
      let found = did.known (without_sections file) (hide.shows refl file held) (view_tells_of_none file).1 in
      record {
        costs = charges_hidden _ (fault_of_result result) hide show found.costs;
        finds = found.finds;
      };
}
