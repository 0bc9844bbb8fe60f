-- What a fault implies for the source and the output.
use Rattle.std.proofs.Common.{◌≡◌, ℕ, Bool, true, Result, Ok, Err, IfErr, sym, ◌∙◌}
use Rattle.elf_source.proofs.HidingLaws.{IsSourceFault-hidden}
use Rattle.elf_source.proofs.ReadsLaws.{IsSourceFault-then}
use Rattle.elf_source.specs.Prelude.{CountedState, MasksSectionHeaders, OutState, ReadsUpTo}
use Rattle.elf_table.specs.Prelude.{IsOfCheck, IsReadFault, stop_of}
use Rattle.elf_table.specs.declared.fault.Fault.{Fault}
use Rattle.elf_table.specs.declared.fault.Fault.TheVariants as fault
use Rattle.elf_table.specs.declared.run_fault.RunFault.{RunFault}
use Rattle.elf_table.specs.declared.run_fault.RunFault.TheVariants.{Out, Refused, Source}
use Rattle.elf_image.specs.Headers.{IsRefusedFault}
use Rattle.elf_image.specs.Written.{BudgetDecides, StopsImage}

-- of a read
pub read-stops : (a b : CountedState) (out : OutState) (n : ℕ) (fault : Fault) → IsReadFault a b n fault → StopsImage a b out (stop_of fault)
read-stops a b out n (fault.Refused refusal) says = tt
read-stops a b out n (fault.Source reason at) says = says

-- of a check
pub check-stops : (a b : CountedState) (out : OutState) (fault : Fault) → IsOfCheck fault → StopsImage a b out (stop_of fault)
check-stops a b out (fault.Refused refusal) says = tt
check-stops a b out (fault.Source reason at) says = absurd says

pub refusal-stops : (a b : CountedState) (out : OutState) (fault : Fault) → IsRefusedFault fault → StopsImage a b out (stop_of fault)
refusal-stops a b out (fault.Refused refusal) says = tt
refusal-stops a b out (fault.Source reason at) says = absurd says

pub budget-stops : (a b c : CountedState) (out : OutState) (X : Type 0) (at cost : ℕ) (fault : Fault) → BudgetDecides {X = X} a at cost (Err fault) → StopsImage b c out (stop_of fault)
budget-stops a b c out X at cost (fault.Refused refusal) says = tt
budget-stops a b c out X at cost (fault.Source reason offset) says = absurd says

-- after reads
pub stops-after : {a b : CountedState} {n : ℕ} (c : CountedState) (out : OutState) (fault : RunFault) → ReadsUpTo a b n → StopsImage b c out fault → StopsImage a c out fault
stops-after c out (Refused refusal) reads says = tt
stops-after {a} {b} c out (Source reason at) reads says = (IsSourceFault-then a.seen b.seen c.seen reason reads.keeps says.0, says.1)
stops-after c out (Out reason) reads says = says

pub stops-later : {X : Type 0} {a b : CountedState} {n : ℕ} (c : CountedState) (out : OutState) (result : Result X RunFault) → ReadsUpTo a b n
    → IfErr result (StopsImage b c out) → IfErr result (StopsImage a c out)
stops-later c out (Ok x) reads says = tt
stops-later c out (Err fault) reads says = stops-after c out fault reads says

-- while fields of the file header are masked
pub stops-masked : {X : Type 0} {a b c d : CountedState} (hides : Bool) (out : OutState) (result : Result X RunFault) → hides ≡ a.hides → MasksSectionHeaders a b true
    → MasksSectionHeaders c d hides → IfErr result (StopsImage b c out) → IfErr result (StopsImage a d out)
stops-masked hides out (Ok x) is hide show says = tt
stops-masked hides out (Err (Refused refusal)) is hide show says = tt
stops-masked hides out (Err (Source reason at)) is hide show says = (IsSourceFault-hidden reason hide (rw is at show) says.0, says.1 ∙ sym show.same_stopped)
stops-masked hides out (Err (Out reason)) is hide show says = says
