-- What a fault of a read is, and what it implies if section headers were masked meanwhile.
use Rattle.std.proofs.Common.{ℕ, true, Option, None, Some, sym, ap, ◌∙◌, arith}
use Rattle.elf_model.specs.declared.causes.Refusal.{Refusal}
use Rattle.elf_source.specs.Source.{CountedState, MasksSectionHeaders}
use Rattle.elf_source.proofs.HidingLaws.{IsSourceFault-hidden, ExceedsBudget-hidden, ReadsUpTo-hidden}
use Rattle.elf_table.specs.Prelude.{CallReads, IsAt, IsOfRead, IsReadFault}
use Rattle.elf_table.specs.declared.fault.Fault.{Fault}
use Rattle.elf_table.specs.declared.fault.Fault.TheVariants.{Refused, Source}

-- a fault of a read at an offset is one of a read
pub of-read : (at : ℕ) (fault : Fault) → IsAt at fault → IsOfRead fault
of-read at (Refused refusal) is = ap (λ (r : Refusal). r.cause) is
of-read at (Source fault offset) is = tt

-- what a fault implies
says_hidden : {a b c d : CountedState} (n : ℕ) (fault : Fault) → MasksSectionHeaders a b true → MasksSectionHeaders c d a.hides → IsReadFault b c n fault → IsReadFault a d n fault
says_hidden n (Refused refusal) hide show says = λ late.
    let said = says late in
    (omega (arith, hide.same_size, said.0), ExceedsBudget-hidden hide show said.1, said.2 ∙ sym show.same_stopped)
says_hidden n (Source fault at) hide show says = (IsSourceFault-hidden fault hide show says.0, says.1 ∙ sym show.same_stopped)

-- the cost of a call
pub charges_hidden : {a b c d : CountedState} (n : ℕ) (stop : Option Fault) → MasksSectionHeaders a b true → MasksSectionHeaders c d a.hides → CallReads b c stop n → CallReads a d stop n
charges_hidden n None hide show costs = record { reads = ReadsUpTo-hidden hide costs.reads show; says = tt }
charges_hidden n (Some fault) hide show costs = record { reads = ReadsUpTo-hidden hide costs.reads show; says = says_hidden n fault hide show costs.says }
