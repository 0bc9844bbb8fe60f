-- What is returned for a symbol's name.
use Rattle.std.proofs.Common.{◌≡◌, ◌≢◌, ℕ, List, [], Some, Option, None, Result, Ok, Err, refl, arith}
use Rattle.elf_model.specs.Prelude.{DisplayedName, ITEM_NAME_SIZE, resolved_symbol_name, shown}
use Rattle.elf_model.specs.declared.causes.Cause.{Cause}
use Rattle.elf_model.specs.Names.DisplayedName.{Whole as ShownWhole}
use Rattle.elf_source.specs.Source.{CountedState, ReadsUpTo}
use Rattle.elf_table.specs.Prelude.{CallDid, IsReadFault, NameRead, Refuses, fault_of_result, shown_by}
use Rattle.elf_table.specs.declared.names.NameEnd.TheVariants.{Cut, Whole}
use Rattle.elf_table.specs.declared.fault.Fault.{Fault}
use Rattle.elf_table.specs.declared.names.NameEnd.{NameEnd}
use Rattle.elf_table.specs.declared.fault.Fault.TheVariants.{Refused, Source}
use Rattle.elf_table.proofs.LedgerLaws.{CallDid-of}
use Rattle.elf_reloc.specs.Explained.{ReturnsSymbolName, WithoutName}

-- there is no name if st_name is 0, otherwise the one that is shown
pub unnamed : (strings : List ℕ) (index : ℕ) → index ≡ 0 → resolved_symbol_name strings index ≡ Ok (ShownWhole [])
unfolding resolved_symbol_name
unnamed strings index zero = rw zero refl

pub named : (strings : List ℕ) (index : ℕ) → index ≢ 0 → resolved_symbol_name strings index ≡ shown strings index ITEM_NAME_SIZE
unfolding resolved_symbol_name
named strings index some = grind arith

-- a name that was read
pub read_tells : (at : ℕ) (end : NameEnd) (bytes : List ℕ) (answer : Result DisplayedName Cause) → NameRead at (Ok end) bytes answer → ReturnsSymbolName answer (Ok (Some end)) bytes
read_tells at Whole bytes answer read = read
read_tells at Cut bytes answer read = read

-- a name that was not read
pub fault_tells : (a b : CountedState) (n at : ℕ) (name : List ℕ) (answer : List ℕ → Result DisplayedName Cause) (fault : Fault) (result : Result (Option NameEnd) Fault)
    → WithoutName fault result → ReadsUpTo a b n → IsReadFault a b n fault → ((file : List ℕ) → a.seen.file ≡ Some file → Refuses at fault (answer file))
    → CallDid a b (fault_of_result result) n (λ file. ReturnsSymbolName (answer file) result name)
fault_tells a b n at name answer fault (Ok (Some end)) without reads says refuses = absurd without
fault_tells a b n at name answer fault (Ok None) without reads says refuses =
    CallDid-of reads tt (λ file held. let r = rw without.1 at (refuses file held) in (without.0.cause, (r without.2).1))
fault_tells a b n at name answer fault (Err same) without reads says refuses =
    CallDid-of reads (rw without.0 says) (λ file held. rw without.0 without.1)
