-- The first table of symbols of a kind is read, if there is one.
use Rattle.std.proofs.Common.{◌≡◌, ◌∙◌, ℕ, List, Some, Option, sym, ap, subst}
use Rattle.std.proofs.lemmas.Result.{err_from_is_err_and}
use Rattle.elf_model.specs.Checks.{first_refusal}
use Rattle.elf_model.specs.LinkSymbols.{table_checks_in}
use Rattle.elf_resolve.specs.ObjectParts.{ReadSymbols, as_any_refusal}
use Rattle.elf_resolve.specs.Taken.{IsLinkFault}
use Rattle.elf_resolve.specs.declared.object.SymbolRows.{SymbolRows}
use Rattle.elf_resolve.proofs.object.read_first_symbols.Goals as goal

found_read : (file bytes : List ℕ) (section : ℕ) (symbols : SymbolRows) (found : Option ℕ) → Some section ≡ found → ReadSymbols file bytes section symbols
    → (found ≡ Some symbols.section) × ReadSymbols file bytes symbols.section symbols
found_read file bytes section symbols found is read = (sym is ∙ ap Some (sym read.section_is), subst (λ s. ReadSymbols file bytes s symbols) (sym read.section_is) read)

pub returns-clause-reads : goal.returns-clause-reads
returns-clause-reads g c = λ file known held.
    found_read file c.read_symbols.new.strings.bytes c.in-Some.section c.in_ok-symbols.symbols _ (c.in-Some.ensures.held file held) (c.in_ok-symbols.ensures.reads file known held)

pub returns-in_err-symbols-clause-reads : goal.returns-in_err-symbols-clause-reads
returns-in_err-symbols-clause-reads g c = λ file known held.
    let p = err_from_is_err_and c.from_residual.result c.from_residual.ensures.1 in
    rw (p.1, p.2) (subst (λ found. IsLinkFault (as_any_refusal (first_refusal (table_checks_in file found))) c.in_err-symbols.field-0.0) (c.in-Some.ensures.held file held) (c.in_err-symbols.ensures.reads file known held))
