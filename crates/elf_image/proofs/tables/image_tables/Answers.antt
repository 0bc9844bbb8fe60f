-- The checks of the tables, in their order.
use Rattle.std.proofs.Common.{ℕ, List, refl}
use Rattle.std.proofs.lemmas.Result.{err_from_is_err_and}
use Rattle.elf_model.specs.Checks.{Check}
use Rattle.elf_model.specs.DynamicRelocations.{located_table}
use Rattle.elf_model.specs.ImageChecks.{addend_checks, image_symbol_checks, loaded_table, located_checks}
use Rattle.elf_model.specs.declared.causes.Cause.TheVariants.{Unsupported}
use Rattle.elf_model.specs.declared.relocation_tables.RelocationForm.TheVariants as form
use Rattle.elf_model.specs.declared.relocation_tables.RelocationTable.{RelocationTable}
use Rattle.elf_model.specs.declared.relocation_tables.RelocationTable.TheVariants as table
use Rattle.elf_table.specs.declared.fault.Fault.TheVariants.{Refused}
use Rattle.elf_image.proofs.TableSteps.{addend_entries, call_entries, compact_entries, one_kind, passed_five, stop_fifth, stop_first, stop_fourth, stop_second, stop_third, symbol_entry}
use Rattle.elf_image.proofs.tables.image_tables.Goals as goal

-- the checks of a table
abbrev of : List ℕ → ℕ → RelocationTable → List Check
of file at kind = located_checks (located_table file at kind)

pub returns-in-Some-clause-tables : goal.returns-in-Some-clause-tables
returns-in-Some-clause-tables c = λ file at views are.
    rw c.refused.ensures
    (stop_first (addend_checks file at) (of file at table.Relr) (of file at table.Rela) (of file at table.Jmprel) (image_symbol_checks file at) (Refused (record { at = c.in-Some.at; cause = Unsupported })) (c.in-Some.ensures file at are))

pub returns-in_err-compact-clause-tables : goal.returns-in_err-compact-clause-tables
returns-in_err-compact-clause-tables c = λ file at views are.
    let p = err_from_is_err_and c.from_residual.result c.from_residual.ensures.1 in
    let compact = c.in_err-compact.ensures.maps file at table.Relr form.Relative views (compact_entries file at c.args.rows.now are) refl (λ address row a r. refl) in
    rw (p.1, p.2)
    (stop_second (addend_checks file at) (of file at table.Relr) (of file at table.Rela) (of file at table.Jmprel) (image_symbol_checks file at) (c.in_default.ensures file at are) _ compact)

pub returns-in_err-addends-clause-tables : goal.returns-in_err-addends-clause-tables
returns-in_err-addends-clause-tables c = λ file at views are.
    let p = err_from_is_err_and c.from_residual-in_err-addends.result c.from_residual-in_err-addends.ensures.1 in
    let compact = c.in_ok-compact.ensures.maps file at table.Relr form.Relative views (compact_entries file at c.args.rows.now are) refl (λ address row a r. refl) in
    let addends = c.in_err-addends.ensures.maps file at table.Rela form.WithAddends views (addend_entries file at c.args.rows.now are) refl (λ address row a r. refl) in
    rw (p.1, p.2)
    (stop_third (addend_checks file at) (of file at table.Relr) (of file at table.Rela) (of file at table.Jmprel) (image_symbol_checks file at) (c.in_default.ensures file at are) compact.0 _ addends)

pub returns-in_err-calls-clause-tables : goal.returns-in_err-calls-clause-tables
returns-in_err-calls-clause-tables c = λ file at views are.
    let p = err_from_is_err_and c.from_residual-in_err-calls.result c.from_residual-in_err-calls.ensures.1 in
    let passes = c.in_default.ensures file at are in
    let compact = c.in_ok-compact.ensures.maps file at table.Relr form.Relative views (compact_entries file at c.args.rows.now are) refl (λ address row a r. refl) in
    let addends = c.in_ok-addends.ensures.maps file at table.Rela form.WithAddends views (addend_entries file at c.args.rows.now are) refl (λ address row a r. refl) in
    let entries = call_entries file at c.args.rows.now are in
    let calls = c.in_err-calls.ensures.maps file at table.Jmprel form.WithAddends views entries refl (one_kind file at c.args.rows.now.calls entries passes) in
    rw (p.1, p.2)
    (stop_fourth (addend_checks file at) (of file at table.Relr) (of file at table.Rela) (of file at table.Jmprel) (image_symbol_checks file at) passes compact.0 addends.0 _ calls)

pub returns-in_err-symbols-clause-tables : goal.returns-in_err-symbols-clause-tables
unfolding loaded_table
returns-in_err-symbols-clause-tables c = λ file at views are.
    let p = err_from_is_err_and c.from_residual-in_err-symbols.result c.from_residual-in_err-symbols.ensures.1 in
    let passes = c.in_default.ensures file at are in
    let compact = c.in_ok-compact.ensures.maps file at table.Relr form.Relative views (compact_entries file at c.args.rows.now are) refl (λ address row a r. refl) in
    let addends = c.in_ok-addends.ensures.maps file at table.Rela form.WithAddends views (addend_entries file at c.args.rows.now are) refl (λ address row a r. refl) in
    let entries = call_entries file at c.args.rows.now are in
    let calls = c.in_ok-calls.ensures.maps file at table.Jmprel form.WithAddends views entries refl (one_kind file at c.args.rows.now.calls entries passes) in
    let symbols = c.in_err-symbols.ensures.symbols file at views addends.1 calls.1 (symbol_entry file at c.args.rows.now are) in
    rw (p.1, p.2)
    (stop_fifth (addend_checks file at) (of file at table.Relr) (of file at table.Rela) (of file at table.Jmprel) (image_symbol_checks file at) passes compact.0 addends.0 calls.0 _ symbols)

pub returns-clause-tables : goal.returns-clause-tables
unfolding loaded_table
returns-clause-tables c = λ file at views are.
    let passes = c.in_default.ensures file at are in
    let compact = c.in_ok-compact.ensures.maps file at table.Relr form.Relative views (compact_entries file at c.args.rows.now are) refl (λ address row a r. refl) in
    let addends = c.in_ok-addends.ensures.maps file at table.Rela form.WithAddends views (addend_entries file at c.args.rows.now are) refl (λ address row a r. refl) in
    let entries = call_entries file at c.args.rows.now are in
    let calls = c.in_ok-calls.ensures.maps file at table.Jmprel form.WithAddends views entries refl (one_kind file at c.args.rows.now.calls entries passes) in
    let symbols = c.in_ok-symbols.ensures.symbols file at views addends.1 calls.1 (symbol_entry file at c.args.rows.now are) in (
      passed_five (addend_checks file at) (of file at table.Relr) (of file at table.Rela) (of file at table.Jmprel) (image_symbol_checks file at) passes compact.0 addends.0 calls.0 symbols.0,
      record { compact = compact.1; addends = addends.1; calls = calls.1; symbols = symbols.1 },
    )
