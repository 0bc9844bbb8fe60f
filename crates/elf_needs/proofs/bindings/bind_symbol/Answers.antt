-- The symbol references nothing, its line is written, or the line of a fault.
use Rattle.std.proofs.Common.{[], get_or}
use Rattle.elf_model.specs.Prelude.{asked_name, bound_item}
use Rattle.elf_needs.specs.Prelude.{IsBudgetShort, bound_among}
use Rattle.elf_library.specs.Prelude.{asked_if}
use Rattle.elf_needs.proofs.WriteLaws.{only_of, symbol_fault, symbol_none, symbol_out, symbol_told}
use Rattle.elf_needs.proofs.bindings.bind_symbol.Goals as goal

pub returns-in-Ok-None-clause-known : goal.returns-in-Ok-None-clause-known
returns-in-Ok-None-clause-known g c =
    λ headers files told are found below.
    symbol_none c.args.scope.now.lines (bound_item (bound_among headers files c.args.scope.now) c.args.at.place (get_or files c.args.at.place []) told.symbols c.args.at.symbol)
    (get_or c.args.scope.now.indexes.now c.args.at.place 0) c.args.at.symbol c.item_of.new.names.name (asked_name (asked_if c.item_of.new.names.versioned c.item_of.new.names.version)) (IsBudgetShort c.item_of.new.objects c.item_of.new.left) c.args.out.now
    (rw (c.in-Ok-None.is, c.in-Ok-None.field-0-is) at (c.item_of.ensures.known headers files told are found below))

pub returns-in-Err-clause-known : goal.returns-in-Err-clause-known
returns-in-Err-clause-known g c =
    λ headers files told are found below.
    symbol_fault c.args.scope.now.lines (bound_item (bound_among headers files c.args.scope.now) c.args.at.place (get_or files c.args.at.place []) told.symbols c.args.at.symbol)
    (get_or c.args.scope.now.indexes.now c.args.at.place 0) c.args.at.symbol c.item_of.new.names.name (asked_name (asked_if c.item_of.new.names.versioned c.item_of.new.names.version)) (IsBudgetShort c.item_of.new.objects c.item_of.new.left) c.in-Err.fault c.args.out.now c.tell.new.out c.tell.result
    (rw (c.in-Err.is) at (c.item_of.ensures.known headers files told are found below))
    (only_of c.item_of.new.objects c.item_of.new.left c.in-Err.fault (rw (c.in-Err.is) at c.item_of.ensures.short)) c.tell.ensures

pub returns-in-Err-list_binding-clause-known : goal.returns-in-Err-list_binding-clause-known
returns-in-Err-list_binding-clause-known g c =
    let puts = rw (c.index_at-object.ensures, c.wanted-wanted.ensures.name, c.wanted-wanted.ensures.asked, c.in-Err-list_binding.is) at c.list_binding.ensures.puts in
    λ headers files told are found below.
    symbol_out c.args.scope.now.lines (bound_item (bound_among headers files c.args.scope.now) c.args.at.place (get_or files c.args.at.place []) told.symbols c.args.at.symbol)
    (get_or c.args.scope.now.indexes.now c.args.at.place 0) c.args.at.symbol c.item_of.new.names.name (asked_name (asked_if c.item_of.new.names.versioned c.item_of.new.names.version)) (IsBudgetShort c.item_of.new.objects c.item_of.new.left) c.in-Ok-Some.state
    (rw (c.in-Ok-Some.is, c.in-Ok-Some.field-0-is) at (c.item_of.ensures.known headers files told are found below)) c.args.out.now c.list_binding.new.out _ puts.0 puts.1

pub returns-in-Ok-clause-known : goal.returns-in-Ok-clause-known
returns-in-Ok-clause-known g c =
    let puts = rw (c.index_at-object.ensures, c.wanted-wanted.ensures.name, c.wanted-wanted.ensures.asked, c.in-Ok.is) at c.list_binding.ensures.puts in
    λ headers files told are found below.
    symbol_told c.args.scope.now.lines (bound_item (bound_among headers files c.args.scope.now) c.args.at.place (get_or files c.args.at.place []) told.symbols c.args.at.symbol)
    (get_or c.args.scope.now.indexes.now c.args.at.place 0) c.args.at.symbol c.item_of.new.names.name (asked_name (asked_if c.item_of.new.names.versioned c.item_of.new.names.version)) (IsBudgetShort c.item_of.new.objects c.item_of.new.left) c.in-Ok-Some.state
    (rw (c.in-Ok-Some.is, c.in-Ok-Some.field-0-is) at (c.item_of.ensures.known headers files told are found below)) c.args.out.now c.list_binding.new.out c.is_unbound.result puts.0 c.is_unbound.ensures
