-- A library is read and named, and taken if it is asked for.
use Rattle.std.specs.Prelude.{Ok}
use Rattle.std.proofs.lemmas.Result.{err_from_is_err_and}
use Rattle.elf_model.specs.LinkArchives.{refusal_of}
use Rattle.elf_model.specs.Numbers.{SHT_DYNAMIC}
use Rattle.elf_resolve.specs.LibraryFiles.{header_of_type}
use Rattle.elf_resolve.specs.TakenLibraries.{new_symbols, symbols_with}
use Rattle.elf_resolve.proofs.LinkFaultLaws.{fault_of_any}
use Rattle.elf_resolve.proofs.TakenLibraryLaws.{name_refuses, new_symbols_are, taken_as, versions_refuse}
use Rattle.elf_resolve.proofs.asked_libraries.add_library.Goals as goal

pub returns-in_err-tables-clause-takes : goal.returns-in_err-tables-clause-takes
returns-in_err-tables-clause-takes g c = λ file known held.
    let p = err_from_is_err_and c.from_residual.result c.from_residual.ensures.1 in
    rw (p.1, p.2) (versions_refuse file c.in_err-tables.field-0.0 (c.in_err-tables.ensures.reads file known held))

pub returns-in_err-name-clause-takes : goal.returns-in_err-name-clause-takes
returns-in_err-name-clause-takes g c = λ file known held.
    let read = c.in_ok-tables.ensures.reads file known held in
    let p = err_from_is_err_and c.from_residual-in_err-name.result c.from_residual-in_err-name.ensures.1 in
    rw (p.1, p.2) (name_refuses file read.versions c.in_err-name.field-0.0 read.known (c.in_err-name.ensures file (header_of_type file SHT_DYNAMIC) read.dynamic))

pub returns-in_err-library-clause-takes : goal.returns-in_err-library-clause-takes
returns-in_err-library-clause-takes g c = λ file known held.
    let p = err_from_is_err_and c.from_residual-in_err-library.result c.from_residual-in_err-library.ensures.1 in
    rw (p.1, p.2) (fault_of_any (refusal_of (new_symbols file)) c.in_err-library.field-0.0 c.in_err-library.ensures.limit)

pub returns-in_err-add_needed-clause-takes : goal.returns-in_err-add_needed-clause-takes
returns-in_err-add_needed-clause-takes g c = λ file known held.
    let read = c.in_ok-tables.ensures.reads file known held in
    let named = c.in_ok-name.ensures file (header_of_type file SHT_DYNAMIC) read.dynamic in
    let p = err_from_is_err_and c.from_residual-in_err-add_needed.result c.from_residual-in_err-add_needed.ensures.1 in
    rw (p.1, p.2) (fault_of_any (refusal_of (new_symbols file)) c.in_err-add_needed.field-0.0 (c.in_err-add_needed.ensures file (header_of_type file SHT_DYNAMIC) named.0 read.dynamic named.1))

pub returns-clause-takes : goal.returns-clause-takes
returns-clause-takes g c = λ file known held.
    let read = c.in_ok-tables.ensures.reads file known held in
    let named = c.in_ok-name.ensures file (header_of_type file SHT_DYNAMIC) read.dynamic in
    taken_as (symbols_with file (Ok read.versions)) (new_symbols file) c.args.keys.now c.ask_library.new.keys c.read_library_tables.new.room.marks c.args.room.now.marks c.in_ok-tables.tables.row c.args.opened.row c.ask_library.result
    (new_symbols_are file read.versions named.0 read.known named.1) c.read_library_tables.ensures.marks read.row_is (c.ask_library.ensures file read.versions read.holds held)
