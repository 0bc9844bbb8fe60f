-- A library is refused for its header or its section headers, or for what comes after them, or it is taken.
use Rattle.std.proofs.Common.{ap, ◌∙◌}
use Rattle.std.specs.Prelude.{Ok}
use Rattle.std.proofs.lemmas.Result.{err_from_is_err_and}
use Rattle.elf_table.specs.Prelude.{StoreState}
use Rattle.elf_source.proofs.ReadsLaws.{KeepsSource-then}
use Rattle.elf_resolve.specs.LinkFaults.{fault_of_table}
use Rattle.elf_resolve.specs.TakenLibraries.{symbols_after_versions, known_library, library_headers_refusal, symbols_with, unless_link_refused}
use Rattle.elf_resolve.proofs.ObjectRefusals.{slots_read}
use Rattle.elf_resolve.proofs.TakenLibraryLaws.{known_parts, after_load, header_refuses, load_refuses, part_fault, symbols_are, symbols_refuse, taken_as}
use Rattle.elf_resolve.proofs.asked_libraries.reopen_library.Goals as goal

pub returns-in_err-head-clause-takes : goal.returns-in_err-head-clause-takes
returns-in_err-head-clause-takes g c = λ file known.
    let headers = c.args.room.now.headers in
    let p = err_from_is_err_and c.from_residual.result c.from_residual.ensures.1 in
    rw (p.1, p.2)
    (part_fault (unless_link_refused (library_headers_refusal file headers) (symbols_after_versions file)) (known_library file headers) c.in_err-head.field-0.0 (known_parts file headers)
    (header_refuses (symbols_after_versions file) file headers c.in_err-head.field-0.0 (c.in_err-head.ensures.reads file known)))

pub returns-in_err-loaded-clause-takes : goal.returns-in_err-loaded-clause-takes
returns-in_err-loaded-clause-takes g c = λ file known.
    let headers = c.args.room.now.headers in
    let read = c.in_ok-head.ensures.reads file known in
    let slots = slots_read file c.in_ok-head.head headers c.slots_for-slots.result read.1 c.slots_for-slots.ensures.slots in
    let here = c.load.ensures.slots ∙ ap (λ (s : StoreState). s.slots) c.over-store.ensures ∙ slots in
    let file_then = c.linked_header.ensures.keeps.same_file ∙ known in
    let p = err_from_is_err_and c.from_residual-in_err-loaded.result c.from_residual-in_err-loaded.ensures.1 in
    rw (p.1, p.2)
    (part_fault (unless_link_refused (library_headers_refusal file headers) (symbols_after_versions file)) (known_library file headers) (fault_of_table c.in_err-loaded.field-0.0) (known_parts file headers)
    (load_refuses (symbols_after_versions file) file headers c.load.new.store c.in_err-loaded.field-0.0 c.args.room.now.some read.0 here (c.in_err-loaded.ensures.held file file_then read.1)))

pub returns-in_err-tables-clause-takes : goal.returns-in_err-tables-clause-takes
returns-in_err-tables-clause-takes g c = λ file known.
    let headers = c.args.room.now.headers in
    let read = c.in_ok-head.ensures.reads file known in
    let slots = slots_read file c.in_ok-head.head headers c.slots_for-slots.result read.1 c.slots_for-slots.ensures.slots in
    let here = c.load.ensures.slots ∙ ap (λ (s : StoreState). s.slots) c.over-store.ensures ∙ slots in
    let file_then = c.linked_header.ensures.keeps.same_file ∙ known in
    let held = c.in_ok-loaded.ensures.held file file_then read.1 in
    let whole = after_load (symbols_after_versions file) file headers c.load.new.store.slots c.args.room.now.some read.0 here held.passes ∙ known_parts file headers in
    let p = err_from_is_err_and c.from_residual-in_err-tables.result c.from_residual-in_err-tables.ensures.1 in
    rw (p.1, p.2)
    (part_fault (symbols_after_versions file) (known_library file headers) c.in_err-tables.field-0.0 whole
    (symbols_refuse file c.in_err-tables.field-0.0 (c.in_err-tables.ensures.reads file (c.load.ensures.reads.keeps.same_file ∙ file_then) held)))

pub returns-clause-takes : goal.returns-clause-takes
returns-clause-takes g c = λ file known.
    let headers = c.args.room.now.headers in
    let read = c.in_ok-head.ensures.reads file known in
    let slots = slots_read file c.in_ok-head.head headers c.slots_for-slots.result read.1 c.slots_for-slots.ensures.slots in
    let here = c.load.ensures.slots ∙ ap (λ (s : StoreState). s.slots) c.over-store.ensures ∙ slots in
    let file_then = c.linked_header.ensures.keeps.same_file ∙ known in
    let held = c.in_ok-loaded.ensures.held file file_then read.1 in
    let whole = after_load (symbols_after_versions file) file headers c.load.new.store.slots c.args.room.now.some read.0 here held.passes ∙ known_parts file headers in
    let tables = c.in_ok-tables.ensures.reads file (c.load.ensures.reads.keeps.same_file ∙ file_then) held in
    taken_as (symbols_with file (Ok tables.versions)) (known_library file headers) c.args.keys.now c.ask_library.new.keys c.read_library_tables.new.room.marks c.args.room.now.tables.marks c.in_ok-tables.tables.row c.args.known.1
    c.ask_library.result (symbols_are file tables.versions tables.known ∙ whole) c.read_library_tables.ensures.marks tables.row_is (c.ask_library.ensures file tables.versions tables.holds held)

pub returns-in_err-loaded-clause-keeps : goal.returns-in_err-loaded-clause-keeps
returns-in_err-loaded-clause-keeps g c = KeepsSource-then c.linked_header.ensures.keeps c.load.ensures.reads.keeps

pub returns-in_err-tables-clause-keeps : goal.returns-in_err-tables-clause-keeps
returns-in_err-tables-clause-keeps g c = KeepsSource-then (KeepsSource-then c.linked_header.ensures.keeps c.load.ensures.reads.keeps) c.read_library_tables.ensures.keeps

pub returns-clause-keeps : goal.returns-clause-keeps
returns-clause-keeps g c = KeepsSource-then (KeepsSource-then c.linked_header.ensures.keeps c.load.ensures.reads.keeps) c.read_library_tables.ensures.keeps
