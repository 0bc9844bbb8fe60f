-- A library is refused for its header or its section headers, or for what comes after them, or it is taken.
use Rattle.std.proofs.Common.{refl, ap, ◌∙◌}
use Rattle.std.proofs.lemmas.Result.{err_from_is_err_and}
use Rattle.elf_table.specs.Prelude.{StoreState}
use Rattle.elf_source.proofs.ReadsLaws.{KeepsSource-then}
use Rattle.elf_resolve.specs.LinkFaults.{fault_of_table}
use Rattle.elf_resolve.specs.TakenLibraries.{new_symbols, new_library, library_headers_refusal, unless_link_refused}
use Rattle.elf_resolve.proofs.ObjectRefusals.{slots_read}
use Rattle.elf_resolve.proofs.TakenLibraryLaws.{new_parts, after_load, header_refuses, load_refuses, part_fault, taken_as}
use Rattle.elf_resolve.proofs.asked_libraries.open_library.Goals as goal

pub returns-in_err-head-clause-takes : goal.returns-in_err-head-clause-takes
returns-in_err-head-clause-takes g c = λ file known.
    let headers = c.args.room.now.headers in
    let p = err_from_is_err_and c.from_residual.result c.from_residual.ensures.1 in
    rw (p.1, p.2)
    (part_fault (unless_link_refused (library_headers_refusal file headers) (new_symbols file)) (new_library file headers) c.in_err-head.field-0.0 (new_parts file headers)
    (header_refuses (new_symbols file) file headers c.in_err-head.field-0.0 (c.in_err-head.ensures.reads file known)))

pub returns-in_err-loaded-clause-takes : goal.returns-in_err-loaded-clause-takes
returns-in_err-loaded-clause-takes g c = λ file known.
    let headers = c.args.room.now.headers in
    let read = c.in_ok-head.ensures.reads file known in
    let slots = slots_read file c.in_ok-head.head headers c.slots_for-slots.result read.1 c.slots_for-slots.ensures.slots in
    let here = c.load.ensures.slots ∙ ap (λ (s : StoreState). s.slots) c.over-store.ensures ∙ slots in
    let file_then = c.linked_header.ensures.keeps.same_file ∙ known in
    let p = err_from_is_err_and c.from_residual-in_err-loaded.result c.from_residual-in_err-loaded.ensures.1 in
    rw (p.1, p.2)
    (part_fault (unless_link_refused (library_headers_refusal file headers) (new_symbols file)) (new_library file headers) (fault_of_table c.in_err-loaded.field-0.0) (new_parts file headers)
    (load_refuses (new_symbols file) file headers c.load.new.store c.in_err-loaded.field-0.0 c.args.room.now.some read.0 here (c.in_err-loaded.ensures.held file file_then read.1)))

pub returns-clause-takes : goal.returns-clause-takes
returns-clause-takes g c = λ file known.
    let headers = c.args.room.now.headers in
    let read = c.in_ok-head.ensures.reads file known in
    let slots = slots_read file c.in_ok-head.head headers c.slots_for-slots.result read.1 c.slots_for-slots.ensures.slots in
    let here = c.load.ensures.slots ∙ ap (λ (s : StoreState). s.slots) c.over-store.ensures ∙ slots in
    let file_then = c.linked_header.ensures.keeps.same_file ∙ known in
    let held = c.in_ok-loaded.ensures.held file file_then read.1 in
    taken_as (new_symbols file) (new_library file headers) c.args.keys.now c.add_library.new.keys c.args.room.now.tables.marks c.args.room.now.tables.marks c.args.opened.row c.args.opened.row c.add_library.result
    (after_load (new_symbols file) file headers c.load.new.store.slots c.args.room.now.some read.0 here held.passes ∙ new_parts file headers) refl refl
    (c.add_library.ensures.takes file (c.load.ensures.reads.keeps.same_file ∙ file_then) held)

pub returns-in_err-loaded-clause-keeps : goal.returns-in_err-loaded-clause-keeps
returns-in_err-loaded-clause-keeps g c = KeepsSource-then c.linked_header.ensures.keeps c.load.ensures.reads.keeps

pub returns-clause-keeps : goal.returns-clause-keeps
returns-clause-keeps g c = KeepsSource-then (KeepsSource-then c.linked_header.ensures.keeps c.load.ensures.reads.keeps) c.add_library.ensures.keeps
