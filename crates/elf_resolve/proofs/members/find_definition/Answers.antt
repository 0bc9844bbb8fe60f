-- The first refusal of an object, or its first symbol of a name.
use Rattle.std.proofs.Common.{ap, ◌∙◌}
use Rattle.std.proofs.lemmas.Result.{err_from_is_err_and}
use Rattle.elf_model.specs.LinkSymbols.{object_refusal}
use Rattle.elf_table.specs.Prelude.{StoreState}
use Rattle.elf_source.proofs.ReadsLaws.{KeepsSource-then}
use Rattle.elf_resolve.proofs.LinkFaultLaws.{fault_of_any}
use Rattle.elf_resolve.proofs.ObjectRefusals.{header_fault, load_fault, object_passes, slots_read, tables_fault}
use Rattle.elf_resolve.proofs.members.find_definition.Goals as goal

pub returns-in_err-head-clause-finds : goal.returns-in_err-head-clause-finds
returns-in_err-head-clause-finds g c = λ file known.
    let p = err_from_is_err_and c.from_residual.result c.from_residual.ensures.1 in
    rw (p.1, p.2) (header_fault file c.args.room.now.headers c.in_err-head.field-0.0 (c.in_err-head.ensures.reads file known))

pub returns-in_err-reach_slots-clause-finds : goal.returns-in_err-reach_slots-clause-finds
returns-in_err-reach_slots-clause-finds g c = λ file known.
    let p = err_from_is_err_and c.from_residual-in_err-reach_slots.result c.from_residual-in_err-reach_slots.ensures.1 in
    rw (p.1, p.2) (fault_of_any (object_refusal file c.args.room.now.headers) c.in_err-reach_slots.field-0.0 c.in_err-reach_slots.ensures.limit)

pub returns-in_err-loaded-clause-finds : goal.returns-in_err-loaded-clause-finds
returns-in_err-loaded-clause-finds g c = λ file known.
    let headers = c.args.room.now.headers in
    let read = c.in_ok-head.ensures.reads file known in
    let slots = slots_read file c.in_ok-head.head headers c.slots_for-slots.result read.1 c.slots_for-slots.ensures.slots in
    let here = c.load.ensures.slots ∙ ap (λ (s : StoreState). s.slots) c.over-store.ensures ∙ slots in
    let p = err_from_is_err_and c.from_residual-in_err-loaded.result c.from_residual-in_err-loaded.ensures.1 in
    rw (p.1, p.2)
    (load_fault file headers c.load.new.store c.in_err-loaded.field-0.0 c.args.room.now.some read.0 here
    (c.in_err-loaded.ensures.held file (c.linked_header.ensures.keeps.same_file ∙ known) read.1))

pub returns-in_err-tables-clause-finds : goal.returns-in_err-tables-clause-finds
returns-in_err-tables-clause-finds g c = λ file known.
    let headers = c.args.room.now.headers in
    let read = c.in_ok-head.ensures.reads file known in
    let slots = slots_read file c.in_ok-head.head headers c.slots_for-slots.result read.1 c.slots_for-slots.ensures.slots in
    let here = c.load.ensures.slots ∙ ap (λ (s : StoreState). s.slots) c.over-store.ensures ∙ slots in
    let file_then = c.linked_header.ensures.keeps.same_file ∙ known in
    let held = c.in_ok-loaded.ensures.held file file_then read.1 in
    let p = err_from_is_err_and c.from_residual-in_err-tables.result c.from_residual-in_err-tables.ensures.1 in
    rw (p.1, p.2)
    (tables_fault file headers c.load.new.store.slots c.in_err-tables.field-0.0 c.args.room.now.some read.0 here held.passes
    (c.in_err-tables.ensures.reads file (c.load.ensures.reads.keeps.same_file ∙ file_then) held))

pub returns-clause-finds : goal.returns-clause-finds
returns-clause-finds g c = λ file known.
    let headers = c.args.room.now.headers in
    let read = c.in_ok-head.ensures.reads file known in
    let slots = slots_read file c.in_ok-head.head headers c.slots_for-slots.result read.1 c.slots_for-slots.ensures.slots in
    let here = c.load.ensures.slots ∙ ap (λ (s : StoreState). s.slots) c.over-store.ensures ∙ slots in
    let file_then = c.linked_header.ensures.keeps.same_file ∙ known in
    let held = c.in_ok-loaded.ensures.held file file_then read.1 in
    let tables = c.in_ok-tables.ensures.reads file (c.load.ensures.reads.keeps.same_file ∙ file_then) held in
    (object_passes file headers c.load.new.store.slots c.args.room.now.some read.0 here held.passes tables.pass, c.is_defined_in.ensures file tables.holds)

pub returns-in_err-loaded-clause-keeps : goal.returns-in_err-loaded-clause-keeps
returns-in_err-loaded-clause-keeps g c = KeepsSource-then c.linked_header.ensures.keeps c.load.ensures.reads.keeps

pub returns-in_err-tables-clause-keeps : goal.returns-in_err-tables-clause-keeps
returns-in_err-tables-clause-keeps g c = KeepsSource-then (KeepsSource-then c.linked_header.ensures.keeps c.load.ensures.reads.keeps) c.read_tables.ensures.keeps

pub returns-clause-keeps : goal.returns-clause-keeps
returns-clause-keeps g c = KeepsSource-then (KeepsSource-then c.linked_header.ensures.keeps c.load.ensures.reads.keeps) c.read_tables.ensures.keeps
