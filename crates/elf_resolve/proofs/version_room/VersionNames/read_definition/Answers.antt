-- A definition is read, or refused.
use Rattle.std.proofs.Common.{◌+◌, ◌<◌, ◌==◌, ◌++◌, List, [], ◌∷◌, sym, subst, ◌∙◌, arith}
use Rattle.std.specs.Prelude.{Option, bit_and, if◌then◌else◌}
use Rattle.std.proofs.lemmas.Result.{err_from_is_err_and}
use Rattle.elf_model.specs.Records.{sh_offset, vd_aux}
use Rattle.elf_model.specs.Tables.{section_bytes, strings_of}
use Rattle.elf_model.specs.Versions.{number_in}
use Rattle.elf_resolve.specs.VersionWalks.{HoldsVersionNames}
use Rattle.elf_resolve.specs.declared.string_buffer.HeldText.{HeldText}
use Rattle.elf_resolve.proofs.VersionDefinitionLaws.{definition_cut, definition_large, definition_named, definition_next, definition_read, definition_refused, definition_unnamed, name_place}
use Rattle.elf_resolve.proofs.VersionNameLaws.{names_written}
use Rattle.elf_resolve.proofs.VersionPlaceLaws.{place_inside, record_field}
use Rattle.elf_resolve.proofs.version_room.VersionNames.read_definition.Goals as goal

pub returns-in_err-record-clause-reads : goal.returns-in_err-record-clause-reads
returns-in_err-record-clause-reads c = λ file at p from names held is known.
    let e = err_from_is_err_and c.from_residual.result c.from_residual.ensures.1 in
    rw (e.1, e.2)
    (definition_refused file c.args.strings.now.bytes at p from c.args.table c.args.place c.in_err-record.field-0.0 held is (c.in_err-record.ensures.finds (section_bytes file at) held.records (omega arith)))

pub returns-in_err-number-clause-reads : goal.returns-in_err-number-clause-reads
returns-in_err-number-clause-reads c = λ file at p from names held is known.
    let e = err_from_is_err_and c.from_residual-in_err-number.result c.from_residual-in_err-number.ensures.1 in
    let found = c.in_ok-record.ensures.finds (section_bytes file at) held.records (omega arith) in
    let one = definition_read file c.args.strings.now.bytes c.in_ok-record.record.now at p from c.half.result c.args.table c.args.place held is found.0 found.1
    (c.half.ensures (omega (arith, c.in_ok-record.ensures.long))) in
    rw (e.1, e.2) (definition_large file at p from c.half.result c.args.place c.in_err-number.field-0.0 one c.in_err-number.ensures)

pub returns-in_err-bytes-clause-reads : goal.returns-in_err-bytes-clause-reads
returns-in_err-bytes-clause-reads c = λ file at p from names held is known.
    let e = err_from_is_err_and c.from_residual-in_err-bytes.result c.from_residual-in_err-bytes.ensures.1 in
    let found = c.in_ok-record.ensures.finds (section_bytes file at) held.records (omega arith) in
    let one = definition_read file c.args.strings.now.bytes c.in_ok-record.record.now at p from c.half.result c.args.table c.args.place held is found.0 found.1
    (c.half.ensures (omega (arith, c.in_ok-record.ensures.long))) in
    let small = subst (λ n. n < 1024) c.in_ok-number.ensures.0 c.in_ok-number.ensures.1 in
    let aux = c.long.ensures (omega (arith, c.in_ok-record.ensures.long)) ∙ record_field file c.in_ok-record.record.now at p 20 12 4 c.args.place one.inside found.0.1 (omega arith) in
    let named = name_place file at p c.half.result c.long.result c.args.place c.place_after-name.result one aux c.place_after-name.ensures in
    rw (e.1, e.2)
    (definition_cut file c.args.strings.now.bytes at p from c.half.result c.args.table c.args.place c.place_after-name.result c.in_err-bytes.field-0.0 held one small named
    (c.in_err-bytes.ensures.finds (section_bytes file at) held.records (omega arith)))

pub returns-in_err-text-clause-reads : goal.returns-in_err-text-clause-reads
returns-in_err-text-clause-reads c = λ file at p from names held is known.
    let e = err_from_is_err_and c.from_residual-in_err-text.result c.from_residual-in_err-text.ensures.1 in
    let found = c.in_ok-record.ensures.finds (section_bytes file at) held.records (omega arith) in
    let one = definition_read file c.args.strings.now.bytes c.in_ok-record.record.now at p from c.half.result c.args.table c.args.place held is found.0 found.1
    (c.half.ensures (omega (arith, c.in_ok-record.ensures.long))) in
    let small = subst (λ n. n < 1024) c.in_ok-number.ensures.0 c.in_ok-number.ensures.1 in
    let aux = c.long.ensures (omega (arith, c.in_ok-record.ensures.long)) ∙ record_field file c.in_ok-record.record.now at p 20 12 4 c.args.place one.inside found.0.1 (omega arith) in
    let named = name_place file at p c.half.result c.long.result c.args.place c.place_after-name.result one aux c.place_after-name.ensures in
    let part = c.in_ok-bytes.ensures.finds (section_bytes file at) held.records (omega arith) in
    let inside = place_inside file c.args.strings.now.bytes at (p + vd_aux file (sh_offset file at + p)) (sh_offset file at + p) 8 c.args.table c.place_after-name.result held named (omega arith) part.0 in
    let index = c.from.ensures ∙ c.long-2.ensures (omega (arith, c.in_ok-bytes.ensures.long)) in
    rw (e.1, e.2)
    (definition_unnamed file c.args.strings.now.bytes c.in_ok-bytes.bytes.now at p from c.half.result c.from.result c.args.place c.place_after-name.result c.in_err-text.field-0.0 one small inside part.1 index
    (c.in_err-text.ensures (strings_of file at) held.strings))

pub returns-clause-reads : goal.returns-clause-reads
returns-clause-reads c = λ file at p from names held is known.
    let found = c.in_ok-record.ensures.finds (section_bytes file at) held.records (omega arith) in
    let one = definition_read file c.args.strings.now.bytes c.in_ok-record.record.now at p from c.half.result c.args.table c.args.place held is found.0 found.1
    (c.half.ensures (omega (arith, c.in_ok-record.ensures.long))) in
    let small = subst (λ n. n < 1024) c.in_ok-number.ensures.0 c.in_ok-number.ensures.1 in
    let aux = c.long.ensures (omega (arith, c.in_ok-record.ensures.long)) ∙ record_field file c.in_ok-record.record.now at p 20 12 4 c.args.place one.inside found.0.1 (omega arith) in
    let named = name_place file at p c.half.result c.long.result c.args.place c.place_after-name.result one aux c.place_after-name.ensures in
    let part = c.in_ok-bytes.ensures.finds (section_bytes file at) held.records (omega arith) in
    let inside = place_inside file c.args.strings.now.bytes at (p + vd_aux file (sh_offset file at + p)) (sh_offset file at + p) 8 c.args.table c.place_after-name.result held named (omega arith) part.0 in
    let index = c.from.ensures ∙ c.long-2.ensures (omega (arith, c.in_ok-bytes.ensures.long)) in
    let text = c.in_ok-text.ensures (strings_of file at) held.strings in
    let flags = c.half-2.ensures (omega (arith, c.in_ok-record.ensures.long)) ∙ record_field file c.in_ok-record.record.now at p 20 2 2 c.args.place one.inside found.0.1 (omega arith) in
    let distance = c.long-3.ensures (omega (arith, c.in_ok-record.ensures.long)) ∙ record_field file c.in_ok-record.record.now at p 20 16 4 c.args.place one.inside found.0.1 (omega arith) in
    let before = subst (λ (t : List (Option HeldText)). HoldsVersionNames c.args.strings.now.bytes t names) (sym c.deref_mut.ensures.value) known in
    let set = subst (λ n. HoldsVersionNames c.args.strings.now.bytes c.set_defined.new.names (names ++ (if bit_and c.half-2.result 1 == 0 then record { number = n; name = text.0 } ∷ [] else []))) c.in_ok-number.ensures.0
    (c.set_defined.ensures c.args.strings.now.bytes names text.0 c.in_ok-number.ensures.1 before text.2) in (
      if bit_and c.half-2.result 1 == 0 then record { number = number_in c.half.result; name = text.0 } ∷ [] else [],
      definition_named file c.in_ok-bytes.bytes.now at p from c.half.result c.half-2.result c.from.result text.0 c.args.place c.place_after-name.result one small flags inside part.1 index text.1,
      names_written c.args.strings.now.bytes c.args.self.now.defined.len c.deref_mut.result.now c.set_defined.new.names c.args.self.now.defined.items _ c.deref_mut.ensures.value c.set_defined.auto.names c.args.self.now.defined.ok.0 set,
      definition_next file at p from c.long-3.result c.args.place c.next_place.result one.inside distance c.next_place.ensures,
    )
