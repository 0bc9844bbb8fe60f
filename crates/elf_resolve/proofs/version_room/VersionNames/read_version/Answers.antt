-- A version of a needed file is read, or refused.
use Rattle.std.proofs.Common.{◌<◌, ◌++◌, List, [], ◌∷◌, sym, subst, ◌∙◌, arith}
use Rattle.std.specs.Prelude.{Option}
use Rattle.std.proofs.lemmas.Result.{err_from_is_err_and}
use Rattle.elf_model.specs.Tables.{section_bytes, strings_of}
use Rattle.elf_model.specs.Versions.{number_in}
use Rattle.elf_resolve.specs.VersionWalks.{HoldsVersionNames}
use Rattle.elf_resolve.specs.declared.string_buffer.HeldText.{HeldText}
use Rattle.elf_resolve.proofs.VersionNameLaws.{names_written}
use Rattle.elf_resolve.proofs.VersionNeedLaws.{need_cut, need_large, need_named, need_next, need_unnamed}
use Rattle.elf_resolve.proofs.VersionPlaceLaws.{place_inside, record_field}
use Rattle.elf_resolve.proofs.version_room.VersionNames.read_version.Goals as goal

pub returns-in_err-record-clause-reads : goal.returns-in_err-record-clause-reads
returns-in_err-record-clause-reads c = λ file at owner p from names held is known.
    let e = err_from_is_err_and c.from_residual.result c.from_residual.ensures.1 in
    rw (e.1, e.2)
    (need_cut file c.args.strings.now.bytes at owner p from c.args.table c.args.place c.in_err-record.field-0.0 held is (c.in_err-record.ensures.finds (section_bytes file at) held.records (omega arith)))

pub returns-in_err-number-clause-reads : goal.returns-in_err-number-clause-reads
returns-in_err-number-clause-reads c = λ file at owner p from names held is known.
    let e = err_from_is_err_and c.from_residual-in_err-number.result c.from_residual-in_err-number.ensures.1 in
    let found = c.in_ok-record.ensures.finds (section_bytes file at) held.records (omega arith) in
    let inside = place_inside file c.args.strings.now.bytes at p from 16 c.args.table c.args.place held is (omega arith) found.0 in
    let word = c.half.ensures (omega (arith, c.in_ok-record.ensures.long)) ∙ record_field file c.in_ok-record.record.now at p 16 6 2 c.args.place inside found.1 (omega arith) in
    rw (e.1, e.2) (need_large file at owner p from c.half.result c.args.place c.in_err-number.field-0.0 inside word c.in_err-number.ensures)

pub returns-in_err-text-clause-reads : goal.returns-in_err-text-clause-reads
returns-in_err-text-clause-reads c = λ file at owner p from names held is known.
    let e = err_from_is_err_and c.from_residual-in_err-text.result c.from_residual-in_err-text.ensures.1 in
    let found = c.in_ok-record.ensures.finds (section_bytes file at) held.records (omega arith) in
    let inside = place_inside file c.args.strings.now.bytes at p from 16 c.args.table c.args.place held is (omega arith) found.0 in
    let record_bytes = c.in_ok-record.record.now in
    let word = c.half.ensures (omega (arith, c.in_ok-record.ensures.long)) ∙ record_field file record_bytes at p 16 6 2 c.args.place inside found.1 (omega arith) in
    let index = c.from.ensures ∙ c.long.ensures (omega (arith, c.in_ok-record.ensures.long)) ∙ record_field file record_bytes at p 16 8 4 c.args.place inside found.1 (omega arith) in
    rw (e.1, e.2)
    (need_unnamed file c.args.strings.now.bytes at owner p from c.half.result c.from.result c.args.place c.in_err-text.field-0.0 inside word
    (subst (λ n. n < 1024) c.in_ok-number.ensures.0 c.in_ok-number.ensures.1) index (c.in_err-text.ensures (strings_of file at) held.strings))

pub returns-clause-reads : goal.returns-clause-reads
returns-clause-reads c = λ file at owner p from names held is known.
    let found = c.in_ok-record.ensures.finds (section_bytes file at) held.records (omega arith) in
    let inside = place_inside file c.args.strings.now.bytes at p from 16 c.args.table c.args.place held is (omega arith) found.0 in
    let record_bytes = c.in_ok-record.record.now in
    let word = c.half.ensures (omega (arith, c.in_ok-record.ensures.long)) ∙ record_field file record_bytes at p 16 6 2 c.args.place inside found.1 (omega arith) in
    let index = c.from.ensures ∙ c.long.ensures (omega (arith, c.in_ok-record.ensures.long)) ∙ record_field file record_bytes at p 16 8 4 c.args.place inside found.1 (omega arith) in
    let distance = c.long-2.ensures (omega (arith, c.in_ok-record.ensures.long)) ∙ record_field file record_bytes at p 16 12 4 c.args.place inside found.1 (omega arith) in
    let text = c.in_ok-text.ensures (strings_of file at) held.strings in
    let small = subst (λ n. n < 1024) c.in_ok-number.ensures.0 c.in_ok-number.ensures.1 in
    let before = subst (λ (t : List (Option HeldText)). HoldsVersionNames c.args.strings.now.bytes t names) (sym c.deref_mut.ensures.value) known in
    let set = subst (λ n. HoldsVersionNames c.args.strings.now.bytes c.set_name.new.names (names ++ record { number = n; name = text.0 } ∷ [])) c.in_ok-number.ensures.0
    (c.set_name.ensures c.args.strings.now.bytes names text.0 c.in_ok-number.ensures.1 before text.2) in (
      record { number = number_in c.half.result; name = text.0 } ∷ [],
      need_named file at owner p from c.half.result c.from.result text.0 c.args.place inside word small index text.1,
      names_written c.args.strings.now.bytes c.args.self.now.needed.len c.deref_mut.result.now c.set_name.new.names c.args.self.now.needed.items _ c.deref_mut.ensures.value c.set_name.auto.names c.args.self.now.needed.ok.0 set,
      need_next file at owner p from c.long-2.result c.args.place c.next_place.result inside distance c.next_place.ensures,
    )
