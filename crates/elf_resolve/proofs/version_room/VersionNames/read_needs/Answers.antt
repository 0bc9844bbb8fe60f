-- The walk over the needed files and their versions.
use Rattle.std.proofs.Common.{◌≡◌, ◌+◌, ◌/◌, suc, [], refl, sym, subst, ◌∙◌, arith}
use Rattle.std.specs.Prelude.{Option, None, Some}
use Rattle.std.proofs.lemmas.Result.{err_from_is_err_and}
use Rattle.elf_model.specs.Records.{sh_offset, vn_aux}
use Rattle.elf_model.specs.Tables.{section_bytes}
use Rattle.elf_model.specs.declared.versions.VersionKind.TheVariants.{File, Need}
use Rattle.elf_resolve.specs.LibraryVersions.{version_names}
use Rattle.elf_resolve.specs.VersionWalks.{IsRecordPlace, PassesAll, names_from, state_at}
use Rattle.elf_resolve.specs.declared.version_records.RecordPlace.{RecordPlace}
use Rattle.elf_resolve.proofs.VersionPlaceLaws.{along_place, place_inside, record_field}
use Rattle.elf_resolve.proofs.VersionWalkLaws.{ended, file_more, file_refused, file_step, versions_refused, walk_end, walk_fault, walk_first, walk_here}
use Rattle.elf_resolve.proofs.version_room.VersionNames.read_needs.Goals as goal
use Rattle.elf_resolve.proofs.version_room.VersionNames.read_needs.Goals.{else-loop-test, then-loop-test+in-Some+in_default-checked_sub}

pub loop-init : goal.loop-init
loop-init c = record {
  defined = refl;
  fewer = omega arith;
  walks = λ file at held none.
      walk_first file c.args.strings.now.bytes at (c.args.table.records.size / 16) File c.args.table c.args.self.now.needed.items c.first_record-next.result held none c.first_record-next.ensures refl;
}

pub returns-in_default-clause-reads : goal.returns-in_default-clause-reads
returns-in_default-clause-reads c = λ file at held none.
    walk_end file c.args.strings.now.bytes at 0 c.loop.left File (version_names File file at) c.loop.self.needed.items c.loop.next c.in_default.is (c.loop.invariant.walks file at held none)

pub returns-in_err-record-clause-reads : goal.returns-in_err-record-clause-reads
returns-in_err-record-clause-reads c = λ file at held none.
    let bytes = c.args.strings.now.bytes in
    let rest = c.in-Some-checked_sub.rest in
    let known = version_names File file at in
    let more : c.loop.left ≡ suc rest = omega (arith, c.in-Some-checked_sub.ensures) in
    let walk = walk_here file bytes at 0 c.loop.left rest File None known [] c.loop.self.needed.items c.loop.next c.in-Some.place more c.in-Some.is (c.loop.invariant.walks file at held none) in
    let e = err_from_is_err_and c.from_residual.result c.from_residual.ensures.1 in
    rw (e.1, e.2)
    (walk_fault file bytes at 0 rest File None known [] c.loop.self.needed.items c.in-Some.place c.in_err-record.field-0.0 walk
    (file_refused file bytes at walk.next_is.0 walk.next_is.1 c.args.table c.in-Some.place c.in_err-record.field-0.0 held walk.next_is.3 (c.in_err-record.ensures.finds (section_bytes file at) held.records (omega arith))))

pub returns-in_err-left-clause-reads : goal.returns-in_err-left-clause-reads
returns-in_err-left-clause-reads c = λ file at held none.
    let bytes = c.args.strings.now.bytes in
    let rest = c.in-Some-checked_sub.rest in
    let known = version_names File file at in
    let more : c.loop.left ≡ suc rest = omega (arith, c.in-Some-checked_sub.ensures) in
    let walk = walk_here file bytes at 0 c.loop.left rest File None known [] c.loop.self.needed.items c.loop.next c.in-Some.place more c.in-Some.is (c.loop.invariant.walks file at held none) in
    let p = walk.next_is.0 in
    let found = c.in_ok-record.ensures.finds (section_bytes file at) held.records (omega arith) in
    let inside = place_inside file bytes at p walk.next_is.1 16 c.args.table c.in-Some.place held walk.next_is.3 (omega arith) found.0.0 in
    let aux = c.long.ensures (omega (arith, c.in_ok-record.ensures.long)) ∙ record_field file c.in_ok-record.record.now at p 16 8 4 c.in-Some.place inside found.0.1 (omega arith) in
    let inner : IsRecordPlace (sh_offset file at) (p + vn_aux file (sh_offset file at + p)) (sh_offset file at + p) c.place_after-inner.result =
    rw (c.place_after-inner.ensures, aux) (along_place file at p 16 (vn_aux file (sh_offset file at + p)) c.in-Some.place inside) in
    let step = file_step file bytes c.in_ok-record.record.now at p walk.next_is.1 rest known c.loop.self.needed.items c.in-Some.place walk refl refl inside found.0.1 found.1 in
    let e = err_from_is_err_and c.from_residual-in_err-left.result c.from_residual-in_err-left.ensures.1 in
    rw (e.1, e.2)
    (versions_refused known (names_from file at (Some (state_at Need p (p + vn_aux file (sh_offset file at + p)) (sh_offset file at + p))) rest) walk.done c.in_err-left.field-0.0 step
    (c.in_err-left.ensures.reads file at p (p + vn_aux file (sh_offset file at + p)) (sh_offset file at + p) walk.done held inner walk.holds))

pub loop-preserved : goal.loop-preserved
loop-preserved c = record {
  defined = c.in_ok-left.ensures.defined ∙ c.loop.invariant.defined;
  fewer = omega (arith, c.in_ok-left.ensures.fewer, c.in-Some-checked_sub.ensures, c.loop.invariant.fewer);
  walks = λ file at held none.
      let bytes = c.args.strings.now.bytes in
      let rest = c.in-Some-checked_sub.rest in
      let known = version_names File file at in
      let more : c.loop.left ≡ suc rest = omega (arith, c.in-Some-checked_sub.ensures) in
      let walk = walk_here file bytes at 0 c.loop.left rest File None known [] c.loop.self.needed.items c.loop.next c.in-Some.place more c.in-Some.is (c.loop.invariant.walks file at held none) in
      let p = walk.next_is.0 in
      let found = c.in_ok-record.ensures.finds (section_bytes file at) held.records (omega arith) in
      let inside = place_inside file bytes at p walk.next_is.1 16 c.args.table c.in-Some.place held walk.next_is.3 (omega arith) found.0.0 in
      let aux = c.long.ensures (omega (arith, c.in_ok-record.ensures.long)) ∙ record_field file c.in_ok-record.record.now at p 16 8 4 c.in-Some.place inside found.0.1 (omega arith) in
      let inner : IsRecordPlace (sh_offset file at) (p + vn_aux file (sh_offset file at + p)) (sh_offset file at + p) c.place_after-inner.result =
      rw (c.place_after-inner.ensures, aux) (along_place file at p 16 (vn_aux file (sh_offset file at + p)) c.in-Some.place inside) in
      let step = file_step file bytes c.in_ok-record.record.now at p walk.next_is.1 rest known c.loop.self.needed.items c.in-Some.place walk refl refl inside found.0.1 found.1 in
      let far = c.long-in-loop.ensures (omega (arith, c.in_ok-record.ensures.long)) ∙ record_field file c.in_ok-record.record.now at p 16 12 4 c.in-Some.place inside found.0.1 (omega arith) in
      let read = c.in_ok-left.ensures.reads file at p (p + vn_aux file (sh_offset file at + p)) (sh_offset file at + p) walk.done held inner walk.holds in
      file_more file bytes at p c.in_ok-left.left c.long-in-loop.result known (names_from file at (Some (state_at Need p (p + vn_aux file (sh_offset file at + p)) (sh_offset file at + p))) rest) walk.done read.0 c.read_versions.new.self.needed.items c.in-Some.place c.next_place-next.result inside far c.next_place-next.ensures
      step read.1 read.2;
}

pub returns-clause-reads : goal.returns-clause-reads
returns-clause-reads c = λ file at held none.
    let walk = c.loop.invariant.walks file at held none in
    let passes = λ (next : Option RecordPlace). PassesAll next c.past_all.result in
    elim c.loop-test.branch [
      | else-loop-test w ↦ ended file c.args.strings.now.bytes at 0 c.loop.left File (version_names File file at) c.loop.self.needed.items c.loop.next c.past_all.result
          (omega (arith, w.loop-test.false, c.loop.invariant.fewer)) walk (subst passes w.next-is c.past_all.ensures)
      | then-loop-test+in-Some+in_default-checked_sub w ↦ ended file c.args.strings.now.bytes at 0 c.loop.left File (version_names File file at) c.loop.self.needed.items c.loop.next c.past_all.result
          (omega (arith, w.in_default-checked_sub.ensures)) walk (subst passes (w.next-is ∙ sym w.in-Some.is) c.past_all.ensures)
    ]
