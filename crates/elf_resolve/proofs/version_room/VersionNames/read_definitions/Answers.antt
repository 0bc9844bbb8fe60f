-- The walk over the definitions.
use Rattle.std.proofs.Common.{◌≡◌, ◌-◌, ◌/◌, ◌+◌, suc, [], refl, ◌∙◌, arith}
use Rattle.std.specs.Prelude.{None}
use Rattle.std.proofs.lemmas.Result.{err_from_is_err_and}
use Rattle.elf_model.specs.declared.versions.VersionKind.TheVariants.{Definition}
use Rattle.elf_resolve.specs.LibraryVersions.{version_names}
use Rattle.elf_resolve.proofs.VersionWalkLaws.{ended, walk_end, walk_fault, walk_first, walk_here, walk_more}
use Rattle.elf_resolve.proofs.version_room.VersionNames.read_definitions.Goals as goal

pub loop-init : goal.loop-init
loop-init c = record {
  needed = refl;
  walks = λ file at held none.
      walk_first file c.args.strings.now.bytes at (c.args.table.records.size / 20 - 0) Definition c.args.table c.args.self.now.defined.items c.first_record-next.result held none c.first_record-next.ensures (omega arith);
}

pub returns-in_default-clause-reads : goal.returns-in_default-clause-reads
returns-in_default-clause-reads c = λ file at held none.
    walk_end file c.args.strings.now.bytes at 0 (c.args.table.records.size / 20 - c.loop.counter) Definition (version_names Definition file at) c.loop.self.defined.items c.loop.next c.in_default.is
    (c.loop.invariant.walks file at held none)

pub returns-in_err-next-clause-reads : goal.returns-in_err-next-clause-reads
returns-in_err-next-clause-reads c = λ file at held none.
    let bytes = c.args.strings.now.bytes in
    let left = c.args.table.records.size / 20 - c.loop.counter in
    let rest = c.args.table.records.size / 20 - (c.loop.counter + 1) in
    let more : left ≡ suc rest = omega (arith, c.loop-test.true) in
    let walk = walk_here file bytes at 0 left rest Definition None (version_names Definition file at) [] c.loop.self.defined.items c.loop.next c.in-Some.place more c.in-Some.is (c.loop.invariant.walks file at held none) in
    let e = err_from_is_err_and c.from_residual.result c.from_residual.ensures.1 in
    rw (e.1, e.2)
    (walk_fault file bytes at 0 rest Definition None (version_names Definition file at) [] c.loop.self.defined.items c.in-Some.place c.in_err-next.field-0.0 walk
    (c.in_err-next.ensures.reads file at walk.next_is.0 walk.next_is.1 walk.done held walk.next_is.3 walk.holds))

pub loop-preserved : goal.loop-preserved
loop-preserved c = record {
  needed = c.in_ok-next.ensures.needed ∙ c.loop.invariant.needed;
  walks = λ file at held none.
      let bytes = c.args.strings.now.bytes in
      let left = c.args.table.records.size / 20 - c.loop.counter in
      let rest = c.args.table.records.size / 20 - (c.loop.counter + 1) in
      let more : left ≡ suc rest = omega (arith, c.loop-test.true) in
      let walk = walk_here file bytes at 0 left rest Definition None (version_names Definition file at) [] c.loop.self.defined.items c.loop.next c.in-Some.place more c.in-Some.is (c.loop.invariant.walks file at held none) in
      walk_more file bytes at 0 rest Definition None (version_names Definition file at) [] c.loop.self.defined.items c.read_definition.new.self.defined.items c.in-Some.place c.in_ok-next.next walk
      (c.in_ok-next.ensures.reads file at walk.next_is.0 walk.next_is.1 walk.done held walk.next_is.3 walk.holds);
}

pub returns-clause-reads : goal.returns-clause-reads
returns-clause-reads c = λ file at held none.
    ended file c.args.strings.now.bytes at 0 (c.args.table.records.size / 20 - c.loop.counter) Definition (version_names Definition file at) c.loop.self.defined.items c.loop.next c.past_all.result
    (omega (arith, c.loop-test.false)) (c.loop.invariant.walks file at held none) c.past_all.ensures
