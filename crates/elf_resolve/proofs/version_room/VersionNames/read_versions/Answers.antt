-- The walk over the versions of a needed file.
use Rattle.std.proofs.Common.{◌≡◌, ◌-◌, ◌+◌, ◌++◌, suc, refl, ◌∙◌, arith}
use Rattle.std.specs.Prelude.{Some}
use Rattle.std.proofs.lemmas.Result.{err_from_is_err_and}
use Rattle.elf_model.specs.declared.versions.VersionKind.TheVariants.{Need}
use Rattle.elf_resolve.specs.VersionWalks.{after_file, names_from, state_at}
use Rattle.elf_resolve.proofs.VersionWalkLaws.{walk_fault, walk_here, walk_left, walk_more, walk_past, walk_versions}
use Rattle.elf_resolve.proofs.version_room.VersionNames.read_versions.Goals as goal

pub loop-count-init : goal.loop-count-init
loop-count-init c = record {
  defined = refl;
  walks = λ file at owner p from names held is known.
      let same : c.args.left - 0 ≡ c.args.left = omega arith in
      rw same (walk_versions file c.args.strings.now.bytes at owner p from c.args.left names c.args.self.now.needed.items c.args.first is known);
}

pub returns-in_default-clause-reads : goal.returns-in_default-clause-reads
returns-in_default-clause-reads c = λ file at owner p from names held is known.
    let walk = c.loop-count.invariant.walks file at owner p from names held is known in
    let all = names_from file at (Some (state_at Need owner p from)) c.args.left in
    let rest : c.saturating_sub.result ≡ c.args.left - c.loop-count.count = omega (arith, c.saturating_sub.ensures) in (
      walk.done,
      walk_left file c.args.strings.now.bytes at owner (c.args.left - c.loop-count.count) c.saturating_sub.result Need (after_file file at owner) all names c.loop-count.self.needed.items c.loop-count.next c.in_default.is rest walk,
      walk.holds,
    )

pub returns-in_err-next-clause-reads : goal.returns-in_err-next-clause-reads
returns-in_err-next-clause-reads c = λ file at owner p from names held is known.
    let bytes = c.args.strings.now.bytes in
    let end = after_file file at owner in
    let all = names_from file at (Some (state_at Need owner p from)) c.args.left in
    let rest = c.args.left - (c.loop-count.count + 1) in
    let more : c.args.left - c.loop-count.count ≡ suc rest = omega (arith, c.loop-count-test.true) in
    let walk = walk_here file bytes at owner (c.args.left - c.loop-count.count) rest Need end all names c.loop-count.self.needed.items c.loop-count.next c.in-Some.place more c.in-Some.is
    (c.loop-count.invariant.walks file at owner p from names held is known) in
    let e = err_from_is_err_and c.from_residual.result c.from_residual.ensures.1 in
    rw (e.1, e.2)
    (walk_fault file bytes at owner rest Need end all names c.loop-count.self.needed.items c.in-Some.place c.in_err-next.field-0.0 walk
    (c.in_err-next.ensures.reads file at owner walk.next_is.0 walk.next_is.1 (names ++ walk.done) held walk.next_is.3 walk.holds))

pub loop-count-preserved : goal.loop-count-preserved
loop-count-preserved c = record {
  defined = c.in_ok-next.ensures.defined ∙ c.loop-count.invariant.defined;
  walks = λ file at owner p from names held is known.
      let bytes = c.args.strings.now.bytes in
      let end = after_file file at owner in
      let all = names_from file at (Some (state_at Need owner p from)) c.args.left in
      let rest = c.args.left - (c.loop-count.count + 1) in
      let more : c.args.left - c.loop-count.count ≡ suc rest = omega (arith, c.loop-count-test.true) in
      let walk = walk_here file bytes at owner (c.args.left - c.loop-count.count) rest Need end all names c.loop-count.self.needed.items c.loop-count.next c.in-Some.place more c.in-Some.is
      (c.loop-count.invariant.walks file at owner p from names held is known) in
      walk_more file bytes at owner rest Need end all names c.loop-count.self.needed.items c.read_version.new.self.needed.items c.in-Some.place c.in_ok-next.next walk
      (c.in_ok-next.ensures.reads file at owner walk.next_is.0 walk.next_is.1 (names ++ walk.done) held walk.next_is.3 walk.holds);
}

pub returns-in_err-past_all-clause-reads : goal.returns-in_err-past_all-clause-reads
returns-in_err-past_all-clause-reads c = λ file at owner p from names held is known.
    let e = err_from_is_err_and c.from_residual-in_err-past_all.result c.from_residual-in_err-past_all.ensures.1 in
    rw (e.1, e.2)
    (walk_past file c.args.strings.now.bytes at owner (c.args.left - c.loop-count.count) Need (after_file file at owner) (names_from file at (Some (state_at Need owner p from)) c.args.left) names c.loop-count.self.needed.items
    c.loop-count.next c.in_err-past_all.field-0.0 (omega (arith, c.loop-count-test.false)) (c.loop-count.invariant.walks file at owner p from names held is known) c.in_err-past_all.ensures)

pub returns-clause-reads : goal.returns-clause-reads
returns-clause-reads c = λ file at owner p from names held is known.
    let walk = c.loop-count.invariant.walks file at owner p from names held is known in
    let all = names_from file at (Some (state_at Need owner p from)) c.args.left in
    let rest : 0 ≡ c.args.left - c.loop-count.count = omega (arith, c.loop-count-test.false) in (
      walk.done,
      walk_left file c.args.strings.now.bytes at owner (c.args.left - c.loop-count.count) 0 Need (after_file file at owner) all names c.loop-count.self.needed.items c.loop-count.next c.in_ok-past_all.ensures rest walk,
      walk.holds,
    )
