-- The walk over the entries.
use Rattle.std.proofs.Common.{◌≡◌, ◌-◌, ◌<◌, refl, sym, ap, subst, ◌∙◌, arith}
use Rattle.std.specs.Prelude.{None}
use Rattle.std.proofs.lemmas.Result.{err_from_is_err_and}
use Rattle.elf_model.specs.LinkArchives.{refusal_of}
use Rattle.elf_model.specs.Tables.{DYNAMIC_SIZE, entry_count}
use Rattle.elf_resolve.specs.LibraryEntries.{FindsDynamicEntry, own_name_from}
use Rattle.elf_resolve.specs.VersionWalks.{IsRecordRefusal}
use Rattle.elf_resolve.proofs.LibraryEntryLaws.{count_is, walk_all, walk_next, walk_null, walk_refused}
use Rattle.elf_resolve.proofs.library.DynamicRows.soname.Goals as goal

pub loop-index-init : goal.loop-index-init
loop-index-init c = record {
  walks = λ file at held.
      let same : entry_count file at DYNAMIC_SIZE - 0 ≡ entry_count file at DYNAMIC_SIZE = omega arith in
      (None, ap (λ n. own_name_from file at 0 n None) (sym same), refl);
}

pub returns-in_default : goal.returns-in_default
returns-in_default c = λ file at held.
    let walk = c.loop-index.invariant.walks file at held in
    let below : c.loop-index.index < entry_count file at DYNAMIC_SIZE = omega (arith, c.loop-index-test.true, c.count-index-end.ensures, count_is file c.args.strings.now.bytes at c.args.self.now held) in
    let null = subst (FindsDynamicEntry file at c.loop-index.index) c.in_default.is (c.entry.ensures file at held) in
    (walk.0, walk.1 ∙ walk_null file at c.loop-index.index walk.0 below (null below), walk.2)

pub returns-in_err-own : goal.returns-in_err-own
returns-in_err-own c = λ file at held.
    let walk = c.loop-index.invariant.walks file at held in
    let entry = subst (FindsDynamicEntry file at c.loop-index.index) c.in-Some.is (c.entry.ensures file at held) in
    let p = err_from_is_err_and c.from_residual.result c.from_residual.ensures.1 in
    rw (p.1, p.2)
    (subst (λ known. IsRecordRefusal (refusal_of known) c.in_err-own.field-0.0) (sym walk.1)
    (walk_refused file at c.loop-index.index walk.0 c.in-Some.entry c.in_err-own.field-0.0 entry (c.in_err-own.ensures file at c.loop-index.index walk.0 held entry walk.2)))

pub loop-index-preserved : goal.loop-index-preserved
loop-index-preserved c = record {
  walks = λ file at held.
      let walk = c.loop-index.invariant.walks file at held in
      let entry = subst (FindsDynamicEntry file at c.loop-index.index) c.in-Some.is (c.entry.ensures file at held) in
      let step = c.in_ok-own.ensures file at c.loop-index.index walk.0 held entry walk.2 in
      (step.0, walk.1 ∙ walk_next file at c.loop-index.index walk.0 c.in-Some.entry step.0 entry step.1, step.2);
}

pub returns : goal.returns
returns c = λ file at held.
    let walk = c.loop-index.invariant.walks file at held in
    (walk.0, walk.1 ∙ walk_all file at c.loop-index.index walk.0 (omega (arith, c.loop-index-test.false, c.count-index-end.ensures, count_is file c.args.strings.now.bytes at c.args.self.now held)), walk.2)
