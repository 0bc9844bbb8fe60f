-- The walk over the entries, none of which is refused.
use Rattle.std.proofs.Common.{◌≡◌, ◌-◌, ap, subst, ◌∙◌, arith}
use Rattle.std.specs.Prelude.{None}
use Rattle.std.proofs.lemmas.Result.{err_from_is_err_and}
use Rattle.elf_model.specs.Tables.{DYNAMIC_SIZE, entry_count}
use Rattle.elf_resolve.specs.LibraryEntries.{FindsDynamicEntry, own_name_from}
use Rattle.elf_resolve.proofs.LibraryEntryLaws.{step_passes}
use Rattle.elf_resolve.proofs.library.DynamicRows.add_needed.Goals as goal

pub loop-index-init : goal.loop-index-init
loop-index-init c = record {
  walks = λ file at own held known.
      let same : entry_count file at DYNAMIC_SIZE - 0 ≡ entry_count file at DYNAMIC_SIZE = omega arith in
      (None, ap (λ n. own_name_from file at 0 n None) same ∙ known);
}

pub returns-in_err-add_name : goal.returns-in_err-add_name
returns-in_err-add_name c = λ file at own held known.
    let walk = c.loop-index.invariant.walks file at own held known in
    let entry = subst (FindsDynamicEntry file at c.loop-index.index) c.in-Some.is (c.entry.ensures file at held) in
    let step = step_passes file at c.loop-index.index walk.0 c.in-Some.entry own entry walk.1 in
    let p = err_from_is_err_and c.from_residual.result c.from_residual.ensures.1 in
    rw (p.1, p.2) (c.in_err-add_name.ensures file at c.loop-index.index walk.0 step.0 held entry step.1)

pub loop-index-preserved : goal.loop-index-preserved
loop-index-preserved c = record {
  walks = λ file at own held known.
      let walk = c.loop-index.invariant.walks file at own held known in
      let entry = subst (FindsDynamicEntry file at c.loop-index.index) c.in-Some.is (c.entry.ensures file at held) in
      let step = step_passes file at c.loop-index.index walk.0 c.in-Some.entry own entry walk.1 in
      (step.0, step.2);
}
