use Rattle.std.proofs.Common.{ℕ, List, drop, refl, sym, ap, subst, ◌∙◌}
use Rattle.std.proofs.lemmas.Result.{err_from_is_err_and}
use Rattle.elf_resolve.specs.ArchiveIndexes.{HoldsIndex}
use Rattle.elf_resolve.proofs.IndexPasses.{enters_begin, enters_end, enters_more, enters_stop, forgotten}
use Rattle.elf_resolve.proofs.ListRoomLaws.{within_itself, within_then}
use Rattle.elf_resolve.proofs.archive_index.enter_index.Goals as goal

pub loop-index-init : goal.loop-index-init
loop-index-init c = record {
  buffer = refl;
  members = refl;
  archives = refl;
  within = within_itself c.args.tables.now;
  entered = λ bytes start members held are rises. enters_begin members bytes start c.args.parts.width c.args.parts.count c.args.keys.now c.args.tables.now.entries.items;
}

pub returns-in_err-name-clause-enters : goal.returns-in_err-name-clause-enters
returns-in_err-name-clause-enters c = λ bytes start members held are rises.
    let p = err_from_is_err_and c.from_residual.result c.from_residual.ensures.1 in
    let inv = c.loop-index.invariant in
    let now = subst (λ (b : List ℕ). HoldsIndex b bytes start c.args.parts) (sym inv.buffer) held in
    let here = ap (λ v. drop c.args.first v.items) inv.members ∙ are in
    rw (p.1, p.2) (enters_stop members bytes start c.args.parts.width c.args.parts.count c.loop-index.index c.loop-index.name c.args.keys.now c.loop-index.keys _ _ c.in_err-name.field-0.0 c.loop-index-test.true (inv.entered bytes start members held are rises)
    (c.in_err-name.ensures.enters bytes start members now here rises c.loop-index-test.true))

pub loop-index-preserved : goal.loop-index-preserved
loop-index-preserved c =
    let inv = c.loop-index.invariant in
    record {
      buffer = forgotten c.args.strings.now.bytes c.loop-index.strings.bytes c.enter_entry.new.strings.bytes _ c.used-used.result inv.buffer c.used-used.ensures c.in_ok-name.ensures.stays.first (ap (λ t. t.bytes) c.forget_after.ensures);
      members = c.in_ok-name.ensures.members ∙ inv.members;
      archives = c.in_ok-name.ensures.archives ∙ inv.archives;
      within = within_then c.args.tables.now c.loop-index.tables c.enter_entry.new.tables inv.within c.in_ok-name.ensures.within;
      entered = λ bytes start members held are rises.
          let now = subst (λ (b : List ℕ). HoldsIndex b bytes start c.args.parts) (sym inv.buffer) held in
          let here = ap (λ v. drop c.args.first v.items) inv.members ∙ are in
          enters_more members bytes start c.args.parts.width c.args.parts.count c.loop-index.index c.loop-index.name _ c.args.keys.now c.loop-index.keys _ _ _ _ c.loop-index-test.true (inv.entered bytes start members held are rises)
          (c.in_ok-name.ensures.enters bytes start members now here rises c.loop-index-test.true);
    }

pub returns-clause-enters : goal.returns-clause-enters
returns-clause-enters c = λ bytes start members held are rises.
    enters_end members bytes start c.args.parts.width c.args.parts.count c.loop-index.index c.loop-index.name c.args.keys.now c.loop-index.keys _ _ c.loop-index-test.false (c.loop-index.invariant.entered bytes start members held are rises)

pub returns-in_err-name-clause-within : goal.returns-in_err-name-clause-within
returns-in_err-name-clause-within c = within_then c.args.tables.now c.loop-index.tables c.enter_entry.new.tables c.loop-index.invariant.within c.in_err-name.ensures.within
