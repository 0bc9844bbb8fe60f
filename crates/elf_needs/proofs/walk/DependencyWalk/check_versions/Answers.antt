-- The lines of all objects are written, or not; the status is by what was written.
use Rattle.std.proofs.Common.{ℕ, List, Ok, Err, ap, is_some, subst, sym, ◌∙◌}
use Rattle.std.proofs.lemmas.Result.{err_from_is_err_and}
use Rattle.elf_model.specs.Prelude.{version_items}
use Rattle.elf_needs.specs.Bound.{IsBudgetShort}
use Rattle.elf_needs.specs.ItemLines.{WritesLines}
use Rattle.elf_library.specs.Prelude.{LookupObjectState}
use Rattle.elf_needs.specs.Providers.{versioned_of}
use Rattle.elf_needs.specs.VersionLines.{needed_version_lines}
use Rattle.elf_needs.specs.declared.walk.Listed.{Listed}
use Rattle.elf_needs.proofs.AskLaws.{front_taken}
use Rattle.elf_needs.proofs.walk.DependencyWalk.check_versions.Goals as goal

pub returns-in_err-end-clause-known : goal.returns-in_err-end-clause-known
returns-in_err-end-clause-known g c =
    let p = err_from_is_err_and c.from_residual.result c.from_residual.ensures.1 in
    let known = rw (c.deref_mut.ensures.value) at c.in_err-end.ensures.known in
    rw (p.1, p.2)
    (λ headers files are.
    subst (λ (objects : List LookupObjectState). WritesLines (needed_version_lines c.args.self.now.lines.format) (version_items (versioned_of files c.args.opened.now.indexes.items c.args.self.now.objects)) (IsBudgetShort objects c.check_all.new.left) c.args.self.now.out c.check_all.new.out
    (Err c.in_err-end.field-0.0)) (sym (front_taken c.args.opened.now.objects.len c.check_all.new.objects _ (c.check_all.ensures.asks.objects.same_length ∙ c.deref_mut.ensures.len)))
    (subst (λ (indexes : List ℕ). WritesLines (needed_version_lines c.args.self.now.lines.format) (version_items (versioned_of files indexes c.args.self.now.objects)) (IsBudgetShort c.check_all.new.objects c.check_all.new.left) c.args.self.now.out c.check_all.new.out
    (Err c.in_err-end.field-0.0)) c.deref.ensures.value (known headers files are)))

pub returns-clause-known : goal.returns-clause-known
returns-clause-known g c =
    let known = rw (c.deref_mut.ensures.value) at c.in_ok-end.ensures.known in
    λ headers files are. (
      c.in_ok-end.end,
      subst (λ (objects : List LookupObjectState). WritesLines (needed_version_lines c.args.self.now.lines.format) (version_items (versioned_of files c.args.opened.now.indexes.items c.args.self.now.objects)) (IsBudgetShort objects c.check_all.new.left) c.args.self.now.out c.check_all.new.out
          (Ok c.in_ok-end.end)) (sym (front_taken c.args.opened.now.objects.len c.check_all.new.objects _ (c.check_all.ensures.asks.objects.same_length ∙ c.deref_mut.ensures.len)))
          (subst (λ (indexes : List ℕ). WritesLines (needed_version_lines c.args.self.now.lines.format) (version_items (versioned_of files indexes c.args.self.now.objects)) (IsBudgetShort c.check_all.new.objects c.check_all.new.left) c.args.self.now.out c.check_all.new.out
          (Ok c.in_ok-end.end)) c.deref.ensures.value (known headers files are)),
      ap (λ (listed : Listed). listed.status) c.listed.ensures ∙ c.status_after-self.ensures,
      ap (λ (listed : Listed). listed.whole) c.listed.ensures ∙ c.is_some.ensures ∙ ap is_some c.failing.ensures,
    )
