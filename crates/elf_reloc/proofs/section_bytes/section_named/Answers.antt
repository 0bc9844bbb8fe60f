-- The names of the sections, one after the other.
use Rattle.std.proofs.Common.{◌≡◌, ℕ, ◌+◌, ◌*◌, length, sym, ap, ◌∙◌, arith}
use Rattle.std.proofs.lemmas.Result.{err_from_is_err_and}
use Rattle.elf_model.specs.Prelude.{pad64}
use Rattle.elf_table.proofs.LedgerLaws.{CallDid-as, CallDid-none, CallDid-then}
use Rattle.elf_reloc.proofs.NamedSteps.{fails_here, found_here, names_first, no_names, none_left, not_here, one_at_least, within_all}
use Rattle.elf_reloc.proofs.section_bytes.section_named.Goals as goal

pub returns-in_default-clause-did : goal.returns-in_default-clause-did
returns-in_default-clause-did g c =
    CallDid-as _ (omega arith) (CallDid-none c.args.src.now) (λ bytes none costs belongs. no_names bytes c.args.wanted.now (sym (c.in_default.ensures.held bytes belongs)))

pub loop-section-init : goal.loop-section-init
loop-section-init g c = record {
  did =
      CallDid-as _ (omega arith) (CallDid-none c.args.src.now)
      (λ bytes none costs belongs. (names_first bytes c.args.wanted.now c.in-Some.names (sym (c.in-Some.ensures.held bytes belongs))).0);
  high = one_at_least _ _ c.args.file.now.whole (λ zero. let never = c.in-Some.ensures.none zero in cc);
  end = c.sections-section-end.ensures;
}

pub returns-in_err-has_name-clause-did : goal.returns-in_err-has_name-clause-did
returns-in_err-has_name-clause-did g c =
    let p = err_from_is_err_and c.from_residual.result c.from_residual.ensures.1 in
    let i = c.loop-section.invariant in
    rw (p.1, p.2)
    (CallDid-as _ (within_all c.loop-section.section c.args.file.now.store.now.loaded (pad64 (length c.args.wanted.now + 1)) (omega (arith, c.loop-section-test.true, i.end)))
    (CallDid-then i.did c.in_err-has_name.ensures.did)
    (λ bytes told costs belongs.
    let are = (names_first bytes c.args.wanted.now c.in-Some.names (sym (c.in-Some.ensures.held bytes belongs))).1 in
    fails_here bytes c.args.wanted.now c.in-Some.names c.loop-section.section are (omega (arith, c.loop-section-test.true, i.end, belongs.count, belongs.header.e_shnum)) (told.0 belongs) _ (told.1 belongs)))

pub returns-then-branch-clause-did : goal.returns-then-branch-clause-did
returns-then-branch-clause-did g c =
    let i = c.loop-section.invariant in
    CallDid-as _ (within_all c.loop-section.section c.args.file.now.store.now.loaded (pad64 (length c.args.wanted.now + 1)) (omega (arith, c.loop-section-test.true, i.end)))
    (CallDid-then i.did c.in_ok-has_name.ensures.did)
    (λ bytes told costs belongs.
    let are = (names_first bytes c.args.wanted.now c.in-Some.names (sym (c.in-Some.ensures.held bytes belongs))).1 in
    found_here bytes c.args.wanted.now c.in-Some.names c.loop-section.section are (omega (arith, c.loop-section-test.true, i.end, belongs.count, belongs.header.e_shnum)) (told.0 belongs) (rw c.if-branch.true at (told.1 belongs)))

pub loop-section-preserved : goal.loop-section-preserved
loop-section-preserved g c =
    let i = c.loop-section.invariant in
    record {
      did =
          CallDid-as _ (omega arith) (CallDid-then i.did c.in_ok-has_name.ensures.did)
          (λ bytes told costs belongs.
          let are = (names_first bytes c.args.wanted.now c.in-Some.names (sym (c.in-Some.ensures.held bytes belongs))).1 in
          not_here bytes c.args.wanted.now c.in-Some.names c.loop-section.section are (omega (arith, c.loop-section-test.true, i.end, belongs.count, belongs.header.e_shnum)) (told.0 belongs) (rw c.if-branch.false at (told.1 belongs)));
      high = omega (arith, c.loop-section-test.true, i.end);
      end = i.end;
    }

pub returns-clause-did : goal.returns-clause-did
returns-clause-did g c =
    let i = c.loop-section.invariant in
    let same : c.loop-section.section ≡ c.args.file.now.store.now.loaded = omega (arith, c.loop-section-test.false, i.end, i.high) in
    CallDid-as _ (omega (arith, same, ap (λ (n : ℕ). n * pad64 (length c.args.wanted.now + 1)) same)) i.did
    (λ bytes told costs belongs. told belongs ∙ none_left bytes c.args.wanted.now c.loop-section.section (omega (arith, same, belongs.count, belongs.header.e_shnum)))
