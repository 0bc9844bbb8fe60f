use Rattle.std.proofs.Common.{inl, inr, refl, arith}
use Rattle.elf_table.proofs.SameNames.{same-none, same-past, same-false, same-alike}
use Rattle.elf_table.proofs.names.Names.equals.Goals as goal
use Rattle.elf_table.proofs.names.Names.equals.Goals.{else-size-eq0-via-then-size-eq0+else-off-eq0, else-size-eq0-via-else-size-eq0}

pub returns-then-off-eq0-clause-compared : goal.returns-then-off-eq0-clause-compared
returns-then-off-eq0-clause-compared g c = λ file h. same-none file c.args.wanted.now _ _ c.args.off (omega arith) c.if-off-eq0.true

pub returns-then-off-size-clause-compared : goal.returns-then-off-size-clause-compared
returns-then-off-size-clause-compared g c = λ file h.
    rw c.refused.ensures (λ _. (
      refl,
      same-past file c.args.wanted.now _ _ c.args.off (omega arith)
          (λ z o. elim c.else-size-eq0.branch [ else-size-eq0-via-then-size-eq0+else-off-eq0 w ↦ absurd (omega arith) | else-size-eq0-via-else-size-eq0 w ↦ absurd (omega arith) ]),
    ))

pub returns-then-not-branch-clause-compared : goal.returns-then-not-branch-clause-compared
returns-then-not-branch-clause-compared g c = λ file h.
    let ends = c.requires.within (omega arith) in
    let sized = c.args.src.now.seen.sized file h in
    same-false file c.args.wanted.now c.args.self.now.at c.args.self.now.size c.args.off c.min-want.result (omega arith) (omega arith) (omega arith)
    (rw (c.if-not-branch.true, c.at.ensures.value) at (c.in_ok-matches.ensures.did.known file h))

pub returns-then-want-full-clause-compared : goal.returns-then-want-full-clause-compared
returns-then-want-full-clause-compared g c = λ file h.
    let ends = c.requires.within (omega arith) in
    let sized = c.args.src.now.seen.sized file h in
    elim (same-alike file c.args.wanted.now c.args.self.now.at c.args.self.now.size c.args.off c.min-want.result (omega arith) (omega arith) (omega arith)
    (rw (c.if-not-branch.false, c.at.ensures.value) at (c.in_ok-matches.ensures.did.known file h))) [ inl whole ↦ whole.0 | inr short ↦ absurd (omega (arith, short.1)) ]

pub returns-clause-compared : goal.returns-clause-compared
returns-clause-compared g c = λ file h.
    let ends = c.requires.within (omega arith) in
    let sized = c.args.src.now.seen.sized file h in
    rw c.refused-2.ensures (λ _. (
      refl,
      elim (same-alike file c.args.wanted.now c.args.self.now.at c.args.self.now.size c.args.off c.min-want.result (omega arith) (omega arith) (omega arith)
          (rw (c.if-not-branch.false, c.at.ensures.value) at (c.in_ok-matches.ensures.did.known file h))) [ inl whole ↦ absurd (omega (arith, whole.1)) | inr short ↦ short.0 ],
    ))
