use Rattle.std.proofs.Common.{sym, refl, ◌∙◌, arith}
use Rattle.elf_model.proofs.Searches.{shown-none, shown-past, shown-whole, shown-cut, shown-unended}
use Rattle.elf_note.proofs.read_ahead.ReadAhead.name.Goals as goal
use Rattle.elf_note.proofs.read_ahead.ReadAhead.name.Goals.{else-size-eq0-via-then-size-eq0+else-index-eq0, else-size-eq0-via-else-size-eq0}

pub returns-then-index-eq0-clause-read : goal.returns-then-index-eq0-clause-read
returns-then-index-eq0-clause-read g c = λ file h a.
    let n = c.args.index.names in
    rw c.clear.ensures (shown-none file n.at n.size c.args.index.off c.args.cap.bytes (sym c.size-size.ensures.value ∙ c.if-size-eq0.true) c.if-index-eq0.true)

pub returns-then-index-size-clause-read : goal.returns-then-index-size-clause-read
returns-then-index-size-clause-read g c = λ file h a.
    let n = c.args.index.names in
    let size = c.size-size.ensures.value in
    let past = c.if-index-size.true in
    rw c.refused.ensures (λ _. (
      refl,
      shown-past file n.at n.size c.args.index.off c.args.cap.bytes (omega arith)
          (λ z o. elim c.else-size-eq0.branch [ else-size-eq0-via-then-size-eq0+else-index-eq0 w ↦ absurd (omega arith) | else-size-eq0-via-else-size-eq0 w ↦ absurd (omega arith) ]),
    ))

pub returns-then-branch-clause-read : goal.returns-then-branch-clause-read
returns-then-branch-clause-read g c = λ file h a.
    let n = c.args.index.names in
    let size = c.size-size.ensures.value in
    let below = c.if-index-size.false in
    let left = c.from.ensures in
    let want = c.min-want.ensures in
    let ends = c.requires (omega arith) in
    let sized = c.args.src.now.seen.sized file h in
    let held = rw (← c.self.view_is) at a in
    let found = rw c.if-branch.true at (c.in_ok-search.ensures.searched file h (record { names = held.names; symbols = held.symbols })) in
    shown-whole file c.search.new.name n.at n.size c.args.index.off c.min-want.result c.args.cap.bytes (omega arith) (omega arith) (omega arith) (omega arith) found

pub returns-then-left-from-clause-read : goal.returns-then-left-from-clause-read
returns-then-left-from-clause-read g c = λ file h a.
    let n = c.args.index.names in
    let size = c.size-size.ensures.value in
    let below = c.if-index-size.false in
    let left = c.from.ensures in
    let more = c.if-left-from.true in
    let wide = c.from-2.ensures in
    let want = c.min-want.ensures in
    let ends = c.requires (omega arith) in
    let sized = c.args.src.now.seen.sized file h in
    let held = rw (← c.self.view_is) at a in
    let found = rw c.if-branch.false at (c.in_ok-search.ensures.searched file h (record { names = held.names; symbols = held.symbols })) in
    shown-cut file c.search.new.name n.at n.size c.args.index.off c.min-want.result c.args.cap.bytes (omega arith) (omega arith) (omega arith) found

pub returns-clause-read : goal.returns-clause-read
returns-clause-read g c = λ file h a.
    let n = c.args.index.names in
    let size = c.size-size.ensures.value in
    let below = c.if-index-size.false in
    let left = c.from.ensures in
    let few = c.if-left-from.false in
    let wide = c.from-2.ensures in
    let want = c.min-want.ensures in
    let ends = c.requires (omega arith) in
    let sized = c.args.src.now.seen.sized file h in
    let held = rw (← c.self.view_is) at a in
    let found = rw c.if-branch.false at (c.in_ok-search.ensures.searched file h (record { names = held.names; symbols = held.symbols })) in
    rw c.refused-2.ensures (λ _.
    (refl, shown-unended file c.search.new.name n.at n.size c.args.index.off c.min-want.result c.args.cap.bytes (omega arith) (omega arith) (omega arith) (omega arith) found))
