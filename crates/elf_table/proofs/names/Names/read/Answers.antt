use Rattle.std.proofs.Common.{◌≡◌, ℕ, ◌+◌, ◌-◌, ◌≤◌, min, ap, refl, ◌∙◌, arith}
use Rattle.elf_model.proofs.Searches.{shown-none, shown-past, shown-whole, shown-cut, shown-unended}
use Rattle.elf_table.specs.Windows.{WindowState}
use Rattle.elf_table.proofs.names.Names.read.Goals as goal
use Rattle.elf_table.proofs.names.Names.read.Goals.{else-size-eq0-via-then-size-eq0+else-off-eq0, else-size-eq0-via-else-size-eq0}

pub returns-then-off-eq0-clause-read : goal.returns-then-off-eq0-clause-read
returns-then-off-eq0-clause-read g c = λ file h.
    rw c.clear.ensures (shown-none file c.args.self.now.at c.args.self.now.size c.args.off c.args.cap.bytes (omega arith) c.if-off-eq0.true)

pub returns-then-off-size-clause-read : goal.returns-then-off-size-clause-read
returns-then-off-size-clause-read g c = λ file h.
    rw c.refused.ensures (λ _. (
      refl,
      shown-past file c.args.self.now.at c.args.self.now.size c.args.off c.args.cap.bytes (omega arith)
          (λ z o. elim c.else-size-eq0.branch [ else-size-eq0-via-then-size-eq0+else-off-eq0 w ↦ absurd (omega arith) | else-size-eq0-via-else-size-eq0 w ↦ absurd (omega arith) ]),
    ))

pub returns-then-branch-clause-read : goal.returns-then-branch-clause-read
returns-then-branch-clause-read g c = λ file h.
    let ends = c.requires (omega arith) in
    let sized = c.args.src.now.seen.sized file h in
    let place : c.new-window.result.at ≡ c.args.self.now.at + c.args.off = ap (λ (w : WindowState). w.at) c.new-window.ensures ∙ omega arith in
    shown-whole file c.search_name.new.name c.args.self.now.at c.args.self.now.size c.args.off c.min-want.result c.args.cap.bytes (omega arith) (omega arith) (omega arith) (omega arith)
    (rw (c.if-branch.true, place) at (c.in_ok-search_name.ensures.searched file h (rw c.new-window.ensures refl)))

pub returns-then-left-from-clause-read : goal.returns-then-left-from-clause-read
returns-then-left-from-clause-read g c = λ file h.
    let ends = c.requires (omega arith) in
    let sized = c.args.src.now.seen.sized file h in
    let place : c.new-window.result.at ≡ c.args.self.now.at + c.args.off = ap (λ (w : WindowState). w.at) c.new-window.ensures ∙ omega arith in
    shown-cut file c.search_name.new.name c.args.self.now.at c.args.self.now.size c.args.off c.min-want.result c.args.cap.bytes (omega arith) (omega arith) (omega arith)
    (rw (c.if-branch.false, place) at (c.in_ok-search_name.ensures.searched file h (rw c.new-window.ensures refl)))

pub returns-clause-read : goal.returns-clause-read
returns-clause-read g c = λ file h.
    let ends = c.requires (omega arith) in
    let sized = c.args.src.now.seen.sized file h in
    let place : c.new-window.result.at ≡ c.args.self.now.at + c.args.off = ap (λ (w : WindowState). w.at) c.new-window.ensures ∙ omega arith in
    rw c.refused-2.ensures (λ _. (
      refl,
      shown-unended file c.search_name.new.name c.args.self.now.at c.args.self.now.size c.args.off c.min-want.result c.args.cap.bytes (omega arith) (omega arith) (omega arith) (omega arith)
          (rw (c.if-branch.false, place) at (c.in_ok-search_name.ensures.searched file h (rw c.new-window.ensures refl))),
    ))

-- the requested bytes are no more than the window was to request
not-past : (after before unread want size all off most : ℕ) → after ≤ before + unread → unread ≡ want → want ≡ min (size - off) most → size ≡ all → after ≤ before + (all - off)
not-past after before unread want size all off most few is least same = omega arith

pub returns-in_err-search_name-clause-not_past : goal.returns-in_err-search_name-clause-not_past
returns-in_err-search_name-clause-not_past g c =
    not-past _ _ _ _ _ _ _ _ c.in_err-search_name.ensures.reads.went.reads.at_most (ap (λ (w : WindowState). w.unread) c.new-window.ensures) c.min-want.ensures c.size-size.ensures.value

pub returns-then-branch-clause-not_past : goal.returns-then-branch-clause-not_past
returns-then-branch-clause-not_past g c =
    not-past _ _ _ _ _ _ _ _ c.in_ok-search_name.ensures.reads.went.reads.at_most (ap (λ (w : WindowState). w.unread) c.new-window.ensures) c.min-want.ensures c.size-size.ensures.value

pub returns-then-left-from-clause-not_past : goal.returns-then-left-from-clause-not_past
returns-then-left-from-clause-not_past g c =
    not-past _ _ _ _ _ _ _ _ c.in_ok-search_name.ensures.reads.went.reads.at_most (ap (λ (w : WindowState). w.unread) c.new-window.ensures) c.min-want.ensures c.size-size.ensures.value

pub returns-clause-not_past : goal.returns-clause-not_past
returns-clause-not_past g c =
    not-past _ _ _ _ _ _ _ _ c.in_ok-search_name.ensures.reads.went.reads.at_most (ap (λ (w : WindowState). w.unread) c.new-window.ensures) c.min-want.ensures c.size-size.ensures.value
