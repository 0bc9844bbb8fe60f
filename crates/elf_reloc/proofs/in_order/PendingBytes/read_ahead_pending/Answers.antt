use Rattle.std.proofs.Common.{ap, ◌∙◌, ◌+◌, ◌≡◌, arith, length, length-take, length-drop, drop, ℕ, List}
use Rattle.elf_reloc.specs.InOrder.{PendingState}
use Rattle.elf_reloc.proofs.InOrderSteps.{midway_fill}
use Rattle.elf_reloc.proofs.in_order.PendingBytes.read_ahead_pending.Goals as goal

pub returns-clause-bytes : goal.returns-clause-bytes
returns-clause-bytes g c = λ file held now long midway.
    let low = ap (λ (h : PendingState). h.low) c.self.view_is in
    let bytes = ap (λ (h : PendingState). length h.bytes) c.self.view_is in
    let counted : length c.args.self.now.bytes ≡ c.self.inside.count = omega (arith, bytes, c.self.invariant, c.self.told, length-take c.self.inside.count (drop c.self.inside.from c.self.inside.bytes), length-drop c.self.inside.from c.self.inside.bytes) in
    let page : List ℕ = c.moved-page.result in
    midway_fill file c.args.at c.args.size now c.args.self.now c.self.inside.low c.self.inside.count (c.self.inside.count + c.min-more.result) page c.fill.new.out
    (ap (λ (l : List ℕ). record { low = c.self.inside.low; bytes = l }) c.moved-page.ensures.begins ∙ c.self.view_is) (omega arith) (omega (arith, c.moved-page.ensures.long, c.min-more.ensures, c.self.invariant))
    c.fill.auto.out (c.in_ok-fill.ensures.read file held) long (omega (arith, low, counted, c.requires.held, c.min-more.ensures)) midway
