use Rattle.std.proofs.Common.{rules, sym, ap, ◌∙◌, ◌≤◌, arith, length, length-take, drop}
use Rattle.elf_reloc.specs.InOrder.{PendingState}
use Rattle.elf_model.proofs.Slices.{slice-rest}
use Rattle.elf_reloc.proofs.in_order.PendingBytes.skip.Goals as goal

pub returns : goal.returns
returns c = record {
  low = search rules;
  bytes =
      let long = ap (λ (h : PendingState). length h.bytes) c.self.view_is in
      let few : c.args.count ≤ c.self.inside.count = omega (arith, long, c.requires.few, length-take c.self.inside.count (drop c.self.inside.from c.self.inside.bytes)) in
      sym (slice-rest c.self.inside.bytes c.self.inside.from c.self.inside.count c.args.count few) ∙ ap (λ (h : PendingState). drop c.args.count h.bytes) c.self.view_is;
}
