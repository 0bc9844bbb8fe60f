use Rattle.std.proofs.Common.{◌≡◌, length, arith}
use Rattle.std.proofs.lemmas.Grind.{common_steps}
use Rattle.elf_model.specs.Bytes.{slice}
use Rattle.elf_model.proofs.Slices.{slice-size}
use Rattle.elf_table.proofs.Paging.{Agrees-passed, passed-held}
use Rattle.elf_table.proofs.window.Window.skip.Goals as goal

pub overflow_add-self : goal.overflow_add-self
overflow_add-self g c = grind (arith, common_steps)

pub invariant_of-self : goal.invariant_of-self
invariant_of-self g c = grind (arith, common_steps)

pub returns : goal.returns
returns g c =
    let i = c.self.inside in
    let inv = c.self.invariant in
    let told = c.self.told in
    let whole : length (slice i.bytes i.from i.held) ≡ i.held = slice-size i.bytes i.from i.held (omega (arith, told)) in
    record {
      page = grind (arith, common_steps);
      at = grind (arith, common_steps);
      left = grind (arith, common_steps);
      unread = grind (arith, common_steps);
      held = rw (← c.self.view_is) (passed-held _ _ _ _ _ c.min-held.ensures);
      end = grind (arith, common_steps);
      agrees = λ file a. Agrees-passed file i.bytes i.at i.from i.held c.args.count c.min-held.result whole c.min-held.ensures (rw (← c.self.view_is) at a);
    }
