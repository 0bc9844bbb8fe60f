use Rattle.std.proofs.Common.{◌+◌, ◌*◌, min, ap, ◌∙◌, sym, arith}
use Rattle.elf_reloc.specs.Applied.{write_passes}
use Rattle.elf_reloc.proofs.RoomSteps.{room_for}
use Rattle.elf_reloc.proofs.apply_section.has_room.Goals as goal

pub returns : goal.returns
returns g c =
    rw c.from-2.ensures (room_for c.args.src.now c.args.target.now c.in-Some.left (write_passes c.args.checked.now.rises c.args.target.now.size) c.args.checked.now.entries (48 + c.names_cost-each.result) c.args.target.now.size
    c.saturating_mul.result c.saturating_mul-walks.result c.saturating_add.result (sym c.left.ensures ∙ c.in-Some.is) (omega (arith, c.from-2.ensures)) c.requires (ap (λ n. 48 + n) c.names_cost-each.ensures.value)
    c.saturating_mul.ensures (c.saturating_mul-walks.ensures ∙ ap (λ n. min (n * c.saturating_mul.result) 340282366920938463463374607431768211455) (c.from-passes.ensures ∙ c.write_passes.ensures))
    (c.saturating_add.ensures ∙ ap (λ n. min (c.saturating_mul-walks.result + n) 340282366920938463463374607431768211455) c.from.ensures))
