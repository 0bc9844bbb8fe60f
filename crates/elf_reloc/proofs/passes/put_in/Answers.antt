use Rattle.std.proofs.Common.{refl, ap, ◌∙◌, ◌+◌, length, min, take, drop, ◌-◌}
use Rattle.elf_reloc.specs.Entries.{patch_as}
use Rattle.elf_reloc.proofs.PassSteps.{stored-in, stored-none}
use Rattle.elf_reloc.proofs.passes.put_in.Goals as goal

pub returns-then-first-end : goal.returns-then-first-end
returns-then-first-end c =
    stored-in (patch_as c.args.placed.now) c.args.low (length c.args.window.now) c.max-first.result c.min-end.result c.args.window.now refl c.max-first.ensures
    (c.min-end.ensures ∙ ap (λ l. min (c.args.placed.now.offset + length l) (c.args.low + length c.args.window.now)) c.bytes-bytes.ensures)
    c.copy_from_slice.new.self c.if-first-end.true (c.copy_from_slice.ensures.after ∙ ap (λ l. take (c.min-end.result - c.args.placed.now.offset - (c.max-first.result - c.args.placed.now.offset)) (drop (c.max-first.result - c.args.placed.now.offset) l)) c.bytes-bytes.ensures)

pub returns-else-first-end : goal.returns-else-first-end
returns-else-first-end c =
    stored-none (patch_as c.args.placed.now) c.args.low (length c.args.window.now) c.max-first.result c.min-end.result c.args.window.now refl c.max-first.ensures
    (c.min-end.ensures ∙ ap (λ l. min (c.args.placed.now.offset + length l) (c.args.low + length c.args.window.now)) c.bytes-bytes.ensures)
    c.if-first-end.false
