use Rattle.std.proofs.Common.{List, ℕ, Some, true, false, subst}
use Rattle.elf_needs.specs.Prelude.{PutsText, root_before}
use Rattle.elf_needs.proofs.PathLaws.{named_made, named_long}
use Rattle.elf_needs.proofs.paths.named_path.Goals as goal

pub returns-then-not-push_root : goal.returns-then-not-push_root
returns-then-not-push_root c =
    named_long c.args.root.now c.args.name.now c.push_root.new.path.items
    (subst (λ (old : List ℕ). PutsText old c.push_root.new.path.items (Some (root_before c.args.root.now c.args.name.now)) false) c.clear.ensures c.if-not-push_root.ensures)

pub returns : goal.returns
returns c =
    named_made c.args.root.now c.args.name.now c.push_root.new.path.items c.put.new.path.items c.put.result
    c.put.ensures.within
    (subst (λ (old : List ℕ). PutsText old c.push_root.new.path.items (Some (root_before c.args.root.now c.args.name.now)) true) c.clear.ensures c.if-not-push_root.ensures)
    c.put.ensures.puts
