use Rattle.std.proofs.Common.{List, ℕ, Some, true, false, subst}
use Rattle.elf_needs.specs.Prelude.{PutsText, origin_of, root_before}
use Rattle.elf_needs.proofs.PathLaws.{entry_made, not_named, not_rooted}
use Rattle.elf_needs.proofs.paths.put_entry.Goals as goal

pub returns-then-not-push_root : goal.returns-then-not-push_root
returns-then-not-push_root c =
    not_rooted c.args.root.now c.args.name.now (origin_of c.args.origin) c.args.entry.now c.push_root.new.path.items
    (subst (λ (old : List ℕ). PutsText old c.push_root.new.path.items (Some (root_before c.args.root.now c.args.entry.now)) false) c.clear.ensures c.if-not-push_root.ensures)

pub returns-then-not-put_dir : goal.returns-then-not-put_dir
returns-then-not-put_dir c =
    not_named c.args.root.now c.args.name.now (origin_of c.args.origin) c.args.entry.now c.push_root.new.path.items c.put_dir.new.path.items
    (subst (λ (old : List ℕ). PutsText old c.push_root.new.path.items (Some (root_before c.args.root.now c.args.entry.now)) true) c.clear.ensures c.if-not-push_root.ensures)
    c.if-not-put_dir.ensures

pub returns : goal.returns
returns c =
    entry_made c.args.root.now c.args.name.now (origin_of c.args.origin) c.args.entry.now c.push_root.new.path.items c.put_dir.new.path.items c.put_name.new.path.items c.put_name.result
    c.put_name.ensures.within
    (subst (λ (old : List ℕ). PutsText old c.push_root.new.path.items (Some (root_before c.args.root.now c.args.entry.now)) true) c.clear.ensures c.if-not-push_root.ensures)
    c.if-not-put_dir.ensures c.put_name.ensures.puts
