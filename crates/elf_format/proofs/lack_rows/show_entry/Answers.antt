-- The type alone, or with the name.
use Rattle.std.proofs.Common.{rules, ◌≡◌, ◌==◌, ◌∙◌, ap, ◌++◌, codes, true, false, length}
use Rattle.elf_format.proofs.LackText.{entry_named, entry_unnamed}
use Rattle.elf_format.proofs.lack_rows.show_entry.Goals as goal
use Rattle.elf_format.proofs.lack_rows.show_entry.Goals.{else-is_empty-via-then-is_empty+else-not-is_cut, else-is_empty-via-else-is_empty}

pub returns-then-not-is_cut : goal.returns-then-not-is_cut
returns-then-not-is_cut g c =
    let none : (length c.args.name.now == 0) ≡ true = search rules in
    let whole : c.args.is_cut ≡ false = search rules in
    let all = c.deref.ensures.0 ∙ (c.put.ensures.items ∙ ap (λ xs. xs ++ codes ": ") c.type_prefix-line.ensures.text) in
    record { puts = rw (entry_unnamed c.args.kind c.args.name.now c.args.is_cut whole none) (rw all at c.put-then-not-is_cut.ensures.puts) }

pub returns : goal.returns
returns g c =
    let some : c.args.is_cut ≡ false → (length c.args.name.now == 0) ≡ false =
    elim c.else-is_empty.branch [
      | else-is_empty-via-then-is_empty+else-not-is_cut w ↦ λ whole. search rules
      | else-is_empty-via-else-is_empty w ↦ λ whole. search rules
    ] in
    let front = c.put-2.ensures.items ∙ ap (λ xs. xs ++ codes " to ") c.type_prefix-line.ensures.text in
    record { puts = rw (entry_named c.args.kind c.args.name.now c.args.is_cut some) (rw front at c.show_around.ensures.puts) }
