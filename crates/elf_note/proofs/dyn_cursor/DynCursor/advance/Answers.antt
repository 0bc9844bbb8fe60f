use Rattle.std.proofs.Common.{◌≡◌, ◌==◌, length, rules, sym, ap, ◌∙◌, arith}
use Rattle.std.proofs.lemmas.List.{take_all}
use Rattle.elf_model.specs.Prelude.{DT_NULL, d_tag}
use Rattle.elf_note.proofs.EntriesLeft.{gives-entry, ends-entries}
use Rattle.elf_note.proofs.dyn_cursor.DynCursor.advance.Goals as goal

pub returns-then-not-branch-clause-steps : goal.returns-then-not-branch-clause-steps
returns-then-not-branch-clause-steps g c =
    let i = c.self.inside in
    rw (← c.self.view_is)
    (ends-entries c.args.src.now.seen.file (record { cursor = i.cursor; ended = i.ended }) c.advance.new.self c.in_ok-advance.field-0
    (search rules) c.in_ok-advance.ensures.steps c.if-self.false)

pub returns-clause-steps : goal.returns-clause-steps
returns-clause-steps g c =
    let i = c.self.inside in
    let bytes = c.row.result.bytes.now in
    let whole : bytes ≡ c.advance.new.self.row = c.row.ensures.its_bytes in
    let size : length bytes ≡ 16 = search rules in
    let null : c.is_null-self-inside.result ≡ (d_tag c.advance.new.self.row 0 == DT_NULL) =
    c.is_null-self-inside.ensures bytes 0 (c.entry_in.ensures bytes 0 (sym (take_all 16 bytes (omega arith)))) ∙ ap (λ x. d_tag x 0 == DT_NULL) whole in
    rw (← c.self.view_is)
    (gives-entry c.args.src.now.seen.file (record { cursor = i.cursor; ended = i.ended }) (record { cursor = c.advance.new.self; ended = c.is_null-self-inside.result }) c.in_ok-advance.field-0
    (search rules) c.in_ok-advance.ensures.steps c.self.invariant.0 c.if-self.false null)
