use Rattle.std.proofs.Common.{ap, sym, ◌∙◌}
use Rattle.std.specs.Prelude.{is_some}
use Rattle.elf_layout.proofs.ItemLaws.{no_plus, unread}
use Rattle.elf_layout.proofs.spelled.number.Goals as goal

pub returns-clause-none : goal.returns-clause-none
returns-clause-none c = λ none.
    unread _ _ c.args.digits.now c.from_str_radix.result c.requires (no_plus c.args.digits.now _ c.starts_with.ensures.cases c.if-starts_with.false)
    c.from_str_radix.ensures.value (ap is_some (sym c.ok.ensures.value) ∙ none)
