use Rattle.std.proofs.Common.{sym, ◌∙◌}
use Rattle.elf_model.proofs.ChoiceLemmas.{names_fit_every_version}
use Rattle.elf_model.specs.ShownNames.{shown_as}
use Rattle.elf_options.specs.Chosen.{after_of, choice_of}
use Rattle.elf_options.proofs.row_filter.RowFilter.shows_version.Goals as goal

pub returns-then-shows : goal.returns-then-shows
returns-then-shows c =
    let alone = sym c.shows.ensures ∙ c.if-shows.true in
    sym (names_fit_every_version (choice_of c.args.self.now) (shown_as c.args.is_cut c.args.name.now) (after_of c.args.version.now) alone)
