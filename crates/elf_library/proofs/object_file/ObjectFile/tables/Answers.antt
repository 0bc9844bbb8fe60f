-- The tables are found within what is left of a budget.
use Rattle.std.proofs.Common.{ap, of_calls, subst, ◌∙◌}
use Rattle.elf_source.specs.Source.{CountedState}
use Rattle.elf_library.specs.Opens.{FindsTablesWithin}
use Rattle.elf_library.proofs.KeptLaws.{tables_within}
use Rattle.elf_library.proofs.object_file.ObjectFile.tables.Goals as goal

pub returns-clause-finds : goal.returns-clause-finds
returns-clause-finds g c =
    let reads = c.charge.ensures.reads in
    let hides = ap (λ (s : CountedState). s.hides) c.self.view_is ∙ c.requires.by_segments in
    subst (λ (s : CountedState). FindsTablesWithin s c.charge.new.self c.args.store.now.slots c.args.left.now c.charge.new.left c.charge.result) c.self.view_is
    (tables_within reads.sets reads.frees c.charge.ensures.pays c.args.store.now.slots hides (search of_calls) (search of_calls) (search of_calls))

pub returns-clause-slots : goal.returns-clause-slots
returns-clause-slots g c = search of_calls
