-- A lookup within what is left of a budget.
use Rattle.std.proofs.Common.{of_calls}
use Rattle.elf_options.specs.Wants.{query_of}
use Rattle.elf_library.proofs.ChargeLaws.{looks_within}
use Rattle.elf_library.proofs.FilterLaws.{kept_after, looks_excluded}
use Rattle.elf_library.proofs.NameLaws.{same_names}
use Rattle.elf_library.proofs.object.LookupObject.look.Goals as goal

pub returns : goal.returns
returns g c =
    let reads = c.charge.ensures.reads in
    rw (← c.self.view_is)
    (looks_within reads.sets reads.frees c.charge.ensures.pays c.self.invariant.0 c.self.invariant.3 (search of_calls))

pub invariant_of-self : goal.invariant_of-self
invariant_of-self g c =
    let reads = c.charge.ensures.reads in
    kept_after reads.sets (search of_calls) reads.frees c.self.invariant (search of_calls) same_names

pub returns-then-excludes : goal.returns-then-excludes
returns-then-excludes g c = looks_excluded (query_of c.args.wanted.now) _ _ (c.excludes.ensures c.if-excludes.true (query_of c.args.wanted.now) c.requires.hash)
