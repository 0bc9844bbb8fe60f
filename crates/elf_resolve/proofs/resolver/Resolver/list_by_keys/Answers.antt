use Rattle.std.proofs.Common.{ap, refl, ◌∙◌}
use Rattle.elf_resolve.specs.declared.resolver.Resolver.{Resolver}
use Rattle.elf_resolve.proofs.KeyMarkLaws.{faults_marked}
use Rattle.elf_resolve.proofs.ListedLaws.{all_listed, listed_marked}
use Rattle.elf_resolve.proofs.resolver.Resolver.list_by_keys.Goals as goal

pub returns-clause-lists : goal.returns-clause-lists
returns-clause-lists c = λ room own.
    listed_marked c.chain_further.new.self c.mark_problems.new.self c.args.output c.mark_problems.ensures.same
    (all_listed c.args.self.now c.chain_entries.new.self c.chain_further.new.self c.chain_entries.ensures.same c.chain_further.ensures.same room own c.chain_further.ensures.room c.chain_entries.ensures.lists
    c.chain_further.ensures.lists)

pub returns-clause-marks : goal.returns-clause-marks
returns-clause-marks c = λ room own.
    let chained = c.chain_further.new.self in
    let start : Resolver = record chained { output = c.args.output } in
    let listed = all_listed c.args.self.now c.chain_entries.new.self chained c.chain_entries.ensures.same c.chain_further.ensures.same room own c.chain_further.ensures.room c.chain_entries.ensures.lists c.chain_further.ensures.lists in
    faults_marked c.args.self.now start c.mark_problems.new.self (ap (λ (r : Resolver). r.link.rows) c.chain_further.ensures.same ∙ ap (λ (r : Resolver). r.link.rows) c.chain_entries.ensures.same)
    (ap (λ (r : Resolver). r.problems) c.chain_further.ensures.same ∙ ap (λ (r : Resolver). r.problems) c.chain_entries.ensures.same) room (listed_marked chained start c.args.output refl listed) c.mark_problems.ensures.same c.mark_problems.ensures.marks
