use Rattle.std.proofs.Common.{refl, ◌∙◌}
use Rattle.elf_resolve.proofs.ReadBudgetLaws.{spends_none, spends_then}
use Rattle.elf_resolve.proofs.resolver.Resolver.offer_libraries.Goals as goal

pub loop-library-init : goal.loop-library-init
loop-library-init g c = (refl, spends_none c.args.files.now.budget)

pub loop-library-preserved : goal.loop-library-preserved
loop-library-preserved g c = (c.offer_library.ensures.text ∙ c.loop-library.invariant.0, spends_then c.loop-library.invariant.1 c.offer_library.ensures.spends)
