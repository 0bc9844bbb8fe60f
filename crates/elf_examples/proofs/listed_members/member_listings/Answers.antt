use Rattle.elf_examples.proofs.ArchiveBudgets.{ends_before}
use Rattle.elf_examples.proofs.listed_members.member_listings.Goals as goal

pub returns-clause-budgets_that_end_archives : goal.returns-clause-budgets_that_end_archives
returns-clause-budgets_that_end_archives c = ends_before
