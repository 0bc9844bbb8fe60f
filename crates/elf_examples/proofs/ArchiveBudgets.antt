-- A budget below an archive's cost may end its listing before the first line.
use Rattle.std.proofs.Common.{[], refl, inr}
use Rattle.std.specs.Prelude.{true, codes}
use Rattle.elf_model.specs.Prelude.{archive_items, archive_of, member, standard}
use Rattle.elf_model.proofs.OnLiterals.{on_literals}
use Rattle.elf_examples.specs.Prelude.{BudgetsThatEndArchives, spent_at}

pub ends_before : BudgetsThatEndArchives
unfolding on_literals
ends_before budget at less inside = inr (
  less,
  record {
    front = [];
    rest = archive_items true (archive_of (member (codes "a/") [])) 3 (standard 63) 0;
    split = refl;
    no_fault = refl;
    refusal = spent_at at;
    for_budget = refl;
    inside = inside;
    text_is = refl;
    fault_is = refl;
  },
)
