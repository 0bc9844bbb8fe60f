use Rattle.std.proofs.Common.{rules, sym, ◌∙◌}
use Rattle.elf_reloc.specs.Entries.{target_as}
use Rattle.elf_reloc.proofs.EntrySteps.{term_again}
use Rattle.elf_reloc.proofs.entry.taken_value.Goals as goal

pub returns : goal.returns
returns g c = record {
  costs = c.in_ok-value.ensures.did.costs;
  same = search rules;
  refers = λ file header held refers named. record {
    linked = refers.linked;
    last = λ rela same.
        term_again c.args.at rela _ (target_as file c.args.target.now) header c.args.base (sym named ∙ same)
        (c.in_ok-value.ensures.did.known file held header refers.linked named);
  };
  known = λ file header held refers named. c.in_ok-value.ensures.did.known file held header refers.linked named;
}
