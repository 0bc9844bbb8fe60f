-- The version is read after the symbol and its name.
use Rattle.std.proofs.Common.{◌∙◌}
use Rattle.elf_library.proofs.copied_symbols.named_symbol.Goals as goal

pub returns-in_err-asked-clause-kept : goal.returns-in_err-asked-clause-kept
returns-in_err-asked-clause-kept g c = record {
  keeps = λ file held. c.in_err-asked.ensures.kept.keeps file (c.in_ok-whole_name.ensures.costs.reads.keeps.same_file ∙ c.symbol.ensures.reads.keeps.same_file ∙ held);
}

pub returns-clause-kept : goal.returns-clause-kept
returns-clause-kept g c = record {
  keeps = λ file held. c.in_ok-asked.ensures.kept.keeps file (c.in_ok-whole_name.ensures.costs.reads.keeps.same_file ∙ c.symbol.ensures.reads.keeps.same_file ∙ held);
}
