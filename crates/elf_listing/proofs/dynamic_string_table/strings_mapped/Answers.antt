-- The string table by the cases of the definition.
use Rattle.std.proofs.Common.{rules, refl}
use Rattle.elf_model.specs.Mapped.{strings_at}
use Rattle.elf_listing.proofs.StringsTold.{found_mapped}
use Rattle.elf_listing.proofs.dynamic_string_table.strings_mapped.Goals as goal

pub returns-in_default : goal.returns-in_default
unfolding strings_at
returns-in_default c = record {
  told = λ file views. rw (c.refused.ensures, c.in_default.is, strings_at) refl;
  within = search rules;
  refusal = search rules;
}

pub returns-in_default-size : goal.returns-in_default-size
unfolding strings_at
returns-in_default-size c = record {
  told = λ file views. rw (c.refused-in_default-size.ensures, c.in-Some.is, c.in_default-size.is, strings_at) refl;
  within = search rules;
  refusal = search rules;
}

pub returns : goal.returns
returns c = record {
  told = λ file views. rw (c.mapped.ensures.held file views, c.in-Some.is, c.in-Some-size.is) (found_mapped file c.in-Some.address c.in-Some-size.size c.args.at);
  within = search rules;
  refusal = search rules;
}
