-- A lookup that reads a name once.
use Rattle.std.proofs.Common.{rules, refl, arith}
use Rattle.elf_table.proofs.LedgerLaws.{CallReads-more}
use Rattle.elf_model.specs.Prelude.{Searched, lookup_cost}
use Rattle.elf_table.specs.Tables.{strings_in}
use Rattle.elf_reloc.proofs.NameSteps.{lookup_most, no_names, no_strings, past_end}
use Rattle.elf_reloc.proofs.lookup.searched.Goals as goal
use Rattle.elf_reloc.proofs.lookup.searched.Goals.{else-size-eq0-via-then-size-eq0+else-off-eq0, else-size-eq0-via-else-size-eq0}

pub returns-then-is_empty : goal.returns-then-is_empty
returns-then-is_empty g c = record {
  costs = search rules;
  known = λ file h. no_names (strings_in file c.args.symbol.now.names) c.args.symbol.now.fields.st_name c.args.names.now c.if-is_empty.ensures;
}

pub returns-then-off-eq0 : goal.returns-then-off-eq0
returns-then-off-eq0 g c = record {
  costs = search rules;
  known = λ file h.
      no_strings file c.args.symbol.now.names.at c.args.symbol.now.names.size c.args.symbol.now.fields.st_name c.args.names.now (omega (arith, c.size-size.ensures.value)) (omega (arith, c.from-off.ensures, c.if-off-eq0.true));
}

pub returns-then-off-size : goal.returns-then-off-size
returns-then-off-size g c = record {
  costs = search rules;
  known = λ file h.
      rw c.refused.ensures (λ _. (
        refl,
        past_end file c.args.symbol.now.names.at c.args.symbol.now.names.size c.args.symbol.now.fields.st_name c.args.names.now c.if-is_empty.ensures
            (λ z o. elim c.else-size-eq0.branch [ else-size-eq0-via-then-size-eq0+else-off-eq0 w ↦ absurd (omega arith) | else-size-eq0-via-else-size-eq0 w ↦ absurd (omega arith) ])
            (omega (arith, c.if-off-size.true, c.size-size.ensures.value, c.from-off.ensures)),
      ));
}

pub returns : goal.returns
returns g c =
    let most = lookup_most c.args.names.now c.if-is_empty.ensures in
    record { costs = CallReads-more (lookup_cost Searched c.args.names.now) most c.read_name.ensures.costs; known = c.read_name.ensures.known }
