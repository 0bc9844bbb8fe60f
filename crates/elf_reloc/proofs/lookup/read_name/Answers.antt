-- What was read is what the string table has at the name's index.
use Rattle.std.proofs.Common.{rules, ◌+◌, length, refl, sym, ap, ◌∙◌, arith}
use Rattle.elf_model.specs.Prelude.{longest, slice}
use Rattle.elf_model.proofs.Slices.{slice-size}
use Rattle.elf_table.specs.Tables.{strings_in}
use Rattle.elf_reloc.proofs.NameSteps.{front_is, ReadsUpTo-more}
use Rattle.elf_reloc.proofs.lookup.read_name.Goals as goal

pub returns-in-Ok : goal.returns-in-Ok
returns-in-Ok g c = record {
  costs = record { reads = ReadsUpTo-more c.args.src.now c.fill.new.src (length c.args.front.now) (longest c.args.names.now + 1) (omega (arith, c.requires.count)) c.fill.ensures.reads; says = tt };
  known = λ file h.
      let names = c.args.symbol.now.names in
      let index = c.args.symbol.now.fields.st_name in
      let sized = c.args.src.now.seen.sized file h in
      let long = slice-size file names.at names.size (omega (arith, sized, c.requires.within (omega (arith, c.requires.inside)))) in
      let count = length c.args.front.now in
      let read = c.in_ok-fill.ensures.read file h in
      let is = read ∙ (ap (λ n. slice file n count) (omega (arith, c.at.ensures.value, c.from.ensures)) ∙ front_is file names.at names.size index (longest c.args.names.now) count c.requires.inside c.requires.count) in
      sym (c.in-Ok.ensures.found (strings_in file names) index (omega (arith, long, c.requires.inside)) is);
}

pub returns-in-Err : goal.returns-in-Err
returns-in-Err g c = record {
  costs = record { reads = ReadsUpTo-more c.args.src.now c.fill.new.src (length c.args.front.now) (longest c.args.names.now + 1) (omega (arith, c.requires.count)) c.fill.ensures.reads; says = search rules };
  known = λ file h.
      let names = c.args.symbol.now.names in
      let index = c.args.symbol.now.fields.st_name in
      let sized = c.args.src.now.seen.sized file h in
      let long = slice-size file names.at names.size (omega (arith, sized, c.requires.within (omega (arith, c.requires.inside)))) in
      let count = length c.args.front.now in
      let read = c.in_ok-fill.ensures.read file h in
      let is = read ∙ (ap (λ n. slice file n count) (omega (arith, c.at.ensures.value, c.from.ensures)) ∙ front_is file names.at names.size index (longest c.args.names.now) count c.requires.inside c.requires.count) in
      rw c.refused.ensures (λ _. (refl, sym (c.in-Err.ensures.found (strings_in file names) index (omega (arith, long, c.requires.inside)) is)));
}
