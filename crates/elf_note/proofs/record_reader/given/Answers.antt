use Rattle.std.proofs.Common.{◌+◌, refl, arith}
use Rattle.elf_note.proofs.WordLaws.{named-where}
use Rattle.elf_note.proofs.record_reader.given.Goals as goal

pub returns-clause-is : goal.returns-clause-is
returns-clause-is c = λ file table at_is h name.
    let there = named-where file c.args.stand.now.kind (table + c.args.stand.now.place) c.args.words.now h in
    record {
      kind = refl;
      at = at_is;
      number = h.number;
      flags = h.flags;
      hash = h.hash;
      named_at = omega (arith, c.name_distance.ensures.value, there, at_is);
      name = name;
    }
