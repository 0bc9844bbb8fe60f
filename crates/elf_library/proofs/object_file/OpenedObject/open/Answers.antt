-- What is found is kept, or the file is closed.
use Rattle.std.proofs.Common.{ap, refl, ◌∙◌}
use Rattle.elf_library.specs.Kept.{LookupObjectState}
use Rattle.elf_library.proofs.KeptLaws.{back_tells}
use Rattle.elf_library.proofs.object_file.OpenedObject.open.Goals as goal

pub returns-in-Ok-clause-opens : goal.returns-in-Ok-clause-opens
returns-in-Ok-clause-opens g c =
    let finds = c.in-Ok.ensures.finds in
    let headers = ap (λ (o : LookupObjectState). o.headers) c.new-object.ensures ∙ c.slots.ensures.value ∙ c.in-Ok.ensures.slots in
    record {
      after = c.tables.new.self;
      costs = finds.costs;
      pays = finds.pays;
      ends = (ap (λ (o : LookupObjectState). o.src) c.new-object.ensures ∙ c.file.view_is, refl);
      known = λ bytes held. record { costs = (finds.known bytes held).costs; tells = headers };
    }

pub returns-in-Err-clause-opens : goal.returns-in-Err-clause-opens
returns-in-Err-clause-opens g c =
    let finds = c.in-Err.ensures.finds in
    record {
      after = c.tables.new.self;
      costs = finds.costs;
      pays = finds.pays;
      ends = (c.close.ensures.counts, c.close.ensures.grows);
      known = λ bytes held. let found = finds.known bytes held in record { costs = found.costs; tells = back_tells bytes c.args.store.now.slots c.in-Err.fault found.finds };
    }
