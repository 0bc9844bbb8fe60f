-- The lookup in the file as it is, or with the header's fields for section headers masked
-- meanwhile.
use Rattle.std.proofs.Common.{sym}
use Rattle.elf_model.specs.LoaderFind.{loader_ceiling}
use Rattle.elf_source.specs.Source.{MasksSectionHeaders}
use Rattle.elf_options.specs.Wants.{query_of}
use Rattle.elf_loader.proofs.HiddenLaws.{looked_as_it_is, looked_hidden}
use Rattle.elf_loader.proofs.loader_lookup.look_up.Goals as goal

pub returns-then-not-by_segments-clause-did : goal.returns-then-not-by_segments-clause-did
returns-then-not-by_segments-clause-did g c = looked_as_it_is c.args.by_segments c.if-not-by_segments.true c.lookup_and_read_version.ensures.did

pub returns-clause-did : goal.returns-clause-did
returns-clause-did g c =
    let show : MasksSectionHeaders c.lookup_and_read_version-found.new.src c.mask_section_headers-2.new.self c.args.src.now.hides = rw (sym c.hides-hides.ensures) c.mask_section_headers-2.ensures in
    looked_hidden c.args.by_segments (λ size. loader_ceiling size c.args.store.now.slots (query_of c.args.wanted.now)) c.if-not-by_segments.false c.mask_section_headers.ensures show c.lookup_and_read_version-found.ensures.did
