-- The strings, and each table.
use Rattle.std.proofs.Common.{◌∙◌}
use Rattle.elf_model.specs.Prelude.{DT_VERDEF, DT_VERNEED}
use Rattle.elf_model.specs.declared.versions.VersionKind.TheVariants.{Definition, File}
use Rattle.elf_library.proofs.VersionTableLaws.{records_are, versym_is}
use Rattle.elf_library.proofs.version_tables.versions_at.Goals as goal

pub returns-clause-held : goal.returns-clause-held
returns-clause-held c =
    λ file at views are.
    let names = c.in_ok-names.ensures.held file at views are in (
      names.0,
      record {
        needs = records_are file at DT_VERNEED File c.segment_records.result (c.segment_records.ensures.held file views at DT_VERNEED are.verneed names.1);
        definitions = records_are file at DT_VERDEF Definition c.segment_records-2.result (c.segment_records-2.ensures.held file views at DT_VERDEF are.verdef names.1);
        versym = c.is_some.ensures ∙ versym_is file at c.args.found.now are;
      },
    )
