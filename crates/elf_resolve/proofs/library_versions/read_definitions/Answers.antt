-- The names of a section are read, or refused.
use Rattle.std.proofs.Common.{[], subst}
use Rattle.std.specs.Prelude.{Ok}
use Rattle.std.proofs.lemmas.Result.{err_from_is_err_and}
use Rattle.elf_model.specs.Numbers.{SHT_GNU_VERDEF}
use Rattle.elf_model.specs.declared.versions.VersionKind.TheVariants.{Definition}
use Rattle.elf_resolve.specs.LibraryFiles.{ReadsVersionRecords, defined_names, header_of_type}
use Rattle.elf_resolve.specs.LibraryVersions.{version_names}
use Rattle.elf_resolve.proofs.LibraryReadLaws.{names_missing, names_of_records, names_refused, names_there}
use Rattle.elf_resolve.proofs.library_versions.read_definitions.Goals as goal

pub returns-in_err-section-clause-reads : goal.returns-in_err-section-clause-reads
returns-in_err-section-clause-reads g c = λ file known none held.
    let p = err_from_is_err_and c.from_residual.result c.from_residual.ensures.1 in
    rw (p.1, p.2) (names_refused Definition file (header_of_type file SHT_GNU_VERDEF) c.in_err-section.field-0.0 (c.in_err-section.ensures.reads file known held))

pub returns-in_default-clause-reads : goal.returns-in_default-clause-reads
returns-in_default-clause-reads g c = λ file known none held.
    ([], names_missing Definition file (header_of_type file SHT_GNU_VERDEF) (subst (λ r. ReadsVersionRecords file c.read_records.new.strings.bytes (header_of_type file SHT_GNU_VERDEF) (Ok r)) c.in_default.is (c.in_ok-section.ensures.reads file known held)), none c.read_records.new.strings.bytes)

pub returns-clause-reads : goal.returns-clause-reads
returns-clause-reads g c = λ file known none held.
    let bytes = c.read_records.new.strings.bytes in
    let read = subst (λ r. ReadsVersionRecords file bytes (header_of_type file SHT_GNU_VERDEF) (Ok r)) c.in-Some.is (c.in_ok-section.ensures.reads file known held) in
    names_of_records (version_names Definition file read.0) (defined_names file) bytes c.read_definitions.new.self.defined.items c.read_definitions.result
    (names_there Definition file (header_of_type file SHT_GNU_VERDEF) read.0 read.1 read.2.some read.2.pass)
    (c.read_definitions.ensures.reads file read.0 read.2.holds (none bytes))
