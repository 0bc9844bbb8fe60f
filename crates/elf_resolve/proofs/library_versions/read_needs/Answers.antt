-- The names of a section are read, or refused.
use Rattle.std.proofs.Common.{[], subst}
use Rattle.std.specs.Prelude.{Ok}
use Rattle.std.proofs.lemmas.Result.{err_from_is_err_and}
use Rattle.elf_model.specs.Numbers.{SHT_GNU_VERNEED}
use Rattle.elf_model.specs.declared.versions.VersionKind.TheVariants.{File}
use Rattle.elf_resolve.specs.LibraryFiles.{ReadsVersionRecords, needed_names, header_of_type}
use Rattle.elf_resolve.specs.LibraryVersions.{version_names}
use Rattle.elf_resolve.proofs.LibraryReadLaws.{names_missing, names_of_records, names_refused, names_there}
use Rattle.elf_resolve.proofs.library_versions.read_needs.Goals as goal

pub returns-in_err-section-clause-reads : goal.returns-in_err-section-clause-reads
returns-in_err-section-clause-reads g c = λ file known none held.
    let p = err_from_is_err_and c.from_residual.result c.from_residual.ensures.1 in
    rw (p.1, p.2) (names_refused File file (header_of_type file SHT_GNU_VERNEED) c.in_err-section.field-0.0 (c.in_err-section.ensures.reads file known held))

pub returns-in_default-clause-reads : goal.returns-in_default-clause-reads
returns-in_default-clause-reads g c = λ file known none held.
    ([], names_missing File file (header_of_type file SHT_GNU_VERNEED) (subst (λ r. ReadsVersionRecords file c.read_records.new.strings.bytes (header_of_type file SHT_GNU_VERNEED) (Ok r)) c.in_default.is (c.in_ok-section.ensures.reads file known held)), none c.read_records.new.strings.bytes)

pub returns-clause-reads : goal.returns-clause-reads
returns-clause-reads g c = λ file known none held.
    let bytes = c.read_records.new.strings.bytes in
    let read = subst (λ r. ReadsVersionRecords file bytes (header_of_type file SHT_GNU_VERNEED) (Ok r)) c.in-Some.is (c.in_ok-section.ensures.reads file known held) in
    names_of_records (version_names File file read.0) (needed_names file) bytes c.read_needs.new.self.needed.items c.read_needs.result
    (names_there File file (header_of_type file SHT_GNU_VERNEED) read.0 read.1 read.2.some read.2.pass)
    (c.read_needs.ensures.reads file read.0 read.2.holds (none bytes))
