-- The names of both sections are read, or refused.
use Rattle.std.proofs.Common.{List, sym, ap, subst, ◌∙◌}
use Rattle.std.specs.Prelude.{Option, Ok}
use Rattle.std.proofs.lemmas.Result.{err_from_is_err_and}
use Rattle.elf_source.proofs.ReadsLaws.{KeepsSource-then}
use Rattle.elf_resolve.specs.LibraryFiles.{HaveNoNames, ReadsNamesOfVersions, defined_names, needed_names}
use Rattle.elf_resolve.specs.declared.string_buffer.HeldText.{HeldText}
use Rattle.elf_resolve.proofs.LibraryReadLaws.{both_read, definitions_refused}
use Rattle.elf_resolve.proofs.StringBufferLaws.{kept_then}
use Rattle.elf_resolve.proofs.library_versions.read_version_names.Goals as goal

pub returns-in_err-read_definitions-clause-reads : goal.returns-in_err-read_definitions-clause-reads
returns-in_err-read_definitions-clause-reads g c = λ file known none held.
    let p = err_from_is_err_and c.from_residual.result c.from_residual.ensures.1 in
    rw (p.1, p.2) (definitions_refused (defined_names file) (needed_names file) c.in_err-read_definitions.field-0.0 (c.in_err-read_definitions.ensures.reads file known none.defined held))

pub returns-clause-keeps : goal.returns-clause-keeps
returns-clause-keeps g c = KeepsSource-then c.read_definitions.ensures.keeps c.read_needs.ensures.keeps

pub returns-clause-stays : goal.returns-clause-stays
returns-clause-stays g c = kept_then c.read_definitions.ensures.stays c.read_needs.ensures.stays

pub returns-clause-reads : goal.returns-clause-reads
returns-clause-reads g c = λ file known none held.
    let defined = c.in_ok-read_definitions.ensures.reads file known none.defined held in
    let same = ap (λ v. v.items) c.read_needs.ensures.defined in
    let stays = subst (λ (texts : List (Option HeldText)). ReadsNamesOfVersions (defined_names file) c.read_definitions.new.strings.bytes texts (Ok tt)) (sym same) defined in
    let unnamed = subst HaveNoNames (sym (ap (λ v. v.items) c.read_definitions.ensures.needed)) none.needed in
    both_read file c.read_definitions.new.strings.bytes c.read_needs.new.strings.bytes c.read_needs.new.versions c.read_needs.result stays c.read_needs.ensures.stays.first
    (c.read_needs.ensures.reads file (c.read_definitions.ensures.keeps.same_file ∙ known) unnamed held)
