-- A shared library is read, or refused.
use Rattle.std.proofs.Common.{sym, ◌∙◌}
use Rattle.std.proofs.lemmas.Result.{err_from_is_err_and}
use Rattle.elf_source.proofs.ReadsLaws.{KeepsSource-then}
use Rattle.elf_resolve.proofs.LibraryReadLaws.{dynamic_fault, found_passes, indexes_fault, names_fault, read_with, read_without, symbols_fault}
use Rattle.elf_resolve.proofs.StringBufferLaws.{kept_then}
use Rattle.elf_resolve.proofs.library.read_library.Goals as goal

pub returns-in_err-symbols-clause-reads : goal.returns-in_err-symbols-clause-reads
returns-in_err-symbols-clause-reads g c = λ file known held.
    let p = err_from_is_err_and c.from_residual.result c.from_residual.ensures.1 in
    rw (p.1, p.2) (symbols_fault file c.in_err-symbols.field-0.0 (c.in_err-symbols.ensures.reads file known held))

pub returns-in_err-dynamic-clause-keeps : goal.returns-in_err-dynamic-clause-keeps
returns-in_err-dynamic-clause-keeps g c = KeepsSource-then c.read_first_symbols.ensures.keeps c.read_dynamic.ensures.keeps

pub returns-in_err-dynamic-clause-reads : goal.returns-in_err-dynamic-clause-reads
returns-in_err-dynamic-clause-reads g c = λ file known held.
    let p = err_from_is_err_and c.from_residual-in_err-dynamic.result c.from_residual-in_err-dynamic.ensures.1 in
    rw (p.1, p.2)
    (dynamic_fault file c.in_err-dynamic.field-0.0 (found_passes file c.read_first_symbols.new.strings.bytes _ c.in_ok-symbols.symbols (c.in_ok-symbols.ensures.reads file known held))
    (c.in_err-dynamic.ensures.reads file (c.read_first_symbols.ensures.keeps.same_file ∙ known) held))

pub returns-in_err-indexes-clause-keeps : goal.returns-in_err-indexes-clause-keeps
returns-in_err-indexes-clause-keeps g c = KeepsSource-then (KeepsSource-then c.read_first_symbols.ensures.keeps c.read_dynamic.ensures.keeps) c.read_indexes.ensures.keeps

pub returns-in_err-indexes-clause-reads : goal.returns-in_err-indexes-clause-reads
returns-in_err-indexes-clause-reads g c = λ file known held.
    let known2 = c.read_first_symbols.ensures.keeps.same_file ∙ known in
    let p = err_from_is_err_and c.from_residual-in_err-indexes.result c.from_residual-in_err-indexes.ensures.1 in
    rw (p.1, p.2)
    (indexes_fault file c.in_err-indexes.field-0.0 (found_passes file c.read_first_symbols.new.strings.bytes _ c.in_ok-symbols.symbols (c.in_ok-symbols.ensures.reads file known held))
    (c.in_ok-dynamic.ensures.reads file known2 held).0 (c.in_err-indexes.ensures.reads file (c.read_dynamic.ensures.keeps.same_file ∙ known2) held))

pub returns-then-not-has_versions-clause-keeps : goal.returns-then-not-has_versions-clause-keeps
returns-then-not-has_versions-clause-keeps g c = KeepsSource-then (KeepsSource-then c.read_first_symbols.ensures.keeps c.read_dynamic.ensures.keeps) c.read_indexes.ensures.keeps

pub returns-then-not-has_versions-clause-reads : goal.returns-then-not-has_versions-clause-reads
returns-then-not-has_versions-clause-reads g c = λ file known held.
    let known2 = c.read_first_symbols.ensures.keeps.same_file ∙ known in
    let first = kept_then c.read_dynamic.ensures.stays c.read_indexes.ensures.stays in
    read_without file c.read_first_symbols.new.strings.bytes c.read_dynamic.new.strings.bytes c.read_indexes.new.strings.bytes c.in_ok-symbols.symbols c.in_ok-dynamic.dynamic c.in_ok-indexes.indexes
    (c.in_ok-symbols.ensures.reads file known held) (c.in_ok-dynamic.ensures.reads file known2 held) (c.in_ok-indexes.ensures.reads file (c.read_dynamic.ensures.keeps.same_file ∙ known2) held)
    c.args.row c.clear.new.self first.first c.read_indexes.ensures.stays.first c.clear.ensures (sym c.has_versions.ensures ∙ c.if-not-has_versions.true)

pub returns-in_err-read_version_names-clause-keeps : goal.returns-in_err-read_version_names-clause-keeps
returns-in_err-read_version_names-clause-keeps g c =
    KeepsSource-then (KeepsSource-then (KeepsSource-then c.read_first_symbols.ensures.keeps c.read_dynamic.ensures.keeps) c.read_indexes.ensures.keeps) c.read_version_names.ensures.keeps

pub returns-in_err-read_version_names-clause-reads : goal.returns-in_err-read_version_names-clause-reads
returns-in_err-read_version_names-clause-reads g c = λ file known held.
    let known2 = c.read_first_symbols.ensures.keeps.same_file ∙ known in
    let known3 = c.read_dynamic.ensures.keeps.same_file ∙ known2 in
    let first = kept_then c.read_dynamic.ensures.stays c.read_indexes.ensures.stays in
    let p = err_from_is_err_and c.from_residual-in_err-read_version_names.result c.from_residual-in_err-read_version_names.ensures.1 in
    rw (p.1, p.2)
    (names_fault file c.read_first_symbols.new.strings.bytes c.read_dynamic.new.strings.bytes c.read_indexes.new.strings.bytes c.in_ok-symbols.symbols c.in_ok-dynamic.dynamic c.in_ok-indexes.indexes
    (c.in_ok-symbols.ensures.reads file known held) (c.in_ok-dynamic.ensures.reads file known2 held) (c.in_ok-indexes.ensures.reads file known3 held)
    c.in_err-read_version_names.field-0.0 first.first (sym c.has_versions.ensures ∙ c.if-not-has_versions.false)
    (c.in_err-read_version_names.ensures.reads file (c.read_indexes.ensures.keeps.same_file ∙ known3) c.clear.ensures held))

pub returns-clause-keeps : goal.returns-clause-keeps
returns-clause-keeps g c =
    KeepsSource-then (KeepsSource-then (KeepsSource-then c.read_first_symbols.ensures.keeps c.read_dynamic.ensures.keeps) c.read_indexes.ensures.keeps) c.read_version_names.ensures.keeps

pub returns-clause-reads : goal.returns-clause-reads
returns-clause-reads g c = λ file known held.
    let known2 = c.read_first_symbols.ensures.keeps.same_file ∙ known in
    let known3 = c.read_dynamic.ensures.keeps.same_file ∙ known2 in
    let second = kept_then c.read_indexes.ensures.stays c.read_version_names.ensures.stays in
    let first = kept_then c.read_dynamic.ensures.stays second in
    read_with file c.read_first_symbols.new.strings.bytes c.read_dynamic.new.strings.bytes c.read_indexes.new.strings.bytes c.in_ok-symbols.symbols c.in_ok-dynamic.dynamic c.in_ok-indexes.indexes
    (c.in_ok-symbols.ensures.reads file known held) (c.in_ok-dynamic.ensures.reads file known2 held) (c.in_ok-indexes.ensures.reads file known3 held)
    c.read_version_names.new.strings.bytes c.args.row c.read_version_names.new.versions first.first second.first c.read_version_names.ensures.stays.first
    (c.in_ok-read_version_names.ensures.reads file (c.read_indexes.ensures.keeps.same_file ∙ known3) c.clear.ensures held) (sym c.has_versions.ensures ∙ c.if-not-has_versions.false)
