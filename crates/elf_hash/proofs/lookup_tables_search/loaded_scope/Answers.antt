-- By the sections, or if there are none by the program headers.
use Rattle.std.proofs.Common.{ap, sym, ◌∙◌, arith}
use Rattle.std.proofs.lemmas.Result.{err_from_is_err_and}
use Rattle.elf_record.specs.declared.ehdr.Ehdr.{Ehdr}
use Rattle.elf_table.proofs.LedgerLaws.{CallReads-then, CallDid-as, CallDid-none, CallDid-of, CallDid-then}
use Rattle.elf_hash.proofs.FoundLaws.{did_check}
use Rattle.elf_hash.proofs.LoadedLaws.{loaded_sections, loaded_segments, read_tells, segments_bytes_is, segments_cost}
use Rattle.elf_hash.proofs.lookup_tables_search.loaded_scope.Goals as goal

pub returns-then-header-ne0-clause-did : goal.returns-then-header-ne0-clause-did
returns-then-header-ne0-clause-did g c =
    CallDid-as _ (omega arith) (did_check c.by_sections.result c.by_sections.ensures.refusal (CallDid-none c.args.src.now))
    (λ file told costs belongs.
    let count = ap (λ (h : Ehdr). h.e_shnum) c.header.ensures.value ∙ belongs.header.e_shnum in
    (costs _ (omega arith), loaded_sections file _ (λ none. c.if-header-ne0.true (count ∙ none)) (c.by_sections.ensures.held file belongs)))

pub returns-in_err-load_segments-clause-did : goal.returns-in_err-load_segments-clause-did
returns-in_err-load_segments-clause-did g c =
    let p = err_from_is_err_and c.from_residual.result c.from_residual.ensures.1 in
    let shnum = ap (λ (h : Ehdr). h.e_shnum) c.header.ensures.value in
    let bytes = segments_bytes_is c.args.loaded.header c.args.src.now.seen.size (sym shnum ∙ c.if-header-ne0.false) in
    rw (p.1, p.2)
    (CallDid-as _ (omega (arith, bytes)) (CallDid-of c.load_segments.ensures.reads c.in_err-load_segments.ensures.says c.in_err-load_segments.ensures.held)
    (λ file told costs belongs.
    let none = sym (shnum ∙ belongs.header.e_shnum) ∙ c.if-header-ne0.false in
    let cost = segments_cost file none in
    (costs _ (omega (arith, cost, belongs.header.e_phnum)), read_tells file _ _ c.in_err-load_segments.ensures.fault)))

pub returns-clause-did : goal.returns-clause-did
returns-clause-did g c =
    let shnum = ap (λ (h : Ehdr). h.e_shnum) c.header.ensures.value in
    let bytes = segments_bytes_is c.args.loaded.header c.args.src.now.seen.size (sym shnum ∙ c.if-header-ne0.false) in
    let first = CallDid-of c.load_segments.ensures.reads tt c.in_ok-load_segments.ensures.held in
    let same = c.load_segments.ensures.reads.keeps.same_size in
    CallDid-as _ (omega (arith, bytes, same)) (CallDid-then first c.find_in_segments.ensures.did)
    (λ file told costs belongs.
    let none = sym (shnum ∙ belongs.header.e_shnum) ∙ c.if-header-ne0.false in
    let cost = segments_cost file none in
    let found = told.1 (told.0 belongs) in
    (CallReads-then _ (omega (arith, cost, belongs.header.e_phnum)) first.costs found.0, loaded_segments file none _ found.1))
