-- The type of the entry, its symbol, its place and its bytes.
use Rattle.std.proofs.Common.{◌≡◌, ℕ, ◌/◌, ◌%◌, ◌^◌, inl, sym, ap, subst, ◌∙◌, arith}
use Rattle.std.proofs.lemmas.Result.{err_from_is_err_and}
use Rattle.elf_model.specs.Image.{ImageChange, change_of_type}
use Rattle.elf_model.specs.ImageValues.{dynamic_type, entry_symbol}
use Rattle.elf_model.specs.Prelude.{r_sym, r_type}
use Rattle.elf_table.proofs.LedgerLaws.{CallReads-more, CallReads-none}
use Rattle.elf_image.specs.Changes.{entry_reads}
use Rattle.elf_image.specs.Relocated.{ChangesAs}
use Rattle.elf_image.specs.Values.{IsUsed}
use Rattle.elf_image.proofs.EntrySteps.{keeps_none, symbol_refuses, typed_change, untyped}
use Rattle.elf_image.proofs.ReadSteps.{reads_unless, resolved_unused}
use Rattle.elf_image.proofs.ToldSteps.{reads_check}
use Rattle.elf_image.proofs.entry.entry_result.Goals as goal

pub returns-then-kind-eq-R_X86_64_NONE-clause-change : goal.returns-then-kind-eq-R_X86_64_NONE-clause-change
returns-then-kind-eq-R_X86_64_NONE-clause-change g c = λ source held of has rela small.
    let kind : c.kind-kind.result ≡ r_type source.file c.args.at = c.kind-kind.ensures ∙ ap (λ (i : ℕ). i % 2 ^ 32) rela.r_info in
    keeps_none source c.args.at (sym kind ∙ c.if-kind-eq-R_X86_64_NONE.true)

pub returns-in_default-clause-change : goal.returns-in_default-clause-change
returns-in_default-clause-change g c = λ source held of has rela small.
    let kind : c.kind-kind.result ≡ r_type source.file c.args.at = c.kind-kind.ensures ∙ ap (λ (i : ℕ). i % 2 ^ 32) rela.r_info in
    rw c.refused.ensures (λ other. inl (untyped source c.args.at (λ zero. c.if-kind-eq-R_X86_64_NONE.false (kind ∙ zero)) (ap dynamic_type (sym kind) ∙ (sym c.dynamic_type.ensures ∙ c.in_default.is))))

pub returns-in_err-symbol-clause-change : goal.returns-in_err-symbol-clause-change
returns-in_err-symbol-clause-change g c = λ source held of has rela small.
    let p = err_from_is_err_and c.from_residual.result c.from_residual.ensures.1 in
    let kind : c.kind-kind.result ≡ r_type source.file c.args.at = c.kind-kind.ensures ∙ ap (λ (i : ℕ). i % 2 ^ 32) rela.r_info in
    let index : c.symbol.result ≡ r_sym source.file c.args.at = c.symbol.ensures ∙ ap (λ (i : ℕ). i / 2 ^ 32) rela.r_info in
    let typed = typed_change source c.args.at (λ zero. c.if-kind-eq-R_X86_64_NONE.false (kind ∙ zero)) in
    let found = ap dynamic_type (sym kind) ∙ (sym c.dynamic_type.ensures ∙ c.in-Some.is) in
    let change = typed ∙ ap (change_of_type source c.args.at) found in
    rw (p.1, p.2)
    (symbol_refuses source c.args.at c.in-Some.found (IsUsed c.in-Some.found source.file (entry_symbol source.file source.at c.args.at) c.symbol.result) c.args.image.now.leaves _ change
    (c.in_err-symbol.ensures.did.known source.file held source.at (of.told.symbols has) index))

pub returns-clause-change : goal.returns-clause-change
returns-clause-change g c = λ source held of has rela small.
    let kind : c.kind-kind.result ≡ r_type source.file c.args.at = c.kind-kind.ensures ∙ ap (λ (i : ℕ). i % 2 ^ 32) rela.r_info in
    let index : c.symbol.result ≡ r_sym source.file c.args.at = c.symbol.ensures ∙ ap (λ (i : ℕ). i / 2 ^ 32) rela.r_info in
    let typed = typed_change source c.args.at (λ zero. c.if-kind-eq-R_X86_64_NONE.false (kind ∙ zero)) in
    let found = ap dynamic_type (sym kind) ∙ (sym c.dynamic_type.ensures ∙ c.in-Some.is) in
    let change = typed ∙ ap (change_of_type source c.args.at) found in
    let reads = c.in_ok-symbol.ensures.did.known source.file held source.at (of.told.symbols has) index in
    let uses = rw c.symbol.ensures at reads in
    subst (λ (x : ImageChange). ChangesAs c.args.image.now.leaves c.args.at c.stored_result.result x) (sym change) (c.stored_result.ensures.change source of rela small uses)

pub returns-then-kind-eq-R_X86_64_NONE-clause-costs : goal.returns-then-kind-eq-R_X86_64_NONE-clause-costs
returns-then-kind-eq-R_X86_64_NONE-clause-costs g c = CallReads-more (entry_reads c.args.entry.now) (omega arith) (CallReads-none c.args.src.now)

pub returns-in_default-clause-costs : goal.returns-in_default-clause-costs
returns-in_default-clause-costs g c =
    rw c.refused.ensures (record { reads = (CallReads-more (entry_reads c.args.entry.now) (omega arith) (CallReads-none c.args.src.now)).reads; says = λ budget. absurd (cc) })

pub returns-in_err-symbol-clause-costs : goal.returns-in_err-symbol-clause-costs
returns-in_err-symbol-clause-costs g c =
    let p = err_from_is_err_and c.from_residual.result c.from_residual.ensures.1 in
    let found = sym c.dynamic_type.ensures ∙ c.in-Some.is in
    rw (p.1, p.2)
    (reads_unless (c.args.entry.now.r_info % 2 ^ 32) 37 24
    (λ is. c.in_err-symbol.ensures.unused (resolved_unused c.kind-kind.result c.in-Some.found (c.kind-kind.ensures ∙ is) found)) c.in_err-symbol.ensures.did.costs)

pub returns-clause-costs : goal.returns-clause-costs
returns-clause-costs g c =
    let found = sym c.dynamic_type.ensures ∙ c.in-Some.is in
    reads_check c.stored_result.result c.stored_result.ensures.refusal
    (reads_unless (c.args.entry.now.r_info % 2 ^ 32) 37 24
    (λ is. c.in_ok-symbol.ensures.unused (resolved_unused c.kind-kind.result c.in-Some.found (c.kind-kind.ensures ∙ is) found)) c.in_ok-symbol.ensures.did.costs)
