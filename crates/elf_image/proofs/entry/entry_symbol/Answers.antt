-- The checks of the symbol, by the type and by its index.
use Rattle.std.proofs.Common.{sym, ◌∙◌, arith}
use Rattle.elf_table.proofs.LedgerLaws.{CallDid-as, CallDid-none, CallDid-stop, CallReads-none}
use Rattle.elf_image.proofs.SymbolSteps.{own_block, thread_passes, unnamed_refused, unused, unused_passes, used_reads}
use Rattle.elf_image.proofs.entry.entry_symbol.Goals as goal

pub returns-then-uses_no_symbol-clause-did : goal.returns-then-uses_no_symbol-clause-did
returns-then-uses_no_symbol-clause-did g c =
    CallDid-as 24 (omega arith) (CallDid-none c.args.src.now) (λ file told costs header are same.
    let no_use = sym c.uses_no_symbol.ensures ∙ c.if-uses_no_symbol.true in
    (unused_passes file header c.args.at c.args.found no_use, unused file _ c.args.index c.no_symbol.result c.args.found no_use))

pub returns-then-is_thread_local-clause-did : goal.returns-then-is_thread_local-clause-did
returns-then-is_thread_local-clause-did g c =
    CallDid-as 24 (omega arith) (CallDid-none c.args.src.now) (λ file told costs header are same.
    let uses = sym c.uses_no_symbol.ensures ∙ c.if-uses_no_symbol.false in
    let local = sym c.is_thread_local.ensures ∙ c.if-is_thread_local.true in
    let zero = c.if-index-eq0.true in (
      thread_passes file header c.args.at c.args.found uses (sym same ∙ zero) local,
      own_block file _ c.args.index c.no_symbol-then-is_thread_local.result c.args.found local zero,
    ))

pub returns-then-index-eq0-clause-did : goal.returns-then-index-eq0-clause-did
returns-then-index-eq0-clause-did g c =
    rw c.refused.ensures (CallDid-as 24 (omega arith) (CallDid-stop _ (λ budget. cc) (CallDid-none c.args.src.now)) (λ file told costs header are same other.
    let uses = sym c.uses_no_symbol.ensures ∙ c.if-uses_no_symbol.false in
    let local = sym c.is_thread_local.ensures ∙ c.if-is_thread_local.false in
    unnamed_refused file header c.args.at c.args.found uses (sym same ∙ c.if-index-eq0.true) local))

pub returns-clause-did : goal.returns-clause-did
returns-clause-did g c =
    CallDid-as 24 (omega arith) c.read_symbol.ensures (λ file reads costs header are same.
    let uses = sym c.uses_no_symbol.ensures ∙ c.if-uses_no_symbol.false in
    used_reads file header c.args.at c.args.index c.args.found uses c.if-index-eq0.false same c.read_symbol.result (reads header are))

pub returns-then-uses_no_symbol-clause-unused : goal.returns-then-uses_no_symbol-clause-unused
returns-then-uses_no_symbol-clause-unused g c = λ unused. CallReads-none c.args.src.now

pub returns-then-is_thread_local-clause-unused : goal.returns-then-is_thread_local-clause-unused
returns-then-is_thread_local-clause-unused g c = λ unused.
    let uses = sym c.uses_no_symbol.ensures ∙ c.if-uses_no_symbol.false in absurd (cc)

pub returns-then-index-eq0-clause-unused : goal.returns-then-index-eq0-clause-unused
returns-then-index-eq0-clause-unused g c = λ unused.
    let uses = sym c.uses_no_symbol.ensures ∙ c.if-uses_no_symbol.false in absurd (cc)

pub returns-clause-unused : goal.returns-clause-unused
returns-clause-unused g c = λ unused.
    let uses = sym c.uses_no_symbol.ensures ∙ c.if-uses_no_symbol.false in absurd (cc)
