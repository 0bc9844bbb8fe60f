-- The header where the file has it, and by its magic.
use Rattle.std.proofs.Common.{◌+◌, ◌*◌, length, drop, length-take, length-drop, sym, ap, ◌∙◌, arith}
use Rattle.elf_library.proofs.CacheLaws.{no-old-header, old-none, old-some}
use Rattle.elf_table.proofs.LedgerLaws.{CallDid-as, CallDid-none, CallDid-of, CallDid-sized}
use Rattle.elf_library.proofs.cache_table.old_table.Goals as goal

pub returns-then-length-clause-did : goal.returns-then-length-clause-did
returns-then-length-clause-did g c =
    CallDid-as 16 (omega arith) (CallDid-sized (CallDid-none c.args.src.now))
    (λ file told costs. sym (no-old-header file (omega (arith, told.0, c.length.ensures.value, c.if-length.true))))

pub returns-then-not-starts_with-clause-did : goal.returns-then-not-starts_with-clause-did
returns-then-not-starts_with-clause-did g c =
    CallDid-as 16 (omega arith) (CallDid-sized (CallDid-of c.in_ok-fill.ensures.reads tt (λ file held. c.in_ok-fill.ensures.read file held)))
    (λ file told costs.
    sym (old-none file c.fill.new.out told.1 (ap length told.1 ∙ omega (arith, length-take 16 (drop 0 file), length-drop 0 file, told.0, c.length.ensures.value, c.if-length.false))
    (sym c.starts_with.ensures.value ∙ c.if-not-starts_with.true)))

pub returns-clause-did : goal.returns-clause-did
returns-clause-did g c =
    CallDid-as 16 (omega arith) (CallDid-sized (CallDid-of c.in_ok-fill.ensures.reads tt (λ file held. c.in_ok-fill.ensures.read file held)))
    (λ file told costs.
    sym (old-some file c.fill.new.out c.u32_at-count.result (16 + 12 * c.from.result) told.1 (ap length told.1 ∙ omega (arith, length-take 16 (drop 0 file), length-drop 0 file, told.0, c.length.ensures.value, c.if-length.false))
    (sym c.starts_with.ensures.value ∙ c.if-not-starts_with.false) c.u32_at-count.ensures (omega (arith, c.from.ensures))))
