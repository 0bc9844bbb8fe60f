-- Outside of the file there is no text, and else the bytes before the NUL are it.
use Rattle.std.proofs.Common.{◌≡◌, ℕ, ◌+◌, ◌≤◌, ap, subst, ◌∙◌, arith, refl}
use Rattle.elf_model.specs.Prelude.{NulFound, slice}
use Rattle.elf_library.proofs.CacheTextLaws.{text-outside, text-searched}
use Rattle.elf_table.specs.Windows.{WindowState}
use Rattle.elf_table.proofs.LedgerLaws.{CallDid-as, CallDid-none, CallDid-of, CallDid-sized}
use Rattle.elf_library.proofs.cache_entries.read_text.Goals as goal

pub returns-then-off-size-clause-did : goal.returns-then-off-size-clause-did
returns-then-off-size-clause-did g c =
    CallDid-as 4096 (omega arith) (CallDid-sized (CallDid-none c.args.src.now))
    (λ file told costs. text-outside file c.args.cache.now c.args.off (omega (arith, told.0, c.length-size.ensures.value, c.if-off-size.true, c.strings.ensures, c.from-off.ensures, c.requires.bounds.strings)))

pub returns-clause-did : goal.returns-clause-did
returns-clause-did g c =
    let place : c.new-window.result.at ≡ c.args.cache.now.strings + c.args.off =
    ap (λ (w : WindowState). w.at) c.new-window.ensures ∙ omega (arith, c.strings-2.ensures, c.from-off.ensures) in
    let want : c.new-window.result.unread ≤ 4096 = omega (arith, ap (λ (w : WindowState). w.unread) c.new-window.ensures, c.min-want.ensures) in
    CallDid-as 4096 want
    (CallDid-sized (CallDid-of c.in_ok-search_name.ensures.reads.went.reads tt (λ file held. c.in_ok-search_name.ensures.searched file held (rw c.new-window.ensures refl))))
    (λ file told costs.
    text-searched file c.search_name.new.name c.args.cache.now c.args.off c.min-want.result c.in_ok-search_name.field-0
    (omega (arith, told.0, c.length-size.ensures.value, c.if-off-size.false, c.strings.ensures, c.from-off.ensures))
    (omega (arith, told.0, c.length-size.ensures.value, c.strings-2.ensures, c.from-off.ensures, c.min-want.ensures))
    (subst (λ (at : ℕ). NulFound (slice file at c.min-want.result) 4096 c.in_ok-search_name.field-0 c.search_name.new.name) place told.1))
