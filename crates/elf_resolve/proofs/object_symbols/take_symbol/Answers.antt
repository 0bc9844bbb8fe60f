-- A symbol with its name is taken, or is none.
use Rattle.std.proofs.Common.{sym, ◌∙◌}
use Rattle.std.proofs.lemmas.Result.{err_from_is_err_and}
use Rattle.elf_model.specs.LinkArchives.{refusal_of}
use Rattle.elf_model.specs.LinkSymbols.{link_symbol_at, version_sign_in, with_one_sign}
use Rattle.elf_resolve.specs.ObjectSymbols.{default_by}
use Rattle.elf_resolve.proofs.LinkFaultLaws.{fault_of_any}
use Rattle.elf_resolve.proofs.ObjectSymbolLaws.{lto_refused, took_one, unnamed_none}
use Rattle.elf_resolve.proofs.object_symbols.take_symbol.Goals as goal

pub returns-then-is_lto_mark-clause-takes : goal.returns-then-is_lto_mark-clause-takes
returns-then-is_lto_mark-clause-takes c = λ file table_at at dropped h.
    lto_refused file c.args.strings.now.bytes table_at at c.args.row dropped c.args.named c.args.keys.now c.args.keys.now c.bytes.result.now c.refused.result h
    (c.bytes.ensures h.name h.holds) (sym c.is_lto_mark.ensures ∙ c.if-is_lto_mark.true) c.refused.ensures

pub returns-then-name-eq0-clause-takes : goal.returns-then-name-eq0-clause-takes
returns-then-name-eq0-clause-takes c = λ file table_at at dropped h.
    unnamed_none file c.args.strings.now.bytes table_at at c.args.row dropped c.args.named c.args.keys.now c.bytes.result.now h
    (c.bytes.ensures h.name h.holds) (sym c.is_lto_mark.ensures ∙ c.if-is_lto_mark.false) c.if-name-eq0.true

pub returns-in_err-name-clause-takes : goal.returns-in_err-name-clause-takes
returns-in_err-name-clause-takes c = λ file table_at at dropped h.
    let p = err_from_is_err_and c.from_residual.result c.from_residual.ensures.1 in
    rw (p.1, p.2) (fault_of_any (refusal_of (link_symbol_at file table_at at)) c.in_err-name.field-0.0 (c.in_err-name.ensures.names h.name h.holds))

pub returns-clause-takes : goal.returns-clause-takes
returns-clause-takes c = λ file table_at at dropped h.
    let names = c.in_ok-name.ensures.names h.name h.holds in
    took_one file c.args.strings.now.bytes table_at at c.args.row dropped c.args.named c.args.keys.now c.take_names.new.keys c.bytes.result.now h
    (c.bytes.ensures h.name h.holds) (sym c.is_lto_mark.ensures ∙ c.if-is_lto_mark.false) c.if-name-eq0.false
    (c.in_default.ensures (with_one_sign h.name (version_sign_in h.name)) (default_by c.args.named.symbol.role h.name) names.0 names.1)
