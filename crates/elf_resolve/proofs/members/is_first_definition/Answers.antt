-- The first symbol of a name is at an index, or after it.
use Rattle.std.proofs.Common.{sym, ◌∙◌, arith}
use Rattle.elf_model.specs.LinkPasses.{index_name}
use Rattle.elf_resolve.proofs.ObjectNameLaws.{defines_found, defines_more, defines_none}
use Rattle.elf_resolve.proofs.members.is_first_definition.Goals as goal

pub returns-in-Some : goal.returns-in-Some
returns-in-Some c = λ file table_at held.
    let name = index_name c.args.keys.now.keys c.args.entry in
    let s = c.args.symbols in
    defines_found file table_at c.loop-index.index s.count name c.in-Some.found c.loop-index-test.true (c.in-Some.ensures file table_at held c.loop-index-test.true) ∙ sym (c.loop-index.invariant file table_at held)

pub loop-index-preserved : goal.loop-index-preserved
loop-index-preserved c = λ file table_at held.
    let name = index_name c.args.keys.now.keys c.args.entry in
    let s = c.args.symbols in
    c.loop-index.invariant file table_at held ∙ defines_more file table_at c.loop-index.index s.count name c.loop-index-test.true (c.in_default.ensures file table_at held c.loop-index-test.true)

pub returns : goal.returns
returns c = λ file table_at held.
    let name = index_name c.args.keys.now.keys c.args.entry in
    defines_none file table_at c.loop-index.index c.args.symbols.count name (omega arith) ∙ sym (c.loop-index.invariant file table_at held)
