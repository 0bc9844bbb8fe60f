-- What is appended is the name, the sign and the version.
use Rattle.std.proofs.Common.{sym, subst, arith}
use Rattle.elf_resolve.specs.StringBuffers.{HoldsText, TableTexts}
use Rattle.elf_resolve.proofs.StringBufferLaws.{joined}
use Rattle.elf_resolve.proofs.string_buffer.StringBuffer.join.Goals as goal

pub returns-clause-joins : goal.returns-clause-joins
returns-clause-joins c = λ first second f s.
    let one = subst (λ (o : TableTexts). HoldsText o.bytes c.args.name first) (sym c.self.view_is) f in
    let two = subst (λ (o : TableTexts). HoldsText o.bytes c.args.version second) (sym c.self.view_is) s in
    joined c.args.self.now c.self.inside.bytes.items c.append_part.new.bytes.items c.append_sign.new.bytes.items c.append_part-2.new.bytes.items first second c.args.name c.args.version
    c.self.inside.most c.len-start.result c.saturating_add-size.result c.self.view_is one two (omega (arith, c.self.inside.bytes.ok.0)) (omega (arith, one.within, two.within)) (omega arith)
    (c.append_part.ensures.appends first) c.append_sign.ensures.appends (c.append_part-2.ensures.appends second)
