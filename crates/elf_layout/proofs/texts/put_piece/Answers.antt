use Rattle.std.proofs.Common.{◌≡◌, ◌+◌, ◌-◌, ◌++◌, length, take, ap, ap₂, ◌∙◌, arith, rules, length-append, length-take}
use Rattle.std.proofs.lemmas.List.{take_all}
use Rattle.elf_layout.proofs.TextSteps.{all_put, cut_put}
use Rattle.elf_layout.proofs.texts.put_piece.Goals as goal

pub returns-then-end-piece-clause-put : goal.returns-then-end-piece-clause-put
returns-then-end-piece-clause-put c =
    let old = c.args.text.now.items in
    let end = c.lines_end-end.result in
    let ends = c.lines_end-end.ensures.ends old c.requires.within c.requires.short in
    let put : c.extend_from_slice.new.self.items ≡ old ++ take end c.args.piece.now = search rules in
    let all : c.extend_from_slice.new.self.items ≡ old ++ c.args.piece.now = put ∙ ap (λ l. old ++ l) (take_all end c.args.piece.now (omega (arith, c.if-end-piece.true))) in
    let so = all_put old c.args.piece.now c.extend_from_slice.new.self.items end c.lines_end-end.new.line ends c.if-end-piece.true all in
    (all, so.0, so.1)

pub returns-clause-put : goal.returns-clause-put
returns-clause-put c =
    let old = c.args.text.now.items in
    let end = c.lines_end-end.result in
    let ends = c.lines_end-end.ensures.ends old c.requires.within c.requires.short in
    let put : c.extend_from_slice.new.self.items ≡ old ++ take end c.args.piece.now = search rules in
    let size : c.saturating_sub-begun.result ≡ length old + end - 300 =
    omega (arith, c.saturating_sub-begun.ensures, c.len-2.ensures, ap length put, length-append old (take end c.args.piece.now), length-take end c.args.piece.now, c.lines_end-end.ensures.within) in
    cut_put old c.args.piece.now c.truncate.new.self.items end c.lines_end-end.new.line ends (omega (arith, c.lines_end-end.ensures.within, c.if-end-piece.false))
    (c.truncate.ensures.items ∙ ap₂ take size put)
