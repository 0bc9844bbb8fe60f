use Rattle.std.proofs.Common.{List, ℕ, refl, ap, ◌∙◌, set, subst, arith, get_or}
use Rattle.elf_resolve.specs.KeyChains.{AddsNumber, ChainTable, LIST_END}
use Rattle.elf_resolve.proofs.ChainLaws.{number_added}
use Rattle.elf_resolve.proofs.key_chains.KeyChains.add.Goals as goal

pub returns : goal.returns
returns c =
    let heads = c.reach.new.elements.items in
    let nexts = c.reach-2.new.elements.items in
    let key = c.args.key in
    let number = c.args.number in
    let inside = c.self.inside in
    let first = c.read-first.ensures ∙ ap (λ (l : List ℕ). get_or l key LIST_END) c.deref.ensures.value in
    let new : ChainTable = record { heads = c.put-2.new.elements.items; nexts = c.put.new.elements.items; keys = inside.keys; numbers = inside.numbers } in
    subst (λ (old : ChainTable). AddsNumber old new key number) c.self.view_is
    (number_added (record { heads = inside.heads.items; nexts = inside.nexts.items; keys = inside.keys; numbers = inside.numbers }) new heads nexts key number
    (omega arith) refl refl c.reach.ensures.same c.reach.ensures.there c.reach-2.ensures.same c.reach-2.ensures.there
    c.put-2.ensures.items (c.put.ensures.items ∙ ap (set nexts number) first))
