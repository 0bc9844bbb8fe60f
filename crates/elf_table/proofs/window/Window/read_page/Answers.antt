use Rattle.std.proofs.Common.{◌≡◌, ◌+◌, ◌≤◌, length, take, ap, sym, ◌∙◌, arith, rules}
use Rattle.std.proofs.lemmas.Slice.{take-put_mid}
use Rattle.elf_model.specs.Bytes.{slice}
use Rattle.elf_model.proofs.Slices.{slice-size}
use Rattle.elf_table.specs.Windows.{frontier}
use Rattle.elf_table.proofs.LoadLaws.{fills_onward}
use Rattle.elf_table.proofs.Paging.{joined}
use Rattle.elf_table.proofs.window.Window.read_page.Goals as goal

pub returns-clause-went : goal.returns-clause-went
returns-clause-went g c =
    let i = c.self.inside in
    let n = c.min-size.result in
    let size = c.min-size.ensures in
    let inv = c.self.invariant in
    let told = c.self.told in
    let whole : length (slice i.bytes i.from i.held) ≡ i.held = slice-size i.bytes i.from i.held (omega (arith, told)) in
    let was = ap frontier c.self.view_is in
    record {
      reads = search rules;
      says = tt;
      moves = search rules;
      onward = fills_onward _ _ _ (i.at + i.held) _ _ _ c.fill.result c.fill.ensures.once (omega (arith, was, whole)) (search (rules, c.fill.auto.out));
      agrees = λ file h a.
          let held : slice i.bytes i.from i.held ≡ slice file i.at i.held = (rw (← c.self.view_is) at a) ∙ ap (slice file i.at) whole in
          let out : length c.fill.new.out ≡ n = search (rules, c.fill.auto.out) in
          let room : i.held ≤ length c.gather.new.bytes = search (rules, c.gather.auto.bytes) in
          joined file _ (take i.held c.gather.new.bytes) c.fill.new.out i.at i.held n (take-put_mid i.held _ c.gather.new.bytes c.fill.new.out (i.held + n) (omega arith) room)
          (ap length c.gather.ensures ∙ whole) (c.gather.ensures ∙ held)
          (c.in_default.ensures.read file h ∙ ap (slice file (i.at + i.held)) (sym c.fill.auto.out ∙ out)) out;
    }

pub returns-in-Err-clause-went : goal.returns-in-Err-clause-went
returns-in-Err-clause-went g c =
    let i = c.self.inside in
    let told = c.self.told in
    let inv = c.self.invariant in
    let whole : length (slice i.bytes i.from i.held) ≡ i.held = slice-size i.bytes i.from i.held (omega (arith, told)) in
    let was = ap frontier c.self.view_is in
    record {
      reads = search rules;
      says = search rules;
      moves = search rules;
      onward = fills_onward _ _ _ (i.at + i.held) _ _ _ c.fill.result c.fill.ensures.once (omega (arith, was, whole)) (search (rules, c.fill.auto.out));
      agrees = λ file h a. search rules;
    }
