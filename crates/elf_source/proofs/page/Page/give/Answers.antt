-- What is copied is within what is held, and so in the file.
use Rattle.std.proofs.Common.{◌≡◌, ◌+◌, ◌-◌, ◌≤◌, ℕ, List, length, take, sym, ap, ◌∙◌, arith, rules}
use Rattle.elf_model.specs.Bytes.{slice}
use Rattle.elf_model.proofs.Slices.{slice-slice}
use Rattle.elf_source.proofs.page.Page.give.Goals as goal

pub returns : goal.returns
returns c = λ file held.
    let i = c.self.inside in
    let n = length c.args.out.now in
    let from = c.args.at - i.at in
    let low : i.at ≤ c.args.at = omega (arith, c.if-at-self.false) in
    let within : from + n ≤ i.held = omega (arith, c.if-from-self.false, c.if-out-self.false) in
    let zero : 0 + from ≡ from = omega arith in
    let here : slice (take i.held i.bytes) from n ≡ slice i.bytes from n = slice-slice i.bytes 0 i.held from n within ∙ ap (λ (f : ℕ). slice i.bytes f n) zero in
    let len : length (take i.held i.bytes) ≡ i.held = search rules in
    let there : slice (slice file i.at (length (take i.held i.bytes))) from n ≡ slice file (i.at + from) n = slice-slice file i.at _ from n (omega (arith, within, len)) in
    let at : i.at + from ≡ c.args.at = omega (arith, low) in
    let is : take i.held i.bytes ≡ slice file i.at (length (take i.held i.bytes)) = (rw (← c.self.view_is) at held) in
    let copied : c.copy_from_slice.new.self ≡ slice i.bytes from n =
    c.copy_from_slice.ensures.after ∙ ap (λ (m : ℕ). slice i.bytes from m) (omega arith) in
    copied ∙ sym here ∙ ap (λ (b : List ℕ). slice b from n) is ∙ there ∙ ap (λ (f : ℕ). slice file f n) at
