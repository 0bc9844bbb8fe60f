-- The word of the hash is one of the file's filter, and lacks a bit of it.
use Rattle.std.proofs.Common.{◌≡◌, ℕ, ◌+◌, ◌*◌, ◌/◌, ◌%◌, ◌≤◌, length, take, sym, ap, ◌∙◌, arith, rules}
use Rattle.elf_model.specs.Bytes.{field, slice}
use Rattle.elf_library.proofs.FilterLaws.{not_so, word_excludes, word_kept}
use Rattle.elf_library.proofs.kept_filter.KeptFilter.excludes.Goals as goal

pub returns : goal.returns
returns c = λ so.
    let i = c.self.inside in
    let at = 8 * (c.args.hash / 64 % i.count) in
    let within : at + 8 ≤ i.held = omega (arith, c.if-at-self.false) in
    let size : length i.bytes ≡ 4096 = search rules in
    let most : i.held ≤ length i.bytes = omega (arith, size, c.self.invariant.0) in
    let len : length (take i.held i.bytes) ≡ i.held = search rules in
    rw (← c.self.view_is)
    (record {
      some = omega (arith, len, within);
      known = λ file place has.
          word_excludes file place _ c.args.hash c.u64_at.result has
          (c.u64_at.ensures ∙ word_kept file i.bytes i.held (place.at + 16) at most within (has.words ∙ ap (slice file (place.at + 16)) len) ∙ ap (λ (p : ℕ). field file p 8) (omega arith))
          (sym c.may_contain.ensures ∙ not_so c.may_contain.result so);
    })
