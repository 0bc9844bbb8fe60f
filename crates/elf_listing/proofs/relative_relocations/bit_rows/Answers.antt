-- Each bit is shown after those before it.
use Rattle.std.proofs.Common.{◌≡◌, ℕ, List, refl, arith}
use Rattle.std.proofs.lemmas.Result.{err_from_is_err_and}
use Rattle.elf_options.specs.Prelude.{style_of}
use Rattle.elf_options.specs.declared.caps.ListingStyle.{ListingStyle}
use Rattle.elf_model.specs.Prelude.{ListingItem, bit_row}
use Rattle.elf_listing.specs.declared.relative_relocations.RelrWord.{RelrWord}
use Rattle.elf_listing.proofs.ListsLaws.{ListingCalls-nothing}
use Rattle.elf_listing.proofs.LoopLaws.{rows_none}
use Rattle.elf_listing.proofs.RelativeShown.{bits_stopped, bits_then}
use Rattle.elf_listing.proofs.relative_relocations.bit_rows.Goals as goal

abbrev shown : RelrWord → ℕ → ListingStyle → List ℕ → ℕ → List ListingItem
shown word base style file bit = bit_row file (style_of style) word.section word.at base word.word bit

pub bits-init : goal.bits-init
bits-init g c = record {
  below = omega arith;
  so_far = ListingCalls-nothing _ _ _ _ (λ file held. rows_none _ _ _ refl);
}

pub returns-in_err-bit_row : goal.returns-in_err-bit_row
returns-in_err-bit_row g c =
    let p = err_from_is_err_and c.from_residual.result c.from_residual.ensures.1 in
    let known = c.bits.invariant in
    rw (p.1, p.2)
    (bits_stopped (shown c.args.word.now c.args.base) c.bits.bit 63 (omega (arith, c.bits-test.true))
    (bits_then (shown c.args.word.now c.args.base) c.bits.bit known.so_far c.in_err-bit_row.ensures))

pub bits-preserved : goal.bits-preserved
bits-preserved g c =
    let known = c.bits.invariant in
    record {
      below = omega (arith, c.bits-test.true);
      so_far = bits_then (shown c.args.word.now c.args.base) c.bits.bit known.so_far c.in_ok-bit_row.ensures;
    }

pub returns : goal.returns
returns g c =
    let known = c.bits.invariant in
    let all : c.bits.bit ≡ 63 = omega (arith, c.bits-test.false, known.below) in
    rw all at known.so_far

pub bit_row-requires-clause-format : goal.bit_row-requires-clause-format
bit_row-requires-clause-format g c = rw c.bits.invariant.so_far.keeps.same_style c.requires.format

pub bit_row-requires-clause-rows : goal.bit_row-requires-clause-rows
bit_row-requires-clause-rows g c = rw c.bits.invariant.so_far.keeps.same_style c.requires.rows
