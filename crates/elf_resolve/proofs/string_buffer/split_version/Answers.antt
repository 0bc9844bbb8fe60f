-- A name is split at the signs before its default version.
use Rattle.std.proofs.Common.{◌≡◌, true, false, sym, ◌∙◌, arith}
use Rattle.std.proofs.lemmas.Bool.Decides.{nat_tests}
use Rattle.elf_model.specs.LinkSymbols.{is_default_at}
use Rattle.elf_resolve.proofs.StringBufferLaws.{no_default, split_name}
use Rattle.elf_resolve.proofs.string_buffer.split_version.Goals as goal
use Rattle.elf_resolve.proofs.string_buffer.split_version.Goals.{then-place-eq0-via-then-place-eq0, then-place-eq0-via-else-place-eq0+then-not-is_sign_after}

pub returns-then-place-eq0 : goal.returns-then-place-eq0
returns-then-place-eq0 c =
    let bytes = c.args.bytes.now in
    let none : is_default_at bytes c.in_ok-place.place ≡ false = elim c.then-place-eq0.branch [
      | then-place-eq0-via-then-place-eq0 w ↦ grind (arith, nat_tests)
      | then-place-eq0-via-else-place-eq0+then-not-is_sign_after w ↦ grind (arith, nat_tests, sym w.is_sign_after.ensures.is ∙ w.if-not-is_sign_after.true)
    ] in
    no_default bytes c.in_ok-place.place c.in_ok-place.ensures none

pub returns : goal.returns
returns c =
    let default : is_default_at c.args.bytes.now c.in_ok-place.place ≡ true = grind (arith, nat_tests, sym c.is_sign_after.ensures.is ∙ c.if-not-is_sign_after.false) in
    split_name c.args.bytes.now c.args.name c.in_ok-place.place c.saturating_add.result c.saturating_sub.result c.in_ok-place.ensures default (omega arith) (omega arith)
