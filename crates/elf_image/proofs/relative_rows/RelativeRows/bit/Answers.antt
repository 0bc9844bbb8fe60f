use Rattle.std.proofs.Common.{◌∙◌, ◌+◌, ◌-◌, ◌/◌, ◌∷◌, Some, ap, sym, refl, arith}
use Rattle.elf_image.specs.RelativeRows.{bits_left, word_left}
use Rattle.elf_image.proofs.RelativeSteps.{bits-set, bits-unset, left-as, takes-as}
use Rattle.elf_image.proofs.relative_rows.RelativeRows.bit.Goals as goal

pub returns-then-is_set-clause-takes : goal.returns-then-is_set-clause-takes
returns-then-is_set-clause-takes c =
    let old = c.args.self.now in
    let new = c.row.new.self in
    let a = c.unwrap_or-address.result in
    let first = ap (λ x. bits_left old.at x old.bits old.left) (sym c.unwrap_or-address.ensures) in
    let next = bits-set old.at a old.bits old.left (old.left - 1) (omega arith) (omega arith) in
    let same = c.row.ensures.same in
    let after = left-as new old.at (a + 8) (old.bits / 2) (old.left - 1) same.1 c.row.ensures.next same.0 c.row.ensures.left in
    takes-as _ _ (word_left old) (record { word_at = old.at; address = Some a } ∷ word_left new) (word_left new) c.row.result (first ∙ (next ∙ ap (λ xs. record { word_at = old.at; address = Some a } ∷ xs) after))
    (c.row.ensures.takes (word_left new))

pub returns-clause-takes : goal.returns-clause-takes
returns-clause-takes c =
    let old = c.args.self.now in
    let first = ap (λ x. bits_left old.at x old.bits old.left) (sym c.unwrap_or-address.ensures) in
    (first ∙ bits-unset old.at c.unwrap_or-address.result old.bits old.left (old.left - 1) (omega arith) (λ one. omega (arith, one)), refl)
