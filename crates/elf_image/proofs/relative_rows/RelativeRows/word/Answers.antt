use Rattle.std.proofs.Common.{◌≡◌, ◌∙◌, ◌∷◌, [], None, Some, ap, sym, refl, arith}
use Rattle.elf_model.specs.Image.{word_addresses}
use Rattle.elf_model.specs.Prelude.{field}
use Rattle.elf_table.specs.Cursors.{row_at}
use Rattle.elf_image.specs.RelativeRows.{word_left}
use Rattle.elf_image.proofs.RelativeSteps.{addresses-bits, addresses-even, addresses-none, no-bits, none-if, some-at, some-if, takes-as}
use Rattle.elf_image.proofs.relative_rows.RelativeRows.word.Goals as goal

pub returns-then-word-eq0-clause-takes : goal.returns-then-word-eq0-clause-takes
returns-then-word-eq0-clause-takes c = λ index is.
    let old = c.args.self.now in
    let new = c.row.new.self in
    let its : c.row-row.result.index ≡ index = omega (arith, c.row-row.ensures.its_index, is) in
    let at : row_at old.cursor.table index ≡ c.row-row.result.at = sym (c.row-row.ensures.its_offset ∙ ap (row_at old.cursor.table) its) in
    let word : field old.cursor.row 0 8 ≡ c.u64_at-word.result = sym (c.u64_at-word.ensures ∙ ap (λ xs. field xs 0 8) c.row-row.ensures.its_bytes) in
    let none = no-bits new.at _ new.bits new.left (c.row.ensures.left ∙ c.requires.left) in
    takes-as _ _ _ (record { word_at = c.row-row.result.at; address = Some c.u64_at-word.result } ∷ word_left new) (word_left new) c.row.result
    (ap (λ a. word_addresses a old.next (field old.cursor.row 0 8)) at ∙ (ap (word_addresses c.row-row.result.at old.next) word ∙ (addresses-even c.row-row.result.at old.next c.u64_at-word.result c.if-word-eq0.true ∙ ap (λ xs. record { word_at = c.row-row.result.at; address = Some c.u64_at-word.result } ∷ xs) (sym none))))
    (takes-as _ _ _ _ (word_left new) c.row.result (ap (λ x. record { word_at = c.row-row.result.at; address = Some x } ∷ word_left new) (sym c.from-then-word-eq0.ensures)) (c.row.ensures.takes (word_left new)))

pub returns-then-is_none-clause-takes : goal.returns-then-is_none-clause-takes
returns-then-is_none-clause-takes c = λ index is.
    let old = c.args.self.now in
    let its : c.row-row.result.index ≡ index = omega (arith, c.row-row.ensures.its_index, is) in
    let at : row_at old.cursor.table index ≡ c.row-row.result.at = sym (c.row-row.ensures.its_offset ∙ ap (row_at old.cursor.table) its) in
    let word : field old.cursor.row 0 8 ≡ c.u64_at-word.result = sym (c.u64_at-word.ensures ∙ ap (λ xs. field xs 0 8) c.row-row.ensures.its_bytes) in
    let none = none-if old.next c.is_none.result c.is_none.ensures c.if-is_none.true in
    rw c.refused.ensures (λ fits. (None, [], ap (λ a. word_addresses a old.next (field old.cursor.row 0 8)) at ∙ (ap (word_addresses c.row-row.result.at old.next) word ∙ addresses-none c.row-row.result.at old.next c.u64_at-word.result c.if-word-eq0.false none), refl, tt))

pub returns-clause-takes : goal.returns-clause-takes
returns-clause-takes c = λ index is.
    let old = c.args.self.now in
    let its : c.row-row.result.index ≡ index = omega (arith, c.row-row.ensures.its_index, is) in
    let at : row_at old.cursor.table index ≡ c.row-row.result.at = sym (c.row-row.ensures.its_offset ∙ ap (row_at old.cursor.table) its) in
    let word : field old.cursor.row 0 8 ≡ c.u64_at-word.result = sym (c.u64_at-word.ensures ∙ ap (λ xs. field xs 0 8) c.row-row.ensures.its_bytes) in
    let some = some-if old.next c.is_none.result c.is_none.ensures c.if-is_none.false in
    (ap (λ a. word_addresses a old.next (field old.cursor.row 0 8)) at ∙ (ap (word_addresses c.row-row.result.at old.next) word ∙ addresses-bits c.row-row.result.at old.next c.u64_at-word.result c.if-word-eq0.false some), refl)

pub returns-clause-based : goal.returns-clause-based
returns-clause-based c = λ some. some-at c.args.self.now.next (some-if c.args.self.now.next c.is_none.result c.is_none.ensures c.if-is_none.false)
