-- The record names its version index if none has.
use Rattle.std.proofs.Common.{◌≡◌, length, sym, ap, ◌∙◌, arith, rules}
use Rattle.std.proofs.lemmas.List.{length-set}
use Rattle.elf_model.specs.Versions.{number_in, number_word}
use Rattle.elf_note.proofs.NameTables.{take-new, take-old}
use Rattle.elf_note.proofs.version_names.VersionNames.take.Goals as goal

pub returns-then-eq-clause-names : goal.returns-then-eq-clause-names
returns-then-eq-clause-names c = rw (← c.self.view_is) (λ file records met is before.
    let own = c.from-number.result in
    let number : number_in (number_word file met) ≡ own = ap number_in (sym is.number) ∙ sym (c.from-number.ensures ∙ c.version_number.ensures) in
    rw c.put_place.ensures
    (take-new file records met c.self.inside.names c.args.places.now own c.args.given.now.named_at c.names.result
    (omega (arith, c.requires, c.self.invariant, c.from-number.ensures, c.version_number.ensures)) number (search rules) (c.names.ensures file met is) is.named_at before))

pub returns-then-eq-clause-count : goal.returns-then-eq-clause-count
returns-then-eq-clause-count c = ap length c.put_place.ensures ∙ length-set _ _ _

pub returns-else-eq-clause-names : goal.returns-else-eq-clause-names
returns-else-eq-clause-names c = rw (← c.self.view_is) (λ file records met is before.
    let own = c.from-number.result in
    let number : number_in (number_word file met) ≡ own = ap number_in (sym is.number) ∙ sym (c.from-number.ensures ∙ c.version_number.ensures) in
    take-old file records met c.self.inside.names c.args.places.now own number (search rules) before)
