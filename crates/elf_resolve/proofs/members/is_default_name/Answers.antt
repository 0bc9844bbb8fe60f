-- A text is a name of a default version, part by part.
use Rattle.std.proofs.Common.{◌∷◌, length, drop, refl, sym, ap, ◌∙◌}
use Rattle.std.specs.Prelude.{◌&&◌, bytes_eq}
use Rattle.elf_resolve.proofs.ObjectNameLaws.{default_eq}
use Rattle.elf_resolve.proofs.members.is_default_name.Goals as goal

pub returns-then-eq : goal.returns-then-eq
returns-then-eq c =
    let front = c.in-Some.front.now in
    let rest = c.in-Some.rest.now in
    let tail = c.after.result.now in
    c.is_sign_and.ensures ∙ ap (λ b. b && bytes_eq rest (64 ∷ tail)) (sym (sym c.eq.ensures ∙ c.if-eq.true))
    ∙ sym (default_eq c.args.text.now c.args.name.now c.args.default.now front rest tail c.in-Some.ensures.cases.1 c.in-Some.ensures.cases.2 c.after.ensures)

pub returns-else-eq : goal.returns-else-eq
returns-else-eq c =
    let front = c.in-Some.front.now in
    let rest = c.in-Some.rest.now in
    c.if-eq.false ∙ ap (λ b. b && bytes_eq rest (64 ∷ drop (length c.args.default.now) c.args.name.now)) (sym (sym c.eq.ensures ∙ c.if-eq.false))
    ∙ sym (default_eq c.args.text.now c.args.name.now c.args.default.now front rest (drop (length c.args.default.now) c.args.name.now) c.in-Some.ensures.cases.1 c.in-Some.ensures.cases.2 refl)
