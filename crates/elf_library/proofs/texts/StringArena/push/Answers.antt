use Rattle.std.proofs.Common.{rules, ◌≡◌, ◌++◌, ◌∷◌, [], length, arith, length-append}
use Rattle.elf_library.specs.declared.texts.TextSpan.{TextSpan}
use Rattle.elf_library.proofs.TextLaws.{held_as, one_more}
use Rattle.elf_library.proofs.texts.StringArena.push.Goals as goal

pub returns-clause-pushed : goal.returns-clause-pushed
returns-clause-pushed c =
    let bytes = c.self.inside.bytes.items in
    let places = c.self.inside.places.items in
    let place : TextSpan = record { start = c.len-start.result; len = c.in-Ok.len } in
    let items : c.push.new.self.items ≡ places ++ place ∷ [] = search rules in
    let text : c.extend_from_slice.new.self.items ≡ bytes ++ c.args.text.now = search rules in
    let begins : c.len-start.result ≡ length bytes = search rules in
    let ends : c.in-Ok.len ≡ length c.args.text.now = search rules in
    let left = length-append bytes c.args.text.now in
    let fewer = length-append places (place ∷ []) in
    rw (items, text, ← c.self.view_is)
    (held_as (one_more (λ p. p.start) (λ p. p.len) places place bytes c.args.text.now c.self.invariant.0 begins ends) (omega (arith, left)) (omega (arith, fewer)))
