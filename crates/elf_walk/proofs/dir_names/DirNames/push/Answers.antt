use Rattle.std.proofs.Common.{rules, ◌≡◌, ◌++◌, ◌∷◌, [], length}
use Rattle.elf_walk.proofs.HeldLaws.{one_more}
use Rattle.elf_walk.proofs.dir_names.DirNames.push.Goals as goal

pub returns-clause-pushed : goal.returns-clause-pushed
returns-clause-pushed c =
    let items : c.push.new.self.items ≡ c.self.inside.places.items ++ record { start = c.in-Ok-Ok.start; len = c.in-Ok-Ok.len } ∷ [] = search rules in
    let bytes : c.extend_from_slice.new.self.items ≡ c.self.inside.bytes.items ++ c.args.name.now = search rules in
    let begins : c.in-Ok-Ok.start ≡ length c.self.inside.bytes.items = search rules in
    let ends : c.in-Ok-Ok.len ≡ length c.args.name.now = search rules in
    rw (items, bytes, ← c.self.view_is)
    (one_more (λ p. p.start) (λ p. p.len) c.self.inside.places.items (record { start = c.in-Ok-Ok.start; len = c.in-Ok-Ok.len }) c.self.inside.bytes.items c.args.name.now c.self.invariant.0 begins ends)
