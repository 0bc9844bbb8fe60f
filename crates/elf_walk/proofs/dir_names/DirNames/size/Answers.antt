-- Names take as many bytes as lie there.
use Rattle.std.proofs.Common.{rules, ◌≡◌, ◌∙◌, sym, length}
use Rattle.elf_walk.proofs.RoomLaws.{held_is}
use Rattle.elf_walk.proofs.dir_names.DirNames.size.Goals as goal

pub returns : goal.returns
returns c =
    let is : c.len.result ≡ length c.self.inside.bytes.items = search rules in
    let held = held_is (λ p. p.start) (λ p. p.len) c.self.inside.places.items c.self.inside.bytes.items c.self.invariant.0 in
    rw (← c.self.view_is) (is ∙ sym (held ∙ c.self.invariant.1))
