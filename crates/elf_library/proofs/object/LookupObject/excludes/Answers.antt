-- The table is ready, and the words that are kept exclude the hash.
use Rattle.std.proofs.Common.{sym, ◌∙◌}
use Rattle.elf_library.proofs.FilterLaws.{excludes_if}
use Rattle.elf_library.proofs.object.LookupObject.excludes.Goals as goal

pub returns-in-Some : goal.returns-in-Some
returns-in-Some g c = λ so wanted is_hash.
    let i = c.self.inside in
    rw (← c.self.view_is)
    (excludes_if i.source i.headers i.scope i.ready i.filter wanted c.in-Some.hash (sym c.is_some.ensures ∙ c.if-is_some.true) c.self.invariant.0 c.self.invariant.2 (c.excludes.ensures so) (rw c.in-Some.is at is_hash))
