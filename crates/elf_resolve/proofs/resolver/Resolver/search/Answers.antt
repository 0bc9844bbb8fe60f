use Rattle.std.proofs.Common.{◌≡◌, length, refl, arith}
use Rattle.std.specs.Vec.{with_items}
use Rattle.std.proofs.lemmas.List.{with_items_is}
use Rattle.elf_resolve.proofs.TakenMemberLaws.{on_ok, search_has, search_makes}
use Rattle.elf_resolve.proofs.StopMemberLaws.{ok_leaves, search_ends_as}
use Rattle.elf_resolve.proofs.NamedRowLaws.{archive_has, names_searched}
use Rattle.elf_resolve.proofs.resolver.Resolver.search.Goals as goal

pub returns-in-Ok-clause-searches : goal.returns-in-Ok-clause-searches
returns-in-Ok-clause-searches g c = λ files file is found file_is known.
    let after = c.search_members-found.new.taken in
    let count : length after ≡ c.args.self.now.taken.len = omega (arith, c.search_members-found.auto.taken, c.deref_mut.ensures.len) in
    let new = record c.args.self.now { link = c.search_members-found.new.link; taken = with_items c.args.self.now.taken after; room = c.search_members-found.new.room } in
    let made = search_makes files file c.args.self.now new c.args.archive c.deref_mut.result.now after is found file_is c.deref_mut.ensures.value (with_items_is c.args.self.now.taken after count) refl
    c.search_members-found.ensures.outside (λ has fits entries_fit. on_ok _ _ _ c.in-Ok.is (c.search_members-found.ensures.searches file known has fits entries_fit)) in
    let has = search_has files file c.args.self.now c.args.archive is found file_is in
    let limits = on_ok _ _ _ c.in-Ok.is (c.search_members-found.ensures.limits file known has) in
    record { makes = made.0; headers = c.search_members-found.ensures.headers; libraries = refl; tables = refl; states = refl; groups = refl; count = made.1; lists = record { offers = refl; further = refl; spare = refl; kinds = refl; problems = refl; most_rows = c.search_members-found.ensures.room }; limits = limits }

pub returns-in-Ok-clause-leaves : goal.returns-in-Ok-clause-leaves
returns-in-Ok-clause-leaves g c = λ files file is found file_is known none.
    let end = c.search_members-found.result in
    let new = c.search_members-found.new in
    ok_leaves files file c.args.archive.input _ new.link.rows.rows _ end.fault end.asked end.ended c.in-Ok.is file_is none
    (search_ends_as files file c.args.self.now c.args.archive c.deref_mut.result.now new.link.rows.rows end.fault end.asked end.ended is found file_is c.deref_mut.ensures.value
    (λ has fits entries_fit. c.search_members-found.ensures.stops file known has fits entries_fit))

pub returns-in-Err-clause-leaves : goal.returns-in-Err-clause-leaves
returns-in-Err-clause-leaves g c = λ files file is found file_is known none.
    let end = c.search_members-found.result in
    let new = c.search_members-found.new in
    let ends = search_ends_as files file c.args.self.now c.args.archive c.deref_mut.result.now new.link.rows.rows end.fault end.asked end.ended is found file_is c.deref_mut.ensures.value
    (λ has fits entries_fit. c.search_members-found.ensures.stops file known has fits entries_fit) in
    c.stopped.ensures.stops files file _ _ (rw c.in-Err.is at ends) file_is none

pub returns-in-Ok-clause-names : goal.returns-in-Ok-clause-names
returns-in-Ok-clause-names g c = λ files file is found file_is known.
    let new = record c.args.self.now { link = c.search_members-found.new.link; room = c.search_members-found.new.room } in
    names_searched files file c.args.archive c.args.self.now new file_is
    (on_ok _ _ _ c.in-Ok.is (c.search_members-found.ensures.names file known (archive_has files file c.args.self.now c.args.archive is found file_is)))
