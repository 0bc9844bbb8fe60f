-- A name that is wanted is inserted among those that are kept, and another one changes nothing.
use Rattle.std.proofs.Common.{rules, ◌≡◌, [], refl, true, false, not, ◌&&◌, ◌||◌}
use Rattle.std.specs.Ordering.{is_gt, is_lt}
use Rattle.elf_walk.specs.Prelude.{in_order, order}
use Rattle.elf_walk.proofs.FrontLaws.{keeps_unwanted, keeps_wanted}
use Rattle.elf_walk.proofs.RoomLaws.{holds_more, holds_still}
use Rattle.elf_walk.proofs.SortedLaws.{all_more}
use Rattle.elf_walk.proofs.batch.NameBatch.hold.Goals as goal

pub returns-in_ok-push-clause-keeps : goal.returns-in_ok-push-clause-keeps
returns-in_ok-push-clause-keeps c = λ names before.
    let kept = rw (← c.self.view_is) at (c.in_ok-make_room.ensures.keeps names before) in
    let is : (is_gt (order c.args.name.now c.self.inside.after.items)
    && (not c.self.inside.more || is_lt (order c.args.name.now c.self.inside.limit.items))) ≡ true = search rules in
    rw (c.in_ok-push.ensures.pushed, all_more c.self.inside.kept c.args.name.now [])
    (keeps_wanted names c.args.name.now c.self.inside.after.items c.self.inside.limit.items (in_order c.self.inside.kept) c.self.inside.more
    (is_gt (order c.args.name.now c.self.inside.after.items)) refl is kept)

pub returns-else-wants-clause-keeps : goal.returns-else-wants-clause-keeps
returns-else-wants-clause-keeps c = λ names before.
    let kept = rw (← c.self.view_is) at (c.in_ok-make_room.ensures.keeps names before) in
    let is : (is_gt (order c.args.name.now c.self.inside.after.items)
    && (not c.self.inside.more || is_lt (order c.args.name.now c.self.inside.limit.items))) ≡ false = search rules in
    rw (← c.self.view_is)
    (keeps_unwanted names c.args.name.now c.self.inside.after.items c.self.inside.limit.items (in_order c.self.inside.kept) c.self.inside.more
    (is_gt (order c.args.name.now c.self.inside.after.items)) refl is kept)

pub returns-in_ok-push-clause-room : goal.returns-in_ok-push-clause-room
returns-in_ok-push-clause-room c = λ had.
    let room = rw (← c.self.view_is) at c.in_ok-make_room.ensures.room in
    let enough = rw (← c.self.view_is) at (c.in_ok-make_room.ensures.enough had) in
    holds_more c.self.inside.kept c.push.new.self c.args.name.now c.self.inside.after.items c.self.inside.limit.items c.self.inside.more room c.in_ok-push.ensures.short enough c.in_ok-push.ensures.pushed

pub returns-else-wants-clause-room : goal.returns-else-wants-clause-room
returns-else-wants-clause-room c = λ had. holds_still c.make_room.new.self c.in_ok-make_room.ensures.room (c.in_ok-make_room.ensures.enough had)
