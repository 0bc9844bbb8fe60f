-- After a source was set to all bytes of its parent, the data of a member that lie within its length
-- lie within the parent.
use Rattle.std.proofs.Common.{arith}
use Rattle.elf_resolve.proofs.MemberTaking.{narrowed_file, widened_file}
use Rattle.elf_resolve.proofs.members.narrow_to.Goals as goal

pub narrow-requires : goal.narrow-requires
narrow-requires g c = (record { size = c.widen.new.self.seen.size; file = c.widen.new.self.seen.file }, c.widen.ensures.is_whole, omega arith)

pub returns-clause-narrows : goal.returns-clause-narrows
returns-clause-narrows g c = λ file held.
    narrowed_file c.widen.new.self c.narrow.new.self file c.args.extent.at c.args.extent.size c.narrow.ensures c.widen.ensures.is_whole (widened_file c.args.src.now c.widen.new.self file c.widen.ensures held)
