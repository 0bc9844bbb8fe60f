-- What a read gives is put.
use Rattle.std.proofs.Common.{arith}
use Rattle.elf_walk.proofs.GatherLaws.{gathered_more, gathered_none}
use Rattle.elf_walk.proofs.dir_walk.gather_from.Goals as goal

pub loop-turn-init : goal.loop-turn-init
loop-turn-init g c = gathered_none (g.D.Read.remaining c.args.directory.now) c.args.batch.now c.requires

pub loop-turn-preserved : goal.loop-turn-preserved
loop-turn-preserved g c =
    gathered_more (g.D.Read.remaining c.args.directory.now) (g.D.Read.remaining c.loop-turn.directory) (g.D.Read.remaining c.read.new.self) _ c.loop-turn.unnamed c.in-Ok-put_all.more
    c.saturating_add-unnamed.result c.args.batch.now c.loop-turn.batch c.put_all.new.batch c.loop-turn.invariant c.in-Ok.ensures.bytes.0
    c.in-Ok-put_all.ensures.puts c.put_all.ensures.after (omega arith)
