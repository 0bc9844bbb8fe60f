-- If nothing is held, the sink below takes what is passed.
use Rattle.std.proofs.Common.{rules, ◌≡◌, sym}
use Rattle.elf_source.proofs.HoldLaws.{nothing_held, passed_on}
use Rattle.elf_source.proofs.holding_sink.DeferredSinkSink.take.Goals as goal

pub returns-then-self-clause-bytes : goal.returns-then-self-clause-bytes
returns-then-self-clause-bytes g c =
    let s = c.self.inside in
    let same : s.from ≡ s.to = search rules in
    rw (sym c.self.view_is) (passed_on _ _ _ c.take.result c.args.bytes.now (nothing_held s.room.items s.from s.to same) c.take.ensures.bytes)
