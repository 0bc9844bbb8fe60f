-- At a fault after the line of the path a prefix of both was written.
use Rattle.elf_source.proofs.PutsLaws.{SinkTakesPrefix-then}
use Rattle.elf_walk.proofs.headed_sink.HeadedSink.put.Goals as goal

pub returns-in-Err-clause-puts : goal.returns-in-Err-clause-puts
returns-in-Err-clause-puts g c =
    let rest = c.in-Err.ensures.puts in
    rw (c.if-self.false) (SinkTakesPrefix-then _ _ c.in_ok-show_path.ensures.puts.0 rest.0, rest.1)
