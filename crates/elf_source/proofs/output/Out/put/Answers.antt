use Rattle.std.proofs.Common.{rules}
use Rattle.elf_source.proofs.Known.{SinkTakesPrefix-some}
use Rattle.elf_source.proofs.output.Out.put.Goals as goal

pub returns-then-failed-2-clause-puts : goal.returns-then-failed-2-clause-puts
returns-then-failed-2-clause-puts g c =
    (rw (← c.self.view_is) (SinkTakesPrefix-some _ _ _ c.give-count.result (search rules) (search rules) (search rules) (search rules) (search rules)), record { failed = search rules; tells = search rules })
