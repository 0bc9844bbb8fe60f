-- The sink is the same for the output.
use Rattle.std.proofs.Common.{◌∙◌}
use Rattle.elf_source.proofs.LocatedLaws.{same_output}
use Rattle.elf_source.proofs.row_sink.Out+DeferredSink+W.locate_member.Goals as goal

pub returns : goal.returns
returns g c = rw c.locate_member.ensures (same_output _ _ _ _ _ c.self-1.given.0 c.self.inside.fits ∙ c.self.view_is)
