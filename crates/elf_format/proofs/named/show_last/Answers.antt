-- The line that is written is what was left of its text.
use Rattle.elf_format.proofs.Pieces.{OutPuts-rest}
use Rattle.elf_format.proofs.named.show_last.Goals as goal

pub returns : goal.returns
returns g c =
    let last = rw c.deref.ensures.0 at c.put.ensures.puts in
    record { puts = OutPuts-rest _ c.put.result c.in_ok-put_piece.ensures.puts last }
