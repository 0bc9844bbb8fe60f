-- The line that was put in pieces is that of the name and its version.
use Rattle.std.proofs.Common.{ℕ, List, subst}
use Rattle.elf_format.specs.Fronts.{front_of}
use Rattle.elf_source.specs.Output.{OutPuts}
use Rattle.elf_format.proofs.RequestLaws.{requested_is}
use Rattle.elf_format.proofs.binding_rows.show_requested.Goals as goal

pub returns : goal.returns
returns g c =
    let front = front_of c.args.front.now in
    let puts = rw (c.before_request.ensures.text, c.after_request.ensures.text) at c.show_joined-shown.ensures.puts in
    record {
      puts = subst (λ (line : List ℕ). OutPuts c.args.out.now c.show_joined-shown.new.out c.show_joined-shown.result line)
          (requested_is front.format front.key front.text c.args.name.now c.args.version.now) puts;
    }
