-- The symbol's line, and after it that of its version.
use Rattle.std.proofs.Common.{◌≡◌, false, subst}
use Rattle.elf_model.specs.Prelude.{named_line}
use Rattle.elf_model.specs.Names.{Whole}
use Rattle.elf_source.specs.Output.{SinkTakes}
use Rattle.elf_source.proofs.GrowthLaws.{grows_put, grows_then}
use Rattle.elf_requests.proofs.LookupLaws.{no_version_line, not_some, puts_then}
use Rattle.elf_requests.proofs.resolve_request.show_found.Goals as goal

pub returns-in_default-clause-puts : goal.returns-in_default-clause-puts
returns-in_default-clause-puts g c = λ file at is machine.
    let none = not_some c.args.found.now.version c.in_default.not-Some in
    let front = c.symbol_front_in.ensures.front file at is in
    let told = subst (λ f. SinkTakes c.args.out.now c.show_named.new.out (named_line f (Whole c.args.wanted.now.name.now)) × (c.show_named.new.out.failed ≡ false)) front c.in_ok-show_named.ensures.puts in
    rw (none, no_version_line c.args.format) (rw machine at told)

pub returns-clause-puts : goal.returns-clause-puts
returns-clause-puts g c = λ file at is machine.
    let front = c.symbol_front_in.ensures.front file at is in
    let told = subst (λ f. SinkTakes c.args.out.now c.show_named.new.out (named_line f (Whole c.args.wanted.now.name.now)) × (c.show_named.new.out.failed ≡ false)) front c.in_ok-show_named.ensures.puts in
    let first = rw machine at told in
    rw c.in-Some.is (puts_then c.show_version.new.out _ _ c.show_version.result first.0 c.show_version.ensures.puts)

pub returns-clause-grows : goal.returns-clause-grows
returns-clause-grows g c = grows_then (grows_put _ _ c.show_named.ensures.puts) (grows_put _ _ c.show_version.ensures.puts)
