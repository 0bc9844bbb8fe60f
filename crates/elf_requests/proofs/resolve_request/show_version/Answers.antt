-- The line with the version's name.
use Rattle.std.proofs.Common.{subst}
use Rattle.elf_model.specs.Lines.{named_line}
use Rattle.elf_source.specs.Output.{OutPuts}
use Rattle.elf_format.specs.Named.{shown_as}
use Rattle.elf_loader.specs.FoundVersions.{version_found}
use Rattle.elf_options.specs.Wants.{asked_of}
use Rattle.elf_requests.proofs.LookupLaws.{version_line}
use Rattle.elf_requests.proofs.resolve_request.show_version.Goals as goal

pub returns : goal.returns
returns g c =
    let line = version_line c.args.format c.args.index (version_found (asked_of c.args.asked.now) c.args.name.now c.args.version.now) in
    let shown = shown_as c.version_name-is_cut.result.1 c.version_name-is_cut.result.0.now in
    let told = subst (λ f. OutPuts c.args.out.now c.show_named.new.out c.show_named.result (named_line f shown)) c.symbol_version_front_in.ensures.front c.show_named.ensures.puts in
    record { puts = rw line (rw c.version_name-is_cut.ensures at told) }
