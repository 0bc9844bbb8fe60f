-- The version is there, its line is written, or the line of a fault.
use Rattle.std.proofs.Common.{None, Some, ap, ◌∙◌}
use Rattle.elf_model.specs.Prelude.{Needs, index_of_provider, state_of_needed, version_item}
use Rattle.elf_needs.specs.Bound.{IsBudgetShort}
use Rattle.elf_library.specs.Prelude.{needed_of}
use Rattle.elf_needs.specs.Providers.{as_provider, provider_of, versioned_among}
use Rattle.elf_needs.proofs.ProviderLaws.{version_by}
use Rattle.elf_needs.proofs.VersionWriteLaws.{version_fault, version_listed, version_out, version_told}
use Rattle.elf_needs.proofs.WriteLaws.{only_of}
use Rattle.elf_needs.proofs.version_lines.check_version.Goals as goal

pub returns-in-Ok-None-clause-known : goal.returns-in-Ok-None-clause-known
returns-in-Ok-None-clause-known g c =
    let provided = c.provider-provider.ensures ∙ ap (provider_of c.args.scope.now.known.now) c.bytes.ensures.value in
    λ headers files are.
    let objects = versioned_among files c.args.scope.now in
    let needed = needed_of c.args.needed.now in
    version_listed c.args.scope.now.lines.format (version_item objects c.args.object (Needs needed)) (IsBudgetShort c.state_of.new.objects c.state_of.new.left)
    (version_by objects c.args.object needed (as_provider c.provider-provider.result) None provided (rw (c.in-Ok-None.is, c.in-Ok-None.field-0-is) at (c.state_of.ensures.known headers files are))) c.args.out.now

pub returns-in-Err-clause-known : goal.returns-in-Err-clause-known
returns-in-Err-clause-known g c =
    λ headers files are.
    let objects = versioned_among files c.args.scope.now in
    let needed = needed_of c.args.needed.now in
    version_fault c.args.scope.now.lines.format (version_item objects c.args.object (Needs needed)) (IsBudgetShort c.state_of.new.objects c.state_of.new.left)
    (state_of_needed objects needed (as_provider c.provider-provider.result)) c.in-Err.fault c.args.out.now c.tell.new.out c.tell.result
    (rw c.in-Err.is at (c.state_of.ensures.known headers files are)) (only_of c.state_of.new.objects c.state_of.new.left c.in-Err.fault (rw c.in-Err.is at c.state_of.ensures.short)) c.tell.ensures

pub returns-in-Err-show_needed_version-clause-known : goal.returns-in-Err-show_needed_version-clause-known
returns-in-Err-show_needed_version-clause-known g c =
    let provided = c.provider-provider.ensures ∙ ap (provider_of c.args.scope.now.known.now) c.bytes.ensures.value in
    let puts = rw (c.index-by.ensures, c.bytes-2.ensures.value, c.in-Err-show_needed_version.is) at c.show_needed_version.ensures.puts in
    λ headers files are.
    let objects = versioned_among files c.args.scope.now in
    let needed = needed_of c.args.needed.now in
    let provider = as_provider c.provider-provider.result in
    version_out c.args.scope.now.lines.format (version_item objects c.args.object (Needs needed)) (IsBudgetShort c.state_of.new.objects c.state_of.new.left)
    c.args.object (index_of_provider provider) c.in-Ok-Some.state needed.name
    (version_by objects c.args.object needed provider (Some c.in-Ok-Some.state) provided (rw (c.in-Ok-Some.is, c.in-Ok-Some.field-0-is) at (c.state_of.ensures.known headers files are)))
    c.args.out.now c.show_needed_version.new.out _ puts.0 puts.1

pub returns-in-Ok-clause-known : goal.returns-in-Ok-clause-known
returns-in-Ok-clause-known g c =
    let provided = c.provider-provider.ensures ∙ ap (provider_of c.args.scope.now.known.now) c.bytes.ensures.value in
    let puts = rw (c.index-by.ensures, c.bytes-2.ensures.value, c.in-Ok.is) at c.show_needed_version.ensures.puts in
    λ headers files are.
    let objects = versioned_among files c.args.scope.now in
    let needed = needed_of c.args.needed.now in
    let provider = as_provider c.provider-provider.result in
    version_told c.args.scope.now.lines.format (version_item objects c.args.object (Needs needed)) (IsBudgetShort c.state_of.new.objects c.state_of.new.left)
    c.args.object (index_of_provider provider) c.in-Ok-Some.state needed.name
    (version_by objects c.args.object needed provider (Some c.in-Ok-Some.state) provided (rw (c.in-Ok-Some.is, c.in-Ok-Some.field-0-is) at (c.state_of.ensures.known headers files are)))
    c.args.out.now c.show_needed_version.new.out puts.0
