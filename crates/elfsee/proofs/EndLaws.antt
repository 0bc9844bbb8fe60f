-- What the listing of an archive did, by the status of its result.
use Rattle.std.proofs.Common.{◌≡◌, ◌≤◌, ◌+◌, ℕ, Bool, true, List, [], Option, None, Some, Result, Ok, Err, refl, sym, ap, subst, append-nil}
use Rattle.std.specs.Prelude.{IfErr, IfOk}
use Rattle.std.specs.Io.KnownBytes.{append_known}
use Rattle.elf_model.specs.ArchiveCost.{archive_cost}
use Rattle.elf_source.specs.Prelude.{CountedState, OutGrows, OutState}
use Rattle.elf_options.specs.Prelude.{style_of}
use Rattle.elf_options.specs.declared.caps.Caps.{Caps}
use Rattle.elf_table.specs.declared.run_fault.RunFault.{RunFault}
use Rattle.elf_listing.specs.Reports.{KeepsSourceUnlimited}
use Rattle.elf_archive.specs.Listed.{ArchiveSays, AsksInArchive, ReportsArchive}
use Rattle.elf_requests.specs.ArchiveAnswers.{refused_by}
use Rattle.elfsee.specs.Ends.{RunsArchive}

-- what holds of a fault holds of a status's result too
status_says : (P : RunFault → Type 0) (answer : Result ℕ RunFault) → IfErr (refused_by answer) P → IfErr answer P
status_says P (Ok status) says = tt
status_says P (Err stop) says = says

pub archive_runs : (caps : Caps) (parts : ℕ) (old new : CountedState) (before after : OutState) (listed : Result Bool RunFault) (answer : Result ℕ RunFault)
    → refused_by answer ≡ listed → IfOk answer (λ status. status ≤ 1) → OutGrows before after → KeepsSourceUnlimited old new
    → IfErr listed (ArchiveSays old new after)
    → ((file : List ℕ) → old.seen.file ≡ Some file → ReportsArchive true file caps parts before after listed)
    → ((file : List ℕ) → old.seen.file ≡ Some file → new.asked ≤ old.asked + archive_cost file caps.limits.headers (style_of caps.style) parts)
    → AsksInArchive caps old new listed → RunsArchive caps parts old new before after answer
archive_runs caps parts old new before after listed answer same status grows leaves says text cost asks = record {
  grows = grows;
  leaves = leaves;
  says = status_says _ answer (subst (λ r. IfErr r (ArchiveSays old new after)) (sym same) says);
  text = λ file known. subst (λ r. ReportsArchive true file caps parts before after r) (sym same) (text file known);
  cost = cost;
  asks = subst (λ r. AsksInArchive caps old new r) (sym same) asks;
  status = status;
}

-- if nothing is deferred, what was taken was written
pub all_below : (below : Option (List ℕ)) (held : List ℕ) → held ≡ [] → append_known below held ≡ below
all_below None held none = refl
all_below (Some all) held none = rw none (ap Some (append-nil all))
