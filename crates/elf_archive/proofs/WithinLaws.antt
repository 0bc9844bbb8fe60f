-- What a listing of an archive within a budget did, by what its call did while a limit was set.
use Rattle.std.proofs.Common.{◌≡◌, ℕ, ◌+◌, ◌^◌, ◌≤◌, Bool, List, None, Some, Result, Ok, Err, sym, ap, ◌∙◌}
use Rattle.std.specs.Prelude.{IfErr}
use Rattle.elf_model.specs.Prelude.{archive_ceiling, archive_length_checks, first_refusal}
use Rattle.elf_model.specs.declared.causes.Refusal.{Refusal}
use Rattle.elf_source.specs.Prelude.{CountedState, OutGrows, OutState, ReadsUpTo, SetsLimit, SourceState}
use Rattle.elf_source.proofs.GrowthLaws.{grows_then}
use Rattle.elf_options.specs.Prelude.{style_of}
use Rattle.elf_options.specs.declared.caps.Caps.{Caps}
use Rattle.elf_table.specs.declared.run_fault.RunFault.{RunFault}
use Rattle.elf_listing.specs.Prelude.{KeepsSourceUnlimited, ReturnsStop}
use Rattle.elf_archive.specs.FirstFault.{FindsAfterMagic, ReadTells, SearchesArchive, cost_after_magic}
use Rattle.elf_archive.proofs.FaultLaws.{found_first, found_late, found_tells}
use Rattle.elf_archive.specs.Listed.{ArchiveSays, AsksInArchive, ListsArchive, ReportsArchive}
use Rattle.elf_archive.proofs.ReportLaws.{asked_limited, asks_in_archive, leaves_limited, stopped_archive, reported_late, told_says, whole_archive}

module _ (alone : Bool) (caps : Caps) (parts slots : ℕ) {s0 s1 s2 s3 : CountedState} (set : SetsLimit s0 s1 caps.limits.budget) (free : SetsLimit s2 s3 None) (small : (slots ≡ caps.limits.headers) × (s0.asked ≤ 2 ^ 127)) where
  -- it ended
  pub whole_within : {a : OutState} (b : OutState) (result : Result Bool RunFault) {any : Bool} → result ≡ Ok any → (now : ℕ) × ListsArchive alone slots now (style_of caps.style) parts s1 s2 a b result
      → (file : List ℕ) → s0.seen.file ≡ Some file → ReportsArchive alone file caps parts a b (Ok any)
  whole_within b result {any} is lists file held =
      let known = ap (λ (seen : SourceState). seen.file) set.seen ∙ held in
      let shown = rw (small.0, is) at (lists.1.shows file known) in
      whole_archive alone file caps parts any shown.1 shown.0

  pub asked_whole : {any : Bool} → ReadsUpTo s1 s2 (archive_ceiling s1.seen.size slots (style_of caps.style)) → ((refusal : Refusal) → first_refusal (archive_length_checks s1.seen.size) ≡ Some refusal → s2 ≡ s1)
      → AsksInArchive caps s0 s3 (Ok any)
  asked_whole reads unread = asks_in_archive caps s0 s1 s2 s3 0 _ small.1 set (rw small.0 at reads) free unread (λ refusal is. cc)

  -- or it stopped, and that was reported
  module _ (a b c : OutState) (result : Result Bool RunFault) (stop told : RunFault) (is : result ≡ Err stop) (tells : ReturnsStop caps.style.format b c stop told) (lists : (now : ℕ) × ListsArchive alone slots now (style_of caps.style) parts s1 s2 a b result) where
    pub stopped_within : (file : List ℕ) → s0.seen.file ≡ Some file → ReportsArchive alone file caps parts a c (Err told)
    stopped_within file held =
        let known = ap (λ (seen : SourceState). seen.file) set.seen ∙ held in
        let ends = rw (small.0, is) at (lists.1.shows file known) in
        let says = rw (small.0, is) at (lists.1.cost file known).1 in
        let sized = sym (s0.seen.sized file held) in
        stopped_archive b alone file caps parts stop _ _ _ _ _ small.1 set sized says ends.0 tells

    pub asked_stopped : ((refusal : Refusal) → first_refusal (archive_length_checks s1.seen.size) ≡ Some refusal → s2 ≡ s1) → AsksInArchive {X = Bool} caps s0 s3 (Err told)
    asked_stopped unread =
        let says = rw is at lists.1.ceiling.1 in
        let n : ℕ = archive_ceiling s1.seen.size slots (style_of caps.style) in
        asks_in_archive caps s0 s1 s2 s3 n _ small.1 set (rw small.0 at lists.1.ceiling.0) free unread
        (λ refusal same. reported_late caps.style.format _ _ _ _ _ n stop _ tells says refusal cc)

    pub says_within : ArchiveSays s0 s3 c told
    says_within =
        let says = rw is at lists.1.ceiling.1 in
        told_says caps.style.format _ _ _ _ _ _ _ _ stop _ set free tells says

    pub grows_within : OutGrows b c → OutGrows a c
    grows_within more = grows_then lists.1.grows more

-- what a search for the first fault within a budget did
module _ (caps : Caps) (parts : ℕ) {slots : ℕ} {s0 s1 s2 s3 : CountedState} (set : SetsLimit s0 s1 caps.limits.budget) (free : SetsLimit s2 s3 None) (small : (slots ≡ caps.limits.headers) × (s0.asked ≤ 2 ^ 127)) {result : Result (Unit {0}) RunFault} (searches : SearchesArchive slots (style_of caps.style) parts s1 s2 result) where
  pub fault_found : (file : List ℕ) → s0.seen.file ≡ Some file → FindsAfterMagic caps parts file result
  fault_found file held =
      let goes = searches.goes in
      let known = ap (λ (seen : SourceState). seen.file) set.seen ∙ held in
      let finds = rw small.0 at (goes.shows file known) in
      let says = rw small.0 at (goes.cost file known).1 in
      let sized = sym (s0.seen.sized file held) in
      found_first file caps parts result searches.new s0 s1 s2 small.1 set sized searches.well says finds

  pub fault_says : IfErr result (ReadTells s0 s3)
  fault_says = found_tells _ _ _ _ searches.new _ _ result set free searches.well searches.goes.ceiling.1

  pub fault_asked : AsksInArchive caps s0 s3 result
  fault_asked =
      let goes = searches.goes in
      let n : ℕ = archive_ceiling s1.seen.size slots (style_of caps.style) in
      asks_in_archive caps s0 s1 s2 s3 n _ small.1 set (rw small.0 at goes.ceiling.0) free searches.unread (found_late _ _ _ n result goes.ceiling.1)

  pub fault_leaves : KeepsSourceUnlimited s0 s3
  fault_leaves = leaves_limited _ _ _ _ _ _ set searches.goes.ceiling.0 free

  pub fault_cost : (file : List ℕ) → s0.seen.file ≡ Some file → s3.asked ≤ s0.asked + cost_after_magic file caps.limits.headers (style_of caps.style) parts
  fault_cost file held =
      let known = ap (λ (seen : SourceState). seen.file) set.seen ∙ held in
      asked_limited _ _ _ _ _ _ set (rw small.0 at (searches.goes.cost file known).0) free
