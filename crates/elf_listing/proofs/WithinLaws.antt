-- What a listing within a budget did, by what its call did while a limit was set.
use Rattle.std.proofs.Common.{◌≡◌, ℕ, ◌+◌, ◌^◌, ◌≤◌, false, List, None, Some, Result, Ok, Err, sym, ap, ◌∙◌}
use Rattle.elf_model.specs.Prelude.{first_refusal, has_tables, known_parts, length_checks, listing, listing_cost, style_ceiling}
use Rattle.elf_model.specs.declared.causes.Refusal.{Refusal}
use Rattle.elf_model.specs.declared.fault_rows.FaultRow.{FaultRow}
use Rattle.elf_source.specs.Prelude.{CountedState, OutGrows, OutState, SetsLimit, SourceState}
use Rattle.elf_source.proofs.GrowthLaws.{grows_then}
use Rattle.elf_options.specs.Prelude.{style_of}
use Rattle.elf_options.specs.declared.caps.Caps.{Caps}
use Rattle.elf_table.specs.declared.run_fault.RunFault.{RunFault}
use Rattle.elf_listing.specs.Prelude.{AsksWithin, FaultSays, FindsFaultRow, ReturnsStopIn, WroteReport}
use Rattle.elf_listing.specs.Shows.{ListingCosts, WroteSome}
use Rattle.elf_listing.proofs.AskLaws.{asks_within, reported_late, told_says}
use Rattle.elf_listing.proofs.ReportLaws.{whole_report, stopped_report}

module _ (caps : Caps) (parts slots : ℕ) {s0 s1 s2 s3 : CountedState} (set : SetsLimit s0 s1 caps.limits.budget) (free : SetsLimit s2 s3 None) (small : (slots ≡ caps.limits.headers) × (s0.asked ≤ 2 ^ 127)) where
  -- it ended
  pub whole_within : {a : OutState} (b : OutState) (result : Result (Unit {0}) RunFault) → result ≡ Ok tt → ((file : List ℕ) → s1.seen.file ≡ Some file → WroteSome a b result (listing file slots (style_of caps.style) parts))
      → (file : List ℕ) → s0.seen.file ≡ Some file → WroteReport {X = Unit {0}} file caps parts a b (Ok tt)
  whole_within b result is wrote file held =
      let now = ap (λ (seen : SourceState). seen.file) set.seen ∙ held in
      whole_report file caps parts (rw (small.0, is) at (wrote file now))

  -- or it stopped, and that was reported
  module _ (b c : OutState) (result : Result (Unit {0}) RunFault) (stop told : RunFault) (row : FaultRow) (is : result ≡ Err stop) (tells : ReturnsStopIn row caps.style.format b c stop told) where
    pub stopped_within : {a : OutState} → ((file : List ℕ) → s1.seen.file ≡ Some file → FindsFaultRow file (style_of caps.style) parts result row)
        → ((file : List ℕ) → s1.seen.file ≡ Some file → WroteSome a b result (listing file slots (style_of caps.style) parts))
        → ((file : List ℕ) → s1.seen.file ≡ Some file → ListingCosts s1 s2 b result (listing_cost file slots (style_of caps.style) parts))
        → (file : List ℕ) → s0.seen.file ≡ Some file → WroteReport {X = Unit {0}} file caps parts a c (Err told)
    stopped_within rows wrote costs file held =
        let now = ap (λ (seen : SourceState). seen.file) set.seen ∙ held in
        let ends = rw (small.0, is) at (wrote file now) in
        let says = rw (small.0, is) at (costs file now).1 in
        let sized = sym (s0.seen.sized file held) in
        stopped_report b file caps parts stop _ row _ _ _ _ small.1 set sized says ends (rw is at (rows file now)) tells

    pub asked_within : ListingCosts s1 s2 b result (style_ceiling s1.seen.size slots (style_of caps.style))
        → ((refusal : Refusal) → first_refusal (length_checks s1.seen.size) ≡ Some refusal → s2 ≡ s1) → (has_tables (known_parts (style_of caps.style) parts) ≡ false → s2.asked ≤ s1.asked + 64)
        → AsksWithin {X = Unit {0}} caps parts s0 s3 (Err told)
    asked_within costs unread alone =
        let says = rw is at costs.1 in
        let n : ℕ = style_ceiling s1.seen.size slots (style_of caps.style) in
        asks_within caps parts s0 s1 s2 s3 n _ small.1 set (rw small.0 at costs.0) free unread alone
        (λ refusal same. reported_late row caps.style.format _ _ _ _ _ n stop _ tells says refusal cc)

    pub says_within : ListingCosts s1 s2 b result (style_ceiling s1.seen.size slots (style_of caps.style)) → FaultSays s0 s3 c told
    says_within costs =
        let says = rw is at costs.1 in
        told_says row caps.style.format _ _ _ _ _ _ _ _ stop _ set free tells says

    pub grows_within : {a : OutState} → OutGrows b c → OutGrows a b → OutGrows a c
    grows_within more grows = grows_then grows more
