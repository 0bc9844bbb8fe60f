-- What a file without section headers implies, up to its load, and the cost of finding it.
use Rattle.std.proofs.Common.{◌≡◌, ℕ, ◌+◌, ◌*◌, ◌/◌, ◌≤◌, List, ◌++◌, Option, None, Some, Err, refl, ap, arith, mul-add}
use Rattle.elf_model.specs.Prelude.{before_headers, e_phnum, e_shnum, first_refusal, header_checks, load_checks, loaded_traits, properties_asked, segment_traits_cost, segments_asked, symbols_asked, segment_traits_ceiling, trait_entries_asked, traits_by_segments}
use Rattle.elf_model.specs.declared.traits.Hardening.{Hardening}
use Rattle.elf_model.specs.declared.causes.Refusal.{Refusal}
use Rattle.elf_table.specs.Prelude.{StoreState}
use Rattle.elf_table.specs.declared.fault.Fault.{Fault}
use Rattle.elf_table.specs.declared.fault.Fault.TheVariants.{Refused, Source}
use Rattle.elf_hash.specs.Prelude.{LoadsSegments, entries_asked, segments_load_cost}
use Rattle.elf_hash.proofs.LoadedLaws.{segments_cost}
use Rattle.elf_hash.proofs.LoadingLaws.{cost_passed, early_pass}
use Rattle.elf_loader.specs.Features.{ReturnsValue}

-- all that is requested is within the upper bound
pub ceiling_is : (size headers : ℕ) → segment_traits_ceiling size headers ≡ 64 + (headers * 56 + headers * size) + 4 * size + 16 + size / 24 * 88
ceiling_is size headers = ap (λ (n : ℕ). 64 + n + 4 * size + 16 + size / 24 * 88) (mul-add headers 56 size)

module _ (file : List ℕ) (headers : ℕ) where
  refused : (refusal : Refusal) → first_refusal (header_checks file ++ load_checks file headers) ≡ Some refusal → traits_by_segments file headers ≡ Err refusal
  unfolding traits_by_segments
  refused refusal e = rw (e, traits_by_segments) refl

  pub shown_is : first_refusal (header_checks file ++ load_checks file headers) ≡ None → loaded_traits file ≡ traits_by_segments file headers
  unfolding traits_by_segments
  shown_is e = rw (e, traits_by_segments) refl

  pub load_stops : (fault : Fault) (store : StoreState) → LoadsSegments file headers store (Err fault) → ReturnsValue {X = Hardening} (traits_by_segments file headers) (Err fault)
  load_stops (Refused refusal) store loads = λ other. refused refusal (loads other)
  load_stops (Source fault at) store loads = tt

  -- the cost: the load, and if its early checks pass what follows
  pub load_least : e_shnum file ≡ 0 → segments_load_cost file headers ≤ segment_traits_cost file headers
  unfolding segment_traits_cost
  load_least none = go (first_refusal (before_headers file headers)) refl
    where
      go : (first : Option Refusal) → first_refusal (before_headers file headers) ≡ first → segments_load_cost file headers ≤ segment_traits_cost file headers
      go None e =
          let cost : segment_traits_cost file headers ≡ 64 + segments_asked file + trait_entries_asked file + properties_asked file + symbols_asked file = rw (e, segment_traits_cost) refl in
          let load : segments_load_cost file headers ≡ 64 + 56 * e_phnum file = rw e refl in
          omega (arith, cost, load, segments_cost file none)
      go (Some refusal) e =
          let cost : segment_traits_cost file headers ≡ 64 = rw (e, segment_traits_cost) refl in
          let load : segments_load_cost file headers ≡ 64 = rw e refl in
          omega (arith, cost, load)

  pub shown_cost : e_shnum file ≡ 0 → first_refusal (header_checks file ++ load_checks file headers) ≡ None
      → segment_traits_cost file headers ≡ segments_load_cost file headers + (entries_asked file + trait_entries_asked file + properties_asked file + symbols_asked file)
  unfolding segment_traits_cost
  shown_cost none passes =
      let cost : segment_traits_cost file headers ≡ 64 + segments_asked file + trait_entries_asked file + properties_asked file + symbols_asked file = rw (early_pass file headers passes, segment_traits_cost) refl in
      omega (arith, cost, cost_passed file headers passes, segments_cost file none)
