-- What is written and requested for the bytes that are requested, stage by stage.
use Rattle.std.proofs.Common.{◌≡◌, ℕ, ◌+◌, ◌≤◌, Bool, true, false, List, ◌++◌, Option, None, Some, Result, Ok, Err, refl, sym, ap, subst, ◌∙◌, arith}
use Rattle.std.proofs.lemmas.List.{append_assoc}
use Rattle.elf_model.specs.Archive.{FileRange}
use Rattle.elf_model.specs.BytesQuery.{BytesQuery, bytes_ceiling, bytes_cost, headers_cost, queried_file, queried_range, range_size}
use Rattle.elf_model.specs.Prelude.{before_headers, early_checks, first_refusal, header_checks, load_checks, section_name_checks, slice}
use Rattle.elf_model.specs.declared.causes.Refusal.{Refusal}
use Rattle.elf_model.proofs.CheckSteps.{first_refusal-some}
use Rattle.elf_source.specs.Output.{OutState}
use Rattle.elf_table.specs.Prelude.{stop_of}
use Rattle.elf_table.specs.declared.fault.Fault.{Fault}
use Rattle.elf_table.specs.declared.fault.Fault.TheVariants.{Refused as Refuses, Source as Unread}
use Rattle.elf_table.specs.declared.run_fault.RunFault.{RunFault}
use Rattle.elf_table.specs.declared.run_fault.RunFault.TheVariants.{Refused, Source, Out}
use Rattle.elf_reloc.specs.Applied.{WritesOrWants}
use Rattle.elf_reloc.specs.Queried.{FindsAs, WritesFound, found_bytes, range_as, range_ceiling, range_cost, some_range}
use Rattle.elf_reloc.proofs.QueriedSteps.{refused_all}
use Rattle.elf_reloc.proofs.WindowSteps.{front_none}

pub ceiling_is : (size slots : ℕ) (query : BytesQuery) → bytes_ceiling size slots query ≡ range_ceiling slots query + size
unfolding bytes_ceiling
ceiling_is size slots query = refl

-- the cost is that of the range and its bytes
module _ (file : List ℕ) (slots : ℕ) (query : BytesQuery) where
  abbrev read : List ℕ
  read = queried_file query file

  pub cost_is : bytes_cost file slots query ≡ range_cost file slots query + range_size (queried_range file slots query)
  unfolding bytes_cost
  cost_is = by_cases (first_refusal (before_headers read slots)) refl
    where
      by_cases : (first : Option Refusal) → first_refusal (before_headers read slots) ≡ first → bytes_cost file slots query ≡ range_cost file slots query + range_size (queried_range file slots query)
      by_cases None e =
          let all : bytes_cost file slots query ≡ 64 + headers_cost read query + range_size (queried_range file slots query) = rw (e, bytes_cost) refl in
          let range : range_cost file slots query ≡ 64 + headers_cost read query = rw e refl in
          omega (arith, all, range)
      by_cases (Some refusal) e =
          let all : bytes_cost file slots query ≡ 64 = rw (e, bytes_cost) refl in
          let range : range_cost file slots query ≡ 64 = rw e refl in
          let first : first_refusal (header_checks read ++ load_checks read slots) ≡ Some refusal =
          ap first_refusal (sym (append_assoc (header_checks read) (early_checks read slots) (section_name_checks read)))
          ∙ first_refusal-some (before_headers read slots) (section_name_checks read) refusal e in
          let none = ap range_size (refused_all file slots query refusal first) in
          omega (arith, all, range, none)

  pub cost_found : (found : Option (ℕ × ℕ)) → FindsAs some_range (Ok found) (queried_range file slots query) → (size : ℕ) → size ≡ range_size (Ok (some_range found))
      → bytes_cost file slots query ≡ range_cost file slots query + size
  cost_found found is size same = let all = cost_is in let here = ap range_size is in omega (arith, all, here, same)

  -- nothing was written
  pub unfound : (out : OutState) (fault : Fault) → FindsAs some_range (Err fault) (queried_range file slots query) → WritesFound out out (Err (stop_of fault)) file (queried_range file slots query)
  unfound out (Refuses refusal) finds = (finds, refl)
  unfound out (Unread fault at) finds = front_none out (found_bytes file (queried_range file slots query))

  -- the bytes were written, or a prefix of them, or nothing with `Budget`
  pub written : (old new : OutState) (range : ℕ × ℕ) (result : Result (Unit {0}) RunFault) (fault : RunFault) → queried_range file slots query ≡ Ok (Some (range_as range))
      → WritesOrWants {X = Unit {0}} old new (Err fault) (slice file range.0 range.1) → WritesFound old new (Err fault) file (queried_range file slots query)
  written old new range result (Refused refusal) is wrote = (λ other. absurd (other wrote.0), wrote.1)
  written old new range result (Source fault at) is wrote = subst (λ answer. WritesFound old new (Err (Source fault at)) file answer) (sym is) wrote
  written old new range result (Out fault) is wrote = subst (λ answer. WritesFound old new (Err (Out fault)) file answer) (sym is) wrote
