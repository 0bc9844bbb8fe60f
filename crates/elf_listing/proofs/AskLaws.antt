-- What a listing reads within its budget.
use Rattle.std.proofs.Common.{subst, ◌≡◌, ℕ, ◌+◌, ◌^◌, ◌≤◌, false, Option, None, Some, Result, Err, sym, ap, ◌∙◌, arith}
use Rattle.std.specs.Prelude.{IfSome}
use Rattle.elf_model.specs.Prelude.{first_refusal, has_tables, known_parts, length_checks, style_ceiling}
use Rattle.elf_model.specs.declared.fault_rows.FaultRow.{FaultRow}
use Rattle.elf_model.specs.declared.formats.Format.{Format}
use Rattle.elf_model.specs.declared.causes.Refusal.{Refusal}
use Rattle.elf_source.specs.Prelude.{CountedState, OutState, ReadsUpTo, SetsLimit, SourceState}
use Rattle.elf_source.proofs.LimitLaws.{late_budget, within_budget}
use Rattle.elf_table.specs.Prelude.{IsReadRefusal}
use Rattle.elf_table.specs.declared.run_fault.RunFault.TheVariants.{Out}
use Rattle.elf_table.specs.declared.run_fault.RunFault.{RunFault}
use Rattle.elf_options.specs.Prelude.{style_of}
use Rattle.elf_options.specs.declared.caps.Caps.{Caps}
use Rattle.elf_table.specs.declared.run_fault.RunFault.TheVariants.{Refused, Source}
use Rattle.elf_listing.specs.Prelude.{AsksWithin, FaultSays, ReturnsStopIn, StopSays}

pub asks_within : {X : Type 0} (caps : Caps) (parts : ℕ) (s0 s1 s2 s3 : CountedState) (n : ℕ) (result : Result X RunFault) → s0.asked ≤ 2 ^ 127 → SetsLimit s0 s1 caps.limits.budget
    → ReadsUpTo s1 s2 (style_ceiling s1.seen.size caps.limits.headers (style_of caps.style)) → SetsLimit s2 s3 None
    → ((refusal : Refusal) → first_refusal (length_checks s1.seen.size) ≡ Some refusal → s2 ≡ s1) → (has_tables (known_parts (style_of caps.style) parts) ≡ false → s2.asked ≤ s1.asked + 64)
    → ((refusal : Refusal) → result ≡ Err (Refused refusal) → IsReadRefusal s1 s2 n refusal) → AsksWithin caps parts s0 s3 result
asks_within caps parts s0 s1 s2 s3 n result small set reads unset unread alone late =
    let same = ap (λ (seen : SourceState). style_ceiling seen.size caps.limits.headers (style_of caps.style)) set.seen in
    let within : IfSome caps.limits.budget (λ bytes. s2.asked ≤ s0.asked + bytes) = within_budget caps.limits.budget s0 s1 s2 set reads.same_limit in
    record {
      ceiling = omega (arith, reads.at_most, set.asked, unset.asked, same);
      unread = λ refusal first.
          let is = unread refusal (ap (λ (seen : SourceState). first_refusal (length_checks seen.size)) set.seen ∙ first) in
          (unset.seen ∙ (ap (λ (s : CountedState). s.seen) is ∙ set.seen), unset.asked ∙ (ap (λ (s : CountedState). s.asked) is ∙ set.asked));
      alone = λ none. omega (arith, alone none, set.asked, unset.asked);
      budget = rw unset.asked within;
      late = λ refusal is budget.
          let over = late_budget caps.limits.budget s0 s1 s2 n small set (late refusal is budget).1 in
          (over.0, over.1, omega (arith, over.2, unset.asked));
      place = λ refusal is budget. (late refusal is budget).2 ∙ sym unset.stopped;
    }

-- the refusal reported is the one that stopped the call
pub reported_late : (row : FaultRow) (format : Format) (s1 s2 : CountedState) (a b out : OutState) (n : ℕ) (stop told : RunFault) → ReturnsStopIn row format a b stop told → StopSays s1 s2 out n stop
    → (refusal : Refusal) → told ≡ Refused refusal → IsReadRefusal s1 s2 n refusal
reported_late row format s1 s2 a b out n (Refused first) (Refused same) tells says refusal is =
    let all : first ≡ refusal = cc in subst (λ (r : Refusal). IsReadRefusal s1 s2 n r) all says
reported_late row format s1 s2 a b out n (Refused first) (Source cause at) tells says refusal is = absurd tells
reported_late row format s1 s2 a b out n (Refused first) (Out cause) tells says refusal is = cc
reported_late row format s1 s2 a b out n (Source cause at) told tells says refusal is = let other = tells.1 in cc
reported_late row format s1 s2 a b out n (Out cause) told tells says refusal is = let other = tells.1 in cc

-- what was reported of a fault implies for the source and the output what the fault did
pub told_says : (row : FaultRow) (format : Format) (s0 s1 s2 s3 : CountedState) (a b : OutState) (n : ℕ) (budget : Option ℕ) (stop told : RunFault) → SetsLimit s0 s1 budget → SetsLimit s2 s3 None
    → ReturnsStopIn row format a b stop told → StopSays s1 s2 a n stop → FaultSays s0 s3 b told
told_says row format s0 s1 s2 s3 a b n budget (Refused first) (Refused same) set unset tells says = tt
told_says row format s0 s1 s2 s3 a b n budget (Refused first) (Source cause at) set unset tells says = absurd tells
told_says row format s0 s1 s2 s3 a b n budget (Refused first) (Out cause) set unset tells says = tells.0
told_says row format s0 s1 s2 s3 a b n budget (Source cause at) told set unset tells says =
    rw (tells.1, unset.seen, unset.stopped, sym set.seen) says
told_says row format s0 s1 s2 s3 a b n budget (Out cause) told set unset tells says = rw (tells.0, tells.1) says
