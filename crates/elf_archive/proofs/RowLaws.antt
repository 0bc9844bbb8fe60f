-- The location of the name of a member.
use Rattle.std.proofs.Common.{◌≡◌, ℕ, ◌+◌, ◌<◌, ◌≤◌, ◌==◌, if◌then◌else◌, min, nat_lt, not, Bool, true, false, List, length, drop, take-take, None, Some, Result, Err, refl, ap, arith}
use Rattle.std.specs.Prelude.{IfErr}
use Rattle.std.proofs.lemmas.Bool.Decides.{nat_tests}
use Rattle.elf_model.specs.Prelude.{Cut, IsBudgetRefusal, archive_checks, capped, first_refusal, slice}
use Rattle.elf_model.specs.declared.causes.Refusal.{Refusal}
use Rattle.elf_model.proofs.Slices.{slice-size}
use Rattle.elf_source.specs.Source.{CountedState}
use Rattle.elf_table.specs.Prelude.{IsReadFault, IsReadRefusal}
use Rattle.elf_table.specs.declared.fault.Fault.{Fault}
use Rattle.elf_table.specs.declared.fault.Fault.TheVariants.{Refused}
use Rattle.elf_format.specs.Named.{shown_as}
use Rattle.elf_archive.specs.Archives.{MagicRead}

-- what is shown of a name with at most 4,096 bytes
pub shown_at : (file : List ℕ) (at size few : ℕ) (cut : Bool) → at + size ≤ length file → few ≡ min size 4096 → cut ≡ nat_lt 4096 size
    → capped 4096 (slice file at size) ≡ shown_as cut (slice file at few)
shown_at file at size few cut lies is more = by_size (nat_lt 4096 size) refl
  where
    sized : length (slice file at size) ≡ size
    sized = slice-size file at size lies

    by_size : (t : Bool) → nat_lt 4096 size ≡ t → capped 4096 (slice file at size) ≡ shown_as cut (slice file at few)
    by_size true e =
        let long : 4096 < size = grind (arith, nat_tests) in
        let all : few ≡ 4096 = omega (arith, is) in
        rw (sized, e, more, e, all) (ap Cut (take-take 4096 size (drop at file) (omega arith)))
    by_size false e =
        let short : size ≤ 4096 = grind (arith, nat_tests) in
        let all : few ≡ size = omega (arith, is) in
        rw (sized, e, more, e, all) refl

-- without a limit a refusal of the magic string is the first check that fails
pub refused_magic : {X : Type 0} (file : List ℕ) (a b : CountedState) (n : ℕ) (refusal : Refusal) (result : Result X Fault) → a.most ≡ None → result ≡ Err (Refused refusal)
    → IfErr result (IsReadFault a b n) → MagicRead file result → first_refusal (archive_checks file) ≡ Some refusal
refused_magic file a b n refusal result free is says read =
    let said : IsReadRefusal a b n refusal = rw is at says in
    let fails = rw is at read in
    let none : IsBudgetRefusal refusal → ⊥ = λ late. let set = (said late).1.is_set in cc in
    fails none

-- a flag as a number
pub flagged : (flag : Bool) (number : ℕ) → number ≡ (if flag then 1 else 0) → not (number == 0) ≡ flag
flagged true number is = rw is refl
flagged false number is = rw is refl

pub flag_small : (flag : Bool) (number : ℕ) → number ≡ (if flag then 1 else 0) → number ≤ 1
flag_small true number is = omega (arith, is)
flag_small false number is = omega (arith, is)
