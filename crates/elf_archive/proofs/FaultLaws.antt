-- A check over members finds the first fault of them and of the walk.
use Rattle.std.proofs.Common.{◌≡◌, ℕ, zero, suc, ◌+◌, ◌<◌, ◌≤◌, ◌^◌, false, nat_lt, List, length, Option, None, Some, Result, Ok, Err, option_map, refl, sym, ap, subst, ◌∙◌, inl, inr, ◌⊎◌, arith}
use Rattle.std.specs.Prelude.{IfErr}
use Rattle.elf_model.specs.Prelude.{IsBudgetRefusal, ListingStyle, Member, MemberWalkState, NextMember, OneMember, archive_checks, archive_fault, before_members, behind, first_fault, first_refusal, header_cost, member_cost, member_fault, member_listing, members_cost, members_from, members_of, next_member, placed_after}
use Rattle.std.proofs.lemmas.Bool.Decides.{nat_tests}
use Rattle.elf_model.specs.declared.causes.Cause.TheVariants.{TooLong}
use Rattle.elf_model.specs.declared.causes.Refusal.{Refusal}
use Rattle.elf_model.specs.Archive.{Ends, Broken}
use Rattle.elf_model.proofs.BudgetLaws.{is_budget_fault}
use Rattle.elf_source.specs.Prelude.{CountedState, OutState, ReadsUpTo, SetsLimit}
use Rattle.elf_source.proofs.ReadsLaws.{ReadsUpTo-none, ReadsUpTo-then, ReadsUpTo-to}
use Rattle.elf_options.specs.Prelude.{style_of}
use Rattle.elf_options.specs.declared.caps.Caps.{Caps}
use Rattle.elf_table.specs.Prelude.{stop_of}
use Rattle.elf_table.specs.declared.fault.Fault.{Fault}
use Rattle.elf_table.specs.declared.run_fault.RunFault.TheVariants.{Out}
use Rattle.elf_table.specs.declared.run_fault.RunFault.{RunFault}
use Rattle.elf_table.specs.declared.fault.Fault.TheVariants.{Refused as Refuses, Source as Unread}
use Rattle.elf_table.specs.declared.run_fault.RunFault.TheVariants.{Refused, Source}
use Rattle.elf_listing.specs.Shows.{WroteUntilRefusal}
use Rattle.elf_archive.specs.Prelude.{BudgetSays, FindsFault, FindsAfterMagic, IsArchiveFault, ListsMember, ReadTells, ReadsAtMostIn, ReturnsMember, StopTells, fault_from, next_cost}
use Rattle.elf_archive.specs.FirstFault.{before_magic, cost_after_magic}
use Rattle.elf_archive.proofs.MemberLaws.{next-ends}
use Rattle.elf_archive.proofs.ReportLaws.{over_budget}
use Rattle.elf_archive.proofs.ToldLaws.{part_fault}
use Rattle.elf_archive.proofs.WalkLaws.{cost_next, fewer, fewer_is}

-- the first fault starting at the next position of a walk
abbrev after_fault : List ℕ → ℕ → ListingStyle → ℕ → ℕ → MemberWalkState → NextMember → Option Refusal
after_fault file headers style parts most p Ends = None
after_fault file headers style parts most p (Broken refusal) = Some refusal
after_fault file headers style parts most p (OneMember m) =
    elim (member_fault file headers style parts m) [
      | Some refusal ↦ Some refusal
      | None ↦ fault_from file headers style parts (fewer most) (behind file p m)
    ]

fault_next : (file : List ℕ) (headers : ℕ) (style : ListingStyle) (parts most : ℕ) (p : MemberWalkState) (next : NextMember) → length file < p.at + most → next_member file style.cap p ≡ next
    → fault_from file headers style parts most p ≡ after_fault file headers style parts most p next
unfolding members_from fewer first_fault
fault_next file headers style parts zero p next enough is =
    let ends : next ≡ Ends = sym is ∙ next-ends file style.cap p (omega (arith, enough)) in rw ends refl
fault_next file headers style parts (suc most) p Ends enough is = rw (is, members_from) refl
fault_next file headers style parts (suc most) p (Broken refusal) enough is = rw (is, members_from) refl
fault_next file headers style parts (suc most) p (OneMember m) enough is = rw (is, members_from) refl

-- what a check has visited so far without a fault, what is left, and what that costs
pub record CheckedSoFar (file : List ℕ) (headers : ℕ) (style : ListingStyle) (parts first : ℕ) (start p : MemberWalkState) (a b : CountedState) : Type 0 where
  pub most : ℕ
  pub enough : length file < p.at + most
  pub left : fault_from file headers style parts first start ≡ fault_from file headers style parts most p
  pub spent : ℕ
  pub reads : ReadsUpTo a b spent
  pub cost : spent + members_cost most file headers style parts p ≤ members_cost first file headers style parts start

pub check_begins : (file : List ℕ) (headers : ℕ) (style : ListingStyle) (parts first : ℕ) (start : MemberWalkState) (a : CountedState) → length file < start.at + first
    → CheckedSoFar file headers style parts first start start a a
check_begins file headers style parts first start a enough = record {
  most = first;
  enough = enough;
  left = refl;
  spent = 0;
  reads = ReadsUpTo-none a 0;
  cost = omega arith;
}

-- one more member, which has no fault
pub check_more : (file : List ℕ) (headers : ℕ) (style : ListingStyle) (parts first : ℕ) (start p q : MemberWalkState) (a b c d : CountedState) (m : Member) → p.at < q.at
    → CheckedSoFar file headers style parts first start p a b → next_member file style.cap p ≡ OneMember m → q ≡ behind file p m
    → ReadsUpTo b c (header_cost file style.cap p) → ReadsUpTo c d (member_cost file headers style parts m) → member_fault file headers style parts m ≡ None
    → CheckedSoFar file headers style parts first start q a d
check_more file headers style parts first start p q a b c d m further known is here header reads none =
    let sum = cost_next file headers style parts known.most p (OneMember m) known.enough is in
    record {
      most = fewer known.most;
      enough = omega (arith, known.enough, further, fewer_is known.most);
      left = known.left ∙ (fault_next file headers style parts known.most p (OneMember m) known.enough is
          ∙ (ap (λ (fault : Option Refusal). elim fault [ Some refusal ↦ Some refusal | None ↦ fault_from file headers style parts (fewer known.most) (behind file p m) ]) none
          ∙ ap (λ (r : MemberWalkState). fault_from file headers style parts (fewer known.most) r) (sym here)));
      spent = known.spent + (header_cost file style.cap p + member_cost file headers style parts m);
      reads = ReadsUpTo-then known.reads (ReadsUpTo-then header reads);
      cost =
          let same = ap (λ (r : MemberWalkState). members_cost (fewer known.most) file headers style parts r) here in
          omega (arith, known.cost, sum, same);
    }

-- the file's end
pub check_ends : (file : List ℕ) (headers : ℕ) (style : ListingStyle) (parts first : ℕ) (start p : MemberWalkState) (a b c : CountedState) → CheckedSoFar file headers style parts first start p a b
    → next_member file style.cap p ≡ Ends → ReadsUpTo b c (header_cost file style.cap p)
    → (fault_from file headers style parts first start ≡ None) × ReadsUpTo a c (members_cost first file headers style parts start)
check_ends file headers style parts first start p a b c known is reads =
    let sum = cost_next file headers style parts known.most p Ends known.enough is in
    let all = ReadsUpTo-then known.reads reads in
    (known.left ∙ fault_next file headers style parts known.most p Ends known.enough is, ReadsUpTo-to all (omega (arith, all.at_most, known.cost, sum)))

-- what a step costs at most
pub step_cost_left : (file : List ℕ) (headers : ℕ) (style : ListingStyle) (parts first : ℕ) (start p : MemberWalkState) (a b : CountedState) (known : CheckedSoFar file headers style parts first start p a b)
    → known.spent + next_cost file headers style parts p (next_member file style.cap p) ≤ members_cost first file headers style parts start
step_cost_left file headers style parts first start p a b known =
    let sum = cost_next file headers style parts known.most p (next_member file style.cap p) known.enough refl in
    omega (arith, known.cost, sum)

-- an offset without a valid member
pub walk_fault : (file : List ℕ) (headers : ℕ) (style : ListingStyle) (parts first : ℕ) (start p q : MemberWalkState) (a b : CountedState) (name : List ℕ) (fault : Fault) → CheckedSoFar file headers style parts first start p a b
    → ReturnsMember file style.cap p q name (Err fault) → FindsFault {X = Unit {0}} (fault_from file headers style parts first start) (Err (stop_of fault))
walk_fault file headers style parts first start p q a b name (Refuses refusal) known tells =
    λ other. known.left ∙ fault_next file headers style parts known.most p (Broken refusal) known.enough (tells other)
walk_fault file headers style parts first start p q a b name (Unread fault at) known tells = tt

-- a member whose listing has no fault
pub sound_member : {v w : OutState} (file : List ℕ) (headers : ℕ) (style : ListingStyle) (parts : ℕ) (m : Member) → ListsMember v w (Ok None) (member_listing file headers style parts m)
    → member_fault file headers style parts m ≡ None
sound_member file headers style parts m p = ap (option_map (placed_after m.extent.at)) p.no_fault

-- a member whose listing was refused
pub fault_of_member : {v w : OutState} (file : List ℕ) (headers : ℕ) (style : ListingStyle) (parts first : ℕ) (start p : MemberWalkState) (a b : CountedState) (m : Member) (refusal placed : Refusal) → CheckedSoFar file headers style parts first start p a b
    → next_member file style.cap p ≡ OneMember m → (IsBudgetRefusal refusal → ⊥) → WroteUntilRefusal v w refusal (member_listing file headers style parts m) → placed ≡ placed_after m.extent.at refusal
    → FindsFault {X = Unit {0}} (fault_from file headers style parts first start) (Err (Refused placed))
fault_of_member file headers style parts first start p a b m refusal placed known is own lists place =
    let found : member_fault file headers style parts m ≡ Some placed = ap (option_map (placed_after m.extent.at)) (part_fault (member_listing file headers style parts m) refusal own lists) ∙ ap Some (sym place) in
    λ other. known.left ∙ (fault_next file headers style parts known.most p (OneMember m) known.enough is
    ∙ ap (λ (fault : Option Refusal). elim fault [ Some refusal ↦ Some refusal | None ↦ fault_from file headers style parts (fewer known.most) (behind file p m) ]) found)

-- what that reads of the source
pub fault_takes : (a b : CountedState) (w : OutState) (n start : ℕ) (refusal placed : Refusal) → (IsBudgetRefusal refusal → ⊥) → placed ≡ placed_after start refusal → ReadsUpTo a b n → ReadsAtMostIn {X = Unit {0}} a b w (Err (Refused placed)) n
fault_takes a b w n start refusal placed own place reads = (reads, λ budget. absurd (own (sym (ap (λ (r : Refusal). r.cause) place) ∙ budget)))

-- a member that stopped the check early
pub stop_of_member : (v w : OutState) (file : List ℕ) (headers : ℕ) (style : ListingStyle) (parts : ℕ) (m : Member) (stop : RunFault) (fault : Option Refusal) → ListsMember v w (Err stop) (member_listing file headers style parts m)
    → FindsFault {X = Unit {0}} fault (Err stop)
stop_of_member v w file headers style parts m (Refused refusal) fault p = λ other. absurd (other p.0)
stop_of_member v w file headers style parts m (Source cause at) fault p = tt
stop_of_member v w file headers style parts m (Out cause) fault p = tt

-- an archive whose length is too large is refused for it
pub long_fault : (file : List ℕ) (headers : ℕ) (style : ListingStyle) (parts : ℕ) → 2 ^ 63 ≤ length file
    → archive_fault file headers style parts ≡ Some (record { at = 0; cause = TooLong })
unfolding archive_fault
long_fault file headers style parts long =
    let above : nat_lt (length file) (2 ^ 63) ≡ false = grind (arith, nat_tests) in
    rw (above, archive_fault) refl

-- nothing is read of it
pub long_takes : (a : CountedState) (w : OutState) (n : ℕ) → ReadsAtMostIn {X = Unit {0}} a a w (Err (Refused (record { at = 0; cause = TooLong }))) n
long_takes a w n = (ReadsUpTo-none a n, λ is. absurd (cc))

pub passed_fault : (file : List ℕ) (headers : ℕ) (style : ListingStyle) (parts : ℕ) → first_refusal (archive_checks file) ≡ None
    → archive_fault file headers style parts ≡ fault_from file headers style parts (length file) before_members
unfolding archive_fault members_of
passed_fault file headers style parts passed = rw (passed, archive_fault) refl

-- the fault of an archive is one within every budget
pub own_fault : (budget : Option ℕ) (file : List ℕ) (headers : ℕ) (style : ListingStyle) (parts : ℕ) (fault : Option Refusal) → archive_fault file headers style parts ≡ fault
    → IsArchiveFault budget file headers style parts fault
own_fault None file headers style parts fault is = sym is
own_fault (Some budget) file headers style parts fault is = inl (sym is)

-- a refusal that a check returns is a fault within the budget
pub answered_fault : (file : List ℕ) (caps : Caps) (parts : ℕ) (refusal : Refusal) (before limited after : CountedState) → before.asked ≤ 2 ^ 127 → SetsLimit before limited caps.limits.budget
    → before.seen.size ≡ length file → BudgetSays limited after (cost_after_magic file caps.limits.headers (style_of caps.style) parts) refusal
    → FindsFault {X = Unit {0}} (archive_fault file caps.limits.headers (style_of caps.style) parts) (Err (Refused refusal))
    → IsArchiveFault (before_magic caps.limits.budget) file caps.limits.headers (style_of caps.style) parts (Some refusal)
answered_fault file caps parts refusal before limited after small limits sized says finds = by_cause (is_budget_fault refusal.cause)
  where
    by_cause : (IsBudgetRefusal refusal) ⊎ (IsBudgetRefusal refusal → ⊥) → IsArchiveFault (before_magic caps.limits.budget) file caps.limits.headers (style_of caps.style) parts (Some refusal)
    by_cause (inl for_budget) =
        let said = says for_budget in
        let over = over_budget caps.limits.budget (cost_after_magic file caps.limits.headers (style_of caps.style) parts) before limited after small limits said.1 in
        let size = ap (λ seen. seen.size) limits.seen in
        rw over.1 (inr (
          omega (arith, over.2),
          record {
            refusal = refusal;
            is = refl;
            for_budget = for_budget;
            inside = omega (arith, said.0, size, sized);
          },
        ))
    by_cause (inr other) = own_fault (before_magic caps.limits.budget) file caps.limits.headers (style_of caps.style) parts (Some refusal) (finds other)

-- what is found within the budget
pub found_first : {X : Type 0} (file : List ℕ) (caps : Caps) (parts : ℕ) (result : Result X RunFault) (out : OutState) (before limited after : CountedState) → before.asked ≤ 2 ^ 127 → SetsLimit before limited caps.limits.budget
    → before.seen.size ≡ length file → out.failed ≡ false → IfErr result (StopTells limited after out (cost_after_magic file caps.limits.headers (style_of caps.style) parts))
    → FindsFault (archive_fault file caps.limits.headers (style_of caps.style) parts) result → FindsAfterMagic caps parts file result
found_first file caps parts (Ok x) out before limited after small limits sized well says finds = own_fault (before_magic caps.limits.budget) file caps.limits.headers (style_of caps.style) parts None finds
found_first file caps parts (Err (Refused refusal)) out before limited after small limits sized well says finds =
    answered_fault file caps parts refusal before limited after small limits sized says finds
found_first file caps parts (Err (Source fault at)) out before limited after small limits sized well says finds = tt
found_first file caps parts (Err (Out fault)) out before limited after small limits sized well says finds = let failed = says.failed in cc

-- what it says of the source
pub found_tells : {X : Type 0} (s0 s1 s2 s3 : CountedState) (out : OutState) (n : ℕ) (budget : Option ℕ) (result : Result X RunFault) → SetsLimit s0 s1 budget → SetsLimit s2 s3 None → out.failed ≡ false
    → IfErr result (StopTells s1 s2 out n) → IfErr result (ReadTells s0 s3)
found_tells s0 s1 s2 s3 out n budget (Ok x) set unset well says = tt
found_tells s0 s1 s2 s3 out n budget (Err (Refused refusal)) set unset well says = tt
found_tells s0 s1 s2 s3 out n budget (Err (Source fault at)) set unset well says = rw (unset.seen, sym set.seen) says
found_tells s0 s1 s2 s3 out n budget (Err (Out fault)) set unset well says = let failed = says.failed in cc

-- a refusal that it returns
pub found_late : {X : Type 0} (s1 s2 : CountedState) (out : OutState) (n : ℕ) (result : Result X RunFault) → IfErr result (StopTells s1 s2 out n) → (refusal : Refusal) → result ≡ Err (Refused refusal)
    → BudgetSays s1 s2 n refusal
found_late s1 s2 out n (Ok x) says refusal is = cc
found_late s1 s2 out n (Err (Refused first)) says refusal is = let all : first ≡ refusal = cc in subst (λ (r : Refusal). BudgetSays s1 s2 n r) all says
found_late s1 s2 out n (Err (Source fault at)) says refusal is = cc
found_late s1 s2 out n (Err (Out fault)) says refusal is = cc
