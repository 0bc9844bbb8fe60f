-- The state of a file, by what is known of its listing.
use Rattle.elf_model.specs.Prelude.{IsBudgeted, IsStateOf, ListingStyle, first_refusal, header_checks, is_not_elf, listing_cost, listing_report, state_of, style_ceiling}
use Rattle.elf_model.specs.declared.states.FileStatus.{FileStatus}
use Rattle.elf_model.specs.declared.causes.Refusal.{Refusal}
use Rattle.elf_options.specs.Prelude.{style_of}
use Rattle.elf_options.specs.declared.caps.Caps.{Caps}
use Rattle.std.proofs.Common.{◌≡◌, ℕ, ◌+◌, ◌<◌, ◌≤◌, Bool, true, false, if◌then◌else◌, List, length, Option, None, Some, inl, refl, sym, ap, ◌∙◌, nat_lt, arith, ◌^◌}
use Rattle.std.specs.Prelude.{Ok, Err, IfSome}
use Rattle.std.proofs.lemmas.Bool.Decides.{nat_tests}
use Rattle.elf_model.specs.declared.states.FileMagic.TheVariants as sort
use Rattle.elf_model.specs.Checking.{listed_state, short_file_status}
use Rattle.elf_model.specs.declared.causes.Cause.TheVariants.{Short}
use Rattle.elf_model.specs.declared.states.FileStatus.TheVariants as state
use Rattle.elf_model.proofs.ListingLemmas.{header_fault}
use Rattle.elf_source.specs.Prelude.{CountedState, OutState}
use Rattle.elf_table.specs.declared.run_fault.RunFault.TheVariants.{Refused as StopRefused}
use Rattle.elf_listing.specs.Reports.{WroteReport}
use Rattle.elf_walk.specs.Prelude.{AsksNoMore, FailsRead, FindsShort, FindsState, check_ceiling, check_cost, short_refusal}
use Rattle.elf_walk.proofs.StateLaws.{judged_long, long_state}
use Rattle.elf_walk.specs.CheckedFile.{FindsElf, IsElfState, elf_cost}

short_first : (file : List ℕ) → length file < 64 → first_refusal (header_checks file) ≡ Some (short_refusal file)
short_first file short =
    let below : nat_lt (length file) (2 ^ 63) ≡ true = grind (arith, nat_tests) in
    let few : nat_lt (length file) 64 ≡ true = grind (arith, nat_tests) in
    rw (below, few) refl

reported : (budget : Option ℕ) (file : List ℕ) (headers : ℕ) (style : ListingStyle) (parts : ℕ) (refusal : Refusal) → first_refusal (header_checks file) ≡ Some refusal
    → IsBudgeted budget file headers style parts (listing_report file headers style parts) (Some refusal)
reported None file headers style parts refusal first = record { text_is = refl; fault_is = sym (header_fault file headers style parts refusal first).1 }
reported (Some bytes) file headers style parts refusal first = inl record { text_is = refl; fault_is = sym (header_fault file headers style parts refusal first).1 }

-- the state of a short file
read_short_file_status : (budget : Option ℕ) (file : List ℕ) (headers : ℕ) (style : ListingStyle) (parts : ℕ) (found : FileStatus) → length file < 64
    → found ≡ state_of budget file (Some (short_refusal file)) → IsStateOf budget file headers style parts found
read_short_file_status budget file headers style parts found short is = record {
  text = listing_report file headers style parts;
  fault = Some (short_refusal file);
  listed = reported budget file headers style parts (short_refusal file) (short_first file short);
  state_is = is;
}

-- the state of a file that is too short is that of its listing
pub short_found : (caps : Caps) (parts : ℕ) (file : List ℕ) (found : FileStatus) → length file < 64 → FindsShort caps.limits.budget file found
    → FindsState caps parts file found
short_found caps parts file state.Ok short is = read_short_file_status caps.limits.budget file caps.limits.headers (style_of caps.style) parts _ short is
short_found caps parts file (state.Refused refusal) short is = read_short_file_status caps.limits.budget file caps.limits.headers (style_of caps.style) parts _ short is
short_found caps parts file state.NoElf short is = read_short_file_status caps.limits.budget file caps.limits.headers (style_of caps.style) parts _ short is
short_found caps parts file state.Unread short is = tt
short_found caps parts file state.Memory short is = read_short_file_status caps.limits.budget file caps.limits.headers (style_of caps.style) parts _ short is

-- a listing that was read to its end
pub ended : {X : Type 0} (file : List ℕ) (caps : Caps) (parts : ℕ) (old new : OutState) (x : X) → 64 ≤ length file → WroteReport file caps parts old new (Ok x)
    → IsStateOf caps.limits.budget file caps.limits.headers (style_of caps.style) parts state.Ok
ended file caps parts old new x long reports = record {
  text = reports.text;
  fault = reports.fault;
  listed = reports.listed;
  state_is = ap listed_state reports.wrote.1 ∙ sym (long_state caps.limits.budget file reports.fault long);
}

-- a listing that was refused, of a file large enough for a file header
pub refused : {X : Type 0} (file : List ℕ) (caps : Caps) (parts : ℕ) (old new : OutState) (refusal : Refusal) (found : FileStatus) → 64 ≤ length file
    → WroteReport {X = X} file caps parts old new (Err (StopRefused refusal)) → found ≡ (if is_not_elf refusal.cause then state.NoElf else state.Refused refusal)
    → IsStateOf caps.limits.budget file caps.limits.headers (style_of caps.style) parts found
refused file caps parts old new refusal found long reports is = record {
  text = reports.text;
  fault = reports.fault;
  listed = reports.listed;
  state_is = is ∙ (judged_long caps.limits.budget file refusal long ∙ ap (state_of caps.limits.budget file) reports.wrote.1);
}

-- a state that is that of the listing is found
pub finds : (caps : Caps) (parts : ℕ) (file : List ℕ) (found : FileStatus)
    → IsStateOf caps.limits.budget file caps.limits.headers (style_of caps.style) parts found → FindsState caps parts file found
finds caps parts file state.Ok is = is
finds caps parts file (state.Refused refusal) is = is
finds caps parts file state.NoElf is = is
finds caps parts file state.Unread is = tt
finds caps parts file state.Memory is = is

-- a listing that was refused reads what it should
pub refused_read : (a b : CountedState) (t : Bool) (refusal : Refusal) (found : FileStatus) → found ≡ (if t then state.NoElf else state.Refused refusal) → FailsRead a b found
refused_read a b true refusal found is = rw is tt
refused_read a b false refusal found is = rw is tt

-- what the check of a short file may request, and of one large enough for a file header
pub cost_short : (file : List ℕ) (headers : ℕ) (style : ListingStyle) (parts : ℕ) → length file < 64 → check_cost file headers style parts ≡ 4
cost_short file headers style parts short = let few : nat_lt (length file) 64 ≡ true = grind (arith, nat_tests) in rw few refl

pub cost_long : (file : List ℕ) (headers : ℕ) (style : ListingStyle) (parts : ℕ) → 64 ≤ length file → check_cost file headers style parts ≡ listing_cost file headers style parts
cost_long file headers style parts long = let more : nat_lt (length file) 64 ≡ false = grind (arith, nat_tests) in rw more refl

pub most_short : (size headers : ℕ) (style : ListingStyle) → size < 64 → check_ceiling size headers style ≡ 4
most_short size headers style short = let few : nat_lt size 64 ≡ true = grind (arith, nat_tests) in rw few refl

pub asks_long : (caps : Caps) (old new : CountedState) → 64 ≤ old.seen.size → new.asked ≤ old.asked + style_ceiling old.seen.size caps.limits.headers (style_of caps.style)
    → IfSome caps.limits.budget (λ bytes. new.asked ≤ old.asked + bytes) → AsksNoMore (check_ceiling old.seen.size caps.limits.headers (style_of caps.style)) caps.limits.budget old new
asks_long caps old new long ceiling budget =
    let more : nat_lt old.seen.size 64 ≡ false = grind (arith, nat_tests) in
    record { ceiling = rw more ceiling; budget = budget }

-- the state of an ELF file that is too short
pub short_elf : (caps : Caps) (parts : ℕ) (file : List ℕ) (at : ℕ) (found : FileStatus) → length file ≡ at → at < 64 → found ≡ short_file_status at sort.Elf → FindsElf caps parts file found
short_elf caps parts file at found sized short is = rw is (record {
  text = listing_report file caps.limits.headers (style_of caps.style) parts;
  fault = Some (short_refusal file);
  listed = reported caps.limits.budget file caps.limits.headers (style_of caps.style) parts (short_refusal file) (short_first file (omega (arith, sized, short)));
  state_is = ap (λ n. state.Refused (record { at = n; cause = Short })) (sym sized);
})

-- that of one that has room for a file header
elf_state : (caps : Caps) (parts : ℕ) (file : List ℕ) (found : FileStatus) → 64 ≤ length file
    → IsStateOf caps.limits.budget file caps.limits.headers (style_of caps.style) parts found
    → IsElfState caps.limits.budget file caps.limits.headers (style_of caps.style) parts found
elf_state caps parts file found long p =
    record { text = p.text; fault = p.fault; listed = p.listed; state_is = p.state_is ∙ long_state caps.limits.budget file p.fault long }

pub long_elf : (caps : Caps) (parts : ℕ) (file : List ℕ) (found : FileStatus) → 64 ≤ length file → FindsState caps parts file found → FindsElf caps parts file found
long_elf caps parts file state.Ok long p = elf_state caps parts file _ long p
long_elf caps parts file (state.Refused refusal) long p = elf_state caps parts file _ long p
long_elf caps parts file state.NoElf long p = elf_state caps parts file _ long p
long_elf caps parts file state.Unread long p = tt
long_elf caps parts file state.Memory long p = elf_state caps parts file _ long p

pub elf_cost_long : (file : List ℕ) (headers : ℕ) (style : ListingStyle) (parts : ℕ) → 64 ≤ length file → check_cost file headers style parts ≡ elf_cost file headers style parts
elf_cost_long file headers style parts long = let more : nat_lt (length file) 64 ≡ false = grind (arith, nat_tests) in rw more refl
