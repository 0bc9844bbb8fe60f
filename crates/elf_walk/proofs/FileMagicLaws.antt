-- The check of a file by its type, and what that reads.
use Rattle.std.proofs.Common.{◌≡◌, ℕ, ◌+◌, ◌-◌, ◌^◌, ◌≤◌, nat_lt, Bool, true, false, if◌then◌else◌, List, Option, None, Some, option_map, sym, ◌∙◌, arith, ◌⊎◌, inl, inr}
use Rattle.std.specs.Prelude.{IfSome}
use Rattle.elf_model.specs.Prelude.{ListingStyle, archive_ceiling, front_size, style_ceiling}
use Rattle.elf_model.specs.declared.states.FileMagic.TheVariants as sort
use Rattle.elf_model.specs.declared.states.FileMagic.{FileMagic}
use Rattle.elf_model.specs.declared.states.FileStatus.{FileStatus}
use Rattle.elf_model.specs.declared.states.FileStatus.TheVariants as state
use Rattle.elf_source.specs.Source.{CountedState, KeepsSource, SourceState, counted}
use Rattle.elf_options.specs.Prelude.{style_of}
use Rattle.elf_options.specs.declared.caps.Caps.{Caps}
use Rattle.elf_walk.specs.Prelude.{AsksNoMore, FailsRead, FindsSorted, FindsSortedState, check_ceiling, front_asked}
use Rattle.elf_archive.specs.FirstFault.{BeginsArchive}
use Rattle.elf_walk.specs.Fronts.{left_after}
use Rattle.elf_walk.specs.Members.{FindsBySort, unlisted_state}

-- what a check reads, by the ceiling of an archive of as many bytes
check_most : (short : Bool) (size headers : ℕ) (style : ListingStyle) → (if short then 4 else style_ceiling size headers style) ≤ archive_ceiling size headers style
unfolding archive_ceiling
check_most true size headers style = omega arith
check_most false size headers style = omega arith

pub asks_as_archive : (caps : Caps) (old new : CountedState) → AsksNoMore (check_ceiling old.seen.size caps.limits.headers (style_of caps.style)) caps.limits.budget old new
    → AsksNoMore (archive_ceiling old.seen.size caps.limits.headers (style_of caps.style)) caps.limits.budget old new
asks_as_archive caps old new asks =
    let most : check_ceiling old.seen.size caps.limits.headers (style_of caps.style) ≤ archive_ceiling old.seen.size caps.limits.headers (style_of caps.style) =
    check_most (nat_lt old.seen.size 64) old.seen.size caps.limits.headers (style_of caps.style) in
    record { ceiling = omega (arith, asks.ceiling, most); budget = asks.budget }

-- nothing more is read
pub some_within : (budget : Option ℕ) (old new : ℕ) → new ≡ old → IfSome budget (λ bytes. new ≤ old + bytes)
some_within None old new is = tt
some_within (Some bytes) old new is = omega (arith, is)

-- the magic bytes of a file are at most eight
front_few : (short room : Bool) (n : ℕ) → n ≤ 8 → (if short then 0 else if room then n else 0) ≤ 8
front_few true room n few = omega arith
front_few false true n few = few
front_few false false n few = omega arith

size_few : (t : Bool) → (if t then 4 else 8) ≤ 8
size_few true = omega arith
size_few false = omega arith

pub front_eight : (budget : Option ℕ) (size : ℕ) → front_asked true budget size ≤ 8
front_eight budget size = front_few (nat_lt size 4) _ (front_size true size) (size_few (nat_lt size 8))

pub front_four : (budget : Option ℕ) (size : ℕ) → front_asked false budget size ≤ 4
front_four budget size = by (nat_lt size 4) _
  where
    by : (short room : Bool) → (if short then 0 else if room then 4 else 0) ≤ 4
    by true room = omega arith
    by false true = omega arith
    by false false = omega arith

-- what is left of a budget after them, if the count does not stay at its most
front_few_more : (members : Bool) (budget : Option ℕ) (size : ℕ) → front_asked members budget size ≤ 8
front_few_more true budget size = front_eight budget size
front_few_more false budget size = let few = front_four budget size in omega (arith, few)

pub left_front : (members : Bool) (budget left : Option ℕ) (size before after : ℕ) → before ≤ 2 ^ 127 → after ≡ counted before (front_asked members budget size)
    → left ≡ option_map (λ bytes. bytes - (after - before)) budget → left ≡ left_after members budget size
left_front members budget left size before after small asks pays =
    let few = front_few_more members budget size in
    let spent : after - before ≡ front_asked members budget size = omega (arith, small, asks, few) in
    rw spent at pays

-- a file that begins as an archive still does after reads
pub begins_kept : (a b : SourceState) → KeepsSource a b → BeginsArchive a → BeginsArchive b
begins_kept a b keeps begins = record {
  size = let least = begins.size in omega (arith, keeps.same_size, least);
  magic = λ file held. begins.magic file (sym keeps.same_file ∙ held);
}

-- the state of a file of which nothing is listed is not that of one that was not read
pub unlisted_read : (a b : CountedState) (kind : FileMagic) (found : FileStatus) → found ≡ unlisted_state kind → FailsRead a b found
unlisted_read a b sort.Elf found is = rw is tt
unlisted_read a b sort.Archive found is = rw is tt
unlisted_read a b sort.Thin found is = rw is tt
unlisted_read a b sort.Foreign found is = rw is tt
unlisted_read a b sort.Undecided found is = rw is tt

-- a state that is found
pub sorted_found : (caps : Caps) (parts : ℕ) (file : List ℕ) (found : FileStatus) → FindsSortedState caps parts file found → FindsSorted caps parts file found
sorted_found caps parts file state.Ok finds = finds
sorted_found caps parts file (state.Refused refusal) finds = finds
sorted_found caps parts file state.NoElf finds = finds
sorted_found caps parts file state.Unread finds = tt
sorted_found caps parts file state.Memory finds = finds

-- a file that was not read after reads that did not fail
pub state_after : (a b c : CountedState) (found : FileStatus) → a.seen.failures ≤ b.seen.failures → FailsRead b c found → FailsRead a c found
state_after a b c state.Ok fewer fails = tt
state_after a b c (state.Refused refusal) fewer fails = tt
state_after a b c state.NoElf fewer fails = tt
state_after a b c state.Unread fewer fails = λ honest. let rose = fails honest in omega (arith, fewer, rose)
state_after a b c state.Memory fewer fails = fails

-- a file of which nothing is listed
elf_listed : (sort.Elf ≡ sort.Thin) ⊎ ((sort.Elf ≡ sort.Foreign) ⊎ (sort.Elf ≡ sort.Undecided)) → ⊥
elf_listed (inl p) = cc
elf_listed (inr (inl p)) = cc
elf_listed (inr (inr p)) = cc

archive_listed : (sort.Archive ≡ sort.Thin) ⊎ ((sort.Archive ≡ sort.Foreign) ⊎ (sort.Archive ≡ sort.Undecided)) → ⊥
archive_listed (inl p) = cc
archive_listed (inr (inl p)) = cc
archive_listed (inr (inr p)) = cc

pub unlisted_found : (kind : FileMagic) → (kind ≡ sort.Thin) ⊎ ((kind ≡ sort.Foreign) ⊎ (kind ≡ sort.Undecided)) → (caps : Caps) (parts : ℕ) (file : List ℕ) (found : FileStatus)
    → found ≡ unlisted_state kind → FindsBySort kind caps parts file found
unlisted_found sort.Elf is caps parts file found at = absurd (elf_listed is)
unlisted_found sort.Archive is caps parts file found at = absurd (archive_listed is)
unlisted_found sort.Thin is caps parts file found at = at
unlisted_found sort.Foreign is caps parts file found at = at
unlisted_found sort.Undecided is caps parts file found at = at
