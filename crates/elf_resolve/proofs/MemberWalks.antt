-- The members of an archive, one after the other: each lies within the file, and their headers
-- ascend.
use Rattle.std.proofs.Common.{◌≡◌, ℕ, zero, suc, ◌+◌, ◌-◌, ◌<◌, ◌≤◌, Bool, true, false, nat_lt, List, [], ◌∷◌, length, get_or, Option, None, Some, Result, Ok, Err, refl, ap, arith}
use Rattle.std.specs.Prelude.{if◌then◌else◌}
use Rattle.std.proofs.lemmas.Bool.Decides.{nat_tests}
use Rattle.elf_model.specs.Archive.{FileRange, data_after, member_data, member_size, name_field, name_in_data, padded_end, parsed_member_size}
use Rattle.elf_model.specs.LinkArchives.{LinkMembers, link_members, link_members_from, no_member, with_link_member}
use Rattle.elf_model.specs.declared.causes.Cause.{Cause}
use Rattle.elf_model.specs.declared.causes.Cause.TheVariants.{MemberCut}
use Rattle.elf_model.specs.declared.causes.Refusal.{Refusal}

-- one fewer, if there is one
unfoldable pub one_fewer : ℕ → ℕ
one_fewer zero = zero
one_fewer (suc n) = n

-- no member begins after the end of the file
pub from_end : (file : List ℕ) (most at : ℕ) → length file ≤ at → link_members_from most file at ≡ record { members = []; refusal = None }
unfolding link_members_from
from_end file zero at past = refl
from_end file (suc most) at past =
    let no : nat_lt at (length file) ≡ false = grind (arith, nat_tests) in rw (no, link_members_from) refl

pub from_cut : (file : List ℕ) (most at : ℕ) (cause : Cause) → length file < at + most → at < length file → member_data file at ≡ Err cause
    → link_members_from most file at ≡ record { members = []; refusal = Some (record { at = at; cause = cause }) }
unfolding link_members_from
from_cut file zero at cause enough below cut = absurd (omega arith)
from_cut file (suc most) at cause enough below cut =
    let yes : nat_lt at (length file) ≡ true = grind (arith, nat_tests) in rw (yes, cut, link_members_from) refl

pub from_member : (file : List ℕ) (most at : ℕ) (extent : FileRange) → length file < at + most → at < length file → member_data file at ≡ Ok extent
    → link_members_from most file at ≡ with_link_member (record { header = at; extent = extent }) (link_members_from (one_fewer most) file (padded_end at (extent.at + extent.size)))
unfolding link_members_from one_fewer
from_member file zero at extent enough below told = absurd (omega arith)
from_member file (suc most) at extent enough below told =
    let yes : nat_lt at (length file) ≡ true = grind (arith, nat_tests) in rw (yes, told, link_members_from) refl

pub fewer_by_one : (n : ℕ) → n ≤ one_fewer n + 1
unfolding one_fewer
fewer_by_one zero = omega arith
fewer_by_one (suc n) = omega arith

no_size_past : (file : List ℕ) (at : ℕ) → length file ≤ at → member_size file at ≡ Err MemberCut
unfolding member_size
no_size_past file at past =
    let cut : nat_lt (length file) (at + 60) ≡ true = grind (arith, nat_tests) in rw (cut, member_size) refl

after_name : (t : Bool) (at size name : ℕ) (extent : FileRange) → data_after at size name ≡ Ok extent → nat_lt size name ≡ t → at ≤ extent.at
unfolding data_after
after_name true at size name extent told is = let cut = rw is at told in absurd (cc)
after_name false at size name extent told is =
    let whole = rw is at told in
    let same : (record { at = at + name; size = size - name }) ≡ extent = cc in
    omega (arith, ap (λ (e : FileRange). e.at) same)

after_header : (size : Result ℕ Cause) (file : List ℕ) (at : ℕ) (extent : FileRange) → member_size file at ≡ size → member_data file at ≡ Ok extent → at + 60 ≤ extent.at
unfolding member_data
after_header (Err cause) file at extent is told = let cut = rw (is, member_data) at told in absurd (cc)
after_header (Ok size) file at extent is told =
    let whole = rw (is, member_data) at told in
    after_name (nat_lt size (name_in_data (name_field file at))) (at + 60) size (name_in_data (name_field file at)) extent whole refl

-- there is no member after the end of the file
pub no_data_past : (file : List ℕ) (at : ℕ) → length file ≤ at → member_data file at ≡ Err MemberCut
unfolding member_data
no_data_past file at past =
    let none : member_size file at ≡ Err MemberCut = no_size_past file at past in rw (none, member_data) refl

-- the data of a member are after its header
pub data_after_header : (file : List ℕ) (at : ℕ) (extent : FileRange) → member_data file at ≡ Ok extent → at + 60 ≤ extent.at
data_after_header file at extent told = after_header (member_size file at) file at extent refl told

within_by : (t : Bool) (at size name : ℕ) (extent : FileRange) → data_after at size name ≡ Ok extent → nat_lt size name ≡ t → extent.at + extent.size ≤ at + size
unfolding data_after
within_by true at size name extent told is = let cut = rw is at told in absurd (cc)
within_by false at size name extent told is =
    let whole = rw is at told in
    let same : (record { at = at + name; size = size - name }) ≡ extent = cc in
    let enough : name ≤ size = grind (arith, nat_tests) in
    omega (arith, enough, ap (λ (e : FileRange). e.at) same, ap (λ (e : FileRange). e.size) same)

size_fits : (long : Bool) (file : List ℕ) (at given size : ℕ) → nat_lt (length file) (at + 60 + given) ≡ long → (if long then Err MemberCut else Ok given) ≡ Ok size → at + 60 + size ≤ length file
size_fits true file at given size is told = absurd (cc)
size_fits false file at given size is told =
    let same : given ≡ size = cc in
    let enough : at + 60 + given ≤ length file = grind (arith, nat_tests) in
    omega (arith, same, enough)

sized : (given : Option ℕ) (short : Bool) (file : List ℕ) (at size : ℕ) → parsed_member_size file at ≡ given → nat_lt (length file) (at + 60) ≡ short → member_size file at ≡ Ok size → at + 60 + size ≤ length file
unfolding member_size
sized given true file at size is cut told = let none = rw (cut, member_size) at told in absurd (cc)
sized None false file at size is whole told = let none = rw (whole, is, member_size) at told in absurd (cc)
sized (Some given) false file at size is whole told =
    size_fits (nat_lt (length file) (at + 60 + given)) file at given size refl (rw (whole, is, member_size) at told)

end_by : (size : Result ℕ Cause) (file : List ℕ) (at : ℕ) (extent : FileRange) → member_size file at ≡ size → member_data file at ≡ Ok extent → extent.at + extent.size ≤ length file
unfolding member_data
end_by (Err cause) file at extent is told = let cut = rw (is, member_data) at told in absurd (cc)
end_by (Ok size) file at extent is told =
    let whole = rw (is, member_data) at told in
    omega (
      arith,
      within_by (nat_lt size (name_in_data (name_field file at))) (at + 60) size (name_in_data (name_field file at)) extent whole refl,
      sized (parsed_member_size file at) (nat_lt (length file) (at + 60)) file at size refl refl is,
    )

-- they end within the file
pub data_within_file : (file : List ℕ) (at : ℕ) (extent : FileRange) → member_data file at ≡ Ok extent → extent.at + extent.size ≤ length file
data_within_file file at extent told = end_by (member_size file at) file at extent refl told

-- WHAT A WALK FINDS: the headers ascend from an offset on, and each member has the data that its
-- header gives
pub record FindsMembers (file : List ℕ) (at : ℕ) (walk : LinkMembers) : Type 0 where
  pub rises : (k : ℕ) → k + 1 < length walk.members → (get_or walk.members k no_member).header < (get_or walk.members (k + 1) no_member).header
  pub starts : 0 < length walk.members → at ≤ (get_or walk.members 0 no_member).header
  pub told : (k : ℕ) → k < length walk.members → member_data file (get_or walk.members k no_member).header ≡ Ok (get_or walk.members k no_member).extent
  pub apart : (k : ℕ) → k + 1 < length walk.members → (get_or walk.members k no_member).extent.at ≤ (get_or walk.members (k + 1) no_member).header

none_found : (file : List ℕ) (at : ℕ) (refusal : Option Refusal) → FindsMembers file at (record { members = []; refusal = refusal })
none_found file at refusal = record {
  rises = λ k below. absurd (omega (arith, below));
  starts = λ below. absurd (omega (arith, below));
  told = λ k below. absurd (omega (arith, below));
  apart = λ k below. absurd (omega (arith, below));
}

module _ (file : List ℕ) (at next : ℕ) (extent : FileRange) (rest : LinkMembers) (told : member_data file at ≡ Ok extent) (further : at < next) (past : extent.at ≤ next) (finds : FindsMembers file next rest) where
  rise_after : (k : ℕ) → k + 1 < suc (length rest.members) → (get_or (record { header = at; extent = extent } ∷ rest.members) k no_member).header < (get_or rest.members k no_member).header
  rise_after zero below = omega (arith, finds.starts (omega (arith, below)))
  rise_after (suc k) below =
      let more : (suc k) ≡ k + 1 = omega arith in
      omega (arith, finds.rises k (omega (arith, below)), ap (λ i. (get_or rest.members i no_member).header) more)

  apart_after : (k : ℕ) → k + 1 < suc (length rest.members) → (get_or (record { header = at; extent = extent } ∷ rest.members) k no_member).extent.at ≤ (get_or rest.members k no_member).header
  apart_after zero below = omega (arith, finds.starts (omega (arith, below)))
  apart_after (suc k) below =
      let more : (suc k) ≡ k + 1 = omega arith in
      omega (arith, finds.apart k (omega (arith, below)), ap (λ i. (get_or rest.members i no_member).header) more)

  told_after : (k : ℕ) → k < suc (length rest.members) → member_data file (get_or (record { header = at; extent = extent } ∷ rest.members) k no_member).header ≡ Ok (get_or (record { header = at; extent = extent } ∷ rest.members) k no_member).extent
  told_after zero below = told
  told_after (suc k) below = finds.told k (omega (arith, below))

  one_found : FindsMembers file at (with_link_member (record { header = at; extent = extent }) rest)
  one_found = record {
    rises = λ k below.
        let more : k + 1 ≡ suc k = omega arith in
        omega (arith, rise_after k (omega (arith, below)), ap (λ i. (get_or (record { header = at; extent = extent } ∷ rest.members) i no_member).header) more);
    starts = λ below. omega arith;
    told = λ k below. told_after k below;
    apart = λ k below.
        let more : k + 1 ≡ suc k = omega arith in
        omega (arith, apart_after k (omega (arith, below)), ap (λ i. (get_or (record { header = at; extent = extent } ∷ rest.members) i no_member).header) more);
  }

finds_step : (below : Bool) (found : Result FileRange Cause) (most : ℕ) (file : List ℕ) (at : ℕ) → nat_lt at (length file) ≡ below → member_data file at ≡ found → ((at : ℕ) → FindsMembers file at (link_members_from most file at))
    → FindsMembers file at (link_members_from (suc most) file at)
unfolding link_members_from
finds_step false found most file at ends is rest = rw (ends, link_members_from) (none_found file at None)
finds_step true (Err cause) most file at below is rest = rw (below, is, link_members_from) (none_found file at (Some (record { at = at; cause = cause })))
finds_step true (Ok extent) most file at below is rest =
    let next = padded_end at (extent.at + extent.size) in
    rw (below, is, link_members_from) (one_found file at next extent (link_members_from most file next) is (omega (arith, data_after_header file at extent is)) (omega arith) (rest next))

finds_from : (most : ℕ) (file : List ℕ) (at : ℕ) → FindsMembers file at (link_members_from most file at)
unfolding link_members_from
finds_from zero file at = none_found file at None
finds_from (suc most) file at = finds_step (nat_lt at (length file)) (member_data file at) most file at refl refl (finds_from most file)

-- the members of an archive
pub finds_members : (file : List ℕ) → FindsMembers file 8 (link_members file)
finds_members file = finds_from (length file) file 8
