-- What consecutive reads request.
use Rattle.std.proofs.Common.{ℕ, ◌+◌, ◌≤◌, ◌≡◌, nat_le, Bool, true, false, Result, Ok, Err, List, take, length, refl, sym, ap, arith}
use Rattle.std.proofs.lemmas.Bool.Decides.{nat_tests}
use Rattle.elf_model.specs.Prelude.{MemberWalkState, cost_where, header_cost, is_elsewhere, long_name_bytes, name_field, slice}
use Rattle.elf_source.specs.Source.{CountedState, ReadsUpTo}
use Rattle.elf_source.proofs.ReadsLaws.{ReadsUpTo-none, ReadsUpTo-then, ReadsUpTo-to, IsSourceFault-then, ExceedsBudget-then}
use Rattle.elf_table.specs.Prelude.{IsReadFault}
use Rattle.elf_table.specs.declared.fault.Fault.{Fault}
use Rattle.elf_table.specs.declared.fault.Fault.TheVariants.{Refused, Source}
use Rattle.elf_archive.specs.Members.{AsksAtMost, member_name_cost}
use Rattle.elf_archive.proofs.MemberLaws.{name-of}

-- reads after others, in a bound on all
pub IsReadFault-then : (a b c : CountedState) (fault : Fault) (n m k : ℕ) → n + m ≤ k → ReadsUpTo a b n → IsReadFault b c m fault → IsReadFault a c k fault
IsReadFault-then a b c (Refused refusal) n m k within p q = λ is.
    let over = q is in (rw (sym p.keeps.same_size) over.0, ExceedsBudget-then n k (omega (arith, p.at_most)) p over.1, over.2)
IsReadFault-then a b c (Source fault at) n m k within p q = (IsSourceFault-then a.seen b.seen c.seen fault p.keeps q.0, q.1)

pub CountsRead-then : {X : Type 0} (a b c : CountedState) (result : Result X Fault) (n m k : ℕ) → n + m ≤ k → ReadsUpTo a b n → AsksAtMost b c result m → AsksAtMost a c result k
CountsRead-then a b c (Ok x) n m k within p q = (ReadsUpTo-to (ReadsUpTo-then p q.0) (omega (arith, p.at_most, q.0.at_most)), tt)
CountsRead-then a b c (Err fault) n m k within p q = (ReadsUpTo-to (ReadsUpTo-then p q.0) (omega (arith, p.at_most, q.0.at_most)), IsReadFault-then a b c fault n m k within p q.1)

pub CountsRead-to : {X : Type 0} (a b : CountedState) (result : Result X Fault) (n k : ℕ) → n ≤ k → AsksAtMost a b result n → AsksAtMost a b result k
CountsRead-to a b result n k within p = CountsRead-then a a b result 0 n k (omega (arith, within)) (ReadsUpTo-none a 0) p

-- a cost if there is room
pub where_room : (at size n : ℕ) → at + 60 ≤ size → cost_where (nat_le (at + 60) size) n ≡ n
where_room at size n room = let yes : nat_le (at + 60) size ≡ true = grind (arith, nat_tests) in rw yes refl

pub where_more : (t : Bool) (n m : ℕ) → n ≤ m → cost_where t n ≤ cost_where t m
where_more true n m within = within
where_more false n m within = omega arith

where_most : (t : Bool) (n : ℕ) → cost_where t n ≤ n
where_most true n = omega arith
where_most false n = omega arith

-- what a header costs at most
pub name_most : (header : List ℕ) (cap : ℕ) → member_name_cost header cap ≤ long_name_bytes cap
name_most header cap = where_most (is_elsewhere (take 16 header)) (long_name_bytes cap)

pub header_some : (file header : List ℕ) (cap at : ℕ) (p : MemberWalkState) → p.at ≡ at → header ≡ slice file at 60 → at + 60 ≤ length file → header_cost file cap p ≡ 60 + member_name_cost header cap
unfolding header_cost
header_some file header cap at p is read room =
    let same : member_name_cost header cap ≡ cost_where (is_elsewhere (name_field file at)) (long_name_bytes cap) =
    ap (λ field. cost_where (is_elsewhere field) (long_name_bytes cap)) (name-of file header at read) in
    rw (is, where_room at (length file) (60 + cost_where (is_elsewhere (name_field file at)) (long_name_bytes cap)) room, same) refl

pub header_least : (file : List ℕ) (cap : ℕ) (p : MemberWalkState) → cost_where (nat_le (p.at + 60) (length file)) 60 ≤ header_cost file cap p
unfolding header_cost
header_least file cap p = where_more (nat_le (p.at + 60) (length file)) 60 _ (omega arith)
