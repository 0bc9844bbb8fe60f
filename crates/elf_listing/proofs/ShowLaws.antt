-- The result of writing one part after another.
use Rattle.std.proofs.Common.{ℕ, ◌+◌, ◌≤◌, List, [], ◌++◌, Result, Ok, Err, refl, sym, ap, ◌∙◌, arith, append_assoc}
use Rattle.elf_source.specs.Prelude.{CountedState, OutState, ReadsUpTo}
use Rattle.elf_source.proofs.PutsLaws.{SinkTakes-nothing, SinkTakes-then, SinkTakesPrefix-then, SinkTakesPrefix-more}
use Rattle.elf_source.proofs.ReadsLaws.{ReadsUpTo-to, ReadsUpTo-then, IsSourceFault-then, ExceedsBudget-then, ExceedsBudget-more}
use Rattle.elf_note.specs.Ahead.{ReadsOnCredit}
use Rattle.elf_note.proofs.SpendsLaws.{SpendsAtMost-reads, SpendsAtMost-then, SpendsAtMost-to}
use Rattle.elf_table.specs.Prelude.{IsAt, IsReadFault, stop_of}
use Rattle.elf_table.specs.declared.fault.Fault.{Fault}
use Rattle.elf_table.specs.declared.run_fault.RunFault.TheVariants.{Out}
use Rattle.elf_table.specs.declared.run_fault.RunFault.{RunFault}
use Rattle.elf_model.specs.Prelude.{ListingItem, lines_of}
use Rattle.elf_model.specs.declared.causes.Refusal.{Refusal}
use Rattle.elf_table.specs.declared.fault.Fault.TheVariants.{Refused as Refuses, Source as Unread}
use Rattle.elf_listing.specs.Shows.{WroteItems, WrotePrefix, WroteUntilStop, WroteSome, StopSays, IsOfOutput, ListingCosts, SpentCredit}
use Rattle.elf_table.specs.declared.run_fault.RunFault.TheVariants.{Refused, Source}
use Rattle.elf_model.proofs.ListingLemmas.{listings_append}
use Rattle.elf_listing.proofs.EachLaws.{lines_front}

-- nothing was written
pub Whole-none : (a : OutState) → WroteItems a a []
Whole-none a = record { takes = SinkTakes-nothing a; no_fault = refl }

pub Whole-then : {a b c : OutState} {xs ys : List ListingItem} → WroteItems a b xs → WroteItems b c ys → WroteItems a c (xs ++ ys)
Whole-then {xs = xs} {ys = ys} p q = record {
  takes = rw ((listings_append xs ys p.no_fault).0) (SinkTakes-then (lines_of xs) (lines_of ys) p.takes q.takes);
  no_fault = (listings_append xs ys p.no_fault).1 ∙ q.no_fault;
}

pub WrotePrefix-then : {a b c : OutState} {xs ys : List ListingItem} → WroteItems a b xs → WrotePrefix b c ys → WrotePrefix a c (xs ++ ys)
WrotePrefix-then {xs = xs} {ys = ys} p q = record {
  front = xs ++ q.front;
  rest = q.rest;
  split = ap (λ zs. xs ++ zs) q.split ∙ sym (append_assoc xs q.front q.rest);
  takes = rw ((listings_append xs q.front p.no_fault).0) (SinkTakes-then (lines_of xs) (lines_of q.front) p.takes q.takes);
  no_fault = (listings_append xs q.front p.no_fault).1 ∙ q.no_fault;
}

pub WrotePrefix-more : {a b : OutState} {xs : List ListingItem} (ys : List ListingItem) → WrotePrefix a b xs → WrotePrefix a b (xs ++ ys)
WrotePrefix-more ys p = record {
  front = p.front;
  rest = p.rest ++ ys;
  split = ap (λ zs. zs ++ ys) p.split ∙ append_assoc p.front p.rest ys;
  takes = p.takes;
  no_fault = p.no_fault;
}

-- all of some items were written, and none of those after them
pub WrotePrefix-all : {a b : OutState} {xs : List ListingItem} (ys : List ListingItem) → WroteItems a b xs → WrotePrefix a b (xs ++ ys)
WrotePrefix-all {xs = xs} ys p = record { front = xs; rest = ys; split = refl; takes = p.takes; no_fault = p.no_fault }

-- a part was written whole, and the next failed
pub WroteUntilStop-then : (a b c : OutState) (stop : RunFault) (xs ys : List ListingItem) → WroteItems a b xs → WroteUntilStop b c stop ys → WroteUntilStop a c stop (xs ++ ys)
unfolding WrotePrefix-then
WroteUntilStop-then a b c (Refused refusal) xs ys p q = record { front = WrotePrefix-then p q.front; next = q.next }
WroteUntilStop-then a b c (Source fault at) xs ys p q = WrotePrefix-then p q
WroteUntilStop-then a b c (Out fault) xs ys p q = rw ((listings_append xs ys p.no_fault).0) (SinkTakesPrefix-then (lines_of xs) (lines_of ys) p.takes q)

-- a part was written whole, and then another was written up to here
pub WroteSome-then : {X : Type 0} (a b c : OutState) (result : Result X RunFault) (xs ys : List ListingItem) → WroteItems a b xs → WroteSome b c result ys → WroteSome a c result (xs ++ ys)
WroteSome-then a b c (Ok x) xs ys p q = Whole-then p q
WroteSome-then a b c (Err stop) xs ys p q = WroteUntilStop-then a b c stop xs ys p q

-- a part failed, and nothing after it was written
pub WroteUntilStop-more : (a b : OutState) (stop : RunFault) (xs ys : List ListingItem) → WroteUntilStop a b stop xs → WroteUntilStop a b stop (xs ++ ys)
unfolding WrotePrefix-more
WroteUntilStop-more a b (Refused refusal) xs ys p = record {
  front = WrotePrefix-more ys p.front;
  next = λ other. let n = p.next other in record { later = n.later ++ ys; is_next = ap (λ zs. zs ++ ys) n.is_next };
}
WroteUntilStop-more a b (Source fault at) xs ys p = WrotePrefix-more ys p
WroteUntilStop-more a b (Out fault) xs ys p =
    let more = lines_front xs ys in rw more.1 (SinkTakesPrefix-more (lines_of xs) more.0 p)

-- a read failed after a part that was written whole
pub WroteUntilStop-unread : (a b : OutState) (fault : Fault) (at : ℕ) (xs ys : List ListingItem) → IsAt at fault → WroteItems a b xs → WroteUntilStop a b (stop_of fault) (xs ++ ys)
WroteUntilStop-unread a b (Refuses refusal) at xs ys is p =
    record { front = WrotePrefix-all ys p; next = λ other. absurd (other (ap (λ (r : Refusal). r.cause) is)) }
WroteUntilStop-unread a b (Unread fault offset) at xs ys is p = WrotePrefix-all ys p

-- a fault after other calls, in a bound on all
pub StopSays-then : (a b c : CountedState) (out : OutState) (stop : RunFault) (n m k : ℕ) → b.asked + m ≤ a.asked + k → ReadsUpTo a b n → StopSays b c out m stop → StopSays a c out k stop
StopSays-then a b c out (Refused refusal) n m k within p q = λ is.
    let over = q is in (rw (sym p.keeps.same_size) over.0, ExceedsBudget-then n k within p over.1, over.2)
StopSays-then a b c out (Source fault at) n m k within p q = (IsSourceFault-then a.seen b.seen c.seen fault p.keeps q.0, q.1)
StopSays-then a b c out (Out fault) n m k within p q = q

-- a read fault is a fault
pub StopSays-fault : (a b : CountedState) (out : OutState) (fault : Fault) (n k : ℕ) → n ≤ k → IsReadFault a b n fault → StopSays a b out k (stop_of fault)
StopSays-fault a b out (Refuses refusal) n k within q = λ is. let over = q is in (over.0, ExceedsBudget-more within over.1, over.2)
StopSays-fault a b out (Unread fault at) n k within q = q

-- a call after reads, in a bound on all
pub ListingCosts-then : {X : Type 0} (a b c : CountedState) (out : OutState) (result : Result X RunFault) (n m k : ℕ) → b.asked + m ≤ a.asked + k → ReadsUpTo a b n → ListingCosts b c out result m → ListingCosts a c out result k
ListingCosts-then a b c out (Ok x) n m k within p q = (ReadsUpTo-to (ReadsUpTo-then p q.0) (omega (arith, q.0.at_most)), tt)
ListingCosts-then a b c out (Err stop) n m k within p q = (ReadsUpTo-to (ReadsUpTo-then p q.0) (omega (arith, q.0.at_most)), StopSays-then a b c out stop n m k within p q.1)

-- a read that failed, in a looser bound
pub ListingCosts-fault : (a b : CountedState) (out : OutState) (fault : Fault) (n k : ℕ) → n ≤ k → ReadsUpTo a b n → IsReadFault a b n fault → ListingCosts {X = Unit {0}} a b out (Err (stop_of fault)) k
ListingCosts-fault a b out fault n k within p q = (ReadsUpTo-to p (omega (arith, p.at_most)), StopSays-fault a b out fault n k within q)

-- a read that failed after others
pub ListingCosts-later : (a b c : CountedState) (out : OutState) (fault : Fault) (n m k : ℕ) → b.asked + m ≤ a.asked + k → ReadsUpTo a b n → ReadsUpTo b c m → IsReadFault b c m fault
    → ListingCosts {X = Unit {0}} a c out (Err (stop_of fault)) k
ListingCosts-later a b c out fault n m k within p q r = ListingCosts-then {X = Unit {0}} a b c out (Err (stop_of fault)) n m k within p (ListingCosts-fault b c out fault m m (omega arith) q r)

-- a fault, in a looser bound
pub StopSays-more : (a b : CountedState) (out : OutState) (stop : RunFault) (n k : ℕ) → n ≤ k → StopSays a b out n stop → StopSays a b out k stop
StopSays-more a b out (Refused refusal) n k within q = λ is. let over = q is in (over.0, ExceedsBudget-more within over.1, over.2)
StopSays-more a b out (Source fault at) n k within q = q
StopSays-more a b out (Out fault) n k within q = q

-- a call in a looser bound
pub SpentCredit-within : {X : Type 0} (a b : CountedState) (out : OutState) (x y : ℕ) (result : Result X RunFault) (n k : ℕ) → n ≤ k → SpentCredit a b out x y result n → SpentCredit a b out x y result k
SpentCredit-within a b out x y (Ok v) n k within p = (SpendsAtMost-to p.0 (omega (arith, p.0.account)), tt)
SpentCredit-within a b out x y (Err stop) n k within p = (SpendsAtMost-to p.0 (omega (arith, p.0.account)), StopSays-more a b out stop (x + n) (x + k) (omega arith) p.1)

-- a call after reads, in a bound on all
pub SpentCredit-after : {X : Type 0} (a b c : CountedState) (out : OutState) (x y : ℕ) (result : Result X RunFault) (n m k : ℕ) → n + m ≤ k → ReadsUpTo a b n → SpentCredit b c out x y result m → SpentCredit a c out x y result k
SpentCredit-after a b c out x y (Ok v) n m k within p q = (SpendsAtMost-to (SpendsAtMost-then (SpendsAtMost-reads x p) q.0) (omega (arith, p.at_most, q.0.account)), tt)
SpentCredit-after a b c out x y (Err stop) n m k within p q =
    (SpendsAtMost-to (SpendsAtMost-then (SpendsAtMost-reads x p) q.0) (omega (arith, p.at_most, q.0.account)), StopSays-then a b c out stop n (x + m) (x + k) (omega (arith, p.at_most)) p q.1)

-- a call after one that has its own credit, in a bound on both
pub SpentCredit-then : {X : Type 0} (a b c : CountedState) (out : OutState) (x y z : ℕ) (result : Result X RunFault) (n m k : ℕ) → n + m ≤ k → ReadsOnCredit a b x y n → SpentCredit b c out y z result m → SpentCredit a c out x z result k
SpentCredit-then a b c out x y z (Ok v) n m k within p q = (SpendsAtMost-to (SpendsAtMost-then p q.0) (omega (arith, p.account, q.0.account)), tt)
SpentCredit-then a b c out x y z (Err stop) n m k within p q =
    (SpendsAtMost-to (SpendsAtMost-then p q.0) (omega (arith, p.account, q.0.account)), StopSays-then a b c out stop (x + n) (y + m) (x + k) (omega (arith, p.account)) p.reads q.1)

-- a read that failed and used no credit, in a looser bound
pub SpentCredit-fault : (a b : CountedState) (out : OutState) (x : ℕ) (fault : Fault) (n k : ℕ) → n ≤ k → ReadsUpTo a b n → IsReadFault a b n fault → SpentCredit {X = Unit {0}} a b out x x (Err (stop_of fault)) k
SpentCredit-fault a b out x fault n k within p q = (SpendsAtMost-reads x (ReadsUpTo-to p (omega (arith, p.at_most))), StopSays-fault a b out fault n (x + k) (omega arith) q)

-- a read that failed, in a looser bound
pub SpentCredit-failed : (a b : CountedState) (out : OutState) (x y : ℕ) (fault : Fault) (n k : ℕ) → n ≤ k → ReadsOnCredit a b x y n → IsReadFault a b (x + n) fault → SpentCredit {X = Unit {0}} a b out x y (Err (stop_of fault)) k
SpentCredit-failed a b out x y fault n k within p q = (SpendsAtMost-to p (omega (arith, p.account)), StopSays-fault a b out fault (x + n) (x + k) (omega arith) q)

-- the output failed after reads
pub ListingCosts-out : (a b : CountedState) (out : OutState) (stop : RunFault) (n k : ℕ) → n ≤ k → ReadsUpTo a b n → IsOfOutput out stop → ListingCosts {X = Unit {0}} a b out (Err stop) k
ListingCosts-out a b out (Refused refusal) n k within p q = absurd q
ListingCosts-out a b out (Source fault at) n k within p q = absurd q
ListingCosts-out a b out (Out fault) n k within p q = (ReadsUpTo-to p (omega (arith, p.at_most)), q)
