-- What a call of a listing did, by what the calls below it did.
use Rattle.std.proofs.Common.{ℕ, ◌≤◌, Result, Ok, Err, refl, ◌∙◌, arith}
use Rattle.elf_source.specs.declared.source.Source.{Ghosts as Sources}
use Rattle.elf_source.specs.declared.sink.Sink.{Ghosts as Sinks}
use Rattle.elf_source.proofs.GrowthLaws.{grows_not}
use Rattle.elf_note.proofs.SpendsLaws.{SpendsAtMost-none, SpendsAtMost-to}
use Rattle.elf_table.specs.Prelude.{IsOfCheck, stop_of}
use Rattle.elf_table.specs.declared.fault.Fault.{Fault}
use Rattle.elf_table.specs.declared.names.NameEnd.{NameEnd}
use Rattle.elf_table.specs.declared.run_fault.RunFault.{RunFault}
use Rattle.elf_table.specs.declared.names.NameEnd.TheVariants.{Whole}
use Rattle.elf_table.specs.declared.fault.Fault.TheVariants.{Refused, Source}
use Rattle.elf_listing.specs.Prelude.{ListingCalls, ListingReads, SameFile}
use Rattle.elf_listing.specs.declared.listing.Listing.{Listing}
use Rattle.elf_listing.proofs.ShowLaws.{SpentCredit-failed, SpentCredit-then, SpentCredit-within}

-- it is of the same file as before
SameFile-not : {S W : Type 0} {s : Sources S} {w : Sinks W} (a : Listing S W s w) → SameFile a a
SameFile-not a = record { same_src = refl; same_out = refl; same_file = refl; same_style = refl }

pub SameFile-then : {S W : Type 0} {s : Sources S} {w : Sinks W} {a b c : Listing S W s w} → SameFile a b → SameFile b c → SameFile a c
SameFile-then p q = record {
  same_src = q.same_src ∙ p.same_src;
  same_out = q.same_out ∙ p.same_out;
  same_file = q.same_file ∙ p.same_file;
  same_style = q.same_style ∙ p.same_style;
}

-- nothing is shown, and nothing was read
pub ListingCalls-nothing : {S W X : Type 0} {s : Sources S} {w : Sinks W} (a : Listing S W s w) (x : X) (n : ℕ) (shown : Type 0) → shown → ListingCalls a a (Ok x) n shown
ListingCalls-nothing a x n shown is = record {
  grows = grows_not _;
  keeps = SameFile-not a;
  spent = (SpendsAtMost-none _ _ _ _ (omega arith), tt);
  shows = is;
}

-- a check refused, and nothing was read
pub ListingCalls-refused : {S W : Type 0} {s : Sources S} {w : Sinks W} (a : Listing S W s w) (fault : Fault) (n : ℕ) (shown : Type 0)
    → IsOfCheck fault → shown → ListingCalls {X = Unit {0}} a a (Err (stop_of fault)) n shown
ListingCalls-refused a (Refused refusal) n shown check is = record {
  grows = grows_not _;
  keeps = SameFile-not a;
  spent = (SpendsAtMost-none _ _ _ _ (omega arith), λ budget. absurd (check budget));
  shows = is;
}
ListingCalls-refused a (Source fault at) n shown check is = absurd check

-- the name that was needed was not read
pub ListingCalls-unread : {S W : Type 0} {s : Sources S} {w : Sinks W} (a b : Listing S W s w) (fault : Fault) (n k : ℕ) (shown : Type 0)
    → n ≤ k → ListingReads {X = NameEnd} a b (Err fault) n → shown → ListingCalls {X = Unit {0}} a b (Err (stop_of fault)) k shown
ListingCalls-unread a b fault n k shown within p is = record {
  grows = rw p.1 (grows_not _);
  keeps = p.0;
  spent = SpentCredit-failed _ _ _ _ _ _ _ _ within p.2 p.3;
  shows = is;
}

-- a name was read, and its row is not shown
pub ListingCalls-hidden : {S W X : Type 0} {s : Sources S} {w : Sinks W} (a b : Listing S W s w) (x : X) (n k : ℕ) (shown : Type 0)
    → n ≤ k → ListingReads a b (Ok Whole) n → shown → ListingCalls a b (Ok x) k shown
ListingCalls-hidden a b x n k shown within p is = record {
  grows = rw p.1 (grows_not _);
  keeps = p.0;
  spent = (SpendsAtMost-to p.2 (let q = p.2 in omega (arith, within, q.account)), tt);
  shows = is;
}

-- a name was read, and then its line was written
pub ListingCalls-named : {S W X : Type 0} {s : Sources S} {w : Sinks W} (a b c : Listing S W s w) (result : Result X RunFault) (n k : ℕ) (read shown : Type 0)
    → n ≤ k → ListingReads a b (Ok Whole) n → ListingCalls b c result 0 read → shown → ListingCalls a c result k shown
ListingCalls-named a b c result n k read shown within p q is = record {
  grows = rw (← p.1) q.grows;
  keeps = SameFile-then p.0 q.keeps;
  spent = SpentCredit-then _ _ _ _ _ _ _ _ _ _ _ (omega (arith, within)) p.2 q.spent;
  shows = is;
}

-- what was read is within a larger bound
pub ListingCalls-within : {S W X : Type 0} {s : Sources S} {w : Sinks W} (a b : Listing S W s w) (result : Result X RunFault) (n k : ℕ) (read shown : Type 0)
    → n ≤ k → ListingCalls a b result n read → shown → ListingCalls a b result k shown
ListingCalls-within a b result n k read shown within p is = record {
  grows = p.grows;
  keeps = p.keeps;
  spent = SpentCredit-within _ _ _ _ _ _ _ _ within p.spent;
  shows = is;
}
