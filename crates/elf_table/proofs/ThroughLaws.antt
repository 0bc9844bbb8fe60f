-- Calls through a window, one after another.
use Rattle.std.proofs.Common.{ℕ, ◌+◌, ◌-◌, ◌≤◌, Some, Result, Ok, Err, IfErr, refl, ◌∙◌, arith}
use Rattle.elf_source.specs.Source.{SourceState, CountedState, ReadsUpTo}
use Rattle.elf_source.proofs.ReadsLaws.{ReadsUpTo-none, ReadsUpTo-then, ReadsUpTo-to}
use Rattle.elf_source.proofs.OnwardLaws.{onward_none, onward_then, onward_more}
use Rattle.elf_table.specs.Prelude.{IsReadFault, ReadsThroughWindow, Skips, WindowState, frontier}
use Rattle.elf_table.specs.declared.fault.Fault.{Fault}
use Rattle.elf_table.proofs.LedgerLaws.{CallReads-then}

says_after : {Y : Type 0} {a b c : CountedState} (result : Result Y Fault) (n m k : ℕ) → n + m ≤ k → ReadsUpTo a b n → ReadsUpTo b c m → IfErr result (IsReadFault b c m)
    → IfErr result (IsReadFault a c k)
says_after (Ok y) n m k within p q says = tt
says_after (Err fault) n m k within p q says =
    (CallReads-then {stop = Some fault} k within (record { reads = p; says = tt }) (record { reads = q; says = says })).says

-- no read
pub through_none : {X : Type 0} (one_read : SourceState → ℕ → ℕ → SourceState → Type 0) (a : CountedState) (w : WindowState) (x : X) → ReadsThroughWindow one_read a a w w (Ok x)
through_none one_read a w x = record {
  reads = ReadsUpTo-none a w.unread;
  says = tt;
  moves = record { same_page = refl; same_end = refl; onward = omega arith; account = omega arith };
  onward = onward_none one_read a.source a.source (frontier w) (frontier w) refl (omega arith);
  agrees = λ file held before. before;
}

-- a call that returned otherwise
pub through_ok :
    {X Y : Type 0} {one_read : SourceState → ℕ → ℕ → SourceState → Type 0} {a b : CountedState} {x y : WindowState} {was : X} (now : Y) → ReadsThroughWindow one_read a b x y (Ok was)
    → ReadsThroughWindow one_read a b x y (Ok now)
through_ok now p = record { reads = p.reads; says = tt; moves = p.moves; onward = p.onward; agrees = p.agrees }

-- a call after another that succeeded
pub through_then :
    {X Y : Type 0} {one_read : SourceState → ℕ → ℕ → SourceState → Type 0} {a b c : CountedState} {x y z : WindowState} {first : Result X Fault} {result : Result Y Fault}
    → ReadsThroughWindow one_read a b x y first → ReadsThroughWindow one_read b c y z result → ReadsThroughWindow one_read a c x z result
through_then {one_read = one_read} {a = a} {b = b} {c = c} {x = x} {y = y} {z = z} {result = result} p q =
    let spent : b.asked + y.unread ≤ a.asked + x.unread = p.moves.account in
    let grows : a.asked ≤ b.asked = p.reads.grows in
    let left : c.asked + z.unread ≤ b.asked + y.unread = q.moves.account in
    let most : c.asked ≤ b.asked + y.unread = q.reads.at_most in
    let reads : ReadsUpTo a b (x.unread - y.unread) = ReadsUpTo-to p.reads (omega (arith, spent, grows)) in
    record {
      reads = ReadsUpTo-to (ReadsUpTo-then p.reads q.reads) (omega (arith, spent, most));
      says = says_after result (x.unread - y.unread) y.unread x.unread (omega (arith, spent, grows)) reads q.reads q.says;
      moves = record {
        same_page = q.moves.same_page ∙ p.moves.same_page;
        same_end = q.moves.same_end ∙ p.moves.same_end;
        onward = omega (arith, p.moves.onward, q.moves.onward);
        account = omega (arith, spent, left);
      };
      onward = onward_then one_read a.source b.source c.source (frontier x) (frontier y) (frontier y) (frontier z) (omega arith) p.onward q.onward;
      agrees = λ file held before. q.agrees file (p.reads.keeps.same_file ∙ held) (p.agrees file held before);
    }

-- bytes that are skipped after a call
pub through_skip :
    {X : Type 0} {one_read : SourceState → ℕ → ℕ → SourceState → Type 0} {a b : CountedState} {x y z : WindowState} {first : Result X Fault} {count : ℕ}
    → ReadsThroughWindow one_read a b x y first → Skips y z count → ReadsThroughWindow one_read a b x z first
through_skip {one_read = one_read} {a = a} {b = b} {x = x} {y = y} {z = z} p s = record {
  reads = p.reads;
  says = p.says;
  moves = record {
    same_page = s.page ∙ p.moves.same_page;
    same_end = s.end ∙ p.moves.same_end;
    onward = omega (arith, p.moves.onward, s.at);
    account = omega (arith, p.moves.account, s.unread);
  };
  onward = onward_more one_read a.source b.source (frontier x) (frontier y) (frontier z) (omega (arith, s.end, s.unread)) p.onward;
  agrees = λ file held before. s.agrees file (p.agrees file held before);
}

-- a fault that is passed on
pub through_err :
    {X Y : Type 0} {one_read : SourceState → ℕ → ℕ → SourceState → Type 0} {a b : CountedState} {x y : WindowState} {fault : Fault} → ReadsThroughWindow {X = X} one_read a b x y (Err fault)
    → ReadsThroughWindow {X = Y} one_read a b x y (Err fault)
through_err p = record { reads = p.reads; says = p.says; moves = p.moves; onward = p.onward; agrees = p.agrees }
