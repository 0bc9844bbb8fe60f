-- The line of a member that was deferred, and what was listed after it.
use Rattle.std.proofs.Common.{◌≡◌, ℕ, Bool, false, List, [], ◌∷◌, ◌++◌, None, Some, Result, Ok, Err, refl, ap, ◌∙◌}
use Rattle.std.specs.Prelude.{IfOk}
use Rattle.elf_model.specs.Prelude.{Fault, Line, ListingItem, before_some, fault_of, line_before, lines_of, told}
use Rattle.elf_model.specs.declared.formats.Format.{Format}
use Rattle.elf_model.specs.declared.causes.Refusal.{Refusal}
use Rattle.elf_model.proofs.ListingLemmas.{listings_append}
use Rattle.elf_source.specs.Prelude.{CountedState, EndsLine, FailsOutput, KeepsDeferred, OutGrows, OutState, SinkTakes, SinkTakesPrefix, before_text}
use Rattle.elf_source.specs.declared.holding_sink.DeferredLine.{DeferredLine}
use Rattle.elf_source.specs.declared.faults.OutFault.{OutFault}
use Rattle.elf_source.proofs.PutsLaws.{SinkTakesPrefix-more}
use Rattle.elf_source.proofs.LineLaws.{broken_takes, line_ends, line_fails, line_front}
use Rattle.elf_table.specs.declared.run_fault.RunFault.TheVariants.{Out}
use Rattle.elf_table.specs.declared.run_fault.RunFault.{RunFault}
use Rattle.elf_table.specs.declared.run_fault.RunFault.TheVariants.{Refused, Source}
use Rattle.elf_listing.specs.Shows.{WrotePrefix, WroteUntilStop, WroteSome}
use Rattle.elf_listing.proofs.RowLaws.{Whole-line}
use Rattle.elf_listing.proofs.ShowLaws.{WroteUntilStop-then, Whole-then}
use Rattle.elf_archive.specs.Listed.{ReadsAtMostIn, AnswersAfter}

-- items that are reported have no fault
pub told_clean : (format : Format) (items : List ListingItem) → fault_of (told format items) ≡ None
told_clean format [] = refl
told_clean format (Line text ∷ items) = told_clean format items
told_clean format (Fault refusal ∷ items) = refl

-- a line before a text, or before none
some_lines : (text line : List ℕ) (items : List ListingItem) → lines_of items ≡ text → lines_of (before_some text (Line line ∷ items)) ≡ before_text line text
some_lines [] line items is = refl
some_lines (byte ∷ text) line items is = ap (λ l. line ++ l) is

lines_before : (line : List ℕ) (items : List ListingItem) → lines_of (line_before false line items) ≡ before_text line (lines_of items)
lines_before line items = some_lines (lines_of items) line items refl

some_clean : (text line : List ℕ) (items : List ListingItem) → fault_of items ≡ None → fault_of (before_some text (Line line ∷ items)) ≡ None
some_clean [] line items none = refl
some_clean (byte ∷ text) line items none = none

-- if items begin with lines of at least one byte, the line is kept
is_at : (text line : List ℕ) (items : List ListingItem) (byte : ℕ) (bytes : List ℕ) → text ≡ byte ∷ bytes → before_some text (Line line ∷ items) ≡ Line line ∷ items
is_at text line items byte bytes is = rw is refl

-- a line that is written alone
pub line_writes : (began mid new : OutState) (line : List ℕ) (items : List ListingItem) (result : Result Bool RunFault) → SinkTakes began mid line → WroteSome mid new result items → WroteSome began new result (Line line ∷ items)
line_writes began mid new line items (Ok refused) p q = Whole-then (Whole-line line p) q
line_writes began mid new line items (Err stop) p q = WroteUntilStop-then began mid new stop (Line line ∷ []) items (Whole-line line p) q

-- a line that is written alone, of which a prefix was written
pub line_fails_first : (old new : OutState) (line : List ℕ) (items : List ListingItem) (fault : OutFault) → SinkTakesPrefix old new line → WroteUntilStop old new (Out fault) (Line line ∷ items)
line_fails_first old new line items fault p = SinkTakesPrefix-more line (lines_of items) p

-- nothing was written of an output that failed permanently
pub broken_stops : (old new : OutState) (fault : OutFault) (items : List ListingItem) → FailsOutput old new fault → WroteUntilStop old new (Out fault) items
broken_stops old new fault items p = record { front = []; rest = lines_of items; split = refl; takes = broken_takes old new fault p }

module _ (began mid old new : OutState) (line : List ℕ) (held : DeferredLine) (p : KeepsDeferred began mid line held) (ends : EndsLine held old new) where
  -- a prefix of a listing after the line
  held_front : (items : List ListingItem) → WrotePrefix mid old items → WrotePrefix began new (line_before false line items)
  held_front items q = by_text (lines_of q.front) refl
    where
      by_text : (text : List ℕ) → lines_of q.front ≡ text → WrotePrefix began new (line_before false line items)
      by_text [] is = record {
        front = [];
        rest = line_before false line items;
        split = refl;
        takes = line_ends began mid old line held p new [] (rw is at q.takes) ends;
        no_fault = refl;
      }
      by_text (byte ∷ bytes) is =
          let all : lines_of items ≡ (byte ∷ bytes) ++ lines_of q.rest = ap lines_of q.split ∙ ((listings_append q.front q.rest q.no_fault).0 ∙ ap (λ l. l ++ lines_of q.rest) is) in
          record {
            front = Line line ∷ q.front;
            rest = q.rest;
            split = is_at (lines_of items) line items byte (bytes ++ lines_of q.rest) all ∙ ap (λ rest. Line line ∷ rest) q.split;
            takes = rw is (line_ends began mid old line held p new (byte ∷ bytes) (rw is at q.takes) ends);
            no_fault = q.no_fault;
          }

  -- items without a fault do not go on with one
  no_next : (items front rest behind : List ListingItem) (refusal : Refusal) → fault_of items ≡ None → items ≡ front ++ rest → fault_of front ≡ None → rest ≡ Fault refusal ∷ behind → ⊥
  no_next items front rest behind refusal none split clean is =
      let some : fault_of items ≡ Some refusal = ap fault_of split ∙ (ap (λ r. fault_of (front ++ r)) is ∙ (listings_append front (Fault refusal ∷ behind) clean).1) in
      cc

  -- WHAT WAS WRITTEN after the line, and the line
  pub held_writes : (listed result : Result Bool RunFault) (items : List ListingItem) → fault_of items ≡ None → AnswersAfter listed new result → WroteSome mid old listed items
      → WroteSome began new result (line_before false line items)
  held_writes (Ok refused) result items clean is q =
      rw is (record {
        takes = rw (lines_before line items) (line_ends began mid old line held p new (lines_of items) q.takes ends);
        no_fault = some_clean (lines_of items) line items q.no_fault;
      })
  held_writes (Err (Refused refusal)) result items clean is q =
      rw is (record {
        front = held_front items q.front;
        next = λ other. absurd (no_next items q.front.front q.front.rest (q.next other).later refusal clean q.front.split q.front.no_fault (q.next other).is_next);
      })
  held_writes (Err (Source fault at)) result items clean is q = rw is (held_front items q)
  held_writes (Err (Out fault)) result items clean is q =
      rw (is.1, lines_before line items) (line_front began mid old line held p new (lines_of items) q ends)

  -- what it read of the source
  pub held_consumes : (a b : CountedState) (n : ℕ) (listed result : Result Bool RunFault) → OutGrows mid old → AnswersAfter listed new result → ReadsAtMostIn a b old listed n → ReadsAtMostIn a b new result n
  held_consumes a b n (Ok refused) result grows is q = rw is q
  held_consumes a b n (Err (Refused refusal)) result grows is q = rw is q
  held_consumes a b n (Err (Source fault at)) result grows is q = rw is q
  held_consumes a b n (Err (Out fault)) result grows is q =
      rw is.1 (
        q.0,
        record {
          failed = line_fails began mid old line held p new grows.bytes grows.takes ends ∙ q.1.failed;
          tells = is.2;
        },
      )

  -- what was written, for any source
  pub held_grows : OutGrows mid old → OutGrows began new
  held_grows q = record { bytes = before_text line q.bytes; takes = line_ends began mid old line held p new q.bytes q.takes ends }

-- whether a listing was refused is the same after its line
pub held_refused : (listed result : Result Bool RunFault) (new : OutState) (any : Bool) → AnswersAfter listed new result → IfOk listed (λ refused. refused ≡ any) → IfOk result (λ refused. refused ≡ any)
held_refused (Ok refused) result new any is p = rw is p
held_refused (Err (Refused refusal)) result new any is p = rw is tt
held_refused (Err (Source fault at)) result new any is p = rw is tt
held_refused (Err (Out fault)) result new any is p = rw is.1 tt
