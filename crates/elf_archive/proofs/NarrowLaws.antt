-- A call on a part of a source is one on the source.
use Rattle.std.proofs.Common.{◌≡◌, ℕ, false, ◌+◌, ◌<◌, ◌≤◌, List, take, drop, Option, Some, Result, Ok, Err, sym, ap, ◌∙◌, inl, inr, ◌⊎◌, arith}
use Rattle.elf_model.specs.Prelude.{IsBudgetRefusal}
use Rattle.elf_model.specs.declared.causes.Refusal.{Refusal}
use Rattle.elf_model.proofs.BudgetLaws.{is_budget_fault}
use Rattle.elf_source.specs.Prelude.{CountedState, ExceedsBudget, IsHonest, IsSourceFault, Narrows, OutState, RangeParent, ReadsUpTo, SameView, SourceState, Widens, file_within, seen_by}
use Rattle.elf_source.specs.declared.faults.SourceFault.TheVariants.{Device, Ended}
use Rattle.elf_source.specs.declared.faults.SourceFault.{SourceFault}
use Rattle.elf_table.specs.declared.run_fault.RunFault.TheVariants.{Out}
use Rattle.elf_table.specs.declared.run_fault.RunFault.{RunFault}
use Rattle.elf_table.specs.declared.run_fault.RunFault.TheVariants.{Refused, Source}
use Rattle.elf_listing.specs.Shows.{ListingCosts}
use Rattle.elf_archive.specs.Listed.{ReadsAtMostIn, EndsPart, IsAll, after_start}

-- what a source is a range of if it is a range of all bytes
abbrev all_of : SourceState → RangeParent
all_of seen = record { size = seen.size; file = seen.file }

some_is : {X : Type 0} {x y : X} → Some x ≡ Some y → x ≡ y
some_is e = cc

-- what it is a range of is the same before and after
same_whole : (a b c d : CountedState) (n start size : ℕ) → IsAll a → Narrows a b start size → ReadsUpTo b c n → Widens c d
    → Some (all_of d.seen) ≡ Some (all_of a.seen)
same_whole a b c d n start size whole narrows reads widens =
    sym widens.is_whole ∙ (widens.same_whole ∙ (reads.keeps.same_whole ∙ (narrows.same_whole ∙ whole.whole)))

-- if nothing is masked, what was given to be read is what is seen
all_shown : (c : CountedState) → c.hides ≡ false → c.seen ≡ seen_by false c.source
all_shown c shows = c.is_seen ∙ ap (λ b. seen_by b c.source) shows

-- so that it is kept if that is
same_view : (a d : CountedState) → a.hides ≡ false → d.hides ≡ false → all_of d.seen ≡ all_of a.seen → a.seen.failures ≤ d.seen.failures → d.seen.whole ≡ a.seen.whole → SameView a d
same_view a d first last same fewer whole =
    let p = all_shown a first in
    let q = all_shown d last in
    record {
      keeps = record {
        same_size = sym (ap (λ (s : SourceState). s.size) q) ∙ ap (λ (w : RangeParent). w.size) same ∙ ap (λ (s : SourceState). s.size) p;
        no_fewer = omega (arith, ap (λ (s : SourceState). s.failures) p, ap (λ (s : SourceState). s.failures) q, fewer);
        same_file = sym (ap (λ (s : SourceState). s.file) q) ∙ ap (λ (w : RangeParent). w.file) same ∙ ap (λ (s : SourceState). s.file) p;
        same_whole = sym (ap (λ (s : SourceState). s.whole) q) ∙ whole ∙ ap (λ (s : SourceState). s.whole) p;
      };
      hides = last ∙ sym first;
    }

-- the reads of a part are reads of the source
pub part_reads : (a b c d : CountedState) (n start size : ℕ) → IsAll a → Narrows a b start size → ReadsUpTo b c n → Widens c d → ReadsUpTo a d n
part_reads a b c d n start size whole narrows reads widens =
    let same : all_of d.seen ≡ all_of a.seen = some_is {X = RangeParent} (same_whole a b c d n start size whole narrows reads widens) in
    record {
      keeps = record {
        same_size = ap (λ (w : RangeParent). w.size) same;
        no_fewer = omega (arith, narrows.same_failures, widens.same_failures, reads.keeps.no_fewer);
        same_file = ap (λ (w : RangeParent). w.file) same;
        same_whole = widens.same_whole ∙ (reads.keeps.same_whole ∙ narrows.same_whole);
      };
      grows = omega (arith, narrows.same_asked, widens.same_asked, reads.grows);
      at_most = omega (arith, narrows.same_asked, widens.same_asked, reads.at_most);
      same_limit = widens.same_limit ∙ (reads.same_limit ∙ narrows.same_limit);
      view = same_view a d whole.shows widens.shows same (omega (arith, narrows.same_failures, widens.same_failures, reads.keeps.no_fewer))
          (widens.same_whole ∙ (reads.keeps.same_whole ∙ narrows.same_whole));
    }

-- a part of a file
pub part_file : (a b : CountedState) (file : List ℕ) (start size : ℕ) → IsAll a → Narrows a b start size → a.seen.file ≡ Some file → b.seen.file ≡ Some (take size (drop start file))
part_file a b file start size whole narrows held =
    narrows.file_is (all_of a.seen) whole.whole ∙ ap (λ f. file_within f start size) held

-- a source that is honest gives an honest part
honest_part : (a b c d : CountedState) (n start size : ℕ) → IsAll a → Narrows a b start size → ReadsUpTo b c n → Widens c d → IsHonest d.seen → IsHonest c.seen
honest_part a b c d n start size whole narrows reads widens honest =
    let all = part_reads a b c d n start size whole narrows reads widens in
    record {
      file = take size (drop start honest.file);
      gives = reads.keeps.same_file ∙ part_file a b honest.file start size whole narrows (sym all.keeps.same_file ∙ honest.gives);
      not_worn = rw (sym widens.same_failures) honest.not_worn;
    }

part_faults : (a b c d : CountedState) (n start size : ℕ) (fault : SourceFault) → IsAll a → Narrows a b start size → ReadsUpTo b c n → Widens c d → IsSourceFault b.seen c.seen fault → IsSourceFault a.seen d.seen fault
part_faults a b c d n start size Device whole narrows reads widens says = omega (arith, narrows.same_failures, widens.same_failures, says)
part_faults a b c d n start size Ended whole narrows reads widens says = λ honest. says (honest_part a b c d n start size whole narrows reads widens honest)

part_limit : (a b c d : CountedState) (n start size : ℕ) → Narrows a b start size → Widens c d → ExceedsBudget b c n → ExceedsBudget a d n
part_limit a b c d n start size narrows widens over = record {
  most = over.most;
  is_set = sym narrows.same_limit ∙ over.is_set;
  above = omega (arith, narrows.same_asked, over.above);
  late = omega (arith, widens.same_asked, over.late);
}

-- an offset of a part is one of the source
part_offset : (start at size all : ℕ) → at < size → start + size ≤ all → after_start start at < all
part_offset start at size all inside lies = omega arith

-- WHAT A MEMBER'S LISTING READS OF THE ARCHIVE is what it reads of the member
pub part_consumes : {X : Type 0} (a b c d : CountedState) (v : OutState) (n start size : ℕ) (listed : Result X RunFault) (result : Result (Option Refusal) RunFault) → IsAll a → start + size ≤ a.seen.size
    → Narrows a b start size → ListingCosts b c v listed n → Widens c d → EndsPart start listed result → ReadsAtMostIn a d v result n
part_consumes a b c d v n start size (Ok x) result whole lies narrows costs widens ends =
    rw ends (part_reads a b c d n start size whole narrows costs.0 widens, tt)
part_consumes a b c d v n start size (Err (Refused refusal)) result whole lies narrows costs widens ends = by_cause (is_budget_fault refusal.cause)
  where
    reads : ReadsUpTo a d n
    reads = part_reads a b c d n start size whole narrows costs.0 widens

    by_cause : (IsBudgetRefusal refusal) ⊎ (IsBudgetRefusal refusal → ⊥) → ReadsAtMostIn a d v result n
    by_cause (inl budget) =
        let over = costs.1 budget in
        let inside : after_start start refusal.at < a.seen.size = part_offset start refusal.at size a.seen.size (omega (arith, over.0, narrows.size_is)) lies in
        rw (ends.0 budget) (reads, λ is. (inside, part_limit a b c d n start size narrows widens over.1))
    by_cause (inr other) = rw (ends.1 other) (reads, tt)
part_consumes a b c d v n start size (Err (Source fault at)) result whole lies narrows costs widens ends =
    rw ends (part_reads a b c d n start size whole narrows costs.0 widens, part_faults a b c d n start size fault whole narrows costs.0 widens costs.1.0)
part_consumes a b c d v n start size (Err (Out fault)) result whole lies narrows costs widens ends =
    rw ends (part_reads a b c d n start size whole narrows costs.0 widens, costs.1)
