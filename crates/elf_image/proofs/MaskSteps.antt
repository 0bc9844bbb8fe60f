-- Reads while other fields of the file header are masked than before and afterwards.
use Rattle.std.proofs.Common.{◌≡◌, ◌∙◌, ℕ, Bool, true, false, List, Option, None, Some, sym, ap, refl, arith}
use Rattle.elf_model.specs.Style.{without_sections}
use Rattle.elf_source.specs.Prelude.{CountedState, ExceedsBudget, IsHonest, IsSourceFault, KeepsSource, MasksSectionHeaders, ReadsUpTo, SourceState, file_by, seen_by}
use Rattle.elf_source.specs.declared.faults.SourceFault.{SourceFault}
use Rattle.elf_source.specs.declared.faults.SourceFault.TheVariants.{Device, Ended}
use Rattle.elf_table.specs.Prelude.{CallReads, IsReadFault}
use Rattle.elf_table.specs.declared.fault.Fault.{Fault}
use Rattle.elf_table.specs.declared.fault.Fault.TheVariants.{Refused, Source}

keeps-seen : (hides : Bool) (s t : SourceState) → KeepsSource s t → KeepsSource (seen_by hides s) (seen_by hides t)
keeps-seen hides s t k = record { same_size = k.same_size; no_fewer = k.no_fewer; same_file = ap (file_by hides) k.same_file; same_whole = k.same_whole }

-- a file of which anything is known
file-seen : (first second : Bool) (source : Option (List ℕ)) (file : List ℕ) → file_by first source ≡ Some file
    → (bytes : List ℕ) × (file_by second source ≡ Some bytes)
file-seen true second None file is = cc
file-seen false second None file is = cc
file-seen first true (Some bytes) file is = (without_sections bytes, refl)
file-seen first false (Some bytes) file is = (bytes, refl)

honest-seen : (first second : Bool) (s : SourceState) → IsHonest (seen_by first s) → IsHonest (seen_by second s)
honest-seen first second s honest =
    let shown = file-seen first second s.file honest.file honest.gives in
    record { file = shown.0; gives = shown.1; not_worn = honest.not_worn }

module _ {a b c d : CountedState} (hides : Bool) (masked : a.hides ≡ true) (hide : MasksSectionHeaders a b hides) (show : MasksSectionHeaders c d true) where
  masked-reads : {n : ℕ} → ReadsUpTo b c n → ReadsUpTo a d n
  masked-reads p =
      let kept : KeepsSource a.source d.source = rw (hide.same_source, ← show.same_source) at p.view.keeps in
      record {
        keeps = rw (a.is_seen, d.is_seen, show.is_hidden, masked) (keeps-seen true a.source d.source kept);
        grows = omega (arith, hide.same_asked, show.same_asked, p.grows);
        at_most = omega (arith, hide.same_asked, show.same_asked, p.at_most);
        same_limit = show.same_limit ∙ p.same_limit ∙ hide.same_limit;
        view = record { keeps = kept; hides = show.is_hidden ∙ sym masked };
      }

  masked-fault : (fault : SourceFault) → IsSourceFault b.seen c.seen fault → IsSourceFault a.seen d.seen fault
  masked-fault Device p = omega (arith, hide.same_failures, show.same_failures, p)
  masked-fault Ended p = λ honest.
      p (rw (c.is_seen) (honest-seen d.hides c.hides c.source (rw (show.same_source) at (rw (d.is_seen) at honest))))

  masked-budget : {n : ℕ} → ExceedsBudget b c n → ExceedsBudget a d n
  masked-budget p = record {
    most = p.most;
    is_set = sym hide.same_limit ∙ p.is_set;
    above = omega (arith, hide.same_asked, p.above);
    late = omega (arith, show.same_asked, p.late);
  }

  masked-says : (n : ℕ) (fault : Fault) → IsReadFault b c n fault → IsReadFault a d n fault
  masked-says n (Refused refusal) says = λ late.
      let said = says late in
      (omega (arith, hide.same_size, said.0), masked-budget said.1, said.2 ∙ sym show.same_stopped)
  masked-says n (Source fault at) says = (masked-fault fault says.0, says.1 ∙ sym show.same_stopped)

  -- the cost of a call
  pub masked-costs : (n : ℕ) (stop : Option Fault) → CallReads b c stop n → CallReads a d stop n
  masked-costs n None costs = record { reads = masked-reads costs.reads; says = tt }
  masked-costs n (Some fault) costs = record { reads = masked-reads costs.reads; says = masked-says n fault costs.says }

-- what is shown of a file while they are
pub masked-file : (a b : CountedState) (hides : Bool) (file : List ℕ) → MasksSectionHeaders a b hides → file_by hides a.source.file ≡ Some file → b.seen.file ≡ Some file
masked-file a b hides file hide is =
    ap (λ s. s.file) b.is_seen ∙ (ap (λ h. file_by h b.source.file) hide.is_hidden ∙ (ap (λ s. file_by hides s.file) hide.same_source ∙ is))
