-- What reads of a list of properties imply for it.
use Rattle.std.proofs.Common.{ℕ, ◌+◌, ◌-◌, ◌<◌, List, Option, Result, Err, ap, sym, ◌∙◌}
use Rattle.elf_model.specs.Prelude.{features_in, slice}
use Rattle.elf_model.specs.declared.causes.Refusal.{Refusal}
use Rattle.elf_table.specs.declared.fault.Fault.{Fault}
use Rattle.elf_table.specs.declared.fault.Fault.TheVariants.{Refused, Source}
use Rattle.elf_loader.specs.Prelude.{ReadsHead, ReadsWord, ReturnsValue}
use Rattle.elf_loader.specs.declared.property.PropertyHeader.{PropertyHeader}
use Rattle.elf_loader.proofs.PropertyLaws.{LeftOf, left_cut}

module _ (file : List ℕ) (at size done : ℕ) (found : Option ℕ) (below : done < size) (left : LeftOf file at size done found) where
  -- there is no whole property, or a read failed
  pub head_tells : (fault : Fault) → ReadsHead file (at + done) (size - done) (Err fault)
      → ReturnsValue {X = ℕ} (features_in (record { place = at; bytes = slice file at size })) (Err fault)
  head_tells (Refused refusal) reads =
      λ budget. let r = reads budget in left_cut file at size done found below left r.1 ∙ ap Err (sym r.0)
  head_tells (Source fault offset) reads = tt

-- a read of a word failed
pub read_tells : (file : List ℕ) (at : ℕ) (head : PropertyHeader) (found : Option ℕ) (fault : Fault) (told : Result ℕ Refusal) → ReadsWord file at head found (Err fault)
    → ReturnsValue {X = ℕ} told (Err fault)
read_tells file at head found (Refused refusal) told reads = λ budget. absurd (budget reads)
read_tells file at head found (Source fault offset) told reads = tt
