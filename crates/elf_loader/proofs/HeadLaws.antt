-- What stops the read of a property header.
use Rattle.std.proofs.Common.{◌≡◌, ℕ, List, Err, refl}
use Rattle.elf_model.specs.Prelude.{NoProperty, next_property, slice}
use Rattle.elf_model.specs.declared.causes.Cause.TheVariants.{NoteCut}
use Rattle.elf_table.specs.Prelude.{IsOfRead}
use Rattle.elf_table.specs.declared.fault.Fault.{Fault}
use Rattle.elf_table.specs.declared.fault.Fault.TheVariants.{Refused, Source}
use Rattle.elf_loader.specs.Features.{ReadsHead}

-- there is no whole property
pub refused_at : (file : List ℕ) (at left : ℕ) → next_property (slice file at left) ≡ NoProperty
    → ReadsHead file at left (Err (Refused (record { at = at; cause = NoteCut })))
refused_at file at left none = λ budget. (refl, none)

-- a read of a word failed
pub word_stops : (file : List ℕ) (at left : ℕ) (fault : Fault) → IsOfRead fault → ReadsHead file at left (Err fault)
word_stops file at left (Refused refusal) read = λ budget. absurd (budget read)
word_stops file at left (Source fault offset) read = tt
