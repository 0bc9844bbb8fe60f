-- The result of reading a list of properties, step by step.
use Rattle.std.specs.Prelude.{ℕ, ◌≡◌, ◌+◌, ◌==◌, min, true, false, List, Option, None, Some, Result, Ok, Err}
use Rattle.elf_model.specs.Prelude.{GNU_PROPERTY_X86_FEATURE_1_AND, IsBudgetRefusal, NoProperty, OneProperty, PROPERTY_HEAD_SIZE, Property, next_property, padded_property, property_word, slice}
use Rattle.elf_model.specs.declared.causes.Cause.TheVariants.{NoteCut}
use Rattle.elf_model.specs.declared.causes.Refusal.{Refusal}
use Rattle.elf_table.specs.declared.fault.Fault.{Fault}
use Rattle.elf_table.specs.declared.fault.Fault.TheVariants.{Refused, Source}
use Rattle.elf_loader.specs.declared.property.PropertyHeader.{PropertyHeader}

-- a value is that of the definitions, and so is a refusal, unless that is `Budget`
abbrev pub ReturnsValue : {X : Type 0} → Result X Refusal → Result X Fault → Type 0
ReturnsValue told (Ok value) = told ≡ Ok value
ReturnsValue told (Err (Refused refusal)) = (IsBudgetRefusal refusal → ⊥) → told ≡ Err refusal
ReturnsValue told (Err (Source fault at)) = Unit {0}

-- the property with a header at an offset
abbrev pub property_at : List ℕ → ℕ → PropertyHeader → Property
property_at file at head = record { kind = head.kind; content = slice file (at + PROPERTY_HEAD_SIZE) head.datasz }

-- A HEADER IS READ: with its data it is the next property of the bytes that are left; or there is
-- no whole one
abbrev pub ReadsHead : List ℕ → (at left : ℕ) → Result PropertyHeader Fault → Type 0
ReadsHead file at left (Ok head) =
    next_property (slice file at left) ≡ OneProperty (property_at file at head) (min (padded_property head.datasz) left)
ReadsHead file at left (Err (Refused refusal)) =
    (IsBudgetRefusal refusal → ⊥) → (refusal ≡ record { at = at; cause = NoteCut }) × (next_property (slice file at left) ≡ NoProperty)
ReadsHead file at left (Err (Source fault offset)) = Unit {0}

-- the feature bits that are found once one more property is read: those of the first with the type
abbrev pub found_after : Option ℕ → Property → Option ℕ
found_after (Some word) property = Some word
found_after None property =
    elim (property.kind == GNU_PROPERTY_X86_FEATURE_1_AND) [ true ↦ Some (property_word (Some property)) | false ↦ None ]

-- feature bits are found in a property, or were found before it
abbrev pub ReadsWord : List ℕ → ℕ → PropertyHeader → Option ℕ → Result (Option ℕ) Fault → Type 0
ReadsWord file at head found (Ok now) = now ≡ found_after found (property_at file at head)
ReadsWord file at head found (Err (Refused refusal)) = IsBudgetRefusal refusal
ReadsWord file at head found (Err (Source fault offset)) = Unit {0}
