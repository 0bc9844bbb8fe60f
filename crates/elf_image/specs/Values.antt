-- What an image's items say, and the bytes that are stored.
use Rattle.std.specs.Prelude.{ℕ, ◌≡◌, List, [], ◌++◌, Result, Ok, Err}
use Rattle.elf_model.specs.Bytes.{little}
use Rattle.elf_model.specs.ImageItems.{FromPointer, ItemValues, InBlock, ModuleId, ThreadValue}
use Rattle.elf_model.specs.declared.causes.Cause.{Cause}
use Rattle.elf_model.specs.declared.causes.Cause.TheVariants.{Budget}
use Rattle.elf_model.specs.declared.dynamic_types.DynamicType.{DynamicType}
use Rattle.elf_model.specs.declared.dynamic_types.DynamicType.TheVariants as type
use Rattle.elf_record.specs.Sym.{IsSym}
use Rattle.elf_record.specs.declared.sym.Sym.{Sym}
use Rattle.elf_reloc.specs.Types.{patched_bytes}
use Rattle.elf_image.specs.Items.{copy_bytes, given, said_by}
use Rattle.elf_image.specs.declared.changes.RelocatedBytes.{RelocatedBytes}
use Rattle.elf_image.specs.declared.changes.RelocatedBytes.TheVariants as stored
use Rattle.elf_image.specs.declared.changes.ImageFile.{ImageFile}
use Rattle.elf_image.specs.declared.image_items.ItemKind.{ItemKind}
use Rattle.elf_image.specs.declared.image_items.ItemKind.TheVariants as kind

-- the items of an image
abbrev pub known_items : ImageFile → ItemValues
known_items image = said_by (given image.items.now.numbers.now image.items.now.copies.now) image.leaves

-- the load address that an image has is that of its items
abbrev pub IsBased : ImageFile → Type 0
IsBased image = image.base ≡ (known_items image).base

-- what the items of a kind say of a thread-local symbol
abbrev pub ThreadKind : ItemKind → ThreadValue → Type 0
ThreadKind kind.Module said = said ≡ ModuleId
ThreadKind kind.Value said = said ≡ InBlock
ThreadKind kind.Thread said = said ≡ FromPointer
ThreadKind _ said = ⊥

-- an index is 0, or a symbol is at an offset
abbrev pub IsSymbolOf : (file : List ℕ) (at index : ℕ) → Sym → Type 0
IsSymbolOf file at index symbol = (index ≡ 0 → ⊥) → IsSym file at symbol

-- the symbol of an entry is at an offset, if its type uses one
abbrev pub IsUsed : DynamicType → (file : List ℕ) (at index : ℕ) → Sym → Type 0
IsUsed type.Relative file at index symbol = Unit {0}
IsUsed type.Resolved file at index symbol = Unit {0}
IsUsed type.Module file at index symbol = IsSymbolOf file at index symbol
IsUsed type.BlockOffset file at index symbol = IsSymbolOf file at index symbol
IsUsed type.ThreadOffset file at index symbol = IsSymbolOf file at index symbol
IsUsed type.Descriptor file at index symbol = IsSymbolOf file at index symbol
IsUsed _ file at index symbol = IsSym file at symbol

-- the bytes that are stored; those of a word to which the load address is added are not given
abbrev pub stored_as : RelocatedBytes → List ℕ
stored_as stored.Based = []
stored_as (stored.Value patch) = patched_bytes patch
stored_as (stored.Pair first second) = little 8 first ++ little 8 second
stored_as (stored.Copied bytes) = copy_bytes bytes

abbrev pub bytes_or_cause : Result RelocatedBytes Cause → Result (List ℕ) Cause
bytes_or_cause (Ok bytes) = Ok (stored_as bytes)
bytes_or_cause (Err cause) = Err cause

-- bytes that are given in full, not those of a word to which the load address is added
abbrev pub IsGiven : RelocatedBytes → Type 0
IsGiven stored.Based = ⊥
IsGiven (stored.Value patch) = Unit {0}
IsGiven (stored.Pair first second) = Unit {0}
IsGiven (stored.Copied bytes) = Unit {0}

-- the cause for which there is no value is no limit on reads
abbrev pub IsValueCause : Cause → Type 0
IsValueCause cause = cause ≡ Budget → ⊥
