-- Worked examples of what a relocation type stores in an image, of items that are only some of a
-- process's, and of what is read.
use Rattle.std.specs.Prelude.{ℕ, ◌≡◌, ◌+◌, ◌-◌, ◌*◌, ◌^◌, List, [], ◌∷◌, ◌++◌, codes, length, option_map, Option, None, Some, Result, Ok, Err, Bool, true, false}
use Rattle.elf_examples.specs.ExamplesImage.{eight_words, first_words, image_of}
use Rattle.elf_model.specs.Fixtures.{with_bytes}
use Rattle.elf_model.specs.FixturesApply.{relocation}
use Rattle.elf_model.specs.FixturesImage.{items_at_base, loaded_library, long_words}
use Rattle.elf_model.specs.Image.{SegmentWrite, image_changes, writes_in, writes_of}
use Rattle.elf_model.specs.ImageCost.{image_cost, met_windows}
use Rattle.elf_model.specs.ImageItems.{ItemValues}
use Rattle.elf_model.specs.ImageMissing.{missing_entries, missing_text}
use Rattle.elf_model.specs.declared.causes.Cause.TheVariants.{Overflow, Undefined, Unplaced}
use Rattle.elf_model.specs.declared.causes.Cause.{Cause}
use Rattle.elf_model.specs.declared.causes.Refusal.{Refusal}

-- the library with an entry of a type and a symbol at 0x1210 in place of that at 0x190; its addend is
-- 4
unfoldable pub typed_entry : (type symbol : ℕ) → List ℕ
typed_entry type symbol = with_bytes 0x190 (relocation 0x1210 (2 ^ 32 * symbol + type) 4) loaded_library

-- the items of all kinds
unfoldable pub all_items : (base : ℕ) → (descriptor : Option ℕ) → (partial : Bool) → ItemValues
all_items base descriptor partial = record {
  base = base;
  symbols = (1, 0x4010) ∷ [];
  calls = (3, 0x30) ∷ [];
  modules = (0, 1) ∷ (3, 5) ∷ [];
  blocks = (3, 0x60) ∷ [];
  threads = (0, 2 ^ 64 - 0x2000) ∷ (2, 0x70) ∷ [];
  resolved = (0x100, 0x5555) ∷ [];
  copies = (3, 1 ∷ 2 ∷ []) ∷ (1, 1 ∷ []) ∷ [];
  descriptor = descriptor;
  partial = partial;
}

-- with the load address, the third word
abbrev pub StoresByType : List ℕ → ℕ → Type 0
StoresByType file third =
    first_words (image_of 1 file (all_items 0x7f0000000000 (Some 0x77) false)) ≡ Ok (long_words (eight_words third 0x15 0x4010 0))

abbrev pub RefusesEntry : List ℕ → ItemValues → Cause → Type 0
RefusesEntry file items cause = image_of 1 file items ≡ Err (record { at = 0x190; cause = cause })

-- R_X86_64_64 adds the addend, GLOB_DAT does not, and JUMP_SLOT uses where calls go; NONE stores
-- nothing
abbrev pub AddressesAreStored : Type 0
AddressesAreStored =
    StoresByType (typed_entry 1 3) 0x7f0000001214
    × StoresByType (typed_entry 6 3) 0x7f0000001210
    × StoresByType (typed_entry 7 3) 0x30
    × StoresByType (typed_entry 0 9) 0x7f0000000012

-- the module id of a bound symbol, and of the file; an offset in a block and from the thread pointer;
-- of a weak undefined symbol nothing is stored without an item; what is missing
abbrev pub ThreadValuesAreStored : Type 0
ThreadValuesAreStored =
    StoresByType (typed_entry 16 3) 5
    × StoresByType (typed_entry 16 0) 1
    × StoresByType (typed_entry 16 2) 0x7f0000000012
    × StoresByType (typed_entry 17 3) 0x64
    × StoresByType (typed_entry 17 0) 4
    × StoresByType (typed_entry 18 3) (2 ^ 64 - 0x2000 + 0x1214)
    × StoresByType (typed_entry 18 2) 0x74
    × RefusesEntry (typed_entry 18 1) (all_items 0 None false) Undefined
    × RefusesEntry (typed_entry 18 0) items_at_base Unplaced

-- four bytes of a value, if it fits; the bytes of an object that is copied, if they fit
abbrev pub PartsAreStored : Type 0
PartsAreStored =
    StoresByType (typed_entry 2 3) 0x7f0000000004
    × RefusesEntry (typed_entry 10 3) (all_items 0x7f0000000000 None false) Overflow
    × StoresByType (typed_entry 5 3) 0x7f0000000201
    × RefusesEntry (typed_entry 5 1) (all_items 0 None false) Overflow
    × RefusesEntry (typed_entry 5 2) (all_items 0 None false) Undefined

-- a descriptor is a function and an offset from the thread pointer; without the function it is
-- refused
abbrev pub DescriptorsAreStored : Type 0
DescriptorsAreStored =
    (first_words (image_of 1 (typed_entry 36 2) (all_items 0 (Some 0x77) false))
    ≡ Ok (long_words (0x10 ∷ 0x11 ∷ 0x77 ∷ 0x74 ∷ 0x5555 ∷ 0x15 ∷ 0x4010 ∷ 0 ∷ [])))
    × RefusesEntry (typed_entry 36 2) (all_items 0 None false) Unplaced

-- the load address alone
unfoldable pub base_alone : ItemValues
base_alone = record {
  base = 0x7f0000000000;
  symbols = [];
  calls = [];
  modules = [];
  blocks = [];
  threads = [];
  resolved = [];
  copies = [];
  descriptor = None;
  partial = true;
}

-- the lines of entries without an item
unfoldable pub lines_of_missing : Result (List Refusal) Refusal → Result (List ℕ) Refusal
lines_of_missing (Ok lacks) = Ok (missing_text loaded_library lacks)
lines_of_missing (Err refusal) = Err refusal

-- what the load address alone says, and what it lacks: also symbols that may be bound elsewhere
abbrev pub PartialItemsLeave : Type 0
PartialItemsLeave =
    (first_words (image_of 1 loaded_library base_alone)
    ≡ Ok (long_words (0x7f0000000010 ∷ 0x11 ∷ 0x7f0000000012 ∷ 0x7f0000001200 ∷ 0x14 ∷ 0x15 ∷ 0x16 ∷ 0x17 ∷ [])))
    × (lines_of_missing (missing_entries loaded_library 8 base_alone)
    ≡ Ok
    (codes "M 0000000000000190 0000000000001224 64                  3 undefined\n"
    ++ codes "M 00000000000001a8 0000000000001230 JUMP_SLOT           1 undefined\n"
    ++ codes "M 00000000000001c0 0000000000001238 JUMP_SLOT           2 undefined\n"
    ++ codes "M 0000000000000178 0000000000001220 IRELATIVE           0 unplaced\n"))

-- the writes to the second segment
unfoldable pub writes_in_second : Result (List SegmentWrite) Refusal
writes_in_second = elim (writes_of false (image_changes loaded_library loaded_library items_at_base)) [
  | Err refusal ↦ Err refusal
  | Ok writes ↦ Ok (writes_in 1 writes)
]

unfoldable pub types_met : Result (List SegmentWrite) Refusal → ℕ
types_met (Ok writes) = met_windows 64 7 writes
types_met (Err refusal) = 0

-- the bytes of the segment in memory; one of seven windows of 64 bytes is stored in, and at most
-- this many bytes are read
abbrev pub ImageCosts : Type 0
ImageCosts =
    (option_map length (elim (image_of 1 loaded_library items_at_base) [ Ok bytes ↦ Some bytes | Err refusal ↦ None ]) ≡ Some 400)
    × (types_met writes_in_second ≡ 1)
    × (image_cost loaded_library 1 64 1 ≡ 1690)
