-- WHAT A RELOCATION ENTRY STORES WHEN A FILE IS LOADED, by its type (x86-64 psABI, Relocation
-- Types). An entry is at an offset `rela` of the file, and its symbol at another.
use Rattle.std.specs.Prelude.{ℕ, ◌+◌, ◌*◌, ◌%◌, ◌^◌, ◌==◌, ◌&&◌, nat_lt, not, is_none, if◌then◌else◌, Bool, true, false, List, [], ◌∷◌, ◌++◌, length, Option, None, Some, Result, Ok, Err}
use Rattle.elf_model.specs.Bytes.{little}
use Rattle.elf_model.specs.Checks.{Check, refuse}
use Rattle.elf_model.specs.ImageItems.{ItemValues, FromPointer, InBlock, ModuleId, bound_value, bytes_for, called_value, is_looked_up, thread_value}
use Rattle.elf_model.specs.LoaderScope.{segment_symbols, tagged_row}
use Rattle.elf_model.specs.Numbers.{DT_SYMTAB}
use Rattle.elf_model.specs.Placing.{address_in}
use Rattle.elf_model.specs.Records.{r_addend, r_offset, r_sym, st_size, twos_complement}
use Rattle.elf_model.specs.Tables.{SYMBOL_SIZE}
use Rattle.elf_model.specs.Values.{value}
use Rattle.elf_model.specs.declared.causes.Cause.{Cause}
use Rattle.elf_model.specs.declared.causes.Cause.TheVariants.{BadLink, Overflow, SymbolIndex, Undefined, Unplaced, Unsupported}
use Rattle.elf_model.specs.declared.dynamic_types.DynamicType.{DynamicType}
use Rattle.elf_model.specs.declared.dynamic_types.DynamicType.TheVariants.{Relative, Absolute, Address, Call, Low, RelativeLow, Resolved, Module, BlockOffset, ThreadOffset, Copy, Descriptor}

-- the relocation types that a loader applies, by their numbers: R_X86_64_64, PC32, COPY, GLOB_DAT,
-- JUMP_SLOT, RELATIVE, 32, DTPMOD64, DTPOFF64, TPOFF64, TLSDESC, IRELATIVE
unfoldable pub dynamic_types : List (ℕ × DynamicType)
dynamic_types =
    (1, Absolute) ∷ (2, RelativeLow) ∷ (5, Copy) ∷ (6, Address) ∷ (7, Call) ∷ (8, Relative) ∷ (10, Low) ∷ (16, Module)
    ∷ (17, BlockOffset) ∷ (18, ThreadOffset) ∷ (36, Descriptor) ∷ (37, Resolved) ∷ []

unfoldable pub dynamic_type_in : List (ℕ × DynamicType) → ℕ → Option DynamicType
dynamic_type_in [] n = None
dynamic_type_in (row ∷ rows) n = elim (n == row.0) [ true ↦ Some row.1 | false ↦ dynamic_type_in rows n ]

unfoldable pub dynamic_type : ℕ → Option DynamicType
dynamic_type n = dynamic_type_in dynamic_types n

-- a type does not use the symbol of its entry
abbrev pub uses_no_symbol : DynamicType → Bool
uses_no_symbol Relative = true
uses_no_symbol Resolved = true
uses_no_symbol _ = false

-- the symbol of a type is a thread-local one; symbol 0 is the file's thread-local block
abbrev pub is_thread_local : DynamicType → Bool
is_thread_local Module = true
is_thread_local BlockOffset = true
is_thread_local ThreadOffset = true
is_thread_local Descriptor = true
is_thread_local _ = false

-- the offset of the symbol of an entry, by the program header of dynamic entries
abbrev pub entry_symbol : List ℕ → (at rela : ℕ) → ℕ
entry_symbol file at rela = (segment_symbols file at).0 + SYMBOL_SIZE * r_sym file rela

-- how many bytes an entry may change
unfoldable pub changed_size : DynamicType → List ℕ → (symbol : ℕ) → ℕ
changed_size Low file symbol = 4
changed_size RelativeLow file symbol = 4
changed_size Copy file symbol = st_size file symbol
changed_size Descriptor file symbol = 16
changed_size _ file symbol = 8

-- THE CHECKS OF THE SYMBOL of an entry, if its type uses one: it is not symbol 0, except that of a
-- thread-local type, and is one of the symbols that the dynamic entries locate
unfoldable pub dynamic_symbol_checks : DynamicType → List ℕ → (at rela : ℕ) → List Check
dynamic_symbol_checks type file at rela =
    let unnamed = r_sym file rela == 0 in
    if uses_no_symbol type then []
    else refuse (unnamed && not (is_thread_local type)) rela Unsupported
    ∷ refuse (not unnamed && is_none (tagged_row file at DT_SYMTAB)) rela BadLink
    ∷ refuse (not unnamed && not (nat_lt (r_sym file rela) (segment_symbols file at).1)) rela SymbolIndex
    ∷ []

-- the eight bytes of a value and an addend, if there is a value
abbrev pub word_of : Result ℕ Cause → (addend : ℕ) → Result (List ℕ) Cause
word_of (Ok value) addend = Ok (little 8 ((value + addend) % 2 ^ 64))
word_of (Err cause) addend = Err cause

-- the same, or no bytes
abbrev pub word_if_bound : Result (Option ℕ) Cause → (addend : ℕ) → Result (List ℕ) Cause
word_if_bound (Ok (Some value)) addend = Ok (little 8 ((value + addend) % 2 ^ 64))
word_if_bound (Ok None) addend = Ok []
word_if_bound (Err cause) addend = Err cause

-- the bytes of a type of `apply` whose B is S, by its number
abbrev pub low_four_bytes : (number : ℕ) → Result ℕ Cause → (addend place : ℕ) → Result (List ℕ) Cause
low_four_bytes number (Ok s) addend place = value number s s (twos_complement addend) place
low_four_bytes number (Err cause) addend place = Err cause

-- an address, or no place
abbrev pub placed_value : Option ℕ → Result ℕ Cause
placed_value (Some address) = Ok address
placed_value None = Err Unplaced

-- the bytes of an object, if its symbol is looked up: no more than the symbol has
unfoldable pub copied_bytes : Bool → Option (List ℕ) → (size : ℕ) → Result (List ℕ) Cause
copied_bytes false bytes size = Err Undefined
copied_bytes true None size = Err Undefined
copied_bytes true (Some bytes) size = if nat_lt size (length bytes) then Err Overflow else Ok bytes

-- a descriptor: the function, and what it is called with
unfoldable pub descriptor_bytes : Option ℕ → Result (Option ℕ) Cause → (addend : ℕ) → Result (List ℕ) Cause
descriptor_bytes function (Err cause) addend = Err cause
descriptor_bytes function (Ok None) addend = Err Undefined
descriptor_bytes None (Ok (Some value)) addend = Err Unplaced
descriptor_bytes (Some function) (Ok (Some value)) addend = Ok (little 8 function ++ little 8 ((value + addend) % 2 ^ 64))

-- P, the place of an entry in memory
abbrev pub place_of_entry : List ℕ → ItemValues → (rela : ℕ) → ℕ
place_of_entry file items rela = (items.base + r_offset file rela) % 2 ^ 64

-- WHAT AN ENTRY STORES, by its type, A and the index and the offset of its symbol; or the cause for
-- which it has no value
unfoldable pub stored_bytes : DynamicType → List ℕ → ItemValues → (rela symbol : ℕ) → Result (List ℕ) Cause
stored_bytes Relative file items rela symbol = word_of (Ok items.base) (r_addend file rela)
stored_bytes Absolute file items rela symbol = word_of (bound_value file items (r_sym file rela) symbol) (r_addend file rela)
stored_bytes Address file items rela symbol = word_of (bound_value file items (r_sym file rela) symbol) 0
stored_bytes Call file items rela symbol = word_of (called_value file items (r_sym file rela) symbol) 0
stored_bytes Low file items rela symbol =
    low_four_bytes 10 (bound_value file items (r_sym file rela) symbol) (r_addend file rela) (place_of_entry file items rela)
stored_bytes RelativeLow file items rela symbol =
    low_four_bytes 2 (bound_value file items (r_sym file rela) symbol) (r_addend file rela) (place_of_entry file items rela)
stored_bytes Resolved file items rela symbol = word_of (placed_value (address_in items.resolved (r_addend file rela))) 0
stored_bytes Module file items rela symbol = word_if_bound (thread_value ModuleId file items (r_sym file rela) symbol) 0
stored_bytes BlockOffset file items rela symbol =
    word_if_bound (thread_value InBlock file items (r_sym file rela) symbol) (r_addend file rela)
stored_bytes ThreadOffset file items rela symbol =
    word_if_bound (thread_value FromPointer file items (r_sym file rela) symbol) (r_addend file rela)
stored_bytes Copy file items rela symbol =
    copied_bytes (is_looked_up file symbol) (bytes_for items.copies (r_sym file rela)) (st_size file symbol)
stored_bytes Descriptor file items rela symbol =
    descriptor_bytes items.descriptor (thread_value FromPointer file items (r_sym file rela) symbol) (r_addend file rela)
