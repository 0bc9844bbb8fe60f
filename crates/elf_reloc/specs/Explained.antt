-- What a layout is missing if a section was refused, as the code returns it, and what that reads.
use Rattle.std.specs.Prelude.{ℕ, ◌≡◌, ◌≢◌, ◌+◌, ◌*◌, ◌/◌, ◌-◌, ◌≤◌, ◌==◌, ◌&&◌, nat_lt, Bool, true, false, List, ◌++◌, Option, None, Some, Result, Ok, Err, IfSome}
use Rattle.elf_model.specs.Prelude.{DisplayedName, IsBudgetRefusal, MissingEntry, first_refusal, header_checks, linked_at, load_checks, missing_of, pad64, r_sym, refused_in, relocates_at, section_at, st_name, st_shndx, st_type, strings_of, symbol_at, symbol_checks}
use Rattle.elf_model.specs.declared.causes.Cause.{Cause}
use Rattle.elf_model.specs.declared.missing.LayoutAddress.{LayoutAddress}
use Rattle.elf_model.specs.declared.missing.MissingAddress.{MissingAddress}
use Rattle.elf_model.specs.declared.causes.Refusal.{Refusal}
use Rattle.elf_model.specs.declared.causes.Cause.TheVariants.{Undefined, Unplaced, Unsupported}
use Rattle.elf_record.specs.Prelude.{IsRela}
use Rattle.elf_record.specs.declared.rela.Rela.{Rela}
use Rattle.elf_table.specs.Prelude.{IsOfRead, RefersTo, StringTableRange, SymbolTableInBounds, TableRange, row_at, shown_by, strings_in}
use Rattle.elf_table.specs.declared.fault.Fault.{Fault}
use Rattle.elf_table.specs.declared.names.NameEnd.{NameEnd}
use Rattle.elf_table.specs.declared.fault.Fault.TheVariants.{Refused, Source}
use Rattle.elf_reloc.specs.declared.missing_item.MissingItem.{MissingItem}
use Rattle.elf_reloc.specs.declared.missing_item.RelocationSymbol.{RelocationSymbol}

-- an entry that is refused for this cause may be missing an address
unfoldable pub may_be_missing : Cause → Bool
may_be_missing Unplaced = true
may_be_missing Undefined = true
may_be_missing Unsupported = true
may_be_missing _ = false

-- how many bytes of the entry, its symbol, and the symbol's name
abbrev pub entry_bytes : ℕ
entry_bytes = 48 + pad64 256

-- THE UPPER BOUND of reads: the file header, a section header for each slot, and those
abbrev pub explain_bytes : ℕ → ℕ
explain_bytes slots = 64 + 64 * slots + entry_bytes

-- what is missing, with the bytes of the symbol's name
abbrev pub lack_as : List ℕ → Option (MissingAddress × NameEnd) → Option MissingEntry
lack_as name None = None
lack_as name (Some found) = Some (record { missing = found.0; name = shown_by found.1 name })

-- THE EXPLANATION for a file: what the layout is missing; or the refusal of the file's own checks,
-- unless it is `Budget`
abbrev pub Explains : List ℕ → (headers : ℕ) → Option MissingEntry → Result (Option (MissingAddress × NameEnd)) Fault → List ℕ → Type 0
Explains file headers lack (Ok found) name = lack_as name found ≡ lack
Explains file headers lack (Err (Refused refusal)) name = (IsBudgetRefusal refusal → ⊥) → first_refusal (header_checks file ++ load_checks file headers) ≡ Some refusal
Explains file headers lack (Err (Source fault at)) name = Unit {0}

-- the same after those checks: nothing is refused except with `Budget`
abbrev pub ExplainsLoaded : Option MissingEntry → Result (Option (MissingAddress × NameEnd)) Fault → List ℕ → Type 0
ExplainsLoaded lack (Ok found) name = lack_as name found ≡ lack
ExplainsLoaded lack (Err fault) name = IsOfRead fault

-- an entry of 24 bytes of a table is at an offset
abbrev pub has_row : TableRange → ℕ → Bool
has_row table at = let index = (at - table.at) / 24 in nat_lt index table.count && row_at table index == at

-- a section relocates another and has an entry at an offset, and refers to these symbols; or it
-- does not
abbrev pub HasEntry : List ℕ → ℕ → ℕ → ℕ → Option (Option (TableRange × StringTableRange)) → Type 0
HasEntry file section rela header None = relocates_at file section rela header ≡ false
HasEntry file section rela header (Some linked) = (relocates_at file section rela header ≡ true) × RefersTo file header linked

-- an entry lies within a source of this size, and the symbols that it may refer to
abbrev pub EntryWithin : ℕ → ℕ → Option (TableRange × StringTableRange) → Type 0
EntryWithin size rela linked = (rela + 24 ≤ size) × IfSome linked (SymbolTableInBounds size)

-- THE SECTION OF ENTRIES that a refusal points into, by the symbols that it refers to
abbrev pub FoundEntries : List ℕ → ℕ → ℕ → Option (Option (TableRange × StringTableRange)) → Type 0
FoundEntries file section rela None = refused_in file section rela ≡ None
FoundEntries file section rela (Some linked) = (index : ℕ) × (refused_in file section rela ≡ Some index) × RefersTo file (section_at file index) linked

-- the entry at an offset was read
abbrev pub EntryRead : List ℕ → ℕ → Result Rela Fault → Type 0
EntryRead file at (Ok entry) = IsRela file at entry
EntryRead file at (Err fault) = IsOfRead fault

-- the symbol that an entry names is symbol 0, or one of the linked table's, whose names are those
-- of its string table
pub record NamesEntrySymbol (file : List ℕ) (header rela : ℕ) (named : RelocationSymbol) : Type 0 where
  pub passed : first_refusal (symbol_checks file header rela) ≡ None
  pub zero : r_sym file rela ≡ 0 → (named.name ≡ 0) × (named.symbol ≡ None)
  pub fields : r_sym file rela ≢ 0
      → (named.name ≡ st_name file (symbol_at file (linked_at file header) (r_sym file rela)))
      × (named.symbol
      ≡ Some (st_shndx file (symbol_at file (linked_at file header) (r_sym file rela)), st_type file (symbol_at file (linked_at file header) (r_sym file rela))))
      × (strings_in file named.names ≡ strings_of file (linked_at file header))

-- it was read
abbrev pub EntrySymbolRead : List ℕ → (header rela : ℕ) → Result RelocationSymbol Fault → Type 0
EntrySymbolRead file header rela (Ok named) = NamesEntrySymbol file header rela named
EntrySymbolRead file header rela (Err fault) = IsOfRead fault

-- what is missing for an entry of the type of a number, by its symbol and the address that is
-- needed
abbrev pub LackOf : (kind : ℕ) → RelocationSymbol → Option LayoutAddress → Option MissingItem → Type 0
LackOf kind named wanted None = missing_of kind named.name wanted ≡ None
LackOf kind named wanted (Some lacking) = (missing_of kind named.name wanted ≡ Some lacking.missing) × (lacking.named ≡ named)

-- what is missing is known, with the string table of the symbol's name if it has one
abbrev pub Lacks : List ℕ → (header : ℕ) → Option MissingAddress → Option MissingItem → Type 0
Lacks file header missing None = missing ≡ None
Lacks file header missing (Some lacking) =
    (missing ≡ Some lacking.missing) × (lacking.named.name ≡ lacking.missing.name) × (lacking.missing.name ≢ 0 → strings_in file lacking.named.names ≡ strings_of file (linked_at file header))

-- that, once the entry was read
abbrev pub LacksRead : List ℕ → (header : ℕ) → Option MissingAddress → Result (Option MissingItem) Fault → Type 0
LacksRead file header missing (Ok found) = Lacks file header missing found
LacksRead file header missing (Err fault) = IsOfRead fault

-- a name is read, or has a fault
abbrev pub ReturnsSymbolName : Result DisplayedName Cause → Result (Option NameEnd) Fault → List ℕ → Type 0
ReturnsSymbolName answer (Ok (Some end)) name = answer ≡ Ok (shown_by end name)
ReturnsSymbolName answer (Ok None) name = (cause : Cause) × (answer ≡ Err cause)
ReturnsSymbolName answer (Err fault) name = IsOfRead fault

-- a name that is refused by a check is none; any other fault is unchanged
abbrev pub WithoutName : Fault → Result (Option NameEnd) Fault → Type 0
WithoutName fault (Ok (Some end)) = ⊥
WithoutName fault (Ok None) = (refusal : Refusal) × (fault ≡ Refused refusal) × (IsBudgetRefusal refusal → ⊥)
WithoutName fault (Err same) = (same ≡ fault) × IsOfRead fault
