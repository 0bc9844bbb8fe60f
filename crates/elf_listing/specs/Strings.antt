-- The strings that dynamic entries refer to.
use Rattle.std.specs.Prelude.{ℕ, ◌≡◌, Bool, true, false, List, Result, Ok, Err, IfOk, IfErr}
use Rattle.elf_model.specs.Prelude.{DisplayedName, d_tag, d_un, is_string_tag, shown, strings_at, value_name}
use Rattle.elf_model.specs.declared.causes.Cause.{Cause}
use Rattle.elf_model.specs.declared.causes.Refusal.{Refusal}
use Rattle.elf_model.specs.declared.formats.Format.{Format}
use Rattle.elf_table.specs.Prelude.{HoldsProgramHeaders, IsOfCheck, NameRead, StringTableRange, StringsInBounds, strings_in}
use Rattle.elf_table.specs.declared.fault.Fault.{Fault as Failure}
use Rattle.elf_table.specs.declared.names.NameEnd.{NameEnd}
use Rattle.elf_table.specs.declared.fault.Fault.TheVariants.{Refused}
use Rattle.elf_listing.specs.declared.dynamic_string_table.DynamicStringTable.{DynamicStringTable}
use Rattle.elf_listing.specs.declared.dynamic_string_table.DynamicStringTable.TheVariants.{LinkedStringTable, Mapped}

-- the string table of the entry at an offset of a file, or the refusal if there is none
abbrev pub strings_reported : DynamicStringTable → List ℕ → ℕ → Result (List ℕ) Refusal
strings_reported (LinkedStringTable names) file entry_at = Ok (strings_in file names)
strings_reported (Mapped view told) file entry_at = strings_at file entry_at told.address told.size

-- the tables in which the strings are looked up lie within a source of this size
abbrev pub AreWithin : ℕ → DynamicStringTable → Type 0
AreWithin size (LinkedStringTable names) = StringsInBounds size names
AreWithin size (Mapped view told) = view.loaded.size ≡ size

-- the tables in which the strings are looked up are of this file
abbrev pub AreOf : List ℕ → DynamicStringTable → Type 0
AreOf file (LinkedStringTable names) = Unit {0}
AreOf file (Mapped view told) = HoldsProgramHeaders file view.loaded view.store.now

-- a string table was found as specified, or refused
abbrev pub StringsFound : List ℕ → Result StringTableRange Failure → Result (List ℕ) Refusal → Type 0
StringsFound file (Ok names) (Ok table) = strings_in file names ≡ table
StringsFound file (Ok names) (Err refusal) = ⊥
StringsFound file (Err fault) (Ok table) = ⊥
StringsFound file (Err fault) (Err refusal) = fault ≡ Refused refusal

-- THE STRING TABLE OF AN ENTRY, as looked up for its offset: the specified one, or its refusal; it
-- lies within the source, and a refusal is a check's
pub record FindsStrings (strings : DynamicStringTable) (at : ℕ) (result : Result StringTableRange Failure) : Type 0 where
  pub told : (file : List ℕ) → AreOf file strings → StringsFound file result (strings_reported strings file at)
  pub within : (size : ℕ) → AreWithin size strings → IfOk result (StringsInBounds size)
  pub refusal : IfErr result IsOfCheck

-- the string of the entry at an offset, as shown, or what it has in place of one; the refusal if
-- its string table is refused
abbrev pub string_told_by : Bool → (other : Result DisplayedName Cause) → Result (List ℕ) Refusal → (List ℕ → Result DisplayedName Cause) → Result (Result DisplayedName Cause) Refusal
string_told_by false other table name = Ok other
string_told_by true other (Err refusal) name = Err refusal
string_told_by true other (Ok strings) name = Ok (name strings)

abbrev pub string_told : (ℕ → Result (List ℕ) Refusal) → Format → List ℕ → ℕ → ℕ → Result (Result DisplayedName Cause) Refusal
string_told strings format file cap entry_at =
    string_told_by (is_string_tag (d_tag file entry_at)) (value_name file format entry_at) (strings entry_at) (λ table. shown table (d_un file entry_at) cap)

-- that string was read, or its string table is refused
abbrev pub ToldRead : ℕ → Result NameEnd Failure → List ℕ → Result (Result DisplayedName Cause) Refusal → Type 0
ToldRead at result name (Ok answer) = NameRead at result name answer
ToldRead at result name (Err refusal) = result ≡ Err (Refused refusal)
