-- What a section that is a hash table links to, once its checks pass.
use Rattle.std.specs.Prelude.{ℕ, ◌≡◌, ◌+◌, ◌^◌, ◌<◌, ◌≤◌, ◌||◌, nat_lt, not, Bool, true, List, [], ◌∷◌, None, Result, Ok, Err}
use Rattle.elf_model.specs.Prelude.{Check, first_refusal, is_outside, linked_at, refuse, sh_link, sh_offset, sh_size}
use Rattle.elf_model.specs.declared.causes.Cause.TheVariants.{BadLink, HashShape, TableOutside}
use Rattle.elf_record.specs.declared.shdr.Shdr.{Shdr}
use Rattle.elf_table.specs.Relocations.{AreSymbols, RefusedBy}
use Rattle.elf_table.specs.Tables.{TableRange, StringTableRange}
use Rattle.elf_table.specs.declared.fault.Fault.{Fault}

-- CHECKS, THEN A VALUE: they pass, and the value satisfies the predicate; or the fault is the first
-- of them that fails
abbrev pub ChecksThenValue : {A : Type 0} → List Check → (A → Type 0) → Result A Fault → Type 0
ChecksThenValue checks Is (Ok value) = (first_refusal checks ≡ None) × Is value
ChecksThenValue checks Is (Err fault) = RefusedBy checks fault

-- the index of a section of symbols, the symbols, and the string table of their names
pub record AreHashed (file : List ℕ) (at : ℕ) (found : ℕ × (TableRange × StringTableRange)) : Type 0 where
  pub link : found.0 ≡ sh_link file at
  pub symbols : AreSymbols file (linked_at file at) found.1

-- the bytes of a section with a hash table, by its header at an offset of some bytes, end in a file
-- of `size` bytes, and below 2^64, and are at least `least`
pub record HashFits (least size : ℕ) (bytes : List ℕ) (at : ℕ) : Type 0 where
  pub inside : sh_offset bytes at + sh_size bytes at ≤ size
  pub ends : sh_offset bytes at + sh_size bytes at < 2 ^ 64
  pub room : least ≤ sh_size bytes at

-- the checks of a hash table's own header, in a file of the given size, if it links to symbols or
-- not, and if its words have 8 bytes or not
abbrev pub front_checks : ℕ → ℕ → ℕ → Shdr → (linked wide : Bool) → List Check
front_checks least at size header linked wide =
    refuse (is_outside size header.sh_offset header.sh_size) at TableOutside
    ∷ refuse (nat_lt header.sh_size least || wide) at HashShape
    ∷ refuse (not linked) at BadLink
    ∷ []

-- what those checks imply
pub record PassesFront (least size : ℕ) (header : Shdr) (linked : Bool) : Type 0 where
  pub inside : header.sh_offset + header.sh_size ≤ size
  pub room : least ≤ header.sh_size
  pub links : linked ≡ true
