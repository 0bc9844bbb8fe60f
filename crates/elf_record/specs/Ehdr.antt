-- The file header as a record of fields.
use Rattle.std.specs.Prelude.{ℕ, ◌≡◌, ◌+◌, List, [], ◌∷◌, None, Some, Result, MatchResult}
use Rattle.elf_model.specs.Prelude.{field, first_refusal, ident_checks, slice}
use Rattle.elf_model.specs.declared.causes.Refusal.{Refusal}
use Rattle.elf_record.specs.Parts.{RecordField, Number, Raw}
use Rattle.elf_record.specs.declared.ehdr.Ehdr.{Ehdr}

-- at an offset is a file header with these fields, each at its place (gABI 4, ELF Header)
pub record IsEhdr (file : List ℕ) (at : ℕ) (r : Ehdr) : Type 0 where
  pub ident_magic : r.ident_magic ≡ slice file at 4
  pub ident_class : r.ident_class ≡ field file (at + 4) 1
  pub ident_data : r.ident_data ≡ field file (at + 5) 1
  pub ident_version : r.ident_version ≡ field file (at + 6) 1
  pub ident_osabi : r.ident_osabi ≡ field file (at + 7) 1
  pub ident_abi_version : r.ident_abi_version ≡ field file (at + 8) 1
  pub ident_padding : r.ident_padding ≡ slice file (at + 9) 7
  pub e_type : r.e_type ≡ field file (at + 16) 2
  pub e_machine : r.e_machine ≡ field file (at + 18) 2
  pub e_version : r.e_version ≡ field file (at + 20) 4
  pub e_entry : r.e_entry ≡ field file (at + 24) 8
  pub e_phoff : r.e_phoff ≡ field file (at + 32) 8
  pub e_shoff : r.e_shoff ≡ field file (at + 40) 8
  pub e_flags : r.e_flags ≡ field file (at + 48) 4
  pub e_ehsize : r.e_ehsize ≡ field file (at + 52) 2
  pub e_phentsize : r.e_phentsize ≡ field file (at + 54) 2
  pub e_phnum : r.e_phnum ≡ field file (at + 56) 2
  pub e_shentsize : r.e_shentsize ≡ field file (at + 58) 2
  pub e_shnum : r.e_shnum ≡ field file (at + 60) 2
  pub e_shstrndx : r.e_shstrndx ≡ field file (at + 62) 2

-- a file header's parts, in their order
abbrev pub ehdr_parts : Ehdr → List RecordField
ehdr_parts r =
    Raw 4 r.ident_magic ∷ Number 1 r.ident_class ∷ Number 1 r.ident_data ∷ Number 1 r.ident_version
    ∷ Number 1 r.ident_osabi ∷ Number 1 r.ident_abi_version ∷ Raw 7 r.ident_padding
    ∷ Number 2 r.e_type ∷ Number 2 r.e_machine ∷ Number 4 r.e_version ∷ Number 8 r.e_entry
    ∷ Number 8 r.e_phoff ∷ Number 8 r.e_shoff ∷ Number 4 r.e_flags ∷ Number 2 r.e_ehsize
    ∷ Number 2 r.e_phentsize ∷ Number 2 r.e_phnum ∷ Number 2 r.e_shentsize ∷ Number 2 r.e_shnum
    ∷ Number 2 r.e_shstrndx ∷ []

-- the result of the check of a file's identification: the header's fields, or the first check that
-- fails
abbrev pub IsChecked : List ℕ → Result Ehdr Refusal → Type 0
IsChecked file result =
    MatchResult result (λ header. (first_refusal (ident_checks file) ≡ None) × IsEhdr file 0 header)
    (λ refusal. first_refusal (ident_checks file) ≡ Some refusal)
