-- The file header of a file that is viewed without its section headers.
use Rattle.std.proofs.Common.{◌≡◌, ℕ, ◌+◌, ◌≤◌, ◌⊎◌, inl, inr, List, ap, sym, ◌∙◌, arith}
use Rattle.elf_model.specs.Prelude.{field, number, without_sections}
use Rattle.elf_model.proofs.StyleLemmas.{view_elsewhere, view_tells_of_none}
use Rattle.elf_record.specs.Prelude.{IsEhdr}
use Rattle.elf_record.specs.declared.ehdr.Ehdr.{Ehdr}

-- a field elsewhere
field_is : (file : List ℕ) (at count : ℕ) → (at + count ≤ 40) ⊎ ((48 ≤ at) × (at + count ≤ 60)) → field file at count ≡ field (without_sections file) at count
unfolding field
field_is file at count h = ap number (sym (view_elsewhere file at count h))

pub viewed_header : (file : List ℕ) (r : Ehdr) → IsEhdr file 0 r → IsEhdr (without_sections file) 0 (record { ident_magic = r.ident_magic; ident_class = r.ident_class; ident_data = r.ident_data; ident_version = r.ident_version; ident_osabi = r.ident_osabi; ident_abi_version = r.ident_abi_version; ident_padding = r.ident_padding; e_type = r.e_type; e_machine = r.e_machine; e_version = r.e_version; e_entry = r.e_entry; e_phoff = r.e_phoff; e_shoff = 0; e_flags = r.e_flags; e_ehsize = r.e_ehsize; e_phentsize = r.e_phentsize; e_phnum = r.e_phnum; e_shentsize = r.e_shentsize; e_shnum = 0; e_shstrndx = 0 })
viewed_header file r is =
    let none = view_tells_of_none file in
    let front = λ (at count : ℕ) (h : at + count ≤ 40). field_is file at count (inl h) in
    let middle = λ (at count : ℕ) (from : 48 ≤ at) (h : at + count ≤ 60). field_is file at count (inr (from, h)) in
    record {
      ident_magic = is.ident_magic ∙ sym (view_elsewhere file 0 4 (inl (omega arith)));
      ident_class = is.ident_class ∙ front 4 1 (omega arith);
      ident_data = is.ident_data ∙ front 5 1 (omega arith);
      ident_version = is.ident_version ∙ front 6 1 (omega arith);
      ident_osabi = is.ident_osabi ∙ front 7 1 (omega arith);
      ident_abi_version = is.ident_abi_version ∙ front 8 1 (omega arith);
      ident_padding = is.ident_padding ∙ sym (view_elsewhere file 9 7 (inl (omega arith)));
      e_type = is.e_type ∙ front 16 2 (omega arith);
      e_machine = is.e_machine ∙ front 18 2 (omega arith);
      e_version = is.e_version ∙ front 20 4 (omega arith);
      e_entry = is.e_entry ∙ front 24 8 (omega arith);
      e_phoff = is.e_phoff ∙ front 32 8 (omega arith);
      e_shoff = sym none.0;
      e_flags = is.e_flags ∙ middle 48 4 (omega arith) (omega arith);
      e_ehsize = is.e_ehsize ∙ middle 52 2 (omega arith) (omega arith);
      e_phentsize = is.e_phentsize ∙ middle 54 2 (omega arith) (omega arith);
      e_phnum = is.e_phnum ∙ middle 56 2 (omega arith) (omega arith);
      e_shentsize = is.e_shentsize ∙ middle 58 2 (omega arith) (omega arith);
      e_shnum = sym none.1;
      e_shstrndx = sym none.2;
    }
