-- The words of this crate, for one import elsewhere.
pub use Rattle.elf_record.specs.Dyn.{IsDyn, dyn_parts}
pub use Rattle.elf_record.specs.Ehdr.{IsChecked, IsEhdr, ehdr_parts}
pub use Rattle.elf_record.specs.NoteHead.{IsNoteHead, note_head_parts}
pub use Rattle.elf_record.specs.Parts.{FieldsAreAt}
pub use Rattle.elf_record.specs.Phdr.{IsPhdr, phdr_parts}
pub use Rattle.elf_record.specs.Rel.{IsAddend, IsRel, rel_parts}
pub use Rattle.elf_record.specs.Rela.{IsRela, rela_parts}
pub use Rattle.elf_record.specs.Shdr.{IsShdr, shdr_parts}
pub use Rattle.elf_record.specs.Sym.{IsSym, sym_parts}
pub use Rattle.elf_record.specs.Verdef.{IsVerdef, verdef_parts}
pub use Rattle.elf_record.specs.Vernaux.{IsVernaux, vernaux_parts}
pub use Rattle.elf_record.specs.Verneed.{IsVerneed, verneed_parts}
