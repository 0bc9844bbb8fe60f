-- The rows of tables of relocations without addends.
use Rattle.std.specs.Prelude.{ℕ, ◌≡◌, List}
use Rattle.elf_model.specs.Prelude.{r_info, r_offset, relr_word}
use Rattle.elf_capi.specs.declared.relocation_rows.ShortEntry.{ShortEntry}

-- the entry at an offset of a file
pub record IsShortEntry (file : List ℕ) (at : ℕ) (entry : ShortEntry) : Type 0 where
  pub r_offset : entry.r_offset ≡ r_offset file at
  pub r_info : entry.r_info ≡ r_info file at

-- the word at an offset of a file
abbrev pub IsRelocationWord : List ℕ → ℕ → ℕ → Type 0
IsRelocationWord file at word = word ≡ relr_word file at
