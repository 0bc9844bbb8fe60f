-- The first of dynamic entries with each of the tags that locate a lookup's tables and the
-- relocations.
use Rattle.std.specs.Prelude.{ℕ, zero, suc, ◌≡◌, ◌+◌, ◌==◌, true, false, List, Option, None, Some, option_map}
use Rattle.elf_model.specs.Prelude.{DT_GNU_HASH, DT_HASH, DT_JMPREL, DT_PLTREL, DT_PLTRELSZ, DT_REL, DT_RELA, DT_RELAENT, DT_RELASZ, DT_RELENT, DT_RELR, DT_RELRENT, DT_RELRSZ, DT_RELSZ, DT_STRSZ, DT_STRTAB, DT_SYMTAB, DT_VERDEF, DT_VERNEED, DT_VERSYM, DYNAMIC_SIZE, d_tag, d_un, dynamic_count, tagged_row}
use Rattle.elf_table.specs.Tables.{TableRange}
use Rattle.elf_hash.specs.declared.dyn_entry.DynamicTags.{DynamicTags}
use Rattle.elf_hash.specs.declared.dyn_entry.DynEntry.{DynEntry}

-- the entry at an offset
abbrev pub dynamic_entry_at : List ℕ → ℕ → DynEntry
dynamic_entry_at file at = record { at = at; value = d_un file at }

-- the same, if it has a tag
abbrev pub entry_here : List ℕ → ℕ → ℕ → Option DynEntry
entry_here file at tag = elim (d_tag file at == tag) [ true ↦ Some (dynamic_entry_at file at) | false ↦ None ]

-- an entry, or another if there is none
abbrev pub first_entry : Option DynEntry → Option DynEntry → Option DynEntry
first_entry (Some entry) other = Some entry
first_entry None other = other

-- the first of the n entries at an offset that has a tag
unfoldable pub tagged_entry : List ℕ → ℕ → ℕ → ℕ → Option DynEntry
tagged_entry file at zero tag = None
tagged_entry file at (suc n) tag = elim (d_tag file at == tag) [ true ↦ Some (dynamic_entry_at file at) | false ↦ tagged_entry file (at + DYNAMIC_SIZE) n tag ]

-- the first listed entry with a tag, of those of a table
abbrev pub listed_entry : List ℕ → TableRange → ℕ → Option DynEntry
listed_entry file table tag = tagged_entry file table.at (dynamic_count file table.at table.count) tag

-- a predicate holds of the entry with each tag
pub record EachTag (P : Option DynEntry → ℕ → Type 0) (found : DynamicTags) : Type 0 where
  pub hash : P found.hash DT_HASH
  pub gnu_hash : P found.gnu_hash DT_GNU_HASH
  pub symtab : P found.symtab DT_SYMTAB
  pub strtab : P found.strtab DT_STRTAB
  pub strsz : P found.strsz DT_STRSZ
  pub versym : P found.versym DT_VERSYM
  pub verdef : P found.verdef DT_VERDEF
  pub verneed : P found.verneed DT_VERNEED
  pub relr : P found.relr DT_RELR
  pub relrsz : P found.relrsz DT_RELRSZ
  pub relrent : P found.relrent DT_RELRENT
  pub rel : P found.rel DT_REL
  pub relsz : P found.relsz DT_RELSZ
  pub relent : P found.relent DT_RELENT
  pub rela : P found.rela DT_RELA
  pub relasz : P found.relasz DT_RELASZ
  pub relaent : P found.relaent DT_RELAENT
  pub jmprel : P found.jmprel DT_JMPREL
  pub pltrelsz : P found.pltrelsz DT_PLTRELSZ
  pub pltrel : P found.pltrel DT_PLTREL

-- no entry
abbrev pub no_entries : DynamicTags
no_entries = record { hash = None; gnu_hash = None; symtab = None; strtab = None; strsz = None; versym = None; verdef = None; verneed = None; relr = None; relrsz = None; relrent = None; rel = None; relsz = None; relent = None; rela = None; relasz = None; relaent = None; jmprel = None; pltrelsz = None; pltrel = None }

-- the entry at an offset is added after others
pub record TakesEntry (file : List ℕ) (at : ℕ) (old new : DynamicTags) : Type 0 where
  pub hash : new.hash ≡ first_entry old.hash (entry_here file at DT_HASH)
  pub gnu_hash : new.gnu_hash ≡ first_entry old.gnu_hash (entry_here file at DT_GNU_HASH)
  pub symtab : new.symtab ≡ first_entry old.symtab (entry_here file at DT_SYMTAB)
  pub strtab : new.strtab ≡ first_entry old.strtab (entry_here file at DT_STRTAB)
  pub strsz : new.strsz ≡ first_entry old.strsz (entry_here file at DT_STRSZ)
  pub versym : new.versym ≡ first_entry old.versym (entry_here file at DT_VERSYM)
  pub verdef : new.verdef ≡ first_entry old.verdef (entry_here file at DT_VERDEF)
  pub verneed : new.verneed ≡ first_entry old.verneed (entry_here file at DT_VERNEED)
  pub relr : new.relr ≡ first_entry old.relr (entry_here file at DT_RELR)
  pub relrsz : new.relrsz ≡ first_entry old.relrsz (entry_here file at DT_RELRSZ)
  pub relrent : new.relrent ≡ first_entry old.relrent (entry_here file at DT_RELRENT)
  pub rel : new.rel ≡ first_entry old.rel (entry_here file at DT_REL)
  pub relsz : new.relsz ≡ first_entry old.relsz (entry_here file at DT_RELSZ)
  pub relent : new.relent ≡ first_entry old.relent (entry_here file at DT_RELENT)
  pub rela : new.rela ≡ first_entry old.rela (entry_here file at DT_RELA)
  pub relasz : new.relasz ≡ first_entry old.relasz (entry_here file at DT_RELASZ)
  pub relaent : new.relaent ≡ first_entry old.relaent (entry_here file at DT_RELAENT)
  pub jmprel : new.jmprel ≡ first_entry old.jmprel (entry_here file at DT_JMPREL)
  pub pltrelsz : new.pltrelsz ≡ first_entry old.pltrelsz (entry_here file at DT_PLTRELSZ)
  pub pltrel : new.pltrel ≡ first_entry old.pltrel (entry_here file at DT_PLTREL)

-- they are the first listed entries of a table
abbrev pub AreListed : List ℕ → TableRange → DynamicTags → Type 0
AreListed file table found = EachTag (λ entry tag. entry ≡ listed_entry file table tag) found

-- they are those of the segment whose program header is at an offset
abbrev pub AreTaggedEntries : List ℕ → ℕ → DynamicTags → Type 0
AreTaggedEntries file at found = EachTag (λ entry tag. entry ≡ option_map (dynamic_entry_at file) (tagged_row file at tag)) found
