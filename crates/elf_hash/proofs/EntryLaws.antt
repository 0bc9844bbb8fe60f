-- The first entries of a table, entry by entry, and their offsets.
use Rattle.std.proofs.Common.{◌≡◌, ℕ, zero, suc, ◌+◌, ◌/◌, ◌==◌, Bool, true, false, List, Option, None, Some, refl, sym, ap, subst, ◌∙◌, arith}
use Rattle.std.specs.Prelude.{option_map}
use Rattle.elf_model.specs.Prelude.{DYNAMIC_SIZE, d_tag, dynamic_at, dynamic_count, first_that, p_filesz, p_offset, tagged_row}
use Rattle.elf_record.specs.Prelude.{IsDyn}
use Rattle.elf_record.specs.declared.dyn_entry.Dyn.{Dyn}
use Rattle.elf_table.specs.Tables.{TableRange}
use Rattle.elf_hash.specs.Prelude.{AreListed, AreTaggedEntries, EachTag, TakesEntry, dynamic_entry_at, entry_here, first_entry, listed_entry, tagged_entry}
use Rattle.elf_hash.specs.declared.dyn_entry.DynEntry.{DynEntry}
use Rattle.elf_hash.specs.declared.dyn_entry.DynamicTags.{DynamicTags}

module _ (file : List ℕ) (tag : ℕ) where
  here_some : (at : ℕ) → (d_tag file at == tag) ≡ true → entry_here file at tag ≡ Some (dynamic_entry_at file at)
  here_some at t = rw (t, entry_here) refl

  here_none : (at : ℕ) → (d_tag file at == tag) ≡ false → entry_here file at tag ≡ None
  here_none at t = rw (t, entry_here) refl

  pub tagged_here : (at n : ℕ) → (d_tag file at == tag) ≡ true → tagged_entry file at (suc n) tag ≡ Some (dynamic_entry_at file at)
  unfolding tagged_entry
  tagged_here at n t = rw (t, tagged_entry) refl

  tagged_more : (at n : ℕ) → (d_tag file at == tag) ≡ false → tagged_entry file at (suc n) tag ≡ tagged_entry file (at + 16) n tag
  unfolding tagged_entry
  tagged_more at n t = rw (t, tagged_entry) refl

  -- the first entry is its own, or that of those after it
  tagged_suc : (at n : ℕ) → first_entry (entry_here file at tag) (tagged_entry file (at + 16) n tag) ≡ tagged_entry file at (suc n) tag
  tagged_suc at n = go (d_tag file at == tag) refl
    where
      go : (b : Bool) → (d_tag file at == tag) ≡ b → first_entry (entry_here file at tag) (tagged_entry file (at + 16) n tag) ≡ tagged_entry file at (suc n) tag
      go true t = ap (λ (x : Option DynEntry). first_entry x (tagged_entry file (at + 16) n tag)) (here_some at t) ∙ sym (tagged_here at n t)
      go false t = ap (λ (x : Option DynEntry). first_entry x (tagged_entry file (at + 16) n tag)) (here_none at t) ∙ sym (tagged_more at n t)

  -- an entry that is searched in the one that a step yields, and then in those that are left
  pub entry_step : (at n before : ℕ) (next : ℕ) (found : Option DynEntry) → before ≡ suc n → next ≡ at + 16
      → first_entry (first_entry found (entry_here file at tag)) (tagged_entry file next n tag) ≡ first_entry found (tagged_entry file at before tag)
  entry_step at n before next (Some entry) less there = refl
  entry_step at n before next None less there = rw (less, there) (tagged_suc at n)

  -- if no entry is left, it is the one found before
  pub entry_end : (at n : ℕ) (found : Option DynEntry) → n ≡ 0 → first_entry found (tagged_entry file at n tag) ≡ found
  unfolding tagged_entry
  entry_end at n (Some entry) z = refl
  entry_end at n None z = rw (z, tagged_entry) refl

  -- the entry of a row that is found
  abbrev row_entry : Option ℕ → ℕ → Option DynEntry
  row_entry None base = None
  row_entry (Some i) base = Some (dynamic_entry_at file (dynamic_at base i))

  abbrev has_tag : ℕ → ℕ → Bool
  has_tag base i = d_tag file (dynamic_at base i) == tag

  that_here : (base first n : ℕ) → has_tag base first ≡ true → first_that (has_tag base) first (suc n) ≡ Some first
  unfolding first_that
  that_here base first n t = rw (t, first_that) refl

  that_more : (base first n : ℕ) → has_tag base first ≡ false → first_that (has_tag base) first (suc n) ≡ first_that (has_tag base) (suc first) n
  unfolding first_that
  that_more base first n t = rw (t, first_that) refl

  tagged_none : (at : ℕ) → tagged_entry file at zero tag ≡ None
  unfolding tagged_entry
  tagged_none at = refl

  that_none : (base first : ℕ) → first_that (has_tag base) first zero ≡ None
  unfolding first_that
  that_none base first = refl

  tagged_is : (base first n : ℕ) → tagged_entry file (dynamic_at base first) n tag ≡ row_entry (first_that (has_tag base) first n) base
  tagged_is base first zero = tagged_none (dynamic_at base first) ∙ sym (ap (λ (x : Option ℕ). row_entry x base) (that_none base first))
  tagged_is base first (suc n) = go (tagged_is base (suc first) n) (has_tag base first) refl
    where
      go : tagged_entry file (dynamic_at base (suc first)) n tag ≡ row_entry (first_that (has_tag base) (suc first) n) base
          → (b : Bool) → has_tag base first ≡ b
          → tagged_entry file (dynamic_at base first) (suc n) tag ≡ row_entry (first_that (has_tag base) first (suc n)) base
      go behind true t = tagged_here (dynamic_at base first) n t ∙ sym (ap (λ (x : Option ℕ). row_entry x base) (that_here base first n t))
      go behind false t =
          let next : dynamic_at base first + 16 ≡ dynamic_at base (suc first) = omega arith in
          tagged_more (dynamic_at base first) n t ∙ (ap (λ (x : ℕ). tagged_entry file x n tag) next
          ∙ (behind ∙ sym (ap (λ (x : Option ℕ). row_entry x base) (that_more base first n t))))

  -- so it is where the definitions say
  pub listed_is : (at : ℕ) (table : TableRange) → table.at ≡ p_offset file at → table.count ≡ p_filesz file at / DYNAMIC_SIZE
      → listed_entry file table tag ≡ option_map (dynamic_entry_at file) (tagged_row file at tag)
  unfolding tagged_row
  listed_is at table place count =
      let n = dynamic_count file (p_offset file at) (p_filesz file at / DYNAMIC_SIZE) in
      let base = p_offset file at in
      let start : base ≡ dynamic_at base 0 = omega arith in
      let here : listed_entry file table tag ≡ tagged_entry file base n tag = rw (place, count) refl in
      here ∙ (ap (λ (x : ℕ). tagged_entry file x n tag) start ∙ (tagged_is base 0 n ∙ go (first_that (has_tag base) 0 n) refl))
    where
      go : (found : Option ℕ)
          → first_that (has_tag (p_offset file at)) 0 (dynamic_count file (p_offset file at) (p_filesz file at / DYNAMIC_SIZE)) ≡ found
          → row_entry (first_that (has_tag (p_offset file at)) 0 (dynamic_count file (p_offset file at) (p_filesz file at / DYNAMIC_SIZE))) (p_offset file at)
          ≡ option_map (dynamic_entry_at file) (tagged_row file at tag)
      go None e = rw (e, tagged_row) refl
      go (Some i) e = rw (e, tagged_row) refl

-- for each tag
pub entries_are : (file : List ℕ) (at : ℕ) (table : TableRange) (found : DynamicTags) → table.at ≡ p_offset file at → table.count ≡ p_filesz file at / DYNAMIC_SIZE
    → AreListed file table found → AreTaggedEntries file at found
entries_are file at table found place count l = record {
  hash = l.hash ∙ listed_is file _ at table place count;
  gnu_hash = l.gnu_hash ∙ listed_is file _ at table place count;
  symtab = l.symtab ∙ listed_is file _ at table place count;
  strtab = l.strtab ∙ listed_is file _ at table place count;
  strsz = l.strsz ∙ listed_is file _ at table place count;
  versym = l.versym ∙ listed_is file _ at table place count;
  verdef = l.verdef ∙ listed_is file _ at table place count;
  verneed = l.verneed ∙ listed_is file _ at table place count;
  relr = l.relr ∙ listed_is file _ at table place count;
  relrsz = l.relrsz ∙ listed_is file _ at table place count;
  relrent = l.relrent ∙ listed_is file _ at table place count;
  rel = l.rel ∙ listed_is file _ at table place count;
  relsz = l.relsz ∙ listed_is file _ at table place count;
  relent = l.relent ∙ listed_is file _ at table place count;
  rela = l.rela ∙ listed_is file _ at table place count;
  relasz = l.relasz ∙ listed_is file _ at table place count;
  relaent = l.relaent ∙ listed_is file _ at table place count;
  jmprel = l.jmprel ∙ listed_is file _ at table place count;
  pltrelsz = l.pltrelsz ∙ listed_is file _ at table place count;
  pltrel = l.pltrel ∙ listed_is file _ at table place count;
}

module _ (file : List ℕ) (table : TableRange) (at n before next : ℕ) (old new : DynamicTags) (less : before ≡ suc n) (there : next ≡ at + 16) (t : TakesEntry file at old new)
    (e : EachTag (λ entry tag. first_entry entry (tagged_entry file at before tag) ≡ listed_entry file table tag) old) where
  taken : (one other : Option DynEntry) (tag : ℕ) → one ≡ first_entry other (entry_here file at tag) → first_entry other (tagged_entry file at before tag) ≡ listed_entry file table tag
      → first_entry one (tagged_entry file next n tag) ≡ listed_entry file table tag
  taken one other tag is goes = ap (λ (x : Option DynEntry). first_entry x (tagged_entry file next n tag)) is ∙ (entry_step file tag at n before next other less there ∙ goes)

  pub each_step : EachTag (λ entry tag. first_entry entry (tagged_entry file next n tag) ≡ listed_entry file table tag) new
  each_step = record {
    hash = taken _ _ _ t.hash e.hash;
    gnu_hash = taken _ _ _ t.gnu_hash e.gnu_hash;
    symtab = taken _ _ _ t.symtab e.symtab;
    strtab = taken _ _ _ t.strtab e.strtab;
    strsz = taken _ _ _ t.strsz e.strsz;
    versym = taken _ _ _ t.versym e.versym;
    verdef = taken _ _ _ t.verdef e.verdef;
    verneed = taken _ _ _ t.verneed e.verneed;
    relr = taken _ _ _ t.relr e.relr;
    relrsz = taken _ _ _ t.relrsz e.relrsz;
    relrent = taken _ _ _ t.relrent e.relrent;
    rel = taken _ _ _ t.rel e.rel;
    relsz = taken _ _ _ t.relsz e.relsz;
    relent = taken _ _ _ t.relent e.relent;
    rela = taken _ _ _ t.rela e.rela;
    relasz = taken _ _ _ t.relasz e.relasz;
    relaent = taken _ _ _ t.relaent e.relaent;
    jmprel = taken _ _ _ t.jmprel e.jmprel;
    pltrelsz = taken _ _ _ t.pltrelsz e.pltrelsz;
    pltrel = taken _ _ _ t.pltrel e.pltrel;
  }

module _ (file : List ℕ) (table : TableRange) (at n : ℕ) (found : DynamicTags) (none : n ≡ 0)
    (e : EachTag (λ entry tag. first_entry entry (tagged_entry file at n tag) ≡ listed_entry file table tag) found) where
  pub each_end : AreListed file table found
  each_end = record {
    hash = sym (entry_end file _ at n found.hash none) ∙ e.hash;
    gnu_hash = sym (entry_end file _ at n found.gnu_hash none) ∙ e.gnu_hash;
    symtab = sym (entry_end file _ at n found.symtab none) ∙ e.symtab;
    strtab = sym (entry_end file _ at n found.strtab none) ∙ e.strtab;
    strsz = sym (entry_end file _ at n found.strsz none) ∙ e.strsz;
    versym = sym (entry_end file _ at n found.versym none) ∙ e.versym;
    verdef = sym (entry_end file _ at n found.verdef none) ∙ e.verdef;
    verneed = sym (entry_end file _ at n found.verneed none) ∙ e.verneed;
    relr = sym (entry_end file _ at n found.relr none) ∙ e.relr;
    relrsz = sym (entry_end file _ at n found.relrsz none) ∙ e.relrsz;
    relrent = sym (entry_end file _ at n found.relrent none) ∙ e.relrent;
    rel = sym (entry_end file _ at n found.rel none) ∙ e.rel;
    relsz = sym (entry_end file _ at n found.relsz none) ∙ e.relsz;
    relent = sym (entry_end file _ at n found.relent none) ∙ e.relent;
    rela = sym (entry_end file _ at n found.rela none) ∙ e.rela;
    relasz = sym (entry_end file _ at n found.relasz none) ∙ e.relasz;
    relaent = sym (entry_end file _ at n found.relaent none) ∙ e.relaent;
    jmprel = sym (entry_end file _ at n found.jmprel none) ∙ e.jmprel;
    pltrelsz = sym (entry_end file _ at n found.pltrelsz none) ∙ e.pltrelsz;
    pltrel = sym (entry_end file _ at n found.pltrel none) ∙ e.pltrel;
  }

-- an entry that is added is at an offset that is given in other terms
pub takes_at : (file : List ℕ) (at there : ℕ) (entry : Dyn) (old new : DynamicTags) → there ≡ at → (IsDyn file there entry → TakesEntry file there old new) → IsDyn file at entry
    → TakesEntry file at old new
takes_at file at there entry old new is gives is_at =
    subst (λ (x : ℕ). TakesEntry file x old new) is (gives (subst (λ (x : ℕ). IsDyn file x entry) (sym is) is_at))
