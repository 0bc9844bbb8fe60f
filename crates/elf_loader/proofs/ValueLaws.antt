-- The values of dynamic entries, entry by entry, and those of a file.
use Rattle.std.proofs.Common.{◌≡◌, ℕ, suc, ◌+◌, ◌/◌, List, Option, None, Some, refl, sym, ap, ◌∙◌}
use Rattle.elf_model.specs.Prelude.{dynamic_count, dynamic_entry_value, dynamic_segment_index, dynamic_value, listed_value, p_filesz, p_offset, segment_at}
use Rattle.elf_table.specs.Prelude.{TableRange, next_row}
use Rattle.elf_note.specs.DynCursors.{DynCursorState, entries_left, first_value, value_here}
use Rattle.elf_note.proofs.EntriesLeft.{value-end, value-step}
use Rattle.elf_loader.specs.Prelude.{AreListedValues, AreTraitEntries, EachValue, TakesValues, no_values}
use Rattle.elf_loader.specs.declared.trait_tags.TraitTags.{TraitTags}

-- a value that was found, or that of the entries that are left, is what a table has
abbrev pub LeftValues : List ℕ → TableRange → DynCursorState → TraitTags → Type 0
LeftValues file table d found =
    EachValue (λ value tag. first_value value (dynamic_value file (next_row d.cursor) (entries_left file d) tag) ≡ listed_value file table.at table.count tag) found

module _ (file : List ℕ) (table : TableRange) (d : DynCursorState) (place : next_row d.cursor ≡ table.at) (count : entries_left file d ≡ dynamic_count file table.at table.count) where
  start : (tag : ℕ) → first_value None (dynamic_value file (next_row d.cursor) (entries_left file d) tag) ≡ listed_value file table.at table.count tag
  start tag =
      ap (λ (n : ℕ). dynamic_value file n (entries_left file d) tag) place
      ∙ ap (λ (n : ℕ). dynamic_value file table.at n tag) count

  -- before the first entry
  pub values_start : LeftValues file table d no_values
  values_start = record {
    soname = start _;
    rpath = start _;
    runpath = start _;
    textrel = start _;
    bind_now = start _;
    flags = start _;
    flags_1 = start _;
  }

module _ (file : List ℕ) (table : TableRange) (old new : DynCursorState) (found more : TraitTags)
    (less : entries_left file old ≡ suc (entries_left file new)) (next : next_row new.cursor ≡ next_row old.cursor + 16)
    (t : TakesValues file (next_row old.cursor) found more) (e : LeftValues file table old found) where
  taken : (one other : Option ℕ) (tag : ℕ) → one ≡ first_value other (value_here file (next_row old.cursor) tag)
      → first_value other (dynamic_value file (next_row old.cursor) (entries_left file old) tag) ≡ listed_value file table.at table.count tag
      → first_value one (dynamic_value file (next_row new.cursor) (entries_left file new) tag) ≡ listed_value file table.at table.count tag
  taken one other tag is goes =
      ap (λ (x : Option ℕ). first_value x (dynamic_value file (next_row new.cursor) (entries_left file new) tag)) is ∙ (value-step file old new tag other less next ∙ goes)

  -- one more entry is passed
  pub values_step : LeftValues file table new more
  values_step = record {
    soname = taken _ _ _ t.soname e.soname;
    rpath = taken _ _ _ t.rpath e.rpath;
    runpath = taken _ _ _ t.runpath e.runpath;
    textrel = taken _ _ _ t.textrel e.textrel;
    bind_now = taken _ _ _ t.bind_now e.bind_now;
    flags = taken _ _ _ t.flags e.flags;
    flags_1 = taken _ _ _ t.flags_1 e.flags_1;
  }

-- after the last entry
pub values_end : (file : List ℕ) (table : TableRange) (d : DynCursorState) (found : TraitTags) → entries_left file d ≡ 0 → LeftValues file table d found → AreListedValues file table found
values_end file table d found none e = record {
  soname = sym (value-end file d _ found.soname none) ∙ e.soname;
  rpath = sym (value-end file d _ found.rpath none) ∙ e.rpath;
  runpath = sym (value-end file d _ found.runpath none) ∙ e.runpath;
  textrel = sym (value-end file d _ found.textrel none) ∙ e.textrel;
  bind_now = sym (value-end file d _ found.bind_now none) ∙ e.bind_now;
  flags = sym (value-end file d _ found.flags none) ∙ e.flags;
  flags_1 = sym (value-end file d _ found.flags_1 none) ∙ e.flags_1;
}

-- the entry is at an offset that is given in other terms
module _ (file : List ℕ) where
  value_none : (tag : ℕ) → dynamic_segment_index file ≡ None → None ≡ dynamic_entry_value file tag
  unfolding dynamic_entry_value
  value_none tag e = rw (e, dynamic_entry_value) refl

  -- there is no PT_DYNAMIC segment
  pub values_none : dynamic_segment_index file ≡ None → AreTraitEntries file no_values
  values_none e = record {
    soname = value_none _ e;
    rpath = value_none _ e;
    runpath = value_none _ e;
    textrel = value_none _ e;
    bind_now = value_none _ e;
    flags = value_none _ e;
    flags_1 = value_none _ e;
  }

  module _ (i : ℕ) (e : dynamic_segment_index file ≡ Some i) (table : TableRange) (place : table.at ≡ p_offset file (segment_at file i))
      (count : table.count ≡ p_filesz file (segment_at file i) / 16) where
    value_is : (tag : ℕ) → listed_value file table.at table.count tag ≡ dynamic_entry_value file tag
    unfolding dynamic_entry_value
    value_is tag = rw (place, count, e, dynamic_entry_value) refl

    -- the table is that of the first such segment
    pub values_are : (found : TraitTags) → AreListedValues file table found → AreTraitEntries file found
    values_are found l = record {
      soname = l.soname ∙ value_is _;
      rpath = l.rpath ∙ value_is _;
      runpath = l.runpath ∙ value_is _;
      textrel = l.textrel ∙ value_is _;
      bind_now = l.bind_now ∙ value_is _;
      flags = l.flags ∙ value_is _;
      flags_1 = l.flags_1 ∙ value_is _;
    }
