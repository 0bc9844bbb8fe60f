-- The line of what a layout is missing, by whether the name was truncated.
use Rattle.std.proofs.Common.{◌≡◌, ◌==◌, Bool, true, false, List, ◌++◌, length, codes, refl, append_assoc, ℕ}
use Rattle.elf_model.specs.Prelude.{entry_item_text, entry_text, escaped, help_text, item_text, items_text, name_text, type_prefix, where_named}
use Rattle.elf_model.specs.declared.missing.LayoutAddress.TheVariants.{Entry, Named}
use Rattle.elf_model.specs.declared.relocation_types.RelocationBase.{RelocationBase}
use Rattle.elf_model.specs.Names.DisplayedName.{Whole}
use Rattle.elf_format.specs.Named.{shown_as}

-- without a name
pub entry_unnamed : (kind : ℕ) (name : List ℕ) (is_cut : Bool) → is_cut ≡ false → (length name == 0) ≡ true
    → entry_text kind (shown_as is_cut name) ≡ type_prefix kind ++ codes ": "
unfolding entry_text
entry_unnamed kind name true whole none = absurd (cc)
entry_unnamed kind name false whole none = rw (none, entry_text) refl

-- with one, or the prefix of one
pub entry_named : (kind : ℕ) (name : List ℕ) (is_cut : Bool) → (is_cut ≡ false → (length name == 0) ≡ false)
    → entry_text kind (shown_as is_cut name) ≡ (type_prefix kind ++ codes " to ") ++ (name_text (shown_as is_cut name) ++ codes ": ")
unfolding entry_text
entry_named kind name true some = refl
entry_named kind name false some = rw (some refl, entry_text) refl

-- the items of a name
pub help_named : (base : RelocationBase) (name : List ℕ) (is_cut : Bool) → is_cut ≡ false → (length name == 0) ≡ false
    → help_text (Named base) (shown_as is_cut name) ≡ items_text base (escaped name)
unfolding help_text name_text
help_named base name true whole some = absurd (cc)
help_named base name false whole some = rw (some, help_text, where_named) refl

-- the item of its procedure linkage table entry
pub help_entry : (name : List ℕ) (is_cut : Bool) → is_cut ≡ false → (length name == 0) ≡ false
    → help_text Entry (shown_as is_cut name) ≡ entry_item_text (escaped name)
unfolding help_text name_text
help_entry name true whole some = absurd (cc)
help_entry name false whole some = rw (some, help_text, where_named) refl

-- an item of a name, by the texts around it
pub item_around : (word name tail : List ℕ) → item_text word (escaped name) tail ≡ word ++ (name_text (Whole name) ++ tail)
unfolding name_text
item_around word name tail = append_assoc word (escaped name) tail
