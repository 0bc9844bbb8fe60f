-- The properties of a list, as the code reads them.
use Rattle.std.specs.Prelude.{ℕ, ◌≡◌, ◌<◌, ◌⊎◌, Bool, true, false, List, [], ◌∷◌, ◌++◌, codes, length, Option, None, Some, is_some}
use Rattle.elf_model.specs.Prelude.{ListEnds, NoProperty, OneProperty, Property, PropertyWalk, hex_bytes, next_property, short_hex}
use Rattle.elf_format.specs.declared.properties.ListedProperty.{ListedProperty}

-- a property that was read
abbrev pub property_of : ListedProperty → Property
property_of read = record { kind = read.kind; content = read.content.now }

-- a property without words: its type and its data
abbrev pub other_text : Property → List ℕ
other_text property = codes "0x" ++ short_hex property.kind ++ codes ": " ++ hex_bytes property.content

-- what was read at the start of some bytes: the property, or that there is none
abbrev pub IsNextProperty : List ℕ → Option ListedProperty → Type 0
IsNextProperty bytes None = ((length bytes ≡ 0) × (next_property bytes ≡ ListEnds)) ⊎ ((0 < length bytes) × (next_property bytes ≡ NoProperty))
IsNextProperty bytes (Some read) = next_property bytes ≡ OneProperty (property_of read) read.size

-- a list has no property
abbrev pub is_none_listed : PropertyWalk → Bool
is_none_listed walk = elim walk.properties [ [] ↦ true | property ∷ properties ↦ false ]

-- what is left of a list is no property
abbrev pub is_cut : PropertyWalk → Bool
is_cut walk = is_some walk.cut
