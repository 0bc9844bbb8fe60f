-- Facts about the rows of some names.
use Rattle.std.specs.Prelude.{ℕ, ◌≡◌, ◌==◌, ◌&&◌, ◌||◌, not, Bool, true, false, List, [], ◌∷◌, ◌++◌, map}
use Rattle.std.specs.List.{list_any}
use Rattle.std.specs.List.Sorted.{IsPermutation}
use Rattle.std.specs.Str.{bytes_eq}
use Rattle.elf_model.specs.Choice.{NoSuffix, RowFilter, RowsOf, Suffix, Suffixed, chooses, wanted_text}
use Rattle.elf_model.specs.Loader.{AT_SIGN, SymbolQuery}
use Rattle.elf_model.specs.Names.{DisplayedName}
use Rattle.elf_model.specs.Names.DisplayedName.{Whole, Cut}

-- without versions the row of a name is shown exactly if it is one of the names, byte for byte, no
-- matter what follows it
abbrev pub NamesAreChosen : Type 0
NamesAreChosen =
    (names : List (List ℕ)) (name : List ℕ) (suffix : Suffix)
    → chooses (RowsOf (map (wanted_text false) names)) (Whole name) suffix ≡ list_any (bytes_eq name) names

-- the sign that splits a text is in a name, and at the start of a version
abbrev pub has_sign : List ℕ → Bool
has_sign name = list_any (λ byte. byte == AT_SIGN) name

abbrev pub has_sign_first : List ℕ → Bool
has_sign_first [] = false
has_sign_first (byte ∷ _) = byte == AT_SIGN

-- one of some texts is a name with its version after one sign, or after two if it is the default
-- one
abbrev pub has_version : List (List ℕ) → (name : List ℕ) (is_default : Bool) (version : DisplayedName) → Bool
has_version texts name is_default (Cut _) = false
has_version texts name is_default (Whole version) =
    (not (has_sign_first version) && list_any (bytes_eq (name ++ AT_SIGN ∷ version)) texts)
    || (is_default && list_any (bytes_eq (name ++ AT_SIGN ∷ AT_SIGN ∷ version)) texts)

-- with versions the row of a name without the sign is shown if one of the texts is the name, byte
-- for byte
abbrev pub NamesAloneAreChosen : Type 0
NamesAloneAreChosen =
    (texts : List (List ℕ)) (name : List ℕ)
    → chooses (RowsOf (map (wanted_text true) texts)) (Whole name) NoSuffix ≡ not (has_sign name) && list_any (bytes_eq name) texts

-- and if a version follows it, also if one is the name with that version
abbrev pub VersionsAreChosen : Type 0
VersionsAreChosen =
    (texts : List (List ℕ)) (name : List ℕ) (is_default : Bool) (version : DisplayedName)
    → chooses (RowsOf (map (wanted_text true) texts)) (Whole name) (Suffixed is_default version)
    ≡ not (has_sign name) && (list_any (bytes_eq name) texts || has_version texts name is_default version)

-- a row that is shown without a version is shown with any version
abbrev pub NamesFitEveryVersion : Type 0
NamesFitEveryVersion =
    (choice : RowFilter) (name : DisplayedName) (suffix : Suffix) → chooses choice name NoSuffix ≡ true → chooses choice name suffix ≡ true

-- a name that is cut matches none of them, no matter what follows it
abbrev pub CutNamesAreNone : Type 0
CutNamesAreNone = (names : List SymbolQuery) (front : List ℕ) (suffix : Suffix) → chooses (RowsOf names) (Cut front) suffix ≡ false

-- their order does not matter
abbrev pub OrderChoosesNothing : Type 0
OrderChoosesNothing =
    (names others : List SymbolQuery) → IsPermutation names others
    → (name : DisplayedName) (suffix : Suffix) → chooses (RowsOf names) name suffix ≡ chooses (RowsOf others) name suffix
