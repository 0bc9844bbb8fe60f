-- The words of the flags of dynamic entries, as a table shows them.
use Rattle.std.specs.Prelude.{ℕ, ◌-◌, ◌/◌, ◌%◌, ◌^◌, ◌==◌, if◌then◌else◌, Bool, true, false, List, [], ◌∷◌, ◌++◌, codes, length}
use Rattle.elf_model.specs.Text.{short_hex, space}
use Rattle.elf_model.specs.TraitNumbers.{DT_FLAGS, DT_FLAGS_1}
use Rattle.elf_model.specs.declared.formats.Format.{Format}
use Rattle.elf_model.specs.declared.formats.Format.TheVariants.{Columns, Object, Table}

-- the flags of DT_FLAGS (gABI 5, Dynamic Section), each a bit, from the lowest
unfoldable pub dynamic_flags : List (List ℕ)
dynamic_flags =
    codes "ORIGIN" ∷ codes "SYMBOLIC" ∷ codes "TEXTREL" ∷ codes "BIND_NOW" ∷ codes "STATIC_TLS" ∷ []

-- those of the GNU DT_FLAGS_1
unfoldable pub dynamic_flags_1 : List (List ℕ)
dynamic_flags_1 =
    codes "NOW" ∷ codes "GLOBAL" ∷ codes "GROUP" ∷ codes "NODELETE" ∷ codes "LOADFLTR" ∷ codes "INITFIRST"
    ∷ codes "NOOPEN" ∷ codes "ORIGIN" ∷ codes "DIRECT" ∷ codes "TRANS" ∷ codes "INTERPOSE" ∷ codes "NODEFLIB"
    ∷ codes "NODUMP" ∷ codes "CONFALT" ∷ codes "ENDFILTEE" ∷ codes "DISPRELDNE" ∷ codes "DISPRELPND"
    ∷ codes "NODIRECT" ∷ codes "IGNMULDEF" ∷ codes "NOKSYMS" ∷ codes "NOHDR" ∷ codes "EDITED" ∷ codes "NORELOC"
    ∷ codes "SYMINTPOSE" ∷ codes "GLOBAUDIT" ∷ codes "SINGLETON" ∷ codes "STUB" ∷ codes "PIE" ∷ codes "KMOD"
    ∷ codes "WEAKFILTER" ∷ codes "NOCOMMON" ∷ []

-- what is between a word and the one before it
abbrev pub separator : (between : List ℕ) → (is_first : Bool) → List ℕ
separator between is_first = if is_first then [] else between

-- the words of the bits of a number that are set, from the lowest, and then other bits as a number
unfoldable pub with_words : (between : List ℕ) → (others : ℕ) → (is_first : Bool) → List (List ℕ) → ℕ → List ℕ
with_words between others is_first [] n =
    if others == 0 then [] else separator between is_first ++ codes "0x" ++ short_hex others
with_words between others is_first (word ∷ words) n =
    if n % 2 == 1 then separator between is_first ++ word ++ with_words between others false words (n / 2)
    else with_words between others is_first words (n / 2)

-- THE WORDS OF FLAGS, with a text between two of them: a bit above those with a word has none
unfoldable pub flags_text : (between : List ℕ) → List (List ℕ) → ℕ → List ℕ
flags_text between words n = with_words between (n - n % 2 ^ length words) true words n

-- the words of a dynamic entry's value, if it is flags
unfoldable pub flag_words : (tag value : ℕ) → List ℕ
flag_words tag value =
    if tag == DT_FLAGS then flags_text space dynamic_flags value
    else if tag == DT_FLAGS_1 then flags_text space dynamic_flags_1 value
    else []

-- what the row of an entry has in place of a string: in a table the words of its flags
abbrev pub value_text : Format → (tag value : ℕ) → List ℕ
value_text Table tag value = flag_words tag value
value_text Columns tag value = []
value_text Object tag value = []
