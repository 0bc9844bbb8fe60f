-- The line of a value that does not fit, by its parts.
use Rattle.std.proofs.Common.{◌≡◌, ◌≢◌, ◌==◌, ℕ, ◌-◌, Bool, true, false, List, [], ◌∷◌, ◌++◌, length, codes, decimal, refl, sym, ap, ◌∙◌, append_assoc, arith}
use Rattle.std.proofs.lemmas.Bool.Decides.{nat_tests}
use Rattle.elf_model.specs.Prelude.{name_text, numbered_symbol, overflow_line, right_in, short_hex, spaces, truncated_text, unfit_text, whole_type_text}
use Rattle.elf_model.specs.declared.missing.OverflowedValue.{OverflowedValue}
use Rattle.elf_format.specs.Named.{shown_as}

-- a number in a column of no width
short_right : (n : ℕ) → right_in 0 ([] ++ short_hex n) ≡ short_hex n
unfolding right_in
short_right n = let none : 0 - length (short_hex n) ≡ 0 = omega arith in ap (λ (k : ℕ). spaces k ++ short_hex n) none

-- a symbol that has an index
pub numbered_some : (symbol : ℕ) → symbol ≢ 0 → numbered_symbol symbol ≡ codes " against symbol " ++ decimal symbol
unfolding numbered_symbol
numbered_some symbol h = let test : (symbol == 0) ≡ false = grind (arith, nat_tests) in rw (test, numbered_symbol) refl

-- the place and the words of the linker, as they are put
pub truncated_is : (o : OverflowedValue)
    → codes "elfsee: section " ++ decimal o.section ++ codes ", offset 0x" ++ right_in 0 ([] ++ short_hex o.offset) ++ (58 ∷ []) ++ codes " relocation truncated to fit: "
    ++ whole_type_text o.kind
    ≡ truncated_text o
unfolding truncated_text
truncated_is o =
    ap (λ (xs : List ℕ). xs ++ whole_type_text o.kind)
    (append_assoc (codes "elfsee: section " ++ decimal o.section ++ codes ", offset 0x" ++ right_in 0 ([] ++ short_hex o.offset)) (58 ∷ []) (codes " relocation truncated to fit: ")
    ∙ ap (λ (xs : List ℕ). codes "elfsee: section " ++ decimal o.section ++ codes ", offset 0x" ++ xs ++ codes ": relocation truncated to fit: ") (short_right o.offset))

-- the line without a name, and with one or the prefix of one
pub line_unnamed : (o : OverflowedValue) (name : List ℕ) (is_cut : Bool) → is_cut ≡ false → (length name == 0) ≡ true
    → overflow_line (record { overflowed = o; name = shown_as is_cut name }) ≡ truncated_text o ++ numbered_symbol o.symbol ++ unfit_text o.value
unfolding overflow_line
line_unnamed o name true whole none = absurd (cc)
line_unnamed o name false whole none = rw (none, overflow_line) refl

pub line_named : (o : OverflowedValue) (name : List ℕ) (is_cut : Bool) → (is_cut ≡ false → (length name == 0) ≡ false)
    → overflow_line (record { overflowed = o; name = shown_as is_cut name })
    ≡ (truncated_text o ++ codes " against symbol `") ++ (name_text (shown_as is_cut name) ++ (codes "'" ++ unfit_text o.value))
unfolding overflow_line
line_named o name true some = refl
line_named o name false some = rw (some refl, overflow_line) refl
