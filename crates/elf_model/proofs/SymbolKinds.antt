-- Symbols and relocation entries, with and without versions after names, are lawful kinds of tables.
use Rattle.std.proofs.Common.{◌≡◌, ℕ, ◌+◌, ◌*◌, ◌/◌, ◌≤◌, ◌==◌, ◌||◌, Bool, true, false, [], ◌∷◌, Option, None, Some, refl, ap, ap₂, ◌∙◌, arith}
use Rattle.std.proofs.Math.Nat.{mul-le-mul_right}
use Rattle.elf_model.specs.Prelude.{DEFINED_NAME_SIZE, DEFINITION_SIZE, HeaderTable, NEED_SIZE, SHT_GNU_VERDEF, SHT_GNU_VERNEED, first_numbers, header_field, held_headers, name_bytes, relocation_size, relocation_type, relocations, relocations_with_versions, sh_link, sh_size, sh_type, suffixed_symbols, suffixes_cost, suffixes_most, symbols, walks_cost}
use Rattle.elf_model.specs.TableKinds.{entries_kind, symbols_kind}
use Rattle.elf_model.proofs.HeldHeaders.{kind-equal, link_held, size_held, suffixes_held, symbols_held, table_held, type_held}
use Rattle.elf_model.proofs.LawfulKinds.{CostsTheSame, IsTyped, LawfulSection, ReadsWithin, is_among, one-among}
use Rattle.elf_model.proofs.SelectionLaws.{relocations_same, suffixed_relocations_same, suffixed_symbols_same, symbols_same}
use Rattle.elf_model.proofs.TableBounds.{entries_within, most_bound, table_bound, table_fits, walk_within, within_most}

-- a symbol table is of one of two types
symbols-typed : (n : ℕ) → n == 2 || n == 11 ≡ true → is_among (2 ∷ 11 ∷ []) n ≡ true
symbols-typed n h = by_first (n == 2) (n == 11) h
  where
    by_first : (a b : Bool) → a || b ≡ true → a || (b || false) ≡ true
    by_first true b h = refl
    by_first false true h = refl
    by_first false false h = h

-- what the tables of a section header read
pub symbols_fit : ReadsWithin table_bound symbols
unfolding symbols
symbols_fit headers i size cap h = entries_within 24 (name_bytes cap) (name_bytes cap) size (header_field headers sh_size i) (omega arith) (omega arith) (table_fits headers i size 24 h)

pub relocations_fit : (addends : Bool) → ReadsWithin table_bound (relocations addends)
unfolding relocations
relocations_fit true headers i size cap h = entries_within 24 (24 + name_bytes cap) (name_bytes cap) size (header_field headers sh_size i) (omega arith) (omega arith) (table_fits headers i size 24 h)
relocations_fit false headers i size cap h = entries_within 16 (24 + name_bytes cap) (name_bytes cap) size (header_field headers sh_size i) (omega arith) (omega arith) (table_fits headers i size 16 h)

-- the versions after the names of this many symbols
pub suffixes_fit : (headers : HeaderTable) (size cap table names : ℕ) → names ≤ size / 16 → suffixes_cost headers table names size cap ≤ suffixes_most size cap
unfolding suffixes_cost walks_cost
suffixes_fit headers size cap table names few = by_found (first_numbers headers table)
  where
    by_found : (found : Option ℕ)
        → (elim found as (λ _. ℕ) [ None ↦ 0 | Some i ↦ names * (2 + name_bytes cap) + walks_cost headers size ]) ≤ suffixes_most size cap
    by_found None = omega arith
    by_found (Some i) =
        let first = walk_within headers size SHT_GNU_VERDEF DEFINITION_SIZE (DEFINITION_SIZE + DEFINED_NAME_SIZE) (omega arith) in
        let second = walk_within headers size SHT_GNU_VERNEED NEED_SIZE NEED_SIZE (omega arith) in
        let rows : names * (2 + name_bytes cap) ≤ size / 16 * (2 + name_bytes cap) = mul-le-mul_right (2 + name_bytes cap) few in
        omega (arith, first, second, rows)

pub suffixed_symbols_fit : ReadsWithin (most_bound true) suffixed_symbols
unfolding suffixed_symbols symbols
suffixed_symbols_fit headers i size cap h =
    let within = table_fits headers i size 24 h in
    let plain = symbols_fit headers i size cap h in
    omega (arith, plain, suffixes_fit headers size cap i (header_field headers sh_size i / 24) (omega arith))

pub suffixed_relocations_fit : (addends : Bool) → ReadsWithin (most_bound true) (relocations_with_versions addends)
unfolding relocations_with_versions relocations
suffixed_relocations_fit true headers i size cap h =
    let within = table_fits headers i size 24 h in
    let plain = relocations_fit true headers i size cap h in
    omega (arith, plain, suffixes_fit headers size cap (header_field headers sh_link i) (header_field headers sh_size i / 24) (omega arith))
suffixed_relocations_fit false headers i size cap h =
    let within = table_fits headers i size 16 h in
    let plain = relocations_fit false headers i size cap h in
    omega (arith, plain, suffixes_fit headers size cap (header_field headers sh_link i) (header_field headers sh_size i / 16) (omega arith))

-- what they cost by section headers in bytes of their own
pub symbols_cost : CostsTheSame 64 symbols
unfolding symbols
symbols_cost all row fields i size cap below =
    kind-equal symbols (held_headers all.count row) all i size cap (symbols_held all row fields i below) (table_held all row fields i size 24 below)
    (ap (λ n. n / 24 * (24 + name_bytes cap)) (size_held all row fields i below))

pub relocations_cost : (addends : Bool) → CostsTheSame 64 (relocations addends)
unfolding relocations
relocations_cost addends all row fields i size cap below =
    kind-equal (relocations addends) (held_headers all.count row) all i size cap (ap (λ n. n == relocation_type addends) (type_held all row fields i below)) (table_held all row fields i size (relocation_size addends) below)
    (ap (λ n. n / relocation_size addends * (relocation_size addends + (24 + name_bytes cap))) (size_held all row fields i below))

-- with versions, of the symbols of this table
abbrev more : HeaderTable → (size cap table entry bytes each : ℕ) → ℕ
more all size cap table entry bytes each = bytes / entry * each + suffixes_cost all table (bytes / entry) size cap

pub suffixed_symbols_cost : CostsTheSame 64 suffixed_symbols
unfolding suffixed_symbols symbols
suffixed_symbols_cost all row fields i size cap below =
    kind-equal suffixed_symbols (held_headers all.count row) all i size cap (symbols_held all row fields i below) (table_held all row fields i size 24 below)
    (ap (λ n. header_field (held_headers all.count row) sh_size i / 24 * (24 + name_bytes cap) + n) (suffixes_held all row fields i (header_field (held_headers all.count row) sh_size i / 24) size cap)
    ∙ ap (λ n. more all size cap i 24 n (24 + name_bytes cap)) (size_held all row fields i below))

pub suffixed_relocations_cost : (addends : Bool) → CostsTheSame 64 (relocations_with_versions addends)
unfolding relocations_with_versions relocations
suffixed_relocations_cost addends all row fields i size cap below =
    let entry : ℕ = relocation_size addends in
    let held : HeaderTable = held_headers all.count row in
    kind-equal (relocations_with_versions addends) held all i size cap (ap (λ n. n == relocation_type addends) (type_held all row fields i below)) (table_held all row fields i size entry below)
    (ap (λ n. header_field held sh_size i / entry * (entry + (24 + name_bytes cap)) + n) (suffixes_held all row fields (header_field held sh_link i) (header_field held sh_size i / entry) size cap)
    ∙ ap₂ (λ n link. more all size cap link entry n (entry + (24 + name_bytes cap))) (size_held all row fields i below) (link_held all row fields i below))

-- the types of the headers
pub symbols_typed : IsTyped sh_type (2 ∷ 11 ∷ []) symbols
unfolding symbols
symbols_typed bytes at h = symbols-typed (sh_type bytes at) h

pub suffixed_symbols_typed : IsTyped sh_type (2 ∷ 11 ∷ []) suffixed_symbols
unfolding suffixed_symbols
suffixed_symbols_typed bytes at h = symbols-typed (sh_type bytes at) h

pub relocations_typed : (addends : Bool) → IsTyped sh_type (relocation_type addends ∷ []) (relocations addends)
unfolding relocations
relocations_typed addends bytes at h = one-among (sh_type bytes at) (relocation_type addends) h

pub suffixed_relocations_typed : (addends : Bool) → IsTyped sh_type (relocation_type addends ∷ []) (relocations_with_versions addends)
unfolding relocations_with_versions
suffixed_relocations_typed addends bytes at h = one-among (sh_type bytes at) (relocation_type addends) h

abbrev pub symbols_lawful : (versions : Bool) → LawfulSection versions (symbols_kind versions)
symbols_lawful true = record {
  types = 2 ∷ 11 ∷ [];
  typed = suffixed_symbols_typed;
  fits = suffixed_symbols_fit;
  held = suffixed_symbols_cost;
  same = suffixed_symbols_same;
}
symbols_lawful false = record {
  types = 2 ∷ 11 ∷ [];
  typed = symbols_typed;
  fits = λ headers i size cap h. within_most false size cap (symbols_fit headers i size cap h);
  held = symbols_cost;
  same = symbols_same;
}

abbrev pub entries_lawful : (addends versions : Bool) → LawfulSection versions (entries_kind addends versions)
entries_lawful addends true = record {
  types = relocation_type addends ∷ [];
  typed = suffixed_relocations_typed addends;
  fits = suffixed_relocations_fit addends;
  held = suffixed_relocations_cost addends;
  same = λ file style rows filter place. suffixed_relocations_same file style rows filter place addends;
}
entries_lawful addends false = record {
  types = relocation_type addends ∷ [];
  typed = relocations_typed addends;
  fits = λ headers i size cap h. within_most false size cap (relocations_fit addends headers i size cap h);
  held = relocations_cost addends;
  same = λ file style rows filter place. relocations_same file style rows filter place addends;
}

-- what unfolds them, so that they compute on a file given byte by byte
unfoldable pub on_symbols : Unit {0}
unfolding symbols suffixed_symbols relocations relocations_with_versions suffixes_cost
on_symbols = tt
