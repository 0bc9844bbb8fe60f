-- Records of versions, and the versions of symbols, are lawful kinds of tables.
use Rattle.std.proofs.Common.{◌≡◌, ℕ, ◌+◌, ◌*◌, ◌/◌, ◌≤◌, ◌==◌, ◌&&◌, ◌||◌, not, Bool, true, false, [], ◌∷◌, refl, ap, ◌∙◌, arith}
use Rattle.std.proofs.Math.Nat.{mul-le-mul_right, div-mul-le_self, mul-add}
use Rattle.std.proofs.lemmas.Bool.{eqb-true}
use Rattle.elf_model.specs.Prelude.{DEFINED_NAME_SIZE, DEFINITION_SIZE, HeaderTable, NEED_SIZE, SHT_GNU_VERDEF, SHT_GNU_VERNEED, SHT_GNU_VERSYM, has_strings, has_symbol_table, header_field, held_headers, is_symbol_table, links, name_bytes, pass, sh_link, sh_size, sh_type, symbol_versions, table_checks_of, version_definitions, version_needs, versioned_cost, versioned_rows, walks_cost}
use Rattle.elf_model.specs.VersionRows.{version_kinds}
use Rattle.elf_model.proofs.HeldHeaders.{kind-equal, range_held, size_held, table_held, type_held, versions_held}
use Rattle.elf_model.proofs.LawfulKinds.{AreLawful, CostsTheSame, IsTyped, LawfulSection, ReadsWithin, one-among}
use Rattle.elf_model.proofs.SelectionLaws.{definitions_same, needs_same, symbol_versions_same}
use Rattle.elf_model.proofs.SumLemmas.{and-first, and-second, cost_where-within, fewer}
use Rattle.elf_model.proofs.TableBounds.{most_bound, range_fits, records_within, table_bound, table_fits, walk_within, within_most}

-- the types of the headers
pub definitions_typed : IsTyped sh_type (SHT_GNU_VERDEF ∷ []) version_definitions
unfolding version_definitions
definitions_typed bytes at h = one-among (sh_type bytes at) SHT_GNU_VERDEF h

pub needs_typed : IsTyped sh_type (SHT_GNU_VERNEED ∷ []) version_needs
unfolding version_needs
needs_typed bytes at h = one-among (sh_type bytes at) SHT_GNU_VERNEED h

pub symbol_versions_typed : IsTyped sh_type (SHT_GNU_VERSYM ∷ []) symbol_versions
unfolding symbol_versions
symbol_versions_typed bytes at h = one-among (sh_type bytes at) SHT_GNU_VERSYM h

-- what the tables of a section header read
pub definitions_fit : ReadsWithin table_bound version_definitions
unfolding version_definitions
definitions_fit headers i size cap h = records_within 20 (28 + name_bytes cap) (name_bytes cap) size (header_field headers sh_size i) (omega arith) (omega arith) (range_fits headers i size h)

pub needs_fit : ReadsWithin table_bound version_needs
unfolding version_needs
needs_fit headers i size cap h = records_within 16 (16 + name_bytes cap) (name_bytes cap) size (header_field headers sh_size i) (omega arith) (omega arith) (range_fits headers i size h)

-- The symbols that a versym section links to.
module _ (headers : HeaderTable) (i size : ℕ) where
  linked_fits : has_symbol_table headers i size ≡ true → header_field headers sh_size (header_field headers sh_link i) ≤ size
  linked_fits h =
      let link : ℕ = header_field headers sh_link i in
      by_empty (header_field headers sh_size link == 0) refl
      (and-second (links headers i && is_symbol_table (headers.bytes link) (headers.at link)) _ h)
    where
      by_empty : (empty : Bool) → (header_field headers sh_size (header_field headers sh_link i) == 0) ≡ empty
          → (empty || (pass (table_checks_of (headers.bytes (header_field headers sh_link i)) (headers.at (header_field headers sh_link i)) size (headers.at (header_field headers sh_link i)) 24) && has_strings headers (header_field headers sh_link i) size)) ≡ true
          → header_field headers sh_size (header_field headers sh_link i) ≤ size
      by_empty true e h = let zero = eqb-true (header_field headers sh_size (header_field headers sh_link i)) 0 e in omega arith
      by_empty false e h = table_fits headers (header_field headers sh_link i) size 24 (and-first _ (has_strings headers (header_field headers sh_link i) size) h)

  rows_fit : (cap : ℕ) → has_symbol_table headers i size ≡ true → versioned_rows headers i * (2 + name_bytes cap) + walks_cost headers size ≤ table_bound size cap
  unfolding walks_cost
  rows_fit cap h =
      let n : ℕ = name_bytes cap in
      let linked : ℕ = header_field headers sh_size (header_field headers sh_link i) in
      let few : linked / 24 ≤ size / 16 = fewer 24 size linked (omega arith) (linked_fits h) in
      let least : versioned_rows headers i ≤ linked / 24 = omega arith in
      let rows : versioned_rows headers i * (2 + n) ≤ size / 16 * (2 + n) = mul-le-mul_right (2 + n) (omega arith) in
      let first = walk_within headers size SHT_GNU_VERDEF DEFINITION_SIZE (DEFINITION_SIZE + DEFINED_NAME_SIZE) (omega arith) in
      let second = walk_within headers size SHT_GNU_VERNEED NEED_SIZE NEED_SIZE (omega arith) in
      let fewest : size / 20 ≤ size / 16 = fewer 20 size size (omega arith) (omega arith) in
      let s : size / 16 * 16 ≤ size = div-mul-le_self size 16 in
      let sum : size / 16 * (32 + n) ≡ size / 16 * (2 + n) + size / 16 * 30 = ap (λ (k : ℕ). size / 16 * k) (omega arith) ∙ mul-add (size / 16) (2 + n) 30 in
      omega arith

pub versions_fit : ReadsWithin table_bound symbol_versions
unfolding symbol_versions versioned_cost
versions_fit headers i size cap h =
    cost_where-within (has_symbol_table headers i size && not (header_field headers sh_size i == 0)) _ (table_bound size cap) (λ some.
    rows_fit headers i size cap (and-first (has_symbol_table headers i size) (not (header_field headers sh_size i == 0)) some))

-- what they cost by section headers in bytes of their own
pub definitions_cost : CostsTheSame 64 version_definitions
unfolding version_definitions
definitions_cost all row fields i size cap below =
    kind-equal version_definitions (held_headers all.count row) all i size cap (ap (λ n. n == SHT_GNU_VERDEF) (type_held all row fields i below)) (range_held all row fields i size below)
    (ap (λ n. n / 20 * (28 + name_bytes cap)) (size_held all row fields i below))

pub needs_cost : CostsTheSame 64 version_needs
unfolding version_needs
needs_cost all row fields i size cap below =
    kind-equal version_needs (held_headers all.count row) all i size cap (ap (λ n. n == SHT_GNU_VERNEED) (type_held all row fields i below)) (range_held all row fields i size below)
    (ap (λ n. n / 16 * (16 + name_bytes cap)) (size_held all row fields i below))

pub symbol_versions_cost : CostsTheSame 64 symbol_versions
unfolding symbol_versions
symbol_versions_cost all row fields i size cap below =
    kind-equal symbol_versions (held_headers all.count row) all i size cap (ap (λ n. n == SHT_GNU_VERSYM) (type_held all row fields i below)) (table_held all row fields i size 2 below)
    (versions_held all row fields i size cap below)

abbrev definitions_lawful : (versions : Bool) → LawfulSection versions version_definitions
definitions_lawful versions = record {
  types = SHT_GNU_VERDEF ∷ [];
  typed = definitions_typed;
  fits = λ headers i size cap h. within_most versions size cap (definitions_fit headers i size cap h);
  held = definitions_cost;
  same = definitions_same;
}

abbrev needs_lawful : (versions : Bool) → LawfulSection versions version_needs
needs_lawful versions = record {
  types = SHT_GNU_VERNEED ∷ [];
  typed = needs_typed;
  fits = λ headers i size cap h. within_most versions size cap (needs_fit headers i size cap h);
  held = needs_cost;
  same = needs_same;
}

abbrev symbol_versions_lawful : (versions : Bool) → LawfulSection versions symbol_versions
symbol_versions_lawful versions = record {
  types = SHT_GNU_VERSYM ∷ [];
  typed = symbol_versions_typed;
  fits = λ headers i size cap h. within_most versions size cap (versions_fit headers i size cap h);
  held = symbol_versions_cost;
  same = symbol_versions_same;
}

-- all of them
abbrev pub version_kinds_lawful : (versions : Bool) → AreLawful sh_type 64 (most_bound versions) version_kinds
version_kinds_lawful versions = (definitions_lawful versions, (needs_lawful versions, (symbol_versions_lawful versions, tt)))

-- what unfolds them, so that they compute on a file given byte by byte
unfoldable pub on_versions : Unit {0}
unfolding version_definitions version_needs symbol_versions
on_versions = tt
