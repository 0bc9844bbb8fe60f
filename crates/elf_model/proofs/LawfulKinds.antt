-- What is proved of each kind of table, and what follows for the tables of all kinds.
use Rattle.std.proofs.Common.{◌≡◌, ℕ, ◌+◌, ◌<◌, ◌≤◌, ◌==◌, ◌&&◌, ◌||◌, not, Bool, true, false, List, [], ◌∷◌, refl, ap, ap₂, ◌∙◌, arith}
use Rattle.std.proofs.lemmas.Bool.{eqb-true}
use Rattle.elf_model.specs.Prelude.{HeaderTable, ListingStyle, RowFilter, TableKind, cost_where, has, header_field, held_headers, kinds_cost, p_type, pass, sh_type, table_cost}
use Rattle.elf_model.specs.declared.place_filters.PlaceFilter.{PlaceFilter}
use Rattle.elf_model.specs.declared.symbol_filters.SymbolFilter.{SymbolFilter}
use Rattle.elf_model.proofs.HeldHeaders.{AreHeld}
use Rattle.elf_model.proofs.SelectionLaws.{AreSame, SelectsAlike}
use Rattle.elf_model.proofs.SumLemmas.{and-first, and-second, cost_where-le}
use Rattle.elf_model.proofs.TableBounds.{kind-le, most_bound, table_bound}

-- a number is one of a list
abbrev pub is_among : List ℕ → ℕ → Bool
is_among [] n = false
is_among (m ∷ others) n = n == m || is_among others n

-- the headers of its tables are of these types
abbrev pub IsTyped : (List ℕ → ℕ → ℕ) → List ℕ → TableKind → Type 0
IsTyped type types kind = (bytes : List ℕ) (at : ℕ) → kind.has_table bytes at ≡ true → is_among types (type bytes at) ≡ true

-- its rows read no more than a bound
abbrev pub ReadsWithin : (ℕ → ℕ → ℕ) → TableKind → Type 0
ReadsWithin bound kind =
    (headers : HeaderTable) (i size cap : ℕ) → pass (kind.checks.own (headers.bytes i) (headers.at i) size) ≡ true → kind.asks headers i size cap ≤ bound size cap

-- by headers of this many bytes that are copied from a file it costs what it costs in the file
abbrev pub CostsTheSame : ℕ → TableKind → Type 0
CostsTheSame width kind =
    (all : HeaderTable) (row : ℕ → List ℕ) → AreHeld width row all → (i size cap : ℕ) → i < all.count
    → table_cost kind (held_headers all.count row) i size cap ≡ table_cost kind all i size cap

-- A LAWFUL KIND OF TABLE, by the type of the headers that describe its tables, how many bytes a
-- header has, and a bound on what a table reads; whatever rows are shown, its first fault is the
-- same
pub record LawfulKind (type : List ℕ → ℕ → ℕ) (width : ℕ) (bound : ℕ → ℕ → ℕ) (kind : TableKind) : Type 0 where
  pub types : List ℕ
  pub typed : IsTyped type types kind
  pub fits : ReadsWithin bound kind
  pub held : CostsTheSame width kind
  pub same : SelectsAlike kind

-- the kinds that section headers describe, with or without versions after the names of symbols, and
-- those that program headers do
abbrev pub LawfulSection : Bool → TableKind → Type 0
LawfulSection versions kind = LawfulKind sh_type 64 (most_bound versions) kind

abbrev pub LawfulSegment : TableKind → Type 0
LawfulSegment kind = LawfulKind p_type 56 table_bound kind

-- some kinds are lawful
abbrev pub AreLawful : (List ℕ → ℕ → ℕ) → ℕ → (ℕ → ℕ → ℕ) → List TableKind → Type 0
AreLawful type width bound [] = Unit {0}
AreLawful type width bound (kind ∷ kinds) = LawfulKind type width bound kind × AreLawful type width bound kinds

-- a header of one type
pub one-among : (n m : ℕ) → (n == m) ≡ true → is_among (m ∷ []) n ≡ true
one-among n m h = rw h refl

-- none of some numbers is among others
abbrev is_apart : List ℕ → (ℕ → Bool) → Bool
is_apart [] others = true
is_apart (n ∷ numbers) others = not (others n) && is_apart numbers others

apart-among : (numbers : List ℕ) (others : ℕ → Bool) (n : ℕ) → is_apart numbers others ≡ true → is_among numbers n ≡ true → others n ≡ false
apart-among [] others n apart among = cc
apart-among (m ∷ numbers) others n apart among =
    by_first (n == m) refl among (apart-among numbers others n (and-second (not (others m)) (is_apart numbers others) apart))
  where
    unless : (b : Bool) → not b ≡ true → b ≡ false
    unless true h = cc
    unless false h = refl

    by_first : (first : Bool) → (n == m) ≡ first → first || is_among numbers n ≡ true → (is_among numbers n ≡ true → others n ≡ false) → others n ≡ false
    by_first true is h rest =
        ap others (eqb-true n m is) ∙ unless (others m) (and-first (not (others m)) (is_apart numbers others) apart)
    by_first false is h rest = rest h

-- A header describes a table of one kind.
module _ (type : List ℕ → ℕ → ℕ) (width : ℕ) (bound : ℕ → ℕ → ℕ) where
  -- a type is one of a kind's
  abbrev is_typed : (kinds : List TableKind) → AreLawful type width bound kinds → ℕ → Bool
  is_typed [] lawful n = false
  is_typed (kind ∷ kinds) (law, laws) n = is_among law.types n || is_typed kinds laws n

  -- no type is that of two kinds
  abbrev pub are_apart : (kinds : List TableKind) → AreLawful type width bound kinds → Bool
  are_apart [] lawful = true
  are_apart (kind ∷ kinds) (law, laws) = is_apart law.types (is_typed kinds laws) && are_apart kinds laws

  -- what a table costs, if the parts have its kind
  kind-within : (kind : TableKind) (law : LawfulKind type width bound kind) (headers : HeaderTable) (i size cap : ℕ) (asked : Bool)
      → cost_where asked (table_cost kind headers i size cap) ≤ cost_where (is_among law.types (header_field headers type i)) (bound size cap)
  kind-within kind law headers i size cap asked =
      let one = kind-le kind headers i size cap (bound size cap) (law.fits headers i size cap) in
      let all = by_type (kind.has_table (headers.bytes i) (headers.at i)) (is_among law.types (header_field headers type i)) (law.typed (headers.bytes i) (headers.at i)) in
      let where_asked = cost_where-le asked (table_cost kind headers i size cap) in
      omega (arith, one, all, where_asked)
    where
      by_type : (has among : Bool) → (has ≡ true → among ≡ true) → cost_where has (bound size cap) ≤ cost_where among (bound size cap)
      by_type false among h = omega arith
      by_type true among h = rw (h refl) (omega arith)

  -- costs under two conditions of which one holds at most
  either-within : (one other : Bool) (a b most : ℕ) → (one ≡ true → other ≡ false) → a ≤ cost_where one most → b ≤ cost_where other most → a + b ≤ cost_where (one || other) most
  either-within true true a b most h one other = let no : true ≡ false = h refl in absurd cc
  either-within true false a b most h one other = omega (arith, one, other)
  either-within false other a b most h one rest = omega (arith, one, rest)

  kinds-within : (kinds : List TableKind) (laws : AreLawful type width bound kinds) → are_apart kinds laws ≡ true
      → (headers : HeaderTable) (i size cap parts : ℕ)
      → kinds_cost kinds headers i size cap parts ≤ cost_where (is_typed kinds laws (header_field headers type i)) (bound size cap)
  unfolding kinds_cost
  kinds-within [] laws apart headers i size cap parts = omega arith
  kinds-within (kind ∷ kinds) (law, laws) apart headers i size cap parts =
      let n : ℕ = header_field headers type i in
      either-within (is_among law.types n) (is_typed kinds laws n) _ _ (bound size cap)
      (apart-among law.types (is_typed kinds laws) n (and-first (is_apart law.types (is_typed kinds laws)) (are_apart kinds laws) apart))
      (kind-within kind law headers i size cap (has parts kind.part))
      (kinds-within kinds laws (and-second (is_apart law.types (is_typed kinds laws)) (are_apart kinds laws) apart) headers i size cap parts)

  -- THE TABLES OF A HEADER cost no more than the bound
  pub kinds-le : (kinds : List TableKind) (laws : AreLawful type width bound kinds) → are_apart kinds laws ≡ true
      → (headers : HeaderTable) (i size cap parts : ℕ) → kinds_cost kinds headers i size cap parts ≤ bound size cap
  kinds-le kinds laws apart headers i size cap parts =
      let within = kinds-within kinds laws apart headers i size cap parts in
      let most = cost_where-le (is_typed kinds laws (header_field headers type i)) (bound size cap) in
      omega (arith, within, most)

  -- by headers in bytes of their own they cost the same
  pub kinds-held : (kinds : List TableKind) → AreLawful type width bound kinds → (all : HeaderTable) (row : ℕ → List ℕ) → AreHeld width row all
      → (i size cap parts : ℕ) → i < all.count
      → kinds_cost kinds (held_headers all.count row) i size cap parts ≡ kinds_cost kinds all i size cap parts
  unfolding kinds_cost
  kinds-held [] laws all row fields i size cap parts below = refl
  kinds-held (kind ∷ kinds) (law, laws) all row fields i size cap parts below =
      ap₂ (λ one more. cost_where (has parts kind.part) one + more) (law.held all row fields i size cap below)
      (kinds-held kinds laws all row fields i size cap parts below)

  -- whatever rows are shown, their first fault is the same
  pub kinds-same : (kinds : List TableKind) → AreLawful type width bound kinds
      → (file : List ℕ) (style : ListingStyle) (rows : RowFilter) (filter : SymbolFilter) (place : PlaceFilter) → AreSame file style rows filter place kinds
  kinds-same [] laws file style rows filter place = tt
  kinds-same (kind ∷ kinds) (law, laws) file style rows filter place = (law.same file style rows filter place, kinds-same kinds laws file style rows filter place)
