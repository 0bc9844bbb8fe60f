-- Headers that are each held in bytes of their own have the fields that they have in the file.
use Rattle.std.proofs.Common.{◌≡◌, ℕ, suc, zero, ◌+◌, ◌*◌, ◌/◌, ◌%◌, ◌<◌, ◌≤◌, ◌==◌, ◌&&◌, ◌||◌, nat_lt, min, not, if◌then◌else◌, Bool, true, false, List, [], ◌∷◌, Option, None, Some, refl, ap, ap₂, ◌∙◌, arith, add-zero}
use Rattle.std.proofs.lemmas.Bool.{ltb-true}
use Rattle.elf_model.specs.Prelude.{DEFINED_NAME_SIZE, DEFINITION_SIZE, HeaderTable, NEED_SIZE, SHT_GNU_VERDEF, SHT_GNU_VERNEED, SHT_GNU_VERSYM, TableKind, field, first_numbers, first_that, first_typed, has_strings, header_field, held_headers, is_inside, is_outside, is_symbol_table, name_bytes, p_filesz, p_offset, p_type, pass, range_checks_of, refuse, sh_entsize, sh_link, sh_offset, sh_size, sh_type, suffixes_cost, table_checks_of, table_cost, versioned_cost, walk_cost, walks_cost, whole_checks_of}
use Rattle.elf_model.specs.declared.causes.Cause.TheVariants.{EntrySize, SizeNotWhole, TableOutside}
use Rattle.elf_model.proofs.LookupSteps.{first_that-holds}

-- checks that pass for one offset pass for another
pub table-pass : (a b c : Bool) (p q : ℕ)
    → pass (refuse a p EntrySize ∷ refuse b p SizeNotWhole ∷ refuse c p TableOutside ∷ []) ≡ pass (refuse a q EntrySize ∷ refuse b q SizeNotWhole ∷ refuse c q TableOutside ∷ [])
table-pass true b c p q = refl
table-pass false true c p q = refl
table-pass false false true p q = refl
table-pass false false false p q = refl

whole-pass : (b c : Bool) (p q : ℕ) → pass (refuse b p SizeNotWhole ∷ refuse c p TableOutside ∷ []) ≡ pass (refuse b q SizeNotWhole ∷ refuse c q TableOutside ∷ [])
whole-pass true c p q = refl
whole-pass false true p q = refl
whole-pass false false p q = refl

range-pass : (c : Bool) (p q : ℕ) → pass (refuse c p TableOutside ∷ []) ≡ pass (refuse c q TableOutside ∷ [])
range-pass true p q = refl
range-pass false p q = refl

-- a kind of table costs the same by headers with equal fields
pub kind-equal : (kind : TableKind) (some all : HeaderTable) (i size cap : ℕ)
    → kind.has_table (some.bytes i) (some.at i) ≡ kind.has_table (all.bytes i) (all.at i)
    → pass (kind.checks.own (some.bytes i) (some.at i) size) ≡ pass (kind.checks.own (all.bytes i) (all.at i) size)
    → kind.asks some i size cap ≡ kind.asks all i size cap
    → table_cost kind some i size cap ≡ table_cost kind all i size cap
unfolding table_cost
kind-equal kind some all i size cap has own asks = rw (has, own, asks) refl

-- a search among tests that agree
pub first_that-equal : (test other : ℕ → Bool) (first count : ℕ) → ((i : ℕ) → first ≤ i → i < first + count → test i ≡ other i)
    → first_that test first count ≡ first_that other first count
unfolding first_that
first_that-equal test other first zero h = refl
first_that-equal test other first (suc count) h =
    let here = h first (omega arith) (omega arith) in
    let more = first_that-equal test other (suc first) count (λ i a b. h i (omega arith) (omega arith)) in
    ap (λ passes. elim passes as (λ _. Option ℕ) [ true ↦ Some first | false ↦ first_that test (suc first) count ]) here
    ∙ ap (λ (rest : Option ℕ). elim (other first) as (λ _. Option ℕ) [ true ↦ Some first | false ↦ rest ]) more

-- bytes of their own hold the headers of a table, this many bytes each
abbrev pub AreHeld : ℕ → (ℕ → List ℕ) → HeaderTable → Type 0
AreHeld width row all =
    (i at size : ℕ) → i < all.count → at + size ≤ width → field (row i) at size ≡ field (all.bytes i) (all.at i + at) size

-- SECTION HEADERS, each held in bytes of its own
module _ (all : HeaderTable) (row : ℕ → List ℕ) (fields : AreHeld 64 row all) where
  abbrev held : HeaderTable
  held = held_headers all.count row

  pub type_held : (i : ℕ) → i < all.count → header_field held sh_type i ≡ header_field all sh_type i
  type_held i below = fields i 4 4 below (omega arith)

  pub offset_held : (i : ℕ) → i < all.count → header_field held sh_offset i ≡ header_field all sh_offset i
  offset_held i below = fields i 24 8 below (omega arith)

  pub size_held : (i : ℕ) → i < all.count → header_field held sh_size i ≡ header_field all sh_size i
  size_held i below = fields i 32 8 below (omega arith)

  pub link_held : (i : ℕ) → i < all.count → header_field held sh_link i ≡ header_field all sh_link i
  link_held i below = fields i 40 4 below (omega arith)

  entsize_held : (i : ℕ) → i < all.count → header_field held sh_entsize i ≡ header_field all sh_entsize i
  entsize_held i below = fields i 56 8 below (omega arith)

  pub table_held : (i size entry : ℕ) → i < all.count
      → pass (table_checks_of (row i) 0 size 0 entry) ≡ pass (table_checks_of (all.bytes i) (all.at i) size (all.at i) entry)
  table_held i size entry below =
      rw (entsize_held i below, size_held i below, offset_held i below)
      (table-pass (not (header_field all sh_entsize i == entry)) (not (header_field all sh_size i % entry == 0)) (is_outside size (header_field all sh_offset i) (header_field all sh_size i)) 0 (all.at i))

  pub range_held : (i size : ℕ) → i < all.count
      → pass (range_checks_of size (sh_offset (row i) 0) (sh_size (row i) 0) 0)
      ≡ pass (range_checks_of size (header_field all sh_offset i) (header_field all sh_size i) (all.at i))
  range_held i size below =
      rw (offset_held i below, size_held i below) (range-pass (is_outside size (header_field all sh_offset i) (header_field all sh_size i)) 0 (all.at i))

  inside_held : (i size : ℕ) → i < all.count → is_inside held i size ≡ is_inside all i size
  inside_held i size below = rw (offset_held i below, size_held i below) refl

  pub symbols_held : (i : ℕ) → i < all.count → is_symbol_table (row i) 0 ≡ is_symbol_table (all.bytes i) (all.at i)
  symbols_held i below = ap (λ n. n == 2 || n == 11) (type_held i below)

  first_held : (type : ℕ) → first_typed held type ≡ first_typed all type
  first_held type =
      first_that-equal (λ i. header_field held sh_type i == type) (λ i. header_field all sh_type i == type) 0 all.count
      (λ i _ below. ap (λ n. n == type) (type_held i (omega arith)))

  walk_held : (size type entry bytes : ℕ) → walk_cost held size type entry bytes ≡ walk_cost all size type entry bytes
  unfolding walk_cost
  walk_held size type entry bytes =
      ap (λ found. elim found as (λ _. ℕ) [ None ↦ 0 | Some i ↦ if is_inside held i size then header_field held sh_size i / entry * bytes else 0 ]) (first_held type)
      ∙ by_found (first_typed all type) refl
    where
      by_found : (found : Option ℕ) → first_typed all type ≡ found
          → (elim found as (λ _. ℕ) [ None ↦ 0 | Some i ↦ if is_inside held i size then header_field held sh_size i / entry * bytes else 0 ])
          ≡ (elim found as (λ _. ℕ) [ None ↦ 0 | Some i ↦ if is_inside all i size then header_field all sh_size i / entry * bytes else 0 ])
      by_found None f = refl
      by_found (Some i) f =
          let few = first_that-holds (λ i. header_field all sh_type i == type) 0 all.count i f in
          let below : i < all.count = omega (arith, few.2) in
          rw (inside_held i size below, size_held i below) refl

  walks_held : (size : ℕ) → walks_cost held size ≡ walks_cost all size
  unfolding walks_cost
  walks_held size =
      ap₂ ◌+◌ (walk_held size SHT_GNU_VERDEF DEFINITION_SIZE (DEFINITION_SIZE + DEFINED_NAME_SIZE)) (walk_held size SHT_GNU_VERNEED NEED_SIZE NEED_SIZE)

  -- the strings to which a header links
  strings_held : (i size : ℕ) → i < all.count → has_strings held i size ≡ has_strings all i size
  strings_held i size below =
      ap (λ link. (nat_lt link all.count && not (link == 0)) && (header_field held sh_type link == 3 && is_inside held link size)) (link_held i below)
      ∙ by_link (header_field all sh_link i) (nat_lt (header_field all sh_link i) all.count) refl
    where
      by_link : (link : ℕ) (few : Bool) → nat_lt link all.count ≡ few
          → ((nat_lt link all.count && not (link == 0)) && (header_field held sh_type link == 3 && is_inside held link size))
          ≡ ((nat_lt link all.count && not (link == 0)) && (header_field all sh_type link == 3 && is_inside all link size))
      by_link link false e = rw e refl
      by_link link true e = let below : link < all.count = ltb-true link all.count e in rw (type_held link below, inside_held link size below) refl

  -- the rows of version numbers
  abbrev versions_by : HeaderTable → (i own link size cap : ℕ) → ℕ
  versions_by headers i own link size cap =
      if (((nat_lt link headers.count && not (link == 0)) && is_symbol_table (headers.bytes link) (headers.at link))
      && (header_field headers sh_size link == 0 || (pass (table_checks_of (headers.bytes link) (headers.at link) size (headers.at link) 24) && has_strings headers link size)))
      && not (own == 0)
      then min (own / 2) (header_field headers sh_size link / 24) * (2 + name_bytes cap) + walks_cost headers size
      else 0

  pub versions_held : (i size cap : ℕ) → i < all.count → versioned_cost held i size cap ≡ versioned_cost all i size cap
  unfolding versioned_cost
  versions_held i size cap below =
      ap₂ (λ own link. versions_by held i own link size cap) (size_held i below) (link_held i below)
      ∙ by_link (header_field all sh_size i) (header_field all sh_link i) (nat_lt (header_field all sh_link i) all.count) refl
    where
      by_link : (own link : ℕ) (few : Bool) → nat_lt link all.count ≡ few → versions_by held i own link size cap ≡ versions_by all i own link size cap
      by_link own link false e = rw e refl
      by_link own link true e =
          let below : link < all.count = ltb-true link all.count e in
          rw (table_held link size 24 below, strings_held link size below, symbols_held link below, size_held link below, walks_held size) refl

  -- the versions after the names of symbols
  pub suffixes_held : (table names size cap : ℕ) → suffixes_cost held table names size cap ≡ suffixes_cost all table names size cap
  unfolding suffixes_cost
  suffixes_held table names size cap =
      let first : first_numbers held table ≡ first_numbers all table =
      first_that-equal (λ i. header_field held sh_type i == SHT_GNU_VERSYM && header_field held sh_link i == table)
      (λ i. header_field all sh_type i == SHT_GNU_VERSYM && header_field all sh_link i == table) 0 all.count
      (λ i _ below. let few : i < all.count = omega arith in rw (type_held i few, link_held i few) refl) in
      let by : Option ℕ → ℕ → ℕ = λ found walks. elim found as (λ _. ℕ) [ None ↦ 0 | Some i ↦ names * (2 + name_bytes cap) + walks ] in
      ap₂ by first (walks_held size)

-- PROGRAM HEADERS, each held in bytes of its own
module _ (all : HeaderTable) (row : ℕ → List ℕ) (fields : AreHeld 56 row all) where
  pub p_type_held : (i : ℕ) → i < all.count → p_type (row i) 0 ≡ header_field all p_type i
  p_type_held i below = fields i 0 4 below (omega arith) ∙ ap (λ at. field (all.bytes i) at 4) (add-zero (all.at i))

  pub p_offset_held : (i : ℕ) → i < all.count → p_offset (row i) 0 ≡ header_field all p_offset i
  p_offset_held i below = fields i 8 8 below (omega arith)

  pub p_filesz_held : (i : ℕ) → i < all.count → p_filesz (row i) 0 ≡ header_field all p_filesz i
  p_filesz_held i below = fields i 32 8 below (omega arith)

  pub segment_range_held : (i size : ℕ) → i < all.count
      → pass (range_checks_of size (p_offset (row i) 0) (p_filesz (row i) 0) 0)
      ≡ pass (range_checks_of size (header_field all p_offset i) (header_field all p_filesz i) (all.at i))
  segment_range_held i size below =
      rw (p_offset_held i below, p_filesz_held i below) (range-pass (is_outside size (header_field all p_offset i) (header_field all p_filesz i)) 0 (all.at i))

  pub segment_whole_held : (i size entry : ℕ) → i < all.count
      → pass (whole_checks_of size (p_offset (row i) 0) (p_filesz (row i) 0) 0 entry)
      ≡ pass (whole_checks_of size (header_field all p_offset i) (header_field all p_filesz i) (all.at i) entry)
  segment_whole_held i size entry below =
      rw (p_offset_held i below, p_filesz_held i below)
      (whole-pass (not (header_field all p_filesz i % entry == 0)) (is_outside size (header_field all p_offset i) (header_field all p_filesz i)) 0 (all.at i))
