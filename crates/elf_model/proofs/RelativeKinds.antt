-- Relative relocations are a lawful kind of table, and so are the relocations of GNU listings: those
-- of one lawful kind or another.
use Rattle.std.proofs.Common.{◌≡◌, ℕ, ◌*◌, ◌/◌, ◌≤◌, ◌==◌, ◌&&◌, ◌||◌, if◌then◌else◌, Bool, true, false, List, [], ◌∷◌, ◌++◌, refl, ap, ap₂, ◌∙◌, sym, arith}
use Rattle.std.proofs.Math.Nat.{div-mul-le_self}
use Rattle.elf_model.specs.Prelude.{Check, HeaderTable, TableKind, cost_where, either_kind, entries_kind, gnu_relocations, header_field, held_headers, pass, relative_relocations, relocation_type, relocations, relocations_with_versions, sh_size, sh_type, table_cost}
use Rattle.elf_model.specs.TableKinds.{relocations_kind}
use Rattle.elf_model.proofs.HeldHeaders.{kind-equal, size_held, table_held, type_held}
use Rattle.elf_model.proofs.LawfulKinds.{CostsTheSame, IsTyped, LawfulSection, ReadsWithin, is_among, one-among}
use Rattle.elf_model.proofs.SelectionLaws.{either_same, relative_same}
use Rattle.elf_model.proofs.SymbolKinds.{entries_lawful}
use Rattle.elf_model.proofs.TableBounds.{most_bound, table_bound, table_fits, within_most}

pub relative_typed : IsTyped sh_type (19 ∷ []) relative_relocations
unfolding relative_relocations
relative_typed bytes at h = one-among (sh_type bytes at) 19 h

pub relative_fits : ReadsWithin table_bound relative_relocations
unfolding relative_relocations
relative_fits headers i size cap h =
    let within = table_fits headers i size 8 h in
    let least : header_field headers sh_size i / 8 * 8 ≤ header_field headers sh_size i = div-mul-le_self (header_field headers sh_size i) 8 in
    omega arith

pub relative_cost : CostsTheSame 64 relative_relocations
unfolding relative_relocations
relative_cost all row fields i size cap below =
    kind-equal relative_relocations (held_headers all.count row) all i size cap (ap (λ n. n == 19) (type_held all row fields i below)) (table_held all row fields i size 8 below)
    (ap (λ n. n / 8 * 8) (size_held all row fields i below))

abbrev pub relative_lawful : (versions : Bool) → LawfulSection versions relative_relocations
relative_lawful versions = record {
  types = 19 ∷ [];
  typed = relative_typed;
  fits = λ headers i size cap h. within_most versions size cap (relative_fits headers i size cap h);
  held = relative_cost;
  same = relative_same;
}

-- a table of one kind or another costs what it costs as one of its kind
pub either_costs : (one other : TableKind) (headers : HeaderTable) (i size cap : ℕ)
    → table_cost (either_kind one other) headers i size cap
    ≡ (if one.has_table (headers.bytes i) (headers.at i) then table_cost one headers i size cap else table_cost other headers i size cap)
unfolding table_cost
either_costs one other headers i size cap = by (one.has_table (headers.bytes i) (headers.at i)) refl
  where
    own : Bool → List Check
    own has = if has then one.checks.own (headers.bytes i) (headers.at i) size else other.checks.own (headers.bytes i) (headers.at i) size

    asks : Bool → ℕ
    asks has = if has then one.asks headers i size cap else other.asks headers i size cap

    by : (has : Bool) → one.has_table (headers.bytes i) (headers.at i) ≡ has
        → cost_where ((has || other.has_table (headers.bytes i) (headers.at i)) && pass (own has)) (asks has)
        ≡ (if has then table_cost one headers i size cap else table_cost other headers i size cap)
    by true is = rw is refl
    by false is = refl

-- a number that is among some is among these and others
among-left : (xs ys : List ℕ) (n : ℕ) → is_among xs n ≡ true → is_among (xs ++ ys) n ≡ true
among-left [] ys n h = cc
among-left (x ∷ xs) ys n h = by (n == x) h (among-left xs ys n)
  where
    by : (here : Bool) → here || is_among xs n ≡ true → (is_among xs n ≡ true → is_among (xs ++ ys) n ≡ true) → here || is_among (xs ++ ys) n ≡ true
    by true h rest = refl
    by false h rest = rest h

among-right : (xs ys : List ℕ) (n : ℕ) → is_among ys n ≡ true → is_among (xs ++ ys) n ≡ true
among-right [] ys n h = h
among-right (x ∷ xs) ys n h = by (n == x) (among-right xs ys n h)
  where
    by : (here : Bool) → is_among (xs ++ ys) n ≡ true → here || is_among (xs ++ ys) n ≡ true
    by true rest = refl
    by false rest = rest

-- Two lawful kinds of sections are one, if the header's type says which of them it is of.
module _ (versions : Bool) (one other : TableKind) (first : LawfulSection versions one) (second : LawfulSection versions other)
    (typed : (n : ℕ) → Bool) (by_type : (bytes : List ℕ) (at : ℕ) → one.has_table bytes at ≡ typed (sh_type bytes at)) where
  pub either_typed : IsTyped sh_type (first.types ++ second.types) (either_kind one other)
  either_typed bytes at h = by (one.has_table bytes at) refl h
    where
      by : (has : Bool) → one.has_table bytes at ≡ has → has || other.has_table bytes at ≡ true → is_among (first.types ++ second.types) (sh_type bytes at) ≡ true
      by true is h = among-left first.types second.types (sh_type bytes at) (first.typed bytes at is)
      by false is h = among-right first.types second.types (sh_type bytes at) (second.typed bytes at h)

  pub either_fits : ReadsWithin (λ size cap. most_bound versions size cap) (either_kind one other)
  either_fits headers i size cap h = by (one.has_table (headers.bytes i) (headers.at i)) h
    where
      by : (has : Bool)
          → pass (if has then one.checks.own (headers.bytes i) (headers.at i) size else other.checks.own (headers.bytes i) (headers.at i) size) ≡ true
          → (if has then one.asks headers i size cap else other.asks headers i size cap) ≤ most_bound versions size cap
      by true h = first.fits headers i size cap h
      by false h = second.fits headers i size cap h

  pub either_held : CostsTheSame 64 (either_kind one other)
  either_held all row fields i size cap below =
      let held : HeaderTable = held_headers all.count row in
      let has = by_type (row i) 0 ∙ ap typed (type_held all row fields i below) ∙ sym (by_type (all.bytes i) (all.at i)) in
      either_costs one other held i size cap
      ∙ (ap₂ (λ a b. if one.has_table (row i) 0 then a else b) (first.held all row fields i size cap below) (second.held all row fields i size cap below)
      ∙ (ap (λ (is : Bool). if is then table_cost one all i size cap else table_cost other all i size cap) has
      ∙ sym (either_costs one other all i size cap)))

  abbrev pub either_lawful : LawfulSection versions (either_kind one other)
  either_lawful = record {
    types = first.types ++ second.types;
    typed = either_typed;
    fits = either_fits;
    held = either_held;
    same = λ file style rows filter place. either_same file style rows filter place one other (first.same file style rows filter place) (second.same file style rows filter place);
  }

-- which section headers describe relocation entries
pub entries_have : (addends versions : Bool) (bytes : List ℕ) (at : ℕ) → (entries_kind addends versions).has_table bytes at ≡ (sh_type bytes at == relocation_type addends)
unfolding relocations relocations_with_versions
entries_have addends true bytes at = refl
entries_have addends false bytes at = refl

abbrev pub without_addends : (versions : Bool) → LawfulSection versions (either_kind (entries_kind false versions) relative_relocations)
without_addends versions =
    either_lawful versions (entries_kind false versions) relative_relocations (entries_lawful false versions) (relative_lawful versions) (λ n. n == 9) (entries_have false versions)

abbrev pub gnu_lawful : (versions : Bool) → LawfulSection versions (gnu_relocations versions)
unfolding gnu_relocations
gnu_lawful versions =
    either_lawful versions (entries_kind true versions) (either_kind (entries_kind false versions) relative_relocations) (entries_lawful true versions) (without_addends versions) (λ n. n == 4) (entries_have true versions)

abbrev pub relocations_lawful : (gnu versions : Bool) → LawfulSection versions (relocations_kind gnu versions)
relocations_lawful true versions = gnu_lawful versions
relocations_lawful false versions = entries_lawful true versions

-- what unfolds them, so that they compute on a file given byte by byte
unfoldable pub on_relative : Unit {0}
unfolding relative_relocations gnu_relocations
on_relative = tt
