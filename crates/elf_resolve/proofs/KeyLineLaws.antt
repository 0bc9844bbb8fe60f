-- The lists by keys are those of the definition: the lines of their numbers, and whether they are empty.
use Rattle.std.proofs.Common.{◌≡◌, ℕ, zero, suc, ◌+◌, ◌-◌, ◌/◌, ◌<◌, ◌≤◌, Bool, true, false, cond, ◌||◌, List, [], ◌∷◌, ◌++◌, length, map, take, drop, Option, Some, refl, sym, ap, ◌∙◌, arith}
use Rattle.std.specs.Prelude.{◌==◌, if◌then◌else◌, is_some}
use Rattle.std.specs.List.{filter, list_any, slice_get}
use Rattle.std.proofs.lemmas.Bool.{lt-ltb, le-ltb}
use Rattle.std.proofs.lemmas.List.{map-append, take-append-drop, length-take-le, length-drop, drop-drop}
use Rattle.elf_model.specs.LinkInputs.{OpenArchive}
use Rattle.elf_model.specs.LinkLines.{entry_lines, further_front, further_lines, has_key, is_available, is_further_of, offer_front, offer_lines}
use Rattle.elf_model.specs.Lines.{named_line}
use Rattle.elf_model.specs.Names.DisplayedName.{Whole}
use Rattle.elf_model.specs.declared.formats.Format.{Format}
use Rattle.elf_model.specs.declared.link_states.FurtherDefinition.{FurtherDefinition}
use Rattle.elf_model.specs.declared.link_states.IndexEntry.{IndexEntry}
use Rattle.elf_resolve.specs.EntryRows.{AreConsecutive, row_with_entry}
use Rattle.elf_resolve.specs.KeyChains.{AscendWithin, ChainTable, HasLists, IsListFrom, first_number}
use Rattle.elf_resolve.specs.KeyLines.{had_front, line_of_number, line_of_further, member_of_entry, row_of_further}
use Rattle.elf_resolve.specs.KeyLists.{entry_numbers, further_places}
use Rattle.elf_resolve.specs.Resolved.{open_archive}
use Rattle.elf_resolve.specs.declared.archives.OpenedArchive.{OpenedArchive}

-- HOW LONG a list is
pub length_within : (from most : ℕ) (numbers : List ℕ) → from ≤ most → AscendWithin from most numbers → length numbers + from ≤ most
length_within from most [] within ascends = omega (arith, within)
length_within from most (n ∷ numbers) within ascends = omega (arith, ascends.0, length_within (n + 1) most numbers ascends.1 ascends.2)

pub list_fits : (chains : ChainTable) (list : ℕ → List ℕ) (key : ℕ) → HasLists chains 0 list → length (list key) ≤ chains.numbers
list_fits chains list key has = omega (arith, length_within 0 chains.numbers (list key) (omega arith) (has.ascend key))

-- WHETHER IT IS EMPTY
abbrev is_there : List ℕ → Bool
is_there [] = false
is_there (n ∷ numbers) = true

some_first : (chains : ChainTable) (first : Option ℕ) (numbers : List ℕ) → IsListFrom chains first numbers → is_some first ≡ is_there numbers
some_first chains first [] follows = ap (λ (f : Option ℕ). is_some f) follows
some_first chains first (n ∷ numbers) follows = ap (λ (f : Option ℕ). is_some f) follows.0

further_there : (key at : ℕ) (further : List FurtherDefinition) → is_there (further_places key at further) ≡ list_any (is_further_of key) further
further_there key at [] = refl
further_there key at (f ∷ further) = by (f.key == key) (further_there key (at + 1) further)
  where
    by : (is : Bool) → is_there (further_places key (at + 1) further) ≡ list_any (is_further_of key) further
        → is_there (if is then at ∷ further_places key (at + 1) further else further_places key (at + 1) further) ≡ (is || list_any (is_further_of key) further)
    by true rest = refl
    by false rest = rest

pub has_further : (chains : ChainTable) (key : ℕ) (further : List FurtherDefinition) → HasLists chains 0 (λ k. further_places k 0 further)
    → is_some (first_number chains key) ≡ list_any (is_further_of key) further
has_further chains key further has = some_first chains (first_number chains key) (further_places key 0 further) (has.follow key) ∙ further_there key 0 further

entries_there : (key at : ℕ) (entries : List IndexEntry) → is_there (entry_numbers key at entries) ≡ list_any (has_key key) entries
entries_there key at [] = refl
entries_there key at (e ∷ entries) = by (e.key == key) (e.default_key == key) (entries_there key (at + 1) entries)
  where
    by : (is other : Bool) → is_there (entry_numbers key (at + 1) entries) ≡ list_any (has_key key) entries
        → is_there (if is then (at + at) ∷ entry_numbers key (at + 1) entries else (if other then (at + at + 1) ∷ entry_numbers key (at + 1) entries else entry_numbers key (at + 1) entries))
        ≡ ((is || other) || list_any (has_key key) entries)
    by true other rest = refl
    by false true rest = refl
    by false false rest = rest

-- THE ENTRIES of an archive, and those after them
pub any_append : {A : Type 0} (test : A → Bool) (xs ys : List A) → list_any test (xs ++ ys) ≡ (list_any test xs || list_any test ys)
any_append test [] ys = refl
any_append test (x ∷ xs) ys = by (test x) (any_append test xs ys)
  where
    by : (is : Bool) → list_any test (xs ++ ys) ≡ (list_any test xs || list_any test ys) → (is || list_any test (xs ++ ys)) ≡ ((is || list_any test xs) || list_any test ys)
    by true rest = refl
    by false rest = rest

drop_all : {A : Type 0} (n : ℕ) (xs : List A) → length xs ≤ n → drop n xs ≡ []
drop_all zero [] past = refl
drop_all (suc n) [] past = refl
drop_all zero (x ∷ xs) past = absurd (omega (arith, past))
drop_all (suc n) (x ∷ xs) past = drop_all n xs (omega (arith, past))

pub split_at : {A : Type 0} (from to : ℕ) (xs : List A) → from ≤ to → drop from xs ≡ take (to - from) (drop from xs) ++ drop to xs
split_at from to xs less =
    let sum : from + (to - from) ≡ to = omega (arith, less) in
    sym (ap (λ ys. take (to - from) (drop from xs) ++ ys) (sym (ap (λ n. drop n xs) sum) ∙ sym (drop-drop (to - from) from xs)) ∙ take-append-drop (to - from) (drop from xs))

pub ends_within : (from count : ℕ) (archives : List OpenedArchive) → AreConsecutive from archives count → from ≤ count
ends_within from count [] are = omega (arith, are)
ends_within from count (archive ∷ archives) are = omega (arith, are.1, ends_within archive.entries.1 count archives are.2)

module _ (entries : List IndexEntry) (taken : List Bool) where
  abbrev opened : OpenedArchive → OpenArchive
  opened archive = open_archive entries taken archive

  -- those of an archive are a part of all
  part_of : (from : ℕ) (archive : OpenedArchive) → archive.entries.0 ≡ from → (opened archive).entries ≡ take (archive.entries.1 - from) (drop from entries)
  part_of from archive starts = ap (λ (n : ℕ). take (archive.entries.1 - n) (drop n entries)) starts

  available_from : (key from : ℕ) (archives : List OpenedArchive) → AreConsecutive from archives (length entries) → list_any (has_key key) (drop from entries) ≡ is_available key (map opened archives)
  available_from key from [] are = ap (list_any (has_key key)) (drop_all from entries (omega (arith, are)))
  available_from key from (archive ∷ archives) are =
      ap (list_any (has_key key)) (split_at from archive.entries.1 entries are.1)
      ∙ any_append (has_key key) (take (archive.entries.1 - from) (drop from entries)) (drop archive.entries.1 entries)
      ∙ ap (λ (l : List IndexEntry). list_any (has_key key) l || list_any (has_key key) (drop archive.entries.1 entries)) (sym (part_of from archive are.0))
      ∙ ap (λ (b : Bool). list_any (has_key key) (opened archive).entries || b) (available_from key archive.entries.1 archives are.2)

  pub has_offers : (chains : ChainTable) (key : ℕ) (archives : List OpenedArchive) → HasLists chains 0 (λ k. entry_numbers k 0 entries) → AreConsecutive 0 archives (length entries)
      → is_some (first_number chains key) ≡ is_available key (map opened archives)
  has_offers chains key archives has are =
      some_first chains (first_number chains key) (entry_numbers key 0 entries) (has.follow key) ∙ entries_there key 0 entries ∙ available_from key 0 archives are

-- THE LINES of further definitions
lines_of_further : (format : Format) (name : List ℕ) (key at : ℕ) (get : ℕ → Option FurtherDefinition) (further : List FurtherDefinition) → ((i : ℕ) → get (at + i) ≡ slice_get further i)
    → map (λ (place : ℕ). named_line (further_front format (row_of_further (get place))) (Whole name)) (further_places key at further) ≡ further_lines format name (filter (is_further_of key) further)
lines_of_further format name key at get [] gets = refl
lines_of_further format name key at get (f ∷ further) gets =
    by (f.key == key) (lines_of_further format name key (at + 1) get further (λ i. ap get (next i) ∙ gets (suc i)))
  where
    next : (i : ℕ) → at + 1 + i ≡ at + suc i
    next i = omega arith

    here : get at ≡ Some f
    here = ap get (the_same at) ∙ gets zero
      where
        the_same : (n : ℕ) → n ≡ n + zero
        the_same n = omega arith

    by : (is : Bool) → map (λ (place : ℕ). named_line (further_front format (row_of_further (get place))) (Whole name)) (further_places key (at + 1) further) ≡ further_lines format name (filter (is_further_of key) further)
        → map (λ (place : ℕ). named_line (further_front format (row_of_further (get place))) (Whole name)) (if is then at ∷ further_places key (at + 1) further else further_places key (at + 1) further)
        ≡ further_lines format name (cond is (f ∷ filter (is_further_of key) further) (filter (is_further_of key) further))
    by true rest =
        ap (λ (o : Option FurtherDefinition). named_line (further_front format (row_of_further o)) (Whole name) ∷ map (λ (place : ℕ). named_line (further_front format (row_of_further (get place))) (Whole name)) (further_places key (at + 1) further)) here
        ∙ ap (λ (l : List (List ℕ)). named_line (further_front format f.row) (Whole name) ∷ l) rest
    by false rest = rest

pub further_shown : (format : Format) (name : List ℕ) (key : ℕ) (further : List FurtherDefinition) → map (line_of_further format further name) (further_places key 0 further) ≡ further_lines format name (filter (is_further_of key) further)
further_shown format name key further = lines_of_further format name key 0 (slice_get further) further (λ i. ap (slice_get further) (the_same i))
  where
    the_same : (n : ℕ) → 0 + n ≡ n
    the_same n = omega arith

-- THE LINES of entries, of an archive and of all
pub numbers_append : (key at : ℕ) (xs ys : List IndexEntry) → entry_numbers key at (xs ++ ys) ≡ entry_numbers key at xs ++ entry_numbers key (at + length xs) ys
numbers_append key at [] ys = ap (λ (n : ℕ). entry_numbers key n ys) (the_same at)
  where
    the_same : (n : ℕ) → n ≡ n + 0
    the_same n = omega arith
numbers_append key at (e ∷ xs) ys = by (e.key == key) (e.default_key == key) (numbers_append key (at + 1) xs ys ∙ ap (λ (n : ℕ). entry_numbers key (at + 1) xs ++ entry_numbers key n ys) (next at (length xs)))
  where
    next : (n m : ℕ) → n + 1 + m ≡ n + suc m
    next n m = omega arith

    by : (is other : Bool) → entry_numbers key (at + 1) (xs ++ ys) ≡ entry_numbers key (at + 1) xs ++ entry_numbers key (at + length (e ∷ xs)) ys
        → (if is then (at + at) ∷ entry_numbers key (at + 1) (xs ++ ys) else (if other then (at + at + 1) ∷ entry_numbers key (at + 1) (xs ++ ys) else entry_numbers key (at + 1) (xs ++ ys)))
        ≡ ((if is then (at + at) ∷ entry_numbers key (at + 1) xs else (if other then (at + at + 1) ∷ entry_numbers key (at + 1) xs else entry_numbers key (at + 1) xs)) ++ entry_numbers key (at + length (e ∷ xs)) ys)
    by true other rest = ap (λ l. (at + at) ∷ l) rest
    by false true rest = ap (λ l. (at + at + 1) ∷ l) rest
    by false false rest = rest

pub half_of : (n : ℕ) → (n + n) / 2 ≡ n
half_of n = omega arith

pub half_after : (n : ℕ) → (n + n + 1) / 2 ≡ n
half_after n = omega arith

module _ (format : Format) (name : List ℕ) (key : ℕ) (get : ℕ → Option IndexEntry) (row_at : ℕ → Option ℕ) where
  abbrev line_at : ℕ → List ℕ
  line_at number = named_line (had_front format (row_at (number / 2)) (member_of_entry (get (number / 2)))) (Whole name)

  offered : (row : ℕ) (e : IndexEntry) (place number : ℕ) → number / 2 ≡ place → row_at place ≡ Some row → get place ≡ Some e → line_at number ≡ named_line (offer_front format row (Some e.member)) (Whole name)
  unfolding had_front offer_front
  offered row e place number half row_is here =
      ap (λ (n : ℕ). named_line (had_front format (row_at n) (member_of_entry (get n))) (Whole name)) half
      ∙ ap (λ (r : Option ℕ). named_line (had_front format r (member_of_entry (get place))) (Whole name)) row_is
      ∙ ap (λ (o : Option IndexEntry). named_line (had_front format (Some row) (member_of_entry o)) (Whole name)) here

  part_shown : (row at : ℕ) (entries : List IndexEntry) → ((i : ℕ) → i < length entries → row_at (at + i) ≡ Some row) → ((i : ℕ) → i < length entries → get (at + i) ≡ slice_get entries i)
      → map line_at (entry_numbers key at entries) ≡ entry_lines format name row (filter (has_key key) entries)
  part_shown row at [] rows gets = refl
  part_shown row at (e ∷ entries) rows gets =
      by (e.key == key) (e.default_key == key)
      (part_shown row (at + 1) entries (λ i less. ap row_at (next i) ∙ rows (suc i) (omega (arith, less))) (λ i less. ap get (next i) ∙ gets (suc i) (omega (arith, less))))
    where
      next : (i : ℕ) → at + 1 + i ≡ at + suc i
      next i = omega arith

      the_same : (n : ℕ) → n ≡ n + zero
      the_same n = omega arith

      here : get at ≡ Some e
      here = ap get (the_same at) ∙ gets zero (omega arith)

      row_here : row_at at ≡ Some row
      row_here = ap row_at (the_same at) ∙ rows zero (omega arith)

      by : (is other : Bool) → map line_at (entry_numbers key (at + 1) entries) ≡ entry_lines format name row (filter (has_key key) entries)
          → map line_at (if is then (at + at) ∷ entry_numbers key (at + 1) entries else (if other then (at + at + 1) ∷ entry_numbers key (at + 1) entries else entry_numbers key (at + 1) entries))
          ≡ entry_lines format name row (cond (is || other) (e ∷ filter (has_key key) entries) (filter (has_key key) entries))
      by true other rest = ap (λ (l : List ℕ). l ∷ map line_at (entry_numbers key (at + 1) entries)) (offered row e at (at + at) (half_of at) row_here here) ∙ ap (λ (l : List (List ℕ)). named_line (offer_front format row (Some e.member)) (Whole name) ∷ l) rest
      by false true rest = ap (λ (l : List ℕ). l ∷ map line_at (entry_numbers key (at + 1) entries)) (offered row e at (at + at + 1) (half_after at) row_here here) ∙ ap (λ (l : List (List ℕ)). named_line (offer_front format row (Some e.member)) (Whole name) ∷ l) rest
      by false false rest = rest

  module _ (entries : List IndexEntry) (taken : List Bool) (gets : (i : ℕ) → get i ≡ slice_get entries i) where
    slice_part : (from to i : ℕ) (xs : List IndexEntry) → i < to - from → slice_get xs (from + i) ≡ slice_get (take (to - from) (drop from xs)) i
    slice_part from to i xs less = slice_drop from i xs ∙ slice_take (to - from) i (drop from xs) less
      where
        slice_drop : (from i : ℕ) (xs : List IndexEntry) → slice_get xs (from + i) ≡ slice_get (drop from xs) i
        slice_drop zero i xs = ap (slice_get xs) (zero_first i)
          where
            zero_first : (i : ℕ) → zero + i ≡ i
            zero_first i = omega arith
        slice_drop (suc from) i [] = refl
        slice_drop (suc from) i (x ∷ xs) = ap (slice_get (x ∷ xs)) (suc_first from i) ∙ slice_drop from i xs
          where
            suc_first : (from i : ℕ) → suc from + i ≡ suc (from + i)
            suc_first from i = omega arith

        slice_take : (n i : ℕ) (xs : List IndexEntry) → i < n → slice_get xs i ≡ slice_get (take n xs) i
        slice_take zero i xs less = absurd (omega (arith, less))
        slice_take (suc n) i [] less = refl
        slice_take (suc n) zero (x ∷ xs) less = refl
        slice_take (suc n) (suc i) (x ∷ xs) less = slice_take n i xs (omega (arith, less))

    shown_from : (from : ℕ) (archives : List OpenedArchive) → AreConsecutive from archives (length entries) → ((place : ℕ) → from ≤ place → row_at place ≡ row_with_entry archives place)
        → map line_at (entry_numbers key from (drop from entries)) ≡ offer_lines format name key (map (open_archive entries taken) archives)
    shown_from from [] are rows = ap (λ (l : List IndexEntry). map line_at (entry_numbers key from l)) (drop_all from entries (omega (arith, are)))
    shown_from from (archive ∷ archives) are rows =
        let to = archive.entries.1 in
        let part = take (to - from) (drop from entries) in
        let long : length part ≡ to - from = length-take-le (to - from) (drop from entries) (omega (arith, length-drop from entries, ends_within to (length entries) archives are.2)) in
        ap (λ (l : List IndexEntry). map line_at (entry_numbers key from l)) (split_at from to entries are.1)
        ∙ ap (map line_at) (numbers_append key from part (drop to entries))
        ∙ map-append line_at (entry_numbers key from part) (entry_numbers key (from + length part) (drop to entries))
        ∙ ap (λ (l : List (List ℕ)). l ++ map line_at (entry_numbers key (from + length part) (drop to entries)))
        (part_shown archive.row from part (λ i less. rows (from + i) (omega arith) ∙ ap (λ (b : Bool). if b then Some archive.row else row_with_entry archives (from + i)) (lt-ltb (from + i) to (omega (arith, less, long))))
        (λ i less. gets (from + i) ∙ slice_part from to i entries (omega (arith, less, long))))
        ∙ ap (λ (n : ℕ). entry_lines format name archive.row (filter (has_key key) part) ++ map line_at (entry_numbers key n (drop to entries))) (ends long are.1)
        ∙ ap (λ (l : List (List ℕ)). entry_lines format name archive.row (filter (has_key key) part) ++ l)
        (shown_from to archives are.2 (λ place above. rows place (omega (arith, above, are.1)) ∙ ap (λ (b : Bool). if b then Some archive.row else row_with_entry archives place) (le-ltb place to above)))
        ∙ ap (λ (l : List IndexEntry). entry_lines format name archive.row (filter (has_key key) l) ++ offer_lines format name key (map (open_archive entries taken) archives)) (sym (part_of entries taken from archive are.0))
      where
        ends : {n : ℕ} → n ≡ archive.entries.1 - from → from ≤ archive.entries.1 → from + n ≡ archive.entries.1
        ends {n} long less = omega (arith, long, less)

pub offers_shown : (format : Format) (name : List ℕ) (key : ℕ) (archives : List OpenedArchive) (entries : List IndexEntry) (taken : List Bool) → AreConsecutive 0 archives (length entries)
    → map (line_of_number format archives entries name) (entry_numbers key 0 entries) ≡ offer_lines format name key (map (open_archive entries taken) archives)
offers_shown format name key archives entries taken are =
    shown_from format name key (slice_get entries) (row_with_entry archives) entries taken (λ i. refl) 0 archives are (λ place above. refl)
