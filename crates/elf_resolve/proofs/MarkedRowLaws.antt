-- The rows that lines of keys name are marked.
use Rattle.std.proofs.Common.{◌≡◌, ℕ, zero, suc, ◌+◌, ◌-◌, ◌/◌, ◌<◌, ◌≤◌, Bool, true, false, cond, ◌||◌, List, [], ◌∷◌, ◌++◌, length, map, take, drop, get_or, set, Option, None, Some, refl, sym, ap, subst, ◌∙◌, arith, append_assoc}
use Rattle.std.specs.Prelude.{◌==◌, if◌then◌else◌}
use Rattle.std.specs.List.{filter, slice_get}
use Rattle.std.proofs.lemmas.Bool.{eqb-true, eqb-false, lt-ltb, le-ltb}
use Rattle.std.proofs.lemmas.List.{drop_all, get_or-set_other, get_or-set_same, length-set, length-take-le, length-drop, map-append}
use Rattle.elf_model.specs.LinkInputs.{Linking}
use Rattle.elf_model.specs.LinkLines.{has_key, is_further_of}
use Rattle.elf_model.specs.declared.link_states.FurtherDefinition.{FurtherDefinition}
use Rattle.elf_model.specs.declared.link_states.IndexEntry.{IndexEntry}
use Rattle.elf_resolve.specs.EntryRows.{AreConsecutive, row_with_entry}
use Rattle.elf_resolve.specs.FoundStates.{found_word, has_offer_lines, is_multiple_state}
use Rattle.elf_resolve.specs.KeyChains.{ChainTable, IsListFrom, first_number, number_after}
use Rattle.elf_resolve.specs.KeyLines.{row_of_further}
use Rattle.elf_resolve.specs.KeyLists.{entry_numbers, further_places}
use Rattle.elf_resolve.specs.MarkedRows.{AreMarked, archive_of_row, further_row, is_row_named, names_row, rows_after_key, rows_found_after, rows_of_entries, rows_of_further, rows_of_offers, with_mark}
use Rattle.elf_resolve.specs.RowTables.{LinkRows}
use Rattle.elf_resolve.specs.Resolved.{linking_of, open_archive}
use Rattle.elf_resolve.specs.ShownLinks.{is_row}
use Rattle.elf_resolve.specs.StaticLinks.{AreKeysListed}
use Rattle.elf_resolve.specs.declared.archives.OpenedArchive.{OpenedArchive}
use Rattle.elf_resolve.specs.declared.key_states.FoundState.{FoundState}
use Rattle.elf_resolve.specs.declared.key_states.FoundState.TheVariants as found
use Rattle.elf_resolve.specs.declared.resolver.Resolver.{Resolver}
use Rattle.elf_resolve.proofs.KeyLineLaws.{any_append, ends_within, half_after, half_of, list_fits, numbers_append, split_at}

-- MARKS
or_again : (a b c : Bool) → ((a || b) || c) ≡ (a || (b || c))
or_again true b c = refl
or_again false b c = refl

or_none : (a : Bool) → a ≡ (a || false)
or_none true = refl
or_none false = refl

or_turned : (a b c : Bool) → (c || (b || a)) ≡ (a || ((b || c) || false))
or_turned true true true = refl
or_turned true true false = refl
or_turned true false true = refl
or_turned true false false = refl
or_turned false true true = refl
or_turned false true false = refl
or_turned false false true = refl
or_turned false false false = refl

pub marked_none : (rows : LinkRows) (a : List Bool) → AreMarked rows [] a a
marked_none rows a = record { count = refl; marks = λ room i below. or_none (get_or a i false) }

pub marked_then : (rows : LinkRows) (xs ys : List (Option ℕ)) (a b c : List Bool) → AreMarked rows xs a b → AreMarked rows ys b c → AreMarked rows (xs ++ ys) a c
marked_then rows xs ys a b c first second = record {
  count = second.count ∙ first.count;
  marks = λ room i below. second.marks (omega (arith, room, first.count)) i below
      ∙ ap (λ (m : Bool). m || is_row_named rows.rows ys i) (first.marks room i below)
      ∙ or_again (get_or a i false) (is_row_named rows.rows xs i) (is_row_named rows.rows ys i)
      ∙ ap (λ (m : Bool). get_or a i false || m) (sym (any_append (names_row rows.rows i) xs ys));
}

one_mark : (marks : List Bool) (row i : ℕ) → i < length marks → get_or (set marks row true) i false ≡ ((row == i) || get_or marks i false)
one_mark marks row i below = by (row == i) refl where
  by : (is : Bool) → (row == i) ≡ is → get_or (set marks row true) i false ≡ ((row == i) || get_or marks i false)
  by true is =
      let same : row ≡ i = eqb-true row i is in
      ap (λ (n : ℕ). get_or (set marks n true) i false) same ∙ get_or-set_same marks i true false below ∙ sym (ap (λ (b : Bool). b || get_or marks i false) is)
  by false is =
      get_or-set_other marks row i true false (λ same. eqb-false row i is (sym same)) ∙ sym (ap (λ (b : Bool). b || get_or marks i false) is)

mark_if : (marks : List Bool) (row : Option ℕ) (i : ℕ) → i < length marks → get_or (with_mark marks row) i false ≡ (is_row row i || get_or marks i false)
mark_if marks None i below = refl
mark_if marks (Some row) i below = one_mark marks row i below

count_if : (marks : List Bool) (row : Option ℕ) → length (with_mark marks row) ≡ length marks
count_if marks None = refl
count_if marks (Some row) = length-set marks row true

pub marked_row : (rows : LinkRows) (a b c : List Bool) (row : ℕ) (archive : Option ℕ) → length rows.rows ≤ rows.most → archive ≡ archive_of_row (slice_get rows.rows row) → b ≡ with_mark a (Some row) → c ≡ with_mark b archive → AreMarked rows (Some row ∷ []) a c
marked_row rows a b c row archive within archive_is first second =
    let count_b : length b ≡ length a = ap length first ∙ count_if a (Some row) in
    record {
      count = ap length second ∙ count_if b archive ∙ count_b;
      marks = λ room i below. ap (λ (m : List Bool). get_or m i false) second ∙ mark_if b archive i (omega (arith, below, within, room, count_b))
          ∙ ap (λ (m : List Bool). is_row archive i || get_or m i false) first
          ∙ ap (λ (m : Bool). is_row archive i || m) (one_mark a row i (omega (arith, below, within, room)))
          ∙ ap (λ (o : Option ℕ). is_row o i || ((row == i) || get_or a i false)) archive_is
          ∙ or_turned (get_or a i false) (row == i) (is_row (archive_of_row (slice_get rows.rows row)) i);
    }

pub marked_no_row : (rows : LinkRows) (a : List Bool) → AreMarked rows (None ∷ []) a a
marked_no_row rows a = record { count = refl; marks = λ room i below. or_none (get_or a i false) }

pub marked_as : (rows : LinkRows) (xs ys : List (Option ℕ)) (a b : List Bool) → xs ≡ ys → AreMarked rows xs a b → AreMarked rows ys a b
marked_as rows xs ys a b same marked = subst (λ l. AreMarked rows l a b) same marked

-- nothing but marks is another
pub same_but_marks : (a b c : Resolver) → b ≡ record a { problems = b.problems } → c ≡ record b { problems = c.problems } → c ≡ record a { problems = c.problems }
same_but_marks a b c first second = second ∙ ap (λ (r : Resolver). record r { problems = c.problems }) first

pub marked_still : (rows : LinkRows) (xs : List (Option ℕ)) (a : List Bool) (b c : Resolver) → c ≡ b → AreMarked rows xs a b.problems.items → AreMarked rows xs a c.problems.items
marked_still rows xs a b c same marked = subst (λ (r : Resolver). AreMarked rows xs a r.problems.items) (sym same) marked

-- A LIST OF NUMBERS, of which the rows are marked up to a next one, after so many turns
pub record IsListMarked (chains : ChainTable) (rows : LinkRows) (row_of : ℕ → Option ℕ) (numbers : List ℕ) (next : Option ℕ) (turns : ℕ) (old new : List Bool) : Type 0 where
  pub left : List ℕ
  pub done : List (Option ℕ)
  pub follows : IsListFrom chains next left
  pub fits : turns + length left ≤ chains.numbers
  pub split : map row_of numbers ≡ done ++ map row_of left
  pub marks : AreMarked rows done old new

some_same : {A : Type 0} (x y : A) → ◌≡◌ {A = Option A} (Some x) (Some y) → x ≡ y
some_same x y e = cc

not_some : {A : Type 0} (x : A) → ◌≡◌ {A = Option A} None (Some x) → ⊥
not_some x e = cc

append_nil : {A : Type 0} (xs : List A) → xs ++ [] ≡ xs
append_nil [] = refl
append_nil (x ∷ xs) = ap (λ ys. x ∷ ys) (append_nil xs)

module _ (chains : ChainTable) (rows : LinkRows) (row_of : ℕ → Option ℕ) (numbers : List ℕ) where
  pub begun : (first : Option ℕ) (a : List Bool) → IsListFrom chains first numbers → length numbers ≤ chains.numbers → IsListMarked chains rows row_of numbers first 0 a a
  begun first a follows fits = record { left = numbers; done = []; follows = follows; fits = omega (arith, fits); split = refl; marks = marked_none rows a }

  more_by : (left : List ℕ) (done : List (Option ℕ)) (next : Option ℕ) (number turns : ℕ) (a b c : List Bool) → next ≡ Some number → IsListFrom chains next left → turns + length left ≤ chains.numbers
      → map row_of numbers ≡ done ++ map row_of left → AreMarked rows done a b → AreMarked rows (row_of number ∷ []) b c → IsListMarked chains rows row_of numbers (number_after chains number) (turns + 1) a c
  more_by [] done next number turns a b c is follows fits split marks one = absurd (not_some number (sym follows ∙ is))
  more_by (n ∷ left) done next number turns a b c is follows fits split marks one =
      let same : n ≡ number = some_same n number (sym follows.0 ∙ is) in
      record {
        left = left;
        done = done ++ row_of number ∷ [];
        follows = subst (λ (k : ℕ). IsListFrom chains (number_after chains k) left) same follows.1;
        fits = omega (arith, fits);
        split = split ∙ ap (λ (k : ℕ). done ++ (row_of k ∷ map row_of left)) same ∙ sym (append_assoc done (row_of number ∷ []) (map row_of left));
        marks = marked_then rows done (row_of number ∷ []) a b c marks one;
      }

  pub more : (next : Option ℕ) (number turns : ℕ) (a b c : List Bool) → next ≡ Some number → IsListMarked chains rows row_of numbers next turns a b → AreMarked rows (row_of number ∷ []) b c
      → IsListMarked chains rows row_of numbers (number_after chains number) (turns + 1) a c
  more next number turns a b c is marked one = more_by marked.left marked.done next number turns a b c is marked.follows marked.fits marked.split marked.marks one

  -- by what the code has of it
  pub more_row : (next after row : Option ℕ) (now : ChainTable) (rows_now : LinkRows) (number turns : ℕ) (a b c : List Bool) → now ≡ chains → rows_now ≡ rows → row ≡ row_of number → after ≡ number_after now number → next ≡ Some number
      → IsListMarked chains rows row_of numbers next turns a b → AreMarked rows_now (row ∷ []) b c → IsListMarked chains rows row_of numbers after (turns + 1) a c
  more_row next after row now rows_now number turns a b c same rows_same row_is after_is is marked one =
      let here = marked_as rows (row ∷ []) (row_of number ∷ []) b c (ap (λ (o : Option ℕ). o ∷ []) row_is) (subst (λ l. AreMarked l (row ∷ []) b c) rows_same one) in
      subst (λ (o : Option ℕ). IsListMarked chains rows row_of numbers o (turns + 1) a c) (sym (after_is ∙ ap (λ (t : ChainTable). number_after t number) same)) (more next number turns a b c is marked here)

  all_of : (left : List ℕ) (done : List (Option ℕ)) (a b : List Bool) → left ≡ [] → map row_of numbers ≡ done ++ map row_of left → AreMarked rows done a b → AreMarked rows (map row_of numbers) a b
  all_of left done a b none split marks = marked_as rows done (map row_of numbers) a b (sym (split ∙ ap (λ (l : List ℕ). done ++ map row_of l) none ∙ append_nil done)) marks

  none_left : (next : Option ℕ) (left : List ℕ) → IsListFrom chains next left → next ≡ None → left ≡ []
  none_left next [] follows is = refl
  none_left next (n ∷ left) follows is = absurd (not_some n (sym is ∙ follows.0))

  empty_list : (left : List ℕ) → length left ≡ 0 → left ≡ []
  empty_list [] none = refl
  empty_list (n ∷ left) none = absurd (omega (arith, none))

  pub ended : (next : Option ℕ) (turns : ℕ) (a b : List Bool) → next ≡ None → IsListMarked chains rows row_of numbers next turns a b → AreMarked rows (map row_of numbers) a b
  ended next turns a b is marked = all_of marked.left marked.done a b (none_left next marked.left marked.follows is) marked.split marked.marks

  pub turned : (next : Option ℕ) (turns : ℕ) (a b : List Bool) → chains.numbers ≤ turns → IsListMarked chains rows row_of numbers next turns a b → AreMarked rows (map row_of numbers) a b
  turned next turns a b all marked = all_of marked.left marked.done a b (empty_list marked.left (omega (arith, marked.fits, all))) marked.split marked.marks

-- THE ROWS of further definitions
rows_from : (key at : ℕ) (get : ℕ → Option FurtherDefinition) (further : List FurtherDefinition) → ((i : ℕ) → get (at + i) ≡ slice_get further i)
    → map (λ (place : ℕ). row_of_further (get place)) (further_places key at further) ≡ rows_of_further (filter (is_further_of key) further)
rows_from key at get [] gets = refl
rows_from key at get (f ∷ further) gets =
    by (f.key == key) (rows_from key (at + 1) get further (λ i. ap get (next i) ∙ gets (suc i)))
  where
    next : (i : ℕ) → at + 1 + i ≡ at + suc i
    next i = omega arith

    here : get at ≡ Some f
    here = ap get (the_same at) ∙ gets zero
      where
        the_same : (n : ℕ) → n ≡ n + zero
        the_same n = omega arith

    by : (is : Bool) → map (λ (place : ℕ). row_of_further (get place)) (further_places key (at + 1) further) ≡ rows_of_further (filter (is_further_of key) further)
        → map (λ (place : ℕ). row_of_further (get place)) (if is then at ∷ further_places key (at + 1) further else further_places key (at + 1) further)
        ≡ rows_of_further (cond is (f ∷ filter (is_further_of key) further) (filter (is_further_of key) further))
    by true rest =
        ap (λ (o : Option FurtherDefinition). row_of_further o ∷ map (λ (place : ℕ). row_of_further (get place)) (further_places key (at + 1) further)) here
        ∙ ap (λ (l : List (Option ℕ)). f.row ∷ l) rest
    by false rest = rest

further_rows : (key : ℕ) (further : List FurtherDefinition) → map (further_row further) (further_places key 0 further) ≡ rows_of_further (filter (is_further_of key) further)
further_rows key further = rows_from key 0 (slice_get further) further (λ i. ap (slice_get further) (the_same i))
  where
    the_same : (n : ℕ) → 0 + n ≡ n
    the_same n = omega arith

-- THE ROWS of entries, of an archive and of all
module _ (key : ℕ) (row_at : ℕ → Option ℕ) where
  abbrev of_number : ℕ → Option ℕ
  of_number number = row_at (number / 2)

  part_rows : (row at : ℕ) (entries : List IndexEntry) → ((i : ℕ) → i < length entries → row_at (at + i) ≡ Some row) → map of_number (entry_numbers key at entries) ≡ rows_of_entries row (filter (has_key key) entries)
  part_rows row at [] rows = refl
  part_rows row at (e ∷ entries) rows =
      by (e.key == key) (e.default_key == key) (part_rows row (at + 1) entries (λ i less. ap row_at (next i) ∙ rows (suc i) (omega (arith, less))))
    where
      next : (i : ℕ) → at + 1 + i ≡ at + suc i
      next i = omega arith

      the_same : (n : ℕ) → n ≡ n + zero
      the_same n = omega arith

      row_here : row_at at ≡ Some row
      row_here = ap row_at (the_same at) ∙ rows zero (omega arith)

      by : (is other : Bool) → map of_number (entry_numbers key (at + 1) entries) ≡ rows_of_entries row (filter (has_key key) entries)
          → map of_number (if is then (at + at) ∷ entry_numbers key (at + 1) entries else (if other then (at + at + 1) ∷ entry_numbers key (at + 1) entries else entry_numbers key (at + 1) entries))
          ≡ rows_of_entries row (cond (is || other) (e ∷ filter (has_key key) entries) (filter (has_key key) entries))
      by true other rest = ap (λ (o : Option ℕ). o ∷ map of_number (entry_numbers key (at + 1) entries)) (ap row_at (half_of at) ∙ row_here) ∙ ap (λ (l : List (Option ℕ)). Some row ∷ l) rest
      by false true rest = ap (λ (o : Option ℕ). o ∷ map of_number (entry_numbers key (at + 1) entries)) (ap row_at (half_after at) ∙ row_here) ∙ ap (λ (l : List (Option ℕ)). Some row ∷ l) rest
      by false false rest = rest

  offer_rows_from : (entries : List IndexEntry) (taken : List Bool) (from : ℕ) (archives : List OpenedArchive) → AreConsecutive from archives (length entries) → ((place : ℕ) → from ≤ place → row_at place ≡ row_with_entry archives place)
      → map of_number (entry_numbers key from (drop from entries)) ≡ rows_of_offers key (map (open_archive entries taken) archives)
  offer_rows_from entries taken from [] are rows = ap (λ (l : List IndexEntry). map of_number (entry_numbers key from l)) (drop_all from entries (omega (arith, are)))
  offer_rows_from entries taken from (archive ∷ archives) are rows =
      let to = archive.entries.1 in
      let part = take (to - from) (drop from entries) in
      let long : length part ≡ to - from = length-take-le (to - from) (drop from entries) (omega (arith, length-drop from entries, ends_within to (length entries) archives are.2)) in
      let mine : (open_archive entries taken archive).entries ≡ part = ap (λ (n : ℕ). take (archive.entries.1 - n) (drop n entries)) are.0 in
      ap (λ (l : List IndexEntry). map of_number (entry_numbers key from l)) (split_at from to entries are.1)
      ∙ ap (map of_number) (numbers_append key from part (drop to entries))
      ∙ map-append of_number (entry_numbers key from part) (entry_numbers key (from + length part) (drop to entries))
      ∙ ap (λ (l : List (Option ℕ)). l ++ map of_number (entry_numbers key (from + length part) (drop to entries)))
      (part_rows archive.row from part (λ i less. rows (from + i) (omega arith) ∙ ap (λ (b : Bool). if b then Some archive.row else row_with_entry archives (from + i)) (lt-ltb (from + i) to (omega (arith, less, long)))))
      ∙ ap (λ (n : ℕ). rows_of_entries archive.row (filter (has_key key) part) ++ map of_number (entry_numbers key n (drop to entries))) (ends long are.1)
      ∙ ap (λ (l : List (Option ℕ)). rows_of_entries archive.row (filter (has_key key) part) ++ l)
      (offer_rows_from entries taken to archives are.2 (λ place above. rows place (omega (arith, above, are.1)) ∙ ap (λ (b : Bool). if b then Some archive.row else row_with_entry archives place) (le-ltb place to above)))
      ∙ ap (λ (l : List IndexEntry). rows_of_entries archive.row (filter (has_key key) l) ++ rows_of_offers key (map (open_archive entries taken) archives)) (sym mine)
    where
      ends : {n : ℕ} → n ≡ archive.entries.1 - from → from ≤ archive.entries.1 → from + n ≡ archive.entries.1
      ends {n} long less = omega (arith, long, less)

offer_rows : (key : ℕ) (archives : List OpenedArchive) (entries : List IndexEntry) (taken : List Bool) → AreConsecutive 0 archives (length entries)
    → map (λ (n : ℕ). row_with_entry archives (n / 2)) (entry_numbers key 0 entries) ≡ rows_of_offers key (map (open_archive entries taken) archives)
offer_rows key archives entries taken are = offer_rows_from key (row_with_entry archives) entries taken 0 archives are (λ place above. refl)

-- THE LINES AFTER that of a key
choose : {A : Type 0} (b other : Bool) (x y z : A) → (b ≡ true → (if b then x else (if other then y else z)) ≡ x) × (b ≡ false → other ≡ true → (if b then x else (if other then y else z)) ≡ y)
    × (b ≡ false → other ≡ false → (if b then x else (if other then y else z)) ≡ z)
choose true other x y z = (λ is. refl, λ is there. cc, λ is there. cc)
choose false true x y z = (λ is. cc, λ is there. refl, λ is there. cc)
choose false false x y z = (λ is. cc, λ is there. cc, λ is there. refl)

module _ (link : Resolver) (key : ℕ) (state : FoundState) (listed : AreKeysListed link) (a b : List Bool) where
  pub marked_multiple : is_multiple_state state ≡ true
      → ((places : List ℕ) → IsListFrom link.further (first_number link.further key) places → length places ≤ link.further.numbers → AreMarked link.link.rows (map (further_row link.link.keys.keys.further) places) a b)
      → AreMarked link.link.rows (rows_found_after (linking_of link) key state) a b
  marked_multiple is marks =
      let further = link.link.keys.keys.further in
      marked_as link.link.rows (map (further_row further) (further_places key 0 further)) (rows_found_after (linking_of link) key state) a b
      (further_rows key further ∙ sym ((choose (is_multiple_state state) (has_offer_lines state) _ (rows_of_offers key (linking_of link).archives) []).0 is))
      (marks (further_places key 0 further) (listed.further.follow key) (list_fits link.further (λ k. further_places k 0 further) key listed.further))

  pub marked_offers : is_multiple_state state ≡ false → has_offer_lines state ≡ true
      → ((from count : ℕ) (numbers : List ℕ) → AreConsecutive from link.tables.archives.items count → IsListFrom link.offers (first_number link.offers key) numbers → length numbers ≤ link.offers.numbers
      → AreMarked link.link.rows (map (λ (n : ℕ). row_with_entry link.tables.archives.items (n / 2)) numbers) a b)
      → AreMarked link.link.rows (rows_found_after (linking_of link) key state) a b
  marked_offers isnt has marks =
      let entries = link.tables.entries.items in
      let archives = link.tables.archives.items in
      marked_as link.link.rows (map (λ (n : ℕ). row_with_entry archives (n / 2)) (entry_numbers key 0 entries)) (rows_found_after (linking_of link) key state) a b
      (offer_rows key archives entries link.taken.items listed.archives ∙ sym ((choose (is_multiple_state state) (has_offer_lines state) _ (rows_of_offers key (linking_of link).archives) []).1 isnt has))
      (marks 0 (length entries) (entry_numbers key 0 entries) listed.archives (listed.offers.follow key) (list_fits link.offers (λ k. entry_numbers k 0 entries) key listed.offers))

  pub marked_nothing : is_multiple_state state ≡ false → has_offer_lines state ≡ false → a ≡ b → AreMarked link.link.rows (rows_found_after (linking_of link) key state) a b
  marked_nothing isnt hasnt same =
      marked_as link.link.rows [] (rows_found_after (linking_of link) key state) a b (sym ((choose (is_multiple_state state) (has_offer_lines state) _ (rows_of_offers key (linking_of link).archives) []).2 isnt hasnt))
      (subst (λ m. AreMarked link.link.rows [] a m) same (marked_none link.link.rows a))

pub after_named : (link : Linking) (key : ℕ) (state : FoundState) → rows_after_key link key (found_word state) ≡ rows_found_after link key state
after_named link key found.Defined = refl
after_named link key found.WeakDefined = refl
after_named link key found.Common = refl
after_named link key found.Shared = refl
after_named link key found.Multiple = refl
after_named link key found.Order = refl
after_named link key found.Undefined = refl
after_named link key found.Weak = refl
after_named link key found.Linker = refl
after_named link key found.Unused = refl

-- A KEY that is a fault, or none
pub if_true : {A : Type 0} (b : Bool) (x y : A) → b ≡ true → (if b then x else y) ≡ x
if_true true x y is = refl
if_true false x y is = cc

pub if_false : {A : Type 0} (b : Bool) (x y : A) → b ≡ false → (if b then x else y) ≡ y
if_false true x y is = cc
if_false false x y is = refl
