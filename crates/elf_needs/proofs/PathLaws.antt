-- Texts appended to a path, one after another, and the paths of entries.
use Rattle.std.proofs.Common.{◌≡◌, ℕ, ◌+◌, ◌<◌, ◌≤◌, true, false, Bool, nat_lt, List, [], ◌∷◌, ◌++◌, length, length-append, Option, None, Some, refl, ap, sym, ◌∙◌, append_assoc, arith}
use Rattle.std.proofs.lemmas.Bool.Decides.{nat_tests}
use Rattle.std.specs.List.{cons_option}
use Rattle.elf_needs.specs.Prelude.{IsMade, MOST_PATH_BYTES, PutsText, after_dir, dir_of_entry, entry_path, entry_paths, if_short, path_in, root_before}

some_same : {x y : List ℕ} → Some x ≡ Some y → x ≡ y
some_same e = cc e

-- two texts, one after the other
pub puts_both : (old mid new first second : List ℕ) (r : Bool) → PutsText old mid (Some first) true → PutsText mid new (Some second) r → PutsText old new (Some (first ++ second)) r
puts_both old mid new first second true (f, is, put) (g, is2, put2) =
    (first ++ second, refl, put2 ∙ rw (put, ← some_same is, ← some_same is2) (append_assoc old first second))
puts_both old mid new first second false (f, is, put) second_long = λ text is_text.
    let long = second_long second refl in
    let e : length mid ≡ length old + length first = ap length (put ∙ ap (λ t. old ++ t) (sym (some_same is))) ∙ length-append old first in
    let n = length-append first second in
    rw (← some_same is_text) (omega (arith, e, n, long))

pub puts_none : (old mid new first second : List ℕ) → PutsText old mid (Some first) false → PutsText old new (Some (first ++ second)) false
puts_none old mid new first second first_long text is_text =
    let long = first_long first refl in
    let n = length-append first second in
    rw (← some_same is_text) (omega (arith, n, long))

is_short : (path : List ℕ) → length path ≤ MOST_PATH_BYTES → if_short path ≡ Some path
is_short path short =
    let e : nat_lt MOST_PATH_BYTES (length path) ≡ false = grind (arith, nat_tests) in
    rw e refl

is_long : (path : List ℕ) → MOST_PATH_BYTES < length path → if_short path ≡ None
is_long path long =
    let e : nat_lt MOST_PATH_BYTES (length path) ≡ true = grind (arith, nat_tests) in
    rw e refl

behind_none : (n : ℕ) → MOST_PATH_BYTES < 0 + n → MOST_PATH_BYTES < n
behind_none n long = omega (arith, long)

long_path : (directory name : List ℕ) → MOST_PATH_BYTES < length directory → MOST_PATH_BYTES < length (path_in directory name)
long_path directory name long = rw (length-append directory (after_dir directory ++ name)) (omega (arith, long))

pub made_of : (new text : List ℕ) (r : Bool) → (r ≡ true → length new ≤ MOST_PATH_BYTES) → PutsText [] new (Some text) r → IsMade new (if_short text) r
made_of new text true short (t, is, put) =
    let e : new ≡ text = put ∙ sym (some_same is) in
    rw (← e) (is_short new (short refl))
made_of new text false short long = is_long text (behind_none (length text) (long text refl))

-- by the directory that an entry names
by_directory : (root name : List ℕ) (origin : Option (List ℕ)) (entry : List ℕ) → entry_path root name origin entry ≡ if_short (path_in (root_before root entry ++ dir_of_entry origin entry) name)
unfolding entry_path
by_directory root name origin entry = refl

module _ (root name : List ℕ) (origin : Option (List ℕ)) (entry : List ℕ) where
  -- a path that is too long
  too_long : MOST_PATH_BYTES < length (root_before root entry) + length (dir_of_entry origin entry) → entry_path root name origin entry ≡ None
  too_long long =
      let before = length-append (root_before root entry) (dir_of_entry origin entry) in
      by_directory root name origin entry ∙ is_long _ (long_path (root_before root entry ++ dir_of_entry origin entry) name (omega (arith, long, before)))

  pub entry_made : (mid put new : List ℕ) (r : Bool) → (r ≡ true → length new ≤ MOST_PATH_BYTES) → PutsText [] mid (Some (root_before root entry)) true
      → PutsText mid put (Some (dir_of_entry origin entry)) true → PutsText put new (Some (after_dir put ++ name)) r
      → IsMade new (entry_path root name origin entry) r
  entry_made mid put new r short (text, is, rooted) (directory, found, behind) last =
      let e : put ≡ root_before root entry ++ dir_of_entry origin entry = behind ∙ (ap (λ t. t ++ directory) (rooted ∙ sym (some_same is)) ∙ ap (λ t. root_before root entry ++ t) (sym (some_same found))) in
      let whole : PutsText [] new (Some (path_in put name)) r = puts_both [] put new put (after_dir put ++ name) r (put, refl, refl) last in
      let made = made_of new (path_in put name) r short whole in
      at_made (by_directory root name origin entry ∙ ap (λ t. if_short (path_in t name)) (sym e)) r made
    where
      at_made : {wanted other : Option (List ℕ)} → wanted ≡ other → (r : Bool) → IsMade new other r → IsMade new wanted r
      at_made is true made = is ∙ made
      at_made is false made = is ∙ made

  pub not_rooted : (new : List ℕ) → PutsText [] new (Some (root_before root entry)) false → IsMade new (entry_path root name origin entry) false
  not_rooted new long = too_long (let l = behind_none (length (root_before root entry)) (long (root_before root entry) refl) in omega (arith, l))

  pub not_named : (mid new : List ℕ) → PutsText [] mid (Some (root_before root entry)) true → PutsText mid new (Some (dir_of_entry origin entry)) false
      → IsMade new (entry_path root name origin entry) false
  not_named mid new (text, is, rooted) long = too_long (
      let l = long (dir_of_entry origin entry) refl in
      let e : length mid ≡ length (root_before root entry) = ap length (rooted ∙ sym (some_same is)) in
      omega (arith, l, e))

-- the paths of some entries, by the first
pub paths_by : (root name : List ℕ) (origin : Option (List ℕ)) (entry : List ℕ) (others entries : List (List ℕ)) → entries ≡ entry ∷ others
    → entry_paths root name origin entries ≡ cons_option (entry_path root name origin entry) (entry_paths root name origin others)
unfolding entry_paths
paths_by root name origin entry others entries is = rw is refl

-- an entry that names no path, and one that does
pub passed_over : (root name : List ℕ) (origin : Option (List ℕ)) (entry path : List ℕ) (others entries all : List (List ℕ)) → all ≡ entry_paths root name origin entries
    → entries ≡ entry ∷ others → IsMade path (entry_path root name origin entry) false → all ≡ entry_paths root name origin others
passed_over root name origin entry path others entries all held is none =
    held ∙ (paths_by root name origin entry others entries is ∙ ap (λ found. cons_option found (entry_paths root name origin others)) none)

pub taken : (root name : List ℕ) (origin : Option (List ℕ)) (entry path : List ℕ) (others entries : List (List ℕ)) (all : List (List ℕ)) → all ≡ entry_paths root name origin entries
    → entries ≡ entry ∷ others → IsMade path (entry_path root name origin entry) true → all ≡ path ∷ entry_paths root name origin others
taken root name origin entry path others entries all held is made =
    held ∙ (paths_by root name origin entry others entries is ∙ ap (λ found. cons_option found (entry_paths root name origin others)) made)

pub nothing_left : (root name : List ℕ) (origin : Option (List ℕ)) → entry_paths root name origin [] ≡ []
unfolding entry_paths
nothing_left root name origin = refl

-- a name that is a path
pub named_made : (root name mid new : List ℕ) (r : Bool) → (r ≡ true → length new ≤ MOST_PATH_BYTES) → PutsText [] mid (Some (root_before root name)) true → PutsText mid new (Some name) r
    → IsMade new (if_short (root_before root name ++ name)) r
named_made root name mid new r short rooted put = made_of new (root_before root name ++ name) r short (puts_both [] mid new (root_before root name) name r rooted put)

pub named_long : (root name new : List ℕ) → PutsText [] new (Some (root_before root name)) false → IsMade new (if_short (root_before root name ++ name)) false
named_long root name new long = is_long _ (behind_none _ (puts_none [] new new (root_before root name) name long (root_before root name ++ name) refl))
