-- Directories appended to others, and the paths in them.
use Rattle.std.proofs.Common.{◌≡◌, Bool, true, false, ℕ, suc, ◌+◌, ◌<◌, ◌≤◌, List, [], ◌∷◌, ◌++◌, length, drop, drop-cons, get_or, Option, None, Some, refl, ap, sym, ◌∙◌, append_assoc, add-one}
use Rattle.std.proofs.Math.ListN.{drop_of_length-le}
use Rattle.std.specs.List.{cons_option}
use Rattle.elf_needs.specs.Prelude.{SearchPathText, default_dirs, default_for, dir_paths, dirs_in, dirs_of, first_runpath, is_below, is_below_any, needer_of, needers_of, rpath_dirs, rpath_of, search_dirs, searched_paths, unless_runpath}
use Rattle.elf_needs.specs.declared.search_path_list.SearchPathList.{SearchPathList}
use Rattle.elf_needs.specs.Searching.{NeedingObject}
use Rattle.elf_needs.specs.declared.needers.NeedingObject.{NeedingObject as BorrowedNeeder}

pub dirs_more : (lists : List SearchPathList) (directories : SearchPathList) → dirs_in (lists ++ directories ∷ []) ≡ dirs_in lists ++ dirs_of directories ∷ []
dirs_more [] directories = refl
dirs_more (first ∷ lists) directories = ap (λ l. dirs_of first ∷ l) (dirs_more lists directories)

pub append_none : {A : Type 0} (xs : List A) → xs ++ [] ≡ xs
append_none [] = refl
append_none (x ∷ xs) = ap (λ l. x ∷ l) (append_none xs)

-- some directories, if there are any, in the middle
pub before_others : (xs : List SearchPathText) (some : Option SearchPathText) (others : List SearchPathText) → (xs ++ cons_option some []) ++ others ≡ xs ++ cons_option some others
before_others xs None others = ap (λ l. l ++ others) (append_none xs)
before_others xs (Some x) others = append_assoc xs (x ∷ []) others

-- one more object is processed
pub rpath_more : (needers : List BorrowedNeeder) (d : BorrowedNeeder) (i : ℕ) (before after : List SearchPathText) (all : List SearchPathText) → i < length needers
    → before ++ rpath_dirs (needers_of (drop i needers)) ≡ all
    → after ≡ before ++ cons_option (rpath_of (needer_of (get_or needers i d))) []
    → after ++ rpath_dirs (needers_of (drop (i + 1) needers)) ≡ all
unfolding rpath_dirs
rpath_more needers d i before after all below held put =
    let next : suc i ≡ i + 1 = sym (add-one i) in
    ap (λ l. l ++ rpath_dirs (needers_of (drop (i + 1) needers))) put
    ∙ (before_others before (rpath_of (needer_of (get_or needers i d))) (rpath_dirs (needers_of (drop (i + 1) needers)))
    ∙ (ap (λ n. before ++ cons_option (rpath_of (needer_of (get_or needers i d))) (rpath_dirs (needers_of (drop n needers)))) (add-one i)
    ∙ (sym (ap (λ l. before ++ rpath_dirs (needers_of l)) (drop-cons needers i d below)) ∙ held)))

pub rpath_all : (needers : List BorrowedNeeder) (i : ℕ) (lists all : List SearchPathText) → length needers ≤ i → lists ++ rpath_dirs (needers_of (drop i needers)) ≡ all → lists ≡ all
unfolding rpath_dirs
rpath_all needers i lists all gone held =
    sym (append_none lists) ∙ (sym (ap (λ l. lists ++ rpath_dirs (needers_of l)) (drop_of_length-le needers gone)) ∙ held)

-- the texts in their order
pub in_order : (library : SearchPathText) (default : List ℕ) (needers : List NeedingObject) (first second third all : List SearchPathText)
    → first ≡ unless_runpath (first_runpath needers) (rpath_dirs needers)
    → second ≡ first ++ library ∷ []
    → third ≡ second ++ cons_option (first_runpath needers) []
    → all ≡ third ++ default_dirs (default_for needers default) ∷ []
    → all ≡ search_dirs library default needers
in_order library default needers first second third all one two three four =
    let last = default_dirs (default_for needers default) in
    four
    ∙ (ap (λ l. l ++ last ∷ []) three
    ∙ (before_others second (first_runpath needers) (last ∷ [])
    ∙ (ap (λ l. l ++ cons_option (first_runpath needers) (last ∷ [])) (two ∙ ap (λ l. l ++ library ∷ []) one)
    ∙ append_assoc (unless_runpath (first_runpath needers) (rpath_dirs needers)) (library ∷ []) (cons_option (first_runpath needers) (last ∷ [])))))

-- the paths of the next text
pub next_text : (root name : List ℕ) (lists : List SearchPathList) (d : SearchPathList) (at : ℕ) (old tries : List (List ℕ)) → at < length lists
    → old ≡ [] ++ searched_paths root name (dirs_in (drop at lists))
    → tries ≡ dir_paths root name (dirs_of (get_or lists at d))
    → old ≡ tries ++ searched_paths root name (dirs_in (drop (at + 1) lists))
unfolding searched_paths
next_text root name lists d at old tries below held is =
    held
    ∙ (ap (λ l. searched_paths root name (dirs_in l)) (drop-cons lists at d below)
    ∙ (ap (λ l. l ++ searched_paths root name (dirs_in (drop (suc at) lists))) (sym is)
    ∙ ap (λ n. tries ++ searched_paths root name (dirs_in (drop n lists))) (sym (add-one at))))

pub no_text : (root name : List ℕ) (lists : List SearchPathList) (at : ℕ) (old : List (List ℕ)) → length lists ≤ at
    → old ≡ [] ++ searched_paths root name (dirs_in (drop at lists)) → old ≡ []
unfolding searched_paths
no_text root name lists at old gone held = held ∙ ap (λ l. searched_paths root name (dirs_in l)) (drop_of_length-le lists gone)

-- one more directory that a path is not below, or is
pub below_next : (directory : List ℕ) (others entries : List (List ℕ)) (path : List ℕ) (all : Bool) → all ≡ is_below_any entries path → entries ≡ directory ∷ others → is_below directory path ≡ false
    → all ≡ is_below_any others path
unfolding is_below_any
below_next directory others entries path all held is isnt = held ∙ (ap (λ l. is_below_any l path) is ∙ rw (isnt, is_below_any) refl)

pub below_found : (directory : List ℕ) (others entries : List (List ℕ)) (path : List ℕ) (all : Bool) → all ≡ is_below_any entries path → entries ≡ directory ∷ others → is_below directory path ≡ true
    → all ≡ true
unfolding is_below_any
below_found directory others entries path all held is found = held ∙ (ap (λ l. is_below_any l path) is ∙ rw (found, is_below_any) refl)
