-- Entries of bytes, and of bytes after them.
use Rattle.std.proofs.Common.{◌≡◌, ◌≢◌, ℕ, zero, suc, ◌<◌, All, List, [], ◌∷◌, ◌++◌, length, take, drop, get_or, refl, ap, sym, ◌∙◌, arith, append_assoc, append-nil}
use Rattle.std.proofs.lemmas.List.Elements.{All-head, All-tail}
use Rattle.elf_walk.specs.Entries.{EntryIsFound, LastIsFound, whole_entries, last_entry, rest_from}

-- the entries of bytes and of others after them are those of the first, then those of the others
-- with what is left before them
pub entries_join : (front a b : List ℕ) → whole_entries front (a ++ b) ≡ whole_entries front a ++ whole_entries (rest_from front a) b
unfolding whole_entries rest_from
entries_join front [] b = refl
entries_join front (zero ∷ a) b = ap (λ es. front ∷ es) (entries_join [] a b)
entries_join front (suc n ∷ a) b = entries_join (front ++ suc n ∷ []) a b

pub rest_join : (front a b : List ℕ) → rest_from front (a ++ b) ≡ rest_from (rest_from front a) b
unfolding rest_from
rest_join front [] b = refl
rest_join front (zero ∷ a) b = rest_join [] a b
rest_join front (suc n ∷ a) b = rest_join (front ++ suc n ∷ []) a b

pub no_entries : (front : List ℕ) → whole_entries front [] ≡ []
unfolding whole_entries
no_entries front = refl

pub no_rest : (front : List ℕ) → rest_from front [] ≡ front
unfolding rest_from
no_rest front = refl

-- bytes without NUL: no entry ends in them, and all of them are left
pub none_ends : (front a : List ℕ) → ((k : ℕ) → k < length a → get_or a k 0 ≢ 0) → whole_entries front a ≡ []
unfolding whole_entries
none_ends front [] none = refl
none_ends front (zero ∷ a) none = absurd (none 0 (omega arith) refl)
none_ends front (suc n ∷ a) none = none_ends (front ++ suc n ∷ []) a (λ k low. none (suc k) (omega arith))

-- if no entry ends in them, all bytes are left
pub all_left : (front a : List ℕ) → whole_entries front a ≡ [] → rest_from front a ≡ front ++ a
unfolding whole_entries rest_from
all_left front [] none = sym (append-nil front)
all_left front (zero ∷ a) none = cc
all_left front (suc n ∷ a) none = all_left (front ++ suc n ∷ []) a none ∙ append_assoc front (suc n ∷ []) a

-- bytes up to their first NUL are an entry
pub first_ends : (front a : List ℕ) (end : ℕ) → end < length a → get_or a end 0 ≡ 0 → ((k : ℕ) → k < end → get_or a k 0 ≢ 0)
    → (whole_entries front a ≡ (front ++ take end a) ∷ whole_entries [] (drop (suc end) a)) × (rest_from front a ≡ rest_from [] (drop (suc end) a))
unfolding whole_entries rest_from
first_ends front [] end low nul none = absurd (omega arith)
first_ends front (zero ∷ a) zero low nul none = (ap (λ f. f ∷ whole_entries [] a) (sym (append-nil front)), refl)
first_ends front (zero ∷ a) (suc end) low nul none = absurd (none 0 (omega arith) refl)
first_ends front (suc n ∷ a) zero low nul none = absurd (cc)
first_ends front (suc n ∷ a) (suc end) low nul none =
    let more = first_ends (front ++ suc n ∷ []) a end (omega arith) nul (λ k below. none (suc k) (omega arith)) in
    (more.0 ∙ ap (λ f. f ∷ whole_entries [] (drop (suc end) a)) (append_assoc front (suc n ∷ []) (take end a)), more.1)

-- bytes with an entry at their start
whole_from : (front entry rest : List ℕ) → All (λ b. b ≢ 0) entry
    → (whole_entries front (entry ++ 0 ∷ rest) ≡ (front ++ entry) ∷ whole_entries [] rest) × (rest_from front (entry ++ 0 ∷ rest) ≡ rest_from [] rest)
unfolding whole_entries rest_from
whole_from front [] rest all = (ap (λ f. f ∷ whole_entries [] rest) (sym (append-nil front)), refl)
whole_from front (zero ∷ entry) rest all = absurd (All-head (λ b. b ≢ 0) 0 entry all refl)
whole_from front (suc n ∷ entry) rest all =
    let more = whole_from (front ++ suc n ∷ []) entry rest (All-tail (λ b. b ≢ 0) (suc n) entry all) in
    (more.0 ∙ ap (λ f. f ∷ whole_entries [] rest) (append_assoc front (suc n ∷ []) entry), more.1)

pub entry_is_found : EntryIsFound
entry_is_found entry rest all =
    let more = whole_from [] entry rest all in
    ap (λ r. whole_entries [] (entry ++ 0 ∷ rest) ++ last_entry r) more.1 ∙ ap (λ es. es ++ last_entry (rest_from [] rest)) more.0

open_from : (front entry : List ℕ) → All (λ b. b ≢ 0) entry → whole_entries front entry ≡ []
unfolding whole_entries
open_from front [] all = refl
open_from front (zero ∷ entry) all = absurd (All-head (λ b. b ≢ 0) 0 entry all refl)
open_from front (suc n ∷ entry) all = open_from (front ++ suc n ∷ []) entry (All-tail (λ b. b ≢ 0) (suc n) entry all)

pub last_is_found : LastIsFound
last_is_found entry all =
    let none = open_from [] entry all in
    ap (λ es. es ++ last_entry (rest_from [] entry)) none ∙ ap last_entry (all_left [] entry none)
