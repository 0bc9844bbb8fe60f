-- Paths within a root: with a name more, and without their last name.
use Rattle.std.proofs.Common.{◌≡◌, ℕ, suc, ◌+◌, ◌-◌, ◌<◌, ◌≤◌, List, [], ◌∷◌, ◌++◌, length, length-append, drop, take, get_or, refl, ap, sym, ◌∙◌, arith, subst, append_assoc}
use Rattle.std.proofs.lemmas.List.{get_or-append_right, get_or-drop}
use Rattle.std.proofs.Math.Seq.{take-append_seam, get_or-append_seam}
use Rattle.elf_needs.specs.Searching.{PATH_SLASH}
use Rattle.elf_needs.specs.RootPaths.{AreEntryNames, HasNoSlash, IsEntryName, IsWithinRoot, path_below}

pub entered : (root path name : List ℕ) → IsEntryName name → IsWithinRoot root path → IsWithinRoot root (path ++ PATH_SLASH ∷ name)
entered root path name is w = record { names = name ∷ w.names; are_names = (is, w.are_names); joined = ap (λ p. p ++ PATH_SLASH ∷ name) w.joined }

-- a byte after the slash before the last name is of that name
in_name : (path name : List ℕ) (k : ℕ) → HasNoSlash name → length path < k → k < length (path ++ PATH_SLASH ∷ name) → get_or (path ++ PATH_SLASH ∷ name) k 0 ≡ PATH_SLASH → ⊥
in_name path name k plain past below is =
    let n = length-append path (PATH_SLASH ∷ name) in
    let place : k - length path ≡ suc (k - length path - 1) = omega (arith, past) in
    let within : k - length path - 1 < length name = omega (arith, past, below, n) in
    let right : get_or (path ++ PATH_SLASH ∷ name) k 0 ≡ get_or (PATH_SLASH ∷ name) (k - length path) 0 = get_or-append_right path (PATH_SLASH ∷ name) (length path) k 0 refl (omega (arith, past)) in
    plain (k - length path - 1) within (sym (ap (λ i. get_or (PATH_SLASH ∷ name) i 0) place) ∙ (sym right ∙ is))

-- the last slash is the one before the last name
last_slash : (path name : List ℕ) (slash : ℕ) → HasNoSlash name → slash < length (path ++ PATH_SLASH ∷ name) → get_or (path ++ PATH_SLASH ∷ name) slash 0 ≡ PATH_SLASH
    → ((k : ℕ) → slash < k → k < length (path ++ PATH_SLASH ∷ name) → get_or (path ++ PATH_SLASH ∷ name) k 0 ≡ PATH_SLASH → ⊥)
    → slash ≡ length path
last_slash path name slash plain below is after =
    let n = length-append path (PATH_SLASH ∷ name) in
    let not_past : length path < slash → ⊥ = λ past. in_name path name slash plain past below is in
    let not_before : slash < length path → ⊥ = λ before. after (length path) before (omega (arith, n)) (get_or-append_seam path PATH_SLASH name 0) in
    omega (arith, not_past, not_before)

without : (root path : List ℕ) (names : List (List ℕ)) (slash : ℕ) → AreEntryNames names → path ≡ path_below root names → length root < length path → slash < length path → get_or path slash 0 ≡ PATH_SLASH
    → ((k : ℕ) → slash < k → k < length path → get_or path k 0 ≡ PATH_SLASH → ⊥) → IsWithinRoot root (take slash path)
without root path [] slash are joined long below is after =
    let e : length path ≡ length root = ap length joined in
    absurd (omega (arith, e, long))
without root path (name ∷ names) slash (first, are) joined long below is after =
    let whole = path_below root names ++ PATH_SLASH ∷ name in
    let place : slash ≡ length (path_below root names) =
    last_slash (path_below root names) name slash first.plain
    (subst (λ p. slash < length p) joined below)
    (subst (λ p. get_or p slash 0 ≡ PATH_SLASH) joined is)
    (subst (λ p. (k : ℕ) → slash < k → k < length p → get_or p k 0 ≡ PATH_SLASH → ⊥) joined after) in
    let rest : take slash path ≡ path_below root names = rw (place, joined) (take-append_seam (path_below root names) (PATH_SLASH ∷ name)) in
    record { names = names; are_names = are; joined = rest }

pub left : (root path : List ℕ) (slash : ℕ) → IsWithinRoot root path → length root < length path → slash < length path → get_or path slash 0 ≡ PATH_SLASH
    → ((k : ℕ) → slash < k → k < length path → get_or path k 0 ≡ PATH_SLASH → ⊥) → IsWithinRoot root (take slash path)
left root path slash w long below is after = without root path w.names slash w.are_names w.joined long below is after

pub at_root : (root : List ℕ) → IsWithinRoot root root
at_root root = record { names = []; are_names = _; joined = refl }

-- a name is appended in two steps
pub entered_after : (root path mid new name : List ℕ) → IsEntryName name → IsWithinRoot root path → mid ≡ path ++ PATH_SLASH ∷ [] → new ≡ mid ++ name → IsWithinRoot root new
entered_after root path mid new name is w slash put =
    let e : new ≡ path ++ PATH_SLASH ∷ name = put ∙ (ap (λ p. p ++ name) slash ∙ append_assoc path (PATH_SLASH ∷ []) name) in
    subst (λ p. IsWithinRoot root p) (sym e) (entered root path name is w)

-- no slash within a part of a text
pub none_before : (names : List ℕ) (at size : ℕ) → ((k : ℕ) → k < size → get_or (drop at names) k 0 ≡ PATH_SLASH → ⊥) → (k : ℕ) → at ≤ k → k < at + size → get_or names k 0 ≡ PATH_SLASH → ⊥
none_before names at size none k low high is =
    let place : k ≡ at + (k - at) = omega (arith, low) in
    none (k - at) (omega (arith, low, high)) (get_or-drop at names (k - at) 0 ∙ (ap (λ i. get_or names i 0) (sym place) ∙ is))

-- the same by a text that is the path
pub left_by : (root path text : List ℕ) (slash : ℕ) → text ≡ path → IsWithinRoot root path → length root < length path → slash < length text → get_or text slash 0 ≡ PATH_SLASH
    → ((k : ℕ) → slash < k → k < length text → get_or text k 0 ≡ PATH_SLASH → ⊥) → IsWithinRoot root (take slash path)
left_by root path text slash same w long below is after =
    subst (λ p. IsWithinRoot root (take slash p)) same
    (left root text slash (subst (λ p. IsWithinRoot root p) (sym same) w) (subst (λ p. length root < length p) (sym same) long) below is after)
