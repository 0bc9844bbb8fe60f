-- Lists of numbers by keys, which are linked from number to number.
use Rattle.std.specs.Prelude.{◌≡◌, ℕ, ◌+◌, ◌≤◌, ◌==◌, if◌then◌else◌, List, [], ◌∷◌, get_or, Option, None, Some}

-- what ends a list
abbrev pub LIST_END : ℕ
LIST_END = 4294967295

-- the first number of each key, and the one after each number; how many keys there are, and numbers
pub record ChainTable : Type 0 where
  pub heads : List ℕ
  pub nexts : List ℕ
  pub keys : ℕ
  pub numbers : ℕ

-- a number of a list, or its end
abbrev pub number_or_end : ℕ → Option ℕ
number_or_end n = if n == LIST_END then None else Some n

abbrev pub first_number : ChainTable → (key : ℕ) → Option ℕ
first_number chains key = number_or_end (get_or chains.heads key LIST_END)

abbrev pub number_after : ChainTable → (number : ℕ) → Option ℕ
number_after chains number = number_or_end (get_or chains.nexts number LIST_END)

-- a list from its first number on
abbrev pub IsListFrom : ChainTable → (first : Option ℕ) → List ℕ → Type 0
IsListFrom chains first [] = first ≡ None
IsListFrom chains first (n ∷ numbers) = (first ≡ Some n) × IsListFrom chains (number_after chains n) numbers

-- numbers that ascend, from one on and below another
abbrev pub AscendWithin : (from most : ℕ) → List ℕ → Type 0
AscendWithin from most [] = Unit {0}
AscendWithin from most (n ∷ numbers) = (from ≤ n) × (n + 1 ≤ most) × AscendWithin (n + 1) most numbers

-- THE LIST OF EACH KEY, of numbers from one on
pub record HasLists (chains : ChainTable) (from : ℕ) (list : ℕ → List ℕ) : Type 0 where
  pub follow : (key : ℕ) → IsListFrom chains (first_number chains key) (list key)
  pub ascend : (key : ℕ) → AscendWithin from chains.numbers (list key)

-- the lists with a number before those of a key
abbrev pub list_with : (ℕ → List ℕ) → (key number : ℕ) → ℕ → List ℕ
list_with list key number k = if k == key then number ∷ list k else list k

-- A NUMBER ADDED that is below the others
pub record AddsNumber (old new : ChainTable) (key number : ℕ) : Type 0 where
  pub keys : new.keys ≡ old.keys
  pub numbers : new.numbers ≡ old.numbers
  pub lists : (list : ℕ → List ℕ) → key + 1 ≤ old.keys → number + 1 ≤ old.numbers → old.numbers ≤ LIST_END
      → HasLists old (number + 1) list → HasLists new number (list_with list key number)
