-- Texts in order.
use Rattle.std.specs.Prelude.{ℕ, List, map}
use Rattle.std.specs.Borrow.{Bor}
use Rattle.std.specs.Cmp.Lexicographic.{slice_cmp}
use Rattle.std.specs.List.Sorted.{IsSorted}
use Rattle.std.specs.Ordering.{nat_cmp}

-- texts by their bytes
abbrev pub texts_of : List (Bor (List ℕ)) → List (List ℕ)
texts_of texts = map (λ text. text.now) texts

-- no text is less than the one before it, compared byte by byte as numbers
abbrev pub NeverDescend : List (Bor (List ℕ)) → Type 0
NeverDescend texts = IsSorted (λ text other. slice_cmp nat_cmp text.now other.now) texts
