-- Numbers and texts in columns.
use Rattle.std.specs.Prelude.{ℕ, suc, zero, ◌+◌, ◌-◌, ◌/◌, ◌%◌, ◌^◌, ◌==◌, nat_lt, if◌then◌else◌, List, [], ◌∷◌, ◌++◌, length, decimal, replicate, Option, None, Some, unwrap_or}

-- the hexadecimal digit of a number below 16, in lower case
unfoldable pub digit : ℕ → ℕ
digit n = if nat_lt n 10 then 48 + n else 87 + n

-- the last k hexadecimal digits of a number, with leading zeros
unfoldable pub hex : ℕ → ℕ → List ℕ
hex zero n = []
hex (suc k) n = digit (n / 16 ^ k % 16) ∷ hex k n

-- digits without the zeros before the first other digit; the last digit stays
unfoldable pub without_zeros : List ℕ → List ℕ
without_zeros [] = []
without_zeros (first ∷ []) = first ∷ []
without_zeros (first ∷ next ∷ rest) = if first == 48 then without_zeros (next ∷ rest) else first ∷ next ∷ rest

-- a number of 64 bits in hexadecimal, without leading zeros
unfoldable pub short_hex : ℕ → List ℕ
short_hex n = without_zeros (hex 16 n)

-- this many spaces
abbrev pub spaces : ℕ → List ℕ
spaces n = replicate n 32

-- one space, as between two fields
abbrev pub space : List ℕ
space = 32 ∷ []

-- the byte that ends a line
abbrev pub newline : List ℕ
newline = 10 ∷ []

-- a text at the left of a column; a longer one is not cut
unfoldable pub left_in : ℕ → List ℕ → List ℕ
left_in width text = text ++ spaces (width - length text)

-- a text at the right of a column; a longer one is not cut
unfoldable pub right_in : ℕ → List ℕ → List ℕ
right_in width text = spaces (width - length text) ++ text

-- a decimal number at the right of a column
unfoldable pub right_decimal : ℕ → ℕ → List ℕ
right_decimal width n = right_in width (decimal n)

-- the name of a number in a table of names
unfoldable pub name_of : List (ℕ × List ℕ) → ℕ → Option (List ℕ)
name_of [] n = None
name_of (entry ∷ entries) n = if n == entry.0 then Some entry.1 else name_of entries n

-- the name of a number in a table of names, otherwise another text
abbrev pub name_in : List (ℕ × List ℕ) → ℕ → List ℕ → List ℕ
name_in names n other = unwrap_or (name_of names n) other
