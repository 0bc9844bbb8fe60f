-- The text of a file of items, up to its first line that is too long.
use Rattle.std.specs.Prelude.{ℕ, ◌≡◌, ◌≢◌, ◌+◌, ◌-◌, ◌≤◌, ◌<◌, ◌++◌, ⊤, List, length, slice_index, take, Result, Ok, Err}
use Rattle.elf_layout.specs.declared.items.LayoutFileFault.{LayoutFileFault}
use Rattle.elf_layout.specs.declared.items.LayoutFileFault.TheVariants.{Read, TooLarge, Memory}
use Rattle.elf_layout.specs.declared.texts.TextEnd.{TextEnd}
use Rattle.elf_layout.specs.declared.texts.TextEnd.TheVariants.{Whole, Cut}

-- no byte of a text from one position to another is a newline
abbrev pub IsOneLine : List ℕ → (from to : ℕ) → Type 0
IsOneLine text from to = (k : ℕ) → from ≤ k → k < to → slice_index text k ≢ 10

-- a line begins at a position of a text
abbrev pub IsLineStart : List ℕ → ℕ → Type 0
IsLineStart text at = 0 < at → slice_index text (at - 1) ≡ 10

-- before a position of a text no line has more than 300 bytes
abbrev pub HasShortLines : List ℕ → ℕ → Type 0
HasShortLines text end = (from to : ℕ) → from ≤ to → to ≤ end → IsOneLine text from to → to ≤ from + 300

-- the line at a position of a text has this many bytes before it
pub record IsWithinLine (text : List ℕ) (at count : ℕ) : Type 0 where
  pub within : count ≤ at
  pub starts : IsLineStart text (at - count)
  pub one : IsOneLine text (at - count) at

-- a text is the part of a file before the first line that has more than 300 bytes
pub record IsCutBefore (text file : List ℕ) : Type 0 where
  pub front : text ≡ take (length text) file
  pub starts : IsLineStart file (length text)
  pub short : HasShortLines file (length text)
  pub long : length text + 300 < length file
  pub one : IsOneLine file (length text) (length text + 301)

-- THE TEXT of a file: all of it, if it has no line of more than 300 bytes and at most 67,108,864
-- bytes
abbrev pub IsTextOf : List ℕ → List ℕ → Result TextEnd LayoutFileFault → Type 0
IsTextOf file text (Ok Whole) = (text ≡ file) × HasShortLines file (length file)
IsTextOf file text (Ok Cut) = IsCutBefore text file
IsTextOf file text (Err TooLarge) = 67108864 < length file
IsTextOf file text (Err Read) = ⊤
IsTextOf file text (Err Memory) = ⊤
IsTextOf file text (Err _) = ⊥

-- the position in a piece after some text at which a line has its first byte too many, or the
-- piece's end; and how many bytes the last line has before that
pub record EndsLines (before piece : List ℕ) (end count : ℕ) : Type 0 where
  pub within : IsWithinLine (before ++ piece) (length before + end) count
  pub short : HasShortLines (before ++ piece) (length before + end)
  pub long : end < length piece → (count ≡ 300) × (slice_index piece end ≢ 10)

-- a piece is appended to a text, up to a line of more than 300 bytes; and how many bytes the text's
-- last line has
abbrev pub PutsPiece : (old piece new : List ℕ) → ℕ → Result TextEnd LayoutFileFault → Type 0
PutsPiece old piece new count (Ok Whole) = (new ≡ old ++ piece) × IsWithinLine new (length new) count × HasShortLines new (length new)
PutsPiece old piece new count (Ok Cut) = IsCutBefore new (old ++ piece)
PutsPiece old piece new count (Err TooLarge) = 67108864 < length old + length piece
PutsPiece old piece new count (Err Memory) = ⊤
PutsPiece old piece new count (Err _) = ⊥
