-- A listing as a table: its lines without their letters, and with the names of their columns.
use Rattle.std.specs.Prelude.{ℕ, ◌≡◌, ◌==◌, if◌then◌else◌, List, [], ◌∷◌, ◌++◌, Option, None, Some, codes}
use Rattle.elf_model.specs.Text.{name_of, newline}
use Rattle.elf_model.specs.declared.formats.LinePlace.{LinePlace}
use Rattle.elf_model.specs.declared.formats.LinePlace.TheVariants as place
use Rattle.elf_model.specs.declared.formats.TableState.{TableState}

-- the names of the columns of the lines of a letter, above their columns
unfoldable pub headings : List (ℕ × List ℕ)
headings =
    (72, codes "type machine      entry     phoff     shoff    flags phnum shnum shstrndx")
    ∷ (83, codes "index type          flags             address    offset      size link  info name")
    ∷ (80, codes "index type     permissions offset   vaddr        paddr    filesz     memsz align")
    ∷ (89, codes "table      index        value      size type    binding visibility place name")
    ∷ (82, codes "table    offset type                   symbol    addend name")
    ∷ (78, codes "index     type namesz descsz name descriptor")
    ∷ (68, codes "index tag                     value string")
    ∷ (86, codes "index kind number flags    hash name")
    ∷ (88, codes "table      index number hidden name")
    ∷ (70, codes "answer      steps")
    ∷ (65, codes "index    offset      size name")
    ∷ (67, codes "state            place cause          path")
    ∷ (84, codes "kind   relro   stack pages text  cet       canary fortify rpath   path")
    ∷ (76, codes "index name [by] path")
    ∷ (73, codes "state    path")
    ∷ (85, codes "object provider state version")
    ∷ (66, codes "object    symbol state  definer definition name")
    ∷ []

-- the line of these names, if the lines of a letter have columns
abbrev pub names_line : Option (List ℕ) → List ℕ
names_line None = []
names_line (Some names) = names ++ newline

-- what comes before a line of a letter: after a line of another letter an empty line, and then the
-- names of its columns; after a line of the same letter nothing
abbrev pub before_line : (last letter : ℕ) → List ℕ
before_line last letter =
    if letter == last then []
    else (if last == 0 then [] else newline) ++ names_line (name_of headings letter)

-- what a byte of a listing becomes: the letter of a line becomes what comes before the line, and
-- the space after it nothing
unfoldable pub byte_in_table : TableState → ℕ → List ℕ
byte_in_table state byte = elim state.place [
  | place.Letter ↦ before_line state.letter byte
  | place.Space ↦ []
  | place.Fields ↦ byte ∷ []
]

-- the place after a byte of the fields
abbrev pub place_after : ℕ → LinePlace
place_after byte = if byte == 10 then place.Letter else place.Fields

-- where a reader is after a byte
unfoldable pub state_after : TableState → ℕ → TableState
state_after state byte = elim state.place [
  | place.Letter ↦ record { place = place.Space; letter = byte }
  | place.Space ↦ record { place = place.Fields; letter = state.letter }
  | place.Fields ↦ record { place = place_after byte; letter = state.letter }
]

-- what the rest of a listing becomes
unfoldable pub table_from : TableState → List ℕ → List ℕ
table_from state [] = []
table_from state (byte ∷ bytes) = byte_in_table state byte ++ table_from (state_after state byte) bytes

-- where a reader is after some bytes
unfoldable pub state_at_end : TableState → List ℕ → TableState
state_at_end state [] = state
state_at_end state (byte ∷ bytes) = state_at_end (state_after state byte) bytes

-- a reader before the first line
abbrev pub table_start : TableState
table_start = record { place = place.Letter; letter = 0 }

-- THE TABLE of a listing
abbrev pub table_text : List ℕ → List ℕ
table_text listing = table_from table_start listing

-- a table may be written in pieces: that of a listing is that of its beginning, followed by that of
-- the rest from where the beginning ends
abbrev pub TableIsInPieces : Type 0
TableIsInPieces =
    (state : TableState) → (front rest : List ℕ)
    → (table_from state (front ++ rest) ≡ table_from state front ++ table_from (state_at_end state front) rest)
    × (state_at_end state (front ++ rest) ≡ state_at_end (state_at_end state front) rest)
