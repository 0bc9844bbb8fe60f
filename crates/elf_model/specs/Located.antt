-- WHERE A ROW IS: in a list of many files each object of a row also has the path of its file and, in
-- an archive, the name of its member, right after its letter.
use Rattle.std.specs.Prelude.{ℕ, suc, ◌≡◌, ◌==◌, ◌||◌, nat_lt, if◌then◌else◌, List, [], ◌∷◌, ◌++◌, codes}
use Rattle.elf_model.specs.Fields.{member_key}
use Rattle.elf_model.specs.Lines.{name_member}
use Rattle.elf_model.specs.Names.DisplayedName.{Whole, Cut}
use Rattle.elf_model.specs.Names.{DisplayedName}

-- the path of a row's file, as a member of an object
abbrev pub path_location : List ℕ → List ℕ
path_location path = name_member (codes "path") (Whole path)

-- the name of an archive's member, as it is shown; if it is cut, one more member says so
abbrev pub member_location : DisplayedName → List ℕ
member_location (Whole name) = name_member (codes "member") (Whole name)
member_location (Cut front) = name_member (codes "member") (Whole front) ++ (member_key (codes "member_cut") ++ codes "true")

-- where rows are: what says it of the rows of an archive itself, and of the rows that are listed now,
-- which are those of a member or of the file
pub record Location : Type 0 where
  pub file : List ℕ
  pub row : List ℕ

-- what an object with a letter also has: nothing if the path is one of its fields, as in the lines
-- `@` and `C`; the line of a member, `A`, is one of the archive's
abbrev pub location_text : Location → (letter : ℕ) → List ℕ
location_text location letter =
    if letter == 0x40 || letter == 0x43 then []
    else if letter == 0x41 then location.file
    else location.row

-- where a reader is in a line: how many of its bytes were read, as far as its letter's member
-- reaches, `{"line":"S"`, or one more; and the letter
pub record LinePosition : Type 0 where
  pub place : ℕ
  pub letter : ℕ

abbrev pub LETTER_AT : ℕ
LETTER_AT = 9

abbrev pub LETTER_END : ℕ
LETTER_END = 11

-- a byte, after what is inserted before it: the first one after the letter's member
unfoldable pub located_byte : Location → LinePosition → ℕ → List ℕ
located_byte location position byte =
    (if position.place == LETTER_END then location_text location position.letter else []) ++ byte ∷ []

-- where a reader is after a byte
unfoldable pub line_position_after : LinePosition → ℕ → LinePosition
line_position_after position byte =
    if nat_lt position.place LETTER_END
    then record { place = suc position.place; letter = if position.place == LETTER_AT then byte else position.letter }
    else record { place = if byte == 10 then 0 else suc LETTER_END; letter = position.letter }

-- OBJECTS WITH THEIR PLACES: what the rest of some lines becomes
unfoldable pub located_from : Location → LinePosition → List ℕ → List ℕ
located_from location position [] = []
located_from location position (byte ∷ bytes) = located_byte location position byte ++ located_from location (line_position_after position byte) bytes

-- where a reader is after some bytes
unfoldable pub position_at_end : LinePosition → List ℕ → LinePosition
position_at_end position [] = position
position_at_end position (byte ∷ bytes) = position_at_end (line_position_after position byte) bytes

-- a reader before the first line
abbrev pub line_start : LinePosition
line_start = record { place = 0; letter = 0 }

-- they may be written in pieces, and the place of the rows may change between two
abbrev pub LocationsAreInPieces : Type 0
LocationsAreInPieces =
    (location : Location) (position : LinePosition) (front rest : List ℕ)
    → (located_from location position (front ++ rest) ≡ located_from location position front ++ located_from location (position_at_end position front) rest)
    × (position_at_end position (front ++ rest) ≡ position_at_end (position_at_end position front) rest)
