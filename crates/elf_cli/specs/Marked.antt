-- The message for wrong arguments, in which a newline of an argument is escaped, and one between
-- lines is as it is.
use Rattle.std.specs.Prelude.{ℕ, ◌==◌, ◌&&◌, if◌then◌else◌, List, [], ◌∷◌, ◌++◌, length}
use Rattle.elf_model.specs.Prelude.{name_byte_text, newline}
use Rattle.elf_format.specs.Told.{reported_text}

-- a byte of a text, by the byte at its place in another: if both are newlines it is as it is,
-- otherwise it is escaped as in a name
unfoldable pub byte_beside : ℕ → ℕ → List ℕ
byte_beside byte mark = if byte == 10 && mark == 10 then newline else name_byte_text byte

-- the bytes of a text, by those of another
unfoldable pub bytes_beside : List ℕ → List ℕ → List ℕ
bytes_beside [] marked = []
bytes_beside (byte ∷ bytes) [] = []
bytes_beside (byte ∷ bytes) (mark ∷ marks) = byte_beside byte mark ++ bytes_beside bytes marks

-- A TEXT AS PRINTED, by another text: byte by byte if both have one length, otherwise each newline
-- is as it is
unfoldable pub told_beside : List ℕ → List ℕ → List ℕ
told_beside text marked = if length text == length marked then bytes_beside text marked else reported_text text
