-- A text that is written to a terminal.
use Rattle.std.specs.Prelude.{ℕ, ◌≡◌, ◌≤◌, ◌==◌, ◌⊎◌, if◌then◌else◌, List, [], ◌∷◌, ◌++◌}
use Rattle.elf_model.specs.Prelude.{name_byte_text, newline}

-- a byte of a text: a newline is unchanged, any other byte is escaped as in a name
unfoldable pub reported_byte : ℕ → List ℕ
reported_byte byte = if byte == 10 then newline else name_byte_text byte

-- the bytes of a text, each as it is written there
unfoldable pub reported_text : List ℕ → List ℕ
reported_text [] = []
reported_text (byte ∷ bytes) = reported_byte byte ++ reported_text bytes

-- a byte on which a terminal acts only by beginning a line: a newline, or a printing ASCII
-- character
abbrev pub IsPlain : ℕ → Type 0
IsPlain byte = (byte ≡ 10) ⊎ ((0x20 ≤ byte) × (byte ≤ 0x7e))
