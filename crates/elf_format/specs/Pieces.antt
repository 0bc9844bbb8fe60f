-- A text that is written in pieces, each built in a line first.
use Rattle.std.specs.Prelude.{ℕ, ◌≡◌, if◌then◌else◌, Bool, List, [], ◌∷◌, ◌++◌, codes, Result, Ok, Err}
use Rattle.elf_model.specs.Prelude.{cut_mark, member_key, name_byte_text, string_text}
use Rattle.elf_model.specs.declared.formats.Format.TheVariants.{Columns, Object, Table}
use Rattle.elf_model.specs.declared.formats.Format.{Format}
use Rattle.elf_source.specs.Prelude.{IsOutFault, OutState, SinkTakes, SinkTakesPrefix}
use Rattle.elf_source.specs.declared.faults.OutFault.{OutFault}

-- the sink took the part of a text before the rest
pub record TakesBefore (old new : OutState) (text rest : List ℕ) : Type 0 where
  pub front : List ℕ
  pub split : text ≡ front ++ rest
  pub takes : SinkTakes old new front

-- a text was written, except its rest, which is still in a line; or a prefix of it on a fault
abbrev pub PutsBefore : {X : Type 0} → OutState → OutState → Result X OutFault
    → (text rest : List ℕ) → Type 0
PutsBefore old new (Ok x) text rest = TakesBefore old new text rest
PutsBefore old new (Err fault) text rest = SinkTakesPrefix old new text × IsOutFault new fault

-- the text before a name with a key
unfoldable pub name_start : Format → List ℕ → List ℕ
name_start Columns key = []
name_start Table key = []
name_start Object key = member_key key ++ 34 ∷ []

-- a byte of a name
unfoldable pub byte_text : Format → ℕ → List ℕ
byte_text Columns byte = name_byte_text byte
byte_text Table byte = name_byte_text byte
byte_text Object byte = string_text (name_byte_text byte)

-- the bytes of a name
unfoldable pub spelt : Format → List ℕ → List ℕ
spelt format [] = []
spelt format (byte ∷ bytes) = byte_text format byte ++ spelt format bytes

-- the text that ends a name, by whether it was truncated
unfoldable pub name_closing : Format → Bool → List ℕ
name_closing Columns is_cut = if is_cut then cut_mark else []
name_closing Table is_cut = if is_cut then cut_mark else []
name_closing Object is_cut = codes "\"" ++ (if is_cut then codes ",\"cut\":true" else [])
