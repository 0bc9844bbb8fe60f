-- What a buffer of tables holds, and the texts in it.
use Rattle.std.specs.Prelude.{ℕ, ◌≡◌, ◌+◌, ◌<◌, ◌≤◌, ◌^◌, ◌++◌, true, false, List, ◌∷◌, length, drop, take, Option, None, Some, Result, Ok, Err}
use Rattle.elf_model.specs.Bytes.{slice}
use Rattle.elf_model.specs.LinkSymbols.{AT, is_default_at, link_name, version_sign_in}
use Rattle.elf_resolve.specs.Taken.{IsLinkFault}
use Rattle.elf_resolve.specs.declared.link_faults.LinkFault.{LinkFault}
use Rattle.elf_resolve.specs.declared.link_faults.LinkFault.TheVariants.{Refused, Read, Open, Memory}
use Rattle.elf_resolve.specs.declared.string_buffer.HeldText.{HeldText}

-- the bytes of the tables, one after the other, and how many there is room for
pub record TableTexts : Type 0 where
  pub bytes : List ℕ
  pub most : ℕ

-- bytes after others, at most so many
abbrev pub ExtendsBy : (most : ℕ) → (old new : List ℕ) → Type 0
ExtendsBy most old new = (take (length old) new ≡ old) × (length new ≤ length old + most)

-- A TEXT is in the bytes of a buffer
pub record HoldsText (bytes : List ℕ) (text : HeldText) (is : List ℕ) : Type 0 where
  pub within : text.start + text.size ≤ length bytes
  pub fits : text.start + text.size < 2 ^ 64
  pub bytes_are : slice bytes text.start text.size ≡ is

-- bytes of a file fill a slice, if there are some within the file
abbrev pub ReadsAll : List ℕ → (at size : ℕ) → (out : List ℕ) → Result (Unit {0}) LinkFault → Type 0
ReadsAll file at size out (Ok done) = (0 < size → at + size ≤ length file) × (out ≡ slice file at size)
ReadsAll file at size out (Err fault) = at + size ≤ length file → IsLinkFault None fault

-- bytes of a file are appended
pub record ReadText (file : List ℕ) (at size : ℕ) (old new : TableTexts) (text : HeldText) : Type 0 where
  pub within : 0 < size → at + size ≤ length file
  pub start : text.start ≡ length old.bytes
  pub fits : text.start + text.size < 2 ^ 64
  pub size_is : text.size ≡ size
  pub bytes : new.bytes ≡ old.bytes ++ slice file at size
  pub most : new.most ≡ old.most

-- they are, or there is no room for them, or they cannot be read; those before them stay
pub record KeptTexts (old new : TableTexts) : Type 0 where
  pub most : new.most ≡ old.most
  pub first : take (length old.bytes) new.bytes ≡ old.bytes

abbrev pub ReadsText : List ℕ → (at size : ℕ) → (old new : TableTexts) → Result HeldText LinkFault → Type 0
ReadsText file at size old new (Ok text) = ReadText file at size old new text
ReadsText file at size old new (Err fault) = at + size ≤ length file → IsLinkFault None fault

-- A NAME in a table that a buffer holds: it is in the buffer too, or refused
abbrev pub FindsText : (bytes : List ℕ) → (strings : List ℕ) → (index at : ℕ) → Result HeldText LinkFault → Type 0
FindsText bytes strings index at (Ok text) = (name : List ℕ) × (link_name strings index at ≡ Ok name) × HoldsText bytes text name
FindsText bytes strings index at (Err (Refused refusal)) = link_name strings index at ≡ Err refusal
FindsText bytes strings index at (Err Read) = ⊥
FindsText bytes strings index at (Err Open) = ⊥
FindsText bytes strings index at (Err Memory) = ⊥

-- a name and a version joined by a sign are appended
pub record JoinedTexts (old new : TableTexts) (name version : List ℕ) (text : HeldText) : Type 0 where
  pub bytes : new.bytes ≡ old.bytes ++ (name ++ AT ∷ version)
  pub start : text.start ≡ length old.bytes
  pub fits : text.start + text.size < 2 ^ 64
  pub size_is : text.size ≡ length (name ++ AT ∷ version)
  pub most : new.most ≡ old.most

abbrev pub JoinsTexts : (old new : TableTexts) → (name version : List ℕ) → Result HeldText LinkFault → Type 0
JoinsTexts old new name version (Ok text) = JoinedTexts old new name version text
JoinsTexts old new name version (Err fault) = IsLinkFault None fault

-- A NAME SPLIT at the signs before its default version, whatever buffer holds it
pub record SplitName (bytes : List ℕ) (name base version : HeldText) : Type 0 where
  pub place : ℕ
  pub sign : version_sign_in bytes ≡ Some place
  pub is_default : is_default_at bytes place ≡ true
  pub base_held : (buffer : List ℕ) → HoldsText buffer name bytes → HoldsText buffer base (take place bytes)
  pub version_held : (buffer : List ℕ) → HoldsText buffer name bytes → HoldsText buffer version (drop (place + 2) bytes)

abbrev pub SplitsName : (bytes : List ℕ) → (name : HeldText) → Option (HeldText × HeldText) → Type 0
SplitsName bytes name None = (place : ℕ) → version_sign_in bytes ≡ Some place → is_default_at bytes place ≡ false
SplitsName bytes name (Some parts) = SplitName bytes name parts.0 parts.1
