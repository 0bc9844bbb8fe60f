-- What is known of a note's descriptor when its line is written.
use Rattle.std.specs.Prelude.{ℕ, ◌≡◌, if◌then◌else◌, Bool, List, [], ◌++◌, codes, length, take, Option, None, Some}
use Rattle.arrayvec.specs.ArrayVec.{ArrayVec}
use Rattle.elf_model.specs.Prelude.{Cut, DisplayedName, SHOWN_DESCRIPTOR, closing, cut_mark, hex_bytes, member_key, newline, note_content, quoted, space}
use Rattle.elf_model.specs.Names.DisplayedName.{Whole}
use Rattle.elf_model.specs.declared.formats.Format.TheVariants.{Columns, Object, Table}
use Rattle.elf_model.specs.declared.formats.Format.{Format}

-- a descriptor begins with these bytes, which are all that is shown of it, and has this size
pub record IsDescriptor (first : List ℕ) (size : ℕ) (descriptor : List ℕ) : Type 0 where
  pub first_is : first ≡ take SHOWN_DESCRIPTOR descriptor
  pub size_is : size ≡ length descriptor

-- the text after a note's name: the digits of the bytes that are shown, in columns marked if the
-- descriptor has more
unfoldable pub note_end : Format → List ℕ → Bool → List ℕ
note_end Columns digits has_more = space ++ (digits ++ (if has_more then cut_mark else [])) ++ newline
note_end Table digits has_more = space ++ (digits ++ (if has_more then cut_mark else [])) ++ newline
note_end Object digits has_more = member_key (codes "descriptor") ++ quoted digits ++ closing Object

-- the text after a note's name in a table, by its content
abbrev pub content_end : List ℕ → List ℕ
content_end content = space ++ content ++ newline

-- the text of some words, if there are any
abbrev pub items_of : Option (ArrayVec ℕ) → Option (List ℕ)
items_of None = None
items_of (Some words) = Some words.items

-- the content in words that a row has in place of digits: in a table, of a note whose name is whole
abbrev pub shown_content : Format → DisplayedName → (kind : ℕ) → (first : List ℕ) → (has_more : Bool) → Option (List ℕ)
shown_content Table (Whole name) kind first has_more = note_content name kind first has_more
shown_content Table (Cut name) kind first has_more = None
shown_content Columns name kind first has_more = None
shown_content Object name kind first has_more = None

-- the text after a note's name, by its content, and otherwise its first bytes
abbrev pub described_end : Format → Option (List ℕ) → (first : List ℕ) → (has_more : Bool) → List ℕ
described_end format None first has_more = note_end format (hex_bytes first) has_more
described_end format (Some content) first has_more = content_end content
