-- Relative relocations (gABI 4, Relative Relocation Table): each word of a table is an address, or a
-- bitmap of the words in memory after those of the word before it.
use Rattle.std.specs.Prelude.{ℕ, zero, suc, ◌+◌, ◌-◌, ◌*◌, ◌/◌, ◌%◌, ◌^◌, ◌==◌, nat_lt, if◌then◌else◌, Bool, List, [], Option, None, Some}
use Rattle.elf_model.specs.LineFronts.{relr_prefix}
use Rattle.elf_model.specs.Listing.{ListingItem, each}
use Rattle.elf_model.specs.Records.{relr_word, sh_offset}
use Rattle.elf_model.specs.RowPlaces.{place_of_relr}
use Rattle.elf_model.specs.Rows.{chosen_row, no_name, placed_choice, refused_row}
use Rattle.elf_model.specs.Style.{ListingStyle}
use Rattle.elf_model.specs.Tables.{RELR_SIZE}
use Rattle.elf_model.specs.declared.causes.Cause.TheVariants.{Relr}

-- a bitmap has a bit for each of this many words of 8 bytes, after its lowest bit
abbrev pub RELR_BITS : ℕ
RELR_BITS = 63

-- the last address of 8 bytes that end at 2^64
abbrev pub LAST_ADDRESS : ℕ
LAST_ADDRESS = 2 ^ 64 - 8

-- a word is a bitmap, which its lowest bit says: an address is even
abbrev pub is_bitmap : ℕ → Bool
is_bitmap word = word % 2 == 1

-- the address of a bitmap's first word in memory after a word of a table, if there is one, by that
-- before it
abbrev pub base_after : Option ℕ → (word : ℕ) → Option ℕ
base_after base word =
    if is_bitmap word then (elim base [ None ↦ None | Some address ↦ Some (address + 8 * RELR_BITS) ]) else Some (word + 8)

-- that before the word of an index, of the table at an offset: none before the first
unfoldable pub bitmap_base : List ℕ → (table_at index : ℕ) → Option ℕ
bitmap_base file table_at zero = None
bitmap_base file table_at (suc index) =
    base_after (bitmap_base file table_at index) (relr_word file (table_at + RELR_SIZE * index))

-- the row of an address that a word at an offset gives: if its 8 bytes end past 2^64, it is refused
unfoldable pub relr_row : List ℕ → ListingStyle → (section word_at address : ℕ) → List ListingItem
relr_row file style section word_at address =
    if nat_lt LAST_ADDRESS address then refused_row word_at Relr
    else chosen_row (placed_choice style (place_of_relr file word_at address) style.choice)
    (relr_prefix style.format address section) word_at no_name

-- that of a bit of a bitmap, whose bits count from 0 after the lowest one: none if it is not set
unfoldable pub bit_row : List ℕ → ListingStyle → (section word_at base word bit : ℕ) → List ListingItem
bit_row file style section word_at base word bit =
    if word / 2 ^ (bit + 1) % 2 == 1 then relr_row file style section word_at (base + 8 * bit) else []

-- those of a word: of its address, or of its bits; a bitmap that no address precedes is refused
unfoldable pub word_rows : List ℕ → ListingStyle → (section word_at : ℕ) → Option ℕ → (word : ℕ) → List ListingItem
word_rows file style section word_at base word =
    if is_bitmap word then (elim base [
      | None ↦ refused_row word_at Relr
      | Some address ↦ each (bit_row file style section word_at address word) 0 RELR_BITS
    ])
    else relr_row file style section word_at word

-- those of the word of an index, of the table at an offset, which a header of an index describes
abbrev pub relr_rows_at : List ℕ → ListingStyle → (header table_at index : ℕ) → List ListingItem
relr_rows_at file style header table_at index =
    let word_at = table_at + RELR_SIZE * index in
    word_rows file style header word_at (bitmap_base file table_at index) (relr_word file word_at)

-- THE ROWS OF THE WORD OF AN INDEX, of the table that the section header at an offset describes
unfoldable pub relr_rows : List ℕ → ListingStyle → (section at index : ℕ) → List ListingItem
relr_rows file style section at index = relr_rows_at file style section (sh_offset file at) index
