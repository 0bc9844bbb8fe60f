-- Items in ascending order, as they are given, and what they say of an image.
use Rattle.std.specs.Prelude.{ℕ, zero, suc, ◌+◌, ◌-◌, ◌*◌, ◌/◌, ◌^◌, ◌==◌, ◌&&◌, nat_le, if◌then◌else◌, Bool, List, [], ◌∷◌, length, get_or, map, Option, unwrap_or}
use Rattle.std.specs.Ordering.{nat_cmp}
use Rattle.elf_layout.specs.Prelude.{KeysAscend}
use Rattle.elf_model.specs.ImageItems.{ItemValues}
use Rattle.elf_model.specs.Placing.{address_in}
use Rattle.elf_image.specs.declared.image_items.CopyBytes.{CopyBytes}
use Rattle.elf_image.specs.declared.image_items.CopyBytes.TheVariants.{Digits, Raw}
use Rattle.elf_image.specs.declared.image_items.CopyItem.{CopyItem}
use Rattle.elf_image.specs.declared.image_items.ItemKind.{ItemKind}
use Rattle.elf_image.specs.declared.image_items.ItemKind.TheVariants as kind
use Rattle.elf_image.specs.declared.image_items.NumberItem.{NumberItem}

-- the number of a kind
abbrev pub item_kind_number : ItemKind → ℕ
item_kind_number kind.LoadAddress = 0
item_kind_number kind.Descriptor = 1
item_kind_number kind.Symbol = 2
item_kind_number kind.Call = 3
item_kind_number kind.Module = 4
item_kind_number kind.Value = 5
item_kind_number kind.Thread = 6
item_kind_number kind.Resolver = 7

-- the value of a hexadecimal digit of either case; 0 of another byte
unfoldable pub digit_value : ℕ → ℕ
digit_value byte =
    if nat_le 48 byte && nat_le byte 57 then byte - 48
    else if nat_le 97 byte && nat_le byte 102 then byte - 87
    else if nat_le 65 byte && nat_le byte 70 then byte - 55
    else 0

-- the byte of an index, of two digits each
abbrev pub byte_of_digits : List ℕ → (index : ℕ) → ℕ
byte_of_digits digits index = 16 * digit_value (get_or digits (2 * index) 0) + digit_value (get_or digits (2 * index + 1) 0)

-- the same, also of bytes as they are
abbrev pub byte_in : CopyBytes → (index : ℕ) → ℕ
byte_in (Raw bytes) index = get_or bytes.now index 0
byte_in (Digits digits) index = byte_of_digits digits.now index

-- how many bytes there are
abbrev pub copy_size : CopyBytes → ℕ
copy_size (Raw bytes) = length bytes.now
copy_size (Digits digits) = length digits.now / 2

-- the bytes from an index on, as many as a count
unfoldable pub bytes_from : CopyBytes → (index count : ℕ) → List ℕ
bytes_from bytes index zero = []
bytes_from bytes index (suc count) = byte_in bytes index ∷ bytes_from bytes (suc index) count

-- the bytes of a copied object
abbrev pub copy_bytes : CopyBytes → List ℕ
copy_bytes bytes = bytes_from bytes 0 (copy_size bytes)

-- the index of a copied object, and its bytes
abbrev pub copy_index : CopyItem → ℕ
copy_index item = item.index

abbrev pub copied : CopyItem → CopyBytes
copied item = if item.digits == 0 then Raw item.bytes else Digits item.bytes

abbrev pub copies_of : List CopyItem → List (ℕ × List ℕ)
copies_of items = map (λ item. (copy_index item, copy_bytes (copied item))) items

-- THE ITEMS THAT ARE GIVEN: numbers, each of a kind and with a key, and the bytes of copied objects, by
-- the index of their symbol
pub record GivenItems : Type 0 where
  pub numbers : List NumberItem
  pub copies : List (ℕ × List ℕ)

abbrev pub given : List NumberItem → List CopyItem → GivenItems
given numbers copies = record { numbers = numbers; copies = copies_of copies }

-- the numbers of a kind, by their key
unfoldable pub of_kind : (kind : ℕ) → List NumberItem → List (ℕ × ℕ)
of_kind kind [] = []
of_kind kind (item ∷ items) = if item.kind == kind then (item.key, item.value) ∷ of_kind kind items else of_kind kind items

-- the number of a kind and a key
abbrev pub number_of : GivenItems → ItemKind → (key : ℕ) → Option ℕ
number_of given kind key = address_in (of_kind (item_kind_number kind) given.numbers) key

-- WHAT THEY SAY, as all items of a process or as some
unfoldable pub said_by : GivenItems → (partial : Bool) → ItemValues
said_by given partial = record {
  base = unwrap_or (number_of given kind.LoadAddress 0) 0;
  symbols = of_kind (item_kind_number kind.Symbol) given.numbers;
  calls = of_kind (item_kind_number kind.Call) given.numbers;
  modules = of_kind (item_kind_number kind.Module) given.numbers;
  blocks = of_kind (item_kind_number kind.Value) given.numbers;
  threads = of_kind (item_kind_number kind.Thread) given.numbers;
  resolved = of_kind (item_kind_number kind.Resolver) given.numbers;
  copies = given.copies;
  descriptor = number_of given kind.Descriptor 0;
  partial = partial;
}

-- the place of an item in the order of items, and that of a kind and a key
abbrev pub item_rank : (kind key : ℕ) → ℕ
item_rank kind key = kind * 2 ^ 64 + key

abbrev pub item_rank_of : NumberItem → ℕ
item_rank_of item = item_rank item.kind item.key

-- ITEMS ASCEND: numbers by kind and key, and copied objects by the index of their symbol
abbrev pub Ascend : List NumberItem → List CopyItem → Type 0
Ascend numbers copies = KeysAscend nat_cmp item_rank_of numbers × KeysAscend nat_cmp copy_index copies
