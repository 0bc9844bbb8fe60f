-- The items of a layout, as arguments.
use Rattle.std.specs.Prelude.{ℕ, ◌≡◌, ◌≢◌, ◌≤◌, List, ◌∷◌, ◌++◌, length, All, codes}
use Rattle.std.specs.Str.Parse.{IsNumeral, digits_value}
use Rattle.elf_layout.specs.Layouts.{IsName}
use Rattle.elf_layout.specs.declared.layout.Item.{Item}
use Rattle.elf_layout.specs.declared.layout.Item.TheVariants.{Section, Define, Entry, Table, Thread}

-- `=`
abbrev pub EQUALS : ℕ
EQUALS = 61

-- an argument is two texts with an `=` between them, the last one in it
abbrev pub IsSplitAtEquals : List ℕ → List ℕ → List ℕ → Type 0
IsSplitAtEquals word key text = (word ≡ key ++ EQUALS ∷ text) × All (λ byte. byte ≢ EQUALS) text

-- digits of a radix, at least one and at most the given number, and the number that they represent
abbrev pub IsNumber : ℕ → ℕ → List ℕ → ℕ → Type 0
IsNumber radix most digits value = IsNumeral radix digits × (length digits ≤ most) × (value ≡ digits_value radix digits)

-- an address: `0x` and 1 to 16 hexadecimal digits, of either case
abbrev pub IsAddress : List ℕ → ℕ → Type 0
IsAddress text address = (digits : List ℕ) × (text ≡ codes "0x" ++ digits) × IsNumber 16 16 digits address

-- the index of a section: 1 to 5 decimal digits, from 1 to 65279
abbrev pub IsIndex : List ℕ → ℕ → Type 0
IsIndex digits index = IsNumber 10 5 digits index × (1 ≤ index) × (index ≤ 65279)

-- the key of an item: a section, by its index; or by a symbol's name its definition, or its entry
-- in the procedure linkage table, in the global offset table, or there of its offset from the
-- thread pointer
abbrev pub IsItemOf : List ℕ → Item → Type 0
IsItemOf key (Section index address) = (digits : List ℕ) × (key ≡ codes "at:" ++ digits) × IsIndex digits index
IsItemOf key (Define name address) = (key ≡ codes "def:" ++ name.now) × IsName name.now
IsItemOf key (Entry name address) = (key ≡ codes "plt:" ++ name.now) × IsName name.now
IsItemOf key (Table name address) = (key ≡ codes "got:" ++ name.now) × IsName name.now
IsItemOf key (Thread name address) = (key ≡ codes "tpgot:" ++ name.now) × IsName name.now

-- an item is a symbol's entry
abbrev pub IsEntry : Item → Type 0
IsEntry (Section index address) = ⊥
IsEntry (Define name address) = ⊥
IsEntry (Entry name address) = Unit {0}
IsEntry (Table name address) = Unit {0}
IsEntry (Thread name address) = Unit {0}

abbrev pub item_address : Item → ℕ
item_address (Section index address) = address
item_address (Define name address) = address
item_address (Entry name address) = address
item_address (Table name address) = address
item_address (Thread name address) = address

-- THE ITEM of an argument: its key and its address
pub record ParsesItem (word : List ℕ) (item : Item) : Type 0 where
  pub key : List ℕ
  pub text : List ℕ
  pub parted : IsSplitAtEquals word key text
  pub is_of : IsItemOf key item
  pub address : IsAddress text (item_address item)
