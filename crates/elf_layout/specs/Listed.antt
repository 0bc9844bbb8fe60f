-- The items of a layout, followed by those of the lines of a text, one per line.
use Rattle.std.specs.Prelude.{ℕ, ◌≡◌, ◌≢◌, ◌+◌, ◌<◌, ◌⊎◌, ⊤, List, [], ◌∷◌, ◌++◌, length, slice_index_or, All, Result, Ok, Err}
use Rattle.std.specs.List.{AllZip}
use Rattle.std.specs.List.Sorted.{IsPermutation}
use Rattle.std.specs.Ordering.{nat_cmp}
use Rattle.std.specs.Str.Lines.{lines}
use Rattle.std.specs.declared.cmp.Ordering.{Ordering}
use Rattle.std.specs.declared.cmp.Ordering.TheVariants.{Less}
use Rattle.elf_model.specs.Placing.{Layout, Searched}
use Rattle.elf_layout.specs.Kept.{borrowed_as}
use Rattle.elf_layout.specs.Lent.{name_order}
use Rattle.elf_layout.specs.Spelled.{ParsesItem}
use Rattle.elf_layout.specs.declared.addresses.BorrowedLayout.{BorrowedLayout}
use Rattle.elf_layout.specs.declared.layout.Item.{Item}
use Rattle.elf_layout.specs.declared.layout.Item.TheVariants.{Section, Define, Entry, Table, Thread}
use Rattle.elf_layout.specs.declared.items.LayoutFileFault.{LayoutFileFault}
use Rattle.elf_layout.specs.declared.items.LayoutFileFault.TheVariants.{BadItem, Repeats, Memory}
use Rattle.elf_layout.specs.declared.texts.TextEnd.{TextEnd}
use Rattle.elf_layout.specs.declared.texts.TextEnd.TheVariants.{Whole, Cut}

-- the items of a layout, which are searched
abbrev as_searched : Layout → Layout
as_searched layout = record (layout) { lookup = Searched }

-- the items of another layout after those that are searched
abbrev pub with_layout : Layout → Layout → Layout
with_layout old layout = record {
  lookup = old.lookup;
  sections = old.sections ++ layout.sections;
  definitions = old.definitions ++ layout.definitions;
  linkage = old.linkage ++ layout.linkage;
  table = old.table ++ layout.table;
  thread = old.thread ++ layout.thread;
}

-- an item after those of its kind
abbrev pub with_item : Layout → Item → Layout
with_item old (Section index address) = record (old) { sections = old.sections ++ (index, address) ∷ [] }
with_item old (Define name address) = record (old) { definitions = old.definitions ++ (name.now, address) ∷ [] }
with_item old (Entry name address) = record (old) { linkage = old.linkage ++ (name.now, address) ∷ [] }
with_item old (Table name address) = record (old) { table = old.table ++ (name.now, address) ∷ [] }
with_item old (Thread name address) = record (old) { thread = old.thread ++ (name.now, address) ∷ [] }

-- items after those of their kinds, from the first to the last
abbrev pub with_items : Layout → List Item → Layout
with_items old [] = old
with_items old (item ∷ items) = with_items (with_item old item) items

-- lines give items, one each
pub record GiveItems (lines : List (List ℕ)) (old new : Layout) : Type 0 where
  pub items : List Item
  pub spelled : AllZip ParsesItem lines items
  pub placed : new ≡ with_items old items

-- the line after some others is not an item: it is there and is none, or the text was cut before it
abbrev IsFaulty : List (List ℕ) → List (List ℕ) → TextEnd → Type 0
IsFaulty all front end =
    ((line : List ℕ) × (rest : List (List ℕ)) × (all ≡ front ++ line ∷ rest) × ((item : Item) → ParsesItem line item → ⊥))
    ⊎ ((all ≡ front) × (end ≡ Cut))

-- why lines give no items after others: the first that is not an item decides, by its number
abbrev pub IsRefused : List (List ℕ) → Layout → TextEnd → LayoutFileFault → Type 0
IsRefused lines old end (BadItem line) =
    (front : List (List ℕ)) × (new : Layout) × GiveItems front old new × IsFaulty lines front end × (line ≡ length front + 1)
IsRefused lines old end Memory = ⊤
IsRefused lines old end _ = ⊥

-- THE ITEMS of a layout, followed by those of the lines of a text that ends with its file
abbrev pub Gathers : Layout → List ℕ → TextEnd → Result Layout LayoutFileFault → Type 0
Gathers layout text end (Ok items) = GiveItems (lines text) (as_searched layout) items × (end ≡ Whole)
Gathers layout text end (Err fault) = IsRefused (lines text) (as_searched layout) end fault

-- no key of some items is less than the key of the item before it
abbrev pub KeysNeverDescend : {K : Type 0} → (K → K → Ordering) → List (K × ℕ) → Type 0
KeysNeverDescend {K} order items = (i : ℕ) (d : K × ℕ) → i + 1 < length items → order (slice_index_or items (i + 1) d).0 (slice_index_or items i d).0 ≢ Less

-- items are sorted, kind by kind
pub record AreSorted (items : Layout) : Type 0 where
  pub sections : KeysNeverDescend nat_cmp items.sections
  pub definitions : KeysNeverDescend name_order items.definitions
  pub linkage : KeysNeverDescend name_order items.linkage
  pub table : KeysNeverDescend name_order items.table
  pub thread : KeysNeverDescend name_order items.thread

-- they are the same items, of each kind in another order
pub record AreReordered (old new : Layout) : Type 0 where
  pub lookup : new.lookup ≡ old.lookup
  pub sections : IsPermutation old.sections new.sections
  pub definitions : IsPermutation old.definitions new.definitions
  pub linkage : IsPermutation old.linkage new.linkage
  pub table : IsPermutation old.table new.table
  pub thread : IsPermutation old.thread new.thread

-- two of some items have the same key
abbrev pub HasTwice : {K : Type 0} → List (K × ℕ) → K → Type 0
HasTwice {K} items key = (i j : ℕ) × (i < j) × (j < length items) × ((d : K × ℕ) → (slice_index_or items i d).0 ≡ key) × ((d : K × ℕ) → (slice_index_or items j d).0 ≡ key)

-- two items of an item's kind have its index, or its name
abbrev pub IsRepeated : Layout → Item → Type 0
IsRepeated items (Section index address) = HasTwice items.sections index
IsRepeated items (Define name address) = HasTwice items.definitions name.now
IsRepeated items (Entry name address) = HasTwice items.linkage name.now
IsRepeated items (Table name address) = HasTwice items.table name.now
IsRepeated items (Thread name address) = HasTwice items.thread name.now

-- two items are of one kind, and have one index or name
abbrev pub AreAlike : Item → Item → Type 0
AreAlike (Section index address) (Section other place) = index ≡ other
AreAlike (Define name address) (Define other place) = name.now ≡ other.now
AreAlike (Entry name address) (Entry other place) = name.now ≡ other.now
AreAlike (Table name address) (Table other place) = name.now ≡ other.now
AreAlike (Thread name address) (Thread other place) = name.now ≡ other.now
AreAlike _ _ = ⊥

-- a line is an item of this kind, and of this index or name
abbrev pub ParsesSameItem : Item → List ℕ → Type 0
ParsesSameItem wanted line = (item : Item) × ParsesItem line item × AreAlike item wanted

-- the number of the last line that does, or 0 if none does
abbrev pub IsLastAlike : List (List ℕ) → Item → ℕ → Type 0
IsLastAlike lines wanted number =
    ((number ≡ 0) × All (λ line. ParsesSameItem wanted line → ⊥) lines)
    ⊎ ((front : List (List ℕ)) × (line : List ℕ) × (rest : List (List ℕ)) × (lines ≡ front ++ line ∷ rest) × ParsesSameItem wanted line
    × All (λ line. ParsesSameItem wanted line → ⊥) rest × (number ≡ length front + 1))

-- SORTED ITEMS as a layout; if two of a kind have one index or name, they are rejected at the last
-- line that has such an item
abbrev pub LendsLayout : List ℕ → Layout → Result BorrowedLayout LayoutFileFault → Type 0
LendsLayout text items (Ok lent) = borrowed_as lent ≡ items
LendsLayout text items (Err (Repeats line)) = (item : Item) × IsRepeated items item × IsLastAlike (lines text) item line
LendsLayout text items (Err _) = ⊥
