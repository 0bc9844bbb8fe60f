-- The words of this crate, for one import elsewhere.
pub use Rattle.elf_layout.specs.Kept.{borrowed_as}
pub use Rattle.elf_layout.specs.Layouts.{Adds, HasKey, HaveNames, IsName, LacksKey, Pushes}
pub use Rattle.elf_layout.specs.Lent.{BeginsAt, BeginsWith, FindsKey, Follows, IsAddressAt, KeysAscend, MayBorrow, MayFollow, borrowed_index, lent_name, name_order, named, placed, search_end}
pub use Rattle.elf_layout.specs.Listed.{AreAlike, GiveItems, HasTwice, IsLastAlike, KeysNeverDescend, ParsesSameItem, with_item, with_items}
pub use Rattle.elf_layout.specs.Spelled.{EQUALS, IsAddress, IsItemOf, IsSplitAtEquals, ParsesItem, item_address}
