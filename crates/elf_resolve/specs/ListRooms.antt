-- What a link has besides its keys, rows and archives until something is listed by keys, and the limits
-- of its tables.
use Rattle.std.specs.Prelude.{◌≡◌, ℕ, ◌+◌, ◌≤◌, false, [], get_or, length, None}
use Rattle.elf_resolve.specs.EntryRows.{AreConsecutive}
use Rattle.elf_resolve.specs.KeyChains.{LIST_END}
use Rattle.elf_resolve.specs.declared.archives.ArchiveTables.{ArchiveTables}
use Rattle.elf_resolve.specs.declared.link_memory.KeyLists.{KeyLists}
use Rattle.elf_resolve.specs.declared.resolver.Resolver.{Resolver}
use Rattle.elf_resolve.specs.declared.room.LinkCaps.{LinkCaps}

-- nothing is listed by keys, nothing is noted of rows, and there is room for as many
pub record KeepsLists (old new : Resolver) : Type 0 where
  pub offers : new.offers ≡ old.offers
  pub further : new.further ≡ old.further
  pub spare : new.spare ≡ old.spare
  pub kinds : new.kinds ≡ old.kinds
  pub problems : new.problems ≡ old.problems
  pub most_rows : new.link.rows.most ≡ old.link.rows.most

-- the limit of the entries of indexes stays, and they are within it if they were
pub record KeepsWithin (old new : ArchiveTables) : Type 0 where
  pub most : new.most ≡ old.most
  pub within : length old.entries.items ≤ old.most → length new.entries.items ≤ new.most

-- LISTS OF LIMITS that are empty: there is room for each key, and for two numbers of each entry
pub record AreEmptyLists (caps : LinkCaps) (lists : KeyLists) : Type 0 where
  pub entries : lists.tables.entries.items ≡ []
  pub offers : lists.offers.heads ≡ []
  pub further : lists.further.heads ≡ []
  pub spare : lists.spare.chains.heads ≡ []
  pub offers_keys : lists.offers.keys ≡ caps.keys
  pub further_keys : lists.further.keys ≡ caps.keys
  pub offers_numbers : lists.tables.most + lists.tables.most ≤ lists.offers.numbers
  pub offers_end : lists.offers.numbers ≤ LIST_END
  pub further_numbers : lists.further.numbers ≡ caps.index
  pub further_end : lists.further.numbers ≤ LIST_END

-- A LINK OF WHICH NOTHING IS LISTED: its lists are empty and have room for all that is listed at its
-- end, no row has another kind or is marked, there is a mark for each row for which there is room, and
-- each archive has the entries after those of the one before it
pub record HasListRoom (link : Resolver) : Type 0 where
  pub offers : link.offers.heads ≡ []
  pub further : link.further.heads ≡ []
  pub spare : link.spare.chains.heads ≡ []
  pub kinds : (index : ℕ) → get_or link.kinds.items index None ≡ None
  pub problems : (index : ℕ) → get_or link.problems.items index false ≡ false
  pub marks : link.link.rows.most ≤ length link.problems.items
  pub offers_keys : link.link.keys.most ≤ link.offers.keys
  pub further_keys : link.link.keys.most ≤ link.further.keys
  pub offers_numbers : link.tables.most + link.tables.most ≤ link.offers.numbers
  pub offers_end : link.offers.numbers ≤ LIST_END
  pub further_numbers : link.link.keys.most_further ≤ link.further.numbers
  pub further_end : link.further.numbers ≤ LIST_END
  pub within : length link.tables.entries.items ≤ link.tables.most
  pub consecutive : AreConsecutive 0 link.tables.archives.items (length link.tables.entries.items)
