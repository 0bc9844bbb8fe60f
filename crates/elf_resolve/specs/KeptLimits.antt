-- The limits of a table of keys.
use Rattle.std.specs.Prelude.{◌≡◌, ◌≤◌, length}
use Rattle.elf_resolve.specs.KeyTables.{KeyList}

-- they stay
pub record KeepsLimits (old new : KeyList) : Type 0 where
  pub most : new.most ≡ old.most
  pub most_further : new.most_further ≡ old.most_further

-- and keys and further definitions are within them
pub record HasRoomForKeys (table : KeyList) : Type 0 where
  pub names : length table.keys.names ≤ table.most
  pub further : length table.keys.further ≤ table.most_further
