-- What a cursor over rows holds.
use Rattle.std.proofs.Common.{◌≡◌, ℕ, List, [], refl}
use Rattle.elf_table.specs.Cursors.{HoldsRows, CursorState}

-- a cursor that holds nothing agrees with every file
pub agrees_none : (file : List ℕ) (c : CursorState) → c.held ≡ [] → HoldsRows file c
agrees_none file c none = rw none refl
