-- Worked examples of dynamic entries.
use Rattle.std.specs.Prelude.{◌≡◌, [], ◌++◌, None, Some}
use Rattle.elf_model.specs.Prelude.{dynamic_count, dynamic_value, listed_value, repeated_tags, tagged, zeros}

-- the entries up to and with the first DT_NULL are listed, also if it is not at the table's start
-- in the file
abbrev pub DynamicEndsAtNull : Type 0
DynamicEndsAtNull =
    (dynamic_count (tagged 1 1 ++ tagged 0 0 ++ tagged 1 99) 0 3 ≡ 2)
    × (dynamic_count (zeros 24 ++ tagged 1 1 ++ tagged 0 0 ++ tagged 0 0) 24 3 ≡ 2)
    × (dynamic_count (tagged 0 5 ++ tagged 1 1) 0 2 ≡ 1)

-- without a DT_NULL all entries are listed
abbrev pub DynamicWithoutNull : Type 0
DynamicWithoutNull =
    (dynamic_count (tagged 1 1 ++ tagged 5 0) 0 2 ≡ 2)
    × (dynamic_count (tagged 0xffffffff00000000 0) 0 1 ≡ 1)
    × (dynamic_count [] 0 0 ≡ 0)

-- the value of a tag is that of the first entry with it, up to and with the first DT_NULL
abbrev pub DynamicValues : Type 0
DynamicValues =
    (listed_value repeated_tags 0 5 5 ≡ Some 2)
    × (listed_value repeated_tags 0 5 10 ≡ None)
    × (dynamic_value repeated_tags 0 5 10 ≡ Some 5)
    × (listed_value repeated_tags 0 5 0 ≡ Some 4)
    × (listed_value repeated_tags 64 1 10 ≡ Some 5)
    × (dynamic_value (tagged 0x100000005 7 ++ tagged 5 8) 0 2 5 ≡ Some 8)
    × (listed_value (zeros 16 ++ tagged 1 1 ++ tagged 5 7 ++ tagged 0 0) 16 3 5 ≡ Some 7)
    × (listed_value [] 0 0 5 ≡ None)
