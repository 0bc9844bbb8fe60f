-- A shared library to load, of 880 bytes, by its fields, and what a process has for it.
use Rattle.std.specs.Prelude.{ℕ, List, [], ◌∷◌, ◌++◌, codes, None, false, flat_map}
use Rattle.elf_model.specs.Bytes.{little}
use Rattle.elf_model.specs.Fixtures.{symbol, with_bytes, zeros}
use Rattle.elf_model.specs.FixturesApply.{relocation}
use Rattle.elf_model.specs.FixturesHash.{words}
use Rattle.elf_model.specs.FixturesSegments.{object}
use Rattle.elf_model.specs.FixturesTables.{numbers_from, program_header, tagged}
use Rattle.elf_model.specs.ImageItems.{ItemValues}

-- words of eight bytes
unfoldable pub long_words : List ℕ → List ℕ
long_words numbers = flat_map (λ n. little 8 n) numbers

-- two LOAD segments: one that is read, of 0x200 bytes, and one that is written, with 0x170 bytes at
-- 0x1200 and 0x20 zeros after them; and the dynamic entries in the second
unfoldable pub loaded_segments : List ℕ
loaded_segments =
    program_header 1 4 0 0 0x200 0x1000
    ++ with_bytes 0x28 (little 8 0x190) (program_header 1 6 0x200 0x1200 0x170 0x1000)
    ++ program_header 2 6 0x280 0x1280 0xf0 8

-- at 0xe8 symbol 0, `f` and `w`, which are undefined, the latter weak, and `d`; their strings at
-- 0x148
unfoldable pub loaded_symbols : List ℕ
loaded_symbols =
    symbol 0 0 0 0 0 ++ symbol 1 0x12 0 0 0 ++ symbol 3 0x20 0 0 0 ++ symbol 5 0x11 5 0x1210 8
    ++ zeros 1 ++ codes "f" ++ zeros 1 ++ codes "w" ++ zeros 1 ++ codes "d" ++ zeros 2

-- at 0x150 an address and a bitmap; at 0x160 entries of the types RELATIVE, IRELATIVE and 64; at
-- 0x1a8 those of the type JUMP_SLOT
unfoldable pub loaded_relocations : List ℕ
loaded_relocations =
    long_words (0x1200 ∷ 5 ∷ [])
    ++ relocation 0x1218 8 0x1200 ++ relocation 0x1220 37 0x100 ++ relocation 0x1224 0x300000001 4
    ++ relocation 0x1230 0x100000007 0 ++ relocation 0x1238 0x200000007 0

-- at 0x280 the dynamic entries
unfoldable pub loaded_dynamic : List ℕ
loaded_dynamic =
    tagged 6 0xe8 ++ tagged 5 0x148 ++ tagged 10 7 ++ tagged 4 0x1d8 ++ tagged 36 0x150 ++ tagged 35 16 ++ tagged 37 8
    ++ tagged 7 0x160 ++ tagged 8 72 ++ tagged 9 24 ++ tagged 0x6ffffff9 1 ++ tagged 23 0x1a8 ++ tagged 2 48 ++ tagged 20 7
    ++ tagged 0 0

-- the library: a gABI hash table at 0x1d8, and at 0x200 sixteen words, 0x10 to 0x1f
unfoldable pub loaded_library : List ℕ
loaded_library =
    with_bytes 0x34 (little 2 0x40) (with_bytes 0x14 (little 4 1) (object 3 (loaded_segments
    ++ loaded_symbols
    ++ loaded_relocations
    ++ words (1 ∷ 4 ∷ 3 ∷ 0 ∷ 0 ∷ 1 ∷ 2 ∷ []) ++ zeros 12
    ++ long_words (numbers_from 0x10 16)
    ++ loaded_dynamic)))

-- a load address and the address of `f`, and what the resolver at 0x100 returns
unfoldable pub items_at_base : ItemValues
items_at_base = record {
  base = 0x7f0000000000;
  symbols = (1, 0x4010) ∷ [];
  calls = [];
  modules = [];
  blocks = [];
  threads = [];
  resolved = (0x100, 0x5555) ∷ [];
  copies = [];
  descriptor = None;
  partial = false;
}
