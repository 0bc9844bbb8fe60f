-- Worked examples of searches for a library's path in a loader's cache: of each shape, and damaged.
use Rattle.std.specs.Prelude.{ℕ, ◌≡◌, List, [], ◌∷◌, ◌++◌, codes, Option, None, Some}
use Rattle.std.specs.declared.cmp.Ordering.TheVariants.{Less, Equal, Greater}
use Rattle.elf_model.specs.Prelude.{cache_name_order, little, path_in_cache, with_bytes, zeros}

-- the bytes of an entry of the newer shape, and of the older
abbrev new_entry : (flags key value hwcap : ℕ) → List ℕ
new_entry flags key value hwcap = little 4 flags ++ little 4 key ++ little 4 value ++ little 4 0 ++ little 8 hwcap

abbrev old_entry : (flags key value : ℕ) → List ℕ
old_entry flags key value = little 4 flags ++ little 4 key ++ little 4 value

-- 46 bytes of texts: names at 0, 10 and 21, and paths at 31, 36 and 41
abbrev texts : List ℕ
texts =
    codes "libz.so.1" ++ 0 ∷ codes "libx.so.01" ++ 0 ∷ codes "libx.so.1" ++ 0 ∷ codes "/z.1" ++ 0 ∷ codes "/y.1" ++ 0 ∷ codes "/x.1" ++ 0 ∷ []

-- a header of the newer shape: how many entries, and the flags of its byte order
abbrev new_header : (count flags : ℕ) → List ℕ
new_header count flags = codes "glibc-ld.so.cache1.1" ++ little 4 count ++ little 4 46 ++ little 1 flags ++ zeros 19

-- 166 bytes: three entries, of which the second is for processors with a feature
unfoldable pub new_shape : List ℕ
new_shape = new_header 3 2 ++ new_entry 0x303 120 151 0 ++ new_entry 0x303 130 156 1 ++ new_entry 0x303 141 161 0 ++ texts

-- 98 bytes: the same entries, the second for another machine
unfoldable pub old_shape : List ℕ
old_shape =
    codes "ld.so-1.7.0" ++ 0 ∷ little 4 3 ++ old_entry 0x303 0 31 ++ old_entry 0x403 10 36 ++ old_entry 0x303 21 41 ++ texts

-- 222 bytes: an old cache of three entries that are not read, and at 56, the next multiple of 8, a
-- newer one
unfoldable pub both_shapes : List ℕ
both_shapes =
    codes "ld.so-1.7.0" ++ 0 ∷ little 4 3 ++ old_entry 0x303 0 0 ++ old_entry 0x303 0 0 ++ old_entry 0x303 0 0 ++ zeros 4 ++ new_shape

-- names in the caches of these shapes, and one that is not there
abbrev FindsItsNames : List ℕ → Type 0
FindsItsNames cache =
    (path_in_cache cache (codes "libz.so.1") ≡ Some (codes "/z.1"))
    × (path_in_cache cache (codes "libx.so.1") ≡ Some (codes "/x.1"))
    × (path_in_cache cache (codes "libx.so.01") ≡ Some (codes "/x.1"))
    × (path_in_cache cache (codes "libx.so.2") ≡ None)

abbrev pub EachShapeIsSearched : Type 0
EachShapeIsSearched = FindsItsNames new_shape × FindsItsNames old_shape × FindsItsNames both_shapes

-- digits are 32-bit numbers, whose difference wraps, above other bytes; those are signed, and the
-- end is among them
abbrev pub NamesAreOrdered : Type 0
NamesAreOrdered =
    (cache_name_order (codes "libx.so.01") (codes "libx.so.1") ≡ Equal)
    × (cache_name_order (codes "libx.so.10") (codes "libx.so.9") ≡ Greater)
    × (cache_name_order (codes "libx.so.4294967297") (codes "libx.so.1") ≡ Equal)
    × (cache_name_order (codes "libx.so.2147483648") (codes "libx.so.0") ≡ Less)
    × (cache_name_order (codes "libx.so.2147483648") (codes "libx.so.1") ≡ Greater)
    × (cache_name_order (codes "lib1") (codes "liba") ≡ Greater)
    × (cache_name_order (codes "lib1") (codes "lib") ≡ Greater)
    × (cache_name_order (codes "liba") (codes "lib") ≡ Greater)
    × (cache_name_order (200 ∷ []) [] ≡ Less)
    × (cache_name_order (200 ∷ []) (127 ∷ []) ≡ Less)

-- of a damaged cache: the paths of `libz.so.1` and of `libx.so.1`
abbrev IsFound : List ℕ → Option (List ℕ) → Option (List ℕ) → Type 0
IsFound cache first last =
    (path_in_cache cache (codes "libz.so.1") ≡ first) × (path_in_cache cache (codes "libx.so.1") ≡ last)

abbrev z1 : Option (List ℕ)
z1 = Some (codes "/z.1")

abbrev x1 : Option (List ℕ)
x1 = Some (codes "/x.1")

-- another magic, byte order or number of entries: no cache. A key outside of the file ends the
-- search, and an entry whose value is outside is skipped; a string may end at the end of the file.
-- If entries are not sorted, some are not found
abbrev pub DamagedCachesAreSearched : Type 0
DamagedCachesAreSearched =
    IsFound (with_bytes 0 (little 1 0) new_shape) None None
    × IsFound (with_bytes 28 (little 1 0) new_shape) z1 x1
    × IsFound (with_bytes 28 (little 1 3) new_shape) None None
    × IsFound (with_bytes 20 (little 4 5) new_shape) None None
    × IsFound (with_bytes 20 (little 4 0) new_shape) None None
    × IsFound (with_bytes 52 (little 4 166) new_shape) None x1
    × IsFound (with_bytes 76 (little 4 166) new_shape) None None
    × IsFound (with_bytes 104 (little 4 166) new_shape) z1 None
    × IsFound (with_bytes 96 (little 4 0x803) new_shape) z1 None
    × IsFound (with_bytes 165 (codes "5") new_shape) z1 (Some (codes "/x.15"))
    × IsFound (with_bytes 52 (little 4 141) (with_bytes 100 (little 4 120) new_shape)) None z1
    × IsFound (with_bytes 0 (little 1 0) old_shape) None None
    × IsFound (with_bytes 12 (little 4 7) old_shape) None None
    × IsFound (with_bytes 84 (little 1 3) both_shapes) None None
