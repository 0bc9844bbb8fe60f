-- The loader's cache: the paths of libraries by their names, as ldconfig writes them and a GNU
-- loader reads them (glibc, sysdeps/generic/dl-cache.h and elf/dl-cache.c).
use Rattle.std.specs.Cmp.Lexicographic.{slice_cmp}
use Rattle.std.specs.List.{starts_with}
use Rattle.std.specs.Ordering.{nat_cmp}
use Rattle.std.specs.Prelude.{ℕ, zero, suc, ◌+◌, ◌-◌, ◌*◌, ◌/◌, ◌%◌, ◌^◌, ◌==◌, ◌&&◌, ◌||◌, nat_eq, nat_lt, not, if◌then◌else◌, Bool, true, false, List, [], ◌∷◌, length, codes, Option, None, Some, option_map, unwrap_or}
use Rattle.std.specs.declared.cmp.Ordering.{Ordering}
use Rattle.std.specs.declared.cmp.Ordering.TheVariants.{Less, Equal, Greater}
use Rattle.elf_model.specs.Bytes.{field, slice}
use Rattle.elf_model.specs.Notes.{before_nul}

-- A CACHE IN A FILE: the offset of its entries, how many there are, how many bytes each has, and
-- the offset from which those of its texts count
pub record LoaderCache : Type 0 where
  pub entries : ℕ
  pub count : ℕ
  pub entry_size : ℕ
  pub strings : ℕ

-- The two shapes of a header: `struct cache_file_new`, which begins with its magic and version, and
-- `struct cache_file`, which glibc before 2.32 wrote. Their sizes, and those of their entries.
abbrev pub NEW_HEADER_SIZE : ℕ
NEW_HEADER_SIZE = 48

abbrev pub NEW_ENTRY_SIZE : ℕ
NEW_ENTRY_SIZE = 24

abbrev pub OLD_HEADER_SIZE : ℕ
OLD_HEADER_SIZE = 16

abbrev pub OLD_ENTRY_SIZE : ℕ
OLD_ENTRY_SIZE = 12

-- the byte order that a header's flags give is not given, or is little-endian
abbrev is_for_little_endian : ℕ → Bool
is_for_little_endian flags = flags == 0 || flags % 4 == 2

-- whether these bytes are a header
unfoldable pub is_new_header : List ℕ → Bool
is_new_header bytes =
    length bytes == NEW_HEADER_SIZE
    && (starts_with nat_eq bytes (codes "glibc-ld.so.cache1.1") && is_for_little_endian (field bytes 28 1))

unfoldable pub is_old_header : List ℕ → Bool
is_old_header bytes = length bytes == OLD_HEADER_SIZE && starts_with nat_eq bytes (codes "ld.so-1.7.0")

-- the cache that a header at an offset begins, and the one that the old header begins
abbrev pub new_cache : (at : ℕ) (header : List ℕ) → LoaderCache
new_cache at header =
    record { entries = at + NEW_HEADER_SIZE; count = field header 20 4; entry_size = NEW_ENTRY_SIZE; strings = at }

abbrev pub old_cache : (header : List ℕ) → LoaderCache
old_cache header =
    let count = field header 12 4 in
    record { entries = OLD_HEADER_SIZE; count = count; entry_size = OLD_ENTRY_SIZE; strings = OLD_HEADER_SIZE + OLD_ENTRY_SIZE * count }

-- a cache whose entries lie within this many bytes
abbrev pub if_within : ℕ → LoaderCache → Option LoaderCache
if_within size cache = if nat_lt size (cache.entries + cache.entry_size * cache.count) then None else Some cache

-- where a newer header may be after the entries of an old cache: at the next multiple of 8
abbrev pub aligned_to_8 : ℕ → ℕ
aligned_to_8 at = 8 * ((at + 7) / 8)

-- the cache in the place of an old one: the one whose header is after its entries, if there is one
unfoldable pub after_old_cache : List ℕ → LoaderCache → Option LoaderCache
after_old_cache file old =
    let at = aligned_to_8 old.strings in
    let header = slice file at NEW_HEADER_SIZE in
    elim (is_new_header header) [
      | true ↦ if_within (length file) (new_cache at header)
      | false ↦ Some old
    ]

-- THE CACHE OF A FILE, if it is one
unfoldable pub loader_cache : List ℕ → Option LoaderCache
loader_cache file =
    let header = slice file 0 NEW_HEADER_SIZE in
    let old_header = slice file 0 OLD_HEADER_SIZE in
    elim (is_new_header header) [
      | true ↦ if_within (length file) (new_cache 0 header)
      | false ↦ elim (is_old_header old_header) [
        | false ↦ None
        | true ↦ elim (if_within (length file) (old_cache old_header)) [
          | None ↦ None
          | Some old ↦ after_old_cache file old
        ]
      ]
    ]

-- THE FIELDS OF AN ENTRY (`struct file_entry_new`, and `struct file_entry`, which has the first
-- three): by its bytes. The others are 0
abbrev pub cache_entry_flags : List ℕ → ℕ
cache_entry_flags entry = field entry 0 4

abbrev pub cache_entry_key : List ℕ → ℕ
cache_entry_key entry = field entry 4 4

abbrev pub cache_entry_value : List ℕ → ℕ
cache_entry_value entry = field entry 8 4

abbrev pub cache_entry_hwcap : List ℕ → ℕ
cache_entry_hwcap entry = field entry 16 8

-- the bytes of an entry
abbrev pub cache_entry_at : LoaderCache → ℕ → ℕ
cache_entry_at cache i = cache.entries + cache.entry_size * i

abbrev pub cache_entry : List ℕ → LoaderCache → ℕ → List ℕ
cache_entry file cache i = slice file (cache_entry_at cache i) cache.entry_size

-- the flags of a library of the C library 6 for x86-64
abbrev pub FLAGS_X86_64_LIBC6 : ℕ
FLAGS_X86_64_LIBC6 = 0x303

-- A TEXT of at most 4,096 bytes at an offset: those before its NUL, or before the file's end. None
-- outside of the file
abbrev pub CACHE_TEXT_BYTES : ℕ
CACHE_TEXT_BYTES = 4096

unfoldable pub cache_text : List ℕ → LoaderCache → ℕ → Option (List ℕ)
cache_text file cache off =
    if nat_lt (cache.strings + off) (length file) then Some (before_nul (slice file (cache.strings + off) CACHE_TEXT_BYTES)) else None

-- THE ORDER OF NAMES (`_dl_cache_libcmp`), by the ranks of what they consist of: bytes are signed,
-- the end is the byte 0, and a run of digits, a 32-bit number that wraps, is above other bytes
abbrev pub is_digit : ℕ → Bool
is_digit b = not (nat_lt b 48) && nat_lt b 58

abbrev pub byte_rank : ℕ → ℕ
byte_rank b = (b + 128) % 256

abbrev pub number_rank : ℕ → ℕ
number_rank n = 256 + n

-- two such numbers compare by the sign of their difference, which wraps too
abbrev pub is_above : ℕ → ℕ → Bool
is_above a b = nat_lt ((a + 2 ^ 32 - b) % 2 ^ 32) (2 ^ 31)

unfoldable pub rank_order : ℕ → ℕ → Ordering
rank_order a b =
    if a == b then Equal
    else if nat_lt a 256 || nat_lt b 256 then nat_cmp a b
    else if is_above a b then Greater else Less

-- a run of digits and one more
abbrev pub with_digit : Option ℕ → ℕ → ℕ
with_digit run b = (10 * unwrap_or run 0 + (b - 48)) % 2 ^ 32

-- ranks after that of a run of digits, if there is one
abbrev pub after_run : Option ℕ → List ℕ → List ℕ
after_run None ranks = ranks
after_run (Some n) ranks = number_rank n ∷ ranks

-- the ranks of a name after a run of digits, if there is one
unfoldable pub name_ranks : (run : Option ℕ) → List ℕ → List ℕ
name_ranks run [] = after_run run (byte_rank 0 ∷ [])
name_ranks run (b ∷ name) = elim (is_digit b) [
  | true ↦ name_ranks (Some (with_digit run b)) name
  | false ↦ after_run run (byte_rank b ∷ name_ranks None name)
]

unfoldable pub cache_name_order : List ℕ → List ℕ → Ordering
cache_name_order a b = slice_cmp rank_order (name_ranks None a) (name_ranks None b)

-- how a name compares with the key of an entry; none if that is outside
unfoldable pub key_order : List ℕ → LoaderCache → List ℕ → ℕ → Option Ordering
key_order file cache name i = option_map (λ key. cache_name_order name key) (cache_text file cache (cache_entry_key (cache_entry file cache i)))

abbrev pub is_same_name : Option Ordering → Bool
is_same_name None = false
is_same_name (Some Less) = false
is_same_name (Some Equal) = true
is_same_name (Some Greater) = false

-- THE SEARCH (`search_cache`). The entries are in descending order, so a greater name is before an
-- entry: bisection from `low` to before `high` finds one with the name, and where it had come to
unfoldable pub bisected : (order : ℕ → Option Ordering) (steps low high : ℕ) → Option (ℕ × ℕ)
bisected order zero low high = None
bisected order (suc steps) low high =
    let middle = (low + high - 1) / 2 in
    elim (nat_lt low high) [
      | false ↦ None
      | true ↦ elim (order middle) [
        | None ↦ None
        | Some Less ↦ bisected order steps (suc middle) high
        | Some Equal ↦ Some (middle, high)
        | Some Greater ↦ bisected order steps low middle
      ]
    ]

-- fewer than 2^32 entries are bisected in this many steps
abbrev pub BISECTION_STEPS : ℕ
BISECTION_STEPS = 32

-- the first of the entries with the name, those before one of them
unfoldable pub first_same : (order : ℕ → Option Ordering) → ℕ → ℕ
first_same order zero = 0
first_same order (suc i) = elim (is_same_name (order i)) [
  | true ↦ first_same order i
  | false ↦ suc i
]

-- the path that an entry gives: one for this machine and for all its processors
unfoldable pub path_of_entry : List ℕ → LoaderCache → ℕ → Option (List ℕ)
path_of_entry file cache i =
    let entry = cache_entry file cache i in
    if cache_entry_flags entry == FLAGS_X86_64_LIBC6 && cache_entry_hwcap entry == 0 then cache_text file cache (cache_entry_value entry) else None

-- the first path that n entries from one on give, as long as they have the name
unfoldable pub first_path : List ℕ → LoaderCache → (order : ℕ → Option Ordering) (i n : ℕ) → Option (List ℕ)
first_path file cache order i zero = None
first_path file cache order i (suc n) = elim (is_same_name (order i)) [
  | false ↦ None
  | true ↦ elim (path_of_entry file cache i) [
    | Some path ↦ Some path
    | None ↦ first_path file cache order (suc i) n
  ]
]

-- THE PATH OF A NAME in a cache
unfoldable pub cached_path : List ℕ → LoaderCache → List ℕ → Option (List ℕ)
cached_path file cache name =
    let order = key_order file cache name in
    elim (bisected order BISECTION_STEPS 0 cache.count) [
      | None ↦ None
      | Some found ↦
          let first = first_same order found.0 in
          first_path file cache order first (found.1 - first)
    ]

-- in a file, if it is a cache
unfoldable pub path_in_cache : List ℕ → List ℕ → Option (List ℕ)
path_in_cache file name = elim (loader_cache file) [
  | None ↦ None
  | Some cache ↦ cached_path file cache name
]
