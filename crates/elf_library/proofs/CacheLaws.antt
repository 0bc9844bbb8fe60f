-- The header and the entries of a cache, by their bytes.
use Rattle.std.specs.List.{starts_with}
use Rattle.std.proofs.lemmas.List.{drop_all}
use Rattle.elf_model.specs.Bytes.{field, number, slice}
use Rattle.std.proofs.Common.{◌≡◌, ℕ, ◌+◌, ◌*◌, ◌%◌, ◌==◌, ◌<◌, ◌≤◌, ◌||◌, ◌⊎◌, nat_eq, Bool, true, List, length, get_or, drop, length-take, length-drop, None, Some, Option, IfSome, false, codes, inl, inr, refl, sym, ap, subst, ◌^◌, ◌∙◌, arith, rules}
use Rattle.std.proofs.lemmas.Bool.{cases_lt}
use Rattle.elf_record.proofs.FieldReads.{byte_read}
use Rattle.elf_library.specs.CacheReads.{CacheInBounds, IsShape, new_cache_in, old_cache_in}
use Rattle.elf_model.specs.LoaderCache.{LoaderCache, aligned_to_8, if_within}
use Rattle.elf_model.specs.Prelude.{after_old_cache, is_new_header, is_old_header, loader_cache}

-- THE LAW: bytes that begin with the magic are a header by their byte order
pub new-header-is : (bytes : List ℕ) → length bytes ≡ 48 → starts_with nat_eq bytes (codes "glibc-ld.so.cache1.1") ≡ true
    → is_new_header bytes ≡ (get_or bytes 28 0 == 0 || get_or bytes 28 0 % 4 == 2)
unfolding is_new_header
new-header-is bytes sized begins = rw (is_new_header, sized, begins, byte_read bytes 28 (omega (arith, sized))) refl

-- THE LAW: an entry ends within the entries
pub entry-within : (at size count i : ℕ) → i < count → (size ≡ 24) ⊎ (size ≡ 12) → at + size * i + size ≤ at + size * count
entry-within at size count i below (inl is) = rw (is) (omega (arith, below))
entry-within at size count i below (inr is) = rw (is) (omega (arith, below))

-- THE LAW: 12 bytes have no hwcap
pub no-hwcap : (bytes : List ℕ) → length bytes ≤ 16 → 0 ≡ field bytes 16 8
unfolding field number
no-hwcap bytes few = rw (drop_all 16 bytes few) refl

-- two numbers are equal, or their test is false
not-equal : (n m : ℕ) → (n ≡ m → ⊥) → (n == m) ≡ false
not-equal n m other = search rules

-- THE LAW: without the first of two tests
pub or-other : (n : ℕ) (x : Bool) → (n ≡ 0 → ⊥) → (n == 0 || x) ≡ x
or-other n x other = ap (λ (b : Bool). b || x) (not-equal n 0 other)

short-slice : (file : List ℕ) (at n : ℕ) → 0 < n → length file < at + n → length (slice file at n) < n
short-slice file at n some short = omega (arith, length-take n (drop at file), length-drop at file, short)

-- THE LAW: a file that is too short has no header there
pub no-new-header : (file : List ℕ) (at : ℕ) → length file < at + 48 → None ≡ new_cache_in file at
unfolding is_new_header
no-new-header file at short =
    let other = not-equal (length (slice file at 48)) 48 (λ e. omega (arith, e, short-slice file at 48 (omega arith) short)) in
    rw (new_cache_in, is_new_header, other) refl

pub no-old-header : (file : List ℕ) → length file < 16 → old_cache_in file ≡ None
unfolding is_old_header
no-old-header file short =
    let other = not-equal (length (slice file 0 16)) 16 (λ e. omega (arith, e, short-slice file 0 16 (omega arith) short)) in
    rw (old_cache_in, is_old_header, other) refl

-- THE LAW: bytes with the magic are an old header, and others none
pub old-header-is : (bytes : List ℕ) → length bytes ≡ 16 → starts_with nat_eq bytes (codes "ld.so-1.7.0") ≡ is_old_header bytes
unfolding is_old_header
old-header-is bytes sized = rw (is_old_header, sized) refl

-- THE LAW: bytes of an old header give its cache, and others none
pub old-none : (file bytes : List ℕ) → bytes ≡ slice file 0 16 → length bytes ≡ 16 → starts_with nat_eq bytes (codes "ld.so-1.7.0") ≡ false → old_cache_in file ≡ None
old-none file bytes is sized begins =
    let no : is_old_header (slice file 0 16) ≡ false = subst (λ (b : List ℕ). is_old_header b ≡ false) is (sym (old-header-is bytes sized) ∙ begins) in
    rw (old_cache_in, no) refl

pub old-some : (file bytes : List ℕ) (count strings : ℕ) → bytes ≡ slice file 0 16 → length bytes ≡ 16 → starts_with nat_eq bytes (codes "ld.so-1.7.0") ≡ true
    → count ≡ field bytes 12 4 → strings ≡ 16 + 12 * count → old_cache_in file ≡ Some (record { entries = 16; count = count; entry_size = 12; strings = strings })
old-some file bytes count strings is sized begins counts after =
    let yes : is_old_header (slice file 0 16) ≡ true = subst (λ (b : List ℕ). is_old_header b ≡ true) is (sym (old-header-is bytes sized) ∙ begins) in
    let same : field (slice file 0 16) 12 4 ≡ count = ap (λ (b : List ℕ). field b 12 4) (sym is) ∙ sym counts in
    rw (old_cache_in, yes, same, after) refl

-- a cache is within a size, or not
if-none : (size : ℕ) (cache : LoaderCache) → size < cache.entries + cache.entry_size * cache.count → if_within size cache ≡ None
if-none size cache over = grind arith

if-some : (size : ℕ) (cache : LoaderCache) → cache.entries + cache.entry_size * cache.count ≤ size → if_within size cache ≡ Some cache
if-some size cache within = grind arith

in-bounds : (size : ℕ) (cache : LoaderCache) → size < 2 ^ 64 → IsShape cache → cache.entries + cache.entry_size * cache.count ≤ size → CacheInBounds size cache
in-bounds size cache small shape within = record { entries = within; strings = omega (arith, shape.strings, within); small = small; sizes = shape.sizes }

-- THE LAW: one that is within a size is in bounds
pub bounds-within : (size : ℕ) (cache : LoaderCache) (found : Option LoaderCache) → size < 2 ^ 64 → IsShape cache → found ≡ if_within size cache → IfSome found (CacheInBounds size)
bounds-within size cache found small shape is = by (cases_lt size (cache.entries + cache.entry_size * cache.count))
  where
    by : (size < cache.entries + cache.entry_size * cache.count) ⊎ (cache.entries + cache.entry_size * cache.count ≤ size) → IfSome found (CacheInBounds size)
    by (inl over) = subst (λ (o : Option LoaderCache). IfSome o (CacheInBounds size)) (sym (is ∙ if-none size cache over)) tt
    by (inr within) = subst (λ (o : Option LoaderCache). IfSome o (CacheInBounds size)) (sym (is ∙ if-some size cache within)) (in-bounds size cache small shape within)

-- THE LAW: it is that cache
pub within-same : (size : ℕ) (cache found : LoaderCache) → if_within size cache ≡ Some found → cache ≡ found
within-same size cache found is = grind arith

-- THE CACHE OF A FILE, by its headers
pub loader-new : (file : List ℕ) (found : LoaderCache) → Some found ≡ new_cache_in file 0 → loader_cache file ≡ if_within (length file) found
unfolding loader_cache
loader-new file found is = grind arith

pub loader-none : (file : List ℕ) → None ≡ new_cache_in file 0 → None ≡ old_cache_in file → loader_cache file ≡ None
unfolding loader_cache
loader-none file other none = grind arith

pub loader-outside : (file : List ℕ) (old : LoaderCache) → None ≡ new_cache_in file 0 → Some old ≡ old_cache_in file → if_within (length file) old ≡ None → loader_cache file ≡ None
unfolding loader_cache
loader-outside file old other is out = grind arith

pub loader-after : (file : List ℕ) (old found newer : LoaderCache) → None ≡ new_cache_in file 0 → Some old ≡ old_cache_in file → if_within (length file) old ≡ Some found
    → Some newer ≡ new_cache_in file (aligned_to_8 found.strings) → loader_cache file ≡ if_within (length file) newer
unfolding loader_cache after_old_cache
loader-after file old found newer other is within after = grind arith

pub loader-old : (file : List ℕ) (old found : LoaderCache) → None ≡ new_cache_in file 0 → Some old ≡ old_cache_in file → if_within (length file) old ≡ Some found
    → None ≡ new_cache_in file (aligned_to_8 found.strings) → loader_cache file ≡ Some found
unfolding loader_cache after_old_cache
loader-old file old found other is within after = grind arith

-- a value that is none of the others
pub not-some : (found : Option LoaderCache) → ((cache : LoaderCache) → found ≡ Some cache → ⊥) → None ≡ found
not-some None other = refl
not-some (Some cache) other = absurd (other cache refl)
