-- The GNU hash table, which exists besides the one of the gABI: four words of four bytes, nbucket,
-- first, nbloom, shift; then bloom[nbloom], words of eight bytes; then bucket[nbucket] and a chain
-- word for each symbol from `first` on, words of four bytes. A chain is consecutive symbols,
-- starting at its bucket's.
use Rattle.std.specs.Prelude.{ℕ, zero, suc, ◌+◌, ◌-◌, ◌*◌, ◌/◌, ◌%◌, ◌^◌, ◌==◌, ◌&&◌, ◌||◌, ◌≡◌, ◌⊎◌, nat_lt, not, if◌then◌else◌, Bool, true, false, List, fold, Option, None, Some, Result, Ok}
use Rattle.elf_model.specs.Bytes.{field}
use Rattle.elf_model.specs.Chains.{HashTable, WalkEnd, NotThere, Untried, Answers, Last, end_of_match, ChainResult, nothing_tried, refused_walk}
use Rattle.elf_model.specs.Cost.{sum_over}
use Rattle.elf_model.specs.Hash.{IsFirst, end_among}
use Rattle.elf_model.specs.declared.causes.Cause.TheVariants.{HashIndex}
use Rattle.elf_model.specs.declared.causes.Refusal.{Refusal}

-- one more byte in the hash, which has 32 bits
abbrev pub gnu_hash_byte : ℕ → ℕ → ℕ
gnu_hash_byte hash byte = (33 * hash + byte) % 2 ^ 32

-- the hash of a name
unfoldable pub gnu_hash : List ℕ → ℕ
gnu_hash name = fold gnu_hash_byte 5381 name

-- The table at an offset of the file. Its four words:
abbrev pub gnu_nbucket : List ℕ → ℕ → ℕ
gnu_nbucket file place = field file place 4

-- the index of the first symbol in the table
abbrev pub gnu_first : List ℕ → ℕ → ℕ
gnu_first file place = field file (place + 4) 4

-- how many words the filter has
abbrev pub gnu_nbloom : List ℕ → ℕ → ℕ
gnu_nbloom file place = field file (place + 8) 4

abbrev pub gnu_shift : List ℕ → ℕ → ℕ
gnu_shift file place = field file (place + 12) 4

-- the offset of a word of the filter
abbrev bloom_at : ℕ → ℕ → ℕ
bloom_at place i = place + (16 + 8 * i)

-- the offset of the word of a bucket
abbrev pub gnu_bucket_at : List ℕ → ℕ → ℕ → ℕ
gnu_bucket_at file place i = place + (16 + 8 * gnu_nbloom file place + 4 * i)

-- how many bytes come before the chain words
abbrev pub before_chains : List ℕ → ℕ → ℕ
before_chains file place = 16 + 8 * gnu_nbloom file place + 4 * gnu_nbucket file place

-- whether a symbol's chain word begins in the table, and its offset in the file: it is meaningful
-- from `first` on
abbrev pub in_chains : List ℕ → ℕ → ℕ → ℕ
in_chains file place y = before_chains file place + 4 * (y - gnu_first file place)

abbrev pub gnu_chain_at : List ℕ → ℕ → ℕ → ℕ
gnu_chain_at file place y = place + in_chains file place y

abbrev pub chain_word : List ℕ → ℕ → ℕ → ℕ
chain_word file place y = field file (gnu_chain_at file place y) 4

-- the lowest bit of a chain word says that its symbol is the last of the chain
abbrev pub is_chain_end : ℕ → Bool
is_chain_end word = word % 2 == 1

-- the other bits are those of the hash of the symbol's name
abbrev pub hash_bits_match : ℕ → ℕ → Bool
hash_bits_match word hash = word / 2 == hash / 2

-- a bit of a word is set
abbrev pub is_set : ℕ → ℕ → Bool
is_set word bit = word / 2 ^ bit % 2 == 1

-- the word of the filter for a hash
abbrev filter_word : List ℕ → ℕ → ℕ → ℕ
filter_word file place hash = field file (bloom_at place (hash / 64 % gnu_nbloom file place)) 8

-- THE FILTER: two bits of that word are set for each hash in the table, by the hash and by its
-- upper bits
unfoldable pub filter_may_contain : List ℕ → ℕ → ℕ → Bool
filter_may_contain file place hash =
    let word = filter_word file place hash in
    is_set word (hash % 64) && is_set word (hash / 2 ^ gnu_shift file place % 64)

-- the offset of the word of a hash's bucket; the index of the first symbol of its chain, or 0 if it
-- has none
unfoldable pub gnu_bucket_of : List ℕ → ℕ → ℕ → ℕ
gnu_bucket_of file place hash = gnu_bucket_at file place (hash % gnu_nbucket file place)

abbrev pub gnu_start : List ℕ → ℕ → ℕ → ℕ
gnu_start file place hash = field file (gnu_bucket_of file place hash) 4

-- a table excludes a hash: by its filter, or by an empty bucket
abbrev pub holds_none : List ℕ → ℕ → ℕ → Bool
holds_none file place hash = not (filter_may_contain file place hash) || gnu_start file place hash == 0

-- a symbol index is one from `first` on and below the number of symbols, and its chain word lies
-- within the table
abbrev pub is_chained : List ℕ → HashTable → ℕ → Bool
is_chained file table y =
    not (nat_lt y (gnu_first file table.place))
    && nat_lt y table.symbols
    && not (nat_lt table.size (in_chains file table.place y + 4))

-- the symbols of a walk: they ascend one by one
abbrev pub gnu_symbol : List ℕ → ℕ → ℕ → ℕ → ℕ
gnu_symbol file place hash i = gnu_start file place hash + i

-- the offset of the word that leads to symbol number i of a walk: the bucket's, then each symbol's
-- chain word
unfoldable pub gnu_word_at : List ℕ → ℕ → ℕ → ℕ → ℕ
gnu_word_at file place hash zero = gnu_bucket_of file place hash
gnu_word_at file place hash (suc i) = gnu_chain_at file place (gnu_symbol file place hash i)

-- the end of the chain, if a chain word says so
abbrev pub end_of_chain : ℕ → Option WalkEnd
end_of_chain word = if is_chain_end word then Some Last else None

-- why a walk ends at a symbol index, if it does: a symbol whose chain word has the hash's bits is
-- tried
unfoldable pub gnu_end : List ℕ → HashTable → ℕ → (ℕ → Result Bool Refusal) → ℕ → Option WalkEnd
gnu_end file table hash trial y =
    let word = chain_word file table.place y in
    elim (is_chained file table y) [
      | false ↦ Some NotThere
      | true ↦ elim (hash_bits_match word hash) [
        | true ↦ end_of_match (trial y) (end_of_chain word)
        | false ↦ end_of_chain word
      ]
    ]

-- how many of the first symbols of a walk, up to this number, are tried
unfoldable pub gnu_tried : List ℕ → ℕ → ℕ → ℕ → ℕ
gnu_tried file place hash count =
    sum_over (λ y. if hash_bits_match (chain_word file place y) hash then 1 else 0) (gnu_start file place hash) count

-- the result of a walk that ends at symbol number i
unfoldable pub gnu_walked_at : List ℕ → ℕ → ℕ → ℕ → WalkEnd → ChainResult
gnu_walked_at file place hash i NotThere =
    refused_walk (gnu_tried file place hash i) i (record { at = gnu_word_at file place hash i; cause = HashIndex })
gnu_walked_at file place hash i (Untried refusal) = refused_walk (gnu_tried file place hash (suc i)) (suc i) refusal
gnu_walked_at file place hash i Answers =
    record { answer = Ok (Some (gnu_symbol file place hash i)); tried = gnu_tried file place hash (suc i); read = suc i }
gnu_walked_at file place hash i Last =
    record { answer = Ok None; tried = gnu_tried file place hash (suc i); read = suc i }

-- a table excludes the hash: no symbol is tried
pub record IsPassedOver (file : List ℕ) (table : HashTable) (hash : ℕ) (walked : ChainResult) : Type 0 where
  pub told : holds_none file table.place hash ≡ true
  pub gives : walked ≡ nothing_tried

-- otherwise the first symbol of the chain at which the walk ends decides its result
pub record EndsInChain (file : List ℕ) (table : HashTable) (hash : ℕ) (trial : ℕ → Result Bool Refusal) (walked : ChainResult) : Type 0 where
  pub told : holds_none file table.place hash ≡ false
  pub number : ℕ
  pub end : WalkEnd
  pub first : IsFirst (gnu_end file table hash trial) (gnu_symbol file table.place hash) number end
  pub gives : walked ≡ gnu_walked_at file table.place hash number end

-- THE RESULT OF A LOOKUP in a GNU hash table, for a hash and a trial
abbrev pub IsGnuLookup : List ℕ → HashTable → ℕ → (ℕ → Result Bool Refusal) → ChainResult → Type 0
IsGnuLookup file table hash trial walked = IsPassedOver file table hash walked ⊎ EndsInChain file table hash trial walked

-- The computation. By the laws `GnuLookupAnswers` and `GnuLookupIsOne` it gives the only lookup
-- that `IsGnuLookup` describes.

-- the result of a walk by its end; by the law it has one
abbrev pub gnu_walked_by : List ℕ → ℕ → ℕ → Option (ℕ × WalkEnd) → ChainResult
gnu_walked_by file place hash None = nothing_tried
gnu_walked_by file place hash (Some found) = gnu_walked_at file place hash found.0 found.1

-- where a walk ends: as its symbols ascend, it does so at one more than there are symbols, if not
-- before
unfoldable pub gnu_walk_end : List ℕ → HashTable → ℕ → (ℕ → Result Bool Refusal) → Option (ℕ × WalkEnd)
gnu_walk_end file table hash trial =
    end_among (gnu_end file table hash trial) (λ y. suc y) (gnu_start file table.place hash) 0 (suc table.symbols)

-- the result of a lookup
unfoldable pub gnu_looked_up : List ℕ → HashTable → ℕ → (ℕ → Result Bool Refusal) → ChainResult
gnu_looked_up file table hash trial =
    elim (holds_none file table.place hash) [
      | true ↦ nothing_tried
      | false ↦ gnu_walked_by file table.place hash (gnu_walk_end file table hash trial)
    ]
