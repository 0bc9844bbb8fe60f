-- Laws of lookups in a GNU hash table: what is computed is the only lookup, which reads no more
-- words than the table has and tries no more symbols than there are.
use Rattle.std.specs.Prelude.{ℕ, ◌*◌, ◌<◌, ◌≤◌, ◌≡◌, Bool, true, false, None, Some, Result, Ok, List}
use Rattle.elf_model.specs.Chains.{HashTable, ChainResult}
use Rattle.elf_model.specs.GnuHash.{gnu_symbol, holds_none, is_chained, chain_word, is_chain_end, hash_bits_match, IsGnuLookup, gnu_looked_up}
use Rattle.elf_model.specs.declared.causes.Refusal.{Refusal}

-- what is computed is the result of a lookup
abbrev pub GnuLookupAnswers : Type 0
GnuLookupAnswers =
    (file : List ℕ) (table : HashTable) (hash : ℕ) (trial : ℕ → Result Bool Refusal)
    → IsGnuLookup file table hash trial (gnu_looked_up file table hash trial)

-- it has no other result
abbrev pub GnuLookupIsOne : Type 0
GnuLookupIsOne =
    (file : List ℕ) (table : HashTable) (hash : ℕ) (trial : ℕ → Result Bool Refusal) (first second : ChainResult)
    → IsGnuLookup file table hash trial first → IsGnuLookup file table hash trial second → first ≡ second

-- THE BOUND: it reads no more chain words than the table has bytes for, after its four words, and
-- no more than there are symbols; each symbol that it tries has such a word
pub record IsWithinTable (table : HashTable) (walked : ChainResult) : Type 0 where
  pub tried_are_read : walked.tried ≤ walked.read
  pub within_symbols : walked.read ≤ table.symbols
  pub within_bytes : 4 * walked.read ≤ table.size

abbrev pub GnuLookupIsBounded : Type 0
GnuLookupIsBounded =
    (file : List ℕ) (table : HashTable) (hash : ℕ) (trial : ℕ → Result Bool Refusal)
    → IsWithinTable table (gnu_looked_up file table hash trial)

-- a symbol that is found answers; it is in the table, and its chain word has the hash's bits
pub record IsFound (file : List ℕ) (table : HashTable) (hash : ℕ) (trial : ℕ → Result Bool Refusal) (y : ℕ) : Type 0 where
  pub chained : is_chained file table y ≡ true
  pub of_hash : hash_bits_match (chain_word file table.place y) hash ≡ true
  pub answers : trial y ≡ Ok true

abbrev pub GnuFoundAnswers : Type 0
GnuFoundAnswers =
    (file : List ℕ) (table : HashTable) (hash : ℕ) (trial : ℕ → Result Bool Refusal) (y : ℕ)
    → (gnu_looked_up file table hash trial).answer ≡ Ok (Some y)
    → IsFound file table hash trial y

-- a table has symbol y for a hash: the filter and the bucket lead to it, no symbol of the chain
-- before it is the last, and its chain word has the hash's bits
pub record IsHeld (file : List ℕ) (table : HashTable) (hash y : ℕ) : Type 0 where
  pub told : holds_none file table.place hash ≡ false
  pub number : ℕ
  pub in_chain : y ≡ gnu_symbol file table.place hash number
  pub goes_on : (i : ℕ) → i < number → is_chain_end (chain_word file table.place (gnu_symbol file table.place hash i)) ≡ false
  pub of_hash : hash_bits_match (chain_word file table.place y) hash ≡ true

-- if a table has each symbol that answers, and none is found, none answers
abbrev pub GnuAbsentMeansNone : Type 0
GnuAbsentMeansNone =
    (file : List ℕ) (table : HashTable) (hash : ℕ) (trial : ℕ → Result Bool Refusal)
    → ((y : ℕ) → trial y ≡ Ok true → IsHeld file table hash y)
    → (gnu_looked_up file table hash trial).answer ≡ Ok None
    → (y : ℕ) → trial y ≡ Ok true → ⊥

-- and the one that is found is the first of the chain that answers
abbrev pub GnuFoundIsFirst : Type 0
GnuFoundIsFirst =
    (file : List ℕ) (table : HashTable) (hash : ℕ) (trial : ℕ → Result Bool Refusal) (found y : ℕ)
    → (gnu_looked_up file table hash trial).answer ≡ Ok (Some found)
    → trial y ≡ Ok true → IsHeld file table hash y → found ≤ y
