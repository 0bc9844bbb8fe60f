-- The hash table (gABI 5, Hash Table): words of four bytes, nbucket, nchain, bucket[nbucket],
-- chain[nchain].
use Rattle.std.specs.Prelude.{ℕ, zero, suc, ◌+◌, ◌*◌, ◌/◌, ◌%◌, ◌&&◌, ◌<◌, ◌≡◌, ◌⊎◌, nat_lt, Bool, true, false, List, fold, bit_and, bit_xor, Option, None, Some, Result, Ok, Err}
use Rattle.elf_model.specs.Bytes.{field}
use Rattle.elf_model.specs.Names.{same}
use Rattle.elf_model.specs.Records.{sh_offset, sh_link, st_name}
use Rattle.elf_model.specs.Tables.{SYMBOL_SIZE, linked_at, strings_of, entry_count, entry_at}
use Rattle.elf_model.specs.declared.causes.Cause.{Cause}
use Rattle.elf_model.specs.declared.causes.Cause.TheVariants.{HashIndex, HashCycle}
use Rattle.elf_model.specs.declared.causes.Refusal.{Refusal}

-- one more byte in the hash: of the 32 bits the top four are folded in and cleared (gABI 5, Hashing
-- Function)
abbrev pub hash_byte : ℕ → ℕ → ℕ
hash_byte hash byte =
    let moved = 16 * hash + byte in
    bit_and (bit_xor moved (bit_and moved 0xf0000000 / 0x1000000)) 0x0fffffff

-- the hash of a name
unfoldable pub sysv_hash : List ℕ → ℕ
sysv_hash name = fold hash_byte 0 name

-- The table at an offset of the file: its counts, and the offsets of the words of a bucket and of a
-- chain.
abbrev pub sysv_nbucket : List ℕ → ℕ → ℕ
sysv_nbucket file place = field file place 4

abbrev pub sysv_nchain : List ℕ → ℕ → ℕ
sysv_nchain file place = field file (place + 4) 4

abbrev pub sysv_bucket_at : ℕ → ℕ → ℕ
sysv_bucket_at place i = place + (8 + 4 * i)

abbrev pub sysv_chain_at : List ℕ → ℕ → ℕ → ℕ
sysv_chain_at file place i = place + (8 + 4 * sysv_nbucket file place + 4 * i)

-- The same of the HASH section whose header is at an offset of the file.
abbrev pub nbucket : List ℕ → ℕ → ℕ
nbucket file at = sysv_nbucket file (sh_offset file at)

abbrev pub nchain : List ℕ → ℕ → ℕ
nchain file at = sysv_nchain file (sh_offset file at)

-- the offset of the word of a bucket
abbrev pub bucket_at : List ℕ → ℕ → ℕ → ℕ
bucket_at file at i = sysv_bucket_at (sh_offset file at) i

-- the offset of the word of a chain
abbrev pub chain_at : List ℕ → ℕ → ℕ → ℕ
chain_at file at i = sysv_chain_at file (sh_offset file at) i

-- how many symbols a symbol table has
abbrev pub symbol_count : List ℕ → ℕ → ℕ
symbol_count file table = entry_count file table SYMBOL_SIZE

-- the offset of a symbol of a symbol table
abbrev pub symbol_at : List ℕ → ℕ → ℕ → ℕ
symbol_at file table index = entry_at file table SYMBOL_SIZE index

-- the offset of the word of a name's bucket
unfoldable pub bucket_of : List ℕ → ℕ → List ℕ → ℕ
bucket_of file at wanted = bucket_at file at (sysv_hash wanted % nbucket file at)

-- the word that follows a symbol index in its chain
abbrev pub next_in_chain : List ℕ → ℕ → ℕ → ℕ
next_in_chain file at index = field file (chain_at file at index) 4

-- the words of a walk that goes from each word to the next
unfoldable pub walk_word : (ℕ → ℕ) → ℕ → ℕ → ℕ
walk_word next start zero = start
walk_word next start (suc i) = next (walk_word next start i)

-- the words of a lookup: the bucket's, and from each word the word of its chain
abbrev pub lookup_word : List ℕ → ℕ → List ℕ → ℕ → ℕ
lookup_word file at wanted i = walk_word (next_in_chain file at) (field file (bucket_of file at wanted) 4) i

-- the offset of a word of a lookup
unfoldable pub word_at : List ℕ → ℕ → List ℕ → ℕ → ℕ
word_at file at wanted zero = bucket_of file at wanted
word_at file at wanted (suc i) = chain_at file at (lookup_word file at wanted i)

-- why a lookup ends at a word: the chain ends (0); the word is no index of a chain and a symbol;
-- the symbol's name cannot be compared; it is the wanted one
pub data LookupEnd : Type 0 where
  ChainEnd : LookupEnd
  NoIndex : LookupEnd
  Nameless : Cause → LookupEnd
  Wanted : LookupEnd

-- why a lookup ends at a symbol whose name has been compared: not if the name differs
abbrev pub end_of_name : Result Bool Cause → Option LookupEnd
end_of_name (Err cause) = Some (Nameless cause)
end_of_name (Ok true) = Some Wanted
end_of_name (Ok false) = None

-- a symbol's name is compared with the wanted one
unfoldable pub same_symbol : List ℕ → ℕ → List ℕ → ℕ → Result Bool Cause
same_symbol file table wanted index = same (strings_of file table) (st_name file (symbol_at file table index)) wanted

-- a word is below the number of chains and below the number of symbols
abbrev pub is_index : List ℕ → ℕ → ℕ → Bool
is_index file at word = nat_lt word (nchain file at) && nat_lt word (symbol_count file (linked_at file at))

-- why a lookup ends at a word, if it does
unfoldable pub end_at_word : List ℕ → ℕ → List ℕ → ℕ → Option LookupEnd
end_at_word file at wanted zero = Some ChainEnd
end_at_word file at wanted (suc index) =
    elim (is_index file at (suc index)) [
      | true ↦ end_of_name (same_symbol file (linked_at file at) wanted (suc index))
      | false ↦ Some NoIndex
    ]

-- the outcome of a lookup: the symbol's section, its index there and its offset in the file; that
-- there is none; or a refusal
pub data Outcome : Type 0 where
  Found : ℕ → ℕ → ℕ → Outcome
  Absent : Outcome
  Refused : Refusal → Outcome

-- the result of a lookup: its outcome, and how many symbols' names it compares
pub record Lookup : Type 0 where
  pub answer : Outcome
  pub compared : ℕ

-- a lookup that is refused after this many names are compared
abbrev pub refused_after : ℕ → Refusal → Lookup
refused_after compared refusal = record { answer = Refused refusal; compared = compared }

-- the result of a lookup that ends at word number i
unfoldable pub lookup_at : List ℕ → ℕ → List ℕ → ℕ → LookupEnd → Lookup
lookup_at file at wanted i ChainEnd = record { answer = Absent; compared = i }
lookup_at file at wanted i NoIndex = refused_after i (record { at = word_at file at wanted i; cause = HashIndex })
lookup_at file at wanted i (Nameless cause) =
    let symbol = symbol_at file (linked_at file at) (lookup_word file at wanted i) in
    refused_after (suc i) (record { at = symbol; cause = cause })
lookup_at file at wanted i Wanted =
    let index = lookup_word file at wanted i in
    record { answer = Found (sh_link file at) index (symbol_at file (linked_at file at) index); compared = suc i }

-- the result of a lookup that never ends: it compares as many symbols' names as there are chains
abbrev pub cycle : List ℕ → ℕ → List ℕ → Lookup
cycle file at wanted = refused_after (nchain file at) (record { at = bucket_of file at wanted; cause = HashCycle })

-- i is the least number at whose word a walk ends
pub record IsFirst {E : Type 0} (ends : ℕ → Option E) (words : ℕ → ℕ) (i : ℕ) (end : E) : Type 0 where
  pub here : ends (words i) ≡ Some end
  pub none_before : (j : ℕ) → j < i → ends (words j) ≡ None

-- a walk ends at no word
abbrev pub IsEndless : {E : Type 0} → (ℕ → Option E) → (ℕ → ℕ) → Type 0
IsEndless ends words = (i : ℕ) → ends (words i) ≡ None

-- a lookup ends at word number `number`, which decides its result
pub record EndsWith (file : List ℕ) (at : ℕ) (wanted : List ℕ) (lookup : Lookup) : Type 0 where
  pub number : ℕ
  pub end : LookupEnd
  pub first : IsFirst (end_at_word file at wanted) (lookup_word file at wanted) number end
  pub gives : lookup ≡ lookup_at file at wanted number end

-- a lookup never ends
pub record NeverEnds (file : List ℕ) (at : ℕ) (wanted : List ℕ) (lookup : Lookup) : Type 0 where
  pub endless : IsEndless (end_at_word file at wanted) (lookup_word file at wanted)
  pub gives : lookup ≡ cycle file at wanted

-- the result of a lookup: by the first word at which it ends, or the cycle if there is none
abbrev pub IsLookup : List ℕ → ℕ → List ℕ → Lookup → Type 0
IsLookup file at wanted lookup = EndsWith file at wanted lookup ⊎ NeverEnds file at wanted lookup

-- The computation. By the laws `LookupAnswers` and `LookupIsOne` it gives the only lookup that
-- `IsLookup` describes.

-- the least number, from i on and among this many, at whose word a walk ends, and why
unfoldable pub end_among : {E : Type 0} → (ℕ → Option E) → (ℕ → ℕ) → ℕ → ℕ → ℕ → Option (ℕ × E)
end_among ends next word i zero = None
end_among ends next word i (suc n) =
    elim (ends word) [ Some end ↦ Some (i, end) | None ↦ end_among ends next (next word) (suc i) n ]

-- where a lookup ends, among this many words
unfoldable pub lookup_end : List ℕ → ℕ → List ℕ → ℕ → Option (ℕ × LookupEnd)
lookup_end file at wanted n =
    end_among (end_at_word file at wanted) (next_in_chain file at) (field file (bucket_of file at wanted) 4) 0 n

-- the result of a lookup by its end
abbrev pub lookup_by : List ℕ → ℕ → List ℕ → Option (ℕ × LookupEnd) → Lookup
lookup_by file at wanted None = cycle file at wanted
lookup_by file at wanted (Some found) = lookup_at file at wanted found.0 found.1

-- the result of a lookup: a walk that has not ended after one word more than there are chains never
-- ends
unfoldable pub looked_up : List ℕ → ℕ → List ℕ → Lookup
looked_up file at wanted = lookup_by file at wanted (lookup_end file at wanted (suc (nchain file at)))
