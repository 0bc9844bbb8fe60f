-- The walk along a chain of a gABI hash table (5, Hash Table) for the first symbol that answers a
-- trial. If the trial is that a symbol has the wanted name, its result is that of a lookup of that
-- name, `Hash.looked_up`.
use Rattle.std.specs.Prelude.{ℕ, zero, suc, ◌%◌, ◌&&◌, ◌≡◌, ◌⊎◌, nat_lt, Bool, true, false, List, Option, None, Some, Result, Ok, Err}
use Rattle.elf_model.specs.Bytes.{field}
use Rattle.elf_model.specs.Chains.{HashTable, WalkEnd, NotThere, Untried, Answers, Last, end_of_match, ChainResult, refused_walk}
use Rattle.elf_model.specs.Hash.{sysv_nbucket, sysv_nchain, sysv_bucket_at, sysv_chain_at, symbol_count, symbol_at, same_symbol, walk_word, IsFirst, IsEndless, end_among, Outcome, Found, Absent, Refused, Lookup}
use Rattle.elf_model.specs.Records.{sh_offset, sh_size, sh_link}
use Rattle.elf_model.specs.Tables.{linked_at}
use Rattle.elf_model.specs.declared.causes.Cause.{Cause}
use Rattle.elf_model.specs.declared.causes.Cause.TheVariants.{HashIndex, HashCycle}
use Rattle.elf_model.specs.declared.causes.Refusal.{Refusal}

-- the offset of the word of a hash's bucket
unfoldable pub sysv_bucket_of : List ℕ → ℕ → ℕ → ℕ
sysv_bucket_of file place hash = sysv_bucket_at place (hash % sysv_nbucket file place)

-- the word that follows a symbol index in its chain
abbrev sysv_next : List ℕ → ℕ → ℕ → ℕ
sysv_next file place y = field file (sysv_chain_at file place y) 4

-- the words of a walk: the bucket's, and from each word the word of its chain
abbrev pub sysv_word : List ℕ → ℕ → ℕ → ℕ → ℕ
sysv_word file place hash i = walk_word (sysv_next file place) (field file (sysv_bucket_of file place hash) 4) i

-- the offset of a word of a walk
unfoldable pub sysv_word_at : List ℕ → ℕ → ℕ → ℕ → ℕ
sysv_word_at file place hash zero = sysv_bucket_of file place hash
sysv_word_at file place hash (suc i) = sysv_chain_at file place (sysv_word file place hash i)

-- a word is below the number of chains and below the number of symbols
abbrev pub is_sysv_index : List ℕ → HashTable → ℕ → Bool
is_sysv_index file table word = nat_lt word (sysv_nchain file table.place) && nat_lt word table.symbols

-- why a walk ends at a word, if it does: 0 ends the chain
unfoldable pub sysv_end : List ℕ → HashTable → (ℕ → Result Bool Refusal) → ℕ → Option WalkEnd
sysv_end file table trial zero = Some Last
sysv_end file table trial (suc y) =
    elim (is_sysv_index file table (suc y)) [ true ↦ end_of_match (trial (suc y)) None | false ↦ Some NotThere ]

-- the result of a walk that ends at word number i: it reads one chain word for each symbol that it
-- tries
unfoldable pub sysv_walked_at : List ℕ → ℕ → ℕ → ℕ → WalkEnd → ChainResult
sysv_walked_at file place hash i Last = record { answer = Ok None; tried = i; read = i }
sysv_walked_at file place hash i NotThere = refused_walk i i (record { at = sysv_word_at file place hash i; cause = HashIndex })
sysv_walked_at file place hash i (Untried refusal) = refused_walk (suc i) (suc i) refusal
sysv_walked_at file place hash i Answers =
    record { answer = Ok (Some (sysv_word file place hash i)); tried = suc i; read = suc i }

-- the result of a walk that never ends: it tries as many symbols as there are chains
abbrev pub sysv_cycle : List ℕ → ℕ → ℕ → ChainResult
sysv_cycle file place hash =
    let chains = sysv_nchain file place in
    refused_walk chains chains (record { at = sysv_bucket_of file place hash; cause = HashCycle })

-- a walk ends at word number `number`, which decides its result
pub record EndsAtWord (file : List ℕ) (table : HashTable) (hash : ℕ) (trial : ℕ → Result Bool Refusal) (walked : ChainResult) : Type 0 where
  pub number : ℕ
  pub end : WalkEnd
  pub first : IsFirst (sysv_end file table trial) (sysv_word file table.place hash) number end
  pub gives : walked ≡ sysv_walked_at file table.place hash number end

-- a walk never ends
pub record GoesRound (file : List ℕ) (table : HashTable) (hash : ℕ) (trial : ℕ → Result Bool Refusal) (walked : ChainResult) : Type 0 where
  pub endless : IsEndless (sysv_end file table trial) (sysv_word file table.place hash)
  pub gives : walked ≡ sysv_cycle file table.place hash

-- THE RESULT OF A WALK in a gABI hash table, for a hash and a trial
abbrev pub IsSysvWalk : List ℕ → HashTable → ℕ → (ℕ → Result Bool Refusal) → ChainResult → Type 0
IsSysvWalk file table hash trial walked = EndsAtWord file table hash trial walked ⊎ GoesRound file table hash trial walked

-- The computation. By the laws `SysvWalkAnswers` and `SysvWalkIsOne` it gives the only walk that
-- `IsSysvWalk` describes.

-- where a walk ends, among one word more than there are chains
unfoldable pub sysv_walk_end : List ℕ → HashTable → ℕ → (ℕ → Result Bool Refusal) → Option (ℕ × WalkEnd)
sysv_walk_end file table hash trial =
    end_among (sysv_end file table trial) (sysv_next file table.place) (field file (sysv_bucket_of file table.place hash) 4)
    0 (suc (sysv_nchain file table.place))

-- the result of a walk by its end: one that has not ended after one word more than there are chains
-- never ends
abbrev pub sysv_walked_by : List ℕ → ℕ → ℕ → Option (ℕ × WalkEnd) → ChainResult
sysv_walked_by file place hash None = sysv_cycle file place hash
sysv_walked_by file place hash (Some found) = sysv_walked_at file place hash found.0 found.1

-- the result of a walk
unfoldable pub sysv_walked : List ℕ → HashTable → ℕ → (ℕ → Result Bool Refusal) → ChainResult
sysv_walked file table hash trial = sysv_walked_by file table.place hash (sysv_walk_end file table hash trial)

-- THE LOOKUP OF A NAME as such a walk, in the HASH section whose header is at an offset: its table;
-- the trial whether a symbol has the wanted name, a fault of which is at the symbol; and the lookup
-- by a walk's result
abbrev pub section_table_of : List ℕ → ℕ → HashTable
section_table_of file at = record { place = sh_offset file at; size = sh_size file at; symbols = symbol_count file (linked_at file at) }

abbrev pub fault_at : ℕ → Result Bool Cause → Result Bool Refusal
fault_at at (Ok answer) = Ok answer
fault_at at (Err cause) = Err (record { at = at; cause = cause })

abbrev pub has_name : List ℕ → ℕ → List ℕ → ℕ → Result Bool Refusal
has_name file table wanted y = fault_at (symbol_at file table y) (same_symbol file table wanted y)

abbrev pub lookup_answer : List ℕ → ℕ → Result (Option ℕ) Refusal → Outcome
lookup_answer file at (Ok (Some y)) = Found (sh_link file at) y (symbol_at file (linked_at file at) y)
lookup_answer file at (Ok None) = Absent
lookup_answer file at (Err refusal) = Refused refusal

abbrev pub parse_lookup : List ℕ → ℕ → ChainResult → Lookup
parse_lookup file at walked = record { answer = lookup_answer file at walked.answer; compared = walked.tried }
