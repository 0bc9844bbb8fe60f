-- Laws of walks for a symbol that answers in a gABI hash table.
use Rattle.std.specs.Prelude.{ℕ, ◌≤◌, ◌≡◌, Bool, true, Some, Result, Ok, List}
use Rattle.elf_model.specs.Chains.{HashTable, ChainResult}
use Rattle.elf_model.specs.Hash.{sysv_hash, sysv_nchain, looked_up}
use Rattle.elf_model.specs.SysvWalk.{IsSysvWalk, sysv_walked, section_table_of, has_name, parse_lookup}
use Rattle.elf_model.specs.Tables.{linked_at}
use Rattle.elf_model.specs.declared.causes.Refusal.{Refusal}

-- what is computed is the result of a walk
abbrev pub SysvWalkAnswers : Type 0
SysvWalkAnswers =
    (file : List ℕ) (table : HashTable) (hash : ℕ) (trial : ℕ → Result Bool Refusal)
    → IsSysvWalk file table hash trial (sysv_walked file table hash trial)

-- it has no other result
abbrev pub SysvWalkIsOne : Type 0
SysvWalkIsOne =
    (file : List ℕ) (table : HashTable) (hash : ℕ) (trial : ℕ → Result Bool Refusal) (first second : ChainResult)
    → IsSysvWalk file table hash trial first → IsSysvWalk file table hash trial second → first ≡ second

-- it reads one chain word for each symbol that it tries, and tries no more symbols than there are
-- chains
abbrev pub SysvWalkIsBounded : Type 0
SysvWalkIsBounded =
    (file : List ℕ) (table : HashTable) (hash : ℕ) (trial : ℕ → Result Bool Refusal)
    → ((sysv_walked file table hash trial).read ≡ (sysv_walked file table hash trial).tried)
    × ((sysv_walked file table hash trial).tried ≤ sysv_nchain file table.place)

-- a symbol that is found answers
abbrev pub SysvFoundAnswers : Type 0
SysvFoundAnswers =
    (file : List ℕ) (table : HashTable) (hash : ℕ) (trial : ℕ → Result Bool Refusal) (y : ℕ)
    → (sysv_walked file table hash trial).answer ≡ Ok (Some y)
    → trial y ≡ Ok true

-- the lookup of a name in a HASH section is the walk for a symbol that has it
abbrev pub SysvWalkIsLookup : Type 0
SysvWalkIsLookup =
    (file : List ℕ) (at : ℕ) (wanted : List ℕ)
    → parse_lookup file at (sysv_walked file (section_table_of file at) (sysv_hash wanted) (has_name file (linked_at file at) wanted))
    ≡ looked_up file at wanted
