-- Worked examples of lookups.
use Rattle.std.specs.Prelude.{◌≡◌, ℕ, ◌++◌, List, [], ◌∷◌, codes}
use Rattle.elf_model.specs.Prelude.{Absent, Found, find_cost, hash_file, hash_with_cycle, hash_with_end, little, looked, one_symbol_table, section_header, sysv_hash, with_bytes, with_hash_header, with_strings_header, with_symbols_header, zeros}
use Rattle.elf_model.specs.declared.causes.Cause.TheVariants.{BadLink, EntrySize, HashCycle, HashIndex, HashShape, NameOutside, NameUnended, NoHash, NotStrings, SizeNotWhole, TableOutside}
use Rattle.elf_model.specs.declared.causes.Cause.{Cause}
use Rattle.elf_model.specs.Hash.{Refused}

-- the hashes of the empty name, `exit`, `printf` and `syscall`
abbrev pub KnownHashes : Type 0
KnownHashes =
    (sysv_hash [] ≡ 0)
    × (sysv_hash (codes "exit") ≡ 0x0006cf04)
    × (sysv_hash (codes "printf") ≡ 0x077905a6)
    × (sysv_hash (codes "syscall") ≡ 0x0b09985c)

-- a lookup with four headers allowed finds a symbol: its section, its index there, its offset in
-- the file, and how many names are compared
abbrev pub FindsSymbol : List ℕ → List ℕ → ℕ → ℕ → ℕ → ℕ → Type 0
FindsSymbol file wanted section index symbol compared =
    looked file 4 wanted ≡ record { answer = Found section index symbol; compared = compared }

-- it finds none
abbrev pub FindsNothing : List ℕ → List ℕ → ℕ → Type 0
FindsNothing file wanted compared = looked file 4 wanted ≡ record { answer = Absent; compared = compared }

-- it is refused
abbrev pub RefusesLookup : List ℕ → List ℕ → ℕ → Cause → Type 0
RefusesLookup file wanted at cause = (looked file 4 wanted).answer ≡ Refused (record { at = at; cause = cause })

-- it compares this many names
abbrev pub ComparesNames : List ℕ → List ℕ → ℕ → Type 0
ComparesNames file wanted compared = (looked file 4 wanted).compared ≡ compared

-- the symbols in section 1, their strings in section 2, the hash table in section 3, which is the
-- last
abbrev pub hash_comes_last : List ℕ
hash_comes_last =
    let headers = section_header 11 0 0x58 0x48 2 1 0 24 ++ section_header 3 0 0xa0 5 0 0 0 0 ++ section_header 5 0 0x40 0x18 1 0 0 4 in
    with_bytes 0xe8 headers hash_with_cycle

-- a name that is first in its chain
abbrev pub FirstIsFound : Type 0
FirstIsFound =
    FindsSymbol hash_with_cycle (codes "a") 2 1 0x70 1 × (find_cost hash_with_cycle 4 (codes "a") ≡ 424)

-- a name that is second, after as many steps as the table has no buckets for
abbrev pub SecondIsFound : Type 0
SecondIsFound = FindsSymbol hash_with_cycle (codes "b") 2 2 0x88 2

-- a name that is not there, in a chain with a cycle
abbrev pub CycleIsRefused : Type 0
CycleIsRefused =
    RefusesLookup hash_with_cycle (codes "c") 0x48 HashCycle
    × ComparesNames hash_with_cycle (codes "c") 3
    × (find_cost hash_with_cycle 4 (codes "c") ≡ 608)
    × RefusesLookup (hash_file (1 ∷ 3 ∷ 1 ∷ 0 ∷ 1 ∷ 1 ∷ [])) (codes "c") 0x48 HashCycle

-- a name that is not there, in a chain that ends, and in a bucket that is empty
abbrev pub EndIsAbsent : Type 0
EndIsAbsent =
    FindsNothing hash_with_end (codes "c") 2
    × FindsNothing (hash_file (1 ∷ 3 ∷ 0 ∷ 0 ∷ 2 ∷ 1 ∷ [])) (codes "a") 0

-- words that are no index, in a chain and in a bucket; a chain's word is at the symbol's index, at
-- any step
abbrev pub WrongWordIsRefused : Type 0
WrongWordIsRefused =
    RefusesLookup (hash_file (1 ∷ 3 ∷ 1 ∷ 0 ∷ 9 ∷ 0 ∷ [])) (codes "c") 0x50 HashIndex
    × ComparesNames (hash_file (1 ∷ 3 ∷ 1 ∷ 0 ∷ 9 ∷ 0 ∷ [])) (codes "c") 1
    × RefusesLookup (hash_file (1 ∷ 3 ∷ 3 ∷ 0 ∷ 2 ∷ 1 ∷ [])) (codes "c") 0x48 HashIndex
    × RefusesLookup (hash_file (1 ∷ 3 ∷ 2 ∷ 0 ∷ 1 ∷ 9 ∷ [])) (codes "c") 0x54 HashIndex
    × RefusesLookup (hash_file (1 ∷ 3 ∷ 2 ∷ 0 ∷ 9 ∷ 1 ∷ [])) (codes "c") 0x50 HashIndex
    × ComparesNames (hash_file (1 ∷ 3 ∷ 2 ∷ 0 ∷ 9 ∷ 1 ∷ [])) (codes "c") 2

-- counts that do not fit the section, also if four times a count fits modulo 2^32
abbrev pub WrongCountsAreRefused : Type 0
WrongCountsAreRefused =
    RefusesLookup (hash_file (0 ∷ 3 ∷ 1 ∷ 0 ∷ 2 ∷ 1 ∷ [])) (codes "c") 0xe8 HashShape
    × RefusesLookup (hash_file (0xffffffff ∷ 3 ∷ 1 ∷ 0 ∷ 2 ∷ 1 ∷ [])) (codes "c") 0xe8 HashShape
    × RefusesLookup (hash_file (0x40000001 ∷ 3 ∷ 1 ∷ 0 ∷ 2 ∷ 1 ∷ [])) (codes "c") 0xe8 HashShape
    × RefusesLookup (hash_file (1 ∷ 4 ∷ 1 ∷ 0 ∷ 2 ∷ 1 ∷ [])) (codes "c") 0xe8 HashShape
    × RefusesLookup (hash_file (1 ∷ 0x40000003 ∷ 1 ∷ 0 ∷ 2 ∷ 1 ∷ [])) (codes "c") 0xe8 HashShape
    × RefusesLookup (with_hash_header 32 (little 8 23)) (codes "a") 0xe8 HashShape
    × RefusesLookup (with_bytes 0x108 (little 8 23) (hash_file (2 ∷ 2 ∷ 0 ∷ 1 ∷ 0 ∷ 0 ∷ []))) (codes "a") 0xe8 HashShape

-- a file without a hash table
abbrev pub NoTableIsRefused : Type 0
NoTableIsRefused =
    RefusesLookup one_symbol_table (codes "main") 0x28 NoHash × (find_cost one_symbol_table 4 (codes "main") ≡ 268)

-- what the hash table's section is refused for, in this order: it ends past the file; it has no
-- room for its counts; its link
abbrev pub HashSectionInOrder : Type 0
HashSectionInOrder =
    RefusesLookup (with_hash_header 24 (little 8 0x1000 ++ little 8 7 ++ little 4 0)) (codes "a") 0xe8 TableOutside
    × RefusesLookup (with_hash_header 32 (little 8 7 ++ little 4 0)) (codes "a") 0xe8 HashShape
    × RefusesLookup (with_hash_header 40 (little 4 0)) (codes "a") 0xe8 BadLink
    × RefusesLookup (with_hash_header 40 (little 4 4)) (codes "a") 0xe8 BadLink
    × RefusesLookup (with_hash_header 40 (little 4 3)) (codes "a") 0xe8 BadLink

-- what the lookup is refused for after that: the symbol table, its strings, the counts
abbrev pub HashLinksInOrder : Type 0
HashLinksInOrder =
    RefusesLookup (with_bytes 0x150 (little 4 0) (with_symbols_header 56 (little 8 25))) (codes "a") 0x128 EntrySize
    × RefusesLookup (with_symbols_header 32 (little 8 0x49 ++ little 4 0)) (codes "a") 0x128 SizeNotWhole
    × RefusesLookup (with_symbols_header 32 (little 8 0x180 ++ little 4 0)) (codes "a") 0x128 TableOutside
    × RefusesLookup (with_bytes 0x40 (little 4 0) (with_symbols_header 40 (little 4 0))) (codes "a") 0x128 BadLink
    × RefusesLookup (with_bytes 0x40 (little 4 0) (with_strings_header 4 (little 4 1))) (codes "a") 0x168 NotStrings
    × RefusesLookup (with_bytes 0x40 (little 4 0) (with_strings_header 24 (little 8 0x1000))) (codes "a") 0x168 TableOutside

-- a symbol's name that cannot be compared, in the only bucket, and in either of two
abbrev pub NameFaultsAreRefused : Type 0
NameFaultsAreRefused =
    RefusesLookup (with_bytes 0x70 (little 4 5) hash_with_cycle) (codes "c") 0x70 NameOutside
    × RefusesLookup (with_bytes 0x70 (little 4 0x101) hash_with_cycle) (codes "a") 0x70 NameOutside
    × RefusesLookup (with_bytes 0x70 (little 4 0x10001) hash_with_cycle) (codes "a") 0x70 NameOutside
    × ComparesNames (with_bytes 0x70 (little 4 5) hash_with_cycle) (codes "c") 1
    × RefusesLookup (with_bytes 0xa4 (little 1 99) hash_with_cycle) (codes "bc") 0x88 NameUnended
    × ComparesNames (with_bytes 0xa4 (little 1 99) hash_with_cycle) (codes "bc") 2
    × RefusesLookup (with_bytes 0x70 (little 4 5) (hash_file (2 ∷ 2 ∷ 0 ∷ 1 ∷ 0 ∷ 0 ∷ []))) (codes "a") 0x70 NameOutside
    × RefusesLookup (with_bytes 0x70 (little 4 5) (hash_file (2 ∷ 2 ∷ 1 ∷ 0 ∷ 0 ∷ 0 ∷ []))) (codes "b") 0x70 NameOutside

-- under a symbol table of no bytes neither it nor its strings are checked, and no word except 0 is
-- an index
abbrev pub EmptySymbolTable : Type 0
EmptySymbolTable =
    RefusesLookup (with_symbols_header 24 (little 8 0x1000 ++ zeros 8 ++ zeros 4)) (codes "a") 0x48 HashIndex
    × FindsNothing (with_bytes 0x48 (zeros 4) (with_symbols_header 32 (zeros 12))) (codes "a") 0
    × ComparesNames (with_symbols_header 32 (zeros 12)) (codes "a") 0

-- section 0 counts as the first hash table; as the link of a hash table it does not
abbrev pub SectionZeroAsHash : Type 0
SectionZeroAsHash =
    RefusesLookup (with_bytes 0xac (little 4 5) hash_with_cycle) (codes "a") 0xa8 HashShape
    × RefusesLookup (with_bytes 0xac (little 4 11) (with_hash_header 40 (little 4 0))) (codes "a") 0xe8 BadLink

-- if the section headers are not read, only the file header is read
abbrev pub FindCostsAtLeast : Type 0
FindCostsAtLeast = (find_cost hash_with_cycle 3 (codes "a") ≡ 64) × (find_cost [] 3 (codes "a") ≡ 64)

-- two buckets: the chains are after both, and a word is below the number of chains
abbrev pub TwoBuckets : Type 0
TwoBuckets =
    FindsSymbol (hash_file (2 ∷ 2 ∷ 0 ∷ 1 ∷ 9 ∷ 0 ∷ [])) (codes "a") 2 1 0x70 1
    × FindsNothing (hash_file (2 ∷ 2 ∷ 0 ∷ 1 ∷ 9 ∷ 0 ∷ [])) (codes "b") 0
    × FindsNothing (hash_file (2 ∷ 2 ∷ 0 ∷ 1 ∷ 9 ∷ 0 ∷ [])) (codes "c") 1
    × RefusesLookup (hash_file (2 ∷ 2 ∷ 0 ∷ 1 ∷ 0 ∷ 9 ∷ [])) (codes "c") 0x54 HashIndex
    × RefusesLookup (hash_file (2 ∷ 2 ∷ 0 ∷ 2 ∷ 0 ∷ 0 ∷ [])) (codes "a") 0x4c HashIndex

-- a link past the sections, to bytes that would be the header of a symbol table
abbrev pub HashLinkPastSections : Type 0
HashLinkPastSections =
    RefusesLookup (with_hash_header 40 (little 4 4) ++ section_header 11 0 0x58 0x48 3 1 0 24) (codes "a") 0xe8 BadLink
