-- Worked examples of lookups: longer hashes, tables with other counts, and what comes before a
-- walk.
use Rattle.std.specs.Prelude.{◌≡◌, ℕ, ◌+◌, List, ◌++◌, [], ◌∷◌, codes, flat_map, replicate, take}
use Rattle.elf_model.specs.Prelude.{find_answer, find_cost, hash_file, hash_with_cycle, little, looked, numbers_from, one_symbol_table, section_header, symbol, sysv_hash, with_bytes, with_hash_header, with_strings_header, with_symbols_header, words, zeros}
use Rattle.elf_model.specs.declared.causes.Cause.TheVariants.{BadClass, BadLink, EntrySize, HashCycle, HashIndex, HashShape, NoHash, NotStrings, Short, TableOutside, TooManyHeaders}
use Rattle.elf_model.specs.declared.formats.Format.TheVariants.{Columns}
use Rattle.elf_model.specs.Hash.{Refused}
use Rattle.elf_examples.specs.ExamplesHash.{hash_comes_last, FindsSymbol, FindsNothing, RefusesLookup, ComparesNames}

-- names whose hash has each of its top four bits set on the way, one whose hash has all lower bits
-- and none of these, and bytes above 127
abbrev pub LongerHashes : Type 0
LongerHashes =
    (sysv_hash (codes "_Unwind_Resume") ≡ 0x08d2aad5)
    × (sysv_hash (codes "jdfgsdhfsdfsd 6445dsfsd7fg/*/+bfjsdgf%$^") ≡ 248446350)
    × (sysv_hash (0xff ∷ 0xff ∷ []) ≡ 0x10ef)
    × (sysv_hash (replicate 7 0xff) ≡ 0xff)
    × (sysv_hash (replicate 8 0x80) ≡ 0x08888000)
    × (sysv_hash (replicate 7 0x0f) ≡ 0x0fffffff)

-- one bucket, whose chain goes from symbol 19 down to symbol 1 and ends; the words are at 0x1a8,
-- the symbols at 0x204, the first of which is `a` and all others are `b`
abbrev pub long_chain : List ℕ
long_chain =
    with_bytes 0x100 (little 8 0x1a8 ++ little 8 0x5c) (with_symbols_header 24 (little 8 0x204 ++ little 8 0x1e0))
    ++ words (1 ∷ 20 ∷ 19 ∷ 0 ∷ numbers_from 0 19)
    ++ symbol 0 0 0 0 0 ++ symbol 1 0x12 0xfff1 0x10 0 ++ flat_map (λ i. symbol 3 0x12 0xfff1 0x20 0) (numbers_from 0 18)

-- a chain is walked to its end, or for as many names as there are chains
abbrev pub LongChainsAreWalked : Type 0
LongChainsAreWalked =
    FindsSymbol long_chain (codes "a") 2 1 0x21c 19
    × FindsNothing long_chain (codes "c") 19
    × RefusesLookup (with_bytes 0x1b8 (little 4 19) long_chain) (codes "c") 0x1b0 HashCycle
    × ComparesNames (with_bytes 0x1b8 (little 4 19) long_chain) (codes "c") 20

-- four chains and three symbols: a word below only the chains is no index
abbrev pub MoreChainsThanSymbols : Type 0
MoreChainsThanSymbols =
    RefusesLookup (with_bytes 0x108 (little 8 28) (hash_file (1 ∷ 4 ∷ 3 ∷ 0 ∷ 2 ∷ 1 ∷ []))) (codes "a") 0x48 HashIndex
    × FindsSymbol (with_bytes 0x108 (little 8 28) (hash_file (1 ∷ 4 ∷ 2 ∷ 0 ∷ 2 ∷ 1 ∷ []))) (codes "b") 2 2 0x88 1

-- a cycle that starts in the second of two buckets, and has no word except the bucket's
abbrev pub CycleInTheSecondBucket : Type 0
CycleInTheSecondBucket =
    RefusesLookup (hash_file (2 ∷ 2 ∷ 0 ∷ 1 ∷ 0 ∷ 1 ∷ [])) (codes "c") 0x4c HashCycle
    × ComparesNames (hash_file (2 ∷ 2 ∷ 0 ∷ 1 ∷ 0 ∷ 1 ∷ [])) (codes "c") 2

-- the words of a hash table have four bytes: those of a bucket and of a chain, and both counts
abbrev pub WordsHaveFourBytes : Type 0
WordsHaveFourBytes =
    RefusesLookup (hash_file (1 ∷ 3 ∷ 0x01000001 ∷ 0 ∷ 2 ∷ 0 ∷ [])) (codes "a") 0x48 HashIndex
    × RefusesLookup (hash_file (1 ∷ 3 ∷ 1 ∷ 0 ∷ 0x01000002 ∷ 0 ∷ [])) (codes "b") 0x50 HashIndex
    × RefusesLookup (hash_file (0x01000001 ∷ 3 ∷ 1 ∷ 0 ∷ 2 ∷ 0 ∷ [])) (codes "a") 0xe8 HashShape
    × RefusesLookup (hash_file (1 ∷ 0x01000003 ∷ 1 ∷ 0 ∷ 2 ∷ 0 ∷ [])) (codes "a") 0xe8 HashShape

-- a table without chains: no word except 0 is an index
abbrev pub NoChains : Type 0
NoChains =
    FindsNothing (hash_file (1 ∷ 0 ∷ 0 ∷ 0 ∷ 0 ∷ 0 ∷ [])) (codes "a") 0
    × RefusesLookup (hash_file (1 ∷ 0 ∷ 1 ∷ 0 ∷ 0 ∷ 0 ∷ [])) (codes "a") 0x48 HashIndex
    × ComparesNames (hash_file (1 ∷ 0 ∷ 1 ∷ 0 ∷ 0 ∷ 0 ∷ [])) (codes "a") 0

-- a hash table of no bytes is within the file too
abbrev pub EmptyHashIsChecked : Type 0
EmptyHashIsChecked = RefusesLookup (with_hash_header 24 (little 8 0x1000 ++ zeros 8)) (codes "a") 0xe8 TableOutside

-- the file's length, the file header and then the load checks come before the hash table
abbrev pub LookupsCheckTheFile : Type 0
LookupsCheckTheFile =
    RefusesLookup [] (codes "a") 0 Short
    × RefusesLookup (take 63 hash_with_cycle) (codes "a") 63 Short
    × RefusesLookup (with_bytes 4 (little 1 1) hash_with_cycle) (codes "a") 4 BadClass
    × ((looked (with_bytes 4 (little 1 1) hash_with_cycle) 2 (codes "a")).answer ≡ Refused (record { at = 4; cause = BadClass }))
    × RefusesLookup (with_bytes 4 (little 1 1) (with_bytes 0x3e (little 2 4) hash_with_cycle)) (codes "a") 4 BadClass
    × ((looked hash_with_cycle 3 (codes "a")).answer ≡ Refused (record { at = 0x3c; cause = TooManyHeaders }))
    × RefusesLookup (with_bytes 0x3e (little 2 4) hash_with_cycle) (codes "a") 0x3e BadLink
    × RefusesLookup (with_bytes 0x3e (little 2 1) hash_with_cycle) (codes "a") 0xe8 NotStrings

-- after a refusal no name is compared
abbrev pub RefusalsCompareNothing : Type 0
RefusalsCompareNothing =
    ComparesNames (with_bytes 4 (little 1 1) hash_with_cycle) (codes "a") 0
    × ((looked hash_with_cycle 3 (codes "a")).compared ≡ 0)
    × ComparesNames (with_bytes 0x3e (little 2 1) hash_with_cycle) (codes "a") 0
    × ComparesNames (with_symbols_header 56 (little 8 25)) (codes "a") 0
    × ComparesNames (with_strings_header 24 (little 8 0x1000)) (codes "a") 0
    × ComparesNames (hash_file (1 ∷ 4 ∷ 1 ∷ 0 ∷ 2 ∷ 1 ∷ [])) (codes "a") 0
    × (find_cost (with_symbols_header 56 (little 8 25)) 4 (codes "a") ≡ 76 + 256)
    × (find_cost (hash_file (1 ∷ 4 ∷ 1 ∷ 0 ∷ 2 ∷ 1 ∷ [])) 4 (codes "a") ≡ 76 + 256)

-- the wanted name is written whole, and escaped as in a listing
abbrev pub WantedNameIsWritten : Type 0
WantedNameIsWritten =
    (find_answer Columns (with_strings_header 24 (little 8 0x1a8 ++ little 8 302) ++ (0 ∷ replicate 300 97 ++ zeros 1)) 4 (replicate 300 97)
    ≡ record {
      text =
          codes "Y     2          1 0000000000000010 0000000000000000 FUNC    GLOBAL DEFAULT   ABS   " ++ replicate 300 97
          ++ codes "\nF found           1\n";
      status = 0;
    })
    × (find_answer Columns (with_strings_header 24 (little 8 0x1a8 ++ little 8 6) ++ (0 ∷ codes "a\\b" ++ 7 ∷ zeros 1)) 4 (codes "a\\b" ++ 7 ∷ [])
    ≡ record {
      text =
          codes "Y     2          1 0000000000000010 0000000000000000 FUNC    GLOBAL DEFAULT   ABS   a\\\\b\\x07\n"
          ++ codes "F found           1\n";
      status = 0;
    })

-- a hash table of another kind, of type 0x6ffffff6, is none; nor is a section whose type has other
-- bits
abbrev pub OtherHashIsNone : Type 0
OtherHashIsNone =
    RefusesLookup (with_hash_header 4 (little 4 0x6ffffff6)) (codes "a") 0x28 NoHash
    × RefusesLookup (with_hash_header 4 (little 4 0x105)) (codes "a") 0x28 NoHash
    × RefusesLookup (with_hash_header 4 (little 4 0x10005)) (codes "a") 0x28 NoHash

-- a symbol that is not defined is found too, and a local one
abbrev pub UndefinedIsFound : Type 0
UndefinedIsFound =
    FindsSymbol (with_bytes 0x76 (zeros 2) hash_with_cycle) (codes "a") 2 1 0x70 1
    × FindsSymbol (with_bytes 0x74 (zeros 4) hash_with_cycle) (codes "a") 2 1 0x70 1

-- after the last section there is none
abbrev pub HashPastTheLastSection : Type 0
HashPastTheLastSection = RefusesLookup (one_symbol_table ++ section_header 5 0 0x40 0x18 1 0 0 4) (codes "main") 0x28 NoHash

-- the last section may be the hash table; what is refused of it is refused at its header
abbrev pub HashInTheLastSection : Type 0
HashInTheLastSection =
    FindsSymbol hash_comes_last (codes "b") 1 2 0x88 2
    × RefusesLookup (with_bytes 0x190 (little 4 0) hash_comes_last) (codes "a") 0x168 BadLink
    × RefusesLookup (with_bytes 0x40 (little 4 0) hash_comes_last) (codes "a") 0x168 HashShape
    × RefusesLookup (with_bytes 0x120 (little 8 25) hash_comes_last) (codes "a") 0xe8 EntrySize

-- three buckets: the whole hash is taken modulo their number, which is not a power of 2
abbrev pub ThreeBuckets : Type 0
ThreeBuckets =
    RefusesLookup (hash_file (3 ∷ 1 ∷ 9 ∷ 9 ∷ 9 ∷ 0 ∷ [])) (codes "a") 0x4c HashIndex
    × RefusesLookup (hash_file (3 ∷ 1 ∷ 9 ∷ 9 ∷ 9 ∷ 0 ∷ [])) (codes "b") 0x50 HashIndex
    × RefusesLookup (hash_file (3 ∷ 1 ∷ 9 ∷ 9 ∷ 9 ∷ 0 ∷ [])) (codes "c") 0x48 HashIndex
    × RefusesLookup (hash_file (3 ∷ 1 ∷ 9 ∷ 9 ∷ 9 ∷ 0 ∷ [])) (codes "printf") 0x50 HashIndex

-- a hash table's section with room for its counts and no more: its link comes before its counts
abbrev pub HashLinkBeforeCounts : Type 0
HashLinkBeforeCounts = RefusesLookup (with_hash_header 32 (little 8 8 ++ little 4 0)) (codes "a") 0xe8 BadLink

-- the size of an entry in a hash table's header is checked only in files of Alpha, and bytes may
-- follow its words
abbrev pub HashEntriesAreNotChecked : Type 0
HashEntriesAreNotChecked =
    FindsSymbol (with_hash_header 56 (little 8 8)) (codes "a") 2 1 0x70 1
    × FindsSymbol (with_hash_header 32 (little 8 25)) (codes "a") 2 1 0x70 1

-- in a file of Alpha a hash table with entries of 8 bytes is refused, after its range and before
-- its link; with entries of 4 bytes it is one like any other
abbrev pub WideWordsAreRefused : Type 0
WideWordsAreRefused =
    RefusesLookup (with_bytes 18 (little 2 0x9026) (with_hash_header 56 (little 8 8))) (codes "a") 0xe8 HashShape
    × ComparesNames (with_bytes 18 (little 2 0x9026) (with_hash_header 56 (little 8 8))) (codes "a") 0
    × (find_cost (with_bytes 18 (little 2 0x9026) (with_hash_header 56 (little 8 8))) 4 (codes "a") ≡ 76 + 256)
    × FindsSymbol (with_bytes 18 (little 2 0x9026) hash_with_cycle) (codes "a") 2 1 0x70 1
    × RefusesLookup (with_bytes 18 (little 2 0x9026) (with_hash_header 24 (little 8 0x1000 ++ little 8 0x18 ++ little 4 2 ++ zeros 12 ++ little 8 8))) (codes "a") 0xe8 TableOutside
    × RefusesLookup (with_bytes 18 (little 2 0x9026) (with_hash_header 40 (zeros 16 ++ little 8 8))) (codes "a") 0xe8 HashShape

-- the symbols are those of the linked table, also if an earlier section is one
abbrev pub LinkedSymbolsCount : Type 0
LinkedSymbolsCount = FindsSymbol (with_bytes 0xac (little 4 11) hash_with_cycle) (codes "a") 2 1 0x70 1
