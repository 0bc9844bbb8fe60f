-- Worked examples of the GNU hash function, and of lookups in tables that are alone.
use Rattle.std.specs.Prelude.{◌≡◌, ℕ, ◌==◌, if◌then◌else◌, Bool, List, [], ◌∷◌, ◌++◌, codes, replicate, None, Some, Result, Ok, Err}
use Rattle.elf_model.specs.Prelude.{HashTable, gnu_hash, gnu_looked_up, little, with_bytes, words, zeros}
use Rattle.elf_model.specs.declared.causes.Cause.TheVariants.{HashIndex, NameOutside}
use Rattle.elf_model.specs.declared.causes.Refusal.{Refusal}

-- the hashes of the empty name, `f`, `printf`, `exit`, `syscall`, and of names whose hash
-- overflowed 32 bits often, of bytes above 127 too
abbrev pub KnownGnuHashes : Type 0
KnownGnuHashes =
    (gnu_hash [] ≡ 0x00001505)
    × (gnu_hash (codes "f") ≡ 0x0002b60b)
    × (gnu_hash (codes "printf") ≡ 0x156b2bb8)
    × (gnu_hash (codes "exit") ≡ 0x7c967e3f)
    × (gnu_hash (codes "syscall") ≡ 0xbac212a0)
    × (gnu_hash (codes "_Unwind_Resume") ≡ 0xc1816be9)
    × (gnu_hash (0xff ∷ 0xff ∷ []) ≡ 0x00598c23)
    × (gnu_hash (replicate 8 0xff) ≡ 0xe3f2ee7d)
    × (gnu_hash (replicate 4 0x80) ≡ 0x7ca57185)

-- a table of three buckets at offset 8: it has the symbols from 5 on; its filter has two words, and
-- a shift of 9; the second bucket's chain begins at symbol 6, the third's at symbol 9, the first
-- has none
unfoldable pub gnu_table_of : List ℕ → List ℕ → List ℕ
gnu_table_of filter chains = zeros 8 ++ words (3 ∷ 5 ∷ 2 ∷ 9 ∷ []) ++ filter ++ words (0 ∷ 6 ∷ 9 ∷ []) ++ words chains

-- the table has this many bytes, and there are this many symbols
abbrev pub table_with : (size symbols : ℕ) → HashTable
table_with size symbols = record { place = 8; size = size; symbols = symbols }

-- the hash of `printf`, which is in the second bucket, and the first word of the filter, with bits
-- 56 and 21
abbrev pub its_hash : ℕ
its_hash = 0x156b2bb8

abbrev pub its_filter : List ℕ
its_filter = little 8 0x0100000000200000 ++ zeros 8

-- chain words from symbol 5 on: the hash at symbol 6, another at symbol 7, the hash again at symbol
-- 8, which is the last of the chain
abbrev pub its_chains : List ℕ
its_chains = 0 ∷ 0x156b2bb8 ∷ 0x156b2bbe ∷ 0x156b2bb9 ∷ 0x156b2bb9 ∷ []

-- the symbol of an index answers; symbol 7 cannot be tried
abbrev pub answers_at : ℕ → ℕ → Result Bool Refusal
answers_at index y = if y == 7 then Err (record { at = 700; cause = NameOutside }) else Ok (y == index)

-- a lookup of a hash finds the symbol of an index, after this many are tried and this many words
-- are read
abbrev pub GivesSymbol : List ℕ → (hash index tried read : ℕ) → Type 0
GivesSymbol file hash index tried read =
    gnu_looked_up file (table_with 80 14) hash (answers_at index) ≡ record { answer = Ok (Some index); tried = tried; read = read }

-- it finds none
abbrev pub GivesNone : List ℕ → (hash index tried read : ℕ) → Type 0
GivesNone file hash index tried read =
    gnu_looked_up file (table_with 80 14) hash (answers_at index) ≡ record { answer = Ok None; tried = tried; read = read }

-- it is refused at a word that leads nowhere
abbrev pub LeadsNowhere : List ℕ → HashTable → (at tried read : ℕ) → Type 0
LeadsNowhere file table at tried read =
    gnu_looked_up file table its_hash (answers_at 99)
    ≡ record { answer = Err (record { at = at; cause = HashIndex }); tried = tried; read = read }

-- only symbols of the hash are tried, and the words of the others read; the chain ends with the odd
-- word
abbrev pub ChainsAreWalked : Type 0
ChainsAreWalked =
    GivesSymbol (gnu_table_of its_filter its_chains) its_hash 6 1 1
    × GivesSymbol (gnu_table_of its_filter its_chains) its_hash 8 2 3
    × GivesNone (gnu_table_of its_filter its_chains) its_hash 9 2 3
    × GivesNone (gnu_table_of its_filter its_chains) its_hash 5 2 3

-- a symbol that cannot be tried is refused, if it has the hash
abbrev pub TrialsAreRefused : Type 0
TrialsAreRefused =
    gnu_looked_up (gnu_table_of its_filter (0 ∷ 0x156b2bb8 ∷ 0x156b2bb8 ∷ 0x156b2bb9 ∷ [])) (table_with 80 14) its_hash (answers_at 8)
    ≡ record { answer = Err (record { at = 700; cause = NameOutside }); tried = 2; read = 2 }

-- the filter's second word is for hashes with bit 6; each of two bits is needed; a bit of the other
-- word does not count
abbrev pub FilterWordsAlternate : Type 0
FilterWordsAlternate =
    GivesNone (gnu_table_of (zeros 8 ++ little 8 0x0100000000200000) its_chains) its_hash 6 0 0
    × GivesNone (gnu_table_of (little 8 0x0100000000000000 ++ zeros 8) its_chains) its_hash 6 0 0
    × GivesNone (gnu_table_of (little 8 0x0000000000200000 ++ zeros 8) its_chains) its_hash 6 0 0
    × GivesNone (gnu_table_of (little 8 0xfeffffffffffffff ++ replicate 8 0xff) its_chains) its_hash 6 0 0
    × GivesNone (gnu_table_of (little 8 0xffffffffffdfffff ++ replicate 8 0xff) its_chains) its_hash 6 0 0
    × GivesSymbol (gnu_table_of (zeros 8 ++ replicate 8 0xff) (0 ∷ 0x156b2bfa ∷ 1 ∷ [])) 0x156b2bfa 6 1 1
    × GivesNone (gnu_table_of (replicate 8 0xff ++ zeros 8) (0 ∷ 0x156b2bfa ∷ 1 ∷ [])) 0x156b2bfa 6 0 0

-- another bucket's chain, and one that has none
abbrev pub BucketsAreByTheHash : Type 0
BucketsAreByTheHash =
    GivesSymbol (gnu_table_of (replicate 16 0xff) (0 ∷ 1 ∷ 1 ∷ 1 ∷ 0x156b2bb9 ∷ [])) 0x156b2bb9 9 1 1
    × GivesNone (gnu_table_of (replicate 16 0xff) (0 ∷ 1 ∷ 1 ∷ 1 ∷ 0x156b2bb9 ∷ [])) 0x156b2bba 9 0 0

-- a bucket below the first symbol in the table, and one past the last symbol; chains that go on
-- past the last symbol, and past the end of the table
abbrev pub WordsLeadNowhere : Type 0
WordsLeadNowhere =
    LeadsNowhere (with_bytes 0x2c (little 4 4) (gnu_table_of its_filter its_chains)) (table_with 80 14) 0x2c 0 0
    × LeadsNowhere (with_bytes 0x2c (little 4 14) (gnu_table_of its_filter its_chains)) (table_with 80 14) 0x2c 0 0
    × LeadsNowhere (gnu_table_of its_filter (replicate 9 2)) (table_with 80 14) 0x54 0 8
    × LeadsNowhere (gnu_table_of its_filter (replicate 9 2)) (table_with 80 13) 0x50 0 7
    × LeadsNowhere (gnu_table_of its_filter (replicate 9 2)) (table_with 76 14) 0x50 0 7
    × LeadsNowhere (gnu_table_of its_filter (replicate 9 2)) (table_with 79 14) 0x50 0 7
    × LeadsNowhere (gnu_table_of its_filter (0 ∷ 0x156b2bb8 ∷ 2 ∷ 0x156b2bb8 ∷ [])) (table_with 60 14) 0x40 2 3
