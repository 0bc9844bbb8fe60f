-- Worked examples of the binding of names over two files, and of what a symbol references.
use Rattle.std.specs.Prelude.{ℕ, ◌≡◌, ◌+◌, ◌*◌, List, [], ◌∷◌, codes, Option, None, Some, Result, Ok, Err}
use Rattle.elf_model.specs.Prelude.{Binding, BoundTo, BoundToNone, NoVersion, StoppedIn, SymbolQuery, Version, VersionQuery, bound_in, definition_cost, definition_lookup, hostile_library, little, lookup_tables_of, reference_at, symbols_hashed, versioned_without_sections, with_bytes, without_sections, words}
use Rattle.elf_model.specs.declared.causes.Cause.TheVariants.{HashShape, NameOutside, VersionCut, VersionIndex}
use Rattle.elf_model.specs.declared.causes.Refusal.{Refusal}

-- a library that defines two versions of `f` and needs one of `puts`, and a hostile one
abbrev library : List ℕ
library = versioned_without_sections

abbrev hostile : List ℕ
hostile = without_sections hostile_library

-- its last symbol `f`, V2, without a value; and undefined with one
abbrev valueless : List ℕ
valueless = with_bytes 0x148 (little 8 0) library

abbrev undefined : List ℕ
undefined = with_bytes 0x146 (little 2 0) library

abbrev BindsTo : List ℕ → VersionQuery → List (List ℕ) → Binding → Type 0
BindsTo name asked files binding = bound_in 8 (record { name = name; asked = asked }) files ≡ binding

-- the first file defines it, no matter what the second has, and `f@V1` is another symbol there; if
-- the first does not, the second does: also if the first has it undefined, with an address for it
abbrev pub FirstDefines : Type 0
FirstDefines =
    BindsTo (codes "f") NoVersion (library ∷ hostile ∷ []) (BoundTo 0 4)
    × BindsTo (codes "f") (Version (codes "V1")) (library ∷ hostile ∷ []) (BoundTo 0 3)
    × BindsTo (codes "f") NoVersion (valueless ∷ library ∷ []) (BoundTo 1 4)
    × BindsTo (codes "f") NoVersion (undefined ∷ library ∷ []) (BoundTo 1 4)
    × BindsTo (codes "f") (Version (codes "V2")) (undefined ∷ undefined ∷ library ∷ library ∷ []) (BoundTo 2 4)

-- a name that none has, and a version that none has
abbrev pub NoneDefines : Type 0
NoneDefines =
    BindsTo (codes "puts") NoVersion (library ∷ library ∷ []) BoundToNone
    × BindsTo (codes "f") (Version (codes "V3")) (library ∷ library ∷ []) BoundToNone
    × BindsTo (codes "f") NoVersion [] BoundToNone

-- the library with a hash table that has no bucket
abbrev shapeless : List ℕ
shapeless = with_bytes 0xb0 (little 4 0) library

-- the lookup in a file is refused: at what describes the hash table, and at a version definition;
-- those after it are not searched
abbrev pub RefusalsStop : Type 0
RefusalsStop =
    BindsTo (codes "nope") NoVersion (library ∷ shapeless ∷ library ∷ []) (StoppedIn 1 (record { at = 0x250; cause = HashShape }))
    × BindsTo (codes "f") NoVersion (library ∷ shapeless ∷ []) (BoundTo 0 4)
    × BindsTo (codes "f") (Version (codes "V1")) (hostile ∷ library ∷ []) (StoppedIn 0 (record { at = 0x1e8; cause = VersionCut }))

-- what it reads: nothing if the filter excludes it, except the version records if one is requested
abbrev asks_for : List ℕ → VersionQuery → List ℕ → ℕ
asks_for name asked file =
    let wanted : SymbolQuery = record { name = name; asked = asked } in
    definition_cost wanted (definition_lookup file 8 wanted)

abbrev pub LookupsAsk : Type 0
LookupsAsk =
    (asks_for (codes "puts") NoVersion library ≡ 0)
    × (asks_for (codes "puts") (Version (codes "V1")) library ≡ 5 * (28 + 64))
    × (asks_for (codes "f") NoVersion library ≡ 2 * (4 + 26 + 64))

-- the reference of the symbol of an index, and how many symbols there are
abbrev SeeksAt : List ℕ → ℕ → Result (Option SymbolQuery) Refusal → Type 0
SeeksAt file index sought = elim (lookup_tables_of file 8) [ Ok scope ↦ reference_at file scope.symbols index ≡ sought | Err refusal ↦ ⊥ ]

abbrev puts : Option SymbolQuery
puts = Some (record { name = codes "puts"; asked = Version (codes "GLIBC_2.2.5") })

-- the first symbol is no reference, nor is one that is defined; one that is undefined references
-- its name, with the version of its index; without one for the index 1; a local one does not, and
-- neither does one without a name
abbrev pub SymbolsAsk : Type 0
SymbolsAsk =
    SeeksAt library 0 (Ok None) × SeeksAt library 1 (Ok puts) × SeeksAt library 2 (Ok None) × SeeksAt library 4 (Ok None)
    × SeeksAt (with_bytes 0x1a2 (little 2 1) library) 1 (Ok (Some (record { name = codes "puts"; asked = NoVersion })))
    × SeeksAt (with_bytes 0xfc (little 1 0x22) library) 1 (Ok puts)
    × SeeksAt (with_bytes 0xfc (little 1 0x02) library) 1 (Ok None)
    × SeeksAt (with_bytes 0xf8 (little 4 0) library) 1 (Ok None)

-- one whose name is empty is no reference, for any versym entry
abbrev pub EmptyNamesAskForNothing : Type 0
EmptyNamesAskForNothing =
    SeeksAt (with_bytes 0xf8 (little 4 5) library) 1 (Ok None)
    × SeeksAt (with_bytes 0xf8 (little 4 5) (with_bytes 0x1a2 (little 2 9) library)) 1 (Ok None)

-- a unique symbol is a reference, and one of another binding is not; the highest bit of the versym
-- entry is no part of the index; an index of a definition is a version too; a symbol that is
-- defined is no reference, for any name
abbrev pub OtherSymbolsAsk : Type 0
OtherSymbolsAsk =
    SeeksAt (with_bytes 0xfc (little 1 0xa2) library) 1 (Ok puts)
    × SeeksAt (with_bytes 0xfc (little 1 0x32) library) 1 (Ok None)
    × SeeksAt (with_bytes 0x1a2 (little 2 0x8004) library) 1 (Ok puts)
    × SeeksAt (with_bytes 0x1a2 (little 2 0x8001) library) 1 (Ok (Some (record { name = codes "puts"; asked = NoVersion })))
    × SeeksAt (with_bytes 0x1a2 (little 2 2) library) 1 (Ok (Some (record { name = codes "puts"; asked = Version (codes "V1") })))
    × SeeksAt (with_bytes 0x128 (little 4 0x30) library) 3 (Ok None)

-- a versym entry for two symbols, and for one: the second has none
abbrev pub WordsOfSymbolsEnd : Type 0
WordsOfSymbolsEnd =
    SeeksAt (with_bytes 0x298 (little 8 0x2ec) library) 1 (Ok (Some (record { name = codes "puts"; asked = NoVersion })))
    × SeeksAt (with_bytes 0x298 (little 8 0x2ee) library) 1 (Err (record { at = 0x290; cause = VersionCut }))

-- the name is refused before the version, and the name of a version at its record
abbrev pub SymbolsAreRefusedInOrder : Type 0
SymbolsAreRefusedInOrder =
    SeeksAt (with_bytes 0xf8 (little 4 0x30) (with_bytes 0x1a2 (little 2 9) library)) 1 (Err (record { at = 0xf8; cause = NameOutside }))
    × SeeksAt (with_bytes 0x228 (little 4 0x30) library) 1 (Err (record { at = 0x220; cause = NameOutside }))

-- the refusals of a symbol that is a reference: of its name, of an index that no record has, and of
-- the records before
abbrev pub SymbolsAreRefused : Type 0
SymbolsAreRefused =
    SeeksAt (with_bytes 0xf8 (little 4 0x30) library) 1 (Err (record { at = 0xf8; cause = NameOutside }))
    × SeeksAt (with_bytes 0x1a2 (little 2 9) library) 1 (Err (record { at = 0x1a2; cause = VersionIndex }))
    × SeeksAt hostile 1 (Err (record { at = 0x1e8; cause = VersionCut }))

abbrev CountIs : List ℕ → Result ℕ Refusal → Type 0
CountIs file count = elim (lookup_tables_of file 8) [ Ok scope ↦ symbols_hashed file scope ≡ count | Err refusal ↦ ⊥ ]

-- how many symbols a file has
abbrev pub SymbolsAreCounted : Type 0
SymbolsAreCounted = CountIs library (Ok 6)

-- the largest of the buckets' words leads to the last chain, in any position; a table without a
-- bucket is refused
abbrev pub HighestBucketsCount : Type 0
HighestBucketsCount =
    CountIs (with_bytes 0xc8 (words (3 ∷ 2 ∷ [])) library) (Ok 6)
    × CountIs shapeless (Err (record { at = 0x250; cause = HashShape }))
