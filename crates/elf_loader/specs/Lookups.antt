-- The result of a lookup, and what it requests.
use Rattle.std.specs.Prelude.{ℕ, ◌≡◌, ◌+◌, ◌*◌, ◌/◌, ◌≤◌, false, List, length, None, Some, option_map, Result, Ok, Err, IfSome}
use Rattle.elf_model.specs.Prelude.{Absent as IsAbsent, CompareResult, Found as IsFound, IsBudgetRefusal, LoaderLookup, LookupTables, SymbolQuery, VersionQuery, asked_name, e_machine, is_among, loader_ceiling, loader_cost, loader_looked, looked_by, lookup_asks, pad64, record_cost, refused_lookup, walk_in}
use Rattle.elf_model.specs.Hash.{Refused as IsRefused}
use Rattle.elf_record.specs.Sym.{IsSym}
use Rattle.elf_source.specs.Source.{CountedState}
use Rattle.elf_table.specs.Prelude.{CallDid, CallReads, fault_of_result}
use Rattle.elf_table.specs.declared.fault.Fault.{Fault}
use Rattle.elf_table.specs.declared.fault.Fault.TheVariants.{Refused, Source}
use Rattle.elf_hash.specs.Prelude.{IsLookupTables, LookupTablesInBounds}
use Rattle.elf_hash.specs.declared.lookup_tables.LookupTables.{LookupTables as ScopeCode}
use Rattle.elf_loader.specs.FoundVersions.{IsRelocationReported, version_found}
use Rattle.elf_loader.specs.Telling.{parsed_member_bytes}
use Rattle.elf_loader.specs.declared.lookup.SymbolLookup.{SymbolLookup}
use Rattle.elf_loader.specs.declared.lookup.SymbolLookup.TheVariants.{Found, Absent}

-- neither the name nor the version of a query has more than 4,096 bytes
abbrev pub AreShort : SymbolQuery → Type 0
AreShort wanted = (length wanted.name ≤ 4096) × IfSome (asked_name wanted.asked) (λ version. length version ≤ 4096)

-- a lookup may be made: the query is short enough, and the tables that it searches lie within the
-- source
pub record MayLookOn (src : CountedState) (scope : ScopeCode) (wanted : SymbolQuery) : Type 0 where
  pub short : AreShort wanted
  pub lies : LookupTablesInBounds src.seen.size scope

-- how many bytes a symbol that is tried requests
abbrev pub match_bytes : SymbolQuery → ℕ
match_bytes wanted = 26 + pad64 (length wanted.name + 1)

-- a few bytes and what is requested after them in a source of this size, for any bytes: a chain
-- word and a symbol for each word that fits, the version records, and the name of one
abbrev pub lookup_bytes : (few size : ℕ) → SymbolQuery → ℕ
lookup_bytes few size wanted = few + size / 4 * (4 + match_bytes wanted) + size / 8 * record_cost wanted.asked + parsed_member_bytes

-- a result is that of the lookup: the symbol that is found, with its version and the file's
-- machine, or that there is none; and how many symbols are tried. The name of a version is in these
-- bytes, and at the offset that the result has
abbrev pub AnswersLoaderLookup : List ℕ → VersionQuery → List ℕ → LoaderLookup → SymbolLookup → Type 0
AnswersLoaderLookup file asked told looked (Found found) =
    (at : ℕ)
    × (looked.lookup ≡ record { answer = IsFound found.section found.index at; compared = found.tried })
    × IsSym file at found.symbol
    × (looked.version ≡ option_map (version_found asked told) found.version)
    × (found.machine ≡ e_machine file)
    × IfSome found.version (λ version. IsRelocationReported file told version.name_at version.name)
AnswersLoaderLookup file asked told looked (Absent tried) = looked.lookup ≡ record { answer = IsAbsent; compared = tried }

-- the result of a lookup, or its refusal, unless that is `Budget`
abbrev pub ReturnsLookup : List ℕ → VersionQuery → List ℕ → LoaderLookup → Result SymbolLookup Fault → Type 0
ReturnsLookup file asked told looked (Ok lookup) = AnswersLoaderLookup file asked told looked lookup
ReturnsLookup file asked told looked (Err (Refused refusal)) = (IsBudgetRefusal refusal → ⊥) → looked.lookup.answer ≡ IsRefused refusal
ReturnsLookup file asked told looked (Err (Source fault at)) = Unit {0}

-- THE EFFECT OF THE REST OF A LOOKUP in a known file, if a number of bytes of what it reads were
-- requested before: it requests the others and a few, and its result is that of the lookup
pub record LooksAfter (file : List ℕ) (wanted : SymbolQuery) (few before : ℕ) (looked : LoaderLookup) (told : List ℕ) (old new : CountedState) (result : Result SymbolLookup Fault) : Type 0 where
  pub spent : ℕ
  pub costs : CallReads old new (fault_of_result result) spent
  pub within : before + spent ≤ few + lookup_asks wanted looked
  pub tells : ReturnsLookup file wanted.asked told looked result

-- the effect of a call that continues a lookup: it requests at most n bytes, and if the file is
-- known, and the tables that the lookup searches, it has the effect of the rest
abbrev pub LooksOn : CountedState → CountedState → ScopeCode → SymbolQuery → List ℕ → Result SymbolLookup Fault → (few n : ℕ) → (List ℕ → LookupTables → (ℕ → LoaderLookup → Type 0) → Type 0) → Type 0
LooksOn old new scope wanted told result few n KeepsSourceUnlimited =
    CallDid old new (fault_of_result result) n
    (λ file. (is : LookupTables) → IsLookupTables file is scope → KeepsSourceUnlimited file is (λ before looked. LooksAfter file wanted few before looked told old new result))

-- THE EFFECT OF A LOADER'S LOOKUP in a known file: it costs no more than the definition's, and its
-- result is that
pub record LooksUp (file : List ℕ) (headers : ℕ) (wanted : SymbolQuery) (told : List ℕ) (old new : CountedState) (result : Result SymbolLookup Fault) : Type 0 where
  pub costs : CallReads old new (fault_of_result result) (loader_cost file headers wanted)
  pub tells : ReturnsLookup file wanted.asked told (loader_looked file headers wanted) result

-- THE EFFECT OF A CALL that looks up as a loader does: it requests no more than its ceiling, and
-- has that effect in the file that is searched
abbrev pub LooksThrough : CountedState → CountedState → (List ℕ → List ℕ) → ℕ → SymbolQuery → List ℕ → Result SymbolLookup Fault → Type 0
LooksThrough old new looked_at headers wanted told result =
    CallDid old new (fault_of_result result) (loader_ceiling old.seen.size headers wanted) (λ file. LooksUp (looked_at file) headers wanted told old new result)

-- a lookup once the indices of the version are known, or why they are not
abbrev pub looked_with : List ℕ → LookupTables → SymbolQuery → CompareResult → LoaderLookup
looked_with file scope wanted compared = elim compared.refused [
  | Some refusal ↦ refused_lookup 0 0 compared.read false refusal
  | None ↦ looked_by file scope wanted.asked compared.read (walk_in file scope wanted (λ number. is_among number compared.numbers))
]
