-- The result of a lookup, and what it requests.
use Rattle.std.specs.Prelude.{ℕ, ◌≡◌, ◌+◌, ◌*◌, ◌/◌, List, None, Some, Result, Ok, Err}
use Rattle.elf_model.specs.Prelude.{Absent as IsAbsent, Found as IsFound, IsBudgetRefusal, Lookup as Looked, find_cost, first_hash, looked, looked_in, pad64, refused_after, section_at}
use Rattle.elf_model.specs.declared.causes.Cause.TheVariants.{NoHash}
use Rattle.elf_model.specs.Hash.{Refused as IsRefused}
use Rattle.elf_record.specs.Sym.{IsSym}
use Rattle.elf_source.specs.Source.{CountedState}
use Rattle.elf_table.specs.Prelude.{CallReads, fault_of_result}
use Rattle.elf_table.specs.declared.fault.Fault.{Fault}
use Rattle.elf_table.specs.declared.fault.Fault.TheVariants.{Refused, Source}
use Rattle.elf_hash.specs.declared.lookup.Lookup.{Lookup}
use Rattle.elf_hash.specs.declared.lookup.Lookup.TheVariants.{Found, Absent}
use Rattle.elf_hash.specs.declared.chain_result.ChainResult.{ChainResult}

-- how many steps a result has
abbrev pub steps_of : Lookup → ℕ
steps_of (Found section index symbol steps) = steps
steps_of (Absent steps) = steps

-- how many bytes are requested for a symbol whose name is compared with one of a given length
abbrev pub symbol_bytes : ℕ → ℕ
symbol_bytes length = 24 + pad64 (length + 1)

-- the same with the next word in its chain
abbrev pub step_bytes : ℕ → ℕ
step_bytes length = 28 + pad64 (length + 1)

-- what comes after the section headers: the two counts, and a walk of a number of steps
abbrev pub after_headers_bytes : ℕ → ℕ → ℕ
after_headers_bytes steps length = 12 + steps * step_bytes length

-- THE UPPER BOUND of a lookup: the file header, a section header for each slot, the two counts, and
-- a walk of as many steps as words fit into a file of this size
abbrev pub find_bytes : ℕ → ℕ → ℕ → ℕ
find_bytes size slots length = 76 + 64 * slots + size / 4 * step_bytes length

-- a result is that of the lookup, with its number of steps, and the symbol is the one at its place
abbrev pub AnswersSysvLookup : List ℕ → Looked → Lookup → Type 0
AnswersSysvLookup file looked (Found section index symbol steps) =
    (at : ℕ) × (looked ≡ record { answer = IsFound section index at; compared = steps }) × IsSym file at symbol
AnswersSysvLookup file looked (Absent steps) = looked ≡ record { answer = IsAbsent; compared = steps }

-- what a lookup finds: its result, with the steps, the section, the index and the symbol; or its
-- refusal, unless that is `Budget`
abbrev pub GivesLookup : List ℕ → Looked → Result Lookup Fault → Type 0
GivesLookup file looked (Ok lookup) = AnswersSysvLookup file looked lookup
GivesLookup file looked (Err (Refused refusal)) = (IsBudgetRefusal refusal → ⊥) → looked.answer ≡ IsRefused refusal
GivesLookup file looked (Err (Source fault at)) = Unit {0}

-- THE EFFECT OF A LOOKUP in a known file: it costs a few bytes and a step for each name that it
-- compares, and finds the model's result
pub record LooksBySysv (file : List ℕ) (looked : Looked) (old new : CountedState) (result : Result Lookup Fault) (few length : ℕ) : Type 0 where
  pub costs : CallReads old new (fault_of_result result) (few + looked.compared * step_bytes length)
  pub finds : GivesLookup file looked result

-- the result of a lookup once the checks of the file pass, by the first HASH section
abbrev pub looked_after : List ℕ → List ℕ → Looked
looked_after file wanted = elim (first_hash file) [
  | None ↦ refused_after 0 (record { at = 0x28; cause = NoHash })
  | Some section ↦ looked_in file (section_at file section) wanted
]

-- THE EFFECT OF A LOOKUP OF A NAME in a known file: it costs no more than the definition's, and
-- finds that result
pub record FindsBySysv (file : List ℕ) (headers : ℕ) (wanted : List ℕ) (old new : CountedState) (result : Result Lookup Fault) : Type 0 where
  pub costs : CallReads old new (fault_of_result result) (find_cost file headers wanted)
  pub finds : GivesLookup file (looked file headers wanted) result

-- the result of a lookup by that of a walk: the symbol that is found, in the section of an index,
-- and how many symbols are tried
abbrev pub lookup_in : (section : ℕ) → ChainResult → Lookup
lookup_in section w = elim w.found [ None ↦ Absent w.tried | Some found ↦ Found section found.index found.answer.symbol w.tried ]
