-- What the file header and a load read, and the result of a load.
use Rattle.std.proofs.Common.{◌≡◌, ℕ, ◌+◌, ◌*◌, ◌≤◌, List, [], ◌∷◌, length, Option, None, Some, Result, Ok, Err, inl, inr, refl, sym, ap, subst, ◌∙◌, arith, rules}
use Rattle.std.specs.Prelude.{is_none}
use Rattle.std.proofs.lemmas.Bool.{cases_Bool}
use Rattle.elf_model.specs.Prelude.{Check, IsBudgetRefusal, cost_where, early_checks, first_refusal, ident_checks, length_checks, load_checks, section_name_checks, slice}
use Rattle.elf_model.specs.declared.causes.Refusal.{Refusal}
use Rattle.elf_model.proofs.CheckSteps.{first_refusal-none}
use Rattle.elf_model.proofs.SumLemmas.{cost_where-le}
use Rattle.elf_record.specs.Prelude.{IsEhdr}
use Rattle.elf_record.specs.declared.ehdr.Ehdr.{Ehdr}
use Rattle.elf_source.specs.Prelude.{CountedState, ReadsOnward, ReadsUpTo, SourceState}
use Rattle.elf_source.proofs.OnwardLaws.{onward_none, onward_one}
use Rattle.elf_table.specs.Prelude.{AreRowSlices, FillsOnce, HoldsSectionHeaders, HoldsSections, IsOfRead, IsReadFault, LoadedAs, LoadedFile, StoreState, early_of, file_header_cost, load_cost}
use Rattle.elf_table.specs.declared.fault.Fault.{Fault}
use Rattle.elf_table.specs.declared.fault.Fault.TheVariants.{Refused, Source}

-- no more than the file header
pub header_most : (size : ℕ) → file_header_cost size ≤ 64
header_most size = cost_where-le (is_none (first_refusal (length_checks size))) 64

-- and the section headers
pub load_most : (header : Ehdr) (size headers : ℕ) → load_cost header size headers ≤ 64 * header.e_shnum
load_most header size headers = cost_where-le (is_none (first_refusal (early_of header size headers))) (64 * header.e_shnum)

-- the checks before the section headers are read, by the decoded header
pub early_is : (file : List ℕ) (header : Ehdr) (size headers : ℕ) → IsEhdr file 0 header → size ≡ length file
    → first_refusal (early_of header size headers) ≡ first_refusal (early_checks file headers)
early_is file header size headers is same =
    rw (same, is.e_phnum, is.e_shstrndx, is.e_shnum, is.e_shoff, is.e_shentsize, is.e_phentsize, is.e_phoff) refl

-- one read goes forward
pub fills_onward : {X : Type 0} (one_read : SourceState → ℕ → ℕ → SourceState → Type 0) (old new : SourceState) (at n low high : ℕ) (result : Result X Fault) → FillsOnce one_read old new at n result
    → low ≤ at → at + n ≤ high → ReadsOnward one_read old new low high
fills_onward one_read old new at n low high (Ok x) once from to = onward_one one_read old new at n low high once from to
fills_onward one_read old new at n low high (Err (Refused refusal)) once from to = onward_none one_read old new low high once (omega arith)
fills_onward one_read old new at n low high (Err (Source fault offset)) once from to = onward_one one_read old new at n low high once from to

-- a cost that is at least that of the file header, and of the section headers if the checks before
-- them pass, is at least that of the load
pub load-within :
    (file : List ℕ) (header : Ehdr) (size headers cost : ℕ) → IsEhdr file 0 header → size ≡ length file → 64 ≤ cost
    → (first_refusal (early_checks file headers) ≡ None → 64 + 64 * header.e_shnum ≤ cost) → 64 + load_cost header size headers ≤ cost
load-within file header size headers cost is same least loaded = by_cases (first_refusal (early_of header size headers)) refl
  where
    by_cases : (first : Option Refusal) → first ≡ first_refusal (early_of header size headers) → 64 + cost_where (is_none first) (64 * header.e_shnum) ≤ cost
    by_cases None none = loaded (sym (none ∙ early_is file header size headers is same))
    by_cases (Some refusal) some = least

-- a load reads no more section headers than there are slots
pub load_slots : (header : Ehdr) (size slots : ℕ) → load_cost header size slots ≤ 64 * slots
load_slots header size slots = grind arith

-- a load whose early checks pass reads all section headers
load_passed : (header : Ehdr) (size slots : ℕ) → first_refusal (early_of header size slots) ≡ None → load_cost header size slots ≡ 64 * header.e_shnum
load_passed header size slots passes = ap (λ (r : Option Refusal). cost_where (is_none r) (64 * header.e_shnum)) passes

pub load_reads : {a b : CountedState} (header : Ehdr) (size slots : ℕ) → first_refusal (early_of header size slots) ≡ None → ReadsUpTo a b (64 * header.e_shnum)
    → ReadsUpTo a b (load_cost header size slots)
load_reads {a} {b} header size slots passes reads = subst (ReadsUpTo a b) (sym (load_passed header size slots passes)) reads

pub load_says : (a b : CountedState) (fault : Fault) (header : Ehdr) (size slots : ℕ) → first_refusal (early_of header size slots) ≡ None
    → IsReadFault a b (64 * header.e_shnum) fault → IsReadFault a b (load_cost header size slots) fault
load_says a b fault header size slots passes says = subst (λ (n : ℕ). IsReadFault a b n fault) (sym (load_passed header size slots passes)) says

-- checks none of which refuses with `Budget`
abbrev NoBudget : List Check → Type 0
NoBudget [] = Unit {0}
NoBudget (check ∷ checks) = (IsBudgetRefusal check.refusal → ⊥) × NoBudget checks

unbudgeted : (checks : List Check) (refusal : Refusal) → NoBudget checks → first_refusal checks ≡ Some refusal → IsBudgetRefusal refusal → ⊥
unbudgeted [] refusal other is budget = cc
unbudgeted (check ∷ checks) refusal other is budget =
    elim (cases_Bool check.fails) [
      | inl fails ↦ let same = rw fails at is in other.0 (cc)
      | inr passes ↦ unbudgeted checks refusal other.1 (rw passes at is) budget
    ]

-- as the early checks
pub early_unbudgeted : (header : Ehdr) (size slots : ℕ) (refusal : Refusal) → first_refusal (early_of header size slots) ≡ Some refusal → IsBudgetRefusal refusal → ⊥
early_unbudgeted header size slots refusal = unbudgeted (early_of header size slots) refusal (search rules)

-- and as those of the bytes of a file header
pub ident_unbudgeted : (bytes : List ℕ) (refusal : Refusal) → first_refusal (ident_checks bytes) ≡ Some refusal → IsBudgetRefusal refusal → ⊥
ident_unbudgeted bytes refusal = unbudgeted (ident_checks bytes) refusal (search rules)

-- a fault of a read is no result of a check
pub read_stops : (file : List ℕ) (fault : Fault) (store : StoreState) → IsOfRead fault → LoadedAs file (Err fault) store
read_stops file (Refused refusal) store is = λ other. absurd (other is)
read_stops file (Source fault at) store is = tt

-- rows that were read at the file header's offset are the file's section headers
pub rows_loaded : (file : List ℕ) (header : Ehdr) (store : StoreState) → IsEhdr file 0 header → store.loaded ≡ header.e_shnum
    → AreRowSlices file header.e_shoff 64 header.e_shnum store.rows → HoldsSections file store
rows_loaded file header store is count rows = λ i below. rows i (omega (arith, below, count)) ∙ ap (λ (n : ℕ). slice file (n + 64 * i) 64) is.e_shoff

-- if the early checks pass the result is that of the section names' checks
pub late_answer : {answer : Option Refusal} (file : List ℕ) (header : Ehdr) (size old new : ℕ) → first_refusal (early_of header size old) ≡ None → new ≡ old
    → IsEhdr file 0 header → size ≡ length file → answer ≡ first_refusal (section_name_checks file) → first_refusal (load_checks file new) ≡ answer
late_answer file header size old new passes same is long late =
    ap (λ (n : ℕ). first_refusal (load_checks file n)) same
    ∙ first_refusal-none (early_checks file old) (section_name_checks file) (sym (early_is file header size old is long) ∙ passes)
    ∙ sym late

-- a file with this header, all of whose section headers are in the store
pub belongs_loaded :
    (file : List ℕ) (header : Ehdr) (size : ℕ) (loaded : LoadedFile) (store new : StoreState) → loaded ≡ record { size = size; header = header } → new ≡ store
    → size ≡ length file → IsEhdr file 0 header → store.loaded ≡ header.e_shnum → HoldsSections file store
    → first_refusal (load_checks file store.slots) ≡ None → HoldsSectionHeaders file loaded new
belongs_loaded file header size loaded store new made kept long is count rows passes =
    rw (made, kept) (record { size = long; header = is; count = count; rows = rows; passes = passes })
