-- The first refusal of an object: of its header, its section headers or its symbol table.
use Rattle.std.proofs.Common.{◌≡◌, ℕ, ◌≤◌, Bool, false, List, ◌++◌, length, max, min, nat_lt, ◌⊎◌, inl, inr, refl, sym, ap, ◌∙◌, arith}
use Rattle.std.specs.Prelude.{Option, None, Some, IsSome, Err}
use Rattle.std.proofs.lemmas.Bool.Decides.{nat_tests}
use Rattle.elf_model.specs.Budget.{IsBudgetRefusal}
use Rattle.elf_model.specs.Checks.{HeaderCounts, counts_in, early_checks, early_checks_of, first_refusal, header_checks, load_checks, section_name_checks}
use Rattle.elf_model.specs.LinkSymbols.{as_any, kind_refusal, object_defines, defines_if, object_refusal, symbol_table_in, table_checks_in}
use Rattle.elf_model.specs.Numbers.{ET_REL}
use Rattle.elf_model.specs.Records.{e_phnum, e_shnum}
use Rattle.elf_model.specs.declared.causes.Refusal.{Refusal}
use Rattle.elf_model.specs.declared.link_states.LinkRefusal.{LinkRefusal}
use Rattle.elf_model.proofs.BudgetLaws.{is_budget_fault}
use Rattle.elf_model.proofs.CheckSteps.{first_refusal-none, first_refusal-some}
use Rattle.elf_record.specs.Ehdr.{IsEhdr}
use Rattle.elf_record.specs.declared.ehdr.Ehdr.{Ehdr}
use Rattle.elf_table.specs.Prelude.{LoadedAs, StoreState, slots_of}
use Rattle.elf_table.specs.declared.fault.Fault.{Fault}
use Rattle.elf_table.specs.declared.fault.Fault.TheVariants as table
use Rattle.elf_resolve.specs.LinkFaults.{fault_of_table}
use Rattle.elf_resolve.specs.ObjectParts.{as_any_refusal, kind_or, link_header_refusal}
use Rattle.elf_resolve.specs.Taken.{IsLinkFault}
use Rattle.elf_resolve.specs.declared.link_faults.LinkFault.{LinkFault}
use Rattle.elf_resolve.proofs.LinkFaultLaws.{fault_of_part}

-- a refusal of its parts, one after the other
abbrev kind_then : Option LinkRefusal → Option LinkRefusal → Option LinkRefusal
kind_then (Some refusal) rest = Some refusal
kind_then None rest = rest

abbrev rest_of : (file : List ℕ) → (headers : ℕ) → Option Refusal
rest_of file headers = first_refusal (early_checks file headers ++ section_name_checks file ++ table_checks_in file (symbol_table_in file))

by_parts : (file : List ℕ) (headers : ℕ) → object_refusal file headers ≡ kind_or (first_refusal (header_checks file)) (kind_then (kind_refusal file) (as_any_refusal (rest_of file headers)))
unfolding object_refusal
by_parts file headers = cases (first_refusal (header_checks file)) (kind_refusal file) (rest_of file headers)
  where
    cases : (h : Option Refusal) (k : Option LinkRefusal) (p : Option Refusal)
        → elim h [ Some refusal ↦ Some (as_any refusal) | None ↦ elim k [ Some refusal ↦ Some refusal | None ↦ elim p [ Some refusal ↦ Some (as_any refusal) | None ↦ None ] ] ] ≡ kind_or h (kind_then k (as_any_refusal p))
    cases (Some refusal) k p = refl
    cases None (Some refusal) p = refl
    cases None None (Some refusal) = refl
    cases None None None = refl

header_first : (h : Option Refusal) (k rest : Option LinkRefusal) (refusal : LinkRefusal) → kind_or h k ≡ Some refusal → kind_or h (kind_then k rest) ≡ Some refusal
header_first (Some other) k rest refusal is = is
header_first None (Some other) rest refusal is = is
header_first None None rest refusal is = absurd (cc)

header_passes : (h : Option Refusal) (k rest : Option LinkRefusal) → kind_or h k ≡ None → kind_or h (kind_then k rest) ≡ rest
header_passes (Some other) k rest is = absurd (cc)
header_passes None (Some other) rest is = absurd (cc)
header_passes None None rest is = refl

-- THAT OF THE HEADER
pub header_fault : (file : List ℕ) (headers : ℕ) (fault : LinkFault) → IsLinkFault (link_header_refusal file ET_REL) fault → IsLinkFault (object_refusal file headers) fault
header_fault file headers fault is =
    fault_of_part (link_header_refusal file ET_REL) (object_refusal file headers) fault
    (λ refusal e. by_parts file headers ∙ header_first (first_refusal (header_checks file)) (kind_refusal file) (as_any_refusal (rest_of file headers)) refusal e) is

after_header : (file : List ℕ) (headers : ℕ) → link_header_refusal file ET_REL ≡ None → object_refusal file headers ≡ as_any_refusal (rest_of file headers)
after_header file headers passes = by_parts file headers ∙ header_passes (first_refusal (header_checks file)) (kind_refusal file) (as_any_refusal (rest_of file headers)) passes

-- A STORE of as many slots as a file needs allows as many headers
below_slots : (headers count other : ℕ) → 1 ≤ headers → nat_lt (max (min headers (max count other)) 1) count ≡ nat_lt headers count
below_slots headers count other some = grind (arith, nat_tests)

below_slots-other : (headers count other : ℕ) → 1 ≤ headers → nat_lt (max (min headers (max other count)) 1) count ≡ nat_lt headers count
below_slots-other headers count other some = grind (arith, nat_tests)

early_same : (e : HeaderCounts) (size headers slots : ℕ) → nat_lt slots e.shnum ≡ nat_lt headers e.shnum → nat_lt slots e.phnum ≡ nat_lt headers e.phnum → early_checks_of e size slots ≡ early_checks_of e size headers
early_same e size headers slots sections segments = rw (sections, segments) refl

pub load_same : (file : List ℕ) (headers slots : ℕ) → 1 ≤ headers → slots ≡ slots_of headers (e_shnum file) (e_phnum file) → first_refusal (load_checks file slots) ≡ first_refusal (load_checks file headers)
load_same file headers slots some is =
    let sections : nat_lt slots (e_shnum file) ≡ nat_lt headers (e_shnum file) = ap (λ n. nat_lt n (e_shnum file)) is ∙ below_slots headers (e_shnum file) (e_phnum file) some in
    let segments : nat_lt slots (e_phnum file) ≡ nat_lt headers (e_phnum file) = ap (λ n. nat_lt n (e_phnum file)) is ∙ below_slots-other headers (e_phnum file) (e_shnum file) some in
    ap (λ checks. first_refusal (checks ++ section_name_checks file)) (early_same (counts_in file) (length file) headers slots sections segments)

-- the slots by a header that was read
pub slots_read : (file : List ℕ) (head : Ehdr) (headers slots : ℕ) → IsEhdr file 0 head → slots ≡ slots_of headers head.e_shnum head.e_phnum → slots ≡ slots_of headers (e_shnum file) (e_phnum file)
slots_read file head headers slots is from = from ∙ ap (λ n. slots_of headers n head.e_phnum) is.e_shnum ∙ ap (slots_of headers (e_shnum file)) is.e_phnum

-- THAT OF THE SECTION HEADERS
pub load_fault : (file : List ℕ) (headers : ℕ) (store : StoreState) (fault : Fault) → 1 ≤ headers → link_header_refusal file ET_REL ≡ None → store.slots ≡ slots_of headers (e_shnum file) (e_phnum file)
    → LoadedAs file (Err fault) store → IsLinkFault (object_refusal file headers) (fault_of_table fault)
load_fault file headers store (table.Refused refusal) some header slots loads = by_cause (is_budget_fault refusal.cause)
  where
    by_cause : (IsBudgetRefusal refusal) ⊎ (IsBudgetRefusal refusal → ⊥) → IsLinkFault (object_refusal file headers) (fault_of_table (table.Refused refusal))
    by_cause (inl budget) = inl budget
    by_cause (inr other) =
        let load : first_refusal (load_checks file headers) ≡ Some refusal = sym (load_same file headers store.slots some slots) ∙ loads other in
        inr (after_header file headers header ∙ ap as_any_refusal (first_refusal-some (load_checks file headers) (table_checks_in file (symbol_table_in file)) refusal load))
load_fault file headers store (table.Source other at) some header slots loads = tt

pub after_load : (file : List ℕ) (headers slots : ℕ) → 1 ≤ headers → link_header_refusal file ET_REL ≡ None → slots ≡ slots_of headers (e_shnum file) (e_phnum file) → first_refusal (load_checks file slots) ≡ None
    → object_refusal file headers ≡ as_any_refusal (first_refusal (table_checks_in file (symbol_table_in file)))
after_load file headers slots some header is passes =
    after_header file headers header
    ∙ ap as_any_refusal (first_refusal-none (load_checks file headers) (table_checks_in file (symbol_table_in file)) (sym (load_same file headers slots some is) ∙ passes))

-- THAT OF THE SYMBOL TABLE
pub tables_fault : (file : List ℕ) (headers slots : ℕ) (fault : LinkFault) → 1 ≤ headers → link_header_refusal file ET_REL ≡ None → slots ≡ slots_of headers (e_shnum file) (e_phnum file) → first_refusal (load_checks file slots) ≡ None
    → IsLinkFault (as_any_refusal (first_refusal (table_checks_in file (symbol_table_in file)))) fault → IsLinkFault (object_refusal file headers) fault
tables_fault file headers slots fault some header is passes refuses =
    fault_of_part (as_any_refusal (first_refusal (table_checks_in file (symbol_table_in file)))) (object_refusal file headers) fault
    (λ refusal e. after_load file headers slots some header is passes ∙ e) refuses

-- NONE
pub object_passes : (file : List ℕ) (headers slots : ℕ) → 1 ≤ headers → link_header_refusal file ET_REL ≡ None → slots ≡ slots_of headers (e_shnum file) (e_phnum file) → first_refusal (load_checks file slots) ≡ None
    → first_refusal (table_checks_in file (symbol_table_in file)) ≡ None → object_refusal file headers ≡ None
object_passes file headers slots some header is passes tables = after_load file headers slots some header is passes ∙ ap as_any_refusal tables

-- A FILE THAT IS REFUSED defines nothing
pub defines_refused : (file : List ℕ) (headers : ℕ) (name : List ℕ) (refusal : Option LinkRefusal) → object_refusal file headers ≡ refusal → IsSome refusal → false ≡ object_defines file headers name
unfolding object_defines
defines_refused file headers name (Some refusal) is some = rw (is, object_defines) refl
defines_refused file headers name None is some = absurd (cc)

pub defines_passed : (file : List ℕ) (headers : ℕ) (name : List ℕ) (found : Bool) → object_refusal file headers ≡ None → found ≡ defines_if file (symbol_table_in file) name → found ≡ object_defines file headers name
unfolding object_defines
defines_passed file headers name found is known = rw (is, object_defines) known
