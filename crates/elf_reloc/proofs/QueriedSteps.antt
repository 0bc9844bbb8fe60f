-- The range that is requested, once the headers are loaded or not.
use Rattle.std.proofs.Common.{◌≡◌, ℕ, ◌+◌, ◌*◌, ◌≤◌, Bool, true, false, List, ◌++◌, length, Option, None, Some, Result, Ok, Err, refl, sym, ap, subst, ◌∙◌, arith}
use Rattle.std.specs.Prelude.{IfErr, is_none}
use Rattle.std.proofs.Math.Nat.{mul-le-mul_right}
use Rattle.elf_model.specs.Archive.{FileRange}
use Rattle.elf_model.specs.BytesQuery.{BytesQuery, OfName, OfSection, OfSegment, first_section_named, queried_file, queried_range, range_in, range_of_name, range_of_section, range_of_segment}
use Rattle.elf_model.specs.Prelude.{before_headers, cost_where, e_shnum, e_phnum, first_refusal, header_checks, load_checks, pad64, without_sections}
use Rattle.elf_model.specs.declared.causes.Refusal.{Refusal}
use Rattle.elf_model.proofs.StyleLemmas.{view_tells_of_none}
use Rattle.elf_source.specs.Source.{CountedState, MasksSectionHeaders}
use Rattle.elf_table.specs.Prelude.{CallDid, CallReads, IsOfCheck, StoreState, fault_of_result}
use Rattle.elf_table.specs.declared.fault.Fault.{Fault}
use Rattle.elf_table.specs.declared.fault.Fault.TheVariants.{Refused, Source}
use Rattle.elf_table.proofs.FaultLaws.{charges_hidden}
use Rattle.elf_table.proofs.LedgerLaws.{CallDid-stop, CallReads-more}
use Rattle.elf_hash.proofs.LoadingLaws.{early_pass}
use Rattle.elf_hash.specs.Loading.{segments_load_cost}
use Rattle.elf_reloc.specs.Queried.{FindsAs, FindsQueried, LoadsSections, ShowsRange, one_range, range_as, range_ceiling, range_cost, range_if_loaded, sections_load_cost, some_range}

-- a call that reads nothing after another, and may refuse
pub CallDid-checked : {X : Type 0} {a b : CountedState} {n : ℕ} {P : List ℕ → Type 0} (result : Result X Fault) → IfErr result IsOfCheck → CallDid a b None n P → CallDid a b (fault_of_result result) n P
CallDid-checked (Ok x) check did = did
CallDid-checked (Err fault) check did = CallDid-stop fault check did

pub CallReads-checked : {X : Type 0} {a b : CountedState} {n : ℕ} (result : Result X Fault) → IfErr result IsOfCheck → CallReads a b None n → CallReads a b (fault_of_result result) n
CallReads-checked (Ok x) check costs = costs
CallReads-checked {a = a} {b = b} {n = n} (Err fault) check costs =
    let did : CallDid a b None n (λ file. Unit {0}) = record { costs = costs; known = λ file held. tt } in (CallDid-stop fault check did).costs

-- costs that are counted only under a condition
where_most : (condition : Bool) (n m : ℕ) → n ≤ m → 64 + cost_where condition n ≤ 64 + cost_where condition m
where_most true n m few = omega (arith, few)
where_most false n m few = omega arith

-- the section headers and as many names are within the upper bound
pub all_slots : (slots loaded k : ℕ) → loaded ≤ slots → (64 + slots * 64) + loaded * k ≤ 64 + slots * (64 + k)
all_slots slots loaded k few =
    let names : loaded * k ≤ slots * k = mul-le-mul_right k few in
    let all : slots * (64 + k) ≡ slots * 64 + slots * k = omega arith in omega (arith, names, all)

module _ (file : List ℕ) (headers : ℕ) where
  pub refused_all : (query : BytesQuery) (refusal : Refusal) → first_refusal (header_checks (queried_file query file) ++ load_checks (queried_file query file) headers) ≡ Some refusal
      → queried_range file headers query ≡ Err refusal
  unfolding queried_range
  refused_all query refusal h = rw (h, queried_range) refl

  passed_all : (query : BytesQuery) → first_refusal (header_checks (queried_file query file) ++ load_checks (queried_file query file) headers) ≡ None
      → queried_range file headers query ≡ range_in (queried_file query file) query
  unfolding queried_range
  passed_all query h = rw (h, queried_range) refl

  -- of a section
  pub section_costs : (section : ℕ) → sections_load_cost file headers ≤ range_cost file headers (OfSection section)
  section_costs section = where_most (is_none (first_refusal (before_headers file headers))) (64 * e_shnum file) (e_shnum file * (64 + 0)) (omega arith)

  pub section_unloaded : {X : Type 0} (as_found : X → Option FileRange) (section : ℕ) (fault : Fault) (store : StoreState) → LoadsSections file headers store (Err fault)
      → FindsAs as_found (Err fault) (queried_range file headers (OfSection section))
  section_unloaded as_found section (Refused refusal) store loads = λ other. refused_all (OfSection section) refusal (loads other)
  section_unloaded as_found section (Source fault at) store loads = tt

  section_is : (section : ℕ) → first_refusal (header_checks file ++ load_checks file headers) ≡ None → queried_range file headers (OfSection section) ≡ range_of_section file section
  unfolding range_in
  section_is section passes = passed_all (OfSection section) passes

  pub section_loaded : (section : ℕ) (result : Result (ℕ × ℕ) Fault) → first_refusal (header_checks file ++ load_checks file headers) ≡ None
      → FindsAs one_range result (range_of_section file section) → FindsAs one_range result (queried_range file headers (OfSection section))
  section_loaded section result passes found = subst (λ answer. FindsAs one_range result answer) (sym (section_is section passes)) found

  -- of a name
  name_most : (n k : ℕ) → 64 * n ≤ n * (64 + k)
  name_most n k = let all : n * (64 + k) ≡ 64 * n + n * k = omega arith in omega (arith, all)

  pub name_costs : (name : List ℕ) → sections_load_cost file headers ≤ range_cost file headers (OfName name)
  name_costs name =
      where_most (is_none (first_refusal (before_headers file headers))) (64 * e_shnum file) (e_shnum file * (64 + pad64 (length name + 1))) (name_most (e_shnum file) (pad64 (length name + 1)))

  pub name_unloaded : {X : Type 0} (as_found : X → Option FileRange) (name : List ℕ) (fault : Fault) (store : StoreState) → LoadsSections file headers store (Err fault)
      → FindsAs as_found (Err fault) (queried_range file headers (OfName name))
  name_unloaded as_found name (Refused refusal) store loads = λ other. refused_all (OfName name) refusal (loads other)
  name_unloaded as_found name (Source fault at) store loads = tt

  module _ (name : List ℕ) (passes : first_refusal (header_checks file ++ load_checks file headers) ≡ None) where
    pub all_names_cost : (n : ℕ) → n ≡ e_shnum file → sections_load_cost file headers + n * pad64 (length name + 1) ≤ range_cost file headers (OfName name)
    all_names_cost n same =
        let early = early_pass file headers passes in
        let loads : sections_load_cost file headers ≡ 64 + 64 * e_shnum file = rw early refl in
        let range : range_cost file headers (OfName name) ≡ 64 + e_shnum file * (64 + pad64 (length name + 1)) = rw early refl in
        let all : e_shnum file * (64 + pad64 (length name + 1)) ≡ 64 * e_shnum file + e_shnum file * pad64 (length name + 1) = omega arith in
        let count = ap (λ (k : ℕ). k * pad64 (length name + 1)) same in
        omega (arith, loads, range, all, count)

    name_is : queried_range file headers (OfName name) ≡ range_of_name file name
    unfolding range_in
    name_is = passed_all (OfName name) passes

    by_name : (found : Result (Option ℕ) Refusal) → first_section_named file name ≡ found
        → queried_range file headers (OfName name) ≡ elim found [
          | Err refusal ↦ Err refusal
          | Ok None ↦ Ok None
          | Ok (Some section) ↦ range_of_section file section
        ]
    unfolding range_of_name
    by_name found h = name_is ∙ rw (h, range_of_name) refl

    pub name_fails : (fault : Fault) → FindsAs (λ (found : Option ℕ). found) (Err fault) (first_section_named file name) → FindsAs some_range (Err fault) (queried_range file headers (OfName name))
    name_fails (Refused refusal) fails = λ other. by_name (Err refusal) (fails other)
    name_fails (Source fault at) fails = tt

    pub name_absent : first_section_named file name ≡ Ok None → queried_range file headers (OfName name) ≡ Ok None
    name_absent h = by_name (Ok None) h

    pub name_found : (section : ℕ) (range : ℕ × ℕ) → first_section_named file name ≡ Ok (Some section) → range_of_section file section ≡ Ok (one_range range)
        → queried_range file headers (OfName name) ≡ Ok (some_range (Some range))
    name_found section range h found = by_name (Ok (Some section)) h ∙ found

    pub name_outside : (section : ℕ) (fault : Fault) → first_section_named file name ≡ Ok (Some section) → FindsAs one_range (Err fault) (range_of_section file section)
        → FindsAs some_range (Err fault) (queried_range file headers (OfName name))
    name_outside section (Refused refusal) h found = λ other. by_name (Ok (Some section)) h ∙ found other
    name_outside section (Source fault at) h found = tt

-- of a program header, while the fields of the file header that locate section headers are masked
segment_is : (file : List ℕ) (headers segment : ℕ) → range_if_loaded (without_sections file) headers segment ≡ queried_range file headers (OfSegment segment)
unfolding queried_range range_in
segment_is file headers segment = refl

segment_costs : (file : List ℕ) (headers segment : ℕ) → segments_load_cost (without_sections file) headers ≡ range_cost file headers (OfSegment segment)
segment_costs file headers segment = refl

segments_most : (headers segment : ℕ) → 64 + headers * 56 ≤ range_ceiling headers (OfSegment segment)
segments_most headers segment = omega arith

pub segment_hidden : {a b c d : CountedState} (headers segment : ℕ) (result : Result (ℕ × ℕ) Fault) → MasksSectionHeaders a b true → MasksSectionHeaders c d a.hides
    → CallDid b c (fault_of_result result) (64 + headers * 56) (λ file. e_shnum file ≡ 0 → ShowsRange file headers segment b c result)
    → CallDid a d (fault_of_result result) (range_ceiling headers (OfSegment segment)) (λ file. FindsQueried one_range file headers (OfSegment segment) a d result)
segment_hidden {a} {b} {c} {d} headers segment result hide show did = record {
  costs = CallReads-more _ (segments_most headers segment) (charges_hidden _ (fault_of_result result) hide show did.costs);
  known = λ file held.
      let found = did.known (without_sections file) (hide.shows refl file held) (view_tells_of_none file).1 in
      record {
        costs = subst (λ n. CallReads a d (fault_of_result result) n) (segment_costs file headers segment) (charges_hidden _ (fault_of_result result) hide show found.costs);
        finds = subst (λ answer. FindsAs one_range result answer) (segment_is file headers segment) found.finds;
      };
}
