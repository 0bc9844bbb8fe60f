-- The stack of a relocatable file, by what is read of it, and the cost of that.
use Rattle.std.proofs.Common.{◌≡◌, ℕ, suc, ◌+◌, ◌-◌, ◌*◌, ◌<◌, ◌≤◌, Bool, true, false, List, [], ◌++◌, length, Option, None, Some, Result, Ok, Err, if◌then◌else◌, refl, sym, ap, ◌∙◌, arith}
use Rattle.std.specs.Prelude.{IfErr, IfSome}
use Rattle.elf_model.specs.Prelude.{STACK_SECTION, cost_where, e_machine, e_shnum, e_shstrndx, early_checks, first_refusal, first_that, has_bits, has_section_names, header_checks, is_relocatable, is_stack_section, is_that_name, linked_stack, load_checks, loaded_stack, named_section_bytes, same, section_at, section_name_checks, sections_asked, segment_traits_ceiling, segment_traits_cost, sh_flags, sh_name, stack_asked, stack_by_sections, stack_section, traits_by_segments, traits_ceiling, traits_cost, traits_of, traits_with_stack, with_stack, without_sections}
use Rattle.elf_model.specs.Tables.{section_bytes}
use Rattle.elf_model.specs.declared.causes.Cause.{Cause}
use Rattle.elf_model.specs.declared.causes.Refusal.{Refusal}
use Rattle.elf_model.specs.declared.traits.Hardening.{Hardening}
use Rattle.elf_model.proofs.CheckSteps.{first_refusal-none, first_refusal-some, passes_front}
use Rattle.elf_record.specs.Prelude.{IsEhdr}
use Rattle.elf_record.specs.declared.ehdr.Ehdr.{Ehdr}
use Rattle.elf_source.specs.Source.{CountedState}
use Rattle.elf_table.specs.Prelude.{CallReads, HeaderRead, IsOfRead, IsReadFault, LoadedAs, LoadedFile, Refuses, StoreState, StringTableRange, fault_of_result, load_cost, strings_in}
use Rattle.elf_table.specs.Sections.{names_at, section_names}
use Rattle.elf_table.specs.declared.fault.Fault.{Fault}
use Rattle.elf_table.specs.declared.fault.Fault.TheVariants.{Refused, Source}
use Rattle.elf_table.proofs.LoadLaws.{load-within, load_most}
use Rattle.elf_loader.specs.Prelude.{AreSectionNames, FoundUnlessRead, IsRefusedByCheck, LoadsAs, LoadsForStack, ReturnsValue}

-- what is read for a section, in bytes
pub named_is : named_section_bytes ≡ 128
named_is = refl

pub ceiling_split : (size headers : ℕ) → traits_ceiling size headers ≡ segment_traits_ceiling size headers + (64 + headers * 128)
unfolding traits_ceiling
ceiling_split size headers = refl

module _ (file : List ℕ) (headers : ℕ) where
  abbrev by_segments : Result Hardening Refusal
  by_segments = traits_by_segments (without_sections file) headers

  -- the traits: a refusal, those by the segments alone, or with another stack
  pub traits_stop : (fault : Fault) → ReturnsValue by_segments (Err fault) → ReturnsValue (traits_of file headers) (Err fault)
  unfolding traits_of traits_with_stack
  traits_stop (Refused refusal) returns = λ other. ap (traits_with_stack file headers) (returns other)
  traits_stop (Source fault at) returns = tt

  pub traits_alone : (t : Hardening) → by_segments ≡ Ok t → is_relocatable t.kind ≡ false → traits_of file headers ≡ Ok t
  unfolding traits_of traits_with_stack
  traits_alone t e other =
      ap (traits_with_stack file headers) e ∙ ap (λ (b : Bool). Ok (if b then with_stack (stack_by_sections file headers) t else t)) other

  pub traits_stacked : (t : Hardening) (stack : Option Bool) → by_segments ≡ Ok t → is_relocatable t.kind ≡ true → stack_by_sections file headers ≡ stack
      → traits_of file headers ≡ Ok (with_stack stack t)
  unfolding traits_of traits_with_stack
  traits_stacked t stack e object is =
      ap (traits_with_stack file headers) e
      ∙ (ap (λ (b : Bool). Ok (if b then with_stack (stack_by_sections file headers) t else t)) object
      ∙ ap (λ (s : Option Bool). Ok (with_stack s t)) is)

  -- what they cost
  pub cost_least : segment_traits_cost (without_sections file) headers ≤ traits_cost file headers
  unfolding traits_cost
  cost_least =
      let cost : traits_cost file headers ≡ segment_traits_cost (without_sections file) headers + stack_asked file headers by_segments = refl in
      omega (arith, cost)

  pub cost_stacked : (t : Hardening) → by_segments ≡ Ok t → is_relocatable t.kind ≡ true
      → traits_cost file headers ≡ segment_traits_cost (without_sections file) headers + sections_asked file headers
  unfolding traits_cost stack_asked
  cost_stacked t e object =
      ap (λ (r : Result Hardening Refusal). segment_traits_cost (without_sections file) headers + stack_asked file headers r) e
      ∙ ap (λ (b : Bool). segment_traits_cost (without_sections file) headers + cost_where b (sections_asked file headers)) object

  -- the stack is not known if a check fails
  unknown : (refusal : Refusal) → first_refusal (header_checks file ++ load_checks file headers) ≡ Some refusal → stack_by_sections file headers ≡ None
  unfolding stack_by_sections
  unknown refusal e = rw (e, stack_by_sections) refl

  pub load_refused : (store : StoreState) (fault : Fault) → IsRefusedByCheck fault true → LoadsAs file headers store (Err fault) → stack_by_sections file headers ≡ None
  load_refused store fault check loads = let told = rw check.1 at loads in unknown check.0 (told check.2)

  pub header_stops : (store : StoreState) (fault : Fault) → HeaderRead file (Err fault) → LoadsAs file headers store (Err fault)
  header_stops store (Refused refusal) read = λ other. first_refusal-some (header_checks file) (load_checks file headers) refusal (read other)
  header_stops store (Source fault at) read = tt

  load_stops : (store : StoreState) (fault : Fault) → first_refusal (header_checks file) ≡ None → store.slots ≡ headers → LoadedAs file (Err fault) store
      → LoadsAs file headers store (Err fault)
  load_stops store (Refused refusal) passed slots loads = λ other.
      first_refusal-none (header_checks file) (load_checks file headers) passed ∙ (ap (λ (n : ℕ). first_refusal (load_checks file n)) (sym slots) ∙ loads other)
  load_stops store (Source fault at) passed slots loads = tt

  -- otherwise it is that of the sections
  pub known : first_refusal (header_checks file) ≡ None → first_refusal (load_checks file headers) ≡ None → stack_by_sections file headers ≡ loaded_stack file
  unfolding stack_by_sections
  known passed loads = rw (first_refusal-none (header_checks file) (load_checks file headers) passed ∙ loads, stack_by_sections) refl

  -- what it costs: the file header at least, and the section headers if the checks before them pass
  asked_early : (refusal : Refusal) → first_refusal (header_checks file ++ early_checks file headers) ≡ Some refusal → sections_asked file headers ≡ 64
  unfolding sections_asked
  asked_early refusal e = rw (e, sections_asked) refl

  asked_loaded : first_refusal (header_checks file ++ early_checks file headers) ≡ None → sections_asked file headers ≡ 64 + e_shnum file * 128
  unfolding sections_asked
  asked_loaded e = rw (e, sections_asked) refl

  pub asked_least : 64 ≤ sections_asked file headers
  asked_least = by_cases (first_refusal (header_checks file ++ early_checks file headers)) refl
    where
      by_cases : (first : Option Refusal) → first_refusal (header_checks file ++ early_checks file headers) ≡ first → 64 ≤ sections_asked file headers
      by_cases None e = let cost = asked_loaded e in omega (arith, cost)
      by_cases (Some refusal) e = let cost = asked_early refusal e in omega (arith, cost)

  pub asked_load : (header : Ehdr) (size : ℕ) → IsEhdr file 0 header → size ≡ length file → first_refusal (header_checks file) ≡ None
      → 64 + load_cost header size headers ≤ sections_asked file headers
  asked_load header size is long passed =
      load-within file header size headers _ is long asked_least (λ early.
      let cost = asked_loaded (first_refusal-none (header_checks file) (early_checks file headers) passed ∙ early) in
      let count : header.e_shnum ≡ e_shnum file = is.e_shnum in
      omega (arith, cost, count))

  pub asked_passed : first_refusal (header_checks file) ≡ None → first_refusal (load_checks file headers) ≡ None → sections_asked file headers ≡ 64 + e_shnum file * 128
  asked_passed passed loads =
      asked_loaded (first_refusal-none (header_checks file) (early_checks file headers) passed ∙ passes_front (early_checks file headers) (section_name_checks file) loads)

  -- what a load does
  pub loads_told : {a b : CountedState} (header : Ehdr) (size n : ℕ) (store : StoreState) (result : Result LoadedFile Fault)
      → n ≤ 64
      → ((k : ℕ) → n + load_cost header size headers ≤ k → CallReads a b (fault_of_result result) k) → first_refusal (header_checks file) ≡ None → IsEhdr file 0 header
      → size ≡ length file → store.slots ≡ headers → LoadedAs file result store → LoadsForStack file headers store a b result
  loads_told header size n store (Ok loaded) few costs passed is long slots loads =
      let most = load_most header size headers in
      let count : header.e_shnum ≡ e_shnum file = is.e_shnum in
      record {
        costs = costs _ (omega (arith, few, most, count));
        loads = record { header = passed; load = ap (λ (k : ℕ). first_refusal (load_checks file k)) (sym slots) ∙ loads.passes; belongs = loads };
      }
  loads_told header size n store (Err fault) few costs passed is long slots loads =
      let within = asked_load header size is long passed in
      record { costs = costs _ (omega (arith, few, within)); loads = load_stops store fault passed slots loads }

  pub found_known : (result : Result (Option Bool) Fault) → first_refusal (header_checks file) ≡ None → first_refusal (load_checks file headers) ≡ None
      → FoundUnlessRead (loaded_stack file) result → FoundUnlessRead (stack_by_sections file headers) result
  found_known (Ok stack) passed loads found = known passed loads ∙ found
  found_known (Err fault) passed loads found = found

-- a load that fails
pub load_says : (a b : CountedState) (n : ℕ) (result : Result LoadedFile Fault) → IfErr result (IsReadFault a b n) → IfSome (fault_of_result result) (IsReadFault a b n)
load_says a b n (Ok loaded) says = tt
load_says a b n (Err fault) says = says

-- a read of the sections that fails
pub stack_stops : (told : Result Hardening Refusal) (fault : Fault) → IsOfRead fault → ReturnsValue told (Err fault)
stack_stops told (Refused refusal) read = λ other. absurd (other read)
stack_stops told (Source fault at) read = tt

-- the names of the sections, if there are any
module _ (file : List ℕ) where
  names_by : (names : StringTableRange) (has : Bool) → has_section_names file ≡ has → section_names file ≡ Some names → (has_section_names file ≡ true) × AreSectionNames file names
  names_by names true e is =
      let same = ap (λ (b : Bool). elim b as (λ _. Option StringTableRange) [ true ↦ Some (names_at file (section_at file (e_shstrndx file))) | false ↦ None ]) (sym e) ∙ is in
      (e, ap (λ (o : Option StringTableRange). elim o as (λ _. List ℕ) [ Some n ↦ strings_in file n | None ↦ [] ]) (sym same))
  names_by names false e is =
      let same = ap (λ (b : Bool). elim b as (λ _. Option StringTableRange) [ true ↦ Some (names_at file (section_at file (e_shstrndx file))) | false ↦ None ]) (sym e) ∙ is in
      absurd (cc)

  pub names_are : (names : StringTableRange) → section_names file ≡ Some names → (has_section_names file ≡ true) × AreSectionNames file names
  names_are names is = names_by names (has_section_names file) refl is

  none_by : (has : Bool) → has_section_names file ≡ has → section_names file ≡ None → has_section_names file ≡ false
  none_by true e is =
      let same = ap (λ (b : Bool). elim b as (λ _. Option StringTableRange) [ true ↦ Some (names_at file (section_at file (e_shstrndx file))) | false ↦ None ]) (sym e) ∙ is in
      absurd (cc)
  none_by false e is = e

  pub no_names : section_names file ≡ None → has_section_names file ≡ false
  no_names is = none_by (has_section_names file) refl is

-- the stack by the section that is found
module _ (file : List ℕ) where
  pub stack_none : stack_section file ≡ None → loaded_stack file ≡ linked_stack (e_machine file)
  unfolding loaded_stack
  stack_none e = rw (e, loaded_stack) refl

  pub stack_some : (index : ℕ) → stack_section file ≡ Some index → loaded_stack file ≡ Some (has_bits (sh_flags file (section_at file index)) 4)
  unfolding loaded_stack
  stack_some index e = rw (e, loaded_stack) refl

  -- the sections without names, and with them
  pub unnamed_sections : has_section_names file ≡ false → stack_section file ≡ None
  unfolding stack_section
  unnamed_sections e = rw (e, stack_section) refl

  pub named_sections : has_section_names file ≡ true → stack_section file ≡ first_that (is_stack_section file) 0 (e_shnum file)
  unfolding stack_section
  named_sections e = rw (e, stack_section) refl

-- the first section of the name, one after another
module _ (file : List ℕ) (index : ℕ) where
  here : (n : ℕ) → is_stack_section file index ≡ true → first_that (is_stack_section file) index (suc n) ≡ Some index
  unfolding first_that
  here n t = rw (t, first_that) refl

  more : (n : ℕ) → is_stack_section file index ≡ false → first_that (is_stack_section file) index (suc n) ≡ first_that (is_stack_section file) (suc index) n
  unfolding first_that
  more n t = rw (t, first_that) refl

  none : first_that (is_stack_section file) index 0 ≡ None
  unfolding first_that
  none = refl

  pub stack_here : (count : ℕ) → index < count → is_stack_section file index ≡ true → first_that (is_stack_section file) index (count - index) ≡ Some index
  stack_here count below t =
      let left : count - index ≡ suc (count - suc index) = omega arith in
      ap (first_that (is_stack_section file) index) left ∙ here (count - suc index) t

  pub stack_more : (count next : ℕ) → next ≡ index + 1 → index < count → is_stack_section file index ≡ false
      → first_that (is_stack_section file) index (count - index) ≡ first_that (is_stack_section file) next (count - next)
  stack_more count next on below t =
      let left : count - index ≡ suc (count - suc index) = omega arith in
      let step : suc index ≡ next = omega (arith, on) in
      ap (first_that (is_stack_section file) index) left ∙ (more (count - suc index) t ∙ ap (λ (n : ℕ). first_that (is_stack_section file) n (count - n)) step)

  pub stack_gone : (count : ℕ) → count ≤ index → first_that (is_stack_section file) index (count - index) ≡ None
  stack_gone count behind =
      let left : count - index ≡ 0 = omega arith in
      ap (first_that (is_stack_section file) index) left ∙ none

-- a name that is compared, or has a fault
module _ (file : List ℕ) (index : ℕ) (strings : List ℕ) (at : ℕ) (names : strings ≡ section_bytes file (section_at file (e_shstrndx file))) where
  told : (answer : Result Bool Cause) → same strings (sh_name file (section_at file index)) STACK_SECTION ≡ answer → is_stack_section file index ≡ is_that_name answer
  told answer e =
      ap (λ (bytes : List ℕ). is_that_name (same bytes (sh_name file (section_at file index)) STACK_SECTION)) (sym names) ∙ ap is_that_name e

  pub name_told : (is_named : Bool) → same strings (sh_name file (section_at file index)) STACK_SECTION ≡ Ok is_named → is_stack_section file index ≡ is_named
  name_told is_named e = told (Ok is_named) e

  pub name_refused : (fault : Fault) → IsRefusedByCheck fault true → Refuses at fault (same strings (sh_name file (section_at file index)) STACK_SECTION) → is_stack_section file index ≡ false
  name_refused fault check refuses =
      let refused = rw check.1 at refuses in
      told (Err check.0.cause) (refused check.2).1
