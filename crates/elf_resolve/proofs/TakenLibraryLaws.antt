-- A shared library is taken: what its headers, its own name and its symbols refuse, and whether it is needed.
use Rattle.std.proofs.Common.{◌≡◌, ℕ, ◌≤◌, ◌/◌, Bool, true, false, List, ◌⊎◌, inl, inr, refl, sym, ap, subst, ◌∙◌}
use Rattle.std.specs.Prelude.{Option, None, Some, IfErr, Result, Ok, Err}
use Rattle.elf_model.specs.Budget.{IsBudgetRefusal}
use Rattle.elf_model.specs.Checks.{first_refusal, load_checks}
use Rattle.elf_model.specs.LinkArchives.{refusal_of}
use Rattle.elf_model.specs.LinkKeys.{LinkKeys, LinkSymbol}
use Rattle.elf_model.specs.Numbers.{SHT_DYNAMIC}
use Rattle.elf_model.specs.Records.{e_phnum, e_shnum}
use Rattle.elf_model.specs.declared.link_states.LinkRefusal.{LinkRefusal}
use Rattle.elf_model.proofs.BudgetLaws.{is_budget_fault}
use Rattle.elf_table.specs.Prelude.{LoadedAs, StoreState, slots_of}
use Rattle.elf_table.specs.declared.fault.Fault.{Fault}
use Rattle.elf_table.specs.declared.fault.Fault.TheVariants as table
use Rattle.elf_resolve.specs.KeyMarks.{NotedKeys}
use Rattle.elf_resolve.specs.KeyTables.{KeyList}
use Rattle.elf_resolve.specs.LibraryEntries.{FindsOwnName, own_name_from}
use Rattle.elf_resolve.specs.LibraryFiles.{HoldsSomeDynamic, header_of_type, library_versions}
use Rattle.elf_resolve.specs.LibraryKeys.{LibraryVersions}
use Rattle.elf_resolve.specs.LibraryNeeds.{FindsNeed}
use Rattle.elf_resolve.specs.LinkFaults.{fault_of_table}
use Rattle.elf_resolve.specs.ObjectParts.{as_any_refusal, link_header_refusal}
use Rattle.elf_resolve.specs.Objects.{refused_before}
use Rattle.elf_resolve.specs.Taken.{IsLinkFault}
use Rattle.elf_resolve.specs.TakenLibraries.{AsksFor, NamesLibrary, NeedsNone, TakesLibrary, after_passing, known_library, library_headers_refusal, new_library, new_symbols, own_name_in, symbols_after_versions, symbols_with, unless_link_refused}
use Rattle.elf_resolve.specs.declared.library_needs.LibraryNeed.{LibraryNeed}
use Rattle.elf_resolve.specs.declared.link_faults.LinkFault.{LinkFault}
use Rattle.elf_resolve.specs.declared.needed_libraries.LibraryEnd.{LibraryEnd}
use Rattle.elf_resolve.specs.declared.string_buffer.HeldText.{HeldText}
use Rattle.elf_resolve.proofs.LinkFaultLaws.{fault_of_any}
use Rattle.elf_resolve.proofs.ObjectRefusals.{load_same}

-- A LIBRARY WITHOUT ENTRIES has no own name
pub name_none : (file bytes : List ℕ) (header : Option ℕ) → HoldsSomeDynamic file bytes header None → FindsOwnName (own_name_in file header) bytes (Ok None)
unfolding own_name_from
name_none file bytes None held = (None, refl, refl)
name_none file bytes (Some at) held = (None, ap (λ n. own_name_from file at 0 (n / 16) None) (held at refl), refl)

-- ITS NAME is kept, or there is no room for it, or it is refused
pub name_kept : (known : Result (Option (List ℕ)) LinkRefusal) (own : Option (List ℕ)) (result : Result HeldText LinkFault) → known ≡ Ok own → IfErr result (IsLinkFault None) → NamesLibrary known result
name_kept known own (Ok text) is limit = (own, is)
name_kept known own (Err fault) is limit = fault_of_any (refusal_of known) fault limit

-- WHO NEEDS IT
pub needs_none : (known : Result (List LinkSymbol) LinkRefusal) (keys : LinkKeys) (marks : NotedKeys) (need : LibraryNeed) → FindsNeed known keys marks (Ok need) → need.by_objects ≡ false → NeedsNone known keys marks
needs_none known keys marks need found lacks = (found.0, found.1, ap (λ (n : LibraryNeed). n.by_objects) (sym found.2) ∙ lacks)

pub asks_either : (known : Result (List LinkSymbol) LinkRefusal) (keys : LinkKeys) (marks : NotedKeys) (asked : Bool) → NeedsNone known keys marks → AsksFor known keys marks (Ok asked)
asks_either known keys marks true none = tt
asks_either known keys marks false none = none

pub not_asked : (known : Result (List LinkSymbol) LinkRefusal) (keys : LinkKeys) (marks : NotedKeys) (asked : Bool) → asked ≡ false → AsksFor known keys marks (Ok asked) → NeedsNone known keys marks
not_asked known keys marks true is asks = absurd (cc)
not_asked known keys marks false is asks = asks

-- THE REFUSALS of its tables, of its own name and of its symbols
pub versions_refuse : (file : List ℕ) (fault : LinkFault) → IsLinkFault (refusal_of (library_versions file)) fault → IsLinkFault (refusal_of (new_symbols file)) fault
versions_refuse file fault is = by_versions (library_versions file) is
  where
    by_versions : (versions : Result LibraryVersions LinkRefusal) → IsLinkFault (refusal_of versions) fault
        → IsLinkFault (refusal_of (after_passing versions (after_passing (own_name_in file (header_of_type file SHT_DYNAMIC)) (symbols_with file versions)))) fault
    by_versions (Err refusal) is = is
    by_versions (Ok versions) is = fault_of_any (refusal_of (after_passing (own_name_in file (header_of_type file SHT_DYNAMIC)) (symbols_with file (Ok versions)))) fault is

pub symbols_refuse : (file : List ℕ) (fault : LinkFault) → IsLinkFault (refusal_of (library_versions file)) fault → IsLinkFault (refusal_of (symbols_after_versions file)) fault
symbols_refuse file fault is = by_versions (library_versions file) is
  where
    by_versions : (versions : Result LibraryVersions LinkRefusal) → IsLinkFault (refusal_of versions) fault → IsLinkFault (refusal_of (symbols_with file versions)) fault
    by_versions (Err refusal) is = is
    by_versions (Ok versions) is = fault_of_any (refusal_of (symbols_with file (Ok versions))) fault is

new_is : (file : List ℕ) (versions : LibraryVersions) → library_versions file ≡ Ok versions
    → new_symbols file ≡ after_passing (own_name_in file (header_of_type file SHT_DYNAMIC)) (symbols_with file (Ok versions))
new_is file versions known = ap (λ v. after_passing v (after_passing (own_name_in file (header_of_type file SHT_DYNAMIC)) (symbols_with file v))) known

pub name_refuses : (file : List ℕ) (versions : LibraryVersions) (fault : LinkFault) → library_versions file ≡ Ok versions → IsLinkFault (refusal_of (own_name_in file (header_of_type file SHT_DYNAMIC))) fault
    → IsLinkFault (refusal_of (new_symbols file)) fault
name_refuses file versions fault known is =
    subst (λ (r : Result (List LinkSymbol) LinkRefusal). IsLinkFault (refusal_of r) fault) (sym (new_is file versions known)) (by_name (own_name_in file (header_of_type file SHT_DYNAMIC)) (symbols_with file (Ok versions)) is)
  where
    by_name : (own : Result (Option (List ℕ)) LinkRefusal) (rest : Result (List LinkSymbol) LinkRefusal) → IsLinkFault (refusal_of own) fault → IsLinkFault (refusal_of (after_passing own rest)) fault
    by_name (Err refusal) rest is = is
    by_name (Ok own) rest is = fault_of_any (refusal_of rest) fault is

pub new_symbols_are : (file : List ℕ) (versions : LibraryVersions) (own : Option (List ℕ)) → library_versions file ≡ Ok versions → own_name_in file (header_of_type file SHT_DYNAMIC) ≡ Ok own
    → symbols_with file (Ok versions) ≡ new_symbols file
new_symbols_are file versions own known named = sym (new_is file versions known ∙ ap (λ n. after_passing n (symbols_with file (Ok versions))) named)

pub symbols_are : (file : List ℕ) (versions : LibraryVersions) → library_versions file ≡ Ok versions → symbols_with file (Ok versions) ≡ symbols_after_versions file
symbols_are file versions known = sym (ap (symbols_with file) known)

-- A LIBRARY IS TAKEN as what is known of it says
pub taken_as : (part whole : Result (List LinkSymbol) LinkRefusal) (old new : KeyList) (marks noted : NotedKeys) (row other : ℕ) (result : Result LibraryEnd LinkFault) → part ≡ whole → marks ≡ noted → row ≡ other
    → TakesLibrary part old new marks row result → TakesLibrary whole old new noted other result
taken_as part whole old new marks noted row other result same same_marks same_row takes =
    subst (λ r. TakesLibrary whole old new noted r result) same_row
    (subst (λ m. TakesLibrary whole old new m row result) same_marks (subst (λ (k : Result (List LinkSymbol) LinkRefusal). TakesLibrary k old new marks row result) same takes))

-- THE REFUSALS OF ITS HEADERS come first
module _ (rest : Result (List LinkSymbol) LinkRefusal) (file : List ℕ) (headers : ℕ) where
  abbrev whole : Result (List LinkSymbol) LinkRefusal
  whole = unless_link_refused (library_headers_refusal file headers) rest

  by_refusal : (refusal : Option LinkRefusal) (fault : LinkFault) → IsLinkFault refusal fault → IsLinkFault (refusal_of (unless_link_refused refusal rest)) fault
  by_refusal None fault is = fault_of_any (refusal_of rest) fault is
  by_refusal (Some refusal) fault is = is

  before_it : (first second : Option LinkRefusal) (fault : LinkFault) → IsLinkFault first fault → IsLinkFault (refused_before first second) fault
  before_it None second fault is = fault_of_any second fault is
  before_it (Some refusal) second fault is = is

  pub header_refuses : (fault : LinkFault) → IsLinkFault (link_header_refusal file 3) fault → IsLinkFault (refusal_of whole) fault
  header_refuses fault is = by_refusal (library_headers_refusal file headers) fault (before_it (link_header_refusal file 3) (as_any_refusal (first_refusal (load_checks file headers))) fault is)

  after_header : link_header_refusal file 3 ≡ None → library_headers_refusal file headers ≡ as_any_refusal (first_refusal (load_checks file headers))
  after_header passes = ap (λ h. refused_before h (as_any_refusal (first_refusal (load_checks file headers)))) passes

  load_refusal : (store : StoreState) (fault : Fault) → 1 ≤ headers → store.slots ≡ slots_of headers (e_shnum file) (e_phnum file) → LoadedAs file (Err fault) store
      → IsLinkFault (as_any_refusal (first_refusal (load_checks file headers))) (fault_of_table fault)
  load_refusal store (table.Refused refusal) some slots loads = by_cause (is_budget_fault refusal.cause)
    where
      by_cause : (IsBudgetRefusal refusal) ⊎ (IsBudgetRefusal refusal → ⊥) → IsLinkFault (as_any_refusal (first_refusal (load_checks file headers))) (fault_of_table (table.Refused refusal))
      by_cause (inl budget) = inl budget
      by_cause (inr other) = inr (ap as_any_refusal (sym (load_same file headers store.slots some slots) ∙ loads other))
  load_refusal store (table.Source other at) some slots loads = tt

  pub load_refuses : (store : StoreState) (fault : Fault) → 1 ≤ headers → link_header_refusal file 3 ≡ None → store.slots ≡ slots_of headers (e_shnum file) (e_phnum file) → LoadedAs file (Err fault) store
      → IsLinkFault (refusal_of whole) (fault_of_table fault)
  load_refuses store fault some passes slots loads =
      by_refusal (library_headers_refusal file headers) (fault_of_table fault)
      (subst (λ r. IsLinkFault r (fault_of_table fault)) (sym (after_header passes)) (load_refusal store fault some slots loads))

  pub after_load : (slots : ℕ) → 1 ≤ headers → link_header_refusal file 3 ≡ None → slots ≡ slots_of headers (e_shnum file) (e_phnum file) → first_refusal (load_checks file slots) ≡ None → rest ≡ whole
  after_load slots some passes is pass =
      sym (ap (λ r. unless_link_refused r rest) (after_header passes ∙ ap as_any_refusal (sym (load_same file headers slots some is) ∙ pass)))

-- A LIBRARY that is known, and a new one, by these parts
pub known_parts : (file : List ℕ) (headers : ℕ) → unless_link_refused (library_headers_refusal file headers) (symbols_after_versions file) ≡ known_library file headers
unfolding known_library
known_parts file headers = refl

pub new_parts : (file : List ℕ) (headers : ℕ) → unless_link_refused (library_headers_refusal file headers) (new_symbols file) ≡ new_library file headers
unfolding new_library
new_parts file headers = refl

pub part_fault : (part all : Result (List LinkSymbol) LinkRefusal) (fault : LinkFault) → part ≡ all → IsLinkFault (refusal_of part) fault → IsLinkFault (refusal_of all) fault
part_fault part all fault same is = subst (λ (k : Result (List LinkSymbol) LinkRefusal). IsLinkFault (refusal_of k) fault) same is
