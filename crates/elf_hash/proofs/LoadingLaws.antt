-- What a file that locates no section headers implies for its load, and the cost of it.
use Rattle.std.proofs.Common.{◌≡◌, ℕ, ◌+◌, ◌*◌, ◌≤◌, List, ◌++◌, None, Err, refl, sym, ap, ◌∙◌, arith}
use Rattle.std.specs.Prelude.{is_none}
use Rattle.std.proofs.lemmas.List.{append_assoc}
use Rattle.elf_model.specs.Prelude.{before_headers, e_phnum, early_checks, first_refusal, header_checks, load_checks, section_name_checks}
use Rattle.elf_model.proofs.CheckSteps.{first_refusal-none, first_refusal-some, passes_front}
use Rattle.elf_model.proofs.SumLemmas.{cost_where-le}
use Rattle.elf_record.specs.declared.ehdr.Ehdr.{Ehdr}
use Rattle.elf_table.specs.Prelude.{HeaderRead, IsOfRead, LoadedAs, StoreState, early_of, load_cost}
use Rattle.elf_table.specs.declared.fault.Fault.{Fault}
use Rattle.elf_table.specs.declared.fault.Fault.TheVariants.{Refused, Source}
use Rattle.elf_hash.specs.Loading.{LoadsSegments, segments_load_cost}

-- no section header is requested
pub load_none : (header : Ehdr) (size slots : ℕ) → header.e_shnum ≡ 0 → load_cost header size slots ≡ 0
load_none header size slots none =
    let most : load_cost header size slots ≤ 64 * header.e_shnum =
    cost_where-le (is_none (first_refusal (early_of header size slots))) (64 * header.e_shnum) in
    omega (arith, most, none)

module _ (file : List ℕ) (headers : ℕ) where
  pub header_stops : (fault : Fault) (store : StoreState) → HeaderRead file (Err fault) → LoadsSegments file headers store (Err fault)
  header_stops (Refused refusal) store read = λ other. first_refusal-some (header_checks file) (load_checks file headers) refusal (read other)
  header_stops (Source fault at) store read = tt

  pub load_stops : (fault : Fault) (store : StoreState) → first_refusal (header_checks file) ≡ None → store.slots ≡ headers → LoadedAs file (Err fault) store
      → LoadsSegments file headers store (Err fault)
  load_stops (Refused refusal) store passed slots loads = λ other.
      first_refusal-none (header_checks file) (load_checks file headers) passed ∙ ap (λ (n : ℕ). first_refusal (load_checks file n)) (sym slots) ∙ loads other
  load_stops (Source fault at) store passed slots loads = tt

  -- a fault of a read implies nothing
  pub read_stops : (fault : Fault) (store : StoreState) → IsOfRead fault → LoadsSegments file headers store (Err fault)
  read_stops (Refused refusal) store budget = λ other. absurd (other budget)
  read_stops (Source fault at) store budget = tt

  pub all_pass : (slots : ℕ) → slots ≡ headers → first_refusal (header_checks file) ≡ None → first_refusal (load_checks file slots) ≡ None
      → first_refusal (header_checks file ++ load_checks file headers) ≡ None
  all_pass slots same header load =
      first_refusal-none (header_checks file) (load_checks file headers) header ∙ ap (λ (n : ℕ). first_refusal (load_checks file n)) (sym same) ∙ load

  -- if they pass the program headers are requested
  pub early_pass : first_refusal (header_checks file ++ load_checks file headers) ≡ None → first_refusal (before_headers file headers) ≡ None
  early_pass passes =
      passes_front (before_headers file headers) (section_name_checks file)
      (ap first_refusal (append_assoc (header_checks file) (early_checks file headers) (section_name_checks file)) ∙ passes)

  pub cost_passed : first_refusal (header_checks file ++ load_checks file headers) ≡ None → segments_load_cost file headers ≡ 64 + 56 * e_phnum file
  cost_passed passes = rw (early_pass passes) refl
