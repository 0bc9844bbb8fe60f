-- Consecutive lists of checks, and the results after them.
use Rattle.std.proofs.Common.{◌≡◌, ℕ, false, List, [], ◌++◌, None, Ok, Err, sym, ◌∙◌}
use Rattle.elf_model.specs.Checks.{Check, first_refusal}
use Rattle.elf_model.proofs.CheckSteps.{first_refusal-none, first_refusal-some}
use Rattle.elf_table.specs.Prelude.{IsOfCheck, LoadedFile, RefusedBy, StoreState, checked}
use Rattle.elf_table.specs.declared.fault.Fault.{Fault}
use Rattle.elf_table.specs.declared.fault.Fault.TheVariants.{Refused, Source}
use Rattle.elf_table.proofs.RelocationLaws.{passed_first, table-fails}
use Rattle.elf_hash.specs.Headers.{FindsIn}

-- no check refuses nothing
pub none_refused : (fault : Fault) → RefusedBy [] fault → ⊥
none_refused (Refused refusal) r = cc
none_refused (Source fault at) r = r

-- a refusal in the first list, and one in the second
pub refused_front : (front back : List Check) (fault : Fault) → RefusedBy front fault → RefusedBy (front ++ back) fault
refused_front front back (Refused refusal) r = first_refusal-some front back refusal r
refused_front front back (Source fault at) r = r

pub refused_back : (front back : List Check) (fault : Fault) → first_refusal front ≡ None → RefusedBy back fault → RefusedBy (front ++ back) fault
refused_back front back (Refused refusal) p r = first_refusal-none front back p ∙ r
refused_back front back (Source fault at) p r = r

pub passed_both : (front back : List Check) → first_refusal front ≡ None → first_refusal back ≡ None → first_refusal (front ++ back) ≡ None
passed_both front back p q = first_refusal-none front back p ∙ q

-- a result that is given by checks
pub checked_fails : {A : Type 0} (checks : List Check) (value : A) (fault : Fault) → Err fault ≡ checked checks value → RefusedBy checks fault
checked_fails checks value fault h = (table-fails false value value checks fault (sym h)).1

pub checked_passes : {A : Type 0} (checks : List Check) (value result : A) → Ok result ≡ checked checks value → (first_refusal checks ≡ None) × (value ≡ result)
checked_passes checks value result h = passed_first (first_refusal checks) value result (sym h)

-- a check refuses, or something is found
module _ {X : Type 0} {Of : List ℕ → LoadedFile → StoreState → Type 0} {loaded : LoadedFile} {store : StoreState} {Lies : ℕ → X → Type 0} {Tells : List ℕ → Type 0} where
  pub refuses : (fault : Fault) → IsOfCheck fault → ((bytes : List ℕ) → Of bytes loaded store → Tells bytes) → FindsIn Of loaded store (Err fault) Lies Tells
  refuses fault check told = record { held = told; within = tt; refusal = check }

  pub finds : (x : X) → Lies loaded.size x → ((bytes : List ℕ) → Of bytes loaded store → Tells bytes) → FindsIn Of loaded store (Ok x) Lies Tells
  finds x lies told = record { held = told; within = lies; refusal = tt }
