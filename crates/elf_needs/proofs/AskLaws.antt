-- What was requested from objects, one call after another.
use Rattle.std.proofs.Common.{◌≡◌, ℕ, zero, suc, ◌+◌, ◌<◌, ◌≤◌, ◌-◌, ◌^◌, ◌⊎◌, min, List, [], ◌∷◌, ◌++◌, length, take, length-set, get_or, get_or-set_other, get_or-set_same, set, inl, inr, Option, None, Some, Result, Ok, Err, IfErr, refl, sym, ap, subst, ◌∙◌, arith}
use Rattle.std.proofs.lemmas.Bool.{cases_eq, cases_lt}
use Rattle.std.proofs.lemmas.List.Sums.{sum_by-set}
use Rattle.elf_model.specs.Prelude.{IsBudgetRefusal, SymbolQuery}
use Rattle.elf_model.specs.declared.causes.Refusal.{Refusal}
use Rattle.elf_source.specs.Source.{counted}
use Rattle.elf_table.specs.Ledger.{fault_of_result}
use Rattle.elf_table.specs.declared.fault.Fault.{Fault}
use Rattle.elf_table.specs.declared.fault.Fault.TheVariants.{Refused, Source}
use Rattle.elf_needs.specs.Prelude.{AreObjectFiles, AskedFirst, AsksAll, BindsAcross, SameObject, asked_of_all, reached}
use Rattle.elf_library.specs.Prelude.{FailsIn, FaultLeaves, LookupObjectState, SpendsAtMost, SpendsBudget}
use Rattle.elf_needs.specs.declared.bind_name.BindFault.{BindFault}
use Rattle.elf_needs.specs.declared.bind_name.BindResult.{BindResult}
use Rattle.elf_needs.specs.Bound.{OnlyShort, UsesUp}
use Rattle.elf_needs.proofs.OpenLaws.{pays_then}

same_none : (o : LookupObjectState) → SameObject o o
same_none o = record { same_size = refl; same_file = refl; same_headers = refl; grows = omega arith }

pub same_element : (xs : List LookupObjectState) (n : ℕ) (d e : LookupObjectState) → n < length xs → get_or xs n d ≡ get_or xs n e
same_element [] n d e less = absurd (omega (arith, less))
same_element (x ∷ xs) zero d e less = refl
same_element (x ∷ xs) (suc n) d e less = same_element xs n d e (omega (arith, less))

pays_none : (left : Option ℕ) (asked : ℕ) → SpendsBudget left left asked asked
pays_none None asked = tt
pays_none (Some bytes) asked = refl

pays_one : (l0 l1 : Option ℕ) (one more all next : ℕ) → SpendsBudget l0 l1 one more → next + one ≡ all + more → SpendsBudget l0 l1 all next
pays_one None None one more all next p same = tt
pays_one (Some l0) (Some l1) one more all next p same = omega (arith, p, same)
pays_one None (Some l1) one more all next p same = absurd p
pays_one (Some l0) None one more all next p same = absurd p

-- nothing was requested
pub asks_none : (objects : List LookupObjectState) (left : Option ℕ) → AsksAll objects objects left left
asks_none objects left = record { objects = record { same_length = refl; each = λ k d less. same_none (get_or objects k d) }; pays = pays_none left (asked_of_all objects) }

-- and then more
pub asks_then : {a b c : List LookupObjectState} {l0 l1 l2 : Option ℕ} → AsksAll a b l0 l1 → AsksAll b c l1 l2 → AsksAll a c l0 l2
asks_then {a} {b} {c} {l0} {l1} {l2} p q = record {
  objects = record {
    same_length = q.objects.same_length ∙ p.objects.same_length;
    each = λ k d less.
        let first = p.objects.each k d less in
        let second = q.objects.each k d (omega (arith, less, p.objects.same_length)) in
        record {
          same_size = second.same_size ∙ first.same_size;
          same_file = second.same_file ∙ first.same_file;
          same_headers = second.same_headers ∙ first.same_headers;
          grows = omega (arith, first.grows, second.grows);
        };
  };
  pays = pays_then l0 l1 l2 _ _ _ p.pays q.pays;
}

-- one object was read
module _ (objects : List LookupObjectState) (n : ℕ) (d new : LookupObjectState) (less : n < length objects) where
  one_same : SameObject (get_or objects n d) new → (k : ℕ) (e : LookupObjectState) → k < length objects → (k ≡ n) ⊎ (k ≡ n → ⊥) → SameObject (get_or objects k e) (get_or (set objects n new) k e)
  one_same same k e low (inl at) = rw (at, get_or-set_same objects n new e less, same_element objects n e d less) same
  one_same same k e low (inr other) = rw (get_or-set_other objects n k new e other) (same_none (get_or objects k e))

  pub asks_one : {l0 l1 : Option ℕ} → SameObject (get_or objects n d) new → SpendsBudget l0 l1 (get_or objects n d).src.asked new.src.asked → AsksAll objects (set objects n new) l0 l1
  asks_one {l0} {l1} same pays = record {
    objects = record { same_length = length-set objects n new; each = λ k e low. one_same same k e low (cases_eq k n) };
    pays = pays_one l0 l1 _ _ _ _ pays (sum_by-set (λ (o : LookupObjectState). o.src.asked) objects n new d less);
  }

-- by what it spent
pub spends_same : {old new : LookupObjectState} {left : Option ℕ} {stop : Option Fault} {n : ℕ} → SpendsAtMost old.src new.src left stop n → new.headers ≡ old.headers → SameObject old new
spends_same spends headers = record { same_size = spends.keeps.same_size; same_file = spends.keeps.same_file; same_headers = headers; grows = spends.grows }

-- some were searched
module _ (wanted : SymbolQuery) (old new : List LookupObjectState) (n : ℕ) (first : AskedFirst wanted old new n) where
  first_same : (k : ℕ) (d : LookupObjectState) → (k < n) ⊎ (n ≤ k) → SameObject (get_or old k d) (get_or new k d)
  first_same k d (inl low) = let asked = first.asked k d low in record { same_size = asked.keeps.same_size; same_file = asked.keeps.same_file; same_headers = asked.same_headers; grows = asked.grows }
  first_same k d (inr past) = rw (first.others k d past) (same_none (get_or old k d))

pub asks_bind : {wanted : SymbolQuery} {old new : List LookupObjectState} {l0 l1 : Option ℕ} {result : Result BindResult BindFault} → BindsAcross wanted old new l0 l1 result → AsksAll old new l0 l1
asks_bind {wanted} {old} {new} {l0} {l1} {result} binds = record {
  objects = record {
    same_length = binds.asked.same_length;
    each = λ k d less. first_same wanted old new (reached (length old) result) binds.asked k d (cases_lt k (reached (length old) result));
  };
  pays = binds.pays;
}

-- THE BUDGET IS SHORT
used_by : (asked before bytes : ℕ) (left : Option ℕ) → SpendsBudget (Some bytes) left before asked → counted before bytes < asked + 4096
    → (b : ℕ) × (left ≡ Some b) × (counted asked b < asked + 4096)
used_by asked before bytes (Some b) pays late =
    let same : before + bytes ≡ asked + b = omega (arith, pays) in
    (b, refl, subst (λ (n : ℕ). min n (2 ^ 128 - 1) < asked + 4096) same late)
used_by asked before bytes None pays late = absurd pays

used_up : (old new : LookupObjectState) (l0 l1 : Option ℕ) (n : ℕ) (refusal : Refusal) → FaultLeaves old.src new.src l0 n (Refused refusal) → IsBudgetRefusal refusal → SpendsBudget l0 l1 old.src.asked new.src.asked
    → new.src.seen.size ≡ old.src.seen.size → UsesUp new l1 refusal
used_up old new l0 l1 n refusal says budget pays size =
    let over = (says budget).1 in
    let inside = (says budget).0 in
    let used = used_by new.src.asked old.src.asked over.bytes l1 (subst (λ (l : Option ℕ). SpendsBudget l l1 old.src.asked new.src.asked) over.is_left pays) over.late in
    record { inside = omega (arith, inside, size); bytes = used.0; is_left = used.1; few = used.2 }

-- of an object that was read, among others
pub short_one : (objects : List LookupObjectState) (n : ℕ) (d new : LookupObjectState) (l1 : Option ℕ) {l0 : Option ℕ} {most : ℕ} (fault : Fault) → n < length objects → SpendsAtMost (get_or objects n d).src new.src l0 (Some fault) most
    → SpendsBudget l0 l1 (get_or objects n d).src.asked new.src.asked → OnlyShort (set objects n new) l1 fault
short_one objects n d new l1 {l0} {most} (Refused refusal) less spends pays = λ budget.
    (n, λ e. subst (λ (o : LookupObjectState). UsesUp o l1 refusal) (sym (get_or-set_same objects n new e less)) (used_up (get_or objects n d) new l0 l1 most refusal spends.says budget pays spends.keeps.same_size))
short_one objects n d new l1 (Source fault at) less spends pays = tt

-- the same, if it failed
pub short_if : {X : Type 0} (objects : List LookupObjectState) (n : ℕ) (d new : LookupObjectState) (l1 : Option ℕ) {l0 : Option ℕ} {most : ℕ} → n < length objects → (result : Result X Fault)
    → SpendsAtMost (get_or objects n d).src new.src l0 (fault_of_result result) most → SpendsBudget l0 l1 (get_or objects n d).src.asked new.src.asked → IfErr result (OnlyShort (set objects n new) l1)
short_if objects n d new l1 less (Ok x) spends pays = tt
short_if objects n d new l1 less (Err fault) spends pays = short_one objects n d new l1 fault less spends pays

-- of the object that a lookup over all stopped in
pub short_bind : {wanted : SymbolQuery} {old new : List LookupObjectState} {l0 l1 : Option ℕ} (blame : BindFault) → BindsAcross wanted old new l0 l1 (Err blame) → OnlyShort new l1 blame.fault
short_bind {wanted} {old} {new} {l0} {l1} blame binds = by_fault blame.fault (λ d. binds.says d)
  where
    by_fault : (fault : Fault) → ((d : LookupObjectState) → FailsIn wanted (get_or old blame.object d) (get_or new blame.object d) l1 fault) → OnlyShort new l1 fault
    by_fault (Refused refusal) fails = λ budget. (
      blame.object,
      λ d.
          let failed = fails d in
          used_up (get_or old blame.object d) (get_or new blame.object d) failed.left l1 _ refusal failed.says budget failed.pays (binds.asked.asked blame.object d (omega arith)).keeps.same_size,
    )
    by_fault (Source fault at) fails = tt

-- a prefix of a list is its first elements
pub front_taken : (n : ℕ) (objects others : List LookupObjectState) → length objects ≡ n → take n (objects ++ others) ≡ objects
front_taken zero [] others e = refl
front_taken (suc n) [] others e = absurd (omega (arith, e))
front_taken zero (one ∷ objects) others e = absurd (omega (arith, e))
front_taken (suc n) (one ∷ objects) others e = ap (λ (rest : List LookupObjectState). one ∷ rest) (front_taken n objects others (omega (arith, e)))

-- THE FILES of the objects
pub file_here : (headers n : ℕ) (objects : List LookupObjectState) (files : List (List ℕ)) (d : LookupObjectState) → AreObjectFiles headers objects files → n < length objects
    → ((get_or objects n d).src.seen.file ≡ Some (get_or files n [])) × ((get_or objects n d).headers ≡ headers)
file_here headers n [] [] d are less = absurd (omega (arith, less))
file_here headers n [] (file ∷ files) d are less = absurd are
file_here headers n (object ∷ objects) [] d are less = absurd are
file_here headers zero (object ∷ objects) (file ∷ files) d are less = (are.0, are.1)
file_here headers (suc n) (object ∷ objects) (file ∷ files) d are less = file_here headers n objects files d are.2 (omega (arith, less))

pub as_many : (headers : ℕ) (objects : List LookupObjectState) (files : List (List ℕ)) → AreObjectFiles headers objects files → length files ≡ length objects
as_many headers [] [] are = refl
as_many headers [] (file ∷ files) are = absurd are
as_many headers (object ∷ objects) [] are = absurd are
as_many headers (object ∷ objects) (file ∷ files) are = ap suc (as_many headers objects files are.2)

are_still : (headers : ℕ) (old new : List LookupObjectState) (files : List (List ℕ)) → length new ≡ length old
    → ((k : ℕ) (d : LookupObjectState) → k < length old → SameObject (get_or old k d) (get_or new k d)) → AreObjectFiles headers old files → AreObjectFiles headers new files
are_still headers [] [] files same each are = are
are_still headers [] (n ∷ new) files same each are = absurd (omega (arith, same))
are_still headers (o ∷ old) [] files same each are = absurd (omega (arith, same))
are_still headers (o ∷ old) (n ∷ new) [] same each are = absurd are
are_still headers (o ∷ old) (n ∷ new) (file ∷ files) same each are =
    let first = each 0 o (omega arith) in
    (first.same_file ∙ are.0, first.same_headers ∙ are.1, are_still headers old new files (omega (arith, same)) (λ k d less. each (suc k) d (omega (arith, less))) are.2)

pub are_kept : {old new : List LookupObjectState} {l0 l1 : Option ℕ} (headers : ℕ) (files : List (List ℕ)) → AsksAll old new l0 l1 → AreObjectFiles headers old files → AreObjectFiles headers new files
are_kept {old} {new} headers files asks are = are_still headers old new files asks.objects.same_length asks.objects.each are
