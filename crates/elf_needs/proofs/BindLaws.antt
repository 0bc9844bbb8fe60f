-- The result of lookups in one file after another.
use Rattle.std.proofs.Common.{◌≡◌, ℕ, zero, suc, ◌+◌, ◌<◌, ◌≤◌, ◌⊎◌, List, [], ◌∷◌, length, length-set, get_or, get_or-set_other, get_or-set_same, set, drop, inl, inr, Option, None, Some, Result, Ok, Err, refl, ap, subst, ◌∙◌, arith}
use Rattle.std.proofs.lemmas.Bool.{cases_lt}
use Rattle.std.proofs.lemmas.List.Sums.{sum_by-set}
use Rattle.elf_model.specs.Prelude.{BoundTo, BoundToNone, StoppedIn, SymbolQuery, bound_from, bound_in, bound_or, definition_lookup}
use Rattle.elf_model.specs.declared.causes.Refusal.{Refusal}
use Rattle.elf_model.specs.Bindings as model
use Rattle.elf_table.specs.declared.fault.Fault.{Fault}
use Rattle.elf_table.specs.declared.fault.Fault.TheVariants.{Refused, Source}
use Rattle.elf_needs.specs.Prelude.{AreObjectFiles, AskedFirst, AskedOf, BindsAcross, ReturnsBinding, asked_of_all}
use Rattle.elf_library.specs.Prelude.{FailsIn, LooksInObject, LookupObjectState, ReturnsDefiner, SpendsBudget}
use Rattle.elf_needs.specs.declared.bind_name.BindResult.TheVariants.{Bound, Unbound}

-- n were searched, and none of them defines the name
pub record BindsSoFar (wanted : SymbolQuery) (old now : List LookupObjectState) (left_old left_now : Option ℕ) (n : ℕ) : Type 0 where
  pub asked : AskedFirst wanted old now n
  pub pays : SpendsBudget left_old left_now (asked_of_all old) (asked_of_all now)
  pub rest : (headers : ℕ) (files : List (List ℕ)) → AreObjectFiles headers old files → bound_in headers wanted files ≡ bound_from n headers wanted (drop n files)

-- what is left, after one payment and another
pays_then : (l0 l1 l2 : Option ℕ) (all now next one more : ℕ) → SpendsBudget l0 l1 all now → SpendsBudget l1 l2 one more → next + one ≡ now + more → SpendsBudget l0 l2 all next
pays_then None None None all now next one more p q same = tt
pays_then (Some l0) (Some l1) (Some l2) all now next one more p q same = omega (arith, p, q, same)
pays_then None None (Some l2) all now next one more p q same = absurd q
pays_then None (Some l1) l2 all now next one more p q same = absurd p
pays_then (Some l0) None l2 all now next one more p q same = absurd p
pays_then (Some l0) (Some l1) None all now next one more p q same = absurd q

-- what one lookup requested
asked_by : (wanted : SymbolQuery) (old new : LookupObjectState) (left_old left_new : Option ℕ) (result : Result (Option ℕ) Fault) → LooksInObject wanted old new left_old left_new result → AskedOf wanted old new
asked_by wanted old new left_old left_new result looks = record {
  keeps = looks.costs.keeps;
  view = looks.costs.view;
  same_headers = looks.same_headers;
  grows = looks.costs.grows;
  at_most = looks.costs.at_most;
  known = λ file held. (looks.known file held).costs.at_most;
}

-- an element is the same whatever replaces none
same_element : (xs : List LookupObjectState) (n : ℕ) (d e : LookupObjectState) → n < length xs → get_or xs n d ≡ get_or xs n e
same_element [] n d e less = absurd (omega (arith, less))
same_element (x ∷ xs) zero d e less = refl
same_element (x ∷ xs) (suc n) d e less = same_element xs n d e (omega (arith, less))

-- one more was read
module _ (wanted : SymbolQuery) (old now : List LookupObjectState) (n : ℕ) (d new : LookupObjectState) (less : n < length now) (before : AskedFirst wanted old now n) (asked : AskedOf wanted (get_or now n d) new) where
  at_it : (e : LookupObjectState) → AskedOf wanted (get_or old n e) (get_or (set now n new) n e)
  at_it e =
      rw (get_or-set_same now n new e less, ← before.others n e (omega arith), same_element now n e d less) asked

  asked_at : (k : ℕ) (e : LookupObjectState) → k < suc n → (k < n) ⊎ (n ≤ k) → AskedOf wanted (get_or old k e) (get_or (set now n new) k e)
  asked_at k e most (inl below) =
      rw (get_or-set_other now n k new e (λ same. omega (arith, same, below))) (before.asked k e below)
  asked_at k e most (inr past) = let same : k ≡ n = omega (arith, most, past) in rw same (at_it e)

  pub asked_more : AskedFirst wanted old (set now n new) (suc n)
  asked_more = record {
    same_length = length-set now n new ∙ before.same_length;
    asked = λ k e most. asked_at k e most (cases_lt k n);
    others = λ k e past. get_or-set_other now n k new e (λ same. omega (arith, same, past)) ∙ before.others k e (omega (arith, past));
  }

-- the file at an index
file_at : (headers n : ℕ) (objects : List LookupObjectState) (files : List (List ℕ)) (d : LookupObjectState) → AreObjectFiles headers objects files → n < length objects
    → (drop n files ≡ get_or files n [] ∷ drop (suc n) files) × ((get_or objects n d).src.seen.file ≡ Some (get_or files n [])) × ((get_or objects n d).headers ≡ headers)
file_at headers n [] [] d are less = absurd (omega (arith, less))
file_at headers n [] (file ∷ files) d are less = absurd are
file_at headers n (object ∷ objects) [] d are less = absurd are
file_at headers zero (object ∷ objects) (file ∷ files) d are less = (refl, are.0, are.1)
file_at headers (suc n) (object ∷ objects) (file ∷ files) d are less = file_at headers n objects files d are.2 (omega (arith, less))

no_file_behind : (headers n : ℕ) (objects : List LookupObjectState) (files : List (List ℕ)) → AreObjectFiles headers objects files → length objects ≤ n → drop n files ≡ []
no_file_behind headers zero [] [] are most = refl
no_file_behind headers (suc n) [] [] are most = refl
no_file_behind headers n [] (file ∷ files) are most = absurd are
no_file_behind headers n (object ∷ objects) [] are most = absurd are
no_file_behind headers zero (object ∷ objects) (file ∷ files) are most = absurd (omega (arith, most))
no_file_behind headers (suc n) (object ∷ objects) (file ∷ files) are most = no_file_behind headers n objects files are.2 (omega (arith, most))

-- by the lookup in the first file
first_of : (index headers : ℕ) (wanted : SymbolQuery) (file : List ℕ) (files : List (List ℕ))
    → bound_from index headers wanted (file ∷ files) ≡ bound_or index (definition_lookup file headers wanted).answer (bound_from (suc index) headers wanted files)
unfolding bound_from
first_of index headers wanted file files = refl

bound_by : (index : ℕ) (answer : Result (Option ℕ) Refusal) (others : model.Binding) (symbol : ℕ) → answer ≡ Ok (Some symbol) → bound_or index answer others ≡ BoundTo index symbol
bound_by index answer others symbol e = rw e refl

unbound_by : (index : ℕ) (answer : Result (Option ℕ) Refusal) (others : model.Binding) → answer ≡ Ok None → bound_or index answer others ≡ others
unbound_by index answer others e = rw e refl

stopped_by : (index : ℕ) (answer : Result (Option ℕ) Refusal) (others : model.Binding) (refusal : Refusal) → answer ≡ Err refusal → bound_or index answer others ≡ StoppedIn index refusal
stopped_by index answer others refusal e = rw e refl

-- ONE MORE FILE: the result of the lookup in it
module _ (wanted : SymbolQuery) (old now : List LookupObjectState) (left_old left_now left_new : Option ℕ) (n : ℕ) (d new : LookupObjectState) (so_far : BindsSoFar wanted old now left_old left_now n) (less : n < length old) where
  within : n < length now
  within = omega (arith, so_far.asked.same_length, less)

  module _ (result : Result (Option ℕ) Fault) (looks : LooksInObject wanted (get_or now n d) new left_now left_new result) where
    is_old : get_or now n d ≡ get_or old n d
    is_old = so_far.asked.others n d (omega arith)

    here : AskedFirst wanted old (set now n new) (suc n)
    here = asked_more wanted old now n d new within so_far.asked (asked_by wanted (get_or now n d) new left_now left_new result looks)

    paid : SpendsBudget left_old left_new (asked_of_all old) (asked_of_all (set now n new))
    paid = pays_then left_old left_now left_new _ _ _ _ _ so_far.pays looks.pays (sum_by-set (λ (o : LookupObjectState). o.src.asked) now n new d within)

    tells_in : (headers : ℕ) (files : List (List ℕ)) → AreObjectFiles headers old files → ReturnsDefiner (definition_lookup (get_or files n []) headers wanted) result
    tells_in headers files are =
        let file = file_at headers n old files d are less in
        let held : (get_or now n d).src.seen.file ≡ Some (get_or files n []) = ap (λ (o : LookupObjectState). o.src.seen.file) is_old ∙ file.1 in
        let same : (get_or now n d).headers ≡ headers = ap (λ (o : LookupObjectState). o.headers) is_old ∙ file.2 in
        subst (λ (h : ℕ). ReturnsDefiner (definition_lookup (get_or files n []) h wanted) result) same (looks.known (get_or files n []) held).tells

    from_here : (headers : ℕ) (files : List (List ℕ)) → AreObjectFiles headers old files
        → bound_in headers wanted files ≡ bound_or n (definition_lookup (get_or files n []) headers wanted).answer (bound_from (suc n) headers wanted (drop (suc n) files))
    from_here headers files are =
        so_far.rest headers files are ∙ ap (bound_from n headers wanted) (file_at headers n old files d are less).0 ∙ first_of n headers wanted (get_or files n []) (drop (suc n) files)

    fails_in : (fault : Fault) → result ≡ Err fault → (e : LookupObjectState) → FailsIn wanted (get_or old n e) (get_or (set now n new) n e) left_new fault
    fails_in fault is e =
        rw (get_or-set_same now n new e within, ← so_far.asked.others n e (omega arith), same_element now n e d within)
        (record { left = left_now; pays = looks.pays; says = (rw is at looks.costs.says) })

  pub binds_more : LooksInObject wanted (get_or now n d) new left_now left_new (Ok None) → BindsSoFar wanted old (set now n new) left_old left_new (n + 1)
  binds_more looks =
      let next : n + 1 ≡ suc n = omega arith in
      rw next
      (record {
        asked = here _ looks;
        pays = paid _ looks;
        rest = λ headers files are.
            from_here _ looks headers files are ∙ unbound_by n _ _ (tells_in _ looks headers files are);
      })

  pub binds_found : (symbol : ℕ) → LooksInObject wanted (get_or now n d) new left_now left_new (Ok (Some symbol)) → BindsAcross wanted old (set now n new) left_old left_new (Ok (Bound n symbol))
  binds_found symbol looks = record {
    asked = here _ looks;
    pays = paid _ looks;
    says = tt;
    tells = λ headers files are. from_here _ looks headers files are ∙ bound_by n _ _ symbol (tells_in _ looks headers files are);
  }

  fault_tells : (fault : Fault) (headers : ℕ) (files : List (List ℕ)) → LooksInObject wanted (get_or now n d) new left_now left_new (Err fault) → AreObjectFiles headers old files
      → ReturnsBinding (bound_in headers wanted files) (Err (record { object = n; fault = fault }))
  fault_tells (Refused refusal) headers files looks are = λ other.
      from_here _ looks headers files are ∙ stopped_by n _ _ refusal (tells_in _ looks headers files are other)
  fault_tells (Source fault at) headers files looks are = tt

  pub binds_fault : (fault : Fault) → LooksInObject wanted (get_or now n d) new left_now left_new (Err fault) → BindsAcross wanted old (set now n new) left_old left_new (Err (record { object = n; fault = fault }))
  binds_fault fault looks = record {
    asked = here _ looks;
    pays = paid _ looks;
    says = λ e. fails_in _ looks fault refl e;
    tells = λ headers files are. fault_tells fault headers files looks are;
  }

-- NO MORE FILE: the name is in none
nothing_from : (index headers : ℕ) (wanted : SymbolQuery) → bound_from index headers wanted [] ≡ BoundToNone
unfolding bound_from
nothing_from index headers wanted = refl

pub binds_none : (wanted : SymbolQuery) (old now : List LookupObjectState) (left_old left_now : Option ℕ) (n : ℕ) → BindsSoFar wanted old now left_old left_now n → n ≡ length old
    → BindsAcross wanted old now left_old left_now (Ok Unbound)
binds_none wanted old now left_old left_now n so_far all = record {
  asked = rw (← all) so_far.asked;
  pays = so_far.pays;
  says = tt;
  tells = λ headers files are.
      so_far.rest headers files are ∙ ap (bound_from n headers wanted) (no_file_behind headers n old files are (omega (arith, all))) ∙ nothing_from n headers wanted;
}
