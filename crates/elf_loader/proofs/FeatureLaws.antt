-- The first list of properties among segments, and the feature bits in it.
use Rattle.std.proofs.Common.{◌≡◌, ℕ, suc, ◌+◌, ◌-◌, ◌*◌, ◌<◌, ◌≤◌, ◌==◌, Bool, true, false, List, length, Option, None, Some, Result, Ok, Err, refl, sym, ap, subst, ◌∙◌, arith, mul-le-mul, add-mul}
use Rattle.elf_model.specs.Prelude.{EM_X86_64, PT_NOTE, PropertyList, e_machine, e_phnum, features_in, listed_from, listed_in, p_type, properties_asked, property_list, segment_at, sum_over, x86_feature_word}
use Rattle.elf_model.specs.declared.causes.Refusal.{Refusal}
use Rattle.elf_model.proofs.SumLemmas.{last_cost, sums_grow}
use Rattle.elf_table.specs.declared.fault.Fault.{Fault}
use Rattle.elf_table.specs.declared.fault.Fault.TheVariants.{Refused, Source}
use Rattle.elf_loader.specs.Prelude.{ReturnsList, ReturnsValue, all_notes_asked, is_list, list_at, notes_asked}
use Rattle.elf_loader.specs.declared.trait_notes.PropertyRange.{PropertyRange}

module _ (file : List ℕ) where
  pub list_other : (i : ℕ) → (p_type file (segment_at file i) == PT_NOTE) ≡ false → list_at file i ≡ Ok None
  list_other i isnt = rw (isnt, list_at) refl

  list_notes : (i : ℕ) → (p_type file (segment_at file i) == PT_NOTE) ≡ true → list_at file i ≡ listed_in file (segment_at file i)
  list_notes i is = rw (is, list_at) refl

  pub from_none : (first : ℕ) → listed_from file first 0 ≡ Ok None
  unfolding listed_from
  from_none first = refl

  -- the result starting at a program header, by its own result
  abbrev behind : ℕ → ℕ → Result (Option PropertyList) Refusal → Result (Option PropertyList) Refusal
  behind first n (Err refusal) = Err refusal
  behind first n (Ok (Some list)) = Ok (Some list)
  behind first n (Ok None) = listed_from file (suc first) n

  from_is : (first n : ℕ) → listed_from file first (suc n) ≡ behind first n (list_at file first)
  unfolding listed_from
  from_is first n = go (p_type file (segment_at file first) == PT_NOTE) refl
    where
      notes : (p_type file (segment_at file first) == PT_NOTE) ≡ true → (told : Result (Option PropertyList) Refusal) → listed_in file (segment_at file first) ≡ told
          → listed_from file first (suc n) ≡ behind first n told
      notes is (Err refusal) e = rw (is, e, listed_from) refl
      notes is (Ok (Some list)) e = rw (is, e, listed_from) refl
      notes is (Ok None) e = rw (is, e, listed_from) refl

      go : (b : Bool) → (p_type file (segment_at file first) == PT_NOTE) ≡ b → listed_from file first (suc n) ≡ behind first n (list_at file first)
      go true is = notes is (listed_in file (segment_at file first)) refl ∙ ap (behind first n) (sym (list_notes first is))
      go false isnt = (rw (isnt, listed_from) refl) ∙ ap (behind first n) (sym (list_other first isnt))

  pub from_some : (first n : ℕ) (list : PropertyList) → list_at file first ≡ Ok (Some list) → listed_from file first (suc n) ≡ Ok (Some list)
  from_some first n list e = from_is first n ∙ ap (behind first n) e

  pub from_fails : (first n : ℕ) (refusal : Refusal) → list_at file first ≡ Err refusal → listed_from file first (suc n) ≡ Err refusal
  from_fails first n refusal e = from_is first n ∙ ap (behind first n) e

  pub from_more : (first n : ℕ) → list_at file first ≡ Ok None → listed_from file first (suc n) ≡ listed_from file (suc first) n
  from_more first n e = from_is first n ∙ ap (behind first n) e

  pub list_is : property_list file ≡ listed_from file 0 (e_phnum file)
  unfolding property_list
  list_is = refl

  -- what the notes of the segments so far request, and of one more, is within what all do
  pub asked_next : (i : ℕ) → sum_over (notes_asked file) 0 i + notes_asked file i ≡ sum_over (notes_asked file) 0 (i + 1)
  asked_next i =
      let last = last_cost (notes_asked file) 0 i in
      let here : 0 + i ≡ i = omega arith in
      let same = ap (notes_asked file) here in
      omega (arith, last, same)

  pub asked_all : (i : ℕ) → i ≤ e_phnum file → sum_over (notes_asked file) 0 i ≤ all_notes_asked file
  asked_all i within = sums_grow (notes_asked file) 0 i (e_phnum file) within

  -- THE FEATURE BITS
  pub other_machine : (e_machine file == EM_X86_64) ≡ false → x86_feature_word file ≡ Ok 0
  unfolding x86_feature_word
  other_machine isnt = rw (isnt, x86_feature_word) refl

  module _ (is : (e_machine file == EM_X86_64) ≡ true) where
    pub word_none : property_list file ≡ Ok None → x86_feature_word file ≡ Ok 0
    unfolding x86_feature_word
    word_none e = rw (is, e, x86_feature_word) refl

    pub word_fails : (refusal : Refusal) → property_list file ≡ Err refusal → x86_feature_word file ≡ Err refusal
    unfolding x86_feature_word
    word_fails refusal e = rw (is, e, x86_feature_word) refl

    pub word_some : (list : PropertyList) → property_list file ≡ Ok (Some list) → x86_feature_word file ≡ features_in list
    unfolding x86_feature_word
    word_some list e = rw (is, e, x86_feature_word) refl

    -- a fault of the list is one of the feature bits
    pub list_fails : (fault : Fault) → ReturnsList file (property_list file) (Err fault) → ReturnsValue {X = ℕ} (x86_feature_word file) (Err fault)
    list_fails (Refused refusal) tells = λ other. word_fails refusal (tells other)
    list_fails (Source fault at) tells = tt

    -- what is requested
    pub asked_least : all_notes_asked file ≤ properties_asked file
    unfolding properties_asked
    asked_least =
        let asked : properties_asked file ≡ all_notes_asked file + (elim (property_list file) [ Err refusal ↦ 0 | Ok None ↦ 0 | Ok (Some list) ↦ length list.bytes ]) = rw (is, properties_asked) refl in
        omega (arith, asked)

    pub asked_list : (list : PropertyList) → property_list file ≡ Ok (Some list) → properties_asked file ≡ all_notes_asked file + length list.bytes
    unfolding properties_asked
    asked_list list e = rw (is, e, properties_asked) refl

-- one more segment, in a source of a size
pub product_next : (i count size : ℕ) → i < count → i * size + size ≤ count * size
product_next i count size below =
    let one : (i + 1) * size ≡ i * size + 1 * size = add-mul i 1 size in
    let most : (i + 1) * size ≤ count * size = mul-le-mul (omega arith) (omega arith) in
    omega (arith, one, most)

pub product_most : (i count size : ℕ) → i ≤ count → i * size ≤ count * size
product_most i count size below = mul-le-mul below (omega arith)

-- A LOOP over segments: the result starting at one
module _ (file : List ℕ) where
  pub lists_begin : property_list file ≡ listed_from file 0 (e_phnum file - 0)
  lists_begin = let all : e_phnum file ≡ e_phnum file - 0 = omega arith in list_is file ∙ ap (listed_from file 0) all

  module _ (i : ℕ) (below : i < e_phnum file) (left : property_list file ≡ listed_from file i (e_phnum file - i)) where
    one_less : e_phnum file - i ≡ suc (e_phnum file - suc i)
    one_less = omega arith

    pub lists_some : (list : PropertyList) → list_at file i ≡ Ok (Some list) → property_list file ≡ Ok (Some list)
    lists_some list e = left ∙ (ap (listed_from file i) one_less ∙ from_some file i (e_phnum file - suc i) list e)

    pub lists_fail : (refusal : Refusal) → list_at file i ≡ Err refusal → property_list file ≡ Err refusal
    lists_fail refusal e = left ∙ (ap (listed_from file i) one_less ∙ from_fails file i (e_phnum file - suc i) refusal e)

    pub lists_next : (next : ℕ) → next ≡ i + 1 → list_at file i ≡ Ok None → property_list file ≡ listed_from file next (e_phnum file - next)
    lists_next next on e =
        let same : suc i ≡ next = omega (arith, on) in
        left ∙ (ap (listed_from file i) one_less ∙ (from_more file i (e_phnum file - suc i) e ∙ ap (λ (n : ℕ). listed_from file n (e_phnum file - n)) same))

    pub lists_stop : (fault : Fault) → ReturnsList file (list_at file i) (Err fault) → ReturnsList file (property_list file) (Err fault)
    lists_stop (Refused refusal) tells = λ other. lists_fail refusal (tells other)
    lists_stop (Source fault at) tells = tt

    pub lists_here : (list : PropertyRange) → ReturnsList file (list_at file i) (Ok (Some list)) → ReturnsList file (property_list file) (Ok (Some list))
    lists_here list tells = lists_some (is_list file list) tells

  pub lists_end : (i : ℕ) → e_phnum file ≤ i → property_list file ≡ listed_from file i (e_phnum file - i) → property_list file ≡ Ok None
  lists_end i behind left = let none : e_phnum file - i ≡ 0 = omega arith in left ∙ (ap (listed_from file i) none ∙ from_none file i)

-- the result for a value, in other terms
pub value_of : {X : Type 0} (told other : Result X Refusal) (result : Result X Fault) → told ≡ other → ReturnsValue told result → ReturnsValue other result
value_of told other result same tells = subst (λ t. ReturnsValue t result) same tells
