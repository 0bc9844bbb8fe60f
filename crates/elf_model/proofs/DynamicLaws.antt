-- The laws of dynamic entries.
use Rattle.std.proofs.Common.{◌≡◌, ◌≢◌, ℕ, suc, zero, ◌+◌, ◌<◌, ◌≤◌, ◌==◌, true, false, List, ◌⊎◌, inl, inr, refl, ap, sym, ◌∙◌, arith, zero-le, Some, None}
use Rattle.std.proofs.lemmas.Bool.Decides.{nat_tests}
use Rattle.std.proofs.lemmas.Bool.{cases_lt}
use Rattle.elf_model.specs.Prelude.{CountedIsListed, DT_NULL, IsFirstValue, IsListed, ListedIsCounted, NoValueHasNoTag, ValueIsFirst, d_tag, d_un, dynamic_at, dynamic_count, dynamic_value}
use Rattle.elf_model.proofs.SameLaws.{alike-or-other}

null-or-not : (tag : ℕ) → (tag ≡ DT_NULL) ⊎ (tag ≢ DT_NULL)
null-or-not tag = grind (arith, nat_tests)

pub count-null : (file : List ℕ) (at n : ℕ) → d_tag file at ≡ DT_NULL → dynamic_count file at (suc n) ≡ 1
unfolding dynamic_count
count-null file at n h = let t : (d_tag file at == DT_NULL) ≡ true = grind (arith, nat_tests) in rw (t, dynamic_count) refl

pub count-more : (file : List ℕ) (at n : ℕ) → d_tag file at ≢ DT_NULL → dynamic_count file at (suc n) ≡ suc (dynamic_count file (at + 16) n)
unfolding dynamic_count
count-more file at n h = let t : (d_tag file at == DT_NULL) ≡ false = grind (arith, nat_tests) in rw (t, dynamic_count) refl

pub count-zero : (file : List ℕ) (at : ℕ) → dynamic_count file at zero ≡ 0
unfolding dynamic_count
count-zero file at = refl

entry-suc : (at i : ℕ) → dynamic_at (at + 16) i ≡ dynamic_at at (suc i)
entry-suc at i = omega arith

entry-zero : (at : ℕ) → dynamic_at at 0 ≡ at
entry-zero at = omega arith

listed-null : (file : List ℕ) (at n : ℕ) → d_tag file at ≡ DT_NULL → IsListed file at (suc n) 1
listed-null file at n h =
    record { within = omega arith; none_before = λ i l. absurd (omega arith); ended = λ l. (0, refl, ap (d_tag file) (entry-zero at) ∙ h) }

listed-more : (file : List ℕ) (at n count : ℕ) → d_tag file at ≢ DT_NULL → IsListed file (at + 16) n count → IsListed file at (suc n) (suc count)
listed-more file at n count h k = record { within = omega arith; none_before = none; ended = end }
  where
    none : (i : ℕ) → suc i < suc count → d_tag file (dynamic_at at i) ≢ DT_NULL
    none zero l = λ e. h (ap (d_tag file) (sym (entry-zero at)) ∙ e)
    none (suc i) l = λ e. k.none_before i (omega arith) (ap (d_tag file) (entry-suc at i) ∙ e)

    end : suc count < suc n → (last : ℕ) × (suc count ≡ suc last) × (d_tag file (dynamic_at at last) ≡ DT_NULL)
    end l = let e = k.ended (omega arith) in (suc e.0, ap suc e.1, ap (d_tag file) (sym (entry-suc at e.0)) ∙ e.2)

pub counted_is_listed : CountedIsListed
counted_is_listed file at zero = rw (count-zero file at) (record { within = zero-le; none_before = λ i l. absurd (omega arith); ended = λ l. absurd (omega arith) })
counted_is_listed file at (suc n) = step (counted_is_listed file (at + 16) n) (null-or-not (d_tag file at))
  where
    step : IsListed file (at + 16) n (dynamic_count file (at + 16) n) → (d_tag file at ≡ DT_NULL) ⊎ (d_tag file at ≢ DT_NULL)
        → IsListed file at (suc n) (dynamic_count file at (suc n))
    step more (inl h) = rw (count-null file at n h) (listed-null file at n h)
    step more (inr h) = rw (count-more file at n h) (listed-more file at n (dynamic_count file (at + 16) n) h more)

no-less : (file : List ℕ) (at n a b : ℕ) → IsListed file at n a → IsListed file at n b → a < b → ⊥
no-less file at n a b p q l =
    let w = q.within in
    let e = p.ended (omega arith) in
    let f = e.1 in
    q.none_before e.0 (omega arith) e.2

one-count : (file : List ℕ) (at n a b : ℕ) → IsListed file at n a → IsListed file at n b → a ≡ b
one-count file at n a b p q = go (cases_lt a b) (cases_lt b a)
  where
    go : (a < b) ⊎ (b ≤ a) → (b < a) ⊎ (a ≤ b) → a ≡ b
    go (inl l) m = absurd (no-less file at n a b p q l)
    go (inr l) (inl m) = absurd (no-less file at n b a q p m)
    go (inr l) (inr m) = omega arith

pub listed_is_counted : ListedIsCounted
listed_is_counted file at n count h = one-count file at n (dynamic_count file at n) count (counted_is_listed file at n) h

-- no entry is the last: all are listed
pub count-all : (file : List ℕ) (at n : ℕ) → ((i : ℕ) → i < n → d_tag file (dynamic_at at i) ≢ DT_NULL) → dynamic_count file at n ≡ n
count-all file at n none =
    listed_is_counted file at n n (record { within = omega arith; none_before = λ i l. none i (omega arith); ended = λ l. absurd (omega arith) })

-- the first DT_NULL is the last that is listed
pub count-first : (file : List ℕ) (at n i : ℕ) → i < n → ((j : ℕ) → j < i → d_tag file (dynamic_at at j) ≢ DT_NULL) → d_tag file (dynamic_at at i) ≡ DT_NULL
    → dynamic_count file at n ≡ suc i
count-first file at n i l none h =
    listed_is_counted file at n (suc i) (record { within = l; none_before = λ j m. none j (omega arith); ended = λ m. (i, refl, h) })

-- no entry has no value
pub value-none : (file : List ℕ) (at tag : ℕ) → dynamic_value file at zero tag ≡ None
unfolding dynamic_value
value-none file at tag = refl

-- the first entry gives its value if it has the tag
pub value-here : (file : List ℕ) (at n tag : ℕ) → d_tag file at ≡ tag → dynamic_value file at (suc n) tag ≡ Some (d_un file at)
unfolding dynamic_value
value-here file at n tag h = let t : (d_tag file at == tag) ≡ true = grind (arith, nat_tests) in rw (t, dynamic_value) refl

-- otherwise those after it do
pub value-more : (file : List ℕ) (at n tag : ℕ) → d_tag file at ≢ tag → dynamic_value file at (suc n) tag ≡ dynamic_value file (at + 16) n tag
unfolding dynamic_value
value-more file at n tag h = let t : (d_tag file at == tag) ≡ false = grind (arith, nat_tests) in rw (t, dynamic_value) refl

first-here : (file : List ℕ) (at n tag value : ℕ) → d_tag file at ≡ tag → d_un file at ≡ value → IsFirstValue file at (suc n) tag value
first-here file at n tag value h v = record {
  index = 0;
  below = omega arith;
  tagged = ap (d_tag file) (entry-zero at) ∙ h;
  its_value = ap (d_un file) (entry-zero at) ∙ v;
  none_before = λ i l. absurd (omega arith);
}

first-more : (file : List ℕ) (at n tag value : ℕ) → d_tag file at ≢ tag → IsFirstValue file (at + 16) n tag value → IsFirstValue file at (suc n) tag value
first-more file at n tag value h k = record {
  index = suc k.index;
  below = let l = k.below in omega arith;
  tagged = ap (d_tag file) (sym (entry-suc at k.index)) ∙ k.tagged;
  its_value = ap (d_un file) (sym (entry-suc at k.index)) ∙ k.its_value;
  none_before = none;
}
  where
    none : (i : ℕ) → i < suc k.index → d_tag file (dynamic_at at i) ≢ tag
    none zero l = λ e. h (ap (d_tag file) (sym (entry-zero at)) ∙ e)
    none (suc i) l = λ e. k.none_before i (omega arith) (ap (d_tag file) (entry-suc at i) ∙ e)

pub value_is_first : ValueIsFirst
value_is_first file at zero tag value e = let n = value-none file at tag in cc
value_is_first file at (suc n) tag value e = step (λ h. value_is_first file (at + 16) n tag value h) (alike-or-other (d_tag file at) tag)
  where
    step : (dynamic_value file (at + 16) n tag ≡ Some value → IsFirstValue file (at + 16) n tag value) → (d_tag file at ≡ tag) ⊎ (d_tag file at ≢ tag)
        → IsFirstValue file at (suc n) tag value
    step more (inl h) =
        let s : Some (d_un file at) ≡ Some value = sym (value-here file at n tag h) ∙ e in
        let v : d_un file at ≡ value = cc in
        first-here file at n tag value h v
    step more (inr h) = first-more file at n tag value h (more (sym (value-more file at n tag h) ∙ e))

pub no_value_has_no_tag : NoValueHasNoTag
no_value_has_no_tag file at zero tag e = λ i l. absurd (omega arith)
no_value_has_no_tag file at (suc n) tag e = step (λ h. no_value_has_no_tag file (at + 16) n tag h) (alike-or-other (d_tag file at) tag)
  where
    step : (dynamic_value file (at + 16) n tag ≡ None → (i : ℕ) → i < n → d_tag file (dynamic_at (at + 16) i) ≢ tag) → (d_tag file at ≡ tag) ⊎ (d_tag file at ≢ tag)
        → (i : ℕ) → i < suc n → d_tag file (dynamic_at at i) ≢ tag
    step more (inl h) = let s : Some (d_un file at) ≡ None = sym (value-here file at n tag h) ∙ e in cc
    step more (inr h) = none
      where
        none : (i : ℕ) → i < suc n → d_tag file (dynamic_at at i) ≢ tag
        none zero l = λ t. h (ap (d_tag file) (sym (entry-zero at)) ∙ t)
        none (suc i) l = λ t. more (sym (value-more file at n tag h) ∙ e) i (omega arith) (ap (d_tag file) (entry-suc at i) ∙ t)
