-- Of objects alone the state of a key is the largest of what its symbols are, whatever their order.
use Rattle.std.proofs.Common.{◌≡◌, ℕ, zero, suc, Bool, true, false, List, [], ◌∷◌, refl, sym, ap, subst, ◌∙◌, arith, inl, inr, ◌⊎◌}
use Rattle.std.specs.Prelude.{Contains, ◌==◌, ◌||◌, ◌&&◌, nat_lt, if◌then◌else◌}
use Rattle.std.specs.List.Sorted.{IsPermutation}
use Rattle.std.proofs.lemmas.Bool.Decides.{nat_tests}
use Rattle.std.proofs.lemmas.List.Sorted.{Contains-permutation, IsPermutation-sym}
use Rattle.elf_resolve.specs.KeyStates.{AreOwn, IsOwn, IsOwnState, after, after_all, alone, is_above_state, rank, common_size}
use Rattle.elf_model.specs.LinkSteps.{key_state_after}
use Rattle.elf_model.specs.declared.link_states.StateChange.TheVariants.{Stays, BecomesState}
use Rattle.elf_model.specs.declared.link_states.SymbolRole.{SymbolRole}
use Rattle.elf_model.specs.declared.link_states.SymbolRole.TheVariants.{WeakReference, Reference, Common, Definition}
use Rattle.elf_model.specs.declared.link_states.SymbolRole.TheVariants as role
use Rattle.elf_model.specs.declared.link_states.KeyState.{KeyState}
use Rattle.elf_model.specs.declared.link_states.KeyState.TheVariants.{New, Weak, Undefined, WeakDefined, Defined, Shared}
use Rattle.elf_model.specs.declared.link_states.KeyState.TheVariants as state

same_none : (r m : ℕ) → (nat_lt r r || ((r == r) && nat_lt m m)) ≡ false
same_none r m = grind (arith, nat_tests)

up_by : (a b c l m n : ℕ) → (nat_lt b a || ((a == b) && nat_lt m l)) ≡ false → (nat_lt c b || ((b == c) && nat_lt n m)) ≡ false → (nat_lt c a || ((a == c) && nat_lt n l)) ≡ false
up_by a b c l m n first second = grind (arith, nat_tests)

above_none : (s : KeyState) → is_above_state s s ≡ false
above_none s = same_none (rank s) (common_size s)

up : (a b c : KeyState) → is_above_state a b ≡ false → is_above_state b c ≡ false → is_above_state a c ≡ false
up a b c first second = up_by (rank a) (rank b) (rank c) (common_size a) (common_size b) (common_size c) first second

-- of two commons
grown : (m n : ℕ) (b : Bool) → nat_lt m n ≡ b → is_above_state (state.Common m) (key_state_after (state.Common m) (if b then BecomesState (state.Common n) else Stays)) ≡ false
grown m n true is = grind (arith, nat_tests)
grown m n false is = grind (arith, nat_tests)

covered : (m n : ℕ) (b : Bool) → nat_lt m n ≡ b → is_above_state (state.Common n) (key_state_after (state.Common m) (if b then BecomesState (state.Common n) else Stays)) ≡ false
covered m n true is = grind (arith, nat_tests)
covered m n false is = grind (arith, nat_tests)

-- an event of an object leaves a state that is not below the one before
keeps_up : (s : KeyState) (e : SymbolRole) → IsOwnState s → IsOwn e → is_above_state s (after s e) ≡ false
keeps_up (Shared y) e os oe = absurd os
keeps_up s (role.Shared y) os oe = absurd oe
keeps_up (state.Common m) (Common n) os oe = grown m n (nat_lt m n) refl
keeps_up (state.Common m) e os oe = grind (arith, nat_tests)
keeps_up s e os oe = refl

covers : (s : KeyState) (e : SymbolRole) → IsOwnState s → IsOwn e → is_above_state (alone e) (after s e) ≡ false
covers (Shared y) e os oe = absurd os
covers s (role.Shared y) os oe = absurd oe
covers (state.Common m) (Common n) os oe = covered m n (nat_lt m n) refl
covers s (Common n) os oe = grind (arith, nat_tests)
covers s e os oe = refl

-- it leaves that one, or its alone
chosen : (m n : ℕ) (b : Bool) → (let left = key_state_after (state.Common m) (if b then BecomesState (state.Common n) else Stays) in (left ≡ state.Common m) ⊎ (left ≡ state.Common n))
chosen m n true = inr refl
chosen m n false = inl refl

one_of : (s : KeyState) (e : SymbolRole) → IsOwnState s → IsOwn e → (after s e ≡ s) ⊎ (after s e ≡ alone e)
one_of (Shared y) e os oe = absurd os
one_of s (role.Shared y) os oe = absurd oe
one_of New e os oe = inr refl
one_of Weak WeakReference os oe = inl refl
one_of Weak e os oe = inr refl
one_of Undefined WeakReference os oe = inl refl
one_of Undefined Reference os oe = inl refl
one_of Undefined e os oe = inr refl
one_of (state.Common m) (Common n) os oe = chosen m n (nat_lt m n)
one_of (state.Common m) Definition os oe = inr refl
one_of (state.Common m) e os oe = inl refl
one_of Defined e os oe = inl refl
one_of WeakDefined Definition os oe = inr refl
one_of WeakDefined (Common n) os oe = inr refl
one_of WeakDefined e os oe = inl refl

own_choice : (m n : ℕ) (b : Bool) → IsOwnState (key_state_after (state.Common m) (if b then BecomesState (state.Common n) else Stays))
own_choice m n true = tt
own_choice m n false = tt

pub stays_own : (s : KeyState) (e : SymbolRole) → IsOwnState s → IsOwn e → IsOwnState (after s e)
stays_own (Shared y) e os oe = absurd os
stays_own s (role.Shared y) os oe = absurd oe
stays_own (state.Common m) (Common n) os oe = own_choice m n (nat_lt m n)
stays_own s e os oe = tt

-- after all of them
start_below : (s : KeyState) (es : List SymbolRole) → IsOwnState s → AreOwn es → is_above_state s (after_all s es) ≡ false
start_below s [] os oes = above_none s
start_below s (e ∷ es) os oes = up s (after s e) (after_all (after s e) es) (keeps_up s e os oes.0) (start_below (after s e) es (stays_own s e os oes.0) oes.1)

each_below : (s : KeyState) (es : List SymbolRole) → IsOwnState s → AreOwn es → (e : SymbolRole) → Contains es e → is_above_state (alone e) (after_all s es) ≡ false
each_below s [] os oes e (k, within, is) = absurd (omega arith)
each_below s (x ∷ es) os oes e (zero, within, is) =
    subst (λ y. is_above_state (alone y) (after_all (after s x) es) ≡ false) is
    (up (alone x) (after s x) (after_all (after s x) es) (covers s x os oes.0) (start_below (after s x) es (stays_own s x os oes.0) oes.1))
each_below s (x ∷ es) os oes e (suc k, within, is) = each_below (after s x) es (stays_own s x os oes.0) oes.1 e (k, omega arith, is)

-- it is the first, or what one of them makes
abbrev IsOneOf : KeyState → List SymbolRole → KeyState → Type 0
IsOneOf s es t = (t ≡ s) ⊎ ((e : SymbolRole) × Contains es e × (t ≡ alone e))

further : (s t : KeyState) (x : SymbolRole) (es : List SymbolRole) → (after s x ≡ s) ⊎ (after s x ≡ alone x) → IsOneOf (after s x) es t → IsOneOf s (x ∷ es) t
further s t x es (inl same) (inl is) = inl (is ∙ same)
further s t x es (inr made) (inl is) = inr (x, (0, omega arith, refl), is ∙ made)
further s t x es step (inr (e, there, is)) = inr (e, (suc there.0, omega (arith, there.1), there.2), is)

is_one_of : (s : KeyState) (es : List SymbolRole) → IsOwnState s → AreOwn es → IsOneOf s es (after_all s es)
is_one_of s [] os oes = inl refl
is_one_of s (e ∷ es) os oes = further s (after_all (after s e) es) e es (one_of s e os oes.0) (is_one_of (after s e) es (stays_own s e os oes.0) oes.1)

-- THE LARGEST: what each of them makes is not above it, and it is what one of them makes, or there is none
pub largest : (es : List SymbolRole) → AreOwn es → (e : SymbolRole) → Contains es e → is_above_state (alone e) (after_all New es) ≡ false
largest es oes = each_below New es tt oes

pub largest_one : (es : List SymbolRole) → AreOwn es → (after_all New es ≡ New) ⊎ ((e : SymbolRole) × Contains es e × (after_all New es ≡ alone e))
largest_one es oes = is_one_of New es tt oes

-- WHATEVER THEIR ORDER
abbrev with_rank : ℕ → ℕ → KeyState
with_rank zero size = New
with_rank (suc zero) size = Weak
with_rank (suc (suc zero)) size = Undefined
with_rank (suc (suc (suc zero))) size = WeakDefined
with_rank (suc (suc (suc (suc zero)))) size = state.Common size
with_rank (suc (suc (suc (suc (suc r))))) size = Defined

of_rank : (s : KeyState) → IsOwnState s → with_rank (rank s) (common_size s) ≡ s
of_rank New os = refl
of_rank Weak os = refl
of_rank Undefined os = refl
of_rank WeakDefined os = refl
of_rank (state.Common size) os = refl
of_rank Defined os = refl
of_rank (Shared y) os = absurd os

all_own : (s : KeyState) (es : List SymbolRole) → IsOwnState s → AreOwn es → IsOwnState (after_all s es)
all_own s [] os oes = os
all_own s (e ∷ es) os oes = all_own (after s e) es (stays_own s e os oes.0) oes.1

ranks : (a b m n : ℕ) → (nat_lt b a || ((a == b) && nat_lt n m)) ≡ false → (nat_lt a b || ((b == a) && nat_lt m n)) ≡ false → (a ≡ b) × (m ≡ n)
ranks a b m n first second = (grind (arith, nat_tests), grind (arith, nat_tests))

one_height : (a b : KeyState) → IsOwnState a → IsOwnState b → is_above_state a b ≡ false → is_above_state b a ≡ false → a ≡ b
one_height a b oa ob first second =
    let same = ranks (rank a) (rank b) (common_size a) (common_size b) first second in
    sym (of_rank a oa) ∙ ap (λ r. with_rank r (common_size a)) same.0 ∙ ap (λ n. with_rank (rank b) n) same.1 ∙ of_rank b ob

below : (es fs : List SymbolRole) → AreOwn es → AreOwn fs → IsPermutation es fs → IsOneOf New fs (after_all New fs) → is_above_state (after_all New fs) (after_all New es) ≡ false
below es fs oes ofs mixed (inl none) = subst (λ t. is_above_state t (after_all New es) ≡ false) (sym none) (start_below New es tt oes)
below es fs oes ofs mixed (inr (e, there, is)) =
    subst (λ t. is_above_state t (after_all New es) ≡ false) (sym is) (each_below New es tt oes e (Contains-permutation fs es e (IsPermutation-sym es fs mixed) there))

pub any_order : (es fs : List SymbolRole) → AreOwn es → AreOwn fs → IsPermutation es fs → after_all New es ≡ after_all New fs
any_order es fs oes ofs mixed =
    one_height (after_all New es) (after_all New fs) (all_own New es tt oes) (all_own New fs tt ofs)
    (below fs es ofs oes (IsPermutation-sym es fs mixed) (is_one_of New es tt oes))
    (below es fs oes ofs mixed (is_one_of New fs tt ofs))
