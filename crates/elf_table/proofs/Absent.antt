-- A value that may be there.
use Rattle.std.proofs.Common.{◌≡◌, Option, None, Some, refl}

-- a result that is no value is none
pub none-of : {X : Type 0} (o : Option X) → ((x : X) → o ≡ Some x → ⊥) → o ≡ None
none-of None h = refl
none-of (Some x) h = absurd (h x refl)
