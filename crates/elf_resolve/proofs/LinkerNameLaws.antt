-- The names that a linker defines, in two parts: those that what it makes decides about, and the bounds
-- of sections.
use Rattle.std.proofs.Common.{◌≡◌, ℕ, Bool, true, false, ◌&&◌, ◌||◌, List, get_or, take, drop, Some, None, refl, ap, ◌∙◌, sym, arith, bytes_eq}
use Rattle.std.specs.Prelude.{codes, if◌then◌else◌}
use Rattle.std.proofs.lemmas.Slice.Eq.{bytes_eq-Decides}
use Rattle.std.proofs.lemmas.List.{get_or-take}
use Rattle.elf_model.specs.LinkKeys.{LinkKeys}
use Rattle.elf_model.specs.LinkLines.{LinkOutput, bounds_section, has_section, linker_defines}
use Rattle.elf_resolve.specs.LinkerNames.{bounded_name, bounds_noted, defines_name, first_or}

regrouped : (x d e : Bool) → (x || d || e) ≡ (x || (d || e))
regrouped true d e = refl
regrouped false d e = refl

regrouped_false : (x : Bool) → (x || false) ≡ x
regrouped_false true = refl
regrouped_false false = refl

-- no name has both fronts
not_both : (name : List ℕ) → bytes_eq (codes "__start_") (take 8 name) ≡ true → bytes_eq (codes "__stop_") (take 7 name) ≡ true → ⊥
not_both name start stop =
    let first : 97 ≡ get_or (take 8 name) 4 0 = ap (λ l. get_or l 4 0) ((bytes_eq-Decides (codes "__start_") (take 8 name)).0 start) in
    let second : 111 ≡ get_or (take 7 name) 4 0 = ap (λ l. get_or l 4 0) ((bytes_eq-Decides (codes "__stop_") (take 7 name)).0 stop) in
    let same : get_or (take 8 name) 4 0 ≡ get_or (take 7 name) 4 0 = get_or-take 8 name 4 0 (omega arith) ∙ sym (get_or-take 7 name 4 0 (omega arith)) in
    absurd (omega arith)

chosen : (keys : LinkKeys) (s t : Bool) (a b : List ℕ) → (s ≡ true → t ≡ true → ⊥)
    → ((s && has_section keys a) || (t && has_section keys b)) ≡ bounds_noted keys (first_or (if s then Some a else None) (if t then Some b else None))
chosen keys false false a b h = refl
chosen keys false true a b h = refl
chosen keys true false a b h = regrouped_false (has_section keys a)
chosen keys true true a b h = absurd (h refl refl)

pub linker_defines-by : (output : LinkOutput) (keys : LinkKeys) (name : List ℕ) → linker_defines output keys name ≡ (defines_name output name || bounds_noted keys (bounded_name name))
unfolding linker_defines
linker_defines-by output keys name =
    regrouped (defines_name output name) (bounds_section keys (codes "__start_") name) (bounds_section keys (codes "__stop_") name)
    ∙ ap (λ b. defines_name output name || b)
    (chosen keys (bytes_eq (codes "__start_") (take 8 name)) (bytes_eq (codes "__stop_") (take 7 name)) (drop 8 name) (drop 7 name) (not_both name))
