-- Passes over the names of a directory give all of them.
use Rattle.std.proofs.Common.{◌≡◌, ℕ, zero, suc, ◌≤◌, ◌<◌, nat_lt, Bool, true, false, cond, List, [], ◌∷◌, ◌++◌, length, take, drop, get_or, refl, ap, sym, ◌∙◌, arith, subst}
use Rattle.std.proofs.lemmas.Bool.{ltb-true, ltb-false}
use Rattle.std.proofs.lemmas.List.{length-drop}
use Rattle.std.specs.declared.cmp.Ordering.TheVariants.{Less}
use Rattle.elf_walk.specs.Prelude.{in_order, names_following, order, passes}
use Rattle.elf_walk.proofs.AscendLaws.{after_member, after_ascends, after_twice, member_is_after, order_ascends, order_after}
use Rattle.elf_walk.proofs.OrderLaws.{take_all}

none_left : (names : List (List ℕ)) → length names ≤ 0 → [] ≡ names
none_left [] few = refl
none_left (x ∷ xs) few = absurd (omega arith)

whole : (names : List (List ℕ)) → names ++ [] ≡ names
whole [] = refl
whole (x ∷ xs) = ap (λ l. x ∷ l) (whole xs)

parted : (n : ℕ) (names : List (List ℕ)) → take n names ++ drop n names ≡ names
parted zero names = refl
parted (suc n) [] = refl
parted (suc n) (x ∷ xs) = ap (λ l. x ∷ l) (parted n xs)

-- those that a pass does not keep are after the last of those that it keeps
rest_behind : (after : List ℕ) (all : List (List ℕ)) (d : List ℕ) (k : ℕ) → k < length (names_following after (in_order all))
    → names_following (get_or (names_following after (in_order all)) k d) (in_order all) ≡ drop (suc k) (names_following after (in_order all))
rest_behind after all d k within =
    let below : order after (get_or (names_following after (in_order all)) k d) ≡ Less = member_is_after after (in_order all) k d within in
    let up = after_ascends after (in_order all) (order_ascends all [] tt) in
    sym (after_twice after (get_or (names_following after (in_order all)) k d) (in_order all) below) ∙ after_member (names_following after (in_order all)) k d up within

step : (most : ℕ) (mosts : List ℕ) (names : List (List ℕ)) (after : List ℕ) (more : Bool) → more ≡ nat_lt (suc most) (length (names_following after (in_order names)))
    → length (names_following after (in_order names)) ≤ suc (length mosts)
    → ((low : List ℕ) → length (names_following low (in_order names)) ≤ length mosts → passes mosts names low ≡ names_following low (in_order names))
    → take (suc most) (names_following after (in_order names))
    ++ cond more (passes mosts names (get_or (names_following after (in_order names)) most after)) []
    ≡ names_following after (in_order names)
step most mosts names after true is few rest =
    let within : suc most < length (names_following after (in_order names)) = ltb-true (suc most) (length (names_following after (in_order names))) (sym is) in
    let left = rest_behind after names after most (omega arith) in
    let fewer : length (names_following (get_or (names_following after (in_order names)) most after) (in_order names)) ≤ length mosts =
    subst (λ l. length l ≤ length mosts) (sym left) (omega (arith, length-drop (suc most) (names_following after (in_order names)))) in
    ap (λ l. take (suc most) (names_following after (in_order names)) ++ l) (rest (get_or (names_following after (in_order names)) most after) fewer ∙ left)
    ∙ parted (suc most) (names_following after (in_order names))
step most mosts names after false is few rest =
    whole (take (suc most) (names_following after (in_order names)))
    ∙ take_all (λ n. n) [] (suc most) (names_following after (in_order names)) (ltb-false (suc most) (length (names_following after (in_order names))) (sym is))

all_behind : (mosts : List ℕ) (names : List (List ℕ)) (after : List ℕ) → length (names_following after (in_order names)) ≤ length mosts
    → passes mosts names after ≡ names_following after (in_order names)
unfolding passes
all_behind [] names after few = none_left (names_following after (in_order names)) few
all_behind (most ∷ mosts) names after few =
    subst (λ all. take (suc most) all ++ cond (nat_lt (suc most) (length all)) (passes mosts names (get_or all most after)) [] ≡ names_following after (in_order names))
    (sym (order_after after names []))
    (step most mosts names after (nat_lt (suc most) (length (names_following after (in_order names)))) refl few (λ low. all_behind mosts names low))

pub all_names : (mosts : List ℕ) (names : List (List ℕ)) (after : List ℕ) → length (in_order (names_following after names)) ≤ length mosts
    → passes mosts names after ≡ in_order (names_following after names)
all_names mosts names after few =
    let same = order_after after names [] in
    all_behind mosts names after (subst (λ l. length l ≤ length mosts) same few) ∙ sym same
