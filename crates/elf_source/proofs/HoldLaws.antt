-- What a sink that holds bytes back has passed to the sink below it.
use Rattle.std.proofs.Common.{◌≡◌, ℕ, ◌+◌, ◌-◌, ◌≤◌, List, [], ◌++◌, Option, None, Some, Result, refl, sym, ap, ◌∙◌, length, take, drop, subst, append-nil, append_assoc, arith}
use Rattle.std.specs.Io.KnownBytes.{Appends, Keeps, WriteAppends, append_known}
use Rattle.std.proofs.KnownBytes.{append_known-moved}
use Rattle.std.proofs.lemmas.List.{take-append-drop, take-take, drop-append-le, drop-take, drop-drop, length-drop, length-take-le}

-- the bytes between two positions
pub between : (room : List ℕ) (from to : ℕ) → from ≤ to → take (to - from) (drop from room) ≡ drop from (take to room)
between room from to le =
    let whole : from + (to - from) ≡ to = omega (arith, le) in
    sym (ap (λ k. drop from (take k room)) (sym whole) ∙ drop-take from (to - from) room)

-- the first r of them were written
pub Released : (a b : Option (List ℕ)) (room : List ℕ) (from to r : ℕ) → from ≤ to → Appends a b (take r (take (to - from) (drop from room)))
    → Keeps (append_known a (drop from (take to room))) (append_known b (drop (from + r) (take to room)))
Released a b room from to r le p =
    let all = drop from (take to room) in
    let front = subst (λ (l : List ℕ). Appends a b (take r l)) (between room from to le) p in
    let rest : drop r all ≡ drop (from + r) (take to room) = drop-drop r from (take to room) in
    subst (λ (l : List ℕ). Keeps (append_known a all) (append_known b l)) rest
    (append_known-moved a b (take r all) (drop r all) all front (sym (take-append-drop r all)))

-- all of them were written
pub Released_all : (a b : Option (List ℕ)) (room : List ℕ) (from to r : ℕ) → from ≤ to → from + r ≡ to → Appends a b (take r (take (to - from) (drop from room)))
    → Keeps (append_known a (drop from (take to room))) (append_known b [])
Released_all a b room from to r le all p =
    let same : to ≡ to + 0 = omega arith in
    let none : drop (from + r) (take to room) ≡ [] = rw all (ap (λ k. drop to (take k room)) same ∙ drop-take to 0 room) in
    subst (λ (l : List ℕ). Keeps (append_known a (drop from (take to room))) (append_known b l)) none (Released a b room from to r le p)

-- the last of them, which are taken back
last_held : (room : List ℕ) (from to less : ℕ) → from ≤ less → less ≤ to → to ≤ length room → drop from (take to room) ≡ drop from (take less room) ++ drop less (take to room)
last_held room from to less first le fits =
    let front : take less (take to room) ≡ take less room = take-take less to room le in
    let sized : length (take less room) ≡ less = length-take-le less room (omega (arith, le, fits)) in
    ap (drop from) (sym (take-append-drop less (take to room)) ∙ ap (λ l. l ++ drop less (take to room)) front)
    ∙ drop-append-le from (take less room) (drop less (take to room)) (omega (arith, sized, first))

known_both : (a : Option (List ℕ)) (x y : List ℕ) → append_known a (x ++ y) ≡ append_known (append_known a x) y
known_both None x y = refl
known_both (Some all) x y = ap Some (sym (append_assoc all x y))

pub held_back : (below : Option (List ℕ)) (room : List ℕ) (from to less count : ℕ) → from ≤ less → less + count ≡ to → to ≤ length room
    → (append_known below (drop from (take to room)) ≡ append_known (append_known below (drop from (take less room))) (drop less (take to room)))
    × (length (drop less (take to room)) ≡ count)
held_back below room from to less count first all fits =
    let sized : length (take to room) ≡ to = length-take-le to room fits in (
      ap (append_known below) (last_held room from to less first (omega (arith, all)) fits) ∙ known_both below (drop from (take less room)) (drop less (take to room)),
      omega (arith, length-drop less (take to room), sized, all),
    )

-- if nothing is held
pub nothing_held : (room : List ℕ) (from to : ℕ) → from ≡ to → drop from (take to room) ≡ []
nothing_held room from to same =
    let whole : to ≡ to + 0 = omega arith in
    rw same (ap (λ k. drop to (take k room)) whole ∙ drop-take to 0 room)

known_nothing : (a : Option (List ℕ)) → append_known a [] ≡ a
known_nothing None = refl
known_nothing (Some all) = ap Some (append-nil all)

-- what the sink below takes is taken
pub passed_on : {E : Type 0} (a b : Option (List ℕ)) (held : List ℕ) (result : Result ℕ E) (bytes : List ℕ) → held ≡ [] → WriteAppends a b result bytes
    → WriteAppends (append_known a held) (append_known b held) result bytes
passed_on a b held result bytes none p = rw (none, known_nothing a, known_nothing b) p

-- how many bytes are held
pub held_size : (room : List ℕ) (from to : ℕ) → to ≤ length room → length (drop from (take to room)) ≡ to - from
held_size room from to fits = omega (arith, length-drop from (take to room), length-take-le to room fits)
