-- What a sink of whole lines keeps of what it passes on.
use Rattle.std.proofs.Common.{◌≡◌, ℕ, ◌+◌, ◌-◌, ◌≤◌, List, ◌++◌, Option, sym, ap, ◌∙◌, length, take, drop, subst, arith}
use Rattle.std.specs.Io.KnownBytes.{Appends, Keeps, append_known}
use Rattle.std.proofs.KnownBytes.{append_known-moved}
use Rattle.std.proofs.Math.Seq.{take-append_seam}
use Rattle.std.specs.List.{copy_within}
use Rattle.std.proofs.lemmas.List.{take-append-drop, take-take, length-drop, length-take-le}
use Rattle.elf_source.proofs.HoldLaws.{between}

-- what is left after the written bytes moves to the start of the buffer
pub moved_up : (room new : List ℕ) (given len : ℕ) → given ≤ len → len ≤ length room → new ≡ copy_within room given len 0
    → take (len - given) new ≡ drop given (take len room)
moved_up room new given len le fits is =
    let rest = take (len - given) (drop given room) in
    let sized : length rest ≡ len - given = length-take-le (len - given) (drop given room) (omega (arith, length-drop given room, le, fits)) in
    ap (take (len - given)) is ∙ (ap (λ n. take n (rest ++ drop (0 + (len - given)) room)) (sym sized)
    ∙ (take-append_seam rest (drop (0 + (len - given)) room) ∙ between room given len le))

pub front_kept : (a b : Option (List ℕ)) (room : List ℕ) (given count len : ℕ) → given ≤ count → count ≤ len → Appends a b (take given (take count room)) → Appends a b (take given (take len room))
front_kept a b room given count len le fits p =
    let same : take given (take count room) ≡ take given (take len room) = take-take given count room le ∙ sym (take-take given len room (omega (arith, le, fits))) in
    subst (λ (l : List ℕ). Appends a b l) same p

pub given_front : (a b : Option (List ℕ)) (room : List ℕ) (given count len : ℕ) → given ≤ count → count ≤ len → Appends a b (take given (take count room))
    → Keeps (append_known a (take len room)) (append_known b (drop given (take len room)))
given_front a b room given count len le fits p =
    let all = take len room in
    append_known-moved a b (take given all) (drop given all) all (front_kept a b room given count len le fits p) (sym (take-append-drop given all))
