-- The result of a search of some bytes piece by piece, and of the search for a name in a file's
-- string table.
use Rattle.std.proofs.Common.{◌≡◌, ℕ, zero, suc, ◌+◌, ◌-◌, ◌<◌, ◌≤◌, true, false, List, [], ◌∷◌, ◌++◌, length, take, drop, None, Some, Ok, Err, refl, ap, sym, ◌∙◌, arith, length-take, take-take}
use Rattle.std.proofs.Math.Seq.{take-add}
use Rattle.std.proofs.lemmas.List.{take_all, drop-drop}
use Rattle.elf_model.specs.Prelude.{Cut, NulFound, nul_in, shown, slice}
use Rattle.elf_model.specs.declared.causes.Cause.TheVariants.{NameOutside, NameUnended}
use Rattle.elf_model.specs.Names.DisplayedName.{Whole}
use Rattle.elf_model.proofs.Slices.{slice-rest, slice-size, slice-slice}
use Rattle.elf_model.proofs.Nuls.{some-free}
use Rattle.elf_model.proofs.NameLemmas.{shown-empty, shown-outside}
use Rattle.elf_model.proofs.NameLoops.{nul_in-append-none, nul_in-append-some, nul_in-whole, shown-found, shown-over, shown-open}

-- a slice in two parts
pub slice-two : (file : List ℕ) (start done count : ℕ) → slice file start (done + count) ≡ slice file start done ++ slice file (start + done) count
slice-two file start done count =
    take-add done count (drop start file) ∙ ap (λ (x : List ℕ). slice file start done ++ take count x) (drop-drop done start file)

-- bytes that are cut to a length may differ after it
take-cut : (cap : ℕ) (a b : List ℕ) → take cap (take cap a ++ b) ≡ take cap (a ++ b)
take-cut zero a b = refl
take-cut (suc cap) [] b = refl
take-cut (suc cap) (x ∷ a) b = ap (λ (y : List ℕ). x ∷ y) (take-cut cap a b)

-- one piece more without a NUL
pub search-more : (file piece : List ℕ) (start done count : ℕ) → piece ≡ slice file (start + done) count → nul_in (slice file start done) ≡ None
    → nul_in piece ≡ None → nul_in (slice file start (done + count)) ≡ None
search-more file piece start done count e before none =
    ap nul_in (slice-two file start done count ∙ ap (λ (x : List ℕ). slice file start done ++ x) (sym e))
    ∙ nul_in-append-none (slice file start done) piece before none

-- one piece more is kept
pub kept-more : (file piece name new : List ℕ) (start done count cap : ℕ) → piece ≡ slice file (start + done) count → name ≡ take cap (slice file start done)
    → new ≡ take cap (name ++ piece) → new ≡ take cap (slice file start (done + count))
kept-more file piece name new start done count cap e n a =
    a ∙ ap (λ (x : List ℕ). take cap (x ++ piece)) n ∙ take-cut cap (slice file start done) piece
    ∙ ap (take cap) (ap (λ (x : List ℕ). slice file start done ++ x) e ∙ sym (slice-two file start done count))

-- the piece with the first NUL
search-found : (file piece : List ℕ) (start done count want place : ℕ) → piece ≡ slice file (start + done) count → nul_in (slice file start done) ≡ None
    → nul_in piece ≡ Some place → done + count ≤ want → start + want ≤ length file → nul_in (slice file start want) ≡ Some (done + place)
search-found file piece start done count want place e before some within inside =
    let there : nul_in (slice file start (done + count)) ≡ Some (length (slice file start done) + place) =
    ap nul_in (slice-two file start done count ∙ ap (λ (x : List ℕ). slice file start done ++ x) (sym e))
    ∙ nul_in-append-some (slice file start done) piece place before some in
    let same : take (done + count) (slice file start want) ≡ slice file start (done + count) = take-take (done + count) want (drop start file) within in
    nul_in-whole (slice file start want) (done + count) (done + place)
    (ap nul_in same ∙ there ∙ ap (λ (n : ℕ). Some (n + place)) (slice-size file start done (omega arith)))

-- what is kept of the bytes before it
kept-found : (file piece name new : List ℕ) (start done count want place cap : ℕ) → piece ≡ slice file (start + done) count → name ≡ take cap (slice file start done)
    → place ≤ count → done + count ≤ want → new ≡ take cap (name ++ take place piece) → new ≡ take cap (take (done + place) (slice file start want))
kept-found file piece name new start done count want place cap e n inside within a =
    let cut : take place piece ≡ slice file (start + done) place = ap (take place) e ∙ take-take place count (drop (start + done) file) inside in
    kept-more file (take place piece) name new start done place cap cut n a
    ∙ ap (take cap) (sym (take-take (done + place) want (drop start file) (omega arith)))

-- the search ends at the piece with the first NUL
pub found-here : (file piece name new : List ℕ) (start done count want place cap : ℕ) → piece ≡ slice file (start + done) count → nul_in (slice file start done) ≡ None
    → name ≡ take cap (slice file start done) → nul_in piece ≡ Some place → place ≤ count → done + count ≤ want → start + want ≤ length file
    → new ≡ take cap (name ++ take place piece) → NulFound (slice file start want) cap true new
found-here file piece name new start done count want place cap e before n some inside within whole a = (
  done + place,
  search-found file piece start done count want place e before some within whole,
  kept-found file piece name new start done count want place cap e n inside within a,
)

-- an empty string table
pub shown-none : (file : List ℕ) (at size off cap : ℕ) → size ≡ 0 → off ≡ 0 → shown (slice file at size) off cap ≡ Ok (Whole [])
shown-none file at size off cap z o = shown-empty (slice file at size) off cap (ap (slice file at) z, o)

-- an index past the string table
pub shown-past : (file : List ℕ) (at size off cap : ℕ) → size ≤ off → (size ≡ 0 → off ≡ 0 → ⊥) → shown (slice file at size) off cap ≡ Err NameOutside
shown-past file at size off cap past some =
    shown-outside (slice file at size) off cap (omega (arith, length-take size (drop at file)), λ e. some (omega arith) e.1)

-- a NUL was found
pub shown-whole : (file kept : List ℕ) (at size off want cap : ℕ) → at + size ≤ length file → off < size → off + want ≤ size → want ≤ cap + 1
    → NulFound (slice file (at + off) want) cap true kept → shown (slice file at size) off cap ≡ Ok (Whole kept)
shown-whole file kept at size off want cap inside below within few h =
    let long = slice-size file at size inside in
    let part = slice-slice file at size off want within in
    let front = slice-size file (at + off) want (omega arith) in
    let place = some-free (slice file (at + off) want) h.0 h.1 in
    let short : length (take h.0 (slice file (at + off) want)) ≤ cap = omega (arith, length-take h.0 (slice file (at + off) want)) in
    shown-found (slice file at size) off cap want h.0 (omega arith) few (ap nul_in part ∙ h.1)
    ∙ ap (λ (x : List ℕ). Ok (Whole x))
    (sym (take-take h.0 want (drop off (slice file at size)) (omega arith)) ∙ ap (take h.0) part ∙ sym (h.2 ∙ take_all cap (take h.0 (slice file (at + off) want)) short))

-- no NUL was found in one byte more than the cap
pub shown-cut : (file kept : List ℕ) (at size off want cap : ℕ) → at + size ≤ length file → want ≡ cap + 1 → off + want ≤ size
    → NulFound (slice file (at + off) want) cap false kept → shown (slice file at size) off cap ≡ Ok (Cut kept)
shown-cut file kept at size off want cap inside full within h =
    let long = slice-size file at size inside in
    let part = slice-slice file at size off want within in
    shown-over (slice file at size) off cap (omega arith) (ap (λ (n : ℕ). nul_in (slice (slice file at size) off n)) (sym full) ∙ ap nul_in part ∙ h.0)
    ∙ ap (λ (x : List ℕ). Ok (Cut x))
    (sym (take-take cap want (drop off (slice file at size)) (omega arith)) ∙ ap (take cap) part ∙ sym h.1)

-- no NUL was found up to the string table's end
pub shown-unended : (file kept : List ℕ) (at size off want cap : ℕ) → at + size ≤ length file → off < size → want ≡ size - off → size ≤ off + cap
    → NulFound (slice file (at + off) want) cap false kept → shown (slice file at size) off cap ≡ Err NameUnended
shown-unended file kept at size off want cap inside below all few h =
    let long = slice-size file at size inside in
    shown-open (slice file at size) off cap (omega arith) (omega arith)
    (ap nul_in (slice-rest file at size off (omega arith) ∙ ap (slice file (at + off)) (sym all)) ∙ h.0)
