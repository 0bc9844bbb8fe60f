-- The names of members in some bytes, by their rows.
use Rattle.std.proofs.Common.{◌≡◌, ℕ, zero, suc, ◌+◌, ◌-◌, ◌<◌, ◌≤◌, Bool, true, false, List, [], ◌∷◌, ◌++◌, length, get_or, drop, take, refl, sym, ap, subst, ◌∙◌, arith, length-append}
use Rattle.std.specs.Prelude.{◌==◌, ◌/◌, ◌≢◌, if◌then◌else◌, map, nat_lt}
use Rattle.std.specs.List.Sorted.{IsStrictlyIncreasing}
use Rattle.std.proofs.lemmas.Bool.Decides.{nat_tests}
use Rattle.elf_model.specs.Names.{DisplayedName}
use Rattle.elf_resolve.proofs.MemberOffsets.{far, no_less}
use Rattle.std.specs.List.{All}
use Rattle.std.proofs.lemmas.List.{drop-append-le, get_or-map, length-map, drop_at, length-drop, map-append, take-append-le, take_all}
use Rattle.std.proofs.lemmas.List.Elements.{All-push}
use Rattle.elf_model.specs.Bytes.{slice}
use Rattle.elf_model.specs.ShownNames.{shown_as}
use Rattle.elf_resolve.specs.MemberNames.{IsFirstFrom, IsNamePlaceIn, name_at_place, name_of_row_in, place_in, row_of_name, row_of_place}
use Rattle.elf_resolve.specs.declared.member_names.NamePlace.{NamePlace}
use Rattle.elf_resolve.specs.declared.string_buffer.HeldText.{HeldText}

-- bytes after those of a name change nothing
slice_kept : (bytes more : List ℕ) (start size : ℕ) → start + size ≤ length bytes → slice (bytes ++ more) start size ≡ slice bytes start size
slice_kept bytes more start size within =
    ap (take size) (drop-append-le start bytes more (omega (arith, within))) ∙ take-append-le size (drop start bytes) more (omega (arith, within, length-drop start bytes))

pub names_kept : (bytes more : List ℕ) (places : List NamePlace) → All (IsNamePlaceIn (length bytes)) places → map (name_at_place (bytes ++ more)) places ≡ map (name_at_place bytes) places
names_kept bytes more [] within = refl
names_kept bytes more (p ∷ places) within =
    let here : p.name.start + p.name.size ≤ length bytes = within 0 p (omega arith) in
    let first : name_at_place (bytes ++ more) p ≡ name_at_place bytes p = ap (λ b. record { row = p.row; name = shown_as p.is_cut b }) (slice_kept bytes more p.name.start p.name.size here) in
    let rest = names_kept bytes more places (λ k d below. within (suc k) d (omega (arith, below))) in
    ap (λ n. n ∷ map (name_at_place (bytes ++ more)) places) first ∙ ap (λ l. name_at_place bytes p ∷ l) rest

last_slice : (bytes name : List ℕ) → slice (bytes ++ name) (length bytes) (length name) ≡ name
last_slice bytes name = ap (take (length name)) (drop_at bytes name (length bytes) refl) ∙ take_all (length name) name (omega arith)

pub name_added : (bytes name after : List ℕ) (places pushed : List NamePlace) (text : HeldText) (row : ℕ) (is_cut : Bool) → All (IsNamePlaceIn (length bytes)) places → after ≡ bytes ++ name
    → text ≡ record { start = length bytes; size = length name } → pushed ≡ places ++ record { row = row; name = text; is_cut = is_cut } ∷ []
    → map (name_at_place after) pushed ≡ map (name_at_place bytes) places ++ record { row = row; name = shown_as is_cut name } ∷ []
name_added bytes name after places pushed text row is_cut within grown place added =
    let p : NamePlace = record { row = row; name = record { start = length bytes; size = length name }; is_cut = is_cut } in
    let all : pushed ≡ places ++ p ∷ [] = added ∙ ap (λ (t : HeldText). places ++ record { row = row; name = t; is_cut = is_cut } ∷ []) place in
    ap (λ b. map (name_at_place b) pushed) grown ∙ ap (λ l. map (name_at_place (bytes ++ name)) l) all ∙ map-append (name_at_place (bytes ++ name)) places (p ∷ [])
    ∙ ap (λ l. l ++ name_at_place (bytes ++ name) p ∷ []) (names_kept bytes name places within)
    ∙ ap (λ b. map (name_at_place bytes) places ++ (record { row = row; name = shown_as is_cut b }) ∷ []) (last_slice bytes name)

pub places_added : (bytes name after : List ℕ) (places pushed : List NamePlace) (text : HeldText) (row : ℕ) (is_cut : Bool) → All (IsNamePlaceIn (length bytes)) places → after ≡ bytes ++ name
    → text ≡ record { start = length bytes; size = length name } → pushed ≡ places ++ record { row = row; name = text; is_cut = is_cut } ∷ [] → All (IsNamePlaceIn (length after)) pushed
places_added bytes name after places pushed text row is_cut within grown place added =
    let p : NamePlace = record { row = row; name = text; is_cut = is_cut } in
    let size : length after ≡ length bytes + length name = ap length grown ∙ length-append bytes name in
    let last : text.start + text.size ≤ length after = omega (arith, size, ap (λ (t : HeldText). t.start) place, ap (λ (t : HeldText). t.size) place) in
    let more : length bytes ≤ length after = omega (arith, size) in
    subst (λ (l : List NamePlace). All (IsNamePlaceIn (length after)) l) (sym added)
    (All-push (IsNamePlaceIn (length after)) places p (λ k d below. omega (arith, within k d below, more)) last)

-- A ROW'S PLACE among places of rows that ascend
row_at : (places : List NamePlace) (k : ℕ) (d : NamePlace) → k < length places → get_or (map row_of_place places) k 0 ≡ (get_or places k d).row
row_at places k d below = get_or-map row_of_place places k d 0 below

pub half_above : (places : List NamePlace) (row low high middle : ℕ) (d : NamePlace) → middle < length places → (get_or places middle d).row < row
    → (IsStrictlyIncreasing (map row_of_place places) → ((k : ℕ) → k < low → get_or (map row_of_place places) k 0 < row) × ((k : ℕ) → high ≤ k → k < length (map row_of_place places) → row ≤ get_or (map row_of_place places) k 0))
    → IsStrictlyIncreasing (map row_of_place places) → ((k : ℕ) → k < middle + 1 → get_or (map row_of_place places) k 0 < row) × ((k : ℕ) → high ≤ k → k < length (map row_of_place places) → row ≤ get_or (map row_of_place places) k 0)
half_above places row low high middle d below less found rises = (
  λ k under. omega (arith, no_less (map row_of_place places) rises k middle (omega (arith, under)) (omega (arith, below, length-map places row_of_place)), row_at places middle d below, less),
  (found rises).1,
)

pub half_below : (places : List NamePlace) (row low high middle : ℕ) (d : NamePlace) → middle < length places → row ≤ (get_or places middle d).row
    → (IsStrictlyIncreasing (map row_of_place places) → ((k : ℕ) → k < low → get_or (map row_of_place places) k 0 < row) × ((k : ℕ) → high ≤ k → k < length (map row_of_place places) → row ≤ get_or (map row_of_place places) k 0))
    → IsStrictlyIncreasing (map row_of_place places) → ((k : ℕ) → k < low → get_or (map row_of_place places) k 0 < row) × ((k : ℕ) → middle ≤ k → k < length (map row_of_place places) → row ≤ get_or (map row_of_place places) k 0)
half_below places row low high middle d below more found rises = (
  (found rises).0,
  λ k from under. omega (arith, no_less (map row_of_place places) rises middle k from under, row_at places middle d below, more),
)

pub halfway : (low high : ℕ) → low < high → (low ≤ low + (high - low) / 2) × (low + (high - low) / 2 < high)
halfway low high some = (omega arith, omega arith)

place_at : (places : List NamePlace) (index row : ℕ) (d : NamePlace) → index < length places → ((k : ℕ) → k < index → (get_or places k d).row ≢ row) → (get_or places index d).row ≡ row → place_in places row ≡ get_or places index d
place_at [] index row d below before here = absurd (omega (arith, below))
place_at (p ∷ places) zero row d below before here = let yes : (p.row == row) ≡ true = grind (arith, nat_tests) in ap (λ t. if t then p else place_in places row) yes
place_at (p ∷ places) (suc index) row d below before here =
    let other = before zero (omega arith) in
    let no_match : (p.row == row) ≡ false = grind (arith, nat_tests) in
    ap (λ t. if t then p else place_in places row) no_match ∙ place_at places index row d (omega (arith, below)) (λ k less. before (suc k) (omega (arith, less))) here

place_none : (places : List NamePlace) (row : ℕ) (d : NamePlace) → ((k : ℕ) → k < length places → (get_or places k d).row ≢ row) → record { row = row; name = record { start = 0; size = 0 }; is_cut = false } ≡ place_in places row
place_none [] row d before = refl
place_none (p ∷ places) row d before =
    let other = before zero (omega arith) in
    let no_match : (p.row == row) ≡ false = grind (arith, nat_tests) in
    place_none places row d (λ k less. before (suc k) (omega (arith, less))) ∙ sym (ap (λ t. if t then p else place_in places row) no_match)

pub place_found : (places : List NamePlace) (row index : ℕ) (d : NamePlace) → IsFirstFrom (map row_of_place places) row index → index < length places → (get_or places index d).row ≡ row → place_in places row ≡ get_or places index d
place_found places row index d first below here =
    place_at places index row d below (λ k less same. absurd (omega (arith, first.before k less, row_at places k d (omega (arith, less, below)), same))) here

pub place_missing : (places : List NamePlace) (row index : ℕ) (d : NamePlace) → IsStrictlyIncreasing (map row_of_place places) → IsFirstFrom (map row_of_place places) row index → (index < length places → (get_or places index d).row ≢ row)
    → record { row = row; name = record { start = 0; size = 0 }; is_cut = false } ≡ place_in places row
place_missing places row index d rises first other = place_none places row d (λ k less same. missing k less same (nat_lt k index) refl (nat_lt index k) refl)
  where
    missing : (k : ℕ) → k < length places → (get_or places k d).row ≡ row → (t : Bool) → nat_lt k index ≡ t → (u : Bool) → nat_lt index k ≡ u → ⊥
    missing k less same true before u is = let under : k < index = grind (arith, nat_tests) in absurd (omega (arith, first.before k under, row_at places k d less, same))
    missing k less same false before true after =
        let over : index < k = grind (arith, nat_tests) in
        let within : index < length places = omega (arith, over, less) in
        absurd (omega (arith, first.after index (omega arith) (omega (arith, within, length-map places row_of_place)), far (map row_of_place places) index k rises over (omega (arith, less, length-map places row_of_place)), row_at places k d less, same))
    missing k less same false before false after =
        let here : index ≡ k = grind (arith, nat_tests) in
        absurd (other (omega (arith, here, less)) (ap (λ n. (get_or places n d).row) here ∙ same))

-- THE NAME at its place
pub rows_same : (bytes : List ℕ) (places : List NamePlace) → map row_of_name (map (name_at_place bytes) places) ≡ map row_of_place places
rows_same bytes [] = refl
rows_same bytes (p ∷ places) = ap (λ l. p.row ∷ l) (rows_same bytes places)

shown_if : (t : Bool) (bytes : List ℕ) (p q : NamePlace) (rest : DisplayedName) → rest ≡ shown_as q.is_cut (slice bytes q.name.start q.name.size)
    → (if t then (name_at_place bytes p).name else rest) ≡ shown_as (if t then p else q).is_cut (slice bytes (if t then p else q).name.start (if t then p else q).name.size)
shown_if true bytes p q rest is = refl
shown_if false bytes p q rest is = is

pub name_by : (bytes : List ℕ) (places : List NamePlace) (row : ℕ) → name_of_row_in (map (name_at_place bytes) places) row ≡ shown_as (place_in places row).is_cut (slice bytes (place_in places row).name.start (place_in places row).name.size)
name_by bytes [] row = refl
name_by bytes (p ∷ places) row = shown_if (p.row == row) bytes p (place_in places row) (name_of_row_in (map (name_at_place bytes) places) row) (name_by bytes places row)

within_if : (t : Bool) (size : ℕ) (p q : NamePlace) → IsNamePlaceIn size p → IsNamePlaceIn size q → IsNamePlaceIn size (if t then p else q)
within_if true size p q here rest = here
within_if false size p q here rest = rest

pub place_within : (size : ℕ) (places : List NamePlace) (row : ℕ) → All (IsNamePlaceIn size) places → IsNamePlaceIn size (place_in places row)
place_within size [] row within = omega arith
place_within size (p ∷ places) row within =
    within_if (p.row == row) size p (place_in places row) (within 0 p (omega arith)) (place_within size places row (λ k d below. within (suc k) d (omega (arith, below))))

pub name_read : (bytes : List ℕ) (places : List NamePlace) (row : ℕ) (p : NamePlace) (text : List ℕ) → p ≡ place_in places row → text ≡ slice bytes p.name.start p.name.size
    → shown_as p.is_cut text ≡ name_of_row_in (map (name_at_place bytes) places) row
name_read bytes places row p text place is =
    ap (λ b. shown_as p.is_cut b) is ∙ ap (λ (q : NamePlace). shown_as q.is_cut (slice bytes q.name.start q.name.size)) place ∙ sym (name_by bytes places row)
