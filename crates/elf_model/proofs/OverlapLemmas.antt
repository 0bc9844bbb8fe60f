-- LOAD segments that overlap, header by header.
use Rattle.std.proofs.Common.{◌≡◌, ℕ, suc, zero, ◌+◌, ◌/◌, ◌≤◌, ◌<◌, ◌&&◌, nat_lt, Bool, true, false, List, [], ◌∷◌, ◌++◌, if◌then◌else◌, refl, ap, ◌∙◌, arith, zero-add}
use Rattle.std.proofs.Math.Nat.{div-mul-le_self}
use Rattle.std.proofs.lemmas.Bool.{ltb-false}
use Rattle.std.proofs.lemmas.Nat.{le-div}
use Rattle.elf_model.specs.Prelude.{Check, Fault, HEADER, ListingItem, ListingStyle, NoPageIsShared, OverlapIsListedElsewhere, OverlapIsListedSecond, e_phnum, first_page, first_refusal, header_checks, header_row, known_parts, listing, load_checks, load_items, loaded_items, loads_from, needs_segments, overlap_checks, overlaps_from, p_memsz, p_vaddr, page_behind, pass, listing_refusal_line, report_by, segment_at, table_items, takes_memory, view_checks, viewed, where_asked}
use Rattle.elf_model.specs.declared.causes.Cause.TheVariants.{LoadOverlap}
use Rattle.elf_model.proofs.ListingLemmas.{guarded-fault, guarded-passes, asked-true, load_some, row_then_fault}

-- a segment ends after the page that it begins on, or on it
page_grows : (file : List ℕ) (at : ℕ) → first_page file at ≤ page_behind file at
page_grows file at =
    let d = div-mul-le_self (p_vaddr file at) 4096 in
    le-div (p_vaddr file at / 4096) (p_vaddr file at + p_memsz file at + 4095) 4096 (omega arith) (omega arith)

-- the program headers after one
pub loads_taken : (file : List ℕ) (first count : ℕ) → takes_memory file (segment_at file first) ≡ true
    → loads_from file first (suc count) ≡ segment_at file first ∷ loads_from file (suc first) count
unfolding loads_from
loads_taken file first count t = rw t refl

pub loads_passed : (file : List ℕ) (first count : ℕ) → takes_memory file (segment_at file first) ≡ false
    → loads_from file first (suc count) ≡ loads_from file (suc first) count
unfolding loads_from
loads_passed file first count t = rw t refl

-- a check passes, and those after it
check_passed : (file : List ℕ) (page at : ℕ) (loads : List ℕ) → pass (overlaps_from file page (at ∷ loads)) ≡ true
    → (page ≤ first_page file at) × (pass (overlaps_from file (page_behind file at) loads) ≡ true)
unfolding overlaps_from
check_passed file page at loads h = by_cases (nat_lt (first_page file at) page) refl h
  where
    by_cases : (below : Bool) → nat_lt (first_page file at) page ≡ below
        → pass (record { fails = below; refusal = record { at = at; cause = LoadOverlap } } ∷ overlaps_from file (page_behind file at) loads) ≡ true
        → (page ≤ first_page file at) × (pass (overlaps_from file (page_behind file at) loads) ≡ true)
    by_cases true b h = cc
    by_cases false b h = let low = ltb-false (first_page file at) page b in (omega arith, h)

-- every one of some program headers that takes up memory begins after a page
abbrev Above : (file : List ℕ) (page first count : ℕ) → Type 0
Above file page first count =
    pass (overlaps_from file page (loads_from file first count)) ≡ true → (more : ℕ) → more < count
    → takes_memory file (segment_at file (first + more)) ≡ true → page ≤ first_page file (segment_at file (first + more))

above_step : (file : List ℕ) (page first count : ℕ) → ((other : ℕ) → Above file other (suc first) count)
    → (taken : Bool) → takes_memory file (segment_at file first) ≡ taken → Above file page first (suc count)
above_step file page first count rest true k h zero m t =
    let checked = check_passed file page (segment_at file first) (loads_from file (suc first) count) (rw (loads_taken file first count k) at h) in
    let place : first + 0 ≡ first = omega arith in
    rw place checked.0
above_step file page first count rest true k h (suc more) m t =
    let checked = check_passed file page (segment_at file first) (loads_from file (suc first) count) (rw (loads_taken file first count k) at h) in
    let place : first + suc more ≡ suc first + more = omega arith in
    let grows = page_grows file (segment_at file first) in
    let later = rest (page_behind file (segment_at file first)) checked.1 more (omega (arith, m)) (rw place at t) in
    rw place (omega (arith, checked.0, grows, later))
above_step file page first count rest false k h zero m t =
    let place : first + 0 ≡ first = omega arith in
    absurd (let a : takes_memory file (segment_at file first) ≡ true = rw place at t in cc)
above_step file page first count rest false k h (suc more) m t =
    let place : first + suc more ≡ suc first + more = omega arith in
    rw place (rest page (rw (loads_passed file first count k) at h) more (omega (arith, m)) (rw place at t))

above : (file : List ℕ) (first count page : ℕ) → Above file page first count
above file first zero page = λ h more m t. omega (arith, m)
above file first (suc count) page =
    above_step file page first count (above file (suc first) count) (takes_memory file (segment_at file first)) refl

-- of two of them the later begins after the earlier
abbrev Apart : (file : List ℕ) (page first count : ℕ) → Type 0
Apart file page first count =
    pass (overlaps_from file page (loads_from file first count)) ≡ true → (a b : ℕ) → a < b → b < count
    → takes_memory file (segment_at file (first + a)) ≡ true → takes_memory file (segment_at file (first + b)) ≡ true
    → page_behind file (segment_at file (first + a)) ≤ first_page file (segment_at file (first + b))

apart_step : (file : List ℕ) (page first count : ℕ) → ((other : ℕ) → Apart file other (suc first) count)
    → (taken : Bool) → takes_memory file (segment_at file first) ≡ taken → Apart file page first (suc count)
apart_step file page first count rest taken k h a zero l m s t = omega (arith, l)
apart_step file page first count rest true k h zero (suc b) l m s t =
    let here : first + 0 ≡ first = omega arith in
    let there : first + suc b ≡ suc first + b = omega arith in
    let checked = check_passed file page (segment_at file first) (loads_from file (suc first) count) (rw (loads_taken file first count k) at h) in
    rw (here, there) (above file (suc first) count (page_behind file (segment_at file first)) checked.1 b (omega (arith, m)) (rw there at t))
apart_step file page first count rest false k h zero (suc b) l m s t =
    let here : first + 0 ≡ first = omega arith in
    absurd (let a : takes_memory file (segment_at file first) ≡ true = rw here at s in cc)
apart_step file page first count rest true k h (suc a) (suc b) l m s t =
    let here : first + suc a ≡ suc first + a = omega arith in
    let there : first + suc b ≡ suc first + b = omega arith in
    let checked = check_passed file page (segment_at file first) (loads_from file (suc first) count) (rw (loads_taken file first count k) at h) in
    rw (here, there)
    (rest (page_behind file (segment_at file first)) checked.1 a b (omega (arith, l)) (omega (arith, m)) (rw here at s) (rw there at t))
apart_step file page first count rest false k h (suc a) (suc b) l m s t =
    let here : first + suc a ≡ suc first + a = omega arith in
    let there : first + suc b ≡ suc first + b = omega arith in
    rw (here, there)
    (rest page (rw (loads_passed file first count k) at h) a b (omega (arith, l)) (omega (arith, m)) (rw here at s) (rw there at t))

apart : (file : List ℕ) (first count page : ℕ) → Apart file page first count
apart file first zero page = λ h a b l m s t. omega (arith, m)
apart file first (suc count) page =
    apart_step file page first count (apart file (suc first) count) (takes_memory file (segment_at file first)) refl

pub no_page_shared : NoPageIsShared
unfolding overlap_checks
no_page_shared file h earlier later l m s t =
    let here : 0 + earlier ≡ earlier = zero-add earlier in
    let there : 0 + later ≡ later = zero-add later in
    rw (here, there) at (apart file 0 (e_phnum file) 0 h earlier later l m (rw here s) (rw there t))

-- the checks of a style
pub view_elsewhere : (file : List ℕ) (style : ListingStyle) (parts : ℕ) → style.by_segments ≡ false → view_checks file style parts ≡ []
unfolding view_checks
view_elsewhere file style parts b = rw b refl

pub overlap_elsewhere : OverlapIsListedElsewhere
unfolding loaded_items
overlap_elsewhere file style parts b =
    guarded-passes (view_checks file style parts) (table_items file style parts) (ap first_refusal (view_elsewhere file style parts b))

where_both : (a b : Bool) (checks : List Check) → a ≡ true → b ≡ true → (if a && b then checks else []) ≡ checks
where_both true true checks s n = refl
where_both true false checks s n = cc
where_both false b checks s n = cc

view_asked : (file : List ℕ) (style : ListingStyle) (parts : ℕ) → style.by_segments ≡ true → needs_segments file style parts ≡ true
    → view_checks file style parts ≡ overlap_checks file
unfolding view_checks
view_asked file style parts b n = where_both style.by_segments (needs_segments file style parts) (overlap_checks file) b n

pub overlap_second : OverlapIsListedSecond
unfolding listing loaded_items
overlap_second file headers style parts refusal h l b n o p t =
    let view : List ℕ = viewed style file in
    let known : ℕ = known_parts style parts in
    let line : List ListingItem = where_asked parts HEADER (header_row style file) in
    let passes : listing file headers style parts ≡ line ++ load_items view headers style known =
    guarded-passes (header_checks file) (line ++ load_items view headers style known) h in
    let loaded : loaded_items view style known ≡ Fault refusal ∷ [] =
    guarded-fault (view_checks view style known) (table_items view style known) refusal (ap first_refusal (view_asked view style known b n) ∙ o) in
    let fault : load_items view headers style known ≡ Fault refusal ∷ [] =
    load_some view headers style known t ∙ guarded-passes (load_checks view headers) (loaded_items view style known) l ∙ loaded in
    let e : listing file headers style parts ≡ header_row style file ++ Fault refusal ∷ [] =
    passes ∙ ap (λ more. line ++ more) fault ∙ ap (λ first. first ++ Fault refusal ∷ []) (asked-true parts HEADER (header_row style file) p) in
    ap (report_by (listing_refusal_line file style parts)) e ∙ row_then_fault (listing_refusal_line file style parts) style file refusal
