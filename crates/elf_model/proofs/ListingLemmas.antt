-- How listings are concatenated.
use Rattle.std.proofs.lemmas.Nat.{and_assoc}
use Rattle.std.specs.Int.RustNames.{bit_and}
use Rattle.elf_model.specs.Prelude.{Check, FILE_HEADER_SIZE, Fault, HEADER, HeaderAloneIsListed, HeaderFaultIsListedAlone, LastRowIsLast, Line, ListingItem, ListingStyle, ListingsAppend, LoadFaultIsListedSecond, NothingAfterTheFault, OtherBitsMeanNothing, RowsSplit, after_header, all_parts, each, fault_of, file_header_items, first_refusal, guarded, has, has_tables, header_checks, header_line, place_of_header, header_row, known_parts, lines_of, listing, listing_cost, load_checks, load_items, loaded_items, listing_fault_row, listing_refusal_line, refusal_line_in, report_by, shows_place, viewed, where_asked}
use Rattle.elf_model.specs.declared.causes.Refusal.{Refusal}
use Rattle.elf_model.specs.declared.fault_rows.FaultRow.TheVariants.{NoRow}
use Rattle.std.proofs.Common.{◌≡◌, ℕ, suc, zero, ◌+◌, ◌==◌, Bool, true, false, List, [], ◌∷◌, ◌++◌, Some, None, if◌then◌else◌, arith, refl, ap, sym, ◌∙◌, append-nil, append_assoc, add-zero, zero-add}

-- rows are concatenated
pub rows_split : RowsSplit
unfolding each
rows_split row first zero more = rw (zero-add more, add-zero first)
rows_split row first (suc count) more =
    let step = rows_split row (suc first) count more in
    let place : suc first + count ≡ first + suc count = omega arith in
    let total : suc count + more ≡ suc (count + more) = omega arith in
    ap (λ n. each row first n) total
    ∙ ap (λ rest. row first ++ rest) (step ∙ ap (λ n. each row (suc first) count ++ each row n more) place)
    ∙ sym (append_assoc (row first) (each row (suc first) count) (each row (first + suc count) more))

pub last_row : LastRowIsLast
unfolding each
last_row row first count =
    rows_split row first count 1 ∙ ap (λ rest. each row first count ++ rest) (append-nil (row (first + count)))

-- a failed check replaces the items
pub guarded-fault : (checks : List Check) (members : List ListingItem) (refusal : Refusal) → first_refusal checks ≡ Some refusal
    → guarded checks members ≡ Fault refusal ∷ []
guarded-fault checks members refusal h = rw (h, guarded) refl

-- if all checks pass, the items are unchanged
pub guarded-passes : (checks : List Check) (members : List ListingItem) → first_refusal checks ≡ None → guarded checks members ≡ members
guarded-passes checks members h = rw (h, guarded) refl

pub asked-true : (parts part : ℕ) (members : List ListingItem) → has parts part ≡ true → where_asked parts part members ≡ members
asked-true parts part members h = rw (h, where_asked) refl

pub load_none : (file : List ℕ) (headers : ℕ) (style : ListingStyle) (parts : ℕ) → has_tables parts ≡ false → load_items file headers style parts ≡ []
unfolding load_items
load_none file headers style parts h = by_cases (has_tables parts) h
  where
    by_cases : (b : Bool) → b ≡ false
        → elim b as (λ _. List ListingItem) [ true ↦ guarded (load_checks file headers) (loaded_items file style parts) | false ↦ [] ] ≡ []
    by_cases false h = refl
    by_cases true h = cc

pub load_some : (file : List ℕ) (headers : ℕ) (style : ListingStyle) (parts : ℕ) → has_tables parts ≡ true
    → load_items file headers style parts ≡ guarded (load_checks file headers) (loaded_items file style parts)
unfolding load_items
load_some file headers style parts h = by_cases (has_tables parts) (guarded (load_checks file headers) (loaded_items file style parts)) h
  where
    by_cases : (b : Bool) (members : List ListingItem) → b ≡ true → elim b as (λ _. List ListingItem) [ true ↦ members | false ↦ [] ] ≡ members
    by_cases false members h = cc
    by_cases true members h = refl

pub header_alone : HeaderAloneIsListed
unfolding listing file_header_items
header_alone file headers style parts h =
    let line : List ListingItem = where_asked parts HEADER (header_row style file) in
    ap (guarded (header_checks file)) (ap (λ more. line ++ more) (load_none (viewed style file) headers style (known_parts style parts) h) ∙ append-nil line)

-- a file whose header is refused has no row at fault
no_fault_row : (file : List ℕ) (style : ListingStyle) (parts at : ℕ) (refusal : Refusal) → first_refusal (header_checks file) ≡ Some refusal
    → listing_fault_row file style parts at ≡ NoRow
unfolding listing_fault_row
no_fault_row file style parts at refusal h = rw h refl

pub header_fault : HeaderFaultIsListedAlone
unfolding listing
header_fault file headers style parts refusal h =
    let e : listing file headers style parts ≡ Fault refusal ∷ [] =
    guarded-fault (header_checks file) (where_asked parts HEADER (header_row style file) ++ load_items (viewed style file) headers style (known_parts style parts)) refusal h in
    (ap (report_by (listing_refusal_line file style parts)) e ∙ ap (λ row. refusal_line_in style.format row refusal) (no_fault_row file style parts refusal.at refusal h), ap fault_of e)

-- a fault after the file header's row
pub row_then_fault : (line : Refusal → List ℕ) (style : ListingStyle) (file : List ℕ) (refusal : Refusal)
    → report_by line (header_row style file ++ Fault refusal ∷ []) ≡ lines_of (header_row style file) ++ line refusal
row_then_fault line style file refusal = by (shows_place style.place place_of_header) (header_line style.format file)
  where
    by : (shown : Bool) (text : List ℕ)
        → report_by line ((if shown then Line text ∷ [] else []) ++ Fault refusal ∷ []) ≡ lines_of (if shown then Line text ∷ [] else []) ++ line refusal
    by true text = refl
    by false text = refl

pub load_fault : LoadFaultIsListedSecond
unfolding listing
load_fault file headers style parts refusal h l p t =
    let view : List ℕ = viewed style file in
    let known : ℕ = known_parts style parts in
    let line : List ListingItem = where_asked parts HEADER (header_row style file) in
    let passes : listing file headers style parts ≡ line ++ load_items view headers style known =
    guarded-passes (header_checks file) (line ++ load_items view headers style known) h in
    let fault : load_items view headers style known ≡ Fault refusal ∷ [] =
    load_some view headers style known t ∙ guarded-fault (load_checks view headers) (loaded_items view style known) refusal l in
    let e : listing file headers style parts ≡ header_row style file ++ Fault refusal ∷ [] =
    passes ∙ ap (λ more. line ++ more) fault ∙ ap (λ first. first ++ Fault refusal ∷ []) (asked-true parts HEADER (header_row style file) p) in
    ap (report_by (listing_refusal_line file style parts)) e ∙ row_then_fault (listing_refusal_line file style parts) style file refusal

pub nothing_after : NothingAfterTheFault
nothing_after [] back refusal h = cc
nothing_after (Line text ∷ front) back refusal h =
    let n = nothing_after front back refusal h in
    (ap (λ more. text ++ more) n.0, n.1)
nothing_after (Fault first ∷ front) back refusal h = (refl, h)

pub listings_append : ListingsAppend
listings_append [] back h = (refl, refl)
listings_append (Line text ∷ front) back h =
    let n = listings_append front back h in
    (ap (λ more. text ++ more) n.0 ∙ sym (append_assoc text (lines_of front) (lines_of back)), n.1)
listings_append (Fault first ∷ front) back h = cc

-- the known parts of the known parts of a style are the same; the file header is one of them
all_of_all : (gnu : Bool) → bit_and (all_parts gnu) (all_parts gnu) ≡ all_parts gnu
all_of_all true = refl
all_of_all false = refl

header_of_all : (gnu : Bool) → bit_and (all_parts gnu) HEADER ≡ HEADER
header_of_all true = refl
header_of_all false = refl

known_once : (style : ListingStyle) (parts : ℕ) → known_parts style (known_parts style parts) ≡ known_parts style parts
known_once style parts =
    and_assoc (all_parts style.gnu) parts (all_parts style.gnu) ∙ ap (bit_and parts) (all_of_all style.gnu)

header_known : (style : ListingStyle) (parts : ℕ) → has (known_parts style parts) HEADER ≡ has parts HEADER
header_known style parts =
    ap (λ n. n == HEADER) (and_assoc HEADER parts (all_parts style.gnu) ∙ ap (bit_and parts) (header_of_all style.gnu))

listing_known : (file : List ℕ) (headers : ℕ) (style : ListingStyle) (parts : ℕ)
    → listing file headers style (known_parts style parts) ≡ listing file headers style parts
unfolding listing
listing_known file headers style parts =
    let view : List ℕ = viewed style file in
    let line : List ListingItem = header_row style file in
    ap (λ asked. guarded (header_checks file) ((elim asked as (λ _. List ListingItem) [ true ↦ line | false ↦ [] ]) ++ load_items view headers style (known_parts style (known_parts style parts))))
    (header_known style parts)
    ∙ ap (λ known. guarded (header_checks file) (where_asked parts HEADER line ++ load_items view headers style known)) (known_once style parts)

cost_known : (file : List ℕ) (headers : ℕ) (style : ListingStyle) (parts : ℕ)
    → listing_cost file headers style (known_parts style parts) ≡ listing_cost file headers style parts
unfolding listing_cost
cost_known file headers style parts =
    ap (λ known. FILE_HEADER_SIZE + after_header (viewed style file) headers style known) (known_once style parts)

pub other_bits : OtherBitsMeanNothing
other_bits file headers style parts = (listing_known file headers style parts, cost_known file headers style parts)
