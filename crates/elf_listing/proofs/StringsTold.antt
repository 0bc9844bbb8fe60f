-- The string of a dynamic entry, by whether it refers to one.
use Rattle.elf_model.specs.Prelude.{DisplayedName, EveryRow, Fault as FaultItem, LinePrefix, ListingItem, ListingStyle, RowFilter, chosen_row, d_tag, d_un, dynamic_prefix, dynamic_row, first_refusal, is_string_tag, mapped_checks, mapped_place, place_of_dynamic, placed_choice, shown, strings_at, value_name}
use Rattle.elf_model.specs.declared.causes.Cause.{Cause}
use Rattle.elf_model.specs.declared.causes.Refusal.{Refusal}
use Rattle.elf_model.specs.declared.formats.Format.{Format}
use Rattle.std.proofs.Common.{◌≡◌, ℕ, Bool, true, false, List, [], ◌∷◌, Option, None, Some, Result, Ok, Err, refl, sym, ap, ◌∙◌, subst}
use Rattle.elf_source.specs.Output.{OutState}
use Rattle.elf_table.specs.Prelude.{NameRead, StringTableRange, answered, stop_of, strings_in, strings_mapped}
use Rattle.elf_table.specs.declared.fault.Fault.{Fault}
use Rattle.elf_table.specs.declared.names.NameEnd.{NameEnd}
use Rattle.elf_table.specs.declared.fault.Fault.TheVariants.{Refused}
use Rattle.elf_listing.specs.Prelude.{StringsFound, ToldRead, WroteUntilStop, string_told, string_told_by}
use Rattle.elf_listing.proofs.RowLaws.{Ends-first, WroteUntilStop-chosen}

-- the row of an entry by its bytes before the name, and its string
abbrev pub reported_row : RowFilter → LinePrefix → ℕ → Result (Result DisplayedName Cause) Refusal → List ListingItem
reported_row choice front at (Ok answer) = chosen_row choice front at answer
reported_row choice front at (Err refusal) = FaultItem refusal ∷ []

row_by_cases : (tells : Bool) (other : Result DisplayedName Cause) (table : Result (List ℕ) Refusal) (choice : RowFilter) (front : LinePrefix) (at : ℕ) (name : List ℕ → Result DisplayedName Cause)
    → (elim tells as (λ _. List ListingItem) [
      | false ↦ chosen_row choice front at other
      | true ↦ elim table as (λ _. List ListingItem) [ Err refusal ↦ FaultItem refusal ∷ [] | Ok strings ↦ chosen_row choice front at (name strings) ]
    ])
    ≡ reported_row choice front at (string_told_by tells other table name)
row_by_cases false other table choice front at name = refl
row_by_cases true other (Ok strings) choice front at name = refl
row_by_cases true other (Err refusal) choice front at name = refl

-- the rows that are shown of the entry at an offset
abbrev pub dynamic_choice : ListingStyle → ℕ → RowFilter
dynamic_choice style at = placed_choice style (place_of_dynamic at) EveryRow

pub row_told : (file : List ℕ) (style : ListingStyle) (strings : ℕ → Result (List ℕ) Refusal) (at index : ℕ)
    → dynamic_row file style strings at index ≡ reported_row (dynamic_choice style at) (dynamic_prefix style.format style.gnu file at index) at (string_told strings style.format file style.cap at)
unfolding dynamic_row
row_told file style strings at index =
    row_by_cases (is_string_tag (d_tag file at)) (value_name file style.format at) (strings at) (dynamic_choice style at) (dynamic_prefix style.format style.gnu file at index) at (λ table. shown table (d_un file at) style.cap)

-- the row of an entry at its place, by its prefix
pub entry_is : (file : List ℕ) (front : LinePrefix) (style : ListingStyle) (at index place : ℕ) (strings : ℕ → Result (List ℕ) Refusal) → front ≡ dynamic_prefix style.format style.gnu file at index → at ≡ place
    → dynamic_row file style strings place index ≡ reported_row (dynamic_choice style at) front at (string_told strings style.format file style.cap at)
entry_is file front style at index place strings same here =
    ap (λ p. dynamic_row file style strings p index) (sym here) ∙ (row_told file style strings at index ∙ ap (λ text. reported_row (dynamic_choice style at) text at (string_told strings style.format file style.cap at)) (sym same))

-- a string that could not be read
pub WroteUntilStop-told : (a : OutState) (choice : RowFilter) (front : LinePrefix) (at : ℕ) (fault : Fault) (name : List ℕ) (told : Result (Result DisplayedName Cause) Refusal) → ToldRead at (Err fault) name told
    → WroteUntilStop a a (stop_of fault) (reported_row choice front at told)
WroteUntilStop-told a choice front at fault name (Ok answer) read = WroteUntilStop-chosen a choice front at fault name answer read
WroteUntilStop-told a choice front at fault name (Err refusal) read =
    let is : fault ≡ Refused refusal = cc in
    let P : Fault → Type 0 = λ f. WroteUntilStop a a (stop_of f) (FaultItem refusal ∷ []) in
    subst P (sym is) (Ends-first a refusal (FaultItem refusal ∷ []) (λ other. refl))

-- a string that was read is the specified one
pub told_shown : (at : ℕ) (end : NameEnd) (name : List ℕ) (told : Result (Result DisplayedName Cause) Refusal) → ToldRead at (Ok end) name told
    → (answer : Result DisplayedName Cause) × (told ≡ Ok answer) × NameRead at (Ok end) name answer
told_shown at end name (Ok answer) read = (answer, refl, read)
told_shown at end name (Err refusal) read = cc

abbrev name_at : List ℕ → ℕ → ℕ → List ℕ → Result DisplayedName Cause
name_at file cap at table = shown table (d_un file at) cap

-- an entry that refers to no string
pub reported_none : (strings : ℕ → Result (List ℕ) Refusal) (format : Format) (file : List ℕ) (most at : ℕ) → is_string_tag (d_tag file at) ≡ false → string_told strings format file most at ≡ Ok (value_name file format at)
reported_none strings format file most at none = ap (λ tells. string_told_by tells (value_name file format at) (strings at) (name_at file most at)) none

-- one whose string table is refused
pub told_refused : (strings : ℕ → Result (List ℕ) Refusal) (format : Format) (file name : List ℕ) (most at : ℕ) (fault : Fault) (table : Result (List ℕ) Refusal) → strings at ≡ table
    → is_string_tag (d_tag file at) ≡ true → StringsFound file (Err fault) table → ToldRead at (Err fault) name (string_told strings format file most at)
told_refused strings format file name most at fault (Ok table) same tells found = absurd found
told_refused strings format file name most at fault (Err refusal) same tells found = rw (tells, same) (ap (λ (f : Fault). Err f) found)

-- one whose string was read in its table
pub told_read : (strings : ℕ → Result (List ℕ) Refusal) (format : Format) (file name : List ℕ) (most at off : ℕ) (names : StringTableRange) (result : Result NameEnd Fault) (table : Result (List ℕ) Refusal) → strings at ≡ table
    → is_string_tag (d_tag file at) ≡ true → StringsFound file (Ok names) table → off ≡ d_un file at → NameRead at result name (shown (strings_in file names) off most)
    → ToldRead at result name (string_told strings format file most at)
told_read strings format file name most at off names result (Ok table) same tells found is read =
    let here : strings_in file names ≡ table = found in rw (tells, same, ← here, ← is) read
told_read strings format file name most at off names result (Err refusal) same tells found is read = absurd found

-- a string table that a segment loads is the specified one
found_by_cases : (file : List ℕ) (first : Option Refusal) (names : StringTableRange)
    → StringsFound file (answered first names) (elim first as (λ _. Result (List ℕ) Refusal) [ None ↦ Ok (strings_in file names) | Some refusal ↦ Err refusal ])
found_by_cases file None names = refl
found_by_cases file (Some refusal) names = refl

pub found_mapped : (file : List ℕ) (address size at : ℕ) → StringsFound file (strings_mapped file address size at) (strings_at file at (Some address) (Some size))
unfolding strings_at
found_mapped file address size at =
    found_by_cases file (first_refusal (mapped_checks file address size at)) (record { at = mapped_place file address size; size = size })
