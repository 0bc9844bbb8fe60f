-- The items of one row, by the line that was written.
use Rattle.elf_model.specs.Prelude.{DisplayedName, Fault as FaultItem, IsBudgetRefusal, Line, LinePrefix, ListingItem, ListingStyle, NoSuffix, RowFilter, chooses, chosen_row, e_machine, e_phoff, entry_at, lines_of, named_row, place_of_segment, placed_line, r_sym, relocation_choice, relocation_prefix, relocation_row, relocation_size, section_at, segment_at, segment_line, segment_row, sh_offset, shown, shows_place, st_name, strings_of, symbol_choice, symbol_named, symbol_prefix, symbol_row}
use Rattle.elf_model.specs.declared.causes.Cause.{Cause}
use Rattle.elf_model.specs.declared.causes.Refusal.{Refusal}
use Rattle.elf_model.specs.declared.place_filters.RowPlace.{RowPlace}
use Rattle.std.proofs.Common.{◌≡◌, ℕ, ◌+◌, ◌*◌, List, [], ◌∷◌, Bool, true, false, Result, Ok, Err, refl, sym, ap, ◌∙◌, subst, arith, append-nil}
use Rattle.elf_source.specs.Output.{OutState, SinkTakes, SinkTakesPrefix}
use Rattle.elf_source.proofs.PutsLaws.{SinkTakes-nothing}
use Rattle.elf_table.specs.Prelude.{IsOfRead, NameRead, shown_by, stop_of}
use Rattle.elf_table.specs.declared.names.NameEnd.TheVariants.{Cut as NameCut, Whole as NameWhole}
use Rattle.elf_table.specs.declared.fault.Fault.{Fault}
use Rattle.elf_table.specs.declared.names.NameEnd.{NameEnd}
use Rattle.elf_table.specs.declared.run_fault.RunFault.{RunFault}
use Rattle.elf_table.specs.declared.fault.Fault.TheVariants.{Refused, Source}
use Rattle.elf_listing.specs.Shows.{WroteItems, WrotePrefix, WroteUntilRefusal, WroteUntilStop, WroteSome}

-- the same items
pub WroteSome-as : {X : Type 0} (a b : OutState) (result : Result X RunFault) {xs ys : List ListingItem} → xs ≡ ys → WroteSome a b result ys → WroteSome a b result xs
WroteSome-as a b result same written = subst (λ (items : List ListingItem). WroteSome a b result items) (sym same) written

-- a line was written
pub Whole-line : {a b : OutState} (line : List ℕ) → SinkTakes a b line → WroteItems a b (Line line ∷ [])
Whole-line line p = record { takes = rw append-nil p; no_fault = refl }

pub WroteUntilStop-line : {a b : OutState} (line : List ℕ) → SinkTakesPrefix a b line → SinkTakesPrefix a b (lines_of (Line line ∷ []))
WroteUntilStop-line line p = rw append-nil p

-- nothing was written of some items
pub WrotePrefix-none : (a : OutState) (all : List ListingItem) → WrotePrefix a a all
WrotePrefix-none a all = record { front = []; rest = all; split = refl; takes = SinkTakes-nothing a; no_fault = refl }

-- a refusal replaces all items
pub Ends-first : (a : OutState) (refusal : Refusal) (all : List ListingItem) → ((IsBudgetRefusal refusal → ⊥) → all ≡ FaultItem refusal ∷ []) → WroteUntilRefusal a a refusal all
unfolding WrotePrefix-none
Ends-first a refusal all is = record { front = WrotePrefix-none a all; next = λ other. record { later = []; is_next = is other } }

-- a read fault before anything was written
pub WroteUntilStop-first : (a : OutState) (fault : Fault) (all : List ListingItem) → ((refusal : Refusal) → fault ≡ Refused refusal → (IsBudgetRefusal refusal → ⊥) → all ≡ FaultItem refusal ∷ []) → WroteUntilStop a a (stop_of fault) all
WroteUntilStop-first a (Refused refusal) all is = Ends-first a refusal all (is refusal refl)
WroteUntilStop-first a (Source fault at) all is = WrotePrefix-none a all

-- a read fault before anything was written, and nothing is known of the file
pub WroteUntilStop-unread-first : (a : OutState) (fault : Fault) (all : List ListingItem) → IsOfRead fault → WroteUntilStop a a (stop_of fault) all
WroteUntilStop-unread-first a (Refused refusal) all read = Ends-first a refusal all (λ other. absurd (other read))
WroteUntilStop-unread-first a (Source fault at) all read = WrotePrefix-none a all

-- the row of a name is its line if it is shown, otherwise nothing
pub chosen-shown : (choice : RowFilter) (front : LinePrefix) (at : ℕ) (end : NameEnd) (name : List ℕ) (answer : Result DisplayedName Cause) → NameRead at (Ok end) name answer
    → chooses choice (shown_by end name) NoSuffix ≡ true → chosen_row choice front at answer ≡ named_row front at answer
chosen-shown choice front at NameWhole name answer read is = rw read (rw is refl)
chosen-shown choice front at NameCut name answer read is = rw read (rw is refl)

pub chosen-hidden : (choice : RowFilter) (front : LinePrefix) (at : ℕ) (end : NameEnd) (name : List ℕ) (answer : Result DisplayedName Cause) → NameRead at (Ok end) name answer
    → chooses choice (shown_by end name) NoSuffix ≡ false → chosen_row choice front at answer ≡ []
chosen-hidden choice front at NameWhole name answer read is = rw read (rw is refl)
chosen-hidden choice front at NameCut name answer read is = rw read (rw is refl)

-- a name that could not be read for a row
pub WroteUntilStop-chosen : (a : OutState) (choice : RowFilter) (front : LinePrefix) (at : ℕ) (fault : Fault) (name : List ℕ) (answer : Result DisplayedName Cause) → NameRead at (Err fault) name answer
    → WroteUntilStop a a (stop_of fault) (chosen_row choice front at answer)
WroteUntilStop-chosen a choice front at (Refused refusal) name answer read =
    Ends-first a refusal (chosen_row choice front at answer) (λ other.
    let is = read other in
    ap (chosen_row choice front at) is.1 ∙ ap (λ (place : ℕ). FaultItem (record { at = place; cause = refusal.cause }) ∷ []) (sym is.0))
WroteUntilStop-chosen a choice front at (Source fault offset) name answer read = WrotePrefix-none a (chosen_row choice front at answer)

-- a program header's line at its place
pub segment_is : (file line : List ℕ) (style : ListingStyle) (at index : ℕ) → line ≡ segment_line style.format style.gnu file at index → at ≡ e_phoff file + index * 56
    → segment_row file style index ≡ placed_line style (place_of_segment file at) line
unfolding segment_row
segment_is file line style at index same here =
    let place : at ≡ segment_at file index = omega arith in
    sym (ap (λ text. placed_line style (place_of_segment file at) text) same
    ∙ ap (λ p. placed_line style (place_of_segment file p) (segment_line style.format style.gnu file p index)) place)

-- a row without a name is its line if it is shown, otherwise nothing
pub line-shown : (style : ListingStyle) (place : RowPlace) (line : List ℕ) → shows_place style.place place ≡ true → placed_line style place line ≡ Line line ∷ []
line-shown style place line is = rw is refl

pub line-hidden : (style : ListingStyle) (place : RowPlace) (line : List ℕ) → shows_place style.place place ≡ false → placed_line style place line ≡ []
line-hidden style place line is = rw is refl

-- a symbol's row at its place
pub symbol_is : (file : List ℕ) (style : ListingStyle) (section index at : ℕ) (front : LinePrefix) (table : List ℕ) (off : ℕ) → front ≡ symbol_prefix style.format style.gnu (e_machine file) file at section index
    → table ≡ strings_of file (section_at file section) → off ≡ st_name file at → at ≡ sh_offset file (section_at file section) + index * 24
    → symbol_row file style section (section_at file section) index ≡ chosen_row (symbol_choice file style (section_at file section) at) front at (shown table off style.cap)
unfolding symbol_row
symbol_is file style section index at front table off same_front same_table same_name here =
    let choice : ℕ → RowFilter = symbol_choice file style (section_at file section) in
    let place : at ≡ entry_at file (section_at file section) 24 index = omega arith in
    sym (ap (λ text. chosen_row (choice at) text at (shown table off style.cap)) same_front
    ∙ (ap (λ names. chosen_row (choice at) (symbol_prefix style.format style.gnu (e_machine file) file at section index) at (shown names off style.cap)) same_table
    ∙ (ap (λ name. chosen_row (choice at) (symbol_prefix style.format style.gnu (e_machine file) file at section index) at (shown (strings_of file (section_at file section)) name style.cap)) same_name
    ∙ ap (λ p. chosen_row (choice p) (symbol_prefix style.format style.gnu (e_machine file) file p section index) p (shown (strings_of file (section_at file section)) (st_name file p) style.cap)) place)))

-- the place of an entry of one size, by its index
pub entry_place : (addends : Bool) (from index : ℕ) → from + index * relocation_size addends ≡ from + relocation_size addends * index
entry_place true from index = omega arith
entry_place false from index = omega arith

-- a relocation entry's row at its place
pub relocation_is : (addends : Bool) (file : List ℕ) (front : LinePrefix) (style : ListingStyle) (section at entry symbol index : ℕ) → entry ≡ sh_offset file at + index * relocation_size addends
    → front ≡ relocation_prefix addends style.format style.gnu (e_machine file) file entry section → symbol ≡ r_sym file entry
    → relocation_row addends file style section at index ≡ chosen_row (relocation_choice addends file style entry) front (symbol_named file style.cap at entry symbol).0 (symbol_named file style.cap at entry symbol).1
unfolding relocation_row
relocation_is addends file front style section at entry symbol index here same names =
    let place : entry ≡ entry_at file at (relocation_size addends) index = here ∙ entry_place addends (sh_offset file at) index in
    let row : LinePrefix → ℕ → ℕ → List ListingItem = λ text e k. chosen_row (relocation_choice addends file style e) text (symbol_named file style.cap at e k).0 (symbol_named file style.cap at e k).1 in
    sym (ap (λ text. row text entry symbol) same ∙ (ap (λ k. row (relocation_prefix addends style.format style.gnu (e_machine file) file entry section) entry k) names
    ∙ ap (λ e. row (relocation_prefix addends style.format style.gnu (e_machine file) file e section) e (r_sym file e)) place))
