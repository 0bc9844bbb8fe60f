-- Rows that end in a name with its version, by what was read of both.
use Rattle.std.proofs.Common.{◌≡◌, ℕ, ◌+◌, ◌*◌, ◌≤◌, ◌==◌, if◌then◌else◌, Bool, true, false, List, [], ◌∷◌, Option, None, Some, Result, Ok, Err, refl, sym, ap, ◌∙◌, arith}
use Rattle.elf_model.specs.Prelude.{DisplayedName, EveryRow, Fault as FaultItem, Line, LinePrefix, ListingItem, ListingStyle, NoSuffix, RowFilter, Suffix, chooses, e_machine, entry_at, linked_at, name_bytes, named_row, r_sym, relocation_choice, relocation_prefix, relocation_row, relocation_row_with_version, relocation_size, section_at, sh_link, sh_offset, shown, st_name, strings_of, suffixed_row, symbol_choice, symbol_named, symbol_prefix, symbol_row, symbol_row_with_version, symbol_suffix}
use Rattle.elf_model.specs.declared.causes.Cause.{Cause}
use Rattle.elf_model.specs.declared.causes.Refusal.{Refusal}
use Rattle.elf_model.proofs.SuffixLaws.{unsuffixed_line, unsuffixed_row}
use Rattle.elf_table.specs.Prelude.{NameRead, shown_by, stop_of}
use Rattle.elf_table.specs.declared.names.NameEnd.TheVariants.{Cut as NameCut, Whole as NameWhole}
use Rattle.elf_table.specs.declared.fault.Fault.{Fault}
use Rattle.elf_table.specs.declared.names.NameEnd.{NameEnd}
use Rattle.elf_table.specs.declared.fault.Fault.TheVariants.{Refused, Source}
use Rattle.elf_note.proofs.SpendsLaws.{SpendsAtMost-then, SpendsAtMost-to}
use Rattle.elf_source.specs.Prelude.{OutState}
use Rattle.elf_source.specs.declared.source.Source.{Ghosts as Sources}
use Rattle.elf_source.specs.declared.sink.Sink.{Ghosts as Sinks}
use Rattle.elf_listing.specs.Prelude.{ListingReads, SuffixRead, WroteUntilStop, row_by, suffix_by, suffix_read}
use Rattle.elf_listing.specs.Suffixed.{suffix_cost}
use Rattle.elf_listing.specs.declared.listing.Listing.{Listing}
use Rattle.elf_listing.specs.declared.read_suffix.VersionSuffixEnd.{VersionSuffixEnd}
use Rattle.elf_listing.specs.declared.suffixes.VersionLookup.{VersionLookup}
use Rattle.elf_listing.proofs.ListsLaws.{SameFile-then}
use Rattle.elf_listing.proofs.RowLaws.{Ends-first, WrotePrefix-none, entry_place, relocation_is, symbol_is}
use Rattle.elf_listing.proofs.SymbolNamed.{says_after}

-- a call that reads after another, in a bound on both
pub ListingReads-then : {S W X Y : Type 0} {s : Sources S} {w : Sinks W} (a b c : Listing S W s w) (y : Y) (result : Result X Fault) (n m k : ℕ)
    → n + m ≤ k → ListingReads a b (Ok y) n → ListingReads b c result m → ListingReads a c result k
ListingReads-then a b c y result n m k within p q =
    let first = p.2.account in
    let second = q.2.account in (
      SameFile-then p.0 q.0,
      q.1 ∙ p.1,
      SpendsAtMost-to (SpendsAtMost-then p.2 q.2) (omega (arith, first, second, within)),
      says_after _ _ _ result _ _ _ (omega (arith, first, within)) p.2.reads q.3,
    )

-- a version that is read after a name, in a bound on both
pub ListingReads-suffix : {S W X Y : Type 0} {s : Sources S} {w : Sinks W} (versions : Option VersionLookup) (a b c : Listing S W s w) (y : Y) (result : Result X Fault) (n : ℕ)
    → ListingReads a b (Ok y) n → ListingReads b c result (suffix_cost versions b.style.cap.bytes) → ListingReads a c result (n + suffix_cost versions a.style.cap.bytes)
ListingReads-suffix versions a b c y result n p q =
    let same = p.0.same_style in
    ListingReads-then a b c y result n (suffix_cost versions b.style.cap.bytes) (n + suffix_cost versions a.style.cap.bytes) (rw same (omega arith)) p q

-- a name that is read after a word, in a bound on both
pub ListingReads-name : {S W X Y : Type 0} {s : Sources S} {w : Sinks W} (a b c : Listing S W s w) (y : Y) (result : Result X Fault) (n : ℕ)
    → ListingReads a b (Ok y) n → ListingReads b c result (name_bytes b.style.cap.bytes) → ListingReads a c result (n + name_bytes a.style.cap.bytes)
ListingReads-name a b c y result n p q =
    let same = p.0.same_style in
    ListingReads-then a b c y result n (name_bytes b.style.cap.bytes) (n + name_bytes a.style.cap.bytes) (rw same (omega arith)) p q

-- a read, in a looser bound
pub ListingReads-more : {S W X Y : Type 0} {s : Sources S} {w : Sinks W} (a b : Listing S W s w) (y : Y) (x : X) (n k : ℕ) → n ≤ k → ListingReads a b (Ok y) n → ListingReads a b (Ok x) k
ListingReads-more a b y x n k within p = let first = p.2.account in (p.0, p.1, SpendsAtMost-to p.2 (omega (arith, first, within)), tt)

-- the name could not be read
pub WroteUntilStop-unnamed : (a : OutState) (choice : RowFilter) (front : LinePrefix) (at : ℕ) (fault : Fault) (name : List ℕ) (answer : Result DisplayedName Cause) (suffix : Result Suffix Refusal)
    → NameRead at (Err fault) name answer → WroteUntilStop a a (stop_of fault) (suffixed_row choice front at answer suffix)
WroteUntilStop-unnamed a choice front at (Refused refusal) name answer suffix read =
    Ends-first a refusal (suffixed_row choice front at answer suffix) (λ other.
    let is = read other in
    ap (λ (n : Result DisplayedName Cause). suffixed_row choice front at n suffix) is.1 ∙ ap (λ (place : ℕ). FaultItem (record { at = place; cause = refusal.cause }) ∷ []) (sym is.0))
WroteUntilStop-unnamed a choice front at (Source fault offset) name answer suffix read = WrotePrefix-none a (suffixed_row choice front at answer suffix)

-- a name that was read
read-shown : (at : ℕ) (end : NameEnd) (name : List ℕ) (answer : Result DisplayedName Cause) → NameRead at (Ok end) name answer → answer ≡ Ok (shown_by end name)
read-shown at NameWhole name answer read = read
read-shown at NameCut name answer read = read

-- the version after it could not be
pub WroteUntilStop-suffix : (a : OutState) (choice : RowFilter) (front : LinePrefix) (at : ℕ) (end : NameEnd) (fault : Fault) (name version : List ℕ) (answer : Result DisplayedName Cause) (suffix : Result Suffix Refusal)
    → NameRead at (Ok end) name answer → SuffixRead (Err fault) version suffix → WroteUntilStop a a (stop_of fault) (suffixed_row choice front at answer suffix)
WroteUntilStop-suffix a choice front at end (Refused refusal) name version answer suffix read after =
    Ends-first a refusal (suffixed_row choice front at answer suffix) (λ other.
    let is = after other in
    ap (λ (n : Result DisplayedName Cause). suffixed_row choice front at n suffix) (read-shown at end name answer read)
    ∙ ap (λ (b : Result Suffix Refusal). suffixed_row choice front at (Ok (shown_by end name)) b) is)
WroteUntilStop-suffix a choice front at end (Source fault offset) name version answer suffix read after = WrotePrefix-none a (suffixed_row choice front at answer suffix)

read-after : (suffix : Option VersionSuffixEnd) (version : List ℕ) (answer : Result Suffix Refusal) → SuffixRead (Ok suffix) version answer → answer ≡ Ok (suffix_read suffix version)
read-after None version answer read = read
read-after (Some suffix) version answer read = read

-- the row is its line if it is shown, otherwise nothing
pub suffixed-shown : (choice : RowFilter) (front : LinePrefix) (at : ℕ) (end : NameEnd) (name version : List ℕ) (answer : Result DisplayedName Cause) (suffix : Option VersionSuffixEnd) (after : Result Suffix Refusal)
    → NameRead at (Ok end) name answer → SuffixRead (Ok suffix) version after → chooses choice (shown_by end name) (suffix_read suffix version) ≡ true
    → suffixed_row choice front at answer after ≡ suffixed_row EveryRow front at answer (Ok (suffix_read suffix version))
suffixed-shown choice front at end name version answer suffix after read next is =
    let named = read-shown at end name answer read in
    let told = read-after suffix version after next in
    rw (named, told) (rw is refl)

pub suffixed-hidden : (choice : RowFilter) (front : LinePrefix) (at : ℕ) (end : NameEnd) (name version : List ℕ) (answer : Result DisplayedName Cause) (suffix : Option VersionSuffixEnd) (after : Result Suffix Refusal)
    → NameRead at (Ok end) name answer → SuffixRead (Ok suffix) version after → chooses choice (shown_by end name) (suffix_read suffix version) ≡ false
    → suffixed_row choice front at answer after ≡ []
suffixed-hidden choice front at end name version answer suffix after read next is =
    let named = read-shown at end name answer read in
    let told = read-after suffix version after next in
    rw (named, told) (rw is refl)

-- a symbol's row at its place
suffixed_symbol_is : (file : List ℕ) (style : ListingStyle) (section index at : ℕ) (front : LinePrefix) (table : List ℕ) (off : ℕ)
    → front ≡ symbol_prefix style.format style.gnu (e_machine file) file at section index
    → table ≡ strings_of file (section_at file section) → off ≡ st_name file at → at ≡ sh_offset file (section_at file section) + index * 24
    → symbol_row_with_version file style section (section_at file section) index
    ≡ suffixed_row (symbol_choice file style (section_at file section) at) front at (shown table off style.cap) (symbol_suffix file style.cap section at index)
unfolding symbol_row_with_version
suffixed_symbol_is file style section index at front table off same_front same_table same_name here =
    let place : at ≡ entry_at file (section_at file section) 24 index = omega arith in
    rw (same_front, same_table, same_name, place) refl

-- the row of a name with nothing after it, if every row is shown
pub every-row : (front : LinePrefix) (at : ℕ) (answer : Result DisplayedName Cause) → suffixed_row EveryRow front at answer (Ok NoSuffix) ≡ named_row front at answer
every-row front at (Ok name) = ap (λ (line : List ℕ). Line line ∷ []) (unsuffixed_line front name)
every-row front at (Err cause) = refl

-- a relocation entry's row at its place
abbrev entry_suffix : List ℕ → (cap at symbol : ℕ) → Result Suffix Refusal
entry_suffix file cap at symbol =
    if symbol == 0 then Ok NoSuffix
    else symbol_suffix file cap (sh_link file at) (entry_at file (linked_at file at) 24 symbol) symbol

suffixed_relocation_is : (addends : Bool) (file : List ℕ) (front : LinePrefix) (style : ListingStyle) (section at entry symbol index : ℕ) → entry ≡ sh_offset file at + index * relocation_size addends
    → front ≡ relocation_prefix addends style.format style.gnu (e_machine file) file entry section → symbol ≡ r_sym file entry
    → relocation_row_with_version addends file style section at index
    ≡ suffixed_row (relocation_choice addends file style entry) front (symbol_named file style.cap at entry symbol).0 (symbol_named file style.cap at entry symbol).1 (entry_suffix file style.cap at symbol)
unfolding relocation_row_with_version
suffixed_relocation_is addends file front style section at entry symbol index here same names =
    let place : entry ≡ entry_at file at (relocation_size addends) index = here ∙ entry_place addends (sh_offset file at) index in
    let row : LinePrefix → ℕ → ℕ → List ListingItem = λ text e k.
    suffixed_row (relocation_choice addends file style e) text (symbol_named file style.cap at e k).0 (symbol_named file style.cap at e k).1 (entry_suffix file style.cap at k) in
    sym (ap (λ text. row text entry symbol) same ∙ (ap (λ k. row (relocation_prefix addends style.format style.gnu (e_machine file) file entry section) entry k) names
    ∙ ap (λ e. row (relocation_prefix addends style.format style.gnu (e_machine file) file e section) e (r_sym file e)) place))

-- a symbol's row at its place, without a version or with it
pub symbol_row_is : (versions : Option VersionLookup) (file : List ℕ) (style : ListingStyle) (section index at : ℕ) (front : LinePrefix) (table : List ℕ) (off : ℕ)
    → front ≡ symbol_prefix style.format style.gnu (e_machine file) file at section index
    → table ≡ strings_of file (section_at file section) → off ≡ st_name file at → at ≡ sh_offset file (section_at file section) + index * 24
    → row_by versions (symbol_row file style section (section_at file section)) (symbol_row_with_version file style section (section_at file section)) index
    ≡ suffixed_row (symbol_choice file style (section_at file section) at) front at (shown table off style.cap) (suffix_by versions file style.cap section at index)
symbol_row_is None file style section index at front table off same_front same_table same_name here =
    symbol_is file style section index at front table off same_front same_table same_name here ∙ sym (unsuffixed_row (symbol_choice file style (section_at file section) at) front at (shown table off style.cap))
symbol_row_is (Some suffixes) file style section index at front table off same_front same_table same_name here =
    suffixed_symbol_is file style section index at front table off same_front same_table same_name here

-- and a relocation entry's
abbrev pub entry_suffix_by : Option VersionLookup → List ℕ → (cap at symbol : ℕ) → Result Suffix Refusal
entry_suffix_by versions file cap at symbol =
    if symbol == 0 then Ok NoSuffix else suffix_by versions file cap (sh_link file at) (entry_at file (linked_at file at) 24 symbol) symbol

either : (zero : Bool) (none : Result Suffix Refusal) → none ≡ (if zero then none else none)
either true none = refl
either false none = refl

pub relocation_row_is : (addends : Bool) (versions : Option VersionLookup) (file : List ℕ) (front : LinePrefix) (style : ListingStyle) (section at entry symbol index : ℕ) → entry ≡ sh_offset file at + index * relocation_size addends
    → front ≡ relocation_prefix addends style.format style.gnu (e_machine file) file entry section → symbol ≡ r_sym file entry
    → row_by versions (relocation_row addends file style section at) (relocation_row_with_version addends file style section at) index
    ≡ suffixed_row (relocation_choice addends file style entry) front (symbol_named file style.cap at entry symbol).0 (symbol_named file style.cap at entry symbol).1 (entry_suffix_by versions file style.cap at symbol)
relocation_row_is addends None file front style section at entry symbol index here same names =
    let named = symbol_named file style.cap at entry symbol in
    relocation_is addends file front style section at entry symbol index here same names
    ∙ (sym (unsuffixed_row (relocation_choice addends file style entry) front named.0 named.1) ∙ ap (suffixed_row (relocation_choice addends file style entry) front named.0 named.1) (either (symbol == 0) (Ok NoSuffix)))
relocation_row_is addends (Some suffixes) file front style section at entry symbol index here same names =
    suffixed_relocation_is addends file front style section at entry symbol index here same names
