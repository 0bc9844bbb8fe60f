-- The effect of a call that shows the rows of a word of relative relocations.
use Rattle.std.specs.Prelude.{ℕ, Option, Result}
use Rattle.elf_model.specs.Prelude.{bit_row, each, relr_row, word_rows}
use Rattle.elf_options.specs.Permitted.{style_of}
use Rattle.elf_source.specs.declared.source.Source.{Ghosts as Sources}
use Rattle.elf_source.specs.declared.sink.Sink.{Ghosts as Sinks}
use Rattle.elf_table.specs.declared.run_fault.RunFault.{RunFault}
use Rattle.elf_listing.specs.Shows.{ListingCalls, ListingWrote}
use Rattle.elf_listing.specs.declared.listing.Listing.{Listing}
use Rattle.elf_listing.specs.declared.relative_relocations.RelrWord.{RelrWord}

-- the row of an address that the word gives
abbrev pub ListsAddress : {S W X : Type 0} {s : Sources S} {w : Sinks W} → Listing S W s w → Listing S W s w → Result X RunFault → RelrWord → ℕ → Type 0
ListsAddress old new result word address =
    ListingCalls old new result 0 (ListingWrote old new result (λ file. relr_row file (style_of old.style) word.section word.at address))

-- that of a bit, and those of the first n bits, of a bitmap whose first word in memory has an address
abbrev pub ListsBit : {S W X : Type 0} {s : Sources S} {w : Sinks W} → Listing S W s w → Listing S W s w → Result X RunFault → RelrWord → (base bit : ℕ) → Type 0
ListsBit old new result word base bit =
    ListingCalls old new result 0 (ListingWrote old new result (λ file. bit_row file (style_of old.style) word.section word.at base word.word bit))

abbrev pub ListsBits : {S W X : Type 0} {s : Sources S} {w : Sinks W} → Listing S W s w → Listing S W s w → Result X RunFault → RelrWord → (base n : ℕ) → Type 0
ListsBits old new result word base n =
    ListingCalls old new result 0
    (ListingWrote old new result (λ file. each (bit_row file (style_of old.style) word.section word.at base word.word) 0 n))

-- those of the word
abbrev pub ListsWord : {S W X : Type 0} {s : Sources S} {w : Sinks W} → Listing S W s w → Listing S W s w → Result X RunFault → RelrWord → Option ℕ → Type 0
ListsWord old new result word base =
    ListingCalls old new result 0 (ListingWrote old new result (λ file. word_rows file (style_of old.style) word.section word.at base word.word))
