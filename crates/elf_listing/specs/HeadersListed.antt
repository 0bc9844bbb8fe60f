-- The effect of a call that lists the tables of a file, part by part and header by header.
use Rattle.std.specs.Prelude.{ℕ, ◌+◌, List, [], ◌∷◌, ◌++◌, Result}
use Rattle.elf_model.specs.Prelude.{ListingItem, ListingStyle, SEGMENTS, e_phnum, each, located_items, segment_row, table_items, where_asked}
use Rattle.elf_options.specs.Permitted.{style_of}
use Rattle.elf_table.specs.Prelude.{StoreState}
use Rattle.elf_table.specs.declared.run_fault.RunFault.{RunFault}
use Rattle.elf_source.specs.declared.source.Source.{Ghosts as Sources}
use Rattle.elf_source.specs.declared.sink.Sink.{Ghosts as Sinks}
use Rattle.elf_listing.specs.Parts.{PartListed, asked_cost, kinds_asked, located_asked, part_cost, part_items, segments_listed, tables_listed}
use Rattle.elf_listing.specs.Shows.{ListingCalls, ListingWrote}
use Rattle.elf_listing.specs.declared.listing.Listing.{Listing}

-- one part of the header at an index
abbrev pub ListsHeader : {S W X : Type 0} {s : Sources S} {w : Sinks W} → PartListed → Listing S W s w → Listing S W s w → Result X RunFault → ℕ → Type 0
ListsHeader part old new result i =
    ListingCalls old new result (part.cost old.file.loaded old.file.store.now old.style.cap.bytes i) (ListingWrote old new result (λ file. part.items file (style_of old.style) i))

-- one part of each header
abbrev pub ListsPart : {S W X : Type 0} {s : Sources S} {w : Sinks W} → PartListed → Listing S W s w → Listing S W s w → Result X RunFault → Type 0
ListsPart part old new result =
    ListingCalls old new result (part_cost part old.file.loaded old.file.store.now old.style.cap.bytes)
    (ListingWrote old new result (part_items part (style_of old.style) (part.count old.file.store.now)))

-- the items of a part, if it is one of the given parts
abbrev pub asked_items : ℕ → PartListed → StoreState → ListingStyle → List ℕ → List ListingItem
asked_items parts part store style file = where_asked parts part.bit (part_items part style (part.count store) file)

-- a part, if it is one of the given parts
abbrev pub ListsAsked : {S W X : Type 0} {s : Sources S} {w : Sinks W} → ℕ → PartListed → Listing S W s w → Listing S W s w → Result X RunFault → Type 0
ListsAsked parts part old new result =
    ListingCalls old new result (asked_cost parts part old.file.loaded old.file.store.now old.style.cap.bytes)
    (ListingWrote old new result (asked_items parts part old.file.store.now (style_of old.style)))

-- the items of some kinds, one after another, those among the given parts
unfoldable pub kinds_items : ℕ → List PartListed → StoreState → ListingStyle → List ℕ → List ListingItem
kinds_items parts [] store style file = []
kinds_items parts (kind ∷ kinds) store style file = asked_items parts kind store style file ++ kinds_items parts kinds store style file

-- some kinds, one after another
abbrev pub ListsKinds : {S W X : Type 0} {s : Sources S} {w : Sinks W} → ℕ → List PartListed → Listing S W s w → Listing S W s w → Result X RunFault → Type 0
ListsKinds parts kinds old new result =
    ListingCalls old new result (kinds_asked parts kinds old.file.loaded old.file.store.now old.style.cap.bytes)
    (ListingWrote old new result (kinds_items parts kinds old.file.store.now (style_of old.style)))

-- the program headers, if they are among the parts
abbrev pub ListsSegments : {S W X : Type 0} {s : Sources S} {w : Sinks W} → ℕ → Listing S W s w → Listing S W s w → Result X RunFault → Type 0
ListsSegments parts old new result =
    ListingCalls old new result (segments_listed parts old.file.loaded)
    (ListingWrote old new result (λ file. where_asked parts SEGMENTS (each (segment_row file (style_of old.style)) 0 (e_phnum file))))

-- the program headers, if they are among the parts, and what dynamic entries locate
abbrev pub ListsView : {S W X : Type 0} {s : Sources S} {w : Sinks W} → ℕ → Listing S W s w → Listing S W s w → Result X RunFault → Type 0
ListsView parts old new result =
    ListingCalls old new result (segments_listed parts old.file.loaded + located_asked (style_of old.style) parts old.file.loaded)
    (ListingWrote old new result (λ file.
    where_asked parts SEGMENTS (each (segment_row file (style_of old.style)) 0 (e_phnum file)) ++ located_items file (style_of old.style) parts))

-- what dynamic entries locate, if it is among the parts
abbrev pub ListsLocated : {S W X : Type 0} {s : Sources S} {w : Sinks W} → ℕ → Listing S W s w → Listing S W s w → Result X RunFault → Type 0
ListsLocated parts old new result =
    ListingCalls old new result (located_asked (style_of old.style) parts old.file.loaded)
    (ListingWrote old new result (λ file. located_items file (style_of old.style) parts))

-- all tables among the parts
abbrev pub ListsTables : {S W X : Type 0} {s : Sources S} {w : Sinks W} → ℕ → Listing S W s w → Listing S W s w → Result X RunFault → Type 0
ListsTables parts old new result =
    ListingCalls old new result (tables_listed (style_of old.style) parts old.file.loaded old.file.store.now)
    (ListingWrote old new result (λ file. table_items file (style_of old.style) parts))
