-- The checks of the section come before its rows, and the names of their version indices are found
-- first.
use Rattle.std.proofs.Common.{◌≡◌, ◌==◌, false, [], sym, ◌∙◌, arith}
use Rattle.std.proofs.lemmas.Bool.{eq-eqb, ne_eqb}
use Rattle.std.proofs.lemmas.Result.{err_from_is_err_and}
use Rattle.elf_table.specs.Load.{section_place}
use Rattle.elf_options.specs.Permitted.{style_of}
use Rattle.elf_model.specs.Prelude.{section_at, sh_size, symbol_versions}
use Rattle.elf_listing.proofs.ListsLaws.{ListingCalls-nothing, ListingCalls-refused, ListingCalls-unread}
use Rattle.elf_listing.proofs.SectionShown.{no_table, table_fails, table_passes}
use Rattle.elf_listing.proofs.VersionedCosts.{versioned-within}
use Rattle.elf_listing.proofs.RowLaws.{WroteSome-as}
use Rattle.elf_listing.proofs.VersionedShown.{ListingCalls-after, WroteUntilStop-no-check, definitions-whole, empty-is, needs-whole, rows-are, walks-whole}
use Rattle.elf_listing.proofs.symbol_versions.SymbolVersionsListedKind.header.Goals as goal

pub returns-then-header-ne-SHT_GNU_VERSYM : goal.returns-then-header-ne-SHT_GNU_VERSYM
unfolding symbol_versions
returns-then-header-ne-SHT_GNU_VERSYM g c = ListingCalls-nothing _ _ _ _ (λ file held.
    let is_at = c.section-header.ensures.is_at file (c.args.listing.now.loaded.belongs file held) in
    no_table symbol_versions file _ _ _ _ (ne_eqb _ _ (λ same. c.if-header-ne-SHT_GNU_VERSYM.true (is_at.sh_type ∙ same))))

pub returns-then-header-eq0 : goal.returns-then-header-eq0
unfolding symbol_versions
returns-then-header-eq0 g c = ListingCalls-nothing _ _ _ _ (λ file held.
    let is_at = c.section-header.ensures.is_at file (c.args.listing.now.loaded.belongs file held) in
    let kind = sym is_at.sh_type ∙ c.if-header-ne-SHT_GNU_VERSYM.false in
    empty-is file _ _ _ (section_at file c.args.index) (eq-eqb _ _ kind) (sym is_at.sh_size ∙ c.if-header-eq0.true))

pub returns-in_err-found : goal.returns-in_err-found
unfolding symbol_versions
returns-in_err-found g c =
    let p = err_from_is_err_and c.from_residual.result c.from_residual.ensures.1 in
    rw (p.1, p.2) (ListingCalls-refused _ _ _ _ c.in_err-found.ensures.refusal (λ file held.
    let belongs = c.args.listing.now.loaded.belongs file held in
    let is_at = c.section-header.ensures.is_at file belongs in
    let kind = sym is_at.sh_type ∙ c.if-header-ne-SHT_GNU_VERSYM.false in
    table_fails symbol_versions file _ _ (section_at file c.args.index) (eq-eqb _ _ kind) _ _ (c.in_err-found.ensures.held file belongs)))

pub returns-in_err-numbered : goal.returns-in_err-numbered
returns-in_err-numbered g c =
    let p = err_from_is_err_and c.from_residual-in_err-numbered.result c.from_residual-in_err-numbered.ensures.1 in
    let f = c.args.listing.now.file in
    let cap = c.args.listing.now.style.cap.bytes in
    let style = style_of c.args.listing.now.style in
    let fields = c.section-header.ensures.fields in
    let typed = eq-eqb _ _ (sym fields.sh_type ∙ c.if-header-ne-SHT_GNU_VERSYM.false) in
    let some = ne_eqb _ 0 (λ e. c.if-header-eq0.false (fields.sh_size ∙ e)) in
    let counts = c.in_ok-found.ensures.counts in
    let within = versioned-within f.store.now c.args.index f.loaded.size _ cap _ _ typed (sym c.in_ok-found.ensures.table) some (counts.linked some) counts.counted (counts.symbols some) in
    let fetches = c.in_err-numbered.ensures.numbers.fetches in
    rw (p.1, p.2) (ListingCalls-unread _ _ _ _ _ _ (omega (arith, within)) fetches (λ file held.
    let no_fault = c.requires.ready file held in
    rw fetches.1
    (WroteUntilStop-no-check file [] _ _ _ (walks-whole file (definitions-whole file style no_fault) (needs-whole file style no_fault)) (c.in_err-numbered.ensures.numbers.read file held))))

pub returns : goal.returns
unfolding symbol_versions
returns g c =
    let f = c.args.listing.now.file in
    let cap = c.args.listing.now.style.cap.bytes in
    let style = style_of c.args.listing.now.style in
    let fields = c.section-header.ensures.fields in
    let typed = eq-eqb _ _ (sym fields.sh_type ∙ c.if-header-ne-SHT_GNU_VERSYM.false) in
    let some = ne_eqb _ 0 (λ e. c.if-header-eq0.false (fields.sh_size ∙ e)) in
    let counts = c.in_ok-found.ensures.counts in
    let within = versioned-within f.store.now c.args.index f.loaded.size _ cap _ _ typed (sym c.in_ok-found.ensures.table) some (counts.linked some) counts.counted (counts.symbols some) in
    let fetches = c.in_ok-numbered.ensures.numbers.fetches in
    let same = fetches.0.same_style in
    ListingCalls-after _ _ _ c.numbered.new.numbered _ _ _ _ _ _ (rw same (omega (arith, within))) fetches c.versioned.ensures (λ file held.
    let belongs = c.args.listing.now.loaded.belongs file held in
    let is_at = c.section-header.ensures.is_at file belongs in
    let at = section_at file c.args.index in
    let kind = eq-eqb _ _ (sym is_at.sh_type ∙ c.if-header-ne-SHT_GNU_VERSYM.false) in
    let sized : (sh_size file at == 0) ≡ false = ne_eqb _ 0 (λ e. c.if-header-eq0.false (is_at.sh_size ∙ e)) in
    let no_fault = c.requires.ready file held in
    let found = c.in_ok-found.ensures.held file belongs in
    let numbered = (c.in_ok-numbered.ensures.numbers.read file held).1 in
    let rows = rows-are file style _ _ numbered no_fault c.args.index at _ _ sized found.placed found.counted (found.symbols sized) in
    let place : section_place f.loaded.header c.args.index ≡ at = omega (arith, belongs.header.e_shoff) in
    rw (← fetches.1)
    (WroteSome-as _ _ _ (table_passes symbol_versions file style c.args.index at kind found.pass ∙ rows)
    (rw (same, fetches.0.same_file, place) at (c.versioned.ensures.shows file (fetches.2.reads.keeps.same_file ∙ held)))))

pub versioned-requires-clause-below : goal.versioned-requires-clause-below
versioned-requires-clause-below g c = rw c.in_ok-numbered.ensures.numbers.fetches.0.same_file c.requires.below

pub versioned-requires-clause-rows : goal.versioned-requires-clause-rows
versioned-requires-clause-rows g c =
    rw c.in_ok-numbered.ensures.numbers.fetches.2.reads.keeps.same_size (rw c.args.listing.now.loaded.size at c.in_ok-found.ensures.within)

pub versioned-requires-clause-within : goal.versioned-requires-clause-within
versioned-requires-clause-within g c = rw c.in_ok-numbered.ensures.numbers.fetches.2.reads.keeps.same_size c.in_ok-numbered.ensures.numbers.within
