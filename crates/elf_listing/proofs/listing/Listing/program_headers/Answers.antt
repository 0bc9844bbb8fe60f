-- The program headers of a file without sections are in the store, and reading those costs nothing.
use Rattle.elf_options.specs.Permitted.{style_of}
use Rattle.std.proofs.Common.{◌≡◌, ◌≤◌, ◌==◌, ℕ, true, false, None, [], sym, ap, ◌∙◌, arith}
use Rattle.std.proofs.lemmas.Bool.{ne_eqb}
use Rattle.elf_table.specs.Prelude.{LoadedFile, TableRange, rows}
use Rattle.elf_model.specs.Prelude.{SEGMENTS, e_phnum, e_phoff, each, has, segment_row}
use Rattle.elf_listing.specs.Prelude.{program_header_layout, rows_cost, segments_listed}
use Rattle.elf_listing.proofs.FileShown.{viewed_segments}
use Rattle.elf_listing.proofs.RowLaws.{WroteSome-as}
use Rattle.elf_listing.proofs.SectionCosts.{sum_of_equal}
use Rattle.elf_listing.proofs.ShowLaws.{SpentCredit-within}
use Rattle.elf_listing.proofs.listing.Listing.program_headers.Goals as goal

-- the rows of a file with sections are read as they are counted
rows_within : (parts : ℕ) (loaded : LoadedFile) (table : TableRange) (cap : ℕ) → has parts SEGMENTS ≡ true → (loaded.header.e_shnum == 0) ≡ false
    → table ≡ rows loaded.header.e_phoff loaded.header.e_phnum 56 → rows_cost program_header_layout None table cap ≤ segments_listed parts loaded
rows_within parts loaded table cap asked some is = rw (is, asked, some) (omega arith)

pub returns-then-sections-eq0 : goal.returns-then-sections-eq0
returns-then-sections-eq0 g c = record {
  grows = c.list_headers.ensures.grows;
  keeps = c.list_headers.ensures.keeps;
  spent =
      let f = c.args.self.now.file in
      let none = sum_of_equal 0 f.store.now.segments in
      SpentCredit-within _ _ _ _ _ _ _ (segments_listed c.args.parts.0 f.loaded) (omega (arith, none)) c.list_headers.ensures.spent;
  shows = λ file held.
      let f = c.args.self.now.file in
      let belongs = c.args.self.now.loaded.belongs file held in
      let zero : f.loaded.header.e_shnum ≡ 0 = sym belongs.count ∙ (sym c.sections.ensures ∙ c.if-sections-eq0.true) in
      let none : (f.loaded.header.e_shnum == 0) ≡ true = ap (λ n. n == 0) zero in
      let asked : has c.args.parts.0 SEGMENTS ≡ true = sym (c.contains.ensures tt) ∙ c.if-not-contains.false in
      let all : f.store.now.segments ≡ e_phnum file = c.requires ∙ (viewed_segments (style_of c.args.self.now.style) c.args.parts.0 f.loaded none asked ∙ belongs.header.e_phnum) in
      WroteSome-as _ _ _ (ap (λ b. elim b [ true ↦ each (segment_row file (style_of c.args.self.now.style)) 0 (e_phnum file) | false ↦ [] ]) asked ∙ ap (each (segment_row file (style_of c.args.self.now.style)) 0) (sym all))
      (c.list_headers.ensures.shows file held);
}

pub returns : goal.returns
returns g c = record {
  grows = c.list_rows.ensures.grows;
  keeps = c.list_rows.ensures.keeps;
  spent =
      let f = c.args.self.now.file in
      let asked = sym (c.contains.ensures tt) ∙ c.if-not-contains.false in
      let some = ne_eqb f.loaded.header.e_shnum 0 (λ none. c.if-sections-eq0.false (c.sections.ensures ∙ (f.whole ∙ none))) in
      SpentCredit-within _ _ _ _ _ _ _ (segments_listed c.args.parts.0 f.loaded) (rows_within c.args.parts.0 f.loaded _ c.args.self.now.style.cap.bytes asked some c.segments-table.ensures.value) c.list_rows.ensures.spent;
  shows = λ file held.
      let belongs = c.args.self.now.loaded.belongs file held in
      let asked : has c.args.parts.0 SEGMENTS ≡ true = sym (c.contains.ensures tt) ∙ c.if-not-contains.false in
      let at : c.segments-table.result.at ≡ e_phoff file = ap (λ (rows : TableRange). rows.at) c.segments-table.ensures.value ∙ belongs.header.e_phoff in
      let all : c.segments-table.result.count ≡ e_phnum file = ap (λ (rows : TableRange). rows.count) c.segments-table.ensures.value ∙ belongs.header.e_phnum in
      WroteSome-as _ _ _ (ap (λ b. elim b [ true ↦ each (segment_row file (style_of c.args.self.now.style)) 0 (e_phnum file) | false ↦ [] ]) asked ∙ ap (each (segment_row file (style_of c.args.self.now.style)) 0) (sym all))
      (c.list_rows.ensures.shows file held (λ some. at));
}
