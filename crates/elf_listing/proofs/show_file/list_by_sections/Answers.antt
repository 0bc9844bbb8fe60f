-- The load's checks come before the tables, and what is read is added up.
use Rattle.elf_options.specs.Permitted.{style_of}
use Rattle.std.proofs.Common.{◌≡◌, true, false, sym, ap, arith, ◌∙◌}
use Rattle.std.proofs.lemmas.Bool.{false≢true}
use Rattle.std.proofs.lemmas.Result.{err_from_is_err_and}
use Rattle.elf_model.specs.Listing.{has_tables}
use Rattle.elf_model.proofs.ListingLemmas.{load_none}
use Rattle.elf_record.specs.declared.ehdr.Ehdr.{Ehdr}
use Rattle.elf_source.proofs.ReadsLaws.{ReadsUpTo-then}
use Rattle.elf_listing.specs.Viewed.{view_cost}
use Rattle.elf_listing.proofs.FaultRowLaws.{load_row_held, tables_row_held, view_row_held}
use Rattle.elf_listing.proofs.FileShown.{load_alone, load_passed, view_alone}
use Rattle.elf_listing.proofs.RowLaws.{WroteUntilStop-first, WroteSome-as}
use Rattle.elf_listing.proofs.SectionCosts.{load_below, load_pays, load_within, loaded_within, loaded_below, rest_pays, view_pays, view_within, view_below, few_headers, viewed_all}
use Rattle.elf_listing.proofs.ShowLaws.{Whole-none, ListingCosts-then, ListingCosts-fault, ListingCosts-later}
use Rattle.elf_source.proofs.GrowthLaws.{grows_not}
use Rattle.elf_table.proofs.LoadLaws.{load_most}
use Rattle.elf_listing.proofs.show_file.list_by_sections.Goals as goal

pub returns-then-not-intersects-clause-text : goal.returns-then-not-intersects-clause-text
returns-then-not-intersects-clause-text g c = λ file held.
    let none : has_tables c.args.parts.0 ≡ false = sym (c.intersects.ensures tt) ∙ c.if-not-intersects.true in
    rw (load_none file c.args.store.now.slots (style_of c.args.style) c.args.parts.0 none) (Whole-none _)

pub returns-in_err-loaded-clause-below : goal.returns-in_err-loaded-clause-below
returns-in_err-loaded-clause-below g c =
    let p = err_from_is_err_and c.from_residual.result c.from_residual.ensures.1 in
    let below = load_below c.args.header.now c.args.src.now.seen.size c.args.store.now.slots (style_of c.args.style) in
    rw (p.1, p.2) (ListingCosts-fault _ _ _ _ _ _ (rest_pays below) c.load.ensures.reads c.in_err-loaded.ensures.says)

pub returns-in_err-loaded-clause-cost : goal.returns-in_err-loaded-clause-cost
returns-in_err-loaded-clause-cost g c = λ file held.
    let p = err_from_is_err_and c.from_residual.result c.from_residual.ensures.1 in
    let tables : has_tables c.args.parts.0 ≡ true = sym (c.intersects.ensures tt) ∙ c.if-not-intersects.false in
    let read = c.requires.header file held in
    let sized = sym (c.args.src.now.seen.sized file held) in
    rw (p.1, p.2) (ListingCosts-fault _ _ _ _ _ _ (load_within file c.args.header.now c.args.src.now.seen.size c.args.store.now.slots (style_of c.args.style) c.args.parts.0 read.1 sized read.0 tables) c.load.ensures.reads c.in_err-loaded.ensures.says)

pub returns-in_err-loaded-clause-text : goal.returns-in_err-loaded-clause-text
returns-in_err-loaded-clause-text g c = λ file held.
    let p = err_from_is_err_and c.from_residual.result c.from_residual.ensures.1 in
    let tables : has_tables c.args.parts.0 ≡ true = sym (c.intersects.ensures tt) ∙ c.if-not-intersects.false in
    rw (p.1, p.2) (WroteUntilStop-first _ _ _ (load_alone file c.args.store.now.slots (style_of c.args.style) c.args.parts.0 _ _ (c.in_err-loaded.ensures.held file held (c.requires.header file held).1) c.load.ensures.slots tables))

pub load_view-requires : goal.load_view-requires
load_view-requires g c =
    let opens = c.in_ok-loaded.ensures.opens in
    record {
      whole = opens.count ∙ sym (ap (λ (header : Ehdr). header.e_shnum) opens.same_header);
      none = c.load.ensures.segments;
      room = rw opens.same_header opens.passes.few_segments;
      within = let within = opens.passes.segments in rw (opens.same_header, c.load.ensures.reads.keeps.same_size) (λ some. let inside = within some in omega (arith, inside));
    }

pub returns-in_err-load_view-clause-below : goal.returns-in_err-load_view-clause-below
returns-in_err-load_view-clause-below g c =
    let p = err_from_is_err_and c.from_residual-in_err-load_view.result c.from_residual-in_err-load_view.ensures.1 in
    let opens = c.in_ok-loaded.ensures.opens in
    let size = c.args.src.now.seen.size in
    let few = few_headers c.in_ok-loaded.loaded c.args.header.now size c.load.new.store opens c.load.ensures.slots in
    let below = view_below c.in_ok-loaded.loaded size c.args.store.now.slots (style_of c.args.style) c.args.parts.0 few.0 few.1 in
    let most = load_most c.args.header.now size c.args.store.now.slots in
    let same = ap (λ (header : Ehdr). header.e_shnum) opens.same_header in
    let asked = view_cost (style_of c.args.style) c.args.parts.0 c.in_ok-loaded.loaded in
    rw (p.1, p.2) (ListingCosts-later _ _ _ c.args.out.now _ _ asked _ (load_pays _ _ c.load.ensures.reads.at_most most same (rest_pays below)) c.load.ensures.reads c.load_view.ensures.reads c.in_err-load_view.ensures.says)

pub returns-in_err-load_view-clause-cost : goal.returns-in_err-load_view-clause-cost
returns-in_err-load_view-clause-cost g c = λ file held.
    let p = err_from_is_err_and c.from_residual-in_err-load_view.result c.from_residual-in_err-load_view.ensures.1 in
    let tables : has_tables c.args.parts.0 ≡ true = sym (c.intersects.ensures tt) ∙ c.if-not-intersects.false in
    let read = c.requires.header file held in
    let belongs = c.in_ok-loaded.ensures.held file held read.1 in
    let within = view_within file c.in_ok-loaded.loaded c.load.new.store c.args.store.now.slots (style_of c.args.style) c.args.parts.0 belongs c.load.ensures.slots read.0 tables in
    let most = load_most c.args.header.now c.args.src.now.seen.size c.args.store.now.slots in
    let same = ap (λ (header : Ehdr). header.e_shnum) c.in_ok-loaded.ensures.opens.same_header in
    let asked = view_cost (style_of c.args.style) c.args.parts.0 c.in_ok-loaded.loaded in
    rw (p.1, p.2) (ListingCosts-later _ _ _ c.args.out.now _ _ asked _ (load_pays _ _ c.load.ensures.reads.at_most most same within) c.load.ensures.reads c.load_view.ensures.reads c.in_err-load_view.ensures.says)

pub returns-in_err-load_view-clause-text : goal.returns-in_err-load_view-clause-text
returns-in_err-load_view-clause-text g c = λ file held.
    let p = err_from_is_err_and c.from_residual-in_err-load_view.result c.from_residual-in_err-load_view.ensures.1 in
    let tables : has_tables c.args.parts.0 ≡ true = sym (c.intersects.ensures tt) ∙ c.if-not-intersects.false in
    let belongs = c.in_ok-loaded.ensures.held file held (c.requires.header file held).1 in
    let loaded = c.load.ensures.reads.keeps.same_file ∙ held in
    let checked = c.in_err-load_view.ensures.checked file loaded belongs (c.requires.hidden file held) in
    rw (p.1, p.2)
    (WroteUntilStop-first _ _ _ (view_alone file c.args.store.now.slots _ (style_of c.args.style) c.args.parts.0 belongs.passes c.load.ensures.slots tables _ checked))

pub list_tables-requires : goal.list_tables-requires
list_tables-requires g c =
    let reads = ReadsUpTo-then c.load.ensures.reads c.load_view.ensures.reads in
    let opens = c.in_ok-loaded.ensures.opens in
    record {
      opened = record {
        size = opens.same_size ∙ sym reads.keeps.same_size;
        belongs = λ file held.
            let before = sym reads.keeps.same_file ∙ held in
            let loaded = sym c.load_view.ensures.reads.keeps.same_file ∙ held in
            (c.in_ok-load_view.ensures.held file loaded (c.in_ok-loaded.ensures.held file before (c.requires.header file before).1)).0;
      };
      whole = c.load_view.ensures.loaded ∙ (opens.count ∙ sym (ap (λ (header : Ehdr). header.e_shnum) opens.same_header));
      counted = c.in_ok-load_view.ensures.segments;
      viewed = record {
        fits = rw opens.same_size c.requires.fits;
        all = viewed_all (style_of c.args.style) c.args.parts.0 c.in_ok-loaded.loaded c.load_view.new.store c.in_ok-load_view.ensures.segments;
        held = λ file held.
            let loaded = sym c.load_view.ensures.reads.keeps.same_file ∙ held in
            let before = sym c.load.ensures.reads.keeps.same_file ∙ loaded in
            (c.in_ok-load_view.ensures.held file loaded (c.in_ok-loaded.ensures.held file before (c.requires.header file before).1)).1;
      };
    }

pub returns-clause-below : goal.returns-clause-below
returns-clause-below g c =
    let opens = c.in_ok-loaded.ensures.opens in
    let size = c.args.src.now.seen.size in
    let few = few_headers c.in_ok-loaded.loaded c.args.header.now size c.load.new.store opens c.load.ensures.slots in
    let same = ap (λ (header : Ehdr). header.e_shnum) opens.same_header in
    let count = c.in_ok-load_view.ensures.loaded ∙ (opens.count ∙ sym same) in
    let below = loaded_below c.in_ok-loaded.loaded c.load_view.new.store size c.args.store.now.slots (style_of c.args.style) c.args.parts.0 opens.same_size
    (c.load_view.ensures.slots ∙ c.load.ensures.slots) count few.0 few.1 c.in_ok-load_view.ensures.segments in
    let most = load_most c.args.header.now size c.args.store.now.slots in
    let reads = ReadsUpTo-then c.load.ensures.reads c.load_view.ensures.reads in
    ListingCosts-then _ _ _ _ _ _ _ _ (view_pays _ _ _ reads.at_most most same (rest_pays below)) reads c.list_tables.ensures.costs

pub returns-clause-cost : goal.returns-clause-cost
returns-clause-cost g c = λ file held.
    let tables : has_tables c.args.parts.0 ≡ true = sym (c.intersects.ensures tt) ∙ c.if-not-intersects.false in
    let read = c.requires.header file held in
    let loaded = c.load.ensures.reads.keeps.same_file ∙ held in
    let both = c.in_ok-load_view.ensures.held file loaded (c.in_ok-loaded.ensures.held file held read.1) in
    let opens = c.in_ok-loaded.ensures.opens in
    let within = loaded_within file c.in_ok-loaded.loaded c.load_view.new.store c.args.store.now.slots (style_of c.args.style) c.args.parts.0 both.0 (c.load_view.ensures.slots ∙ c.load.ensures.slots)
    both.1 c.in_ok-load_view.ensures.segments read.0 tables in
    let most = load_most c.args.header.now c.args.src.now.seen.size c.args.store.now.slots in
    let same = ap (λ (header : Ehdr). header.e_shnum) opens.same_header in
    let reads = ReadsUpTo-then c.load.ensures.reads c.load_view.ensures.reads in
    ListingCosts-then _ _ _ _ _ _ _ _ (view_pays _ _ _ reads.at_most most same within) reads c.list_tables.ensures.costs

pub returns-clause-text : goal.returns-clause-text
returns-clause-text g c = λ file held.
    let tables : has_tables c.args.parts.0 ≡ true = sym (c.intersects.ensures tt) ∙ c.if-not-intersects.false in
    let belongs = c.in_ok-loaded.ensures.held file held (c.requires.header file held).1 in
    let reads = ReadsUpTo-then c.load.ensures.reads c.load_view.ensures.reads in
    let loaded = c.load.ensures.reads.keeps.same_file ∙ held in
    let checked = c.in_ok-load_view.ensures.checked file loaded belongs (c.requires.hidden file held) in
    WroteSome-as _ _ _ (load_passed file c.args.store.now.slots _ (style_of c.args.style) c.args.parts.0 belongs.passes c.load.ensures.slots tables checked)
    (c.list_tables.ensures.text file (reads.keeps.same_file ∙ held))

pub returns-in_err-load_view-clause-grows : goal.returns-in_err-load_view-clause-grows
returns-in_err-load_view-clause-grows g c = grows_not _

pub returns-in_err-loaded-clause-slots : goal.returns-in_err-loaded-clause-slots
returns-in_err-loaded-clause-slots g c = c.load.ensures.slots

pub returns-in_err-load_view-clause-slots : goal.returns-in_err-load_view-clause-slots
returns-in_err-load_view-clause-slots g c = c.load_view.ensures.slots ∙ c.load.ensures.slots

pub returns-clause-slots : goal.returns-clause-slots
returns-clause-slots g c = c.load_view.ensures.slots ∙ c.load.ensures.slots

pub returns-in_err-loaded-clause-grows : goal.returns-in_err-loaded-clause-grows
returns-in_err-loaded-clause-grows g c = grows_not _

pub returns-clause-grows : goal.returns-clause-grows
returns-clause-grows g c = c.list_tables.ensures.grows

pub returns-in_err-loaded-clause-alone : goal.returns-in_err-loaded-clause-alone
returns-in_err-loaded-clause-alone g c = λ none. absurd (false≢true (sym none ∙ (sym (c.intersects.ensures tt) ∙ c.if-not-intersects.false)))

pub returns-in_err-load_view-clause-alone : goal.returns-in_err-load_view-clause-alone
returns-in_err-load_view-clause-alone g c = λ none. absurd (false≢true (sym none ∙ (sym (c.intersects.ensures tt) ∙ c.if-not-intersects.false)))

pub returns-clause-alone : goal.returns-clause-alone
returns-clause-alone g c = λ none. absurd (false≢true (sym none ∙ (sym (c.intersects.ensures tt) ∙ c.if-not-intersects.false)))

pub returns-in_err-loaded-clause-row : goal.returns-in_err-loaded-clause-row
returns-in_err-loaded-clause-row g c = λ file held.
    let p = err_from_is_err_and c.from_residual.result c.from_residual.ensures.1 in
    rw (p.1, p.2) (load_row_held file (style_of c.args.style) c.args.parts.0 c.load.new.store _ (c.in_err-loaded.ensures.held file held (c.requires.header file held).1))

pub returns-in_err-load_view-clause-row : goal.returns-in_err-load_view-clause-row
returns-in_err-load_view-clause-row g c = λ file held.
    let p = err_from_is_err_and c.from_residual-in_err-load_view.result c.from_residual-in_err-load_view.ensures.1 in
    let belongs = c.in_ok-loaded.ensures.held file held (c.requires.header file held).1 in
    let loaded = c.load.ensures.reads.keeps.same_file ∙ held in
    let checked = c.in_err-load_view.ensures.checked file loaded belongs (c.requires.hidden file held) in
    rw (p.1, p.2) (view_row_held file (style_of c.args.style) c.args.parts.0 c.load_view.new.store _ checked)

pub returns-clause-row : goal.returns-clause-row
returns-clause-row g c = λ file held.
    let loaded = c.load.ensures.reads.keeps.same_file ∙ held in
    let both = c.in_ok-load_view.ensures.held file loaded (c.in_ok-loaded.ensures.held file held (c.requires.header file held).1) in
    tables_row_held file (style_of c.args.style) c.args.parts.0 c.in_ok-loaded.loaded c.load_view.new.store _ both.0 c.in_ok-load_view.ensures.segments both.1
