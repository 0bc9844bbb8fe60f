-- The file header's checks come first, and its line before what is loaded.
use Rattle.elf_options.specs.Permitted.{style_of}
use Rattle.elf_model.specs.Prelude.{known_parts, load_items, style_ceiling, viewed as view_of}
use Rattle.std.proofs.Common.{◌≡◌, ℕ, Ok, Err, sym, ap, arith, ◌∙◌}
use Rattle.std.proofs.lemmas.Result.{err_from_is_err_and}
use Rattle.elf_listing.proofs.Amounts.{asked_within, part_counted, part_within}
use Rattle.elf_listing.proofs.FaultRowLaws.{header_finds, listed_finds, output_finds}
use Rattle.elf_listing.proofs.FileShown.{header_part, items_are, header_alone}
use Rattle.elf_listing.proofs.RowLaws.{WroteUntilStop-first, WroteSome-as}
use Rattle.elf_listing.proofs.SectionCosts.{slots_below, cost_is}
use Rattle.elf_listing.proofs.ShowLaws.{WroteSome-then, WroteUntilStop-more, ListingCosts-then, ListingCosts-fault, ListingCosts-out}
use Rattle.elf_listing.proofs.ViewedLaws.{length_fits}
use Rattle.elf_source.proofs.GrowthLaws.{grows_not, grows_then}
use Rattle.elf_table.proofs.LoadLaws.{header_most}
use Rattle.elf_listing.proofs.show_file.list_with_row.Goals as goal

-- what is returned is no fault
no_fault : {X E : Type 0} {x : X} {fault : E} → Ok x ≡ Err fault → ⊥
no_fault same = cc

pub returns-in_err-header-clause-ceiling : goal.returns-in_err-header-clause-ceiling
returns-in_err-header-clause-ceiling g c =
    let p = err_from_is_err_and c.from_residual.result c.from_residual.ensures.1 in
    let below = slots_below c.args.src.now.seen.size c.args.store.now.slots (style_of c.args.style) in
    let most = header_most c.args.src.now.seen.size in
    rw (p.1, p.2) (ListingCosts-fault _ _ _ _ _ _ (part_within _ most below) c.header.ensures.reads c.in_err-header.ensures.says)

pub returns-in_err-header-clause-cost : goal.returns-in_err-header-clause-cost
returns-in_err-header-clause-cost g c = λ file held.
    let p = err_from_is_err_and c.from_residual.result c.from_residual.ensures.1 in
    let most = header_most c.args.src.now.seen.size in
    let cost = cost_is file c.args.store.now.slots (style_of c.args.style) c.args.parts.0 in
    rw (p.1, p.2) (ListingCosts-fault _ _ _ _ _ _ (part_counted _ most cost) c.header.ensures.reads c.in_err-header.ensures.says)

pub returns-in_err-header-clause-text : goal.returns-in_err-header-clause-text
returns-in_err-header-clause-text g c = λ file held.
    let p = err_from_is_err_and c.from_residual.result c.from_residual.ensures.1 in
    rw (p.1, p.2) (WroteUntilStop-first _ _ _ (header_alone file c.args.store.now.slots (style_of c.args.style) c.args.parts.0 _ (c.in_err-header.ensures.read file held)))

pub returns-in_err-list_header-clause-ceiling : goal.returns-in_err-list_header-clause-ceiling
returns-in_err-list_header-clause-ceiling g c =
    let p = err_from_is_err_and c.from_residual-in_err-list_header.result c.from_residual-in_err-list_header.ensures.1 in
    let below = slots_below c.args.src.now.seen.size c.args.store.now.slots (style_of c.args.style) in
    let most = header_most c.args.src.now.seen.size in
    rw (p.1, p.2) (ListingCosts-out _ _ _ _ _ _ (part_within _ most below) c.header.ensures.reads c.in_err-list_header.ensures.fails)

pub returns-in_err-list_header-clause-cost : goal.returns-in_err-list_header-clause-cost
returns-in_err-list_header-clause-cost g c = λ file held.
    let p = err_from_is_err_and c.from_residual-in_err-list_header.result c.from_residual-in_err-list_header.ensures.1 in
    let most = header_most c.args.src.now.seen.size in
    let cost = cost_is file c.args.store.now.slots (style_of c.args.style) c.args.parts.0 in
    rw (p.1, p.2) (ListingCosts-out _ _ _ _ _ _ (part_counted _ most cost) c.header.ensures.reads c.in_err-list_header.ensures.fails)

pub returns-in_err-list_header-clause-text : goal.returns-in_err-list_header-clause-text
returns-in_err-list_header-clause-text g c = λ file held.
    let p = err_from_is_err_and c.from_residual-in_err-list_header.result c.from_residual-in_err-list_header.ensures.1 in
    let read = c.in_ok-header.ensures.read file held in
    rw (p.1, p.2, items_are file c.args.store.now.slots (style_of c.args.style) c.args.parts.0 read.0)
    (WroteUntilStop-more _ _ _ (header_part (style_of c.args.style) file c.args.parts.0) _ (c.in_err-list_header.ensures.text file read.1))

pub returns-clause-ceiling : goal.returns-clause-ceiling
returns-clause-ceiling g c =
    let below = slots_below c.args.src.now.seen.size c.args.store.now.slots (style_of c.args.style) in
    let most = header_most c.args.src.now.seen.size in
    let reads = c.header.ensures.reads in
    let same = ap (λ (size : ℕ). style_ceiling size c.args.store.now.slots (style_of c.args.style)) reads.keeps.same_size in
    ListingCosts-then _ _ _ _ _ _ _ _ (omega (arith, below, most, same, reads.at_most)) reads c.list_by_segments-listed.ensures.below

pub returns-clause-cost : goal.returns-clause-cost
returns-clause-cost g c = λ file held.
    let most = header_most c.args.src.now.seen.size in
    let reads = c.header.ensures.reads in
    let cost = cost_is file c.args.store.now.slots (style_of c.args.style) c.args.parts.0 in
    ListingCosts-then _ _ _ _ _ _ _ _ (omega (arith, most, cost, reads.at_most)) reads (rw c.known.ensures at (c.list_by_segments-listed.ensures.cost file (reads.keeps.same_file ∙ held)))

pub returns-clause-text : goal.returns-clause-text
returns-clause-text g c = λ file held.
    let read = c.in_ok-header.ensures.read file held in
    let first = c.in_ok-list_header.ensures.text file read.1 in
    WroteSome-as _ _ _ (items_are file c.args.store.now.slots (style_of c.args.style) c.args.parts.0 read.0)
    (WroteSome-then _ _ _ _ (header_part (style_of c.args.style) file c.args.parts.0) (load_items (view_of (style_of c.args.style) file) c.args.store.now.slots (style_of c.args.style) (known_parts (style_of c.args.style) c.args.parts.0)) first
    (rw c.known.ensures at (c.list_by_segments-listed.ensures.text file (c.header.ensures.reads.keeps.same_file ∙ held))))

pub returns-clause-grows : goal.returns-clause-grows
returns-clause-grows g c = grows_then c.in_ok-list_header.ensures.grows c.list_by_segments-listed.ensures.grows

pub returns-in_err-header-clause-unread : goal.returns-in_err-header-clause-unread
returns-in_err-header-clause-unread g c = λ refusal refused. (c.header.ensures.unread refusal refused).1

pub returns-in_err-header-clause-alone : goal.returns-in_err-header-clause-alone
returns-in_err-header-clause-alone g c = λ none.
    asked_within _ _ c.header.ensures.reads.at_most (header_most c.args.src.now.seen.size)

pub returns-in_err-list_header-clause-unread : goal.returns-in_err-list_header-clause-unread
returns-in_err-list_header-clause-unread g c = λ refusal refused. (c.header.ensures.unread refusal refused).1

pub returns-in_err-list_header-clause-alone : goal.returns-in_err-list_header-clause-alone
returns-in_err-list_header-clause-alone g c = λ none.
    asked_within _ _ c.header.ensures.reads.at_most (header_most c.args.src.now.seen.size)

pub returns-clause-unread : goal.returns-clause-unread
returns-clause-unread g c = λ refusal refused.
    absurd (no_fault (c.in_ok-header.ensures.unread refusal refused).0)

pub returns-clause-alone : goal.returns-clause-alone
returns-clause-alone g c = λ none.
    let most = header_most c.args.src.now.seen.size in
    let same = c.list_by_segments-listed.ensures.alone (rw c.known.ensures none) in
    omega (arith, most, same, c.header.ensures.reads.at_most)

pub list_by_segments-listed-requires : goal.list_by_segments-listed-requires
list_by_segments-listed-requires g c = record {
  fits = rw c.header.ensures.reads.keeps.same_size (length_fits c.args.src.now.seen.size (λ refusal refused. no_fault (c.in_ok-header.ensures.unread refusal refused).0));
  header = λ file held. c.in_ok-header.ensures.read file (sym c.header.ensures.reads.keeps.same_file ∙ held);
}

pub returns-in_err-header-clause-grows : goal.returns-in_err-header-clause-grows
returns-in_err-header-clause-grows g c = grows_not _

pub returns-in_err-list_header-clause-grows : goal.returns-in_err-list_header-clause-grows
returns-in_err-list_header-clause-grows g c = c.in_err-list_header.ensures.grows

pub returns-clause-slots : goal.returns-clause-slots
returns-clause-slots g c = c.list_by_segments-listed.ensures.slots

pub returns-in_err-header-clause-row : goal.returns-in_err-header-clause-row
returns-in_err-header-clause-row g c = λ file held.
    let p = err_from_is_err_and c.from_residual.result c.from_residual.ensures.1 in
    rw (p.1, p.2) (header_finds file (style_of c.args.style) c.args.parts.0 _ (c.in_err-header.ensures.read file held))

pub returns-in_err-list_header-clause-row : goal.returns-in_err-list_header-clause-row
returns-in_err-list_header-clause-row g c = λ file held.
    let p = err_from_is_err_and c.from_residual-in_err-list_header.result c.from_residual-in_err-list_header.ensures.1 in
    rw (p.1, p.2) (output_finds _ file (style_of c.args.style) c.args.parts.0 _ _ c.in_err-list_header.ensures.fails)

pub returns-clause-row : goal.returns-clause-row
returns-clause-row g c = λ file held.
    let read = c.in_ok-header.ensures.read file held in
    let holds = rw c.known.ensures at (c.list_by_segments-listed.ensures.row file (c.header.ensures.reads.keeps.same_file ∙ held)) in
    listed_finds file (style_of c.args.style) c.args.parts.0 _ c.list_by_segments-listed.new.store _ _ read.0 (c.viewed_header.ensures file read.1) holds c.row_of_stop.ensures.budget c.row_of_stop.ensures.row
