-- The symbols are counted before they are listed.
use Rattle.std.proofs.Common.{◌≡◌, ◌*◌, ◌≤◌, refl, ap, ◌∙◌, arith}
use Rattle.std.proofs.lemmas.Result.{err_from_is_err_and}
use Rattle.elf_options.specs.Permitted.{style_of}
use Rattle.elf_table.specs.Prelude.{TableRange, strings_in}
use Rattle.elf_table.proofs.OpenLaws.{still_open}
use Rattle.elf_hash.proofs.FoundLaws.{size_within}
use Rattle.elf_note.proofs.HeldLaws.{still_held}
use Rattle.elf_source.proofs.GrowthLaws.{grows_not}
use Rattle.elf_listing.proofs.HashedShown.{counted_are, counted_refused, hashed_most}
use Rattle.elf_listing.proofs.RowLaws.{WroteSome-as}
use Rattle.elf_listing.proofs.ShowLaws.{SpentCredit-after, SpentCredit-fault}
use Rattle.elf_listing.proofs.ViewedLaws.{still_viewed}
use Rattle.elf_listing.proofs.hashed_symbols.list_counted.Goals as goal

pub invariant_of-listing : goal.invariant_of-listing
invariant_of-listing g c = record {
  loaded = still_open _ _ c.symbol_count.ensures.did.costs.reads c.args.listing.now.loaded;
  viewed = still_viewed _ _ c.symbol_count.ensures.did.costs.reads c.args.listing.now.viewed;
  held = still_held _ c.symbol_count.ensures.did.costs.reads c.args.listing.now.held;
}

pub returns-in_err-count : goal.returns-in_err-count
returns-in_err-count g c = record {
  grows = grows_not _;
  keeps = record { same_src = refl; same_out = refl; same_file = refl; same_style = refl };
  spent =
      let p = err_from_is_err_and c.from_residual.result c.from_residual.ensures.1 in
      let most = hashed_most c.args.listing.now.file.loaded.size c.args.listing.now.style.cap.bytes 0 _ _ c.args.listing.now.viewed.fits c.requires.table (omega arith) in
      rw (p.1, p.2) (SpentCredit-fault _ _ _ _ _ _ _ (omega (arith, most)) c.in_err-count.ensures.did.costs.reads c.in_err-count.ensures.did.costs.says);
  shows = λ told file held is.
      let p = err_from_is_err_and c.from_residual.result c.from_residual.ensures.1 in
      rw (p.1, p.2) (counted_refused file (style_of c.args.listing.now.style) told _ _ (c.in_err-count.ensures.did.known file held told is).tells);
}

pub returns : goal.returns
returns g c = record {
  grows = c.list_rows.ensures.grows;
  keeps = record {
    same_src = c.list_rows.ensures.keeps.same_src;
    same_out = c.list_rows.ensures.keeps.same_out;
    same_file = c.list_rows.ensures.keeps.same_file;
    same_style = c.list_rows.ensures.keeps.same_style;
  };
  spent =
      let size = c.args.listing.now.file.loaded.size in
      let few = c.in_ok-count.ensures.few in
      let table = rw c.args.tables.now.symbols.rows at (size_within c.args.tables.now.symbols.table size c.requires.symbols.table) in
      let count : c.new-table.result.count ≡ c.in_ok-count.count = ap (λ (t : TableRange). t.count) c.new-table.ensures in
      let rows : c.new-table.result.count * 24 ≤ size = omega (arith, few, table, count) in
      let most = hashed_most size c.args.listing.now.style.cap.bytes c.new-table.result.count _ _ c.args.listing.now.viewed.fits c.requires.table rows in
      SpentCredit-after _ _ _ _ _ _ _ _ _ _ (omega (arith, most)) c.in_ok-count.ensures.did.costs.reads c.list_rows.ensures.spent;
  shows = λ told file held is.
      let after = c.symbol_count.ensures.did.costs.reads.keeps.same_file ∙ held in
      let few = c.in_ok-count.ensures.few in
      let counted = (c.in_ok-count.ensures.did.known file held told is).tells in
      WroteSome-as _ _ _
      (counted_are file (style_of c.args.listing.now.style) told c.in_ok-count.count _ _ _ (strings_in file c.args.tables.now.symbols.names) counted
      (ap (λ (t : TableRange). t.count) c.new-table.ensures) is.symbols.index (ap (λ (t : TableRange). t.at) c.new-table.ensures ∙ (c.at.ensures ∙ is.symbols.place)) (λ some. is.symbols.names (omega (arith, some, few))))
      (c.list_rows.ensures.shows file after (λ some. tt));
}
