-- The checks are in their order, and the headers in the store have the same counts.
use Rattle.std.proofs.Common.{◌≡◌, ◌==◌, ◌&&◌, ◌||◌, not, true, false, sym, ap, ◌∙◌, arith}
use Rattle.std.proofs.lemmas.Bool.{ne_eqb}
use Rattle.std.proofs.lemmas.Result.{err_from_is_err_and}
use Rattle.elf_model.specs.Prelude.{has_strings, has_symbols, is_symbol_table, links, section_at, sh_link, sh_size}
use Rattle.elf_table.specs.Prelude.{row, sections_of, symbols_at}
use Rattle.elf_table.proofs.VersionLaws.{both-true, not_empty, not_false, not_true, symbols-stored, symbols_refused, table-refused, unlinked, unversioned, versioned}
use Rattle.elf_table.proofs.loaded.Loaded.symbol_versions.Goals as goal

pub returns-in_err-table-clause-held : goal.returns-in_err-table-clause-held
returns-in_err-table-clause-held g c = λ file belongs.
    let p = err_from_is_err_and c.from_residual.result c.from_residual.ensures.1 in
    rw (p.1, p.2) (table-refused file (section_at file c.args.section) _ (sym (c.in_err-table.ensures.held file belongs)))

pub returns-then-section_header-eq0-clause-held : goal.returns-then-section_header-eq0-clause-held
returns-then-section_header-eq0-clause-held g c = λ file belongs.
    let is_at = c.section_header.ensures.is_at file belongs.rows in
    unversioned file (section_at file c.args.section) _ (sym is_at.sh_size ∙ c.if-section_header-eq0.true) (sym (c.in_ok-table.ensures.held file belongs))

pub returns-then-section_header-eq0-clause-counts : goal.returns-then-section_header-eq0-clause-counts
returns-then-section_header-eq0-clause-counts g c =
    let none = sym c.section_header.ensures.fields.sh_size ∙ c.if-section_header-eq0.true in
    let entry = c.in_ok-table.ensures.lies.entry in
    let sized = rw entry at c.in_ok-table.ensures.lies.sized in
    record {
      entry = entry;
      counted = omega (arith, sized);
      linked = λ some. absurd (not_empty _ none some);
      symbols = λ some. absurd (not_empty _ none some);
    }

pub returns-then-not-links_to_symbols-clause-held : goal.returns-then-not-links_to_symbols-clause-held
returns-then-not-links_to_symbols-clause-held g c = λ file belongs.
    let at = section_at file c.args.section in
    let is_at = c.section_header.ensures.is_at file belongs.rows in
    let some : (sh_size file at == 0) ≡ false = ne_eqb _ 0 (λ e. c.if-section_header-eq0.false (is_at.sh_size ∙ e)) in
    let none : (sh_link file at == 0 || not (has_symbols file at)) ≡ true = not_false _ (sym (c.links_to_symbols.ensures.held file _ belongs) ∙ c.if-not-links_to_symbols.true) in
    let place : c.place.result ≡ at = omega (arith, c.place.ensures, belongs.header.e_shoff) in
    rw (c.refused.ensures, place) (unlinked file at some _ (sym (c.in_ok-table.ensures.held file belongs)) none)

pub returns-in_err-symbols : goal.returns-in_err-symbols
returns-in_err-symbols g c =
    let p = err_from_is_err_and c.from_residual-in_err-symbols.result c.from_residual-in_err-symbols.ensures.1 in
    record {
      held = λ file belongs.
          let at = section_at file c.args.section in
          let is_at = c.section_header.ensures.is_at file belongs.rows in
          let some : (sh_size file at == 0) ≡ false = ne_eqb _ 0 (λ e. c.if-section_header-eq0.false (is_at.sh_size ∙ e)) in
          let linked : (sh_link file at == 0 || not (has_symbols file at)) ≡ false = not_true _ (sym (c.links_to_symbols.ensures.held file _ belongs) ∙ c.if-not-links_to_symbols.false) in
          let link = (c.section_header-link.ensures.is_at file belongs.rows).sh_link in
          rw (p.1, p.2) (symbols_refused file at some _ (sym (c.in_ok-table.ensures.held file belongs)) linked _ (sym (ap (λ k. symbols_at file (section_at file k)) link) ∙ sym (c.in_err-symbols.ensures.held file belongs)));
      table = rw p.1 tt;
      within = rw p.1 tt;
      counts = rw p.1 tt;
      refusal = rw (p.1, p.2) c.in_err-symbols.ensures.refusal;
    }

pub returns-clause-held : goal.returns-clause-held
returns-clause-held g c = λ file belongs.
    let at = section_at file c.args.section in
    let is_at = c.section_header.ensures.is_at file belongs.rows in
    let some : (sh_size file at == 0) ≡ false = ne_eqb _ 0 (λ e. c.if-section_header-eq0.false (is_at.sh_size ∙ e)) in
    let linked : (sh_link file at == 0 || not (has_symbols file at)) ≡ false = not_true _ (sym (c.links_to_symbols.ensures.held file _ belongs) ∙ c.if-not-links_to_symbols.false) in
    let link = (c.section_header-link.ensures.is_at file belongs.rows).sh_link in
    rw c.len.ensures (versioned file at some _ (sym (c.in_ok-table.ensures.held file belongs)) linked _ (sym (ap (λ k. symbols_at file (section_at file k)) link) ∙ sym (c.in_ok-symbols.ensures.held file belongs)))

pub returns-clause-counts : goal.returns-clause-counts
returns-clause-counts g c =
    let all = sections_of (g.R.HeaderRows.state c.args.rows.now) in
    let size = c.args.self.now.size in
    let link = c.section_header-link.ensures.fields.sh_link in
    let linked = c.links_to_symbols.ensures.linked c.if-not-links_to_symbols.false in
    let bytes = row (g.R.HeaderRows.state c.args.rows.now) c.section_header-link.result.sh_link in
    let entry = c.in_ok-table.ensures.lies.entry in
    let sized = rw entry at c.in_ok-table.ensures.lies.sized in
    let symbols = rw c.in_ok-symbols.ensures.within.0 at c.in_ok-symbols.ensures.sized in
    record {
      entry = entry;
      counted = omega (arith, sized);
      linked = λ some. (both-true (links all c.args.section && is_symbol_table (row (g.R.HeaderRows.state c.args.rows.now) (sh_link (row (g.R.HeaderRows.state c.args.rows.now) c.args.section) 0)) 0) _ linked.linked (rw link at (symbols-stored bytes size _ _ (has_strings all c.section_header-link.result.sh_link size) (sym c.in_ok-symbols.ensures.table) c.in_ok-symbols.ensures.found)));
      symbols = λ some. rw (← link) (omega (arith, symbols, c.len.ensures));
    }
