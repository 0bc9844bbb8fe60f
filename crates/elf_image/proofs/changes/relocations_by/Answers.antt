-- The tables, the ranges, and what the entries say besides.
use Rattle.std.proofs.Common.{ℕ, ◌+◌, ◌*◌, ◌<◌, ap, ◌∙◌, arith}
use Rattle.std.proofs.lemmas.Result.{err_from_is_err_and}
use Rattle.elf_model.specs.ImageChecks.{linkage_checks, linkage_table, rela_table, relative_table}
use Rattle.elf_model.specs.Prelude.{p_vaddr}
use Rattle.elf_hash.proofs.SettleLaws.{passed_both, refused_back, refused_front}
use Rattle.elf_image.specs.Located.{image_table_checks}
use Rattle.elf_image.specs.Relocated.{entries_header, row_count}
use Rattle.elf_image.proofs.TableSteps.{symbol_entry}
use Rattle.elf_image.proofs.ToldSteps.{has_tables, words_are}
use Rattle.elf_image.proofs.changes.relocations_by.Goals as goal

pub returns-in_err-tables-clause-told : goal.returns-in_err-tables-clause-told
returns-in_err-tables-clause-told c = λ file views found.
    let p = err_from_is_err_and c.from_residual.result c.from_residual.ensures.1 in
    let at = entries_header file in
    rw (p.1, p.2) (refused_front (image_table_checks file at) (linkage_checks file at) _ (c.in_err-tables.ensures.tables file at views found.rows))

pub returns-in_err-ranges-clause-told : goal.returns-in_err-ranges-clause-told
returns-in_err-ranges-clause-told c = λ file views found.
    let p = err_from_is_err_and c.from_residual-in_err-ranges.result c.from_residual-in_err-ranges.ensures.1 in
    let at = entries_header file in
    let tables = c.in_ok-tables.ensures.tables file at views found.rows in
    rw (p.1, p.2) (refused_back (image_table_checks file at) (linkage_checks file at) _ tables.0 (c.in_err-ranges.ensures.ranges file at found.rows tables.1))

pub returns-clause-told : goal.returns-clause-told
returns-clause-told c = λ file views found.
    let at = entries_header file in
    let tables = c.in_ok-tables.ensures.tables file at views found.rows in
    let ranges = c.in_ok-ranges.ensures.ranges file at found.rows tables.1 in (
      passed_both (image_table_checks file at) (linkage_checks file at) tables.0 ranges.0,
      record {
        text = c.has_text_relocations.ensures file found.rows;
        words = words_are (relative_table file at) c.in_ok-tables.tables.compact tables.1.compact;
        ranges = ranges.1;
        symbols = λ some.
            let more : 0 < row_count (rela_table file at) + row_count (linkage_table file at) = omega (arith, some, ranges.1.few) in
            tables.1.symbols (has_tables (rela_table file at) (linkage_table file at) more);
        rows = ap (λ (a : ℕ). (a, 16 * c.args.rows.now.count)) found.address ∙ ap (λ (n : ℕ). (p_vaddr file at, 16 * n)) found.rows.count;
        tables = λ segment. c.table_segments-table_segments.ensures file at segment views tables.1 (symbol_entry file at c.args.rows.now found.rows);
      },
    )
