-- What is shown of a link's problems is what its definitions say.
use Rattle.std.proofs.Common.{◌≡◌, ℕ, ◌+◌, ◌≤◌, Bool, true, ◌||◌, List, [], ◌∷◌, ◌++◌, length, Option, None, refl, ap, ◌∙◌, arith}
use Rattle.std.specs.Prelude.{if◌then◌else◌}
use Rattle.elf_model.specs.LinkLines.{FileNames, is_missing}
use Rattle.elf_model.specs.declared.formats.Format.{Format}
use Rattle.elf_model.specs.declared.link_states.LinkRow.{LinkRow}
use Rattle.elf_resolve.specs.LinkerNames.{output_of}
use Rattle.elf_resolve.specs.MarkedRows.{AreFaultsMarked}
use Rattle.elf_resolve.specs.ProblemLines.{is_problem_row, lines_of_problem_rows, lines_of_problems}
use Rattle.elf_resolve.specs.Resolved.{linking_of}
use Rattle.elf_resolve.specs.ShownLinks.{is_refused_kind, is_shown_row, lines_of_row, marks_shown, row_if_shown, row_shown, shown_end, shown_link, shown_rows}
use Rattle.elf_resolve.specs.declared.resolver.LinkEnd.{LinkEnd}
use Rattle.elf_resolve.specs.declared.resolver.Resolver.{Resolver}

module _ (format : Format) (names : FileNames) (link : Resolver) (ends : link.end ≡ None) (marked : AreFaultsMarked link) where
  rows_are : (index : ℕ) (rows : List LinkRow) → index + length rows ≤ length link.link.rows.rows → shown_rows true format names link index rows ≡ lines_of_problem_rows format names (output_of link.output) (linking_of link) index rows
  rows_are index [] within = refl
  rows_are index (row ∷ rows) within =
      ap (λ (e : Option LinkEnd). row_if_shown true format names link index (row_shown e index row) ++ shown_rows true format names link (index + 1) rows) ends
      ∙ ap (λ (e : Option LinkEnd). (if is_shown_row true (marks_shown link e) index row.kind then lines_of_row true format names link.link.keys.keys index row else []) ++ shown_rows true format names link (index + 1) rows) ends
      ∙ ap (λ (b : Bool). (if is_missing row.kind || (is_refused_kind row.kind || b) then lines_of_row true format names link.link.keys.keys index row else []) ++ shown_rows true format names link (index + 1) rows) (marked index (omega (arith, within)))
      ∙ ap (λ (l : List (List ℕ)). (if is_problem_row format names (output_of link.output) (linking_of link) index row.kind then lines_of_row true format names link.link.keys.keys index row else []) ++ l) (rows_are (index + 1) rows (omega (arith, within)))

  pub problems_are : shown_link true format names link ≡ lines_of_problems format names (output_of link.output) (linking_of link)
  problems_are =
      ap (λ (l : List (List ℕ)). l ++ shown_end true format names link link.end) (rows_are 0 link.link.rows.rows (omega arith))
      ∙ ap (λ (e : Option LinkEnd). lines_of_problem_rows format names (output_of link.output) (linking_of link) 0 link.link.rows.rows ++ shown_end true format names link e) ends
