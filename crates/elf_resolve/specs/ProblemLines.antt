-- The lines of a link that make its status 1, and the rows that they name.
use Rattle.std.specs.Prelude.{ℕ, ◌+◌, ◌||◌, if◌then◌else◌, Bool, true, List, [], ◌∷◌, ◌++◌}
use Rattle.elf_model.specs.LinkInputs.{Linking}
use Rattle.elf_model.specs.LinkLines.{FileNames, LinkOutput, is_missing}
use Rattle.elf_model.specs.declared.formats.Format.{Format}
use Rattle.elf_model.specs.declared.link_states.LinkRow.{LinkRow}
use Rattle.elf_model.specs.declared.link_states.LinkRowKind.{LinkRowKind}
use Rattle.elf_resolve.specs.MarkedRows.{is_row_named, rows_of_faults}
use Rattle.elf_resolve.specs.ShownLinks.{is_refused_kind, lines_of_row, shown_keys}

module _ (format : Format) (names : FileNames) (output : LinkOutput) (link : Linking) where
  -- a row of a file that is missing or refused, or that the lines of a fault name
  abbrev pub is_problem_row : (index : ℕ) → LinkRowKind → Bool
  is_problem_row index kind = is_missing kind || (is_refused_kind kind || is_row_named link.rows (rows_of_faults output link link.keys.order) index)

  abbrev pub lines_of_problem_rows : (index : ℕ) → List LinkRow → List (List ℕ)
  lines_of_problem_rows index [] = []
  lines_of_problem_rows index (row ∷ rows) =
      (if is_problem_row index row.kind then lines_of_row true format names link.keys index row else []) ++ lines_of_problem_rows (index + 1) rows

  -- AND OF THE KEYS those that are undefined or multiple
  abbrev pub lines_of_problems : List (List ℕ)
  lines_of_problems = lines_of_problem_rows 0 link.rows ++ shown_keys true format output link link.keys.order
