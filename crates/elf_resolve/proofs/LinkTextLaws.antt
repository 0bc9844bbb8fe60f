-- What is shown of a link without shared libraries is its answer.
use Rattle.std.proofs.Common.{◌≡◌, ℕ, ◌+◌, Bool, true, false, List, [], ◌∷◌, ◌++◌, length, Option, None, Some, refl, sym, ap, ◌∙◌, arith, append_assoc}
use Rattle.std.specs.Prelude.{if◌then◌else◌, ◌==◌}
use Rattle.std.proofs.lemmas.Bool.{eq-eqb, ne_eqb}
use Rattle.elf_model.specs.LinkArchives.{link_cause_word, refused_lines}
use Rattle.elf_model.specs.LinkInputs.{Linking}
use Rattle.elf_model.specs.LinkKeys.{LinkKeys}
use Rattle.elf_model.specs.LinkLines.{FileNames, LinkOutput, file_front, file_lines, keys_lines, link_lines, name_of_row, reason_lines, rows_lines}
use Rattle.elf_model.specs.Lines.{fault_line, named_line}
use Rattle.elf_model.specs.declared.formats.Format.{Format}
use Rattle.elf_model.specs.declared.link_states.LinkRow.{LinkRow}
use Rattle.elf_model.specs.declared.link_states.LinkRowKind.TheVariants as kind
use Rattle.elf_model.specs.declared.link_states.RowReason.{RowReason}
use Rattle.elf_resolve.specs.LinkerNames.{output_of}
use Rattle.elf_resolve.specs.Resolved.{linking_of}
use Rattle.elf_resolve.specs.ShownLinks.{ends_at_row, key_if_shown, lines_of_reason, lines_of_row, row_if_shown, row_shown, shown_end, shown_keys, shown_link, shown_rows}
use Rattle.elf_resolve.specs.declared.resolver.LinkEnd.{LinkEnd}
use Rattle.elf_resolve.specs.declared.resolver.Resolver.{Resolver}

-- the keys
keys_same : (format : Format) (output : LinkOutput) (made : Linking) (order : List ℕ) → shown_keys false format output made order ≡ keys_lines format output made order
keys_same format output made [] = refl
keys_same format output made (key ∷ order) = ap (λ (lines : List (List ℕ)). key_if_shown false format output made key ++ lines) (keys_same format output made order)

-- a row that is not the refused one
module _ (format : Format) (names : FileNames) (link : Resolver) where
  abbrev keys : LinkKeys
  keys = link.link.keys.keys

  reason_same : (index : ℕ) (row : LinkRow) → lines_of_reason format keys index row.reason ≡ reason_lines format keys index row
  reason_same index row = by row.reason
    where
      by : (reason : Option RowReason) → lines_of_reason format keys index reason ≡ reason_lines format keys index (record row { reason = reason })
      by None = refl
      by (Some reason) = refl

  row_same : (index : ℕ) (row : LinkRow) → lines_of_row false format names keys index row ≡ file_lines format names keys index row
  unfolding file_lines
  row_same index row = ap (λ (lines : List (List ℕ)). named_line (file_front format index row) (name_of_row names row.input row.member) ∷ lines) (reason_same index row)

  kept_row : (index : ℕ) (row : LinkRow) → ends_at_row link.end index ≡ false → row_if_shown false format names link index (row_shown link.end index row) ≡ file_lines format names keys index row
  kept_row index row isnt =
      ap (λ (b : Bool). lines_of_row false format names keys index (if b then record row { kind = kind.Refused; reason = None } else row)) isnt ∙ row_same index row

  rows_same : (index : ℕ) (rows : List LinkRow) → ((i : ℕ) → ends_at_row link.end i ≡ false) → shown_rows false format names link index rows ≡ rows_lines format names keys index rows
  rows_same index [] none = refl
  rows_same index (row ∷ rows) none =
      ap (λ (lines : List (List ℕ)). lines ++ shown_rows false format names link (index + 1) rows) (kept_row index row (none index))
      ∙ ap (λ (lines : List (List ℕ)). file_lines format names keys index row ++ lines) (rows_same (index + 1) rows none)

  -- A LINK WITHOUT A REFUSAL
  pub link_shown : link.end ≡ None → shown_link false format names link ≡ link_lines format (output_of link.output) names (linking_of link)
  unfolding link_lines
  link_shown is =
      ap (λ (end : Option LinkEnd). shown_rows false format names link 0 link.link.rows.rows ++ shown_end false format names link end) is
      ∙ ap (λ (lines : List (List ℕ)). lines ++ shown_keys false format (output_of link.output) (linking_of link) keys.order)
      (rows_same 0 link.link.rows.rows (λ i. ap (λ (end : Option LinkEnd). ends_at_row end i) is))
      ∙ ap (λ (lines : List (List ℕ)). rows_lines format names keys 0 link.link.rows.rows ++ lines) (keys_same format (output_of link.output) (linking_of link) keys.order)

  -- ONE WITH A REFUSAL of the file of its last row
  module _ (end : LinkEnd) (last : ℕ) (is : link.end ≡ Some end) (at_last : end.row ≡ Some last) where
    ends_by : (index : ℕ) (b : Bool) → (last == index) ≡ b → ends_at_row link.end index ≡ b
    ends_by index b same = ap (λ (e : Option LinkEnd). ends_at_row e index) is ∙ ap (λ (r : Option ℕ). ends_at_row (Some (record end { row = r })) index) at_last ∙ same

    last_row : (row : LinkRow) → row_if_shown false format names link last (row_shown link.end last row)
        ≡ named_line (file_front format last (record row { kind = kind.Refused })) (name_of_row names row.input row.member) ∷ []
    unfolding file_front
    last_row row = ap (λ (b : Bool). lines_of_row false format names keys last (if b then record row { kind = kind.Refused; reason = None } else row)) (ends_by last true (eq-eqb last last refl))

    rows_to : (index : ℕ) (before : List LinkRow) (row : LinkRow) → index + length before ≡ last → shown_rows false format names link index (before ++ row ∷ [])
        ≡ rows_lines format names keys index before ++ (named_line (file_front format last (record row { kind = kind.Refused })) (name_of_row names row.input row.member) ∷ [])
    rows_to index [] row there =
        let at : index ≡ last = omega (arith, there) in
        append_nil (row_if_shown false format names link index (row_shown link.end index row))
        ∙ ap (λ (i : ℕ). row_if_shown false format names link i (row_shown link.end i row)) at ∙ last_row row
      where
        append_nil : (lines : List (List ℕ)) → lines ++ [] ≡ lines
        append_nil [] = refl
        append_nil (x ∷ lines) = ap (λ l. x ∷ l) (append_nil lines)
    rows_to index (r ∷ before) row there =
        let apart : (last == index) ≡ false = ne_eqb last index (λ same. omega (arith, same, there)) in
        ap (λ (lines : List (List ℕ)). lines ++ shown_rows false format names link (index + 1) (before ++ row ∷ [])) (kept_row index r (ends_by index false apart))
        ∙ ap (λ (lines : List (List ℕ)). file_lines format names keys index r ++ lines) (rows_to (index + 1) before row (omega (arith, there)))
        ∙ sym (append_assoc (file_lines format names keys index r) (rows_lines format names keys (index + 1) before) _)

    pub refused_shown : (before : List LinkRow) (row : LinkRow) → link.link.rows.rows ≡ before ++ row ∷ [] → length before ≡ last
        → shown_link false format names link ≡ rows_lines format names keys 0 before ++ refused_lines format names last row end.refusal
    unfolding refused_lines
    refused_shown before row rows there =
        let line = fault_line format end.refusal.at (link_cause_word end.refusal.cause) ∷ [] in
        ap (λ (e : Option LinkEnd). shown_rows false format names link 0 link.link.rows.rows ++ shown_end false format names link e) is
        ∙ ap (λ (all : List LinkRow). shown_rows false format names link 0 all ++ line) rows
        ∙ ap (λ (lines : List (List ℕ)). lines ++ line) (rows_to 0 before row (omega (arith, there)))
        ∙ append_assoc (rows_lines format names keys 0 before) (named_line (file_front format last (record row { kind = kind.Refused })) (name_of_row names row.input row.member) ∷ []) line
