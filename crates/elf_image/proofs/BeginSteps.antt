-- The changes that are left of a walk before its first step are all of a file.
use Rattle.std.proofs.Common.{◌≡◌, ◌∙◌, false, List, ◌++◌, flat_map, ap, sym, refl, append_assoc}
use Rattle.std.specs.Prelude.{option_to_list}
use Rattle.elf_model.specs.Image.{ImageChange, ImageSource, entry_ranges, range_changes, relative_changes, relocation_changes, table_addresses}
use Rattle.elf_model.specs.ImageChecks.{linkage_table, rela_table, relative_table, row_value}
use Rattle.elf_model.specs.Numbers.{DT_RELACOUNT}
use Rattle.elf_image.specs.Changes.{image_changes_left}
use Rattle.elf_image.specs.EntryOrder.{entry_changes_left, parts_left}
use Rattle.elf_image.specs.RelativeRows.{relative_left, words_left}
use Rattle.elf_image.specs.Relocated.{IsImageOf}
use Rattle.elf_image.specs.declared.changes.ImageFile.{ImageFile}
use Rattle.elf_image.specs.declared.walk.ImageWalk.{ImageWalk}
use Rattle.elf_image.proofs.ChangeSteps.{left_rows}
use Rattle.elf_image.proofs.EntryOrderSteps.{parts_are_ranges}
use Rattle.elf_image.proofs.WordSteps.{words_begin}

abbrev all_rows : ImageSource → List ImageChange
all_rows source = relative_changes source 0 (flat_map (table_addresses source.file) (option_to_list (relative_table source.file source.at)))

changes_in_order : (source : ImageSource) → relocation_changes source
    ≡ all_rows source
    ++ range_changes source (row_value source.file source.at DT_RELACOUNT) (entry_ranges (rela_table source.file source.at) (linkage_table source.file source.at)).0
    ++ range_changes source 0 (entry_ranges (rela_table source.file source.at) (linkage_table source.file source.at)).1
unfolding relocation_changes
changes_in_order source = refl

pub changes_begin : (source : ImageSource) (image : ImageFile) (walk : ImageWalk) → IsImageOf source image → walk.past_rows ≡ false → walk.rows.low ≡ 0
    → relative_left source.file walk.rows ≡ words_left source.file image.told.compact.at 0 image.told.compact.count
    → entry_changes_left source walk.entries ≡ parts_left source image.told.ranges 0 → image_changes_left source walk ≡ relocation_changes source
changes_begin source image walk of rows low words parts =
    let file = source.file in
    let ranges = entry_ranges (rela_table file source.at) (linkage_table file source.at) in
    let first = range_changes source (row_value file source.at DT_RELACOUNT) ranges.0 in
    let second = range_changes source 0 ranges.1 in
    let all = words ∙ sym (words_begin file (relative_table file source.at) image.told.compact of.told.words) in
    let relative : relative_changes source walk.rows.low (relative_left file walk.rows) ≡ all_rows source =
    ap (λ l. relative_changes source l (relative_left file walk.rows)) low ∙ ap (relative_changes source 0) all in
    let entries = parts ∙ parts_are_ranges source image.told.ranges of.told.ranges in
    left_rows source walk rows
    ∙ (ap (λ xs. xs ++ entry_changes_left source walk.entries) relative
    ∙ (ap (λ xs. all_rows source ++ xs) entries ∙ (sym (append_assoc (all_rows source) first second) ∙ sym (changes_in_order source))))
