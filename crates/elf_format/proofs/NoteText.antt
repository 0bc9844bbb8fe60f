-- The line of a note, by the text after its name.
use Rattle.std.proofs.Common.{◌≡◌, ℕ, nat_lt, Bool, List, [], ◌++◌, length, take, Option, None, Some, refl, sym, ap, ◌∙◌}
use Rattle.std.specs.Prelude.{unwrap_or}
use Rattle.elf_model.specs.Prelude.{Cut, DisplayedName, SHOWN_DESCRIPTOR, descriptor_cell, descriptor_digits, hex_bytes, line_described, name_text, newline, note_content, space}
use Rattle.elf_model.specs.Names.DisplayedName.{Whole}
use Rattle.elf_model.specs.declared.formats.Format.TheVariants.{Columns, Object, Table}
use Rattle.elf_model.specs.declared.formats.Format.{Format}
use Rattle.elf_format.specs.Prelude.{line_tailed, note_end}
use Rattle.elf_format.specs.Notes.{content_end, described_end, shown_content}

-- the text of a cell, by its content
cell_end : (content : Option (List ℕ)) (first : List ℕ) (has_more : Bool)
    → space ++ unwrap_or content (descriptor_digits first has_more) ++ newline ≡ described_end Table content first has_more
unfolding descriptor_digits note_end
cell_end None first has_more = refl
cell_end (Some content) first has_more = refl

pub note-described : (format : Format) (key line : List ℕ) (kind : ℕ) (name : DisplayedName) (descriptor : List ℕ)
    → let first = take SHOWN_DESCRIPTOR descriptor in
    let has_more = nat_lt SHOWN_DESCRIPTOR (length descriptor) in
    line_described format key line kind name descriptor
    ≡ line_tailed format key line name (described_end format (shown_content format name kind first has_more) first has_more)
unfolding line_described line_tailed note_end descriptor_digits descriptor_cell
note-described Columns key line kind name descriptor = refl
note-described Object key line kind name descriptor = refl
note-described Table key line kind (Cut name) descriptor = refl
note-described Table key line kind (Whole name) descriptor =
    let first = take SHOWN_DESCRIPTOR descriptor in
    let has_more = nat_lt SHOWN_DESCRIPTOR (length descriptor) in
    ap (λ (end : List ℕ). line ++ (name_text (Whole name) ++ end)) (cell_end (note_content name kind first has_more) first has_more)

-- the line by what is known of the descriptor, and by its content
pub described_by : (format : Format) (key line : List ℕ) (kind size : ℕ) (name : DisplayedName) (first descriptor : List ℕ) (content : Option (List ℕ))
    → first ≡ take SHOWN_DESCRIPTOR descriptor → size ≡ length descriptor → content ≡ shown_content format name kind first (nat_lt SHOWN_DESCRIPTOR size)
    → line_described format key line kind name descriptor ≡ line_tailed format key line name (described_end format content first (nat_lt SHOWN_DESCRIPTOR size))
described_by format key line kind size name first descriptor content f s c = rw (c, f, s) (note-described format key line kind name descriptor)
