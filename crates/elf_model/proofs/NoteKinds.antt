-- Notes are lawful kinds of tables.
use Rattle.std.proofs.Common.{◌*◌, ◌==◌, Bool, [], ◌∷◌, ap, arith}
use Rattle.elf_model.specs.Prelude.{header_field, held_headers, p_filesz, p_offset, p_type, section_notes, segment_notes, sh_type}
use Rattle.elf_model.proofs.HeldHeaders.{kind-equal, p_filesz_held, p_type_held, range_held, segment_range_held, size_held, type_held}
use Rattle.elf_model.proofs.LawfulKinds.{CostsTheSame, IsTyped, LawfulSection, LawfulSegment, ReadsWithin, one-among}
use Rattle.elf_model.proofs.SelectionLaws.{section_notes_same, segment_notes_same}
use Rattle.elf_model.proofs.TableBounds.{range_fits, range_within, table_bound, within_most}

pub section_notes_typed : IsTyped sh_type (7 ∷ []) section_notes
unfolding section_notes
section_notes_typed bytes at h = one-among (sh_type bytes at) 7 h

pub section_notes_fit : ReadsWithin table_bound section_notes
unfolding section_notes
section_notes_fit headers i size cap h = let within = range_fits headers i size h in omega arith

pub section_notes_cost : CostsTheSame 64 section_notes
unfolding section_notes
section_notes_cost all row fields i size cap below =
    kind-equal section_notes (held_headers all.count row) all i size cap (ap (λ n. n == 7) (type_held all row fields i below)) (range_held all row fields i size below)
    (ap (λ n. n * 1) (size_held all row fields i below))

abbrev pub section_notes_lawful : (versions : Bool) → LawfulSection versions section_notes
section_notes_lawful versions = record {
  types = 7 ∷ [];
  typed = section_notes_typed;
  fits = λ headers i size cap h. within_most versions size cap (section_notes_fit headers i size cap h);
  held = section_notes_cost;
  same = section_notes_same;
}

-- those of segments
pub segment_notes_typed : IsTyped p_type (4 ∷ []) segment_notes
unfolding segment_notes
segment_notes_typed bytes at h = one-among (p_type bytes at) 4 h

pub segment_notes_fit : ReadsWithin table_bound segment_notes
unfolding segment_notes
segment_notes_fit headers i size cap h =
    let within = range_within size (header_field headers p_offset i) (header_field headers p_filesz i) (headers.at i) h in omega arith

pub segment_notes_cost : CostsTheSame 56 segment_notes
unfolding segment_notes
segment_notes_cost all row fields i size cap below =
    kind-equal segment_notes (held_headers all.count row) all i size cap (ap (λ n. n == 4) (p_type_held all row fields i below)) (segment_range_held all row fields i size below)
    (ap (λ n. n * 1) (p_filesz_held all row fields i below))

abbrev pub segment_notes_lawful : LawfulSegment segment_notes
segment_notes_lawful = record {
  types = 4 ∷ [];
  typed = segment_notes_typed;
  fits = segment_notes_fit;
  held = segment_notes_cost;
  same = segment_notes_same;
}

-- what unfolds them, so that they compute on a file given byte by byte
unfoldable pub on_notes : Unit {0}
unfolding section_notes segment_notes
on_notes = tt
