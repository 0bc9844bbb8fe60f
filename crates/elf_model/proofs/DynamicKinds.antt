-- Dynamic entries are lawful kinds of tables.
use Rattle.std.proofs.Common.{◌+◌, ◌*◌, ◌/◌, ◌==◌, Bool, [], ◌∷◌, ap, arith}
use Rattle.elf_model.specs.Prelude.{header_field, held_headers, name_bytes, p_filesz, p_offset, p_type, section_dynamic, segment_dynamic, sh_size, sh_type}
use Rattle.elf_model.proofs.HeldHeaders.{kind-equal, p_filesz_held, p_type_held, segment_whole_held, size_held, table_held, type_held}
use Rattle.elf_model.proofs.LawfulKinds.{CostsTheSame, IsTyped, LawfulSection, LawfulSegment, ReadsWithin, one-among}
use Rattle.elf_model.proofs.SelectionLaws.{section_dynamic_same, segment_dynamic_same}
use Rattle.elf_model.proofs.TableBounds.{entries_within, table_bound, table_fits, twice_within, whole_within, within_most}

pub section_dynamic_typed : IsTyped sh_type (6 ∷ []) section_dynamic
unfolding section_dynamic
section_dynamic_typed bytes at h = one-among (sh_type bytes at) 6 h

pub section_dynamic_fits : ReadsWithin table_bound section_dynamic
unfolding section_dynamic
section_dynamic_fits headers i size cap h =
    entries_within 16 (name_bytes cap) (name_bytes cap) size (header_field headers sh_size i) (omega arith) (omega arith) (table_fits headers i size 16 h)

pub section_dynamic_cost : CostsTheSame 64 section_dynamic
unfolding section_dynamic
section_dynamic_cost all row fields i size cap below =
    kind-equal section_dynamic (held_headers all.count row) all i size cap (ap (λ n. n == 6) (type_held all row fields i below)) (table_held all row fields i size 16 below)
    (ap (λ n. n / 16 * (16 + name_bytes cap)) (size_held all row fields i below))

abbrev pub section_dynamic_lawful : (versions : Bool) → LawfulSection versions section_dynamic
section_dynamic_lawful versions = record {
  types = 6 ∷ [];
  typed = section_dynamic_typed;
  fits = λ headers i size cap h. within_most versions size cap (section_dynamic_fits headers i size cap h);
  held = section_dynamic_cost;
  same = section_dynamic_same;
}

-- those of segments
pub segment_dynamic_typed : IsTyped p_type (2 ∷ []) segment_dynamic
unfolding segment_dynamic
segment_dynamic_typed bytes at h = one-among (p_type bytes at) 2 h

pub segment_dynamic_fits : ReadsWithin table_bound segment_dynamic
unfolding segment_dynamic
segment_dynamic_fits headers i size cap h =
    twice_within size (header_field headers p_filesz i) (name_bytes cap) (whole_within size (header_field headers p_offset i) (header_field headers p_filesz i) (headers.at i) 16 h)

pub segment_dynamic_cost : CostsTheSame 56 segment_dynamic
unfolding segment_dynamic
segment_dynamic_cost all row fields i size cap below =
    kind-equal segment_dynamic (held_headers all.count row) all i size cap (ap (λ n. n == 2) (p_type_held all row fields i below)) (segment_whole_held all row fields i size 16 below)
    (ap (λ n. n / 16 * (2 * 16 + name_bytes cap)) (p_filesz_held all row fields i below))

abbrev pub segment_dynamic_lawful : LawfulSegment segment_dynamic
segment_dynamic_lawful = record {
  types = 2 ∷ [];
  typed = segment_dynamic_typed;
  fits = segment_dynamic_fits;
  held = segment_dynamic_cost;
  same = segment_dynamic_same;
}

-- what unfolds them, so that they compute on a file given byte by byte
unfoldable pub on_dynamic_entries : Unit {0}
unfolding section_dynamic segment_dynamic
on_dynamic_entries = tt
