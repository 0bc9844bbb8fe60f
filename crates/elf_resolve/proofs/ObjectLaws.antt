-- Headers and tables of an object, and its first refusal.
use Rattle.std.proofs.Common.{◌≡◌, ℕ, ◌+◌, ◌*◌, ◌<◌, ◌≤◌, ◌^◌, Bool, true, false, List, length, take, inl, inr, refl, sym, ap, subst, ◌∙◌, arith}
use Rattle.std.specs.Prelude.{Option, None, Some, Ok, Err, IsOk}
use Rattle.std.proofs.lemmas.Bool.{cases_lt}
use Rattle.std.proofs.lemmas.Bool.Decides.{nat_tests}
use Rattle.std.proofs.lemmas.Grind.{common_steps}
use Rattle.elf_model.specs.Bytes.{slice}
use Rattle.elf_model.specs.Checks.{Check, has_section_names, first_refusal}
use Rattle.elf_model.specs.LinkSymbols.{symbol_table_in, table_checks_in}
use Rattle.elf_model.specs.Records.{e_shstrndx, section_at, sh_info, sh_offset, sh_size}
use Rattle.elf_model.specs.Tables.{section_bytes}
use Rattle.elf_model.specs.declared.link_states.LinkRefusal.{LinkRefusal}
use Rattle.elf_model.proofs.Slices.{slice-size}
use Rattle.elf_table.specs.Prelude.{RefusedBy, StringTableRange, TableRange, names_at, section_names, symbols_at}
use Rattle.elf_table.specs.declared.fault.Fault.{Fault}
use Rattle.elf_table.specs.declared.fault.Fault.TheVariants as table
use Rattle.elf_table.proofs.RelocationLaws.{symbols-pass}
use Rattle.elf_resolve.specs.LinkFaults.{fault_of_table}
use Rattle.elf_resolve.specs.ObjectParts.{ReadSymbols, ReadTables, ReadsFound, as_any_refusal}
use Rattle.elf_resolve.specs.ObjectTables.{HoldsNames, HoldsSectionNames, HoldsSymbols}
use Rattle.elf_resolve.specs.StringBuffers.{HoldsText, ReadText, TableTexts}
use Rattle.elf_resolve.specs.Taken.{IsLinkFault}
use Rattle.elf_resolve.specs.declared.link_faults.LinkFault.{LinkFault}
use Rattle.elf_resolve.specs.declared.object.SymbolRows.{SymbolRows}
use Rattle.elf_resolve.specs.declared.string_buffer.HeldText.{HeldText}
use Rattle.elf_resolve.proofs.LinkFaultLaws.{fault_of_any}
use Rattle.elf_resolve.proofs.StringBufferLaws.{holds_appended, holds_kept, holds_read}

-- A CHECK REFUSES
pub table_refused : (checks : List Check) (fault : Fault) → RefusedBy checks fault → IsLinkFault (as_any_refusal (first_refusal checks)) (fault_of_table fault)
table_refused checks (table.Refused refusal) is = inr (ap as_any_refusal is)
table_refused checks (table.Source other at) is = absurd is

-- a part of a file is not read: it is not in the file, or for a reason that the file does not have
pub unread : (file : List ℕ) (at size count : ℕ) (known : Option LinkRefusal) (fault : LinkFault) → (0 < count → at + size ≤ length file) → (at + size ≤ length file → IsLinkFault None fault)
    → (count ≡ 0 → IsOk {T = HeldText} (Err fault)) → IsLinkFault known fault
unread file at size count known fault within any empty = fault_of_any known fault (elim (cases_lt 0 count) [
  | inl some ↦ any (within some)
  | inr none ↦ absurd (refused (empty (omega arith)))
])
  where
    refused : IsOk {T = HeldText} (Err fault) → ⊥
    refused is = cc

-- THE SYMBOLS of a section are held once they and their names are read
read_whole : (file : List ℕ) (at size : ℕ) → (0 < size → at + size ≤ length file) → size ≤ length (slice file at size)
read_whole file at size within = elim (cases_lt 0 size) [
  | inl some ↦ omega (arith, slice-size file at size (within some))
  | inr none ↦ omega arith
]

pub symbols_read : (file : List ℕ) (section at count first : ℕ) (found : TableRange) (strings : StringTableRange) (old now new : TableTexts) (rows names : HeldText)
    → symbols_at file (section_at file section) ≡ Ok (found, strings) → found.at + found.count * found.entry < 2 ^ 64 → found.count * found.entry ≡ sh_size file (section_at file section)
    → ReadText file found.at (found.count * found.entry) old now rows → ReadText file strings.at strings.size now new names
    → at ≡ found.at → count ≡ found.count → first ≡ sh_info file (section_at file section)
    → ReadSymbols file new.bytes section (record { section = section; at = at; count = count; first = first; rows = rows; names = names })
symbols_read file section at count first found strings old now new rows names is fits sized r n at_is count_is first_is =
    let header = section_at file section in
    let known = symbols-pass file header (found, strings) is in
    let are = known.1 in
    let size : count * 24 ≡ found.count * found.entry = ap (λ k. k * 24) count_is ∙ ap (λ w. found.count * w) (sym are.sized) in
    let bytes : slice file found.at (found.count * found.entry) ≡ section_bytes file header = ap (λ a. slice file a (found.count * found.entry)) are.placed ∙ ap (slice file (sh_offset file header)) sized in
    let whole = read_whole file found.at (found.count * found.entry) r.within in
    record {
      pass = known.0;
      holds = record {
        rows = rw (n.bytes, ← bytes) (holds_appended now.bytes _ rows _ (holds_read file found.at (found.count * found.entry) old now rows r));
        names = λ some. subst (λ (s : StringTableRange). HoldsText new.bytes names (slice file s.at s.size)) (are.named (omega arith)) (holds_read file strings.at strings.size now new names n);
        at = at_is ∙ are.placed;
        count = count_is ∙ are.counted;
        whole = omega (arith, whole, size, ap length bytes);
        fits = omega (arith, fits, size, at_is);
      };
      first = first_is;
      section_is = refl;
    }

-- the names of sections
pub names_read : (file : List ℕ) (strings : StringTableRange) (old new : TableTexts) (names : HeldText) → section_names file ≡ Some strings → ReadText file strings.at strings.size old new names → HoldsNames file new.bytes names
names_read file strings old new names is read =
    let one = by_names (has_section_names file) refl in
    record {
      some = one.0;
      holds = subst (λ (s : StringTableRange). HoldsText new.bytes names (slice file s.at s.size)) (sym one.1) (holds_read file strings.at strings.size old new names read);
    }
  where
    by_names : (has : Bool) → has_section_names file ≡ has → (e_shstrndx file ≡ 0 → ⊥) × (names_at file (section_at file (e_shstrndx file)) ≡ strings)
    by_names true has = (λ none. absurd (grind (arith, nat_tests, common_steps, has, none)), let found = rw (has, section_names) at is in cc)
    by_names false has = let found = rw (has, section_names) at is in absurd (cc)

-- ALL TABLES of an object
pub symbols_kept : (file old new : List ℕ) (header : ℕ) (symbols : SymbolRows) → take (length old) new ≡ old → HoldsSymbols file old header symbols → HoldsSymbols file new header symbols
symbols_kept file old new header symbols first held = record {
  rows = holds_kept old new symbols.rows _ first held.rows;
  names = λ some. holds_kept old new symbols.names _ first (held.names some);
  at = held.at;
  count = held.count;
  whole = held.whole;
  fits = held.fits;
}

pub tables_read : (file old new : List ℕ) (symbols : Option SymbolRows) (sections : Option HeldText) → ReadsFound file old (symbol_table_in file) (Ok symbols) → take (length old) new ≡ old → HoldsSectionNames file new sections
    → ReadTables file new (record { symbols = symbols; sections = sections })
tables_read file old new None sections found first names = record {
  pass = ap (λ t. first_refusal (table_checks_in file t)) found;
  holds = record { symbols = found; sections = names };
}
tables_read file old new (Some symbols) sections found first names = record {
  pass = ap (λ t. first_refusal (table_checks_in file t)) found.0 ∙ found.1.pass;
  holds = record { symbols = record { table = found.0; holds = symbols_kept file old new (section_at file symbols.section) symbols first found.1.holds; first = found.1.first }; sections = names };
}
