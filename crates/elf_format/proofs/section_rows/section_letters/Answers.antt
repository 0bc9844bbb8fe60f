-- The letters of all tables, the mark, and twelve columns.
use Rattle.std.proofs.Common.{◌≡◌, ◌==◌, ◌++◌, ℕ, not, Bool, true, false, if◌then◌else◌, List, [], ◌∷◌, refl, sym, append_assoc, bit_and}
use Rattle.elf_model.specs.NameTables.{section_flags, section_flags_text, standard_section_flags, further_section_flags, gnu_section_flags, x86_64_section_flags, processor_section_flags, letters_of, letters_and_mark, names_where, names_on_x86_64}
use Rattle.elf_format.proofs.section_rows.section_letters.Goals as goal

if-not : (b : Bool) (xs ys : List ℕ) → (if not b then xs else ys) ≡ (if b then ys else xs)
if-not true xs ys = refl
if-not false xs ys = refl

letters-of-both : (flags more : List (ℕ × List ℕ)) (n : ℕ) → letters_of (flags ++ more) n ≡ letters_of flags n ++ letters_of more n
unfolding letters_of
letters-of-both [] more n = refl
letters-of-both (entry ∷ flags) more n = rw (letters-of-both flags more n) (sym (append_assoc (if bit_and n entry.0 == entry.0 then entry.1 else []) (letters_of flags n) (letters_of more n)))

letters-of-four : (a b c d : List (ℕ × List ℕ)) (n : ℕ) → letters_of (a ++ (b ++ (c ++ d))) n ≡ letters_of a n ++ letters_of b n ++ letters_of c n ++ letters_of d n
letters-of-four a b c d n = simp (letters-of-both, append_assoc) refl

pub returns-clause-text : goal.returns-clause-text
unfolding section_flags_text letters_and_mark section_flags standard_section_flags further_section_flags gnu_section_flags x86_64_section_flags processor_section_flags
returns-clause-text c =
    let naming = c.args.naming in
    rw (
      c.flags_column.ensures.text,
      c.put_where.ensures.items,
      c.put_letters-4.ensures.items,
      c.put_letters-3.ensures.items,
      c.put_letters-2.ensures.items,
      c.put_letters.ensures.items,
      c.new-line.ensures,
      c.is_gnu_on_x86_64.ensures,
      c.flags_with_letters-known.ensures,
      if-not,
      letters-of-four standard_section_flags (names_where naming.gnu gnu_section_flags) (names_on_x86_64 naming.gnu naming.machine x86_64_section_flags) (names_where naming.gnu processor_section_flags) c.args.bits,
    )
    refl
