-- The letter that is appended is that of the first flag of those that are left.
use Rattle.std.proofs.Common.{◌≡◌, ◌==◌, ℕ, ◌-◌, ◌≤◌, if◌then◌else◌, List, [], ◌∷◌, ◌++◌, length, take, drop, get_or, arith, append_assoc, bit_and}
use Rattle.std.proofs.lemmas.List.{take_all}
use Rattle.elf_model.specs.NameTables.{letters_of}
use Rattle.elf_format.specs.Tables.{letters}
use Rattle.elf_format.proofs.section_rows.put_letters.Goals as goal

-- the letter of a flag if it is set
abbrev letter : ℕ × ℕ → ℕ → List ℕ
letter flag bits = if bit_and bits flag.0 == flag.0 then flag.1 ∷ [] else []

all-but-one : (flag : ℕ × ℕ) (flags : List (ℕ × ℕ)) → take (length (flag ∷ flags) - 1) flags ≡ flags
all-but-one flag flags =
    let most : length (flag ∷ flags) - 1 ≡ length flags = omega arith in rw most (take_all (length flags) flags (omega arith))

letter-put : (flags : List (ℕ × ℕ)) (bits : ℕ) (line items whole : List ℕ) → 1 ≤ length flags → items ≡ line ++ letter (get_or flags 0 (0, 0)) bits
    → line ++ letters_of (letters flags) bits ≡ whole → items ++ letters_of (letters (take (length flags - 1) (drop 1 flags))) bits ≡ whole
unfolding letters_of
letter-put [] bits line items whole some put left = absurd (omega arith)
letter-put (flag ∷ flags) bits line items whole some put left =
    rw (all-but-one flag flags, put, append_assoc line (letter flag bits) (letters_of (letters flags) bits)) left

pub loop-table-preserved : goal.loop-table-preserved
loop-table-preserved c = record {
  items = letter-put c.loop-table.table.now c.args.bits c.loop-table.line.items _ _ c.in-len1-up.len_at_least c.put_where.ensures.items c.loop-table.invariant.items;
  length = omega arith;
}
