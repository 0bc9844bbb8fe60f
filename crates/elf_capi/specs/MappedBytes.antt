-- The range of the bytes at an address, in a file in memory.
use Rattle.std.specs.Prelude.{ℕ, ◌≡◌, ◌≤◌, ◌⊎◌, true, false, List, length, Option, None, Some, Result, Ok, Err}
use Rattle.elf_model.specs.Prelude.{is_outside, mapped_at, mapped_offset}
use Rattle.elf_model.specs.declared.causes.Refusal.{Refusal}
use Rattle.elf_model.specs.declared.causes.Cause.TheVariants.{TableOutside}
use Rattle.elf_record.specs.Prelude.{IsPhdr}
use Rattle.elf_record.specs.declared.phdr.Phdr.{Phdr}
use Rattle.elf_capi.specs.Checked.{first_refused}
use Rattle.elf_table.specs.declared.byte_range.ByteRange.{ByteRange}

-- the first program header that holds `size` bytes at an address, after its offset, and which
-- begins not above the address; or there is none; or the first failing check
abbrev pub FindsMapping : List ℕ → ℕ → ℕ → Result (Option (ℕ × Phdr)) Refusal → Type 0
FindsMapping file address size (Ok (Some found)) =
    (first_refused file ≡ None) × (mapped_at file address size ≡ Some found.0) × IsPhdr file found.0 found.1 × (found.1.p_vaddr ≤ address)
FindsMapping file address size (Ok None) = (first_refused file ≡ None) × (mapped_at file address size ≡ None)
FindsMapping file address size (Err refusal) = first_refused file ≡ Some refusal

-- THE RESULT for an address: the range in the file of `size` bytes there, by the first program
-- header that holds them; none if none does; or the first failing check, the last of which is that
-- the range ends within the file
abbrev pub ReadsMapped : List ℕ → ℕ → ℕ → Result (Option ByteRange) Refusal → Type 0
ReadsMapped file address size (Ok (Some range)) =
    (first_refused file ≡ None)
    × ((at : ℕ) × (mapped_at file address size ≡ Some at) × (is_outside (length file) (mapped_offset file at address) size ≡ false)
    × (range ≡ record { at = mapped_offset file at address; len = size }))
ReadsMapped file address size (Ok None) = (first_refused file ≡ None) × (mapped_at file address size ≡ None)
ReadsMapped file address size (Err refusal) =
    (first_refused file ≡ Some refusal)
    ⊎ ((first_refused file ≡ None)
    × ((at : ℕ) × (mapped_at file address size ≡ Some at) × (is_outside (length file) (mapped_offset file at address) size ≡ true)
    × (refusal ≡ record { at = at; cause = TableOutside })))
