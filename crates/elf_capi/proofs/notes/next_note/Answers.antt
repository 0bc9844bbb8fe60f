-- A step takes the first of the notes that are left.
use Rattle.std.proofs.Common.{ℕ, ◌+◌, ◌≤◌, length, drop, refl, ap, sym, ◌∙◌, arith, length-take}
use Rattle.elf_model.specs.Prelude.{descriptor_start, first_note, note_align, slice}
use Rattle.elf_note.specs.NoteCursors.{AreNoteParts}
use Rattle.elf_record.specs.NoteHead.{IsNoteHead}
use Rattle.elf_capi.proofs.NoteSteps.{ends, tails, past, found, tells}
use Rattle.elf_capi.proofs.notes.next_note.Goals as goal

pub returns-then-are_zeros : goal.returns-then-are_zeros
returns-then-are_zeros c =
    let old = c.args.notes.now in
    let b = c.bytes_of-table.ensures.bytes in
    let few = rw b at c.if-table-lt12.true in
    let zeros = rw b at (sym c.are_zeros.ensures ∙ c.if-are_zeros.true) in
    (refl, ends (note_align old.align) old.at (slice c.args.file.now old.at old.left) few zeros)

pub returns-then-table-lt12 : goal.returns-then-table-lt12
returns-then-table-lt12 c =
    let old = c.args.notes.now in
    let b = c.bytes_of-table.ensures.bytes in
    let few = rw b at c.if-table-lt12.true in
    let zeros = rw b at (sym c.are_zeros.ensures ∙ c.if-are_zeros.false) in
    (refl, tails (note_align old.align) old.at (slice c.args.file.now old.at old.left) few zeros, c.cut.ensures)

pub returns-in_default : goal.returns-in_default
returns-in_default c =
    let old = c.args.notes.now in
    let b = c.bytes_of-table.ensures.bytes in
    let table = c.bytes_of-table.result.now in
    let head = c.decode-head.result in
    let many : 12 ≤ length table = omega (arith, c.if-table-lt12.false) in
    let is_at : IsNoteHead table 0 head = c.decode-head.ensures.is_at table 0 c.chunk_at.ensures in
    let few = rw c.note_align.ensures.value at c.in_default.ensures in
    (refl, past (note_align old.align) old.at (slice c.args.file.now old.at old.left) head (rw b at is_at) (rw b at many) (rw b at few), c.cut-in_default.ensures)

pub returns : goal.returns
returns c =
    let old = c.args.notes.now in
    let file = c.args.file.now in
    let b = c.bytes_of-table.ensures.bytes in
    let table = c.bytes_of-table.result.now in
    let head = c.decode-head.result in
    let parts = c.in-Some.parts in
    let a : ℕ = note_align old.align in
    let many : 12 ≤ length table = omega (arith, c.if-table-lt12.false) in
    let is_at : IsNoteHead table 0 head = c.decode-head.ensures.is_at table 0 c.chunk_at.ensures in
    let are : AreNoteParts a head (length table) parts = rw c.note_align.ensures.value at c.in-Some.ensures in
    let whole : length (slice file old.at old.left) ≤ old.left = omega (arith, length-take old.left (drop old.at file)) in
    let within : length table ≤ old.left = rw (sym b) at whole in
    let fit : descriptor_start a head.namesz head.descsz + head.descsz ≤ length table = omega (arith, are.fits, are.descriptor) in
    let some = are.within in
    let most = are.most in (
      record {
        fewer = omega (arith, are.descriptor, some, most, within);
        same_end = omega (arith, most, within);
        same_align = refl;
        same_header = refl;
      },
      (
        first_note a (slice file old.at old.left),
        found a file old.at old.left head (rw b at is_at) (rw b at many) (rw b at fit) whole parts.size (rw b at are.size),
        tells a file old head _ (rw b at is_at) (rw b at fit) whole refl refl refl refl refl refl (ap (λ (x : ℕ). old.at + x) are.descriptor),
      ),
    )
