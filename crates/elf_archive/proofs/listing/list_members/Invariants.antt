-- The members before the cursor's were listed, and what may still be read is left for those after.
use Rattle.std.proofs.Common.{◌≡◌, ℕ, ◌+◌, ◌-◌, ◌≤◌, List, length, Some}
use Rattle.elf_model.specs.Prelude.{allowance, before_members}
use Rattle.elf_source.specs.Prelude.{OutGrows, ReadsUpTo}
use Rattle.elf_options.specs.Permitted.{style_of}
use Rattle.elf_archive.specs.Members.{IsMemberWalkInBounds}
use Rattle.elf_archive.proofs.WalkLaws.{WalkSoFar}
use Rattle.elf_archive.proofs.listing.list_members.Given as goal

abbrev pub invariant-members : goal.invariant-members
invariant-members g l =
    let size = l.fn.src.seen.size in
    let headers = l.fn.store.slots in
    let style = style_of l.fn.choice.style in
    record {
      is_at : IsMemberWalkInBounds size l.cursor;
      slots : l.store.slots ≡ headers;
      grows : OutGrows l.fn.out l.out;
      bytes : ℕ;
      within : bytes + allowance (size - l.cursor.at) headers style ≤ allowance (size - 8) headers style;
      reads : ReadsUpTo l.fn.src l.src bytes;
      walks : (file : List ℕ) → l.fn.src.seen.file ≡ Some file
          → WalkSoFar l.fn.choice.alone file headers style l.fn.choice.parts.0 (length file) before_members l.cursor l.fn.src l.src l.fn.out l.out l.any;
    }

abbrev pub decreases-members : goal.decreases-members
decreases-members g l = l.fn.src.seen.size + 1 - l.cursor.at
