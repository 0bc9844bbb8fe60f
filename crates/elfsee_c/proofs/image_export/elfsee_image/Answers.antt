-- The image that was written, with the cause of a refusal.
use Rattle.std.proofs.Common.{◌≡◌, ℕ, List, length, ◌∙◌, arith}
use Rattle.elf_capi.specs.Images.{ImagesInMemory}
use Rattle.elf_capi.specs.LentLayouts.{CountsWritten}
use Rattle.elf_capi.specs.declared.call_status.CallStatus.{CallStatus}
use Rattle.elf_capi.specs.declared.call_status.CallStatus.TheVariants.{BadCall, Done, Full, Refused}
use Rattle.elf_capi.specs.declared.end.CallEnd.{CallEnd}
use Rattle.elf_capi.specs.declared.image_items.CallerImageItems.{CallerImageItems}
use Rattle.elf_capi.specs.declared.limits.CallerLimits.{CallerLimits}
use Rattle.elfsee_c.proofs.image_export.elfsee_image.Goals as goal

module _ (old new : CallEnd) (written : new.written ≡ old.written) (asked : new.asked ≡ old.asked) where
  -- the same counts
  same_image : (file : List ℕ) (limits : CallerLimits) (segment : ℕ) (items : CallerImageItems) (room window : ℕ) (before out : List ℕ) (told : CallStatus)
      → ImagesInMemory file limits segment items room window before out old told → ImagesInMemory file limits segment items room window before out new told
  same_image file limits segment items room window before out Done gave =
      record { permitted = gave.permitted; wide = gave.wide; image = rw written gave.image; cost = rw asked gave.cost; budget = rw asked gave.budget }
  same_image file limits segment items room window before out (Refused refusal) gave =
      record { permitted = gave.permitted; wide = gave.wide; image = rw written gave.image; cost = rw asked gave.cost; budget = rw asked gave.budget }
  same_image file limits segment items room window before out Full gave =
      record { permitted = gave.permitted; wide = gave.wide; image = rw written gave.image; cost = rw asked gave.cost; budget = rw asked gave.budget }
  same_image file limits segment items room window before out BadCall gave = (gave.0, (gave.1.0, written ∙ gave.1.1, asked ∙ gave.1.2))

  same_count : (told : CallStatus) → CountsWritten old told → CountsWritten new told
  same_count Done counts = tt
  same_count (Refused refusal) counts = written ∙ counts
  same_count Full counts = tt
  same_count BadCall counts = tt

pub returns : goal.returns
returns c =
    let args = c.args in
    let did = c.image_in-told in
    let told = c.report_status.ensures in
    record {
      told = did.result;
      images = same_image did.new.end c.report_status.new.end told.written told.asked args.file.now args.limits.now args.segment args.items.now (length args.room.now) (length args.window.now) args.out.now did.new.out did.result did.ensures.images;
      status_is = told.status;
      written = same_count did.new.end c.report_status.new.end told.written told.asked did.result did.ensures.written;
      within = omega (arith, told.written, did.ensures.within);
    }
