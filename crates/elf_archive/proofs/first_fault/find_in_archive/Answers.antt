-- The members after the magic string, which was read, are iterated over.
use Rattle.std.proofs.Common.{◌-◌, ◌≡◌, ◌≤◌, ℕ, ◌^◌, length, refl, ap, ◌∙◌, arith, Err}
use Rattle.elf_model.specs.Prelude.{allowance, before_members, members_cost}
use Rattle.elf_model.proofs.AllowanceLaws.{allowance_within}
use Rattle.elf_source.proofs.GrowthLaws.{grows_not}
use Rattle.elf_source.proofs.ReadsLaws.{ReadsUpTo-none}
use Rattle.elf_options.specs.Permitted.{style_of}
use Rattle.elf_archive.proofs.ArchiveLaws.{passed_cost}
use Rattle.elf_archive.proofs.ConsumeLaws.{ReadsAtMostIn-to}
use Rattle.elf_archive.proofs.FaultLaws.{long_fault, long_takes, passed_fault}
use Rattle.elf_archive.proofs.MagicLaws.{is-archive, length-passes}
use Rattle.elf_archive.proofs.first_fault.find_in_archive.Goals as goal

pub returns-then-length-clause-finds : goal.returns-then-length-clause-finds
returns-then-length-clause-finds g c = record {
  slots = refl;
  grows = grows_not _;
  ceiling = long_takes c.args.src.now c.args.out.now _;
  cost = λ file held. long_takes c.args.src.now c.args.out.now _;
  shows = λ file held.
      let sized = c.args.src.now.seen.sized file held in
      λ other. long_fault file c.args.store.now.slots (style_of c.args.style) c.args.parts.0 (omega (arith, sized, c.length.ensures.value, c.if-length.true));
}

pub returns-clause-finds : goal.returns-clause-finds
returns-clause-finds g c =
    let did = c.find_in_members.ensures in
    let headers = c.args.store.now.slots in
    let style = style_of c.args.style in
    let parts = c.args.parts.0 in
    let within = allowance_within c.args.src.now.seen.size headers style in
    let begins = c.requires.begins in
    record {
      slots = did.slots;
      grows = did.grows;
      ceiling = ReadsAtMostIn-to _ _ _ _ (allowance (c.args.src.now.seen.size - 8) headers style) _ (omega (arith, within)) did.ceiling;
      cost = λ file held.
          let sized = c.args.src.now.seen.sized file held in
          let passes = is-archive file (omega (arith, sized, begins.size)) (omega (arith, sized, c.length.ensures.value, c.if-length.false)) (begins.magic file held) in
          let cost = passed_cost file headers style parts passes in
          ReadsAtMostIn-to _ _ _ _ (members_cost (length file) file headers style parts before_members) _ (omega (arith, cost)) (did.cost file held);
      shows = λ file held.
          let sized = c.args.src.now.seen.sized file held in
          let passes = is-archive file (omega (arith, sized, begins.size)) (omega (arith, sized, c.length.ensures.value, c.if-length.false)) (begins.magic file held) in
          rw (passed_fault file headers style parts passes) (did.shows file held);
    }

pub returns-clause-unread : goal.returns-clause-unread
returns-clause-unread g c = λ refusal is.
    absurd (length-passes c.args.src.now.seen.size refusal (let least = c.requires.begins.size in omega (arith, least)) (omega (arith, c.length.ensures.value, c.if-length.false)) is)
