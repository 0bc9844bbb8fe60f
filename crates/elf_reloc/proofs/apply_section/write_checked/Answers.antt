use Rattle.std.proofs.Common.{refl, rules, ◌∙◌, ap, arith}
use Rattle.elf_source.specs.Source.{SourceState}
use Rattle.elf_source.proofs.GrowthLaws.{grows_not}
use Rattle.elf_source.proofs.ReadsLaws.{ReadsUpTo-none}
use Rattle.elf_reloc.specs.Walk.{walk_all}
use Rattle.elf_reloc.proofs.BudgetSteps.{spends_reads}
use Rattle.elf_reloc.proofs.RoomSteps.{some_size, write_asks, open_free, spends_free, says_free, never_wants}
use Rattle.elf_reloc.proofs.apply_section.write_checked.Goals as goal

pub write_section-requires : goal.write_section-requires
write_section-requires g c = record {
  free = c.limit.ensures.most;
  opened = open_free c.args.src.now c.limit.new.self _ c.limit.ensures _ _ c.requires.may.opened;
  within = omega (arith, c.requires.may.within, ap (λ (s : SourceState). s.size) c.limit.ensures.seen);
  fits = omega (arith, c.requires.may.fits, ap (λ (s : SourceState). s.size) c.limit.ensures.seen);
}

pub returns-then-not-has_room : goal.returns-then-not-has_room
returns-then-not-has_room g c = record {
  says =
      let over = c.if-not-has_room.ensures in
      let some = some_size c.args.src.now c.args.checked.now.rises c.args.target.now.size (walk_all c.args.target.now) over in
      λ budget. (omega (arith, some, c.requires.may.within), over);
  reads = spends_reads _ (ReadsUpTo-none c.args.src.now 0) (omega arith);
  grows = grows_not _;
  wrote = omega arith;
  text = λ file held patches are inside rises. (refl, refl);
}

pub returns : goal.returns
returns g c = record {
  says = says_free c.args.src.now c.limit.new.self _ c.limit.ensures c.write_section.new.src c.write_section.new.out _ c.write_section.result c.write_section.ensures.did.says;
  reads =
      let asked = write_asks c.args.checked.now.rises c.args.target.now.size (walk_all c.args.target.now) c.limit.new.self.asked c.write_section.new.src.asked c.write_section.ensures.once c.write_section.ensures.did.reads.at_most in
      spends_free c.args.src.now c.limit.new.self _ c.limit.ensures c.write_section.new.src _ _ c.write_section.ensures.did.reads asked c.if-not-has_room.ensures;
  grows = search rules;
  wrote = search rules;
  text = λ file held patches are inside rises.
      never_wants c.args.out.now c.write_section.new.out c.write_section.result _
      (c.write_section.ensures.text file (ap (λ (s : SourceState). s.file) c.limit.ensures.seen ∙ held) patches are inside rises);
}
