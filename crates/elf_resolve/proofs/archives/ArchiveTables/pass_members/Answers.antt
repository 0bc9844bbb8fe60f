use Rattle.std.proofs.Common.{rules, ◌≤◌, ◌<◌, length, refl, ◌∙◌, arith}
use Rattle.std.proofs.lemmas.Result.{err_from_is_err_and}
use Rattle.elf_archive.specs.Members.{extent_of}
use Rattle.elf_resolve.proofs.MemberPasses.{passes_begin, passes_cut, passes_end, passes_member}
use Rattle.elf_resolve.proofs.archives.ArchiveTables.pass_members.Goals as goal

pub loop-at-init : goal.loop-at-init
loop-at-init g c = record {
  keeps = search rules;
  archives = refl;
  entries = refl;
  limit = refl;
  most = refl;
  passed = λ file held small. passes_begin file c.args.self.now.members.items;
}

pub loop-at-preserved : goal.loop-at-preserved
loop-at-preserved g c = record {
  keeps = search rules;
  archives = search rules;
  entries = search rules;
  limit = search rules;
  most = c.read_header_at.ensures.most ∙ c.loop-at.invariant.most;
  passed = λ file held small.
      let now = c.loop-at.invariant.keeps.same_file ∙ held in
      rw c.padded_end-at.ensures
      (passes_member file c.args.self.now.members.items c.loop-at.self.members.items c.add_member.new.self.members.items c.read_header_at.new.header c.loop-at.at _ _ (extent_of c.in_ok-extent.extent)
      (c.loop-at.invariant.passed file held small) (c.in_ok-extent.ensures.reads file now) c.in_ok-extent.ensures.lies.0 c.in_ok-add_member.ensures.adds c.first_table-names.ensures);
}

pub returns-in_err-extent-clause-passes : goal.returns-in_err-extent-clause-passes
returns-in_err-extent-clause-passes g c = λ file held small.
    let p = err_from_is_err_and c.from_residual.result c.from_residual.ensures.1 in
    let now = c.loop-at.invariant.keeps.same_file ∙ held in
    let sized = c.loop-at.src.seen.sized file now in
    let below : c.loop-at.at < length file = omega (arith, sized, c.loop-at-test.true, c.length.ensures.value) in
    rw (p.1, p.2) (passes_cut file _ _ c.loop-at.at _ c.in_err-extent.field-0.0 (c.loop-at.invariant.passed file held small) below (c.in_err-extent.ensures.reads file now small))

pub returns-clause-passes : goal.returns-clause-passes
returns-clause-passes g c = λ file held small.
    let now = c.loop-at.invariant.keeps.same_file ∙ held in
    let sized = c.loop-at.src.seen.sized file now in
    let past : length file ≤ c.loop-at.at = omega (arith, sized, c.loop-at-test.false, c.length.ensures.value) in
    passes_end file _ _ c.loop-at.at _ past (c.loop-at.invariant.passed file held small)
