use Rattle.std.proofs.Common.{◌++◌, [], ap, ◌∙◌, arith}
use Rattle.std.specs.List.{cons_option}
use Rattle.elf_needs.specs.Steps.{dirs_in}
use Rattle.elf_needs.proofs.DirectoryLaws.{rpath_all, rpath_more}
use Rattle.elf_needs.proofs.needers.gather_rpaths.Goals as goal

pub loop-needer-preserved : goal.loop-needer-preserved
loop-needer-preserved c =
    let len = c.put_dirs.ensures.len in
    let few = c.loop-needer.invariant.few in
    record {
      dirs =
          rpath_more c.args.needers.now _ c.loop-needer.needer-index _ _ _ c.loop-needer-test.true c.loop-needer.invariant.dirs
          (c.put_dirs.ensures.dirs ∙ ap (λ some. dirs_in c.loop-needer.lists.items ++ cons_option some []) c.rpath_of.ensures);
      few = omega (arith, len, few);
    }

pub returns-clause-dirs : goal.returns-clause-dirs
returns-clause-dirs c = rpath_all c.args.needers.now c.loop-needer.needer-index _ _ c.loop-needer-test.false c.loop-needer.invariant.dirs
