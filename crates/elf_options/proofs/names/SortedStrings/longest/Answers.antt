use Rattle.std.proofs.Common.{◌≡◌, [], take, add-one, arith}
use Rattle.elf_model.specs.Choice.{most_bytes}
use Rattle.elf_options.specs.Names.{texts_of}
use Rattle.elf_options.proofs.NameSearch.{most_more}
use Rattle.elf_options.proofs.names.SortedStrings.longest.Goals as goal

pub loop-text-preserved : goal.loop-text-preserved
loop-text-preserved c =
    let texts = c.self.inside.texts.now in
    let held : c.loop-text.most ≡ most_bytes (texts_of (take c.loop-text.text-index texts)) = c.loop-text.invariant in
    let more = most_more texts c.loop-text.text-index (record { ref_ptr = (0, 0); now = [] }) c.loop-text-test.true in
    rw add-one (omega (arith, more, held, c.max-most.ensures))
