use Rattle.std.proofs.Common.{◌∙◌, refl, arith}
use Rattle.elf_image.proofs.WindowSteps.{copied-none, copied-puts}
use Rattle.elf_image.proofs.window.ImageWindow.put_copied.Goals as goal

pub loop-i-init : goal.loop-i-init
loop-i-init c = record {
  edges = record { low = refl; before = refl; after = refl; long = refl };
  puts = copied-none c.args.self.now c.args.offset c.args.bytes.now;
}

pub loop-i-preserved : goal.loop-i-preserved
loop-i-preserved c =
    let known = c.loop-i.invariant in
    let puts = c.put.ensures in
    record {
      edges = record {
        low = puts.edges.low ∙ known.edges.low;
        before = puts.edges.before ∙ known.edges.before;
        after = puts.edges.after ∙ known.edges.after;
        long = puts.edges.long ∙ known.edges.long;
      };
      puts = copied-puts c.args.self.now c.loop-i.self c.put.new.self c.args.bytes.now c.args.offset c.saturating_add.result c.loop-i.i _ c.byte.result known.edges known.puts puts.puts c.byte.ensures (omega (arith, c.saturating_add.ensures)) (omega arith);
    }
