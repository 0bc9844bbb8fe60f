-- The state is that of the listing, which begins with the magic number.
use Rattle.std.proofs.Common.{arith, refl}
use Rattle.elf_model.specs.declared.states.FileMagic.TheVariants as sort
use Rattle.elf_options.specs.Permitted.{style_of}
use Rattle.elf_walk.proofs.FileMagicLaws.{some_within}
use Rattle.elf_walk.proofs.FileStatusLaws.{elf_cost_long, long_elf, short_elf}
use Rattle.elf_walk.proofs.StateLaws.{short_read}
use Rattle.elf_walk.proofs.check_file.check_elf.Goals as goal

pub returns-then-size-lt-HEADER_BYTES : goal.returns-then-size-lt-HEADER_BYTES
returns-then-size-lt-HEADER_BYTES g c = record {
  slots = refl;
  leaves = record {
    keeps = rw c.limit.ensures.seen (record { same_size = refl; no_fewer = omega arith; same_file = refl; same_whole = refl });
    free = c.limit.ensures.most;
  };
  state = λ file held.
      let sized = c.args.src.now.seen.sized file held in
      short_elf c.args.caps c.args.parts.0 file c.length-size.result c.short_file_status.result (omega (arith, sized, c.length-size.ensures.value)) (omega (arith, c.if-size-lt-HEADER_BYTES.true)) c.short_file_status.ensures;
  cost = λ file held. omega (arith, c.limit.ensures.asked);
  read = short_read c.args.src.now c.limit.new.self c.length-size.result sort.Elf c.short_file_status.result c.short_file_status.ensures;
  asks = record { ceiling = omega (arith, c.limit.ensures.asked); budget = some_within c.args.caps.limits.budget _ _ c.limit.ensures.asked };
}

pub returns : goal.returns
returns g c =
    let did = c.check.ensures in
    let caps = c.args.caps in
    record {
      slots = did.slots;
      leaves = did.leaves;
      state = λ file held.
          let sized = c.args.src.now.seen.sized file held in
          long_elf caps c.args.parts.0 file c.check.result (omega (arith, sized, c.length-size.ensures.value, c.if-size-lt-HEADER_BYTES.false)) (did.state file held);
      cost = λ file held.
          let sized = c.args.src.now.seen.sized file held in
          let same = elf_cost_long file caps.limits.headers (style_of caps.style) c.args.parts.0 (omega (arith, sized, c.length-size.ensures.value, c.if-size-lt-HEADER_BYTES.false)) in
          omega (arith, did.cost file held, same);
      read = did.read;
      asks = did.asks;
    }
