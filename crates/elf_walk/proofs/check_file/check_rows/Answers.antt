-- The state is that of the fault that the listing returns.
use Rattle.std.proofs.Common.{rules, arith, ◌≡◌, false, refl, Err}
use Rattle.elf_options.specs.Permitted.{style_of}
use Rattle.elf_table.specs.declared.run_fault.RunFault.TheVariants.{Refused, Source, Out}
use Rattle.elf_walk.proofs.ListingToldLaws.{fault_fails}
use Rattle.elf_walk.proofs.FileStatusLaws.{asks_long, cost_long, cost_short, ended, finds, most_short, refused, refused_read, short_found}
use Rattle.elf_walk.proofs.check_file.check_rows.Goals as goal

pub returns-then-length-lt-HEADER_BYTES : goal.returns-then-length-lt-HEADER_BYTES
returns-then-length-lt-HEADER_BYTES g c =
    let did = c.read_short_file_status.ensures in
    let caps = c.args.caps in
    record {
      slots = refl;
      leaves = record { keeps = did.keeps; free = did.free };
      state = λ file held.
          let sized = c.args.src.now.seen.sized file held in
          short_found caps c.args.parts.0 file _ (omega (arith, sized, c.length.ensures.value, c.if-length-lt-HEADER_BYTES.true)) (did.state file held);
      cost = λ file held.
          let sized = c.args.src.now.seen.sized file held in
          let most = cost_short file caps.limits.headers (style_of caps.style) c.args.parts.0 (omega (arith, sized, c.length.ensures.value, c.if-length-lt-HEADER_BYTES.true)) in
          omega (arith, did.asks, most);
      read = did.read;
      asks = record {
        ceiling =
            let most = most_short c.args.src.now.seen.size caps.limits.headers (style_of caps.style) (omega (arith, c.length.ensures.value, c.if-length-lt-HEADER_BYTES.true)) in
            omega (arith, did.asks, most);
        budget = did.within;
      };
    }

pub returns-in-Ok : goal.returns-in-Ok
returns-in-Ok g c =
    let did = c.show-listed.ensures in
    let caps = c.args.caps in
    record {
      slots = did.slots;
      leaves = did.leaves;
      state = λ file held.
          let sized = c.args.src.now.seen.sized file held in
          ended file caps c.args.parts.0 _ _ _ (omega (arith, sized, c.length.ensures.value, c.if-length-lt-HEADER_BYTES.false)) (c.in-Ok.ensures.text file held);
      cost = λ file held.
          let sized = c.args.src.now.seen.sized file held in
          let most = cost_long file caps.limits.headers (style_of caps.style) c.args.parts.0 (omega (arith, sized, c.length.ensures.value, c.if-length-lt-HEADER_BYTES.false)) in
          omega (arith, did.cost file held, most);
      read = tt;
      asks = asks_long caps _ _ (omega (arith, c.length.ensures.value, c.if-length-lt-HEADER_BYTES.false)) did.asks.ceiling did.asks.budget;
    }

pub returns-in-Err-Refused : goal.returns-in-Err-Refused
returns-in-Err-Refused g c =
    let did = c.show-listed.ensures in
    let caps = c.args.caps in
    record {
      slots = did.slots;
      leaves = did.leaves;
      state = λ file held.
          let sized = c.args.src.now.seen.sized file held in
          let end : c.show-listed.result ≡ Err (Refused c.in-Err-Refused.refusal) = search rules in
          let reports = rw end at (did.text file held) in
          finds caps c.args.parts.0 file _
          (refused file caps c.args.parts.0 _ _ c.in-Err-Refused.refusal _ (omega (arith, sized, c.length.ensures.value, c.if-length-lt-HEADER_BYTES.false)) reports c.refused_state.ensures);
      cost = λ file held.
          let sized = c.args.src.now.seen.sized file held in
          let most = cost_long file caps.limits.headers (style_of caps.style) c.args.parts.0 (omega (arith, sized, c.length.ensures.value, c.if-length-lt-HEADER_BYTES.false)) in
          omega (arith, did.cost file held, most);
      read = refused_read c.args.src.now c.show-listed.new.src _ _ _ c.refused_state.ensures;
      asks = asks_long caps _ _ (omega (arith, c.length.ensures.value, c.if-length-lt-HEADER_BYTES.false)) did.asks.ceiling did.asks.budget;
    }

pub returns-in-Err-Source : goal.returns-in-Err-Source
returns-in-Err-Source g c =
    let did = c.show-listed.ensures in
    let caps = c.args.caps in
    let end : c.show-listed.result ≡ Err (Source c.in-Err-Source.field-0-0 c.in-Err-Source.field-0-1) = search rules in
    let says = rw end at did.says in
    record {
      slots = did.slots;
      leaves = did.leaves;
      state = λ file held. tt;
      cost = λ file held.
          let sized = c.args.src.now.seen.sized file held in
          let most = cost_long file caps.limits.headers (style_of caps.style) c.args.parts.0 (omega (arith, sized, c.length.ensures.value, c.if-length-lt-HEADER_BYTES.false)) in
          omega (arith, did.cost file held, most);
      read = fault_fails c.args.src.now c.show-listed.new.src c.in-Err-Source.field-0-0 says.0;
      asks = asks_long caps _ _ (omega (arith, c.length.ensures.value, c.if-length-lt-HEADER_BYTES.false)) did.asks.ceiling did.asks.budget;
    }

pub returns-in-Err-Out : goal.returns-in-Err-Out
returns-in-Err-Out g c =
    let end : c.show-listed.result ≡ Err (Out c.in-Err-Out.field-0-0) = search rules in
    let says = rw end at c.show-listed.ensures.says in
    let failed = says.failed in
    let well : c.show-listed.new.out.failed ≡ false = search rules in
    absurd cc
