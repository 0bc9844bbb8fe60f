-- The state of a file after the magic bytes that identify its type.
use Rattle.std.proofs.Common.{ℕ, true, List, Option, Some, Ok, refl, sym, ap, ◌∙◌, arith}
use Rattle.elf_model.specs.declared.states.FileMagic.{FileMagic}
use Rattle.elf_options.specs.Permitted.{style_of}
use Rattle.elf_walk.proofs.ListingToldLaws.{fault_fails, rest_within}
use Rattle.elf_walk.specs.Members.{cost_by}
use Rattle.elf_walk.proofs.FileMagicLaws.{begins_kept, front_eight, left_front, sorted_found, state_after}
use Rattle.elf_walk.proofs.sorted.check_sorted.Goals as goal

pub returns-in-Err : goal.returns-in-Err
returns-in-Err g c =
    let few = front_eight c.args.caps.limits.budget c.args.src.now.seen.size in
    let asks = c.in-Err.ensures.asks in
    record {
      slots = refl;
      leaves = record { keeps = c.in-Err.ensures.keeps; free = c.in-Err.ensures.free };
      state = λ file held. tt;
      cost = λ file held. omega (arith, asks, few);
      read = fault_fails c.args.src.now c.find_file_type.new.src c.in-Err.field-0 c.in-Err.ensures.fails;
      asks = record {
        ceiling = omega (arith, asks, few);
        budget = c.in-Err.ensures.within;
      };
    }

pub check_by_type-requires-clause-small : goal.check_by_type-requires-clause-small
check_by_type-requires-clause-small g c =
    let few = front_eight c.args.caps.limits.budget c.args.src.now.seen.size in
    (c.requires.small.0, omega (arith, c.requires.small.1, c.in-Ok.ensures.asks, few))

pub check_by_type-requires-clause-whole : goal.check_by_type-requires-clause-whole
check_by_type-requires-clause-whole g c =
    let keeps = c.in-Ok.ensures.keeps in
    record {
      whole = keeps.same_whole ∙ (c.requires.whole.whole ∙ (ap (λ (size : ℕ). Some (record { size = size; file = c.args.src.now.seen.file })) (sym keeps.same_size)
          ∙ ap (λ (file : Option (List ℕ)). Some (record { size = c.find_file_type.new.src.seen.size; file = file })) (sym keeps.same_file)));
      shows = c.in-Ok.ensures.shows ∙ c.requires.whole.shows;
    }

pub check_by_type-requires-clause-begins : goal.check_by_type-requires-clause-begins
check_by_type-requires-clause-begins g c = λ archive.
    begins_kept _ _ c.in-Ok.ensures.keeps (c.in-Ok.ensures.begins (ap (λ s. Ok s) archive))

pub returns : goal.returns
returns g c =
    let keeps = c.in-Ok.ensures.keeps in
    let did = c.check_by_type.ensures in
    let more = did.leaves.keeps in
    let few = front_eight c.args.caps.limits.budget c.args.src.now.seen.size in
    record {
      slots = did.slots;
      leaves = record {
        keeps = record {
          same_size = more.same_size ∙ keeps.same_size;
          no_fewer = omega (arith, more.no_fewer, keeps.no_fewer);
          same_file = more.same_file ∙ keeps.same_file;
          same_whole = more.same_whole ∙ keeps.same_whole;
        };
        free = did.leaves.free;
      };
      state = λ file held.
          let sized = c.args.src.now.seen.sized file held in
          sorted_found c.args.caps c.args.parts.0 file c.check_by_type.result (record {
            left = _;
            after = record { headers = refl; budget = rw (← sized) at (left_front true c.args.caps.limits.budget _ _ _ _ (omega (arith, c.requires.small.1)) c.in-Ok.ensures.asks c.in-Ok.ensures.pays) };
            finds = rw (c.in-Ok.ensures.finds file held) at (did.state file (keeps.same_file ∙ held));
          });
      cost = λ file held.
          let most = did.cost file (keeps.same_file ∙ held) in
          let same = ap (λ (s : FileMagic). cost_by s file c.args.caps.limits.headers (style_of c.args.caps.style) c.args.parts.0) (c.in-Ok.ensures.finds file held) in
          omega (arith, c.in-Ok.ensures.asks, few, most, same);
      read = state_after c.args.src.now c.find_file_type.new.src c.check_by_type.new.src c.check_by_type.result keeps.no_fewer did.read;
      asks = record {
        ceiling = let most = rw keeps.same_size at did.asks.ceiling in omega (arith, c.in-Ok.ensures.asks, few, most);
        budget = rest_within c.args.caps.limits.budget _ _ _ (omega (arith, c.requires.small.1, c.in-Ok.ensures.asks)) c.in-Ok.ensures.within (rw c.in-Ok.ensures.pays at did.asks.budget);
      };
    }
