-- The state of a short file is that of what it is.
use Rattle.std.proofs.Common.{false, arith}
use Rattle.elf_walk.proofs.FileMagicLaws.{front_four}
use Rattle.elf_walk.proofs.ListingToldLaws.{fault_fails}
use Rattle.elf_walk.proofs.StateLaws.{short_is, short_read}
use Rattle.elf_walk.proofs.short.read_short_file_status.Goals as goal

pub returns-in-Ok-clause-state : goal.returns-in-Ok-clause-state
returns-in-Ok-clause-state g c = λ file held.
    let sized = c.args.src.now.seen.sized file held in
    short_is c.args.budget file c.length-size.result c.in-Ok.magic c.short_file_status.result (omega (arith, sized, c.length-size.ensures.value)) (omega (arith, c.length-size.ensures.value, c.requires.short))
    (c.in-Ok.ensures.finds file held) c.short_file_status.ensures

pub returns-in-Ok-clause-read : goal.returns-in-Ok-clause-read
returns-in-Ok-clause-read g c = short_read c.args.src.now c.find_file_type.new.src c.length-size.result c.in-Ok.magic c.short_file_status.result c.short_file_status.ensures

pub returns-in-Ok-clause-asks : goal.returns-in-Ok-clause-asks
returns-in-Ok-clause-asks g c = let few = front_four c.args.budget c.args.src.now.seen.size in omega (arith, few, c.in-Ok.ensures.asks)

pub returns-in-Ok-clause-within : goal.returns-in-Ok-clause-within
returns-in-Ok-clause-within g c = c.in-Ok.ensures.within

pub returns-in-Err-clause-read : goal.returns-in-Err-clause-read
returns-in-Err-clause-read g c = fault_fails c.args.src.now c.find_file_type.new.src c.in-Err.field-0 c.in-Err.ensures.fails

pub returns-in-Err-clause-asks : goal.returns-in-Err-clause-asks
returns-in-Err-clause-asks g c = let few = front_four c.args.budget c.args.src.now.seen.size in omega (arith, few, c.in-Err.ensures.asks)

pub returns-in-Err-clause-within : goal.returns-in-Err-clause-within
returns-in-Err-clause-within g c = c.in-Err.ensures.within
