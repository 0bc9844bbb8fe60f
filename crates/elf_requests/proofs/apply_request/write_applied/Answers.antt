-- What was applied is the answer, or the budget ends it.
use Rattle.elf_source.proofs.GrowthLaws.{grows_then}
use Rattle.elf_source.proofs.LimitLaws.{spent_within}
use Rattle.elf_model.specs.Prelude.{applied}
use Rattle.elf_model.specs.declared.formats.Format.TheVariants.{Columns}
use Rattle.elf_requests.proofs.TaskLaws.{answered_stop, answered_whole, runs, section_says, section_stops, section_wrote}
use Rattle.elf_requests.proofs.apply_request.write_applied.Goals as goal

pub returns-in-Ok-clause-runs : goal.returns-in-Ok-clause-runs
returns-in-Ok-clause-runs g c =
    let set = c.limit.ensures in
    let reads = c.in-Ok.ensures.applies.reads in
    let most = rw (c.requires.0, set.seen) at reads.at_most in
    runs c.args.limits.budget c.args.src.now c.limit.new.self c.apply_with.new.src _ _ set c.in-Ok.ensures.applies.grows reads.keeps c.in-Ok.ensures.free most (spent_within c.args.limits.budget c.args.src.now c.limit.new.self c.apply_with.new.src set reads.within) tt (λ file now.
    let cost = rw (c.requires.0) at (c.in-Ok.ensures.applies.cost file now) in
    let wrote = rw (c.requires.0) at (c.in-Ok.ensures.applies.text file now) in
    (cost, answered_whole Columns _ _ _ _ _ (section_wrote (applied file c.args.limits.headers c.args.section c.args.layout.now) wrote) tt))

pub returns-in-Err-clause-runs : goal.returns-in-Err-clause-runs
returns-in-Err-clause-runs g c =
    let set = c.limit.ensures in
    let reads = c.in-Err.ensures.applies.reads in
    let most = rw (c.requires.0, set.seen) at reads.at_most in
    let tells = c.show_stop.ensures.tells in
    runs c.args.limits.budget c.args.src.now c.limit.new.self c.apply_with.new.src _ _ set (grows_then c.in-Err.ensures.applies.grows c.show_stop.ensures.grows) reads.keeps c.in-Err.ensures.free most
    (spent_within c.args.limits.budget c.args.src.now c.limit.new.self c.apply_with.new.src set reads.within) (section_says c.args.src.now c.limit.new.self c.apply_with.new.src c.apply_with.new.out c.show_stop.new.out _ c.args.limits.budget c.in-Err.stop c.show_stop.result set c.in-Err.ensures.applies.says tells) (λ file now.
    let cost = rw (c.requires.0) at (c.in-Err.ensures.applies.cost file now) in
    let wrote = rw (c.requires.0) at (c.in-Err.ensures.applies.text file now) in
    let wants = rw (c.requires.0) at (c.in-Err.ensures.applies.enough file now) in
    let stops = section_stops _ c.limit.new.self c.apply_with.new.src c.args.out.now c.apply_with.new.out c.apply_with.new.out file c.args.limits.headers c.args.section c.args.layout.now _ _ c.in-Err.stop c.in-Err.ensures.applies.says wants wrote in
    (cost, answered_stop Columns c.apply_with.new.out c.args.limits.budget _ _ _ c.in-Err.stop c.show_stop.result c.args.src.now c.limit.new.self c.requires.1 set (c.limit.new.self.seen.sized file now) stops tells (λ answer other. tt)))
