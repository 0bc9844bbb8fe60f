-- What was written is the answer, or the budget ends it.
use Rattle.elf_source.proofs.GrowthLaws.{grows_then}
use Rattle.elf_source.proofs.LimitLaws.{spent_within}
use Rattle.elf_model.specs.BytesQuery.{queried_range}
use Rattle.elf_model.specs.declared.formats.Format.TheVariants.{Columns}
use Rattle.elf_reloc.specs.Queried.{query_as}
use Rattle.elf_requests.proofs.BytesLaws.{bytes_stops, bytes_wrote}
use Rattle.elf_requests.proofs.TaskLaws.{answered_stop, answered_whole, runs, section_says}
use Rattle.elf_requests.proofs.bytes_request.write_raw.Goals as goal

pub returns-in-Ok-clause-runs : goal.returns-in-Ok-clause-runs
returns-in-Ok-clause-runs g c =
    let set = c.limit.ensures in
    let reads = c.in-Ok.ensures.writes.reads in
    let most = rw (c.requires.0, set.seen) at reads.at_most in
    runs c.args.limits.budget c.args.src.now c.limit.new.self c.write_bytes.new.src _ _ set c.in-Ok.ensures.writes.grows reads.keeps c.in-Ok.ensures.free most (spent_within c.args.limits.budget c.args.src.now c.limit.new.self c.write_bytes.new.src set reads.within) tt (λ file now.
    let cost = rw (c.requires.0) at (c.in-Ok.ensures.writes.cost file now) in
    let wrote = rw (c.requires.0) at (c.in-Ok.ensures.writes.text file now) in
    (cost, answered_whole Columns _ _ _ _ _ (rw c.status_of.ensures (bytes_wrote _ _ c.in-Ok.written file (queried_range file c.args.limits.headers (query_as c.args.query.now)) wrote)) tt))

pub returns-in-Err-clause-runs : goal.returns-in-Err-clause-runs
returns-in-Err-clause-runs g c =
    let set = c.limit.ensures in
    let reads = c.in-Err.ensures.writes.reads in
    let most = rw (c.requires.0, set.seen) at reads.at_most in
    let tells = c.show_stop.ensures.tells in
    runs c.args.limits.budget c.args.src.now c.limit.new.self c.write_bytes.new.src _ _ set (grows_then c.in-Err.ensures.writes.grows c.show_stop.ensures.grows) reads.keeps c.in-Err.ensures.free most
    (spent_within c.args.limits.budget c.args.src.now c.limit.new.self c.write_bytes.new.src set reads.within) (section_says c.args.src.now c.limit.new.self c.write_bytes.new.src c.write_bytes.new.out c.show_stop.new.out _ c.args.limits.budget c.in-Err.stop c.show_stop.result set c.in-Err.ensures.writes.says tells) (λ file now.
    let cost = rw (c.requires.0) at (c.in-Err.ensures.writes.cost file now) in
    let wrote = rw (c.requires.0) at (c.in-Err.ensures.writes.text file now) in
    let wants = rw (c.requires.0) at (c.in-Err.ensures.writes.enough file now) in
    let stops = bytes_stops c.limit.new.self c.write_bytes.new.src c.args.out.now c.write_bytes.new.out c.write_bytes.new.out file c.args.limits.headers (query_as c.args.query.now) _ _ c.in-Err.stop c.in-Err.ensures.writes.says wants wrote in
    (cost, answered_stop Columns c.write_bytes.new.out c.args.limits.budget _ _ _ c.in-Err.stop c.show_stop.result c.args.src.now c.limit.new.self c.requires.1 set (c.limit.new.self.seen.sized file now) stops tells (λ answer other. tt)))
