-- The task decides which call's contract is used.
use Rattle.elf_requests.proofs.run_request.run.Goals as goal

pub returns-in-Show-clause-runs : goal.returns-in-Show-clause-runs
returns-in-Show-clause-runs g c = rw (c.in-Show.is) c.list.ensures.runs

pub returns-in-Find-clause-runs : goal.returns-in-Find-clause-runs
returns-in-Find-clause-runs g c = rw (c.in-Find.is) c.look_up.ensures.runs

pub returns-in-Resolve-clause-runs : goal.returns-in-Resolve-clause-runs
returns-in-Resolve-clause-runs g c = rw (c.in-Resolve.is) c.resolve.ensures.runs

pub returns-in-Apply-clause-runs : goal.returns-in-Apply-clause-runs
returns-in-Apply-clause-runs g c = rw (c.in-Apply.is, ← c.fixed-addresses.ensures) c.write_applied.ensures.runs

pub returns-in-Place-clause-runs : goal.returns-in-Place-clause-runs
returns-in-Place-clause-runs g c = rw (c.in-Place.is) c.write_applied-in-Place.ensures.runs

pub returns-in-Bytes-clause-runs : goal.returns-in-Bytes-clause-runs
returns-in-Bytes-clause-runs g c = rw (c.in-Bytes.is) c.write_raw.ensures.runs
