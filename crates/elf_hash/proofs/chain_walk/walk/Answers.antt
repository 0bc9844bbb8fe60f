-- The walk in a table of each style is that of its style.
use Rattle.std.proofs.Common.{◌/◌, arith}
use Rattle.elf_table.proofs.LedgerLaws.{CallReads-more, CallDid-as}
use Rattle.elf_hash.proofs.WalkLaws.{bytes_most}
use Rattle.elf_hash.proofs.chain_walk.walk.Goals as goal

pub gnu_walk-requires-clause-within : goal.gnu_walk-requires-clause-within
gnu_walk-requires-clause-within g c = rw c.in-Gnu.is at c.requires.within

pub gnu_walk-requires-clause-known : goal.gnu_walk-requires-clause-known
gnu_walk-requires-clause-known g c = rw c.in-Gnu.is at c.requires.known

pub gnu_walk-requires-clause-lies : goal.gnu_walk-requires-clause-lies
gnu_walk-requires-clause-lies g c = c.requires.lies

pub returns-in-Gnu : goal.returns-in-Gnu
returns-in-Gnu g c =
    rw c.in-Gnu.is (CallDid-as _ (omega arith) c.gnu_walk.ensures.did
    (λ file told costs scope says is of. rw (is.0, ← c.gnu_hash.ensures) (told scope.table says is.1 of)))

pub sysv_walk-requires-clause-within : goal.sysv_walk-requires-clause-within
sysv_walk-requires-clause-within g c = rw c.in-Sysv.is at c.requires.within

pub sysv_walk-requires-clause-known : goal.sysv_walk-requires-clause-known
sysv_walk-requires-clause-known g c = rw c.in-Sysv.is at c.requires.known

pub sysv_walk-requires-clause-lies : goal.sysv_walk-requires-clause-lies
sysv_walk-requires-clause-lies g c = c.requires.lies

pub returns-in-Sysv : goal.returns-in-Sysv
returns-in-Sysv g c =
    let t = c.in-Sysv.table in
    let fits = t.fits in
    let most = bytes_most 4 t.nchain t.nchain (t.place.size / 4) (t.place.size / 4) (g.T.Matcher.cost c.args.trial.now) (omega (arith, fits)) (omega (arith, fits)) in
    rw c.in-Sysv.is (CallDid-as _ (omega (arith, most)) c.sysv_walk.ensures.did
    (λ file told costs scope says is of.
    let walk = told scope.table says is.1 of in
    rw (is.0, ← c.sysv_hash.ensures) (record { costs = CallReads-more _ (omega arith) walk.costs; gives = walk.gives })))
