-- How writing calls compose.
use Rattle.std.proofs.Common.{ℕ, List, [], ◌++◌, Result, Ok, Err}
use Rattle.elf_source.specs.Prelude.{OutGrows, OutPuts, OutState, SinkTakesPrefix}
use Rattle.elf_source.specs.declared.faults.OutFault.{OutFault}
use Rattle.elf_source.proofs.PutsLaws.{SinkTakes-nothing, SinkTakes-then}

-- nothing was written
pub grows_not : (a : OutState) → OutGrows a a
grows_not a = record { bytes = []; takes = SinkTakes-nothing a }

-- one call after another
pub grows_then : {a b c : OutState} → OutGrows a b → OutGrows b c → OutGrows a c
grows_then p q = record { bytes = p.bytes ++ q.bytes; takes = SinkTakes-then p.bytes q.bytes p.takes q.takes }

-- a prefix was taken
pub grows_front : {a b : OutState} {bytes : List ℕ} → SinkTakesPrefix a b bytes → OutGrows a b
grows_front p = record { bytes = p.front; takes = p.takes }

-- a put
pub grows_put : {X : Type 0} {a b : OutState} (bytes : List ℕ) (result : Result X OutFault) → OutPuts a b result bytes → OutGrows a b
grows_put bytes (Ok x) p = record { bytes = bytes; takes = p.0 }
grows_put bytes (Err fault) p = grows_front p.0
