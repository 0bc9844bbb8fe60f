-- What every writing call does to the output, for any source.
use Rattle.std.specs.Prelude.{ℕ, List}
use Rattle.elf_source.specs.Output.{OutState, SinkTakes}

-- the sink took some bytes, and the count rose by their number
pub record OutGrows (old new : OutState) : Type 0 where
  pub bytes : List ℕ
  pub takes : SinkTakes old new bytes
