-- A loaded file and its source after reads.
use Rattle.std.proofs.Common.{ℕ, ◌∙◌, sym}
use Rattle.elf_source.specs.Source.{CountedState, ReadsUpTo}
use Rattle.elf_table.specs.Prelude.{IsOpen, LoadedFile, StoreState}

-- a loaded file stays that of a source that is read
pub still_open : {a b : CountedState} {n : ℕ} (loaded : LoadedFile) (store : StoreState) → ReadsUpTo a b n → IsOpen a loaded store → IsOpen b loaded store
still_open loaded store p opened = record {
  size = opened.size ∙ sym p.keeps.same_size;
  belongs = λ file held. opened.belongs file (sym p.keeps.same_file ∙ held);
}
