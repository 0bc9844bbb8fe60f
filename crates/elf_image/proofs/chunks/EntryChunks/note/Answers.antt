-- The entries that were noted, and this one.
use Rattle.std.proofs.Common.{ℕ, ◌+◌, ◌*◌, ◌/◌, inl, inr, arith}
use Rattle.std.proofs.lemmas.Bool.{cases_eq}
use Rattle.std.proofs.lemmas.List.{get_or-set_same}
use Rattle.elf_image.proofs.ChunkSteps.{set-above, set-below, wider}
use Rattle.elf_image.proofs.chunks.EntryChunks.note.Goals as goal

pub returns : goal.returns
returns c = λ file at held is i below.
    let old = c.args.self.now in
    let chunk : ℕ = c.args.index / 8192 in
    let lowest = c.min.result in
    let highest = c.max.result in
    elim (cases_eq i c.args.index) [
      | inl same ↦
          let found = c.addresses-lowest.ensures file (at + 24 * c.args.index) is in
          rw same
          (wider file (at + 24 * c.args.index) _ _ _ _ found
          (let e = get_or-set_same old.lowest chunk lowest 0 (omega arith) in omega (arith, e, c.min.ensures))
          (let e = get_or-set_same old.highest chunk highest 0 (omega arith) in omega (arith, e, c.max.ensures)))
      | inr other ↦
          wider file (at + 24 * i) _ _ _ _ (held i (omega (arith, below, other)))
          (set-below old.lowest chunk (i / 8192) lowest (omega arith) (omega (arith, c.min.ensures)))
          (set-above old.highest chunk (i / 8192) highest (omega arith) (omega (arith, c.max.ensures)))
    ]
