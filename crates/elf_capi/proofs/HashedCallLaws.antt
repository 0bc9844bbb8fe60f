-- The symbols of a hash table in a file in memory, with the section header fields of its header
-- masked or not.
use Rattle.std.proofs.Common.{◌≡◌, ℕ, Bool, true, false, List, Some, refl, ap, ◌∙◌}
use Rattle.elf_model.specs.Prelude.{looked_at}
use Rattle.elf_source.specs.Source.{CountedState, SourceState, file_by, honest}

shown : (hides : Bool) (file : List ℕ) → file_by hides (Some file) ≡ Some (looked_at hides file)
shown true file = refl
shown false file = refl

-- the file as viewed
pub shown_in : (hides : Bool) (file : List ℕ) (src : CountedState) → src.hides ≡ hides → src.source ≡ honest file → src.seen.file ≡ Some (looked_at hides file)
shown_in hides file src hidden source =
    let by : src.seen.file ≡ file_by src.hides src.source.file = ap (λ (s : SourceState). s.file) src.is_seen in
    (rw (hidden, source) at by) ∙ shown hides file
