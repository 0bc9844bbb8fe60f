-- What is held of a file.
use Rattle.std.proofs.Common.{◌≡◌, ℕ, ◌+◌, ◌-◌, ◌≤◌, List, Result, length, min, ap, sym, ◌∙◌, arith}
use Rattle.elf_model.specs.Bytes.{slice}
use Rattle.elf_model.proofs.Slices.{slice-slice}
use Rattle.elf_source.specs.Source.{CountedState, ReadsUpTo}
use Rattle.elf_table.specs.declared.fault.Fault.{Fault}
use Rattle.elf_note.specs.Ahead.{BufferedRange, ReadAheadState, IsOf, AgreesWith, ReadsAhead, reach}

-- a part of what is held is the file's
pub part-of_file : (file part : List ℕ) (h : BufferedRange) (at count : ℕ) → IsOf file h → h.at ≤ at → at + count ≤ reach h → part ≡ slice h.bytes (at - h.at) count
    → part ≡ slice file at count
part-of_file file part h at count agrees begins ends is =
    is ∙ ap (λ (x : List ℕ). slice x (at - h.at) count) agrees
    ∙ slice-slice file h.at (length h.bytes) (at - h.at) count (omega arith)
    ∙ ap (λ (x : ℕ). slice file x count) (omega arith)

-- the part at an offset, as far as it is held
pub piece-of_file : (file part : List ℕ) (h : BufferedRange) (at place most : ℕ) → IsOf file h → place ≡ at → h.at ≤ place → place ≤ reach h
    → length part ≡ min most (reach h - place) → part ≡ slice h.bytes (place - h.at) (min most (reach h - place)) → part ≡ slice file at (length part)
piece-of_file file part h at place most agrees same begins ends size is =
    part-of_file file part h place (length part) agrees begins (omega arith) (is ∙ ap (slice h.bytes (place - h.at)) (sym size))
    ∙ ap (λ (x : ℕ). slice file x (length part)) same

-- what is held stays that of a source that is read ahead of
pub still_ahead : {a b : CountedState} {n left : ℕ} {X : Type 0} {result : Result X Fault} (old new : ReadAheadState) → ReadsAhead a b old new result n left → AgreesWith a.seen.file old → AgreesWith b.seen.file new
still_ahead old new p held = λ file is. let before = sym p.costs.spends.reads.keeps.same_file ∙ is in p.agrees file before (held file before)

-- and of one that is read elsewhere
pub still_held : {a b : CountedState} {n : ℕ} (now : ReadAheadState) → ReadsUpTo a b n → AgreesWith a.seen.file now → AgreesWith b.seen.file now
still_held now p held = λ file is. held file (sym p.keeps.same_file ∙ is)
