-- The length of a section with its relocations applied.
use Rattle.std.proofs.Common.{◌≡◌, ℕ, List, length, Option, None, Some, Result, Ok, Err, refl}
use Rattle.elf_model.specs.Prelude.{AllInside, AppliedKeepsLength, StoredBytes, applied, before_entries, changes_of, first_refusal, held_bytes, patched, patches_of, section_at, target_of}
use Rattle.elf_model.specs.declared.causes.Refusal.{Refusal}
use Rattle.elf_model.proofs.ChangeLaws.{changes_inside}
use Rattle.elf_model.proofs.PatchLaws.{length_kept}

patched_length :
    (base text : List ℕ) (found : Result (List StoredBytes) Refusal) → ((patches : List StoredBytes) → found ≡ Ok patches → AllInside (length base) patches)
    → ◌≡◌ {A = Result (List ℕ) Refusal} (elim found [ Err refusal ↦ Err refusal | Ok patches ↦ Ok (patched patches base) ]) (Ok text)
    → length text ≡ length base
patched_length base text (Err refusal) inside e = absurd (cc)
patched_length base text (Ok patches) inside e =
    let same : patched patches base ≡ text = cc in rw (← same) (length_kept patches base (inside patches refl))

not_refused :
    (early : Option Refusal) (behind : Result (List ℕ) Refusal) (text : List ℕ)
    → ◌≡◌ {A = Result (List ℕ) Refusal} (elim early [ Some refusal ↦ Err refusal | None ↦ behind ]) (Ok text) → behind ≡ Ok text
not_refused (Some refusal) behind text e = absurd (cc)
not_refused None behind text e = e

pub applied_keeps_length : AppliedKeepsLength
unfolding applied
applied_keeps_length file headers section layout text e =
    let target = target_of file section layout in
    let base = held_bytes file (section_at file section) in
    patched_length base text (patches_of (changes_of target)) (λ patches is. changes_inside target patches is)
    (not_refused (first_refusal (before_entries file headers section)) _ text e)
