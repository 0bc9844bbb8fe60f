-- A section that was written to a sink over the caller's memory is in the memory.
use Rattle.std.proofs.Common.{◌≡◌, ℕ, List, [], ◌∷◌, ◌++◌, take, length, Option, None, Some, Result, Ok, Err, Bool, IsTrue, IsSome, is_some, IfErr, refl, sym, ap, ◌∙◌, arith}
use Rattle.std.proofs.lemmas.List.{append-nil}
use Rattle.elf_model.specs.Prelude.{Layout, applied, apply_cost_by_order}
use Rattle.elf_model.specs.declared.causes.Refusal.{Refusal}
use Rattle.elf_source.specs.Prelude.{CountedState, OutState, honest, seen_by}
use Rattle.elf_table.specs.declared.run_fault.RunFault.TheVariants.{Out}
use Rattle.elf_table.specs.declared.run_fault.RunFault.{RunFault}
use Rattle.elf_table.specs.declared.run_fault.RunFault.TheVariants.{Refused, Source}
use Rattle.elf_reloc.specs.Prelude.{Applies, ApplySays, BudgetTooSmall, text_of}
use Rattle.elf_reloc.specs.declared.apply_section.Applied.{Applied}
use Rattle.elf_capi.specs.Prelude.{AppliesFor, spared, status_from}
use Rattle.elf_capi.proofs.BudgetLaws.{wanting}
use Rattle.elf_capi.proofs.ListingLaws.{more, never, took}

some_byte : (xs : List ℕ) (byte : ℕ) → [] ≡ xs ++ byte ∷ [] → ⊥
some_byte [] byte is = cc
some_byte (x ∷ xs) byte is = cc

some_bytes : (xs rest : List ℕ) (byte : ℕ) → [] ≡ xs ++ byte ∷ rest → ⊥
some_bytes [] rest byte is = cc
some_bytes (x ∷ xs) rest byte is = cc

-- an answer whose text has a byte is no refusal
pub whole : (answer : Result (List ℕ) Refusal) (out rest : List ℕ) (byte : ℕ) → text_of answer ≡ out ++ byte ∷ rest → answer ≡ Ok (out ++ byte ∷ rest)
whole (Ok text) out rest byte is = ap Ok is
whole (Err refusal) out rest byte is = absurd (some_bytes out rest byte is)

-- a sink that took a byte is changed
pub unchanged : (name other : ℕ) (xs : List ℕ) (byte : ℕ) (old new : OutState) → old.taken ≡ Some (name ∷ []) → Some (other ∷ (xs ++ byte ∷ [])) ≡ new.taken → new ≡ old → ⊥
unchanged name other xs byte old new before after same =
    let both : Some (other ∷ (xs ++ byte ∷ [])) ≡ Some (name ∷ []) = after ∙ ap (λ (w : OutState). w.taken) same ∙ before in
    let none : [] ≡ xs ++ byte ∷ [] = cc in
    some_byte xs byte none

module _ (file : List ℕ) (headers section : ℕ) (budget : Option ℕ) (layout : Layout) where
  -- WHAT IS IN THE MEMORY once a section is written to it
  pub is_at : (name other len entries n : ℕ) (out bytes : List ℕ) (spare : Option ℕ) (failed : Bool) (old new : OutState) (s1 t : CountedState) (result : Result Applied RunFault)
      → old.taken ≡ Some (name ∷ []) → Some (other ∷ (take len out ++ spared spare)) ≡ new.taken → failed ≡ new.failed → (IsSome spare → len ≡ length out)
      → (IsTrue failed → IsSome spare) → honest bytes ≡ t.source → s1.most ≡ budget → s1.asked ≡ 0 → length file ≡ s1.seen.size → IfErr result (ApplySays s1 t new n)
      → IfErr result (BudgetTooSmall s1 (apply_cost_by_order file headers section layout)) → Applies old new result entries (applied file headers section layout)
      → AppliesFor file headers budget section layout out len (status_from result (is_some spare))
  is_at name other len entries n out bytes None failed old new s1 t (Ok done) before after fails full over is set first sized says wants wrote =
      wrote.1 ∙ ap Ok (sym (took name other _ old.taken new.taken wrote.0 before after wrote.2.appends) ∙ append-nil (take len out))
  is_at name other len entries n out bytes None failed old new s1 t (Err (Refused refusal)) before after fails full over is set first sized says wants wrote = (
    wrote.0,
    λ budgeted.
        let over = wants budgeted in
        let inside = (says budgeted).0 in
        wanting budget s1 (apply_cost_by_order file headers section layout) (length file) over.most refusal set first over.is_set over.above (omega (arith, sized, inside)),
  )
  is_at name other len entries n out bytes None failed old new s1 t (Err (Source fault at)) before after fails full over is set first sized says wants wrote =
      absurd (never bytes t.hides s1.seen t.seen fault (t.is_seen ∙ ap (seen_by t.hides) (sym is)) says.0)
  is_at name other len entries n out bytes None failed old new s1 t (Err (Out fault)) before after fails full over is set first sized says wants wrote =
      let no = over (fails ∙ says.failed) in cc
  is_at name other len entries n out bytes (Some byte) failed old new s1 t (Ok done) before after fails full over is set first sized says wants wrote =
      let front = took name other _ old.taken new.taken wrote.0 before after wrote.2.appends in
      (full refl, byte, [], wrote.1 ∙ ap Ok (more out wrote.0 [] wrote.0 byte len (full refl) front (sym (append-nil wrote.0))))
  is_at name other len entries n out bytes (Some byte) failed old new s1 t (Err (Refused refusal)) before after fails full over is set first sized says wants wrote =
      absurd (unchanged name other (take len out) byte old new before after wrote.1)
  is_at name other len entries n out bytes (Some byte) failed old new s1 t (Err (Source fault at)) before after fails full over is set first sized says wants wrote =
      let front = took name other _ old.taken new.taken wrote.front before after wrote.takes.appends in
      (full refl, byte, wrote.rest, whole (applied file headers section layout) out wrote.rest byte (more out wrote.front wrote.rest _ byte len (full refl) front wrote.split))
  is_at name other len entries n out bytes (Some byte) failed old new s1 t (Err (Out fault)) before after fails full over is set first sized says wants wrote =
      let front = took name other _ old.taken new.taken wrote.front before after wrote.takes.appends in
      (full refl, byte, wrote.rest, whole (applied file headers section layout) out wrote.rest byte (more out wrote.front wrote.rest _ byte len (full refl) front wrote.split))
