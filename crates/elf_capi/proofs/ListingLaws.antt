-- What a sink over the caller's memory took is what is at the start of the memory, and after it.
use Rattle.elf_options.specs.Prelude.{style_of}
use Rattle.elf_options.specs.declared.caps.Caps.{Caps}
use Rattle.std.proofs.Common.{◌≡◌, ℕ, List, [], ◌∷◌, ◌++◌, take, length, Option, None, Some, Result, Ok, Err, Bool, true, false, IsTrue, IsSome, is_some, IfErr, refl, sym, ap, ◌∙◌, subst, arith}
use Rattle.std.proofs.lemmas.List.{take_all, append_assoc, append-nil}
use Rattle.std.specs.Io.KnownBytes.{Appends}
use Rattle.elf_model.specs.Prelude.{IsBudgeted, without_sections}
use Rattle.elf_model.specs.declared.causes.Refusal.{Refusal}
use Rattle.elf_source.specs.Prelude.{CountedState, IsSourceFault, OutState, SourceState, file_by, honest, seen_by}
use Rattle.elf_source.specs.declared.faults.SourceFault.TheVariants.{Device, Ended}
use Rattle.elf_source.specs.declared.faults.SourceFault.{SourceFault}
use Rattle.elf_table.specs.declared.run_fault.RunFault.TheVariants.{Out}
use Rattle.elf_table.specs.declared.run_fault.RunFault.{RunFault}
use Rattle.elf_table.specs.declared.run_fault.RunFault.TheVariants.{Refused, Source}
use Rattle.elf_listing.specs.Reports.{WroteReport, FaultSays}
use Rattle.elf_capi.specs.Prelude.{ListsInMemory, spared, status_from}

-- a name and the bytes after it, to which some bytes are appended
behind : (name other : ℕ) (now bytes : List ℕ) → Appends (Some (name ∷ [])) (Some (other ∷ now)) bytes → now ≡ bytes
behind name other now bytes p = cc

-- a source of these bytes never fails, whichever of them are masked
pub never : (file : List ℕ) (hides : Bool) (old new : SourceState) (fault : SourceFault) → new ≡ seen_by hides (honest file) → IsSourceFault old new fault → ⊥
never file hides old new Device is says =
    let none : new.failures ≡ 0 = ap (λ (s : SourceState). s.failures) is in
    omega (arith, none, says)
never file hides old new Ended is says =
    let given = shown hides in
    says (record { file = given.0; gives = ap (λ (s : SourceState). s.file) is ∙ given.1; not_worn = omega (arith, ap (λ (s : SourceState). s.failures) is) })
  where
    shown : (hides : Bool) → (bytes : List ℕ) × (file_by hides (Some file) ≡ Some bytes)
    shown true = (without_sections file, refl)
    shown false = (file, refl)

-- a new sink took nothing but its name
pub nothing_took : (name len : ℕ) (out : List ℕ) (spare : Option ℕ) (taken : Option (List ℕ)) → taken ≡ Some (name ∷ (take len out ++ spared spare)) → len ≡ 0 → spare ≡ None → taken ≡ Some (name ∷ [])
nothing_took name len out spare taken is none alone = is ∙ ap (λ n. Some (name ∷ (take n out ++ spared spare))) none ∙ ap (λ s. Some (name ∷ ([] ++ spared s))) alone

-- what a sink took after its name
pub took : (name other : ℕ) (now : List ℕ) (old new : Option (List ℕ)) (bytes : List ℕ) → old ≡ Some (name ∷ []) → Some (other ∷ now) ≡ new → Appends old new bytes → now ≡ bytes
took name other now old new bytes before after p =
    let q : Appends (Some (name ∷ [])) new bytes = subst (λ (o : Option (List ℕ)). Appends o new bytes) before p in
    behind name other now bytes (subst (λ (n : Option (List ℕ)). Appends (Some (name ∷ [])) n bytes) (sym after) q)

-- if a byte follows the memory, more of the text does
pub more : (out front rest text : List ℕ) (byte len : ℕ) → len ≡ length out → take len out ++ byte ∷ [] ≡ front → text ≡ front ++ rest → text ≡ out ++ byte ∷ rest
more out front rest text byte len at_end is split =
    let whole : take len out ≡ out = take_all len out (omega (arith, at_end)) in
    split ∙ ap (λ f. f ++ rest) (sym is) ∙ ap (λ o. (o ++ byte ∷ []) ++ rest) whole ∙ append_assoc out (byte ∷ []) rest

module _ (IsText : List ℕ → Option Refusal → Type 0) where
  -- a text with its fault, as in the memory
  pub told : (text front : List ℕ) (fault other : Option Refusal) → front ≡ text → other ≡ fault → IsText text fault → IsText front other
  told text front fault other is same listed = subst (λ f. IsText front f) (sym same) (subst (λ t. IsText t fault) (sym is) listed)

  -- a prefix of the text, one byte longer than the memory
  pub full_of : (out front rest text : List ℕ) (fault : Option Refusal) (byte len : ℕ) → len ≡ length out → take len out ++ byte ∷ [] ≡ front → text ≡ front ++ rest → IsText text fault
      → (len ≡ length out) × (b : ℕ) × (r : List ℕ) × (f : Option Refusal) × IsText (out ++ b ∷ r) f
  full_of out front rest text fault byte len at_end is split listed =
      (at_end, byte, rest, fault, subst (λ t. IsText t fault) (more out front rest text byte len at_end is split) listed)

module _ (file : List ℕ) (caps : Caps) (parts : ℕ) where
  abbrev Is : List ℕ → Option Refusal → Type 0
  Is text fault = IsBudgeted caps.limits.budget file caps.limits.headers (style_of caps.style) parts text fault

  -- WHAT IS IN THE MEMORY once a listing is written to it
  pub lists : {X : Type 0} (name other len : ℕ) (out bytes : List ℕ) (spare : Option ℕ) (failed : Bool) (old new : OutState) (s t : CountedState) (result : Result X RunFault)
      → old.taken ≡ Some (name ∷ []) → Some (other ∷ (take len out ++ spared spare)) ≡ new.taken → failed ≡ new.failed → (IsSome spare → len ≡ length out)
      → (IsTrue failed → IsSome spare) → honest bytes ≡ t.source → IfErr result (FaultSays s t new) → WroteReport file caps parts old new result
      → ListsInMemory file caps parts out len (status_from result (is_some spare))
  lists name other len out bytes None failed old new s t (Ok x) before after fails full over is says reports =
      told Is reports.text (take len out) reports.fault None (sym (append-nil (take len out)) ∙ took name other _ old.taken new.taken reports.text before after reports.wrote.0.appends) reports.wrote.1 reports.listed
  lists name other len out bytes None failed old new s t (Err (Refused refusal)) before after fails full over is says reports =
      told Is reports.text (take len out) reports.fault (Some refusal) (sym (append-nil (take len out)) ∙ took name other _ old.taken new.taken reports.text before after reports.wrote.0.appends) reports.wrote.1 reports.listed
  lists name other len out bytes None failed old new s t (Err (Source fault at)) before after fails full over is says reports =
      absurd (never bytes t.hides s.seen t.seen fault (t.is_seen ∙ ap (seen_by t.hides) (sym is)) says.0)
  lists name other len out bytes None failed old new s t (Err (Out fault)) before after fails full over is says reports =
      let no = over (fails ∙ says.failed) in cc
  lists name other len out bytes (Some byte) failed old new s t (Ok x) before after fails full over is says reports =
      full_of Is out reports.text [] reports.text reports.fault byte len (full refl) (took name other _ old.taken new.taken reports.text before after reports.wrote.0.appends) (sym (append-nil reports.text)) reports.listed
  lists name other len out bytes (Some byte) failed old new s t (Err (Refused refusal)) before after fails full over is says reports =
      full_of Is out reports.text [] reports.text reports.fault byte len (full refl) (took name other _ old.taken new.taken reports.text before after reports.wrote.0.appends) (sym (append-nil reports.text)) reports.listed
  lists name other len out bytes (Some byte) failed old new s t (Err (Source fault at)) before after fails full over is says reports =
      full_of Is out reports.wrote.front reports.wrote.rest reports.text reports.fault byte len (full refl) (took name other _ old.taken new.taken reports.wrote.front before after reports.wrote.takes.appends) reports.wrote.split reports.listed
  lists name other len out bytes (Some byte) failed old new s t (Err (Out fault)) before after fails full over is says reports =
      full_of Is out reports.wrote.front reports.wrote.rest reports.text reports.fault byte len (full refl) (took name other _ old.taken new.taken reports.wrote.front before after reports.wrote.takes.appends) reports.wrote.split reports.listed
