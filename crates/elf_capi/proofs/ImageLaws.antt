-- The image of a segment that was written to a sink over the caller's memory is in the memory.
use Rattle.std.proofs.Common.{◌≡◌, ◌∙◌, ℕ, ◌+◌, ◌-◌, ◌^◌, ◌≤◌, Bool, List, [], ◌∷◌, ◌++◌, take, length, length-take, Option, None, Some, Result, Ok, Err, IsTrue, IsSome, is_some, IfErr, IfSome, ◌⊎◌, inl, inr, refl, sym, ap, subst, arith}
use Rattle.std.proofs.lemmas.List.{append-nil}
use Rattle.std.specs.Io.KnownBytes.{Appends}
use Rattle.elf_model.specs.Image.{image}
use Rattle.elf_model.specs.Prelude.{IsBudgetRefusal}
use Rattle.elf_model.specs.ImageItems.{ItemValues}
use Rattle.elf_model.specs.declared.causes.Refusal.{Refusal}
use Rattle.elf_source.specs.Prelude.{CountedState, OutState, honest, seen_by}
use Rattle.elf_table.specs.declared.run_fault.RunFault.{RunFault}
use Rattle.elf_table.specs.declared.run_fault.RunFault.TheVariants.{Out, Refused as IsRefused, Source}
use Rattle.elf_model.specs.Style.{without_sections}
use Rattle.elf_image.specs.ImageWrites.{IsTooLarge, RefusesOverLimit, WritesImage, request_items, windows_met}
use Rattle.elf_image.specs.Items.{said_by}
use Rattle.elf_image.specs.declared.segment_image.ImageRequest.{ImageRequest}
use Rattle.elf_image.specs.Written.{StopsImage}
use Rattle.elf_capi.specs.Images.{ImagesFor, ImagesInMemory, MayUseItems, image_reads, said_items, windows_stored}
use Rattle.elf_capi.specs.Lent.{spared}
use Rattle.elf_capi.specs.LentLayouts.{CountsWritten}
use Rattle.elf_capi.specs.Limits.{budget_of, headers_of}
use Rattle.elf_capi.specs.Told.{status_from}
use Rattle.elf_capi.specs.Wants.{IsWanting}
use Rattle.elf_capi.specs.declared.call_status.CallStatus.{CallStatus}
use Rattle.elf_capi.specs.declared.call_status.CallStatus.TheVariants.{BadCall, Done, Full, Refused}
use Rattle.elf_capi.specs.declared.end.CallEnd.{CallEnd}
use Rattle.elf_capi.specs.declared.image_items.CallerImageItems.{CallerImageItems}
use Rattle.elf_capi.specs.declared.limits.CallerLimits.{CallerLimits}
use Rattle.elf_capi.proofs.ApplyingLaws.{unchanged, whole}
use Rattle.elf_capi.proofs.BudgetLaws.{wanting}
use Rattle.elf_capi.proofs.ListingLaws.{more, never, took}

-- a sink that is unchanged took no byte
untaken : (name other len : ℕ) (out : List ℕ) (old new : OutState) → len ≤ length out → old.taken ≡ Some (name ∷ []) → Some (other ∷ (take len out ++ [])) ≡ new.taken → new ≡ old → len ≡ 0
untaken name other len out old new fits before after same =
    let both : Some (other ∷ (take len out ++ [])) ≡ Some (name ∷ []) = after ∙ ap (λ (w : OutState). w.taken) same ∙ before in
    let none : take len out ++ [] ≡ [] = cc in
    let size : length (take len out) ≡ 0 = ap length (sym (append-nil (take len out)) ∙ none) in
    let long = length-take len out in
    omega (arith, fits, size, long)

-- what a sink took begins with the name of its memory
named : (name other : ℕ) (now bytes : List ℕ) → Appends (Some (name ∷ [])) (Some (other ∷ now)) bytes → other ≡ name
named name other now bytes p = cc

still_named : (name other : ℕ) (now : List ℕ) (old new : Option (List ℕ)) (bytes : List ℕ) → old ≡ Some (name ∷ []) → Some (other ∷ now) ≡ new → Appends old new bytes → other ≡ name
still_named name other now old new bytes before after p =
    let q : Appends (Some (name ∷ [])) new bytes = subst (λ (o : Option (List ℕ)). Appends o new bytes) before p in
    named name other now bytes (subst (λ (n : Option (List ℕ)). Appends (Some (name ∷ [])) n bytes) (sym after) q)

pub same_memory : {X : Type 0} (name other : ℕ) (now : List ℕ) (old new : OutState) (result : Result X RunFault) (answer : Result (List ℕ) Refusal)
    → old.taken ≡ Some (name ∷ []) → Some (other ∷ now) ≡ new.taken → WritesImage old new result answer → other ≡ name
same_memory name other now old new (Ok done) answer before after wrote = still_named name other now old.taken new.taken wrote.0 before after wrote.2.appends
same_memory name other now old new (Err (IsRefused refusal)) answer before after wrote =
    let both : Some (other ∷ now) ≡ Some (name ∷ []) = after ∙ ap (λ (w : OutState). w.taken) wrote.1 ∙ before in
    cc
same_memory name other now old new (Err (Source fault at)) answer before after wrote = still_named name other now old.taken new.taken wrote.front before after wrote.takes.appends
same_memory name other now old new (Err (Out fault)) answer before after wrote = still_named name other now old.taken new.taken wrote.front before after wrote.takes.appends

-- a refusal over a limit is for lack of a budget
by_limit : (budget : Option ℕ) (s : CountedState) (cost size : ℕ) (is_large : Type 0) (answer : Result (List ℕ) Refusal) (refusal : Refusal) → s.most ≡ budget → s.asked ≡ 0 → size ≡ s.seen.size
    → RefusesOverLimit s cost is_large answer (IsRefused refusal) → IsBudgetRefusal refusal → (is_large × (answer ≡ Err refusal)) ⊎ IsWanting budget cost (size + 1) refusal
by_limit budget s cost size is_large answer refusal limit first sized limits budgeted = elim (limits budgeted) [
  | inl own ↦ inl own
  | inr over ↦ inr (wanting budget s cost (size + 1) over.1.most refusal limit first over.1.is_set over.1.above (omega (arith, over.0, sized)))
]

module _ (file : List ℕ) (headers : ℕ) (budget : Option ℕ) (segment most window : ℕ) (items : ItemValues) where
  -- WHAT IS IN THE MEMORY once an image is written to it
  pub images_by : {X : Type 0} (name other len : ℕ) (out bytes : List ℕ) (spare : Option ℕ) (failed : Bool) (old new : OutState) (s t : CountedState) (result : Result X RunFault)
      → len ≤ length out → old.taken ≡ Some (name ∷ []) → Some (other ∷ (take len out ++ spared spare)) ≡ new.taken → failed ≡ new.failed → (IsSome spare → len ≡ length out)
      → (IsTrue failed → IsSome spare) → honest bytes ≡ t.source → IfErr result (StopsImage s t new) → WritesImage old new result (image file headers segment most items)
      → s.most ≡ budget → s.asked ≡ 0 → length file ≡ s.seen.size → IfErr result (RefusesOverLimit s (image_reads file segment window items) (IsTooLarge (without_sections file) segment most) (image file headers segment most items))
      → ImagesFor file headers budget segment most window items out len (status_from result (is_some spare))
  images_by name other len out bytes None failed old new s t (Ok done) fits before after fails full over is says wrote limit first sized limits =
      wrote.1 ∙ ap Ok (sym (took name other _ old.taken new.taken wrote.0 before after wrote.2.appends) ∙ append-nil (take len out))
  images_by name other len out bytes None failed old new s t (Err (IsRefused refusal)) fits before after fails full over is says wrote limit first sized limits =
      (wrote.0, by_limit budget s (image_reads file segment window items) (length file) (IsTooLarge (without_sections file) segment most) (image file headers segment most items) refusal limit first sized limits, untaken name other len out old new fits before after wrote.1)
  images_by name other len out bytes None failed old new s t (Err (Source fault at)) fits before after fails full over is says wrote limit first sized limits =
      absurd (never bytes t.hides s.seen t.seen fault (t.is_seen ∙ ap (seen_by t.hides) (sym is)) says.0)
  images_by name other len out bytes None failed old new s t (Err (Out fault)) fits before after fails full over is says wrote limit first sized limits =
      let no = over (fails ∙ says.failed) in cc
  images_by name other len out bytes (Some byte) failed old new s t (Ok done) fits before after fails full over is says wrote limit first sized limits =
      let front = took name other _ old.taken new.taken wrote.0 before after wrote.2.appends in
      (full refl, byte, [], wrote.1 ∙ ap Ok (more out wrote.0 [] wrote.0 byte len (full refl) front (sym (append-nil wrote.0))))
  images_by name other len out bytes (Some byte) failed old new s t (Err (IsRefused refusal)) fits before after fails full over is says wrote limit first sized limits =
      absurd (unchanged name other (take len out) byte old new before after wrote.1)
  images_by name other len out bytes (Some byte) failed old new s t (Err (Source fault at)) fits before after fails full over is says wrote limit first sized limits =
      let front = took name other _ old.taken new.taken wrote.front before after wrote.takes.appends in
      (full refl, byte, wrote.rest, whole (image file headers segment most items) out wrote.rest byte (more out wrote.front wrote.rest _ byte len (full refl) front wrote.split))
  images_by name other len out bytes (Some byte) failed old new s t (Err (Out fault)) fits before after fails full over is says wrote limit first sized limits =
      let front = took name other _ old.taken new.taken wrote.front before after wrote.takes.appends in
      (full refl, byte, wrote.rest, whole (image file headers segment most items) out wrote.rest byte (more out wrote.front wrote.rest _ byte len (full refl) front wrote.split))

-- how many windows are met, by the items of a request
pub met_is : (file : List ℕ) (window : ℕ) (request : ImageRequest) → windows_met file (without_sections file) window request ≡ windows_stored file request.segment window (request_items request)
unfolding windows_met said_by
met_is file window request = refl

-- no byte of an image that is refused counts as written
pub images_count : (file : List ℕ) (headers : ℕ) (budget : Option ℕ) (segment most window : ℕ) (items : ItemValues) (out : List ℕ) (end : CallEnd) (told : CallStatus)
    → ImagesFor file headers budget segment most window items out end.written told → CountsWritten end told
images_count file headers budget segment most window items out end Done gives = tt
images_count file headers budget segment most window items out end (Refused refusal) gives = gives.2
images_count file headers budget segment most window items out end Full gives = tt
images_count file headers budget segment most window items out end BadCall gives = absurd gives

-- THE EFFECT OF A CALL, for each result
images_of : (file : List ℕ) (limits : CallerLimits) (segment : ℕ) (items : CallerImageItems) (room window : ℕ) (before out : List ℕ) (end : CallEnd) (told : CallStatus)
    → MayUseItems limits items room → 16 ≤ window → ImagesFor file (headers_of limits room) (budget_of limits) segment (2 ^ 64 - 1) window (said_items items) out end.written told
    → end.asked ≤ image_reads file segment window (said_items items) → IfSome (budget_of limits) (λ bytes. end.asked ≤ bytes)
    → ImagesInMemory file limits segment items room window before out end told
images_of file limits segment items room window before out end Done may wide gives cost within = record { permitted = may; wide = wide; image = gives; cost = cost; budget = within }
images_of file limits segment items room window before out end (Refused refusal) may wide gives cost within = record { permitted = may; wide = wide; image = gives; cost = cost; budget = within }
images_of file limits segment items room window before out end Full may wide gives cost within = record { permitted = may; wide = wide; image = gives; cost = cost; budget = within }
images_of file limits segment items room window before out end BadCall may wide gives cost within = absurd gives

-- from what it was made with
pub images : (file : List ℕ) (limits : CallerLimits) (segment : ℕ) (items : CallerImageItems) (room window : ℕ) (before out : List ℕ) (end : CallEnd) (told : CallStatus) (slots : ℕ) (budget : Option ℕ)
    (said : ItemValues) → slots ≡ headers_of limits room → budget ≡ budget_of limits → said ≡ said_items items → MayUseItems limits items room → 16 ≤ window
    → ImagesFor file slots budget segment (2 ^ 64 - 1) window said out end.written told → end.asked ≤ image_reads file segment window said → IfSome budget (λ bytes. end.asked ≤ bytes)
    → ImagesInMemory file limits segment items room window before out end told
images file limits segment items room window before out end told slots budget said permits spends says may wide gives cost within =
    images_of file limits segment items room window before out end told may wide (rw (permits, spends, says) at gives) (rw (says) at cost) (rw (spends) at within)
