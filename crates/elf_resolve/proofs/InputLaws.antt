-- What an input of a link is, by its file, and the states of inputs.
use Rattle.std.proofs.Common.{◌≡◌, ◌≢◌, ℕ, zero, suc, Bool, true, false, List, [], ◌∷◌, ◌++◌, length, set, refl, sym, ap, subst, ◌∙◌, ◌⊎◌, inl, inr, eqb}
use Rattle.std.specs.Prelude.{Option, None, Some, Ok}
use Rattle.std.specs.List.{slice_get}
use Rattle.std.proofs.lemmas.Bool.Decides.{eqb_tells}
use Rattle.elf_model.specs.LinkArchives.{LinkFiles, archive_as, archive_index, archive_input, files_as_inputs, input_of, link_members, members_as_objects, members_refusal, object_input, or_object, searched_by, whole_members}
use Rattle.elf_model.specs.LinkInputs.{IndexSymbol}
use Rattle.elf_model.specs.LinkInputs.InputFile.{ObjectFile, SearchedFile, WholeFile, MissingFile}
use Rattle.elf_model.specs.LinkObjects.{LinkObject}
use Rattle.elf_model.specs.LinkSymbols.{object_of}
use Rattle.elf_resolve.specs.OpenedArchives.{IsInputState, archive_of_input}
use Rattle.elf_resolve.specs.declared.archives.OpenedArchive.{OpenedArchive}
use Rattle.elf_resolve.specs.declared.resolver.InputState.{InputState}
use Rattle.elf_resolve.specs.declared.resolver.InputState.TheVariants as state
use Rattle.elf_resolve.proofs.OpenedLaws.{state_new, state_still}

-- a state is set
pub set_here : (states : List InputState) (i : ℕ) (s before : InputState) → slice_get states i ≡ Some before → slice_get (set states i s) i ≡ Some s
set_here [] i s before is = absurd cc
set_here (x ∷ states) zero s before is = refl
set_here (x ∷ states) (suc i) s before is = set_here states i s before is

pub set_there : (states : List InputState) (i j : ℕ) (s : InputState) → (i ≡ j → ⊥) → slice_get (set states i s) j ≡ slice_get states j
set_there [] i j s differ = refl
set_there (x ∷ states) zero zero s differ = absurd (differ refl)
set_there (x ∷ states) zero (suc j) s differ = refl
set_there (x ∷ states) (suc i) zero s differ = refl
set_there (x ∷ states) (suc i) (suc j) s differ = set_there states i j s (λ same. differ (ap suc same))

pub kept_state : (old new : List InputState) (archives : List OpenedArchive) (b : OpenedArchive) (input i : ℕ) → b.input ≡ input → slice_get old input ≡ Some state.Done
    → new ≡ set old b.input (state.Archive (length archives)) → archive_of_input archives b.input ≡ None → IsInputState (slice_get old i) archives i → IsInputState (slice_get new i) (archives ++ b ∷ []) i
kept_state old new archives b input i input_is done states absent is = by (eqb_tells b.input i) where
  by : ((eqb b.input i ≡ true) × (b.input ≡ i)) ⊎ ((eqb b.input i ≡ false) × (b.input ≢ i)) → IsInputState (slice_get new i) (archives ++ b ∷ []) i
  by (inl (yes_is, same)) =
      let here : slice_get new b.input ≡ Some (state.Archive (length archives)) =
      ap (λ s. slice_get s b.input) states ∙ set_here old b.input (state.Archive (length archives)) state.Done (ap (λ n. slice_get old n) input_is ∙ done) in
      subst (λ n. IsInputState (slice_get new n) (archives ++ b ∷ []) n) same
      (subst (λ s. IsInputState s (archives ++ b ∷ []) b.input) (sym here) (state_new archives b absent))
  by (inr (no_is, differ)) =
      let there : slice_get new i ≡ slice_get old i = ap (λ s. slice_get s i) states ∙ set_there old b.input i (state.Archive (length archives)) differ in
      subst (λ s. IsInputState s (archives ++ b ∷ []) i) (sym there) (state_still (slice_get old i) archives b i differ is)

-- WHAT A FILE IS as an input
pub as_input : (files : LinkFiles) (i : ℕ) (archive whole : Bool) (file : Option (List ℕ)) → files.is_archive i ≡ archive → files.is_whole i ≡ whole → files.file i ≡ file → files_as_inputs files i ≡ or_object (input_of archive whole file files.headers)
as_input files i archive whole file archive_is whole_is file_is =
    ap (λ a. or_object (input_of a (files.is_whole i) (files.file i) files.headers)) archive_is
    ∙ ap (λ w. or_object (input_of archive w (files.file i) files.headers)) whole_is
    ∙ ap (λ f. or_object (input_of archive whole f files.headers)) file_is

pub not_refused : (whole : Bool) (file : List ℕ) (headers : ℕ) → members_refusal file ≡ None → archive_input whole file headers ≡ archive_as whole file headers
unfolding archive_input
not_refused whole file headers none = rw (none, archive_input)

pub input_searched : (files : LinkFiles) (i : ℕ) (file : List ℕ) (symbols : List IndexSymbol) → files.is_archive i ≡ true → files.is_whole i ≡ false → files.file i ≡ Some file → members_refusal file ≡ None
    → archive_index file (link_members file).members ≡ Ok symbols
    → files_as_inputs files i ≡ SearchedFile (length (link_members file).members) symbols (members_as_objects file (link_members file).members files.headers)
unfolding input_of
input_searched files i file symbols archive whole file_is none index =
    as_input files i true false (Some file) archive whole file_is ∙ ap or_object (not_refused false file files.headers none) ∙ ap (λ r. or_object (searched_by file files.headers r)) index

pub input_whole : (files : LinkFiles) (i : ℕ) (file : List ℕ) → files.is_archive i ≡ true → files.is_whole i ≡ true → files.file i ≡ Some file → members_refusal file ≡ None
    → files_as_inputs files i ≡ WholeFile (whole_members file 0 (link_members file).members files.headers)
unfolding input_of
input_whole files i file archive whole file_is none = as_input files i true true (Some file) archive whole file_is ∙ ap or_object (not_refused true file files.headers none)

pub input_object : (files : LinkFiles) (i : ℕ) (file : List ℕ) (object : LinkObject) → files.is_archive i ≡ false → files.file i ≡ Some file → object_of file files.headers ≡ Ok object → files_as_inputs files i ≡ ObjectFile object
unfolding input_of
input_object files i file object archive file_is object_is = as_input files i false (files.is_whole i) (Some file) archive refl file_is ∙ ap (λ r. or_object (object_input r)) object_is

pub input_missing : (files : LinkFiles) (i : ℕ) → files.file i ≡ None → files_as_inputs files i ≡ MissingFile
unfolding input_of
input_missing files i none = as_input files i (files.is_archive i) (files.is_whole i) None refl refl none
