-- The interpreter that a file names, stage by stage: its bytes and the path in them, the first
-- program header of its type, the headers; and whether a file can be one.
use Rattle.std.proofs.Common.{◌≡◌, ℕ, ◌+◌, ◌-◌, ◌*◌, ◌<◌, ◌≤◌, ◌==◌, ◌&&◌, ◌||◌, nat_lt, not, Bool, true, false, List, [], ◌∷◌, ◌++◌, length, Option, None, Some, Result, Ok, Err, refl, sym, ap, subst, ◌∙◌, arith}
use Rattle.elf_model.specs.Prelude.{Check, e_shnum, e_type, field, first_refusal, header_checks, interpreter_at, interpreter_by_segments, interpreter_of, is_interpreter, is_outside, load_checks, loaded_interpreter, p_filesz, p_offset, refuse, segment_at, slice, whole_name, without_sections}
use Rattle.elf_model.specs.Interpreters.{interpreter_checks}
use Rattle.elf_model.specs.Links.{machine_in}
use Rattle.elf_model.specs.TraitNumbers.{is_linked_type}
use Rattle.elf_model.specs.declared.causes.Cause.TheVariants.{NameUnended, TableOutside}
use Rattle.elf_model.specs.declared.causes.Refusal.{Refusal}
use Rattle.elf_model.proofs.Slices.{field-slice}
use Rattle.elf_model.proofs.StyleLemmas.{view_tells_of_none}
use Rattle.elf_source.specs.Source.{CountedState, MasksSectionHeaders}
use Rattle.elf_table.proofs.FaultLaws.{charges_hidden}
use Rattle.elf_table.specs.Prelude.{CallDid, HoldsProgramHeaders, LoadedFile, StoreState, StringTableRange, fault_of_result, first_of_kind, strings, strings_in}
use Rattle.elf_table.specs.Views.{segment_place}
use Rattle.elf_table.specs.declared.fault.Fault.{Fault}
use Rattle.elf_table.specs.declared.fault.Fault.TheVariants.{Refused, Source}
use Rattle.elf_hash.proofs.SettleLaws.{checked_fails, checked_passes, passed_both, refused_back, refused_front}
use Rattle.elf_hash.specs.Prelude.{LoadsSegments, RefusesAs}
use Rattle.elf_library.specs.Interpreting.{ReturnsInterpreter, ReturnsRefusal, end_refusal, interprets, path_range}
use Rattle.elf_library.specs.Reading.{machine_by}
use Rattle.elf_library.specs.Sought.{ReturnsWhole}
use Rattle.elf_library.proofs.MachineLaws.{front_is, short_is}

-- THE PATH that a program header at an offset locates
module _ (file : List ℕ) (at : ℕ) where
  path_fails : (refusal : Refusal) → first_refusal (interpreter_checks file at) ≡ Some refusal → interpreter_at file at ≡ Err refusal
  unfolding interpreter_at
  path_fails refusal e = rw (e, interpreter_at) refl

  path_is : first_refusal (interpreter_checks file at) ≡ None → interpreter_at file at ≡ whole_name (slice file (p_offset file at) (p_filesz file at)) 0 at
  unfolding interpreter_at
  path_is e = rw (e, interpreter_at) refl

  abbrev early : List Check
  early =
      refuse (is_outside (length file) (p_offset file at) (p_filesz file at)) at TableOutside
      ∷ refuse (nat_lt (p_filesz file at) 2 || nat_lt 4096 (p_filesz file at)) at NameUnended
      ∷ []

  abbrev late : List Check
  late = refuse (not (field file (p_offset file at + p_filesz file at - 1) 1 == 0)) at NameUnended ∷ []

  pub range_stops : (fault : Fault) → Err fault ≡ path_range (length file) (p_offset file at) (p_filesz file at) at → RefusesAs (interpreter_at file at) fault
  range_stops (Refused refusal) h = λ other.
      path_fails refusal (refused_front early late (Refused refusal) (checked_fails early (strings (p_offset file at) (p_filesz file at)) (Refused refusal) h))
  range_stops (Source fault offset) h = tt

  module _ (path : StringTableRange) (h : Ok path ≡ path_range (length file) (p_offset file at) (p_filesz file at) at) where
    passes : (first_refusal early ≡ None) × (strings (p_offset file at) (p_filesz file at) ≡ path)
    passes = checked_passes early (strings (p_offset file at) (p_filesz file at)) path h

    module _ (place : ℕ) (same : place ≡ at) where
      stops_here : (fault : Fault) → ReturnsRefusal (end_refusal file path at) (Err fault) → RefusesAs (interpreter_at file at) fault
      stops_here (Refused refusal) tells = λ other.
          path_fails refusal
          (refused_back early late (Refused refusal) passes.0 (subst (λ (p : StringTableRange). end_refusal file p at ≡ Some refusal) (sym passes.1) (tells other)))
      stops_here (Source fault offset) tells = tt

      pub end_stops : (fault : Fault) → ReturnsRefusal (end_refusal file path place) (Err fault) → RefusesAs (interpreter_at file at) fault
      end_stops fault tells = stops_here fault (subst (λ (p : ℕ). ReturnsRefusal (end_refusal file path p) (Err fault)) same tells)

      pub path_tells : (name : List ℕ) (result : Result (Unit {0}) Fault) → end_refusal file path place ≡ None
          → ReturnsWhole (whole_name (strings_in file path) 0 place) name result → ReturnsWhole (interpreter_at file at) name result
      path_tells name result ends tells =
          let back : first_refusal late ≡ None
          = subst (λ (p : StringTableRange). end_refusal file p at ≡ None) (sym passes.1) (subst (λ (p : ℕ). end_refusal file path p ≡ None) same ends) in
          let here : ReturnsWhole (whole_name (strings_in file path) 0 at) name result = subst (λ (p : ℕ). ReturnsWhole (whole_name (strings_in file path) 0 p) name result) same tells in
          let whole : ReturnsWhole (whole_name (slice file (p_offset file at) (p_filesz file at)) 0 at) name result
          = subst (λ (p : StringTableRange). ReturnsWhole (whole_name (strings_in file p) 0 at) name result) (sym passes.1) here in
          subst (λ (told : Result (List ℕ) Refusal). ReturnsWhole told name result) (sym (path_is (passed_both early late passes.0 back))) whole

-- the last byte of a path, which is read
module _ (file last : List ℕ) (path : StringTableRange) (place offset : ℕ) (is : last ≡ slice file offset 1) (ends : offset ≡ path.at + path.size - 1) where
  last_is : field last 0 1 ≡ field file (path.at + path.size - 1) 1
  last_is =
      ap (λ (b : List ℕ). field b 0 1) is ∙ field-slice file offset 1 0 1 (omega arith) ∙ ap (λ (p : ℕ). field file p 1) (omega (arith, ends))

  pub end_fails : (field last 0 1 == 0) ≡ false → end_refusal file path place ≡ Some (record { at = place; cause = NameUnended })
  end_fails isnt = rw (sym (ap (λ (n : ℕ). n == 0) last_is) ∙ isnt) refl

  pub end_passes : (field last 0 1 == 0) ≡ true → end_refusal file path place ≡ None
  end_passes is_nul = rw (sym (ap (λ (n : ℕ). n == 0) last_is) ∙ is_nul) refl

-- where a program header of a loaded file is
pub place_is : (file : List ℕ) (loaded : LoadedFile) (store : StoreState) (i : ℕ) → HoldsProgramHeaders file loaded store → segment_place loaded.header i ≡ segment_at file i
place_is file loaded store i views = ap (λ (n : ℕ). n + 56 * i) views.belongs.header.e_phoff

-- THE FIRST PROGRAM HEADER of its type
module _ (file : List ℕ) where
  pub unnamed : first_of_kind file 3 ≡ None → loaded_interpreter file ≡ Ok None
  unfolding loaded_interpreter
  unnamed e = rw (e, loaded_interpreter) refl

  module _ (i : ℕ) (e : first_of_kind file 3 ≡ Some i) where
    pub named : (path : List ℕ) → interpreter_at file (segment_at file i) ≡ Ok path → loaded_interpreter file ≡ Ok (Some path)
    unfolding loaded_interpreter
    named path is = rw (e, is, loaded_interpreter) refl

    named_fails : (refusal : Refusal) → interpreter_at file (segment_at file i) ≡ Err refusal → loaded_interpreter file ≡ Err refusal
    unfolding loaded_interpreter
    named_fails refusal is = rw (e, is, loaded_interpreter) refl

    pub named_stops : (path : List ℕ) (fault : Fault) → RefusesAs (interpreter_at file (segment_at file i)) fault → ReturnsInterpreter (loaded_interpreter file) path (Err fault)
    named_stops path (Refused refusal) tells = λ other. named_fails refusal (tells other)
    named_stops path (Source fault at) tells = tt

-- an interpreter in other words
pub named_as : (told other : Result (Option (List ℕ)) Refusal) (path : List ℕ) (result : Result Bool Fault) → told ≡ other → ReturnsInterpreter told path result → ReturnsInterpreter other path result
named_as told other path result same tells = subst (λ t. ReturnsInterpreter t path result) same tells

-- THE HEADERS
module _ (file : List ℕ) (headers : ℕ) where
  load_fails : (refusal : Refusal) → first_refusal (header_checks file ++ load_checks file headers) ≡ Some refusal → interpreter_by_segments file headers ≡ Err refusal
  unfolding interpreter_by_segments
  load_fails refusal e = rw (e, interpreter_by_segments) refl

  pub loaded_is : first_refusal (header_checks file ++ load_checks file headers) ≡ None → loaded_interpreter file ≡ interpreter_by_segments file headers
  unfolding interpreter_by_segments
  loaded_is e = rw (e, interpreter_by_segments) refl

  pub load_stops : (path : List ℕ) (fault : Fault) (store : StoreState) → LoadsSegments file headers store (Err fault) → ReturnsInterpreter (interpreter_by_segments file headers) path (Err fault)
  load_stops path (Refused refusal) store loads = λ other. load_fails refusal (loads other)
  load_stops path (Source fault at) store loads = tt

  masked_is : interpreter_by_segments (without_sections file) headers ≡ interpreter_of file headers
  unfolding interpreter_of
  masked_is = refl

-- the section header fields of the file header are masked meanwhile
pub interpreter_masked : {a b c d : CountedState} {n : ℕ} (headers : ℕ) (path : List ℕ) (result : Result Bool Fault) → MasksSectionHeaders a b true → MasksSectionHeaders c d a.hides
    → CallDid b c (fault_of_result result) n (λ file. e_shnum file ≡ 0 → ReturnsInterpreter (interpreter_by_segments file headers) path result)
    → CallDid a d (fault_of_result result) n (λ file. ReturnsInterpreter (interpreter_of file headers) path result)
interpreter_masked {a} {b} {c} {d} headers path result hide show did = record {
  costs = charges_hidden _ (fault_of_result result) hide show did.costs;
  known = λ file held.
      named_as _ _ path result (masked_is file headers) (did.known (without_sections file) (hide.shows refl file held) (view_tells_of_none file).1);
}

-- A FILE CAN BE THE INTERPRETER of a program of a machine, by its first bytes
abbrev fits : (machine : ℕ) → Option ℕ → ℕ → Bool
fits machine None kind = false
fits machine (Some found) kind = found == machine && is_linked_type kind

module _ (machine : ℕ) (file : List ℕ) where
  fits_with : (found : Option ℕ) → machine_in file ≡ found → fits machine found (e_type file) ≡ is_interpreter machine file
  unfolding is_interpreter
  fits_with None e = rw (e, is_interpreter) refl
  fits_with (Some found) e = rw (e, is_interpreter) refl

  fits_is : fits machine (machine_in file) (e_type file) ≡ is_interpreter machine file
  fits_is = fits_with (machine_in file) refl

  pub short_fits : length file < 20 → false ≡ is_interpreter machine file
  short_fits less = ap (λ (found : Option ℕ). fits machine found (e_type file)) (short_is file less) ∙ fits_is

  pub front_fits : (front : List ℕ) → front ≡ slice file 0 20 → 20 ≤ length file → interprets machine front ≡ is_interpreter machine file
  front_fits front is long =
      let kind : e_type front ≡ e_type file = ap (λ (b : List ℕ). field b 16 2) is ∙ field-slice file 0 20 16 2 (omega arith) in
      by_fits (machine_by front) refl
      ∙ ap (λ (found : Option ℕ). fits machine found (e_type front)) (front_is file front is long)
      ∙ ap (λ (n : ℕ). fits machine (machine_in file) n) kind
      ∙ fits_is
    where
      by_fits : (found : Option ℕ) → machine_by front ≡ found → interprets machine front ≡ fits machine (machine_by front) (e_type front)
      by_fits None e = rw (e, interprets) refl
      by_fits (Some found) e = rw (e, interprets) refl
