-- How many bytes an image reads, step by step.
use Rattle.std.proofs.Common.{◌≡◌, ℕ, ◌+◌, ◌-◌, ◌*◌, ◌/◌, ◌≤◌, ◌||◌, nat_lt, not, Bool, true, false, List, length, get_or, Option, None, Some, Result, Ok, Err, refl, sym, ap, ◌∙◌, arith, inl, inr}
use Rattle.std.specs.List.{list_any}
use Rattle.std.proofs.lemmas.Bool.{cases_lt, le-ltb}
use Rattle.std.proofs.lemmas.List.Elements.{filter_agree}
use Rattle.std.proofs.lemmas.Nat.{mul-le}
use Rattle.elf_model.specs.Apply.{places_from}
use Rattle.elf_model.specs.Image.{ImageSource, SegmentWrite, image_changes, relocation_changes, writes_in, writes_of}
use Rattle.elf_model.specs.ImageChecks.{LoadedTable, linkage_table, rela_table, relative_table}
use Rattle.elf_model.specs.ImageCost.{MARKED_WINDOWS, image_cost, meets_window, met_windows, relocation_pass, relocations_cost, windows_of}
use Rattle.elf_model.specs.LoaderScope.{dynamic_segment_index}
use Rattle.elf_model.specs.Prelude.{cost_where, e_phnum, p_filesz, p_memsz, pass, segment_at, segment_dynamic_checks}
use Rattle.elf_model.specs.declared.causes.Refusal.{Refusal}
use Rattle.elf_model.specs.declared.relocation_tables.RelocationTable.TheVariants as table
use Rattle.elf_table.specs.Prelude.{TableRange}
use Rattle.elf_hash.specs.Segments.{entries_asked}
use Rattle.elf_image.specs.Changes.{image_pass}
use Rattle.elf_image.specs.Marks.{is_window_marked, marked_windows}
use Rattle.elf_image.specs.Relocated.{AreRelrWords, SaysRelocations, entries_header, row_count}
use Rattle.elf_image.specs.ImageWrites.{request_items, relocated_cost, windows_met}
use Rattle.elf_image.specs.Written.{MarksWrites, window_count, windows_cost}
use Rattle.elf_image.specs.declared.changes.ImageFile.{ImageFile}
use Rattle.elf_image.specs.declared.marks.WindowMarks.{WindowMarks}
use Rattle.elf_image.specs.declared.segment_image.ImageRequest.{ImageRequest}
use Rattle.elf_image.specs.declared.segment_windows.ImageTarget.{ImageTarget}
use Rattle.elf_image.proofs.ToldSteps.{changes_are, header_at, no_header, no_loaded}

-- RELOCATIONS. One pass over them
words_counted : (loaded : Option LoadedTable) (words : TableRange) → AreRelrWords loaded words → words.count ≡ row_count loaded
words_counted None words are = are
words_counted (Some loaded) words are = ap (λ (t : TableRange). t.count) are

pass_is : (file : List ℕ) (at : ℕ) → relocation_pass file at ≡ 8 * row_count (relative_table file at) + 72 * (row_count (rela_table file at) + row_count (linkage_table file at))
unfolding relocation_pass
pass_is file at = refl

module _ (file : List ℕ) where
  none_asked : dynamic_segment_index file ≡ None → entries_asked file ≡ 0
  none_asked none = rw (none, entries_asked) refl

  entries_at_most : (index : ℕ) → dynamic_segment_index file ≡ Some index → entries_asked file ≤ p_filesz file (segment_at file index)
  entries_at_most index some = rw (some, entries_asked) (go (pass (segment_dynamic_checks file (segment_at file index))) (p_filesz file (segment_at file index)))
    where
      go : (b : Bool) (n : ℕ) → cost_where b n ≤ n
      go true n = omega arith
      go false n = omega arith

  none_costs : (passes : ℕ) → dynamic_segment_index file ≡ None → relocations_cost file passes ≡ 0
  unfolding relocations_cost
  none_costs passes none = rw (none, relocations_cost) refl

  some_costs : (passes index : ℕ) → dynamic_segment_index file ≡ Some index → relocations_cost file passes ≡ p_filesz file (segment_at file index) + passes * relocation_pass file (segment_at file index)
  unfolding relocations_cost
  some_costs passes index some = rw (some, relocations_cost) refl

  no_pass : dynamic_segment_index file ≡ None → relocation_pass file (entries_header file) ≡ 0
  no_pass none =
      ap (relocation_pass file) (no_header file none)
      ∙ (pass_is file (length file) ∙ rw (no_loaded file table.Relr, no_loaded file table.Rela, no_loaded file table.Jmprel) refl)

  module _ (image : ImageFile) (says : SaysRelocations file (entries_header file) image.told) where
    pass_within : image_pass image ≤ relocation_pass file (entries_header file)
    pass_within =
        let at = entries_header file in
        let words = words_counted (relative_table file at) image.told.compact says.words in
        let few = says.ranges.few in
        let is = pass_is file at in
        omega (arith, words, few, is)

    pub relocations_within : (passes : ℕ) → entries_asked file + passes * image_pass image ≤ relocations_cost file passes
    relocations_within passes = go (dynamic_segment_index file) refl
      where
        go : (index : Option ℕ) → dynamic_segment_index file ≡ index → entries_asked file + passes * image_pass image ≤ relocations_cost file passes
        go None none =
            let asked = none_asked none in
            let costs = none_costs passes none in
            let empty : image_pass image ≡ 0 = omega (arith, pass_within, no_pass none) in
            let product : passes * image_pass image ≡ passes * 0 = ap (λ (n : ℕ). passes * n) empty in
            omega (arith, asked, costs, product)
        go (Some index) some =
            let asked = entries_at_most index some in
            let costs = some_costs passes index some in
            let here : relocation_pass file (entries_header file) ≡ relocation_pass file (segment_at file index) = ap (relocation_pass file) (header_at file index some) in
            let all = mul-le passes (image_pass image) passes (relocation_pass file (segment_at file index)) (omega arith) (omega (arith, pass_within, here)) in
            omega (arith, asked, costs, all)

  pub entries_within : (passes : ℕ) → entries_asked file ≤ relocations_cost file passes
  entries_within passes = go (dynamic_segment_index file) refl
    where
      go : (index : Option ℕ) → dynamic_segment_index file ≡ index → entries_asked file ≤ relocations_cost file passes
      go None none = omega (arith, none_asked none)
      go (Some index) some = omega (arith, entries_at_most index some, some_costs passes index some)

-- WINDOWS that are marked are those that are met
pub marked_met : (window segment count : ℕ) (writes : List SegmentWrite) (marks : WindowMarks) → MarksWrites window segment writes marks → marked_windows marks.met count ≡ met_windows window count (writes_in segment writes)
unfolding marked_windows met_windows
marked_met window segment count writes marks are = ap (length {A = ℕ}) (filter_agree (is_window_marked marks.met) (λ k. not (nat_lt k MARKED_WINDOWS) || list_any (meets_window window k) (writes_in segment writes)) alike (places_from (λ k. k) 0 count))
  where
    alike : (k : ℕ) → is_window_marked marks.met k ≡ (not (nat_lt k MARKED_WINDOWS) || list_any (meets_window window k) (writes_in segment writes))
    alike k = elim (cases_lt k MARKED_WINDOWS) [
      | inl below ↦ or-same (nat_lt k MARKED_WINDOWS) (get_or marks.met k false) (list_any (meets_window window k) (writes_in segment writes)) (are k below)
      | inr past ↦ or-true (nat_lt k MARKED_WINDOWS) (get_or marks.met k false) (list_any (meets_window window k) (writes_in segment writes)) (le-ltb k MARKED_WINDOWS past)
    ]
      where
        or-same : (b x y : Bool) → (not b || x) ≡ y → (not b || x) ≡ (not b || y)
        or-same true x y e = e
        or-same false x y e = refl

        or-true : (b x y : Bool) → b ≡ false → (not b || x) ≡ (not b || y)
        or-true true x y e = absurd (cc)
        or-true false x y e = refl

-- ALL: the headers, the entries, one pass, and those that write
module _ (file : List ℕ) (segment window met : ℕ) where
  cost_is : image_cost file segment window met ≡ 64 + 56 * e_phnum file + relocations_cost file (met + 1) + p_filesz file (segment_at file segment) + 14 * windows_of file segment window
  unfolding image_cost
  cost_is = refl

  pub headers_within : (before after : ℕ) → after ≤ before → 64 + 56 * e_phnum file + after ≤ before + image_cost file segment window met
  headers_within before after within = let is = cost_is in omega (arith, is, within)

  pub entries_cost : (before after : ℕ) → after ≤ before + entries_asked file → 64 + 56 * e_phnum file + after ≤ before + image_cost file segment window met
  entries_cost before after within = let e = entries_within file (met + 1) in let is = cost_is in omega (arith, is, within, e)

  module _ (image : ImageFile) (says : SaysRelocations file (entries_header file) image.told) (before after : ℕ) where
    check_cost : after ≤ before + (entries_asked file + image_pass image) → 64 + 56 * e_phnum file + after ≤ before + image_cost file segment window met
    check_cost within =
        let e = relocations_within file image says (met + 1) in
        let is = cost_is in
        let more : (met + 1) * image_pass image ≡ met * image_pass image + image_pass image = omega arith in
        omega (arith, is, within, e, more)

    write_cost : (target : ImageTarget) (count : ℕ) → after ≤ before + (entries_asked file + (image_pass image + (count * image_pass image + (target.bytes.size + 14 * window_count target))))
        → count ≡ met → target.bytes.size ≡ p_filesz file (segment_at file segment) → window_count target ≡ windows_of file segment window
        → 64 + 56 * e_phnum file + after ≤ before + image_cost file segment window met
    write_cost target count within marked held windows =
        let e = relocations_within file image says (met + 1) in
        let is = cost_is in
        let more : (met + 1) * image_pass image ≡ met * image_pass image + image_pass image = omega arith in
        let passes : count * image_pass image ≡ met * image_pass image = ap (λ (n : ℕ). n * image_pass image) marked in
        omega (arith, is, within, e, more, passes, held, windows)

-- of relocations that are checked, and a segment that is written if they pass
module _ (source : ImageSource) (image : ImageFile) (target : ImageTarget) where
  abbrev all : Result (List SegmentWrite) Refusal
  all = writes_of image.leaves (relocation_changes source)

  refused_costs : (refusal : Refusal) → all ≡ Err refusal → relocated_cost source image target ≡ image_pass image
  refused_costs refusal e = rw (e, relocated_cost) refl

  pub made_costs : (writes : List SegmentWrite) → all ≡ Ok writes
      → relocated_cost source image target
      ≡ image_pass image + (met_windows target.window (window_count target) (writes_in target.index writes) * image_pass image + (target.bytes.size + 14 * window_count target))
  made_costs writes e = rw (e, relocated_cost) refl

  pub pass_costs : image_pass image ≤ relocated_cost source image target
  pass_costs = go all refl
    where
      go : (result : Result (List SegmentWrite) Refusal) → all ≡ result → image_pass image ≤ relocated_cost source image target
      go (Err refusal) e = let c = refused_costs refusal e in omega (arith, c)
      go (Ok writes) e = let c = made_costs writes e in omega (arith, c)

  -- by the windows that are marked
  pub marked_costs : (writes : List SegmentWrite) (marks : WindowMarks) → all ≡ Ok writes → MarksWrites target.window target.index writes marks
      → relocated_cost source image target ≡ image_pass image + windows_cost image target marks
  marked_costs writes marks e are =
      let marked = marked_met target.window target.index (window_count target) writes marks are in
      let product : marked_windows marks.met (window_count target) * image_pass image ≡ met_windows target.window (window_count target) (writes_in target.index writes) * image_pass image =
      ap (λ (n : ℕ). n * image_pass image) marked in
      made_costs writes e ∙ omega (arith, product)

-- those of a request
module _ (whole file : List ℕ) (window : ℕ) (request : ImageRequest) where
  abbrev relocated : ImageSource
  relocated = record { whole = whole; file = file; at = entries_header file; items = request_items request }

  changes : writes_of request.leaves (image_changes whole file (request_items request)) ≡ writes_of request.leaves (relocation_changes relocated)
  changes = ap (writes_of request.leaves) (changes_are whole file (request_items request))

  met_refused : (refusal : Refusal) → writes_of request.leaves (relocation_changes relocated) ≡ Err refusal → windows_met whole file window request ≡ 0
  unfolding windows_met
  met_refused refusal is = let f = changes ∙ is in rw (f, windows_met) refl

  met_made : (writes : List SegmentWrite) → writes_of request.leaves (relocation_changes relocated) ≡ Ok writes
      → windows_met whole file window request ≡ met_windows window (windows_of file request.segment window) (writes_in request.segment writes)
  unfolding windows_met
  met_made writes is = let f = changes ∙ is in rw (f, windows_met) refl

  pub source_cost : (image : ImageFile) (target : ImageTarget) (before after : ℕ) → SaysRelocations file (entries_header file) image.told → image.leaves ≡ request.leaves
      → target.index ≡ request.segment → target.window ≡ window → target.size ≡ p_memsz file (segment_at file request.segment) → target.bytes.size ≡ p_filesz file (segment_at file request.segment)
      → after ≤ before + (entries_asked file + relocated_cost relocated image target)
      → 64 + 56 * e_phnum file + after ≤ before + image_cost file request.segment window (windows_met whole file window request)
  source_cost image target before after says leaves index size memory held within = go (writes_of request.leaves (relocation_changes relocated)) refl
    where
      go : (result : Result (List SegmentWrite) Refusal) → writes_of request.leaves (relocation_changes relocated) ≡ result
          → 64 + 56 * e_phnum file + after ≤ before + image_cost file request.segment window (windows_met whole file window request)
      go (Err refusal) e =
          let f : writes_of image.leaves (relocation_changes relocated) ≡ Err refusal = ap (λ (b : Bool). writes_of b (relocation_changes relocated)) leaves ∙ e in
          let c = refused_costs relocated image target refusal f in
          check_cost file request.segment window (windows_met whole file window request) image says before after (omega (arith, within, c))
      go (Ok writes) e =
          let f : writes_of image.leaves (relocation_changes relocated) ≡ Ok writes = ap (λ (b : Bool). writes_of b (relocation_changes relocated)) leaves ∙ e in
          let c = made_costs relocated image target writes f in
          let count : window_count target ≡ windows_of file request.segment window =
          ap (λ (n : ℕ). (n + (target.window - 1)) / target.window) memory ∙ ap (λ (w : ℕ). (p_memsz file (segment_at file request.segment) + (w - 1)) / w) size in
          let met : met_windows target.window (window_count target) (writes_in target.index writes) ≡ windows_met whole file window request =
          ap (λ (w : ℕ). met_windows w (window_count target) (writes_in target.index writes)) size
          ∙ (ap (λ (n : ℕ). met_windows window n (writes_in target.index writes)) count
          ∙ (ap (λ (i : ℕ). met_windows window (windows_of file request.segment window) (writes_in i writes)) index ∙ sym (met_made writes e))) in
          write_cost file request.segment window (windows_met whole file window request) image says before after target (met_windows target.window (window_count target) (writes_in target.index writes))
          (omega (arith, within, c)) met held count
