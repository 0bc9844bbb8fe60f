-- An entry of R_X86_64_RELATIVE that was read, and what it stores.
use Rattle.std.proofs.Common.{◌≡◌, ◌∙◌, ℕ, ◌+◌, ◌%◌, ◌^◌, ◌<◌, ◌≤◌, nat_lt, not, ◌&&◌, ◌==◌, Bool, true, false, List, [], ◌∷◌, None, Some, Ok, ap, sym, subst, refl, arith}
use Rattle.std.proofs.lemmas.Bool.{eq-eqb, ne_eqb}
use Rattle.elf_model.specs.Checks.{first_refusal}
use Rattle.elf_model.specs.Image.{ImageSource, Stores, change_of_type, entry_change, is_resolved}
use Rattle.elf_model.specs.ImageItems.{ItemValues}
use Rattle.elf_model.specs.ImageValues.{changed_size, dynamic_symbol_checks, dynamic_type, dynamic_type_in, dynamic_types, entry_symbol, stored_bytes}
use Rattle.elf_model.specs.Prelude.{r_type}
use Rattle.elf_model.specs.declared.dynamic_types.DynamicType.TheVariants.{Relative}
use Rattle.elf_record.specs.Rela.{IsRela}
use Rattle.elf_record.specs.declared.rela.Rela.{Rela}
use Rattle.elf_table.specs.Prelude.{TableRange}
use Rattle.elf_image.specs.Chunks.{HoldsChunks}
use Rattle.elf_image.specs.EntryOrder.{AreOrderedEntries, IsHeldRelative, TakesOrderedEntry, entries_reads, entry_changes_left, part_changes, relative_from, symbols_left}
use Rattle.elf_image.specs.RelaRows.{PassesEntries}
use Rattle.elf_image.specs.Relocated.{FindsPlace, IsImageOf, write_as, write_at}
use Rattle.elf_image.specs.Values.{known_items, stored_as}
use Rattle.elf_image.specs.Within.{EntriesAlive, entries_ahead, entry_steps}
use Rattle.elf_image.specs.declared.changes.ImageFile.{ImageFile}
use Rattle.elf_image.specs.declared.changes.PlacedBytes.{PlacedBytes}
use Rattle.elf_image.specs.declared.entries.EntryStep.{EntryStep}
use Rattle.elf_image.specs.declared.entries.EntryStep.TheVariants as step
use Rattle.elf_image.specs.declared.entries.OrderedEntries.{OrderedEntries}
use Rattle.elf_image.specs.declared.rela_rows.RelaRow.{RelaRow}
use Rattle.elf_image.proofs.EntrySteps.{stored_change, typed_change}
use Rattle.elf_image.proofs.EntryTakenSteps.{direct-one, takes-entry}
use Rattle.elf_image.proofs.EntryTurnSteps.{known-row, moved, takes-next}

-- no symbol is checked, and 8 bytes are changed
no-symbol : (file : List ℕ) (at rela : ℕ) → first_refusal (dynamic_symbol_checks Relative file at rela) ≡ None
unfolding dynamic_symbol_checks
no-symbol file at rela = refl

one-word : (file : List ℕ) (symbol : ℕ) → changed_size Relative file symbol ≡ 8
unfolding changed_size
one-word file symbol = refl

is-relative : dynamic_type 8 ≡ Some Relative
unfolding dynamic_type dynamic_type_in dynamic_types
is-relative = refl

-- WHAT IT STORES
pub relative-stores : (source : ImageSource) (image : ImageFile) (at : ℕ) (entry : Rela) (placed : PlacedBytes) → IsImageOf source image
    → IsRela source.file at entry → entry.r_info % 2 ^ 32 ≡ 8 → placed.width ≡ 8 → FindsPlace source at entry.r_offset 8 (Ok placed.place)
    → ((symbol : ℕ) → stored_bytes Relative source.file (known_items image) at symbol ≡ Ok (stored_as placed.bytes))
    → entry_change source at ≡ Stores (write_as placed)
relative-stores source image at entry placed of rela kind width found value =
    let symbol = entry_symbol source.file source.at at in
    let type : r_type source.file at ≡ 8 = ap (λ (i : ℕ). i % 2 ^ 32) (sym rela.r_info) ∙ kind in
    let typed = typed_change source at (λ none. absurd (omega (arith, type, none))) ∙ ap (change_of_type source at) (ap dynamic_type type ∙ is-relative) in
    let place = rw (sym (one-word source.file symbol), rela.r_offset) at found in
    let bytes = ap (λ (items : ItemValues). stored_bytes Relative source.file items at symbol) (sym of.items) ∙ value symbol in
    typed
    ∙ stored_change source at Relative (no-symbol source.file source.at at) placed.place (stored_as placed.bytes) place.0 place.1 bytes
    ∙ ap (λ (size : ℕ). Stores (write_at placed.place size (stored_as placed.bytes))) (one-word source.file symbol ∙ sym width)

-- ITS TURN
module _ (old new : OrderedEntries) (row : RelaRow) (held : IsHeldRelative old row) (passes : PassesEntries old.rows new.rows 1) (some : old.rows.index < old.rows.table.count)
    (same : moved old new.rows old.indirect new.chunks ≡ new) where
  one-entry : (new.rows.index ≡ old.rows.index + 1) × (row.index ≡ old.rows.index)
  one-entry = (passes.index, held.held.index)

  not-resolved : (file : List ℕ) → IsRela file row.at row.entry → is_resolved file row.at ≡ false
  not-resolved file rela =
      let type : r_type file row.at ≡ 8 = ap (λ (i : ℕ). i % 2 ^ 32) (sym rela.r_info) ∙ held.kind in
      ne_eqb (r_type file row.at) 37 (λ other. absurd (omega (arith, type, other)))

  supported : (file : List ℕ) (relative : ℕ) → IsRela file row.at row.entry → (nat_lt 0 relative && not (r_type file row.at == 8)) ≡ false
  supported file relative rela =
      let type : r_type file row.at ≡ 8 = ap (λ (i : ℕ). i % 2 ^ 32) (sym rela.r_info) ∙ held.kind in
      none-of (nat_lt 0 relative) (r_type file row.at == 8) (eq-eqb (r_type file row.at) 8 type)
    where
      none-of : (a b : Bool) → b ≡ true → (a && not b) ≡ false
      none-of true b e = rw e refl
      none-of false b e = refl

  pub relative-known : (file : List ℕ) → AreOrderedEntries file old → HoldsChunks file old.ranges.first.at new.chunks → AreOrderedEntries file new
  relative-known file known chunks =
      let is = held.held.taken file known.held in
      subst (AreOrderedEntries file) same
      (known-row old new.rows old.indirect new.chunks row passes.table some one-entry file known (passes.agrees file known.held) chunks is (λ second unnoted. unnoted) (λ direct unnoted. not-resolved file is.entry))

  pub relative-first : (source : ImageSource) → AreOrderedEntries source.file old → entry_changes_left source old ≡ entry_change source row.at ∷ entry_changes_left source new
  relative-first source known =
      let is = held.held.taken source.file known.held in
      let relative = relative_from old.ranges old.part.second row.index in
      let ordered : EntryStep = step.Entry (record { entry = row.entry; at = row.at }) in
      let changes = ap (λ (indirect : Bool). part_changes source indirect relative (row.at ∷ [])) held.direct ∙ direct-one source row.at relative (supported source.file relative is.entry) (not-resolved source.file is.entry) in
      let takes = takes-next old new.rows old.indirect new.chunks row passes.table some one-entry source old.wanted (Ok ordered) is (takes-entry source row _ ordered refl changes) in
      (subst (λ (n : OrderedEntries). TakesOrderedEntry source old.wanted (entry_changes_left source old) (entry_changes_left source n) (Ok ordered)) same takes).0

  -- it is one less, and no more is read
  symbols-fewer : (indirect : Bool) (m n : ℕ) → m ≤ n → symbols_left indirect m ≤ symbols_left indirect n
  symbols-fewer true m n few = omega arith
  symbols-fewer false m n few = omega (arith, few)

  ahead-less : entries_ahead new.rows + 1 ≡ entries_ahead old.rows
  ahead-less =
      let count = ap (λ (t : TableRange). t.count) passes.table in
      let index = passes.index in
      omega (arith, count, index, some)

  pub relative-reads : entries_reads new ≤ entries_reads old
  relative-reads =
      let fewer = symbols-fewer old.part.indirect (entries_ahead new.rows) (entries_ahead old.rows) (omega (arith, ahead-less)) in
      let unread = passes.unread in
      let here : entries_reads (moved old new.rows old.indirect new.chunks) ≤ entries_reads old = omega (arith, fewer, unread) in
      subst (λ (n : OrderedEntries). entries_reads n ≤ entries_reads old) same here

  pub relative-steps : entry_steps new < entry_steps old
  relative-steps =
      let here : entry_steps (moved old new.rows old.indirect new.chunks) < entry_steps old = omega (arith, ahead-less) in
      subst (λ (n : OrderedEntries). entry_steps n < entry_steps old) same here

  pub relative-alive : (size : ℕ) → EntriesAlive size old → EntriesAlive size new
  relative-alive size alive =
      let few = alive.few in
      subst (EntriesAlive size) same (record { ranges = alive.ranges; rows = passes.alive size alive.rows; begun = alive.begun; few = omega (arith, ahead-less, few) })
