-- What a walk requests, by the entries of the file.
use Rattle.std.proofs.Common.{◌≡◌, ℕ, zero, suc, ◌+◌, ◌-◌, ◌*◌, ◌/◌, ◌<◌, ◌≤◌, true, false, List, ◌++◌, length, flat_map, None, Some, refl, sym, ap, ◌∙◌, arith, length-append}
use Rattle.std.proofs.Math.Nat.{mul-le-mul_left, mul-le-mul_right, mul_assoc}
use Rattle.std.proofs.lemmas.Bool.Decides.{nat_tests}
use Rattle.elf_model.specs.Prelude.{Layout, applies_to, apply_cost, apply_cost_by_order, apply_cost_in_order, cost_with, e_shnum, early_checks, entries_for, entries_in as file_entries_in, entry_count, first_refusal, header_checks, layout_names_cost, load_checks, offsets_never_fall, places_from, section_at, section_name_checks, sh_size, slice, sum_over, table_checks_of, window_passes}
use Rattle.elf_model.proofs.ApplySteps.{cost_with-passed}
use Rattle.elf_model.proofs.ChangeSteps.{length-places_from}
use Rattle.elf_model.proofs.CheckSteps.{first_refusal-none, first_refusal-some}
use Rattle.elf_model.proofs.SumLemmas.{sum_over-le}
use Rattle.elf_model.proofs.Slices.{field-slice}
use Rattle.elf_record.specs.Prelude.{IsEhdr}
use Rattle.elf_record.specs.declared.ehdr.Ehdr.{Ehdr}
use Rattle.elf_table.specs.Prelude.{HoldsSectionHeaders, load_cost, row}
use Rattle.elf_reloc.specs.Prelude.{IsApplyTarget, beside_entry_cost, entries_from, entry_count_in, passes_cost, section_count_of, walk_all, windows}
use Rattle.elf_reloc.specs.declared.entry.ApplyTarget.{ApplyTarget}
use Rattle.elf_table.proofs.LoadLaws.{early_is}

-- how many entries a section has, by its header at an offset of some bytes
abbrev entries_at : List ℕ → ℕ → ℕ → ℕ → ℕ → ℕ
entries_at bytes at section size place =
    elim (applies_to bytes section at) [
      | false ↦ 0
      | true ↦ elim (first_refusal (table_checks_of bytes at size place 24)) [ Some refusal ↦ 0 | None ↦ entry_count bytes at 24 ]
    ]

in_store : (target : ApplyTarget) (i place : ℕ) → place ≡ target.file.loaded.header.e_shoff + 64 * i → entry_count_in target i ≡ entries_at (row target.file.store.now i) 0 target.section target.file.loaded.size place
unfolding entry_count_in
in_store target i place here = rw here refl

of_slice : (file : List ℕ) (at section size place : ℕ) → entries_at (slice file at 64) 0 section size place ≡ entries_at file at section size place
of_slice file at section size place =
    let type = field-slice file at 64 4 4 (omega arith) in
    let info = field-slice file at 64 44 4 (omega arith) in
    let offset = field-slice file at 64 24 8 (omega arith) in
    let bytes = field-slice file at 64 32 8 (omega arith) in
    let entry = field-slice file at 64 56 8 (omega arith) in grind arith

in_file : (file : List ℕ) (section at : ℕ) → entries_at file at section (length file) at ≡ length (file_entries_in file section at)
unfolding file_entries_in
in_file file section at = grind (arith, length-places_from)

section_counted : (file : List ℕ) (target : ApplyTarget) (i : ℕ) → HoldsSectionHeaders file target.file.loaded target.file.store.now → i < section_count_of target
    → entry_count_in target i ≡ length (file_entries_in file target.section (section_at file i))
section_counted file target i belongs below =
    let at : ℕ = section_at file i in
    in_store target i at (ap (λ n. n + 64 * i) (sym belongs.header.e_shoff))
    ∙ (ap (λ bytes. entries_at bytes 0 target.section target.file.loaded.size at) (belongs.rows i below)
    ∙ (of_slice file at target.section target.file.loaded.size at
    ∙ (ap (λ n. entries_at file at target.section n at) belongs.size ∙ in_file file target.section at)))

sum_counted : (f : ℕ → List ℕ) (place amount : ℕ → ℕ) (i n : ℕ) → ((k : ℕ) → i ≤ k → k < i + n → amount k ≡ length (f (place k))) → sum_over amount i n ≡ length (flat_map f (places_from place i n))
unfolding sum_over places_from
sum_counted f place amount i zero h = refl
sum_counted f place amount i (suc n) h =
    let one = h i (omega arith) (omega arith) in
    let more = sum_counted f place amount (suc i) n (λ k a b. h k (omega arith) (omega arith)) in
    let long = length-append (f (place i)) (flat_map f (places_from place (suc i) n)) in
    omega (arith, one, more, long)

-- the entries that are counted are the file's
pub entries_are : (file : List ℕ) (target : ApplyTarget) → HoldsSectionHeaders file target.file.loaded target.file.store.now → entries_from target 0 ≡ length (entries_for file target.section)
unfolding entries_from entries_for
entries_are file target belongs =
    let count : section_count_of target ≡ e_shnum file = belongs.count ∙ belongs.header.e_shnum in
    let whole : section_count_of target - 0 ≡ e_shnum file = omega (arith, count) in
    sum_counted (file_entries_in file target.section) (section_at file) (entry_count_in target) 0 (section_count_of target - 0) (λ k a b. section_counted file target k belongs (omega arith))
    ∙ ap (λ n. length (flat_map (file_entries_in file target.section) (places_from (section_at file) 0 n))) whole

walk_is : (file : List ℕ) (target : ApplyTarget) → HoldsSectionHeaders file target.file.loaded target.file.store.now → walk_all target ≡ length (entries_for file target.section) * (24 + 24 + layout_names_cost target.layout.now)
unfolding walk_all
walk_is file target belongs = grind (arith, entries_are file target belongs)

-- if the checks before the entries pass, those before the section headers do
early_none : (file : List ℕ) (headers : ℕ) → first_refusal (load_checks file headers) ≡ None → first_refusal (early_checks file headers) ≡ None
early_none file headers none = grind (arith, first_refusal-some (early_checks file headers) (section_name_checks file))

pub loaded_early : (file : List ℕ) (headers : ℕ) → first_refusal (header_checks file) ≡ None → first_refusal (load_checks file headers) ≡ None → first_refusal (header_checks file ++ early_checks file headers) ≡ None
loaded_early file headers passed loads = first_refusal-none (header_checks file) (early_checks file headers) passed ∙ early_none file headers loads

module _ (file : List ℕ) (headers section : ℕ) (layout : Layout) (passes : ℕ) where
  pub cost_loaded : first_refusal (header_checks file ++ early_checks file headers) ≡ None → 64 + 64 * e_shnum file ≤ cost_with file headers section layout passes
  unfolding cost_with
  cost_loaded e = grind arith

  pub cost_least : 64 ≤ cost_with file headers section layout passes
  unfolding cost_with
  cost_least = grind arith

pub load_within : (file : List ℕ) (header : Ehdr) (size slots section : ℕ) (layout : Layout) (passes : ℕ) → IsEhdr file 0 header → size ≡ length file → first_refusal (header_checks file) ≡ None
    → 64 + load_cost header size slots ≤ cost_with file slots section layout passes
load_within file header size slots section layout passes is same passed =
    grind (arith, early_is file header size slots is same, cost_loaded file slots section layout passes, cost_least file slots section layout passes, first_refusal-none (header_checks file) (early_checks file slots) passed)

-- the cost of a target's passes is that of the definition
pub cost_stands : (file : List ℕ) (headers : ℕ) (target : ApplyTarget) (at : ℕ) (passes : ℕ) → HoldsSectionHeaders file target.file.loaded target.file.store.now → first_refusal (header_checks file ++ early_checks file headers) ≡ None
    → length (slice file at target.size) ≡ target.size → IsApplyTarget file headers target at
    → cost_with file headers target.section target.layout.now passes ≡ 64 + 64 * e_shnum file + passes_cost target passes
cost_stands file headers target at passes belongs early long is_at =
    grind (arith, ap length is_at.bytes, walk_is file target belongs, cost_with-passed file headers target.section target.layout.now passes early is_at.passed)

pub windows_same : (file : List ℕ) (headers : ℕ) (target : ApplyTarget) (at : ℕ) → length (slice file at target.size) ≡ target.size → IsApplyTarget file headers target at → window_passes file target.section ≡ 1 + windows target.size
windows_same file headers target at long is_at = ap (λ n. 1 + (n + 63) / 64) (sym (ap length is_at.bytes) ∙ long)

-- For every source: a section has no more entries than the file's size allows.
table_inside : (bytes : List ℕ) (at size place : ℕ) → first_refusal (table_checks_of bytes at size place 24) ≡ None → sh_size bytes at ≤ size
table_inside bytes at size place none = grind (arith, nat_tests)

entries_few : (bytes : List ℕ) (at section size place : ℕ) → entries_at bytes at section size place ≤ size / 24
entries_few bytes at section size place = grind (arith, table_inside)

pub walk_below : (target : ApplyTarget) (headers : ℕ) → section_count_of target ≤ headers → walk_all target ≤ headers * (target.file.loaded.size / 24 * (48 + layout_names_cost target.layout.now))
unfolding walk_all entries_from
walk_below target headers few =
    let n : ℕ = target.file.loaded.size / 24 in
    let each : ℕ = 48 + layout_names_cost target.layout.now in
    let sum = sum_over-le (entry_count_in target) n 0 (section_count_of target - 0) (λ i.
    let is = in_store target i _ refl in
    let most = entries_few (row target.file.store.now i) 0 target.section target.file.loaded.size (target.file.loaded.header.e_shoff + 64 * i) in omega (arith, is, most)) in
    let many : sum_over (entry_count_in target) 0 (section_count_of target - 0) * (24 + beside_entry_cost target) ≤ ((section_count_of target - 0) * n) * (24 + beside_entry_cost target) = mul-le-mul_right (24 + beside_entry_cost target) sum in
    let more : (section_count_of target - 0) * n * (24 + beside_entry_cost target) ≤ headers * n * (24 + beside_entry_cost target) = mul-le-mul_right (24 + beside_entry_cost target) (mul-le-mul_right n (omega arith)) in
    let last : headers * n * (24 + beside_entry_cost target) ≡ headers * (n * each) = mul_grouped headers n (24 + beside_entry_cost target) ∙ ap (λ k. headers * (n * k)) (omega arith) in
    omega (arith, many, more, last)
  where
    mul_grouped : (a b c : ℕ) → a * b * c ≡ a * (b * c)
    mul_grouped a b c = mul_assoc a b c

pub walk_most : (target : ApplyTarget) (headers size : ℕ) → section_count_of target ≤ headers → target.file.loaded.size ≡ size → walk_all target ≤ headers * (size / 24 * (48 + layout_names_cost target.layout.now))
walk_most target headers size few same =
    let below = walk_below target headers few in
    let moved = ap (λ n. headers * (n / 24 * (48 + layout_names_cost target.layout.now))) same in
    omega (arith, below, moved)

pub passes_below : (walk bound size long before after : ℕ) → walk ≤ bound → size ≤ long → after ≤ before + ((1 + windows size) * walk + size) → after ≤ before + ((1 + (long + 63) / 64) * bound + long)
passes_below walk bound size long before after w s h =
    let fewer : 1 + windows size ≤ 1 + (long + 63) / 64 = omega arith in
    let first : (1 + windows size) * walk ≤ (1 + windows size) * bound = mul-le-mul_left (1 + windows size) w in
    let second : (1 + windows size) * bound ≤ (1 + (long + 63) / 64) * bound = mul-le-mul_right bound fewer in
    omega (arith, first, second, s, h)

pub checked_below : (walk size before after : ℕ) → after ≤ before + walk → after ≤ before + ((1 + windows size) * walk + size)
checked_below walk size before after h = grind arith

-- a bound by the order of the entries
pub order_within :
    (file : List ℕ) (headers section : ℕ) (layout : Layout) (bound : ℕ)
    → (offsets_never_fall file section ≡ true → bound ≤ cost_with file headers section layout 2)
    → bound ≤ cost_with file headers section layout (window_passes file section)
    → bound ≤ apply_cost_by_order file headers section layout
unfolding apply_cost apply_cost_in_order apply_cost_by_order
order_within file headers section layout bound never falls = grind arith
