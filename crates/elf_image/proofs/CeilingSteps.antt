-- How many bytes an image reads at most, of every source.
use Rattle.std.proofs.Common.{◌≡◌, ℕ, ◌+◌, ◌-◌, ◌*◌, ◌/◌, ◌<◌, ◌≤◌, Bool, List, ap, arith, inl, inr}
use Rattle.std.proofs.Math.Nat.{div-mul-le_self}
use Rattle.std.proofs.lemmas.Bool.{cases_lt}
use Rattle.std.proofs.lemmas.List.Sums.{count_by-le-length, length-filter}
use Rattle.std.proofs.lemmas.Nat.{le-div, mul-le}
use Rattle.elf_model.specs.Apply.{places_from}
use Rattle.elf_model.proofs.ChangeSteps.{length-places_from}
use Rattle.elf_table.specs.Prelude.{TableRange}
use Rattle.elf_image.specs.Changes.{image_pass}
use Rattle.elf_image.specs.ImageWrites.{pass_ceiling, relocated_ceiling}
use Rattle.elf_image.specs.Marks.{is_window_marked, marked_windows}
use Rattle.elf_image.specs.Within.{ImageWithin, IsTableWithin}
use Rattle.elf_image.specs.Written.{window_count, windows_cost}
use Rattle.elf_image.specs.declared.changes.ImageFile.{ImageFile}
use Rattle.elf_image.specs.declared.marks.WindowMarks.{WindowMarks}
use Rattle.elf_image.specs.declared.segment_windows.ImageTarget.{ImageTarget}

-- rows of a table that lies within a source
few_rows : (width size : ℕ) (table : TableRange) → 0 < width → IsTableWithin width size table → table.count ≤ size / width
few_rows width size table positive is = le-div table.count size width positive (elim (cases_lt 0 table.count) [
  | inl some ↦
      let wide : table.count * table.entry ≡ table.count * width = ap (λ (n : ℕ). table.count * n) is.wide in
      omega (arith, is.within some, wide)
  | inr none ↦
      let empty : table.count ≡ 0 = omega (arith, none) in
      let product : table.count * width ≡ 0 * width = ap (λ (n : ℕ). n * width) empty in
      omega (arith, product)
])

-- a pass
pass_few : (size : ℕ) (image : ImageFile) → ImageWithin size image → image_pass image ≤ pass_ceiling size
unfolding pass_ceiling
pass_few size image within =
    let compact = few_rows 8 size image.told.compact (omega arith) within.compact in
    let first = few_rows 24 size image.told.ranges.first (omega arith) within.ranges.first in
    let second = few_rows 24 size image.told.ranges.second (omega arith) within.ranges.second in
    omega (arith, compact, first, second)

-- windows that are marked
marked_few : (met : List Bool) (count : ℕ) → marked_windows met count ≤ count
unfolding marked_windows
marked_few met count =
    let places : List ℕ = places_from (λ k. k) 0 count in
    omega (arith, length-filter (is_window_marked met) places, count_by-le-length (is_window_marked met) places, length-places_from (λ k. k) 0 count)

-- what is checked, and what is written
pub check_ceiling : (size window memory : ℕ) (image : ImageFile) → ImageWithin size image → image_pass image ≤ relocated_ceiling size window memory
unfolding relocated_ceiling
check_ceiling size window memory image within = omega (arith, pass_few size image within)

pub write_ceiling : (size : ℕ) (image : ImageFile) (target : ImageTarget) (marks : WindowMarks) → ImageWithin size image → target.bytes.size ≤ size
    → image_pass image + windows_cost image target marks ≤ relocated_ceiling size target.window target.size
unfolding relocated_ceiling
write_ceiling size image target marks within held =
    let one = pass_few size image within in
    let all = mul-le (marked_windows marks.met (window_count target)) (image_pass image) (window_count target) (pass_ceiling size) (marked_few marks.met (window_count target)) one in
    omega (arith, one, all, held)

-- of a larger segment
pub larger_ceiling : (size window memory most : ℕ) → 0 < window → memory ≤ most → relocated_ceiling size window memory ≤ relocated_ceiling size window most
unfolding relocated_ceiling
larger_ceiling size window memory most positive less =
    let fewer : (memory + (window - 1)) / window ≤ (most + (window - 1)) / window =
    le-div ((memory + (window - 1)) / window) (most + (window - 1)) window positive (omega (arith, div-mul-le_self (memory + (window - 1)) window, less)) in
    let all = mul-le ((memory + (window - 1)) / window) (pass_ceiling size) ((most + (window - 1)) / window) (pass_ceiling size) fewer (omega arith) in
    omega (arith, fewer, all)
