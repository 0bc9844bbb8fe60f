-- What is left is compared with what may be read.
use Rattle.std.proofs.Common.{◌≡◌, ℕ, ◌+◌, ◌*◌, ◌-◌, ◌^◌, min, refl, sym, ap, ◌∙◌, arith}
use Rattle.elf_image.specs.Changes.{image_pass}
use Rattle.elf_image.specs.Marks.{marked_windows}
use Rattle.elf_image.specs.Written.{window_count, windows_cost}
use Rattle.elf_image.proofs.BudgetSteps.{allows_within, ceil_same, passes_limit, product_as, sum_above, sum_within}
use Rattle.elf_image.proofs.segment_image.check_budget.Goals as goal

pub returns-then-saturating_add-from : goal.returns-then-saturating_add-from
returns-then-saturating_add-from g c =
    let image = c.args.image.now in
    let target = c.args.target.now in
    let marks = c.args.marks.now in
    let count : c.div_ceil-windows.result ≡ window_count target = c.div_ceil-windows.ensures ∙ ceil_same target.size target.window c.requires in
    let product : ℕ = marked_windows marks.met (window_count target) * image_pass image in
    let met : c.from-4.result ≡ marked_windows marks.met (window_count target) = c.from-4.ensures ∙ (c.marked.ensures.value ∙ ap (marked_windows marks.met) count) in
    let each : 8 * c.from-3.result + 72 * (c.from.result + c.from-2.result) ≡ image_pass image = omega (arith, c.from.ensures, c.from-2.ensures, c.from-3.ensures, c.len.ensures, c.len-2.ensures, c.len-3.ensures) in
    let walks : c.saturating_mul-walks.result ≡ min product (2 ^ 128 - 1) = product_as _ _ _ _ _ met each c.saturating_mul-walks.ensures in
    let sum : c.saturating_add.result ≡ min (c.saturating_mul-walks.result + (target.bytes.size + 14 * window_count target)) (2 ^ 128 - 1) = omega (arith, c.saturating_add.ensures, c.from-5.ensures, c.from-6.ensures, count) in (
      refl,
      passes_limit c.args.src.now (windows_cost image target marks) c.in-Some.left (sym c.left.ensures ∙ c.in-Some.is)
          (sum_above product c.saturating_mul-walks.result (target.bytes.size + 14 * window_count target) c.saturating_add.result c.in-Some.left walks sum (omega arith) (omega (arith, c.if-saturating_add-from.true, c.from-7.ensures))),
    )

pub returns : goal.returns
returns g c =
    let image = c.args.image.now in
    let target = c.args.target.now in
    let marks = c.args.marks.now in
    let count : c.div_ceil-windows.result ≡ window_count target = c.div_ceil-windows.ensures ∙ ceil_same target.size target.window c.requires in
    let product : ℕ = marked_windows marks.met (window_count target) * image_pass image in
    let met : c.from-4.result ≡ marked_windows marks.met (window_count target) = c.from-4.ensures ∙ (c.marked.ensures.value ∙ ap (marked_windows marks.met) count) in
    let each : 8 * c.from-3.result + 72 * (c.from.result + c.from-2.result) ≡ image_pass image = omega (arith, c.from.ensures, c.from-2.ensures, c.from-3.ensures, c.len.ensures, c.len-2.ensures, c.len-3.ensures) in
    let walks : c.saturating_mul-walks.result ≡ min product (2 ^ 128 - 1) = product_as _ _ _ _ _ met each c.saturating_mul-walks.ensures in
    let sum : c.saturating_add.result ≡ min (c.saturating_mul-walks.result + (target.bytes.size + 14 * window_count target)) (2 ^ 128 - 1) = omega (arith, c.saturating_add.ensures, c.from-5.ensures, c.from-6.ensures, count) in
    allows_within c.args.src.now (windows_cost image target marks) c.in-Some.left (sym c.left.ensures ∙ c.in-Some.is)
    (sum_within product c.saturating_mul-walks.result (target.bytes.size + 14 * window_count target) c.saturating_add.result c.in-Some.left walks sum (omega arith) (omega (arith, c.if-saturating_add-from.false, c.from-7.ensures)))
