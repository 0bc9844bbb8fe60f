-- Program header by program header.
use Rattle.std.proofs.Common.{◌≡◌, ℕ, suc, ◌+◌, ◌-◌, ◌*◌, sym, ap, ◌∙◌, arith}
use Rattle.elf_model.specs.Checks.{first_refusal}
use Rattle.elf_model.specs.Prelude.{e_phnum, segment_at}
use Rattle.elf_image.proofs.HeaderSteps.{loads_all, loads_end, loads_left, loads_step, loads_stop}
use Rattle.elf_image.proofs.headers.check_loads.Goals as goal

pub loop-segment-init : goal.loop-segment-init
loop-segment-init c = λ file views.
    let all : e_phnum file - 0 ≡ e_phnum file = omega arith in
    ap (λ (n : ℕ). first_refusal (loads_left file 0 n)) all ∙ loads_all file

pub returns-in-Some-clause-held : goal.returns-in-Some-clause-held
returns-in-Some-clause-held c = λ file views.
    let i = c.loop-segment.segment in
    let count : c.segments-segment-end.result ≡ e_phnum file = c.segments-segment-end.ensures ∙ (views.count ∙ views.belongs.header.e_phnum) in
    let more : e_phnum file - i ≡ suc (e_phnum file - suc i) = omega (arith, c.loop-segment-test.true, count) in
    let place : c.place.result ≡ segment_at file i = c.place.ensures.value ∙ ap (λ (p : ℕ). p + 56 * i) views.belongs.header.e_phoff in
    let fault = c.in-Some.ensures.value file (segment_at file i) (c.segment.ensures.is_at file views) (c.size-size.ensures ∙ views.belongs.size) in
    rw (c.refused.ensures, place)
    (sym (c.loop-segment.invariant file views) ∙ (ap (λ (n : ℕ). first_refusal (loads_left file i n)) more ∙ loads_stop file i (e_phnum file - suc i) _ fault))

pub loop-segment-preserved : goal.loop-segment-preserved
loop-segment-preserved c = λ file views.
    let i = c.loop-segment.segment in
    let count : c.segments-segment-end.result ≡ e_phnum file = c.segments-segment-end.ensures ∙ (views.count ∙ views.belongs.header.e_phnum) in
    let more : e_phnum file - i ≡ suc (e_phnum file - suc i) = omega (arith, c.loop-segment-test.true, count) in
    let next : i + 1 ≡ suc i = omega arith in
    let passes = c.in_default.ensures.value file (segment_at file i) (c.segment.ensures.is_at file views) (c.size-size.ensures ∙ views.belongs.size) in
    ap (λ (k : ℕ). first_refusal (loads_left file k (e_phnum file - k))) next
    ∙ (sym (loads_step file i (e_phnum file - suc i) passes) ∙ (ap (λ (n : ℕ). first_refusal (loads_left file i n)) (sym more) ∙ c.loop-segment.invariant file views))

pub returns-clause-held : goal.returns-clause-held
returns-clause-held c = λ file views.
    let i = c.loop-segment.segment in
    let count : c.segments-segment-end.result ≡ e_phnum file = c.segments-segment-end.ensures ∙ (views.count ∙ views.belongs.header.e_phnum) in
    let none : e_phnum file - i ≡ 0 = omega (arith, c.loop-segment-test.false, count) in
    sym (c.loop-segment.invariant file views) ∙ (ap (λ (n : ℕ). first_refusal (loads_left file i n)) none ∙ loads_end file i)
