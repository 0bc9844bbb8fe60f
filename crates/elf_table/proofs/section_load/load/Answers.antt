-- The load's checks: those of the file header, and then those of the section of the section names.
use Rattle.std.proofs.Common.{◌≡◌, ℕ, Option, refl, sym, ap, ◌∙◌}
use Rattle.elf_model.specs.Prelude.{early_checks, first_refusal, section_name_checks}
use Rattle.elf_model.specs.declared.causes.Refusal.{Refusal}
use Rattle.elf_model.proofs.CheckSteps.{first_refusal-some}
use Rattle.elf_record.specs.declared.ehdr.Ehdr.{Ehdr}
use Rattle.elf_table.specs.Prelude.{StoreState, early_of, emptied}
use Rattle.elf_source.proofs.ReadsLaws.{ReadsUpTo-none}
use Rattle.elf_table.proofs.LoadLaws.{belongs_loaded, early_is, early_unbudgeted, late_answer, load_reads, load_says, read_stops, rows_loaded}
use Rattle.elf_table.proofs.section_load.load.Goals as goal

-- the result of the early checks, by the source and the store that were given
told_early : {answer : Option Refusal} (header : Ehdr) {size length : ℕ} (old new : StoreState) → answer ≡ first_refusal (early_of header size new.slots)
    → size ≡ length → new ≡ emptied old → first_refusal (early_of header length old.slots) ≡ answer
told_early header {size} {length} old new told same empty =
    sym (told ∙ ap (λ n. first_refusal (early_of header n new.slots)) same ∙ ap (λ (s : StoreState). first_refusal (early_of header length s.slots)) empty)

pub returns-in-Some-clause-early : goal.returns-in-Some-clause-early
returns-in-Some-clause-early g c = λ refusal fails.
    let same = sym (told_early c.args.header.now c.args.store.now c.forget.new.self c.in-Some.ensures.refusal c.length-size.ensures.value c.forget.ensures) ∙ fails in
    (cc same, refl)

pub returns-in-Some-clause-held : goal.returns-in-Some-clause-held
returns-in-Some-clause-held g c = λ file held is other.
    let size = c.length-size.ensures.value ∙ sym (c.args.src.now.seen.sized file held) in
    first_refusal-some (early_checks file c.forget.new.self.slots) (section_name_checks file) c.in-Some.refusal
    (sym (early_is file c.args.header.now c.length-size.result c.forget.new.self.slots is size) ∙ sym c.in-Some.ensures.refusal)

pub returns-in-Err-clause-early : goal.returns-in-Err-clause-early
returns-in-Err-clause-early g c = λ refusal fails.
    let same = sym (told_early c.args.header.now c.args.store.now c.forget.new.self c.in_default.ensures.refusal c.length-size.ensures.value c.forget.ensures) ∙ fails in
    absurd (cc same)

pub returns-in-Some-check_after_load-clause-early : goal.returns-in-Some-check_after_load-clause-early
returns-in-Some-check_after_load-clause-early g c = λ refusal fails.
    let same = sym (told_early c.args.header.now c.args.store.now c.forget.new.self c.in_default.ensures.refusal c.length-size.ensures.value c.forget.ensures) ∙ fails in
    absurd (cc same)

pub returns-clause-early : goal.returns-clause-early
returns-clause-early g c = λ refusal fails.
    let same = sym (told_early c.args.header.now c.args.store.now c.forget.new.self c.in_default.ensures.refusal c.length-size.ensures.value c.forget.ensures) ∙ fails in
    absurd (cc same)

pub returns-in-Some-clause-reads : goal.returns-in-Some-clause-reads
returns-in-Some-clause-reads g c = ReadsUpTo-none c.args.src.now _

pub returns-in-Some-clause-says : goal.returns-in-Some-clause-says
returns-in-Some-clause-says g c = λ budget.
    absurd (early_unbudgeted c.args.header.now c.length-size.result c.forget.new.self.slots c.in-Some.refusal (sym c.in-Some.ensures.refusal) budget)

pub returns-in-Err-clause-reads : goal.returns-in-Err-clause-reads
returns-in-Err-clause-reads g c =
    let early = told_early c.args.header.now c.args.store.now c.forget.new.self c.in_default.ensures.refusal c.length-size.ensures.value c.forget.ensures in
    load_reads c.args.header.now c.args.src.now.seen.size c.args.store.now.slots early c.fill.ensures.reads

pub returns-in-Err-clause-says : goal.returns-in-Err-clause-says
returns-in-Err-clause-says g c =
    let early = told_early c.args.header.now c.args.store.now c.forget.new.self c.in_default.ensures.refusal c.length-size.ensures.value c.forget.ensures in
    load_says c.args.src.now c.fill.new.src c.in-Err.fault c.args.header.now c.args.src.now.seen.size c.args.store.now.slots early c.in-Err.ensures.says

pub returns-in-Err-clause-held : goal.returns-in-Err-clause-held
returns-in-Err-clause-held g c = λ file held is. read_stops file c.in-Err.fault c.fill.new.self c.in-Err.ensures.fault

pub returns-in-Some-check_after_load-clause-reads : goal.returns-in-Some-check_after_load-clause-reads
returns-in-Some-check_after_load-clause-reads g c =
    let early = told_early c.args.header.now c.args.store.now c.forget.new.self c.in_default.ensures.refusal c.length-size.ensures.value c.forget.ensures in
    load_reads c.args.header.now c.args.src.now.seen.size c.args.store.now.slots early c.fill.ensures.reads

pub returns-in-Some-check_after_load-clause-says : goal.returns-in-Some-check_after_load-clause-says
returns-in-Some-check_after_load-clause-says g c = λ budget. absurd (c.in-Some-check_after_load.ensures.checked budget)

pub returns-in-Some-check_after_load-clause-held : goal.returns-in-Some-check_after_load-clause-held
returns-in-Some-check_after_load-clause-held g c = λ file held is other.
    let early = told_early c.args.header.now c.args.store.now c.forget.new.self c.in_default.ensures.refusal c.length-size.ensures.value c.forget.ensures in
    let slots = ap (λ (s : StoreState). s.slots) c.in-Some-check_after_load.ensures.kept ∙ c.fill.ensures.slots ∙ ap (λ (s : StoreState). s.slots) c.forget.ensures in
    let long = c.args.src.now.seen.sized file held in
    let rows = rows_loaded file c.args.header.now c.fill.new.self is c.in_default-fill.ensures.loaded (c.in_default-fill.ensures.rows file held) in
    late_answer file c.args.header.now c.args.src.now.seen.size c.args.store.now.slots _ early slots is (sym long) (c.in-Some-check_after_load.ensures.held file (long ∙ sym c.length-size.ensures.value) is rows)

pub returns-clause-reads : goal.returns-clause-reads
returns-clause-reads g c =
    let early = told_early c.args.header.now c.args.store.now c.forget.new.self c.in_default.ensures.refusal c.length-size.ensures.value c.forget.ensures in
    load_reads c.args.header.now c.args.src.now.seen.size c.args.store.now.slots early c.fill.ensures.reads

pub returns-clause-held : goal.returns-clause-held
returns-clause-held g c = λ file held is.
    let early = told_early c.args.header.now c.args.store.now c.forget.new.self c.in_default.ensures.refusal c.length-size.ensures.value c.forget.ensures in
    let slots = c.fill.ensures.slots ∙ ap (λ (s : StoreState). s.slots) c.forget.ensures in
    let long = c.args.src.now.seen.sized file held in
    let size = c.length-size.ensures.value ∙ sym long in
    let rows = rows_loaded file c.args.header.now c.fill.new.self is c.in_default-fill.ensures.loaded (c.in_default-fill.ensures.rows file held) in
    let passes = late_answer file c.args.header.now c.args.src.now.seen.size c.args.store.now.slots _ early slots is (sym long) (c.in_default-check_after_load.ensures.held file (sym size) is rows) in
    belongs_loaded file c.args.header.now c.length-size.result c.new.result c.fill.new.self c.check_after_load.new.store c.new.ensures c.in_default-check_after_load.ensures.kept size is c.in_default-fill.ensures.loaded rows passes
