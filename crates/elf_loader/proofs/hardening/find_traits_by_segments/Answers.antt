-- The symbols that are known, the dynamic entries, the feature bits, and the traits of the symbols.
use Rattle.std.proofs.Common.{ℕ, ◌+◌, ◌*◌, Ok, ap, sym, ◌∙◌, arith}
use Rattle.elf_model.specs.Prelude.{properties_asked, trait_entries_asked}
use Rattle.elf_model.specs.declared.traits.Hardening.{Hardening}
use Rattle.std.proofs.lemmas.Result.{err_from_is_err_and}
use Rattle.elf_table.proofs.LedgerLaws.{CallReads-more, CallReads-then, CallDid-as, CallDid-then}
use Rattle.elf_hash.specs.Segments.{entries_asked}
use Rattle.elf_loader.specs.Known.{counts_asked}
use Rattle.elf_loader.proofs.FindingLaws.{entries_stop, known_is, known_lie, known_stops, marks_stop, symbols_cost, traits_are, word_stops}
use Rattle.elf_loader.proofs.hardening.find_traits_by_segments.Goals as goal

pub returns-in_err-known : goal.returns-in_err-known
returns-in_err-known g c =
    let p = err_from_is_err_and c.from_residual.result c.from_residual.ensures.1 in
    rw (p.1, p.2)
    (CallDid-as _ (omega arith) c.in_err-known.ensures.did
    (λ file told costs views.
    let found = told views in
    let symbols = symbols_cost file in
    record { costs = CallReads-more _ (omega (arith, symbols)) found.costs; finds = known_stops file _ found.finds }))

pub returns-in_err-entries : goal.returns-in_err-entries
returns-in_err-entries g c =
    let p = err_from_is_err_and c.from_residual-in_err-entries.result c.from_residual-in_err-entries.ensures.1 in
    let same = c.in_ok-known.ensures.did.costs.reads.keeps.same_size in
    rw (p.1, p.2)
    (CallDid-as _ (omega (arith, same)) (CallDid-then c.in_ok-known.ensures.did c.in_err-entries.ensures)
    (λ file told costs views.
    let known = told.0 views in
    let entries = told.1 views in
    let scope = known_is file _ known.finds in
    let symbols = symbols_cost file in
    record {
      costs = CallReads-then _ (omega (arith, symbols)) known.costs entries.costs;
      finds = entries_stop file scope.0 scope.1 _ entries.finds;
    }))

pub returns-in_err-word : goal.returns-in_err-word
returns-in_err-word g c =
    let p = err_from_is_err_and c.from_residual-in_err-word.result c.from_residual-in_err-word.ensures.1 in
    let before = CallDid-then c.in_ok-known.ensures.did c.in_ok-entries.ensures in
    let same = c.in_ok-known.ensures.did.costs.reads.keeps.same_size in
    let later = c.in_ok-entries.ensures.costs.reads.keeps.same_size in
    let product = ap (λ (n : ℕ). c.args.view.now.store.now.segments * n) (later ∙ same) in
    rw (p.1, p.2)
    (CallDid-as _ (omega (arith, same, later, product)) (CallDid-then before c.in_err-word.ensures)
    (λ file told costs views.
    let known = told.0.0 views in
    let entries = told.0.1 views in
    let word = told.1 views in
    let scope = known_is file _ known.finds in
    let symbols = symbols_cost file in
    record {
      costs = CallReads-then _ (omega (arith, symbols)) (CallReads-then (entries_asked file + counts_asked file + trait_entries_asked file) (omega arith) known.costs entries.costs) word.costs;
      finds = word_stops file scope.0 scope.1 _ word.finds;
    }))

pub returns-in_err-marks : goal.returns-in_err-marks
returns-in_err-marks g c =
    let p = err_from_is_err_and c.from_residual-in_err-marks.result c.from_residual-in_err-marks.ensures.1 in
    let before = CallDid-then (CallDid-then c.in_ok-known.ensures.did c.in_ok-entries.ensures) c.in_ok-word.ensures in
    let same = c.in_ok-known.ensures.did.costs.reads.keeps.same_size in
    let later = c.in_ok-entries.ensures.costs.reads.keeps.same_size in
    let last = c.in_ok-word.ensures.costs.reads.keeps.same_size in
    let product = ap (λ (n : ℕ). c.args.view.now.store.now.segments * n) (later ∙ same) in
    rw (p.1, p.2)
    (CallDid-as _ (omega (arith, same, later, last, product)) (CallDid-then before c.in_err-marks.ensures)
    (λ file told costs views.
    let known = told.0.0.0 views in
    let entries = told.0.0.1 views in
    let word = told.0.1 views in
    let marks = told.1 known.finds in
    let scope = known_is file _ known.finds in
    let symbols = symbols_cost file in
    record {
      costs = CallReads-then _ (omega (arith, symbols)) (CallReads-then (entries_asked file + counts_asked file + trait_entries_asked file + properties_asked file) (omega arith) (CallReads-then (entries_asked file + counts_asked file + trait_entries_asked file) (omega arith) known.costs entries.costs) word.costs) marks.costs;
      finds = marks_stop file scope.0 scope.1 _ word.finds _ marks.finds;
    }))

pub counted_symbol_traits-requires : goal.counted_symbol_traits-requires
counted_symbol_traits-requires g c =
    let same = c.in_ok-known.ensures.did.costs.reads.keeps.same_size in
    let later = c.in_ok-entries.ensures.costs.reads.keeps.same_size in
    let last = c.in_ok-word.ensures.costs.reads.keeps.same_size in
    known_lie _ _ _ (sym (last ∙ (later ∙ same))) c.in_ok-known.ensures.within

pub returns : goal.returns
returns g c =
    let before = CallDid-then (CallDid-then c.in_ok-known.ensures.did c.in_ok-entries.ensures) c.in_ok-word.ensures in
    let same = c.in_ok-known.ensures.did.costs.reads.keeps.same_size in
    let later = c.in_ok-entries.ensures.costs.reads.keeps.same_size in
    let last = c.in_ok-word.ensures.costs.reads.keeps.same_size in
    let product = ap (λ (n : ℕ). c.args.view.now.store.now.segments * n) (later ∙ same) in
    CallDid-as _ (omega (arith, same, later, last, product)) (CallDid-then before c.in_ok-marks.ensures)
    (λ file told costs views.
    let known = told.0.0.0 views in
    let entries = told.0.0.1 views in
    let word = told.0.1 views in
    let marks = told.1 known.finds in
    let scope = known_is file _ known.finds in
    let symbols = symbols_cost file in
    let traits = c.traits_with.ensures file views entries.finds in
    record {
      costs = CallReads-then _ (omega (arith, symbols)) (CallReads-then (entries_asked file + counts_asked file + trait_entries_asked file + properties_asked file) (omega arith) (CallReads-then (entries_asked file + counts_asked file + trait_entries_asked file) (omega arith) known.costs entries.costs) word.costs) marks.costs;
      finds = traits_are file scope.0 scope.1 _ word.finds _ marks.finds ∙ ap (λ (t : Hardening). Ok t) (sym traits);
    })
