-- The indices are kept by the name that is wanted.
use Rattle.std.proofs.Common.{◌≡◌, ◌++◌, List, ℕ, sym, ap, subst, ◌∙◌}
use Rattle.std.proofs.lemmas.List.Elements.{All-set}
use Rattle.elf_model.specs.Prelude.{Version}
use Rattle.elf_options.specs.Wants.{asked_of}
use Rattle.elf_library.specs.Indices.{AreNumbersOf, IsIndicesIf}
use Rattle.elf_library.proofs.IndexLaws.{numbers_by_name, on_ok}
use Rattle.elf_library.proofs.kept_indices.KeptIndices.keep.Goals as goal

pub returns-then-is_ok-clause-known : goal.returns-then-is_ok-clause-known
returns-then-is_ok-clause-known c = λ file told are numbers.
    let version = c.in-Some.version.now in
    let put = on_ok c.try_extend_from_slice.result (sym c.is_ok.ensures.value ∙ c.if-is_ok.true) c.try_extend_from_slice.ensures.ok in
    let name : c.try_extend_from_slice.new.self.items ≡ version = put ∙ ap (λ (front : List ℕ). front ++ version) c.new-name.ensures in
    let wanted = rw c.in-Some.is at c.name.ensures in
    All-set (IsIndicesIf file told) c.args.self.now.places c.args.place _
    (subst (λ (n : List ℕ). AreNumbersOf file told (Version n) c.args.numbers) (sym name) (numbers_by_name file told (asked_of c.args.asked.now) version c.args.numbers (sym wanted) numbers))
    are
