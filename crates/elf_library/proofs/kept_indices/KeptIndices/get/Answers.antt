-- The indices at the place are those of the name there, and that is the wanted one.
use Rattle.std.proofs.Common.{◌≡◌, ◌<◌, length, sym, ◌∙◌, arith, rules}
use Rattle.std.proofs.lemmas.List.Elements.{All-get_or}
use Rattle.std.proofs.lemmas.Slice.Eq.{bytes_eq-Decides}
use Rattle.elf_options.specs.Wants.{asked_of}
use Rattle.elf_library.specs.Indices.{IsIndicesIf}
use Rattle.elf_library.proofs.IndexLaws.{numbers_of_name}
use Rattle.elf_library.proofs.kept_indices.KeptIndices.get.Goals as goal

pub returns-in-Some : goal.returns-in-Some
returns-in-Some c = λ file told are.
    let places = c.args.self.now.places in
    let kept = c.in-Some.kept in
    let name = c.in_ok-name.name.now in
    let size : length places ≡ 16 = search rules in
    let low : c.args.place < length places = omega (arith, size, c.requires) in
    let here = rw c.in-Some.is at (All-get_or (IsIndicesIf file told) places c.args.place c.index-self-place.result low are) in
    let same : kept.name.items ≡ name = sym c.as_slice.ensures.value ∙ (bytes_eq-Decides c.as_slice.result.now name).0 (sym c.eq.ensures ∙ c.if-eq.true) in
    let wanted = rw c.in_ok-name.was at c.name.ensures in
    numbers_of_name file told (asked_of c.args.asked.now) name kept.numbers (sym wanted) (rw same at here)
