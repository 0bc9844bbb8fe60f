-- The version at the place is named as it is in the file, and has the index.
use Rattle.std.proofs.Common.{◌≡◌, ◌<◌, ◌≤◌, ◌++◌, ◌%◌, List, ℕ, length, take, sym, ap, subst, ◌∙◌, arith, rules}
use Rattle.std.proofs.lemmas.List.Elements.{All-get_or}
use Rattle.std.proofs.lemmas.List.{take_all}
use Rattle.elf_library.specs.VersionNames.{HasVersionName, HasVersionNameIf}
use Rattle.elf_library.proofs.kept_version_names.KeptVersionNames.get.Goals as goal

pub returns-in-Some-clause-named : goal.returns-in-Some-clause-named
returns-in-Some-clause-named c = λ file told are.
    let places = c.args.self.now.places in
    let kept = c.in-Some.kept in
    let size : length places ≡ 16 = search rules in
    let from = c.from.ensures in
    let low : c.from.result % 16 < length places = omega (arith, size) in
    let here = rw c.in-Some.is at (All-get_or (HasVersionNameIf file told) places (c.from.result % 16) c.index-self-from.result low are) in
    let number : kept.number ≡ c.args.number = c.if-kept-number.true in
    let few : length c.as_slice.result.now ≤ 4096 = omega (arith, c.as_slice.ensures.fits) in
    let name : c.add.new.self ≡ kept.name.items =
    c.add.ensures ∙ ap (λ (front : List ℕ). take 4096 (front ++ c.as_slice.result.now)) c.clear.ensures ∙ take_all 4096 c.as_slice.result.now few ∙ c.as_slice.ensures.value in
    subst (λ (n : ℕ). HasVersionName file told n c.add.new.self kept.file) number (subst (λ (n : List ℕ). HasVersionName file told kept.number n kept.file) (sym name) here)
