use Rattle.std.proofs.Common.{◌++◌, List, ℕ, drop, refl, ap, ◌∙◌, arith}
use Rattle.elf_needs.specs.Prelude.{dirs_in, searched_paths}
use Rattle.elf_needs.proofs.DirectoryLaws.{next_text, no_text}
use Rattle.elf_needs.proofs.library_search.LibrarySearch.next.Goals as goal

pub returns-then-self-clause-none : goal.returns-then-self-clause-none
returns-then-self-clause-none c = λ _ _.
    let self = c.loop-self.self-inside in
    no_text self.root.now self.name.now self.lists.now self.at c.args.self.now c.if-self.true
    (c.loop-self.invariant.paths ∙ ap (λ (t : List (List ℕ)). t ++ searched_paths self.root.now self.name.now (dirs_in (drop self.at self.lists.now))) (c.loop-self-test.ensures.none refl c.if-tries.false))

pub loop-self-preserved : goal.loop-self-preserved
loop-self-preserved c =
    let self = c.loop-self.self-inside in
    record {
      paths = next_text self.root.now self.name.now self.lists.now _ self.at c.args.self.now c.new-self-inside.result c.if-self.false
          (c.loop-self.invariant.paths ∙ ap (λ (t : List (List ℕ)). t ++ searched_paths self.root.now self.name.now (dirs_in (drop self.at self.lists.now))) (c.loop-self-test.ensures.none refl c.if-tries.false))
          c.new-self-inside.ensures;
      few = omega (arith, c.loop-self.invariant.few, c.loop-self-test.ensures.few);
    }
