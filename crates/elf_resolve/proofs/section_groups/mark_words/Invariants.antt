use Rattle.std.proofs.Common.{ℕ, ◌-◌, ◌/◌, ◌≤◌, length, List, ◌++◌, drop}
use Rattle.elf_model.specs.LinkSymbols.{words_in}
use Rattle.elf_resolve.specs.SectionMarks.{MarksDropped}
use Rattle.elf_resolve.proofs.section_groups.mark_words.Given as goal

abbrev pub invariant-loop-index : goal.invariant-loop-index
invariant-loop-index l =
    (l.index - 1 ≤ length l.words / 4 - 1)
    × ((count : ℕ) (before : List ℕ) → MarksDropped count l.initial.marks before → MarksDropped count l.marks (before ++ words_in (l.index - 1) (drop 4 l.words)))
