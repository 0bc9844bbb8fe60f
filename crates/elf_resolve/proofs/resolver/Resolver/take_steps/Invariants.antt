use Rattle.std.proofs.Common.{◌≡◌, ℕ}
use Rattle.elf_model.specs.LinkInputs.{Linking}
use Rattle.elf_resolve.specs.EndsAtRefusal.{NoneRefused}
use Rattle.elf_resolve.specs.NamedRows.{KeepsRowNames}
use Rattle.elf_resolve.specs.Plans.{IsStaticPlan, planned_files}
use Rattle.elf_resolve.specs.ReadBudgets.{KeepsToBudget}
use Rattle.elf_resolve.specs.ResolvedInputs.{IsAtStep}
use Rattle.elf_resolve.proofs.resolver.Resolver.take_steps.Given as goal

abbrev pub invariant-turns : goal.invariant-turns
invariant-turns g l =
    (g.F.InputFiles.file l.files.files ≡ g.F.InputFiles.file l.initial.files.files)
    × ((headers : ℕ) (whole : Linking) → IsStaticPlan (g.F.InputFiles.file l.initial.files.files) l.plan → IsAtStep (planned_files (g.F.InputFiles.file l.initial.files.files) l.plan headers) l.plan whole l.initial.self 0
    → IsAtStep (planned_files (g.F.InputFiles.file l.initial.files.files) l.plan headers) l.plan whole l.self l.place)
    × ((headers : ℕ) (whole : Linking) → IsStaticPlan (g.F.InputFiles.file l.initial.files.files) l.plan → IsAtStep (planned_files (g.F.InputFiles.file l.initial.files.files) l.plan headers) l.plan whole l.initial.self 0
    → NoneRefused (planned_files (g.F.InputFiles.file l.initial.files.files) l.plan headers) l.initial.self.link.rows.rows → NoneRefused (planned_files (g.F.InputFiles.file l.initial.files.files) l.plan headers) l.self.link.rows.rows)
    × (g.F.InputFiles.text l.files.files ≡ g.F.InputFiles.text l.initial.files.files)
    × ((headers : ℕ) (whole : Linking) → IsStaticPlan (g.F.InputFiles.file l.initial.files.files) l.plan → IsAtStep (planned_files (g.F.InputFiles.file l.initial.files.files) l.plan headers) l.plan whole l.initial.self 0
    → KeepsRowNames (planned_files (g.F.InputFiles.file l.initial.files.files) l.plan headers) l.initial.self l.self)
    × KeepsToBudget l.initial.files.budget l.files.budget
