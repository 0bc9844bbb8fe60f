-- The entry belongs to the part, or to another, or should be of R_X86_64_RELATIVE.
use Rattle.std.proofs.Common.{◌∙◌, Bool, false, true, [], ◌∷◌, ap, sym}
use Rattle.elf_image.specs.EntryOrder.{part_changes, relative_from}
use Rattle.elf_image.proofs.EntryTakenSteps.{direct-kept, direct-one, direct-refused, other-type, resolved-none, resolved-one, resolved-type, takes-entry, unsupported-type}
use Rattle.elf_image.proofs.entries.OrderedEntries.taken.Goals as goal

pub returns-then-kind-eq-R_X86_64_IRELATIVE-clause-takes : goal.returns-then-kind-eq-R_X86_64_IRELATIVE-clause-takes
returns-then-kind-eq-R_X86_64_IRELATIVE-clause-takes c = λ source rela.
    let row = c.args.row in
    let self = c.args.self.now in
    let relative = relative_from self.ranges self.part.second row.index in
    let resolved = resolved-type source.file row.at c.kind-kind.result row.entry rela c.kind-kind.ensures c.if-kind-eq-R_X86_64_IRELATIVE.true in
    let changes = ap (λ (indirect : Bool). part_changes source indirect relative (row.at ∷ [])) c.if-self.true ∙ resolved-one source row.at relative resolved in
    takes-entry source row _ c.row_step.result c.row_step.ensures changes

pub returns-then-self-clause-takes : goal.returns-then-self-clause-takes
returns-then-self-clause-takes c = λ source rela.
    let row = c.args.row in
    let self = c.args.self.now in
    let other = other-type source.file row.at c.kind-kind.result row.entry rela c.kind-kind.ensures c.if-kind-eq-R_X86_64_IRELATIVE.false in
    rw c.if-self.true (resolved-none source row.at (relative_from self.ranges self.part.second row.index) other)

pub returns-then-is_unsupported-clause-takes : goal.returns-then-is_unsupported-clause-takes
returns-then-is_unsupported-clause-takes c = λ source rela.
    let row = c.args.row in
    let self = c.args.self.now in
    let relative = relative_from self.ranges self.part.second row.index in
    let fails = unsupported-type source.file row.at c.kind-kind.result relative row.entry true rela c.kind-kind.ensures (sym c.is_unsupported.ensures ∙ c.if-is_unsupported.true) in
    rw (c.if-self.false, c.refused.ensures) (direct-refused source row.at relative fails)

pub returns-then-kind-eq-R_X86_64_IRELATIVE-2-clause-takes : goal.returns-then-kind-eq-R_X86_64_IRELATIVE-2-clause-takes
returns-then-kind-eq-R_X86_64_IRELATIVE-2-clause-takes c = λ source rela.
    let row = c.args.row in
    let self = c.args.self.now in
    let relative = relative_from self.ranges self.part.second row.index in
    let fine = unsupported-type source.file row.at c.kind-kind.result relative row.entry false rela c.kind-kind.ensures (sym c.is_unsupported.ensures ∙ c.if-is_unsupported.false) in
    let resolved = resolved-type source.file row.at c.kind-kind.result row.entry rela c.kind-kind.ensures c.if-kind-eq-R_X86_64_IRELATIVE-2.true in
    rw c.if-self.false (direct-kept source row.at relative fine resolved)

pub returns-clause-takes : goal.returns-clause-takes
returns-clause-takes c = λ source rela.
    let row = c.args.row in
    let self = c.args.self.now in
    let relative = relative_from self.ranges self.part.second row.index in
    let fine = unsupported-type source.file row.at c.kind-kind.result relative row.entry false rela c.kind-kind.ensures (sym c.is_unsupported.ensures ∙ c.if-is_unsupported.false) in
    let other = other-type source.file row.at c.kind-kind.result row.entry rela c.kind-kind.ensures c.if-kind-eq-R_X86_64_IRELATIVE-2.false in
    let changes = ap (λ (indirect : Bool). part_changes source indirect relative (row.at ∷ [])) c.if-self.false ∙ direct-one source row.at relative fine other in
    takes-entry source row _ c.row_step-2.result c.row_step-2.ensures changes
