use Rattle.std.proofs.Common.{Bool, [], ◌∷◌, ap, ◌∙◌}
use Rattle.std.specs.Prelude.{OnOk, if◌then◌else◌}
use Rattle.elf_model.specs.Archive.{bytes_in}
use Rattle.elf_model.specs.LinkArchives.{or_empty}
use Rattle.elf_model.specs.LinkInputs.{members_taken}
use Rattle.elf_model.specs.LinkSymbols.{object_of}
use Rattle.elf_resolve.specs.LinkMembers.{whole_file_of}
use Rattle.elf_resolve.specs.Resolved.{linking_of}
use Rattle.elf_resolve.specs.ResolvedInputs.{TookMembers}
use Rattle.elf_resolve.proofs.TakenMemberLaws.{range_has}
use Rattle.elf_resolve.proofs.TakenObjectLaws.{as_file}
use Rattle.std.proofs.lemmas.Result.{err_from_is_err_and}
use Rattle.elf_model.specs.LinkArchives.{link_members}
use Rattle.elf_resolve.specs.EndsAtRefusal.{LeavesRows}
use Rattle.elf_resolve.proofs.StopMemberLaws.{below_length, unknown_stops}
use Rattle.elf_resolve.proofs.resolver.Resolver.take_if_file.Goals as goal

pub returns-clause-takes : goal.returns-clause-takes
returns-clause-takes g c = λ file m known has at.
    let are = range_has file c.args.self.now.tables.members.items c.deref.result.now c.range_of-members.result.now c.args.archive c.deref.ensures.value has c.range_of-members.ensures in
    let told = c.in_ok-is_taken.ensures.tells file known are.unrefused are.offsets_are in
    let taken = c.take_row.ensures.takes file m (ap whole_file_of c.in_ok-is_taken.ensures.whole ∙ known) has at in
    as_file file c.args.member m c.in_ok-is_taken.is_taken
    (λ (no_file : Bool). OnOk c.take_row.result (TookMembers c.args.self.now c.take_row.new.self
    (members_taken c.args.archive.input c.args.archive.row (linking_of c.args.self.now)
    (if no_file then [] else ((c.args.member, or_empty (object_of (bytes_in file m.extent) c.args.self.now.room.headers)) ∷ [])))))
    at told c.if-not-is_taken.false taken

pub returns-in_err-is_taken-clause-leaves : goal.returns-in_err-is_taken-clause-leaves
returns-in_err-is_taken-clause-leaves g c = λ files file m known has at headers file_is none.
    let p = err_from_is_err_and c.from_residual.result c.from_residual.ensures.1 in
    let are = range_has file c.args.self.now.tables.members.items c.deref.result.now c.range_of-members.result.now c.args.archive c.deref.ensures.value has c.range_of-members.ensures in
    rw (p.1, p.2) (unknown_stops files file c.args.member _ _ _ c.in_err-is_taken.field-0.0 (below_length (link_members file).members c.args.member m at)
    (c.in_err-is_taken.ensures.tells file known are.unrefused are.offsets_are))

pub returns-clause-leaves : goal.returns-clause-leaves
returns-clause-leaves g c = λ files file m known has at headers file_is none.
    let are = range_has file c.args.self.now.tables.members.items c.deref.result.now c.range_of-members.result.now c.args.archive c.deref.ensures.value has c.range_of-members.ensures in
    let told = c.in_ok-is_taken.ensures.tells file known are.unrefused are.offsets_are in
    let leaves = c.take_row.ensures.leaves files file m (ap whole_file_of c.in_ok-is_taken.ensures.whole ∙ known) has at headers file_is none in
    as_file file c.args.member m c.in_ok-is_taken.is_taken
    (λ (no_file : Bool). LeavesRows files ⊥ c.take_row.new.self (members_taken c.args.archive.input c.args.archive.row (linking_of c.args.self.now)
    (if no_file then [] else ((c.args.member, or_empty (object_of (bytes_in file m.extent) c.args.self.now.room.headers)) ∷ []))).rows c.take_row.result)
    at told c.if-not-is_taken.false leaves
