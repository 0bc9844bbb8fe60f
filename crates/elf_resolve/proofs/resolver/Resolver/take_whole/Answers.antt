use Rattle.std.proofs.Common.{◌<◌, ◌≤◌, length, ap, ◌∙◌, arith, get_or}
use Rattle.std.proofs.lemmas.Option.{slice_get-get_or}
use Rattle.elf_model.specs.LinkArchives.{link_members, no_member}
use Rattle.elf_resolve.specs.LinkMembers.{whole_file_of}
use Rattle.elf_resolve.proofs.TakenMemberLaws.{members_count, range_has, still_has, whole_end, whole_more}
use Rattle.std.proofs.Common.{[], ◌∷◌, sym, subst}
use Rattle.std.proofs.lemmas.Result.{err_from_is_err_and}
use Rattle.elf_model.specs.LinkArchives.{whole_members}
use Rattle.elf_model.specs.LinkInputs.{members_taken}
use Rattle.elf_resolve.specs.Resolved.{linking_of}
use Rattle.elf_resolve.proofs.BeginLaws.{Begins}
use Rattle.elf_resolve.proofs.RefusalLaws.{stops_within}
use Rattle.elf_resolve.proofs.StopMemberLaws.{members_first, room_stops}
use Rattle.elf_resolve.proofs.resolver.Resolver.take_whole.Goals as goal

pub loop-number-preserved : goal.loop-number-preserved
loop-number-preserved g c = (
  c.take_if_file.ensures.below ∙ c.loop-number.invariant.0,
  λ file known has.
      let before = c.loop-number.invariant.1 file known has in
      let ms = (link_members file).members in
      let are = range_has file c.args.self.now.tables.members.items c.deref.result.now c.range_of-count.result.now c.args.archive c.deref.ensures.value has c.range_of-count.ensures in
      let below : c.loop-number.number < length ms = omega (arith, members_count file _ _ are, c.in-Ok.ensures, c.loop-number-test.true) in
      let at = slice_get-get_or ms c.loop-number.number no_member below in
      let taken = c.in_ok-take_if_file.ensures.takes file (get_or ms c.loop-number.number no_member) (ap whole_file_of c.loop-number.invariant.0 ∙ known) (still_has file _ _ _ _ before.0 has) at in
      whole_more file c.args.self.now c.loop-number.self c.take_if_file.new.self c.args.archive.input c.args.archive.row c.loop-number.number _ before.0 before.1 below taken,
  λ files file known has headers file_is none.
      let before = c.loop-number.invariant.1 file known has in
      let ms = (link_members file).members in
      let are = range_has file c.args.self.now.tables.members.items c.deref.result.now c.range_of-count.result.now c.args.archive c.deref.ensures.value has c.range_of-count.ensures in
      let below : c.loop-number.number < length ms = omega (arith, members_count file _ _ are, c.in-Ok.ensures, c.loop-number-test.true) in
      let at = slice_get-get_or ms c.loop-number.number no_member below in
      c.in_ok-take_if_file.ensures.leaves files file (get_or ms c.loop-number.number no_member) (ap whole_file_of c.loop-number.invariant.0 ∙ known) (still_has file _ _ _ _ before.0 has) at (headers ∙ sym before.0.headers) file_is
      (c.loop-number.invariant.2 files file known has headers file_is none),
  λ files file file_is known has held.
      let before = c.loop-number.invariant.1 file known has in
      c.in_ok-take_if_file.ensures.names files file file_is (ap whole_file_of c.loop-number.invariant.0 ∙ known) (still_has file _ _ _ _ before.0 has) (c.loop-number.invariant.3 files file file_is known has held),
  c.take_if_file.ensures.most ∙ c.loop-number.invariant.4,
)

pub returns-clause-takes : goal.returns-clause-takes
returns-clause-takes g c = λ file known has.
    let before = c.loop-number.invariant.1 file known has in
    let are = range_has file c.args.self.now.tables.members.items c.deref.result.now c.range_of-count.result.now c.args.archive c.deref.ensures.value has c.range_of-count.ensures in
    let above : length (link_members file).members ≤ c.loop-number.number = omega (arith, members_count file _ _ are, c.in-Ok.ensures, c.loop-number-test.false) in
    whole_end file c.args.self.now c.loop-number.self c.args.archive.input c.args.archive.row c.loop-number.number _ before.0 before.1 above

pub returns-in_err-take_if_file-clause-leaves : goal.returns-in_err-take_if_file-clause-leaves
returns-in_err-take_if_file-clause-leaves g c = λ files file known has headers file_is none.
    let p = err_from_is_err_and c.from_residual.result c.from_residual.ensures.1 in
    let before = c.loop-number.invariant.1 file known has in
    let ms = (link_members file).members in
    let number = c.loop-number.number in
    let now = c.loop-number.self in
    let m = get_or ms number no_member in
    let are = range_has file c.args.self.now.tables.members.items c.deref.result.now c.range_of-count.result.now c.args.archive c.deref.ensures.value has c.range_of-count.ensures in
    let below : number < length ms = omega (arith, members_count file _ _ are, c.in-Ok.ensures, c.loop-number-test.true) in
    let at = slice_get-get_or ms number no_member below in
    let none_now = c.loop-number.invariant.2 files file known has headers file_is none in
    let begins = members_first file c.args.archive.input c.args.archive.row number c.args.self.now.room.headers (linking_of now) (members_taken c.args.archive.input c.args.archive.row (linking_of c.args.self.now) (whole_members file 0 ms c.args.self.now.room.headers)) below before.1 in
    let leaves = c.in_err-take_if_file.ensures.leaves files file m (ap whole_file_of c.loop-number.invariant.0 ∙ known) (still_has file _ _ _ _ before.0 has) at (headers ∙ sym before.0.headers) file_is none_now in
    rw (p.1, p.2) (stops_within files ⊥ ⊥ _ _ _ _ c.in_err-take_if_file.field-0.0 (λ none_such. none_such)
    (subst (λ h. Begins (members_taken c.args.archive.input c.args.archive.row (linking_of now) (whole_members file number (m ∷ []) h)).rows (members_taken c.args.archive.input c.args.archive.row (linking_of c.args.self.now) (whole_members file 0 ms c.args.self.now.room.headers)).rows) (sym before.0.headers) begins) leaves)

pub returns-in_default-clause-leaves : goal.returns-in_default-clause-leaves
returns-in_default-clause-leaves g c = λ files file known has headers file_is none.
    rw c.refused.ensures (room_stops files ⊥ _ _ _ 0)

pub returns-clause-leaves : goal.returns-clause-leaves
returns-clause-leaves g c = λ files file known has headers file_is none. c.loop-number.invariant.2 files file known has headers file_is none
