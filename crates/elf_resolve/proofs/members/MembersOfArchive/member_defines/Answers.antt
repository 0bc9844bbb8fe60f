use Rattle.std.proofs.Common.{◌<◌, length, ap, subst, ◌∙◌, arith}
use Rattle.std.specs.Prelude.{None}
use Rattle.std.proofs.lemmas.List.{length-map}
use Rattle.std.proofs.lemmas.Result.{err_from_is_err_and}
use Rattle.elf_archive.specs.Members.{extent_of}
use Rattle.elf_model.specs.Archive.{FileRange, bytes_in}
use Rattle.elf_model.specs.Bytes.{slice}
use Rattle.elf_model.specs.LinkArchives.{link_members}
use Rattle.elf_model.specs.LinkPasses.{index_name}
use Rattle.elf_model.specs.LinkSymbols.{object_defines}
use Rattle.elf_resolve.specs.LinkMembers.{whole_file_of}
use Rattle.elf_resolve.specs.MemberExtents.{member_refused}
use Rattle.elf_resolve.specs.Taken.{IsLinkFault, header_of}
use Rattle.elf_resolve.proofs.IndexParts.{unrefused_small}
use Rattle.elf_resolve.proofs.MemberTaking.{data_of_index, defines_by, extent_of_index, header_of_index, widened_file}
use Rattle.elf_resolve.proofs.MemberWalks.{data_within_file}
use Rattle.elf_resolve.proofs.members.MembersOfArchive.member_defines.Goals as goal

pub returns-in-Ok-clause-defines : goal.returns-in-Ok-clause-defines
returns-in-Ok-clause-defines g c = λ known.
    let file = known.file in
    let member = c.args.entry.member in
    let at = c.in_ok-at.at in
    let place = c.in_ok-at.ensures.place in
    let below : member < length (link_members file).members = omega (arith, place.0, ap length known.offsets_are, length-map (link_members file).members header_of) in
    let here = header_of_index file c.args.self.now.members.now member at known.offsets_are below place.1 in
    let whole = widened_file c.args.self.now.src.now c.widen.new.self file c.widen.ensures known.is in
    let head = c.in_ok-extent.ensures.reads file whole in
    let held = ap whole_file_of (c.in_ok-extent.ensures.keeps.same_whole ∙ c.widen.ensures.same_whole) ∙ known.is in
    let extent = extent_of c.in_ok-extent.extent in
    let headers = c.args.self.now.room.now.headers in
    let name = index_name c.args.keys.now.keys c.args.entry in
    let found = c.in-Ok.ensures.finds (slice file extent.at extent.size) (c.in_ok-narrow_to.ensures.narrows file held) in
    found ∙ ap (λ (e : FileRange). object_defines (bytes_in file e) headers name) (extent_of_index file member at extent below here head.data_are) ∙ defines_by file headers member name

pub returns-in_err-at-clause-fails : goal.returns-in_err-at-clause-fails
returns-in_err-at-clause-fails g c = λ known.
    let p = err_from_is_err_and c.from_residual.result c.from_residual.ensures.1 in
    let none = c.in_err-at.ensures.none in
    rw (p.1, p.2) (λ below. absurd (omega (arith, none, below)))

pub returns-in_err-extent-clause-fails : goal.returns-in_err-extent-clause-fails
returns-in_err-extent-clause-fails g c = λ known.
    let p = err_from_is_err_and c.from_residual-in_err-extent.result c.from_residual-in_err-extent.ensures.1 in
    let f = c.in_err-extent.field-0.0 in
    let file = known.file in
    let member = c.args.entry.member in
    let at = c.in_ok-at.at in
    let place = c.in_ok-at.ensures.place in
    let under : member < length (link_members file).members = omega (arith, place.0, ap length known.offsets_are, length-map (link_members file).members header_of) in
    let here = header_of_index file c.args.self.now.members.now member at known.offsets_are under place.1 in
    let whole = widened_file c.args.self.now.src.now c.widen.new.self file c.widen.ensures known.is in
    let says = c.in_err-extent.ensures.reads file whole (unrefused_small file known.unrefused) in
    rw (p.1, p.2) (λ below. subst (λ d. IsLinkFault (member_refused at d) f) (data_of_index file member at under here) says)

pub returns-in_err-narrow_to-clause-fails : goal.returns-in_err-narrow_to-clause-fails
returns-in_err-narrow_to-clause-fails g c = λ known.
    let p = err_from_is_err_and c.from_residual-in_err-narrow_to.result c.from_residual-in_err-narrow_to.ensures.1 in
    let file = known.file in
    let at = c.in_ok-at.at in
    let whole = widened_file c.args.self.now.src.now c.widen.new.self file c.widen.ensures known.is in
    let head = c.in_ok-extent.ensures.reads file whole in
    let held = ap whole_file_of (c.in_ok-extent.ensures.keeps.same_whole ∙ c.widen.ensures.same_whole) ∙ known.is in
    let within = data_within_file file at (extent_of c.in_ok-extent.extent) head.data_are in
    let fails = c.in_err-narrow_to.ensures.fails file held in
    absurd (omega (arith, within, fails))

pub returns-in-Err-clause-fails : goal.returns-in-Err-clause-fails
returns-in-Err-clause-fails g c = λ known below.
    let file = known.file in
    let whole = widened_file c.args.self.now.src.now c.widen.new.self file c.widen.ensures known.is in
    let held = ap whole_file_of (c.in_ok-extent.ensures.keeps.same_whole ∙ c.widen.ensures.same_whole) ∙ known.is in
    let extent = extent_of c.in_ok-extent.extent in
    c.in_member.ensures None tt (c.in-Err.ensures.finds (slice file extent.at extent.size) (c.in_ok-narrow_to.ensures.narrows file held))
