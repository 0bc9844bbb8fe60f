use Rattle.std.proofs.Common.{◌<◌, length, refl, ap, subst, arith}
use Rattle.std.proofs.lemmas.List.{length-map}
use Rattle.std.proofs.lemmas.Result.{err_from_is_err_and}
use Rattle.elf_model.specs.LinkArchives.{link_members}
use Rattle.elf_resolve.specs.MemberExtents.{member_refused}
use Rattle.elf_resolve.specs.Taken.{IsLinkFault, header_of}
use Rattle.elf_resolve.proofs.IndexParts.{unrefused_small}
use Rattle.elf_resolve.proofs.MemberTaking.{data_of_index, file_by, header_of_index, member_of_index, widened_file}
use Rattle.elf_resolve.proofs.member_files.is_file.Goals as goal

pub returns-in_err-at-clause-tells : goal.returns-in_err-at-clause-tells
returns-in_err-at-clause-tells g c = λ file held unrefused are.
    let p = err_from_is_err_and c.from_residual.result c.from_residual.ensures.1 in
    let none = c.in_err-at.ensures.none in
    rw (p.1, p.2) (λ below. absurd (omega (arith, none, below, ap length are, length-map (link_members file).members header_of)))

pub returns-in_err-read_header_at-clause-tells : goal.returns-in_err-read_header_at-clause-tells
returns-in_err-read_header_at-clause-tells g c = λ file held unrefused are.
    let p = err_from_is_err_and c.from_residual-in_err-read_header_at.result c.from_residual-in_err-read_header_at.ensures.1 in
    let f = c.in_err-read_header_at.field-0.0 in
    let at = c.in_ok-at.at in
    let whole = widened_file c.args.src.now c.widen.new.self file c.widen.ensures held in
    let says = c.in_err-read_header_at.ensures.reads file whole (unrefused_small file unrefused) in
    rw (p.1, p.2) (λ below.
    let here = header_of_index file c.args.members.now c.args.member at are below c.in_ok-at.ensures.place.1 in
    subst (λ d. IsLinkFault (member_refused at d) f) (data_of_index file c.args.member at below here) says)

pub returns-clause-tells : goal.returns-clause-tells
returns-clause-tells g c = λ file held unrefused are.
    let at = c.in_ok-at.at in
    let place = c.in_ok-at.ensures.place in
    let below : c.args.member < length (link_members file).members = omega (arith, place.0, ap length are, length-map (link_members file).members header_of) in
    let here = header_of_index file c.args.members.now c.args.member at are below place.1 in
    let whole = widened_file c.args.src.now c.widen.new.self file c.widen.ensures held in
    let head = c.in_ok-read_header_at.ensures.reads file whole in
    (below, file_by file c.read_header_at.new.header at (member_of_index file c.args.member).header c.is_no_file.result _ head.bytes here c.is_no_file.ensures refl)
