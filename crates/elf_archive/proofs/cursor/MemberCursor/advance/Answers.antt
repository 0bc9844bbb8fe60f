use Rattle.std.proofs.Common.{◌≡◌, ◌+◌, nat_le, Err, subst, sym, ap, ◌∙◌, arith}
use Rattle.std.proofs.lemmas.Result.{err_from_is_err_and}
use Rattle.elf_model.specs.Prelude.{Member, MemberWalkState, OneMember, cost_where, long_name_bytes, next_member, slice}
use Rattle.elf_source.proofs.ReadsLaws.{ReadsUpTo-then, ReadsUpTo-to}
use Rattle.elf_archive.proofs.AskLaws.{CountsRead-then, CountsRead-to, header_least, header_some, name_most, where_more, where_room}
use Rattle.elf_archive.specs.Prelude.{ReturnsMember, extent_of, extent_of_names, member_of}
use Rattle.elf_archive.specs.declared.member.Member.{Member as Given}
use Rattle.elf_archive.proofs.MemberLaws.{next-ends, next-member, tells-data, tells-name, behind-is}
use Rattle.elf_archive.proofs.cursor.MemberCursor.advance.Goals as goal

pub returns-then-self-length-clause-tells : goal.returns-then-self-length-clause-tells
returns-then-self-length-clause-tells g c = λ file held.
    let sized = c.args.src.now.seen.sized file held in
    let at = ap (λ (v : MemberWalkState). v.at) c.self.view_is in
    next-ends file c.args.cap.bytes c.args.self.now (omega (arith, sized, at))

pub returns-in_err-extent-clause-tells : goal.returns-in_err-extent-clause-tells
returns-in_err-extent-clause-tells g c = λ file held.
    let p = err_from_is_err_and c.from_residual.result c.from_residual.ensures.1 in
    let sized = c.args.src.now.seen.sized file held in
    let P : MemberWalkState → Type 0 = λ v. ReturnsMember file c.args.cap.bytes v v c.args.name.now (Err c.in_err-extent.field-0.0) in
    rw (p.1, p.2) (subst P c.self.view_is (tells-data file c.args.name.now c.args.cap.bytes _ _ (omega (arith, sized)) (c.in_err-extent.ensures.read file held).1))

pub returns-in_err-is_cut-clause-tells : goal.returns-in_err-is_cut-clause-tells
returns-in_err-is_cut-clause-tells g c = λ file held.
    let p = err_from_is_err_and c.from_residual-in_err-is_cut.result c.from_residual-in_err-is_cut.ensures.1 in
    let sized = c.args.src.now.seen.sized file held in
    let header = (c.in_ok-extent.ensures.read file held).0 in
    let now = c.in_ok-extent.ensures.asks.0.keeps.same_file ∙ held in
    let P : MemberWalkState → Type 0 = λ v. ReturnsMember file c.args.cap.bytes v v c.read_name.new.name (Err c.in_err-is_cut.field-0.0) in
    rw (p.1, p.2) (subst P c.self.view_is
    (tells-name file c.read_name.new.name c.args.cap.bytes (extent_of c.in_ok-extent.extent) _ _ (omega (arith, sized)) (c.in_ok-extent.ensures.read file held).1 (c.in_err-is_cut.ensures.read file now header)))

pub returns-clause-tells : goal.returns-clause-tells
returns-clause-tells g c = λ file held.
    let sized = c.args.src.now.seen.sized file held in
    let header = (c.in_ok-extent.ensures.read file held).0 in
    let now = c.in_ok-extent.ensures.asks.0.keeps.same_file ∙ held in
    let given : Given = record { index = c.self.inside.index; extent = c.in_ok-extent.extent; is_cut = c.in_ok-is_cut.is_cut } in
    let m : Member = member_of given c.read_name.new.name in
    let P : MemberWalkState → Type 0 = λ v. next_member file c.args.cap.bytes v ≡ OneMember m in
    let Q : MemberWalkState → Type 0 = λ v. c.read_header.new.header ≡ slice file v.at 60 in
    let v : MemberWalkState = record { at = c.self.inside.at; index = c.self.inside.index; names = extent_of_names c.self.inside.names } in
    let at : v.at ≡ c.args.self.now.at = ap (λ (u : MemberWalkState). u.at) c.self.view_is in (
      subst P c.self.view_is
          (next-member file c.args.cap.bytes (extent_of c.in_ok-extent.extent) v _ (omega (arith, sized)) (c.in_ok-extent.ensures.read file held).1 (c.in_ok-is_cut.ensures.read file now header)),
      behind-is file _ c.args.self.now c.pass.new.self m (subst Q c.self.view_is header) c.pass.ensures.at c.pass.ensures.index c.pass.ensures.names,
    )

pub returns-in_err-extent-clause-cost : goal.returns-in_err-extent-clause-cost
returns-in_err-extent-clause-cost g c = λ file held.
    let p = err_from_is_err_and c.from_residual.result c.from_residual.ensures.1 in
    let sized = c.args.src.now.seen.sized file held in
    let at = ap (λ (v : MemberWalkState). v.at) c.self.view_is in
    let same = ap (λ a. cost_where (nat_le (a + 60) c.args.src.now.seen.size) 60) at
    ∙ ap (λ n. cost_where (nat_le (c.args.self.now.at + 60) n) 60) (sym sized) in
    let least = header_least file c.args.cap.bytes c.args.self.now in
    rw (p.1, p.2) (CountsRead-to {X = Unit {0}} _ _ (Err c.in_err-extent.field-0.0) _ _ (omega (arith, same, least)) c.in_err-extent.ensures.asks)

pub returns-in_err-is_cut-clause-cost : goal.returns-in_err-is_cut-clause-cost
returns-in_err-is_cut-clause-cost g c = λ file held.
    let p = err_from_is_err_and c.from_residual-in_err-is_cut.result c.from_residual-in_err-is_cut.ensures.1 in
    let sized = c.args.src.now.seen.sized file held in
    let at = ap (λ (v : MemberWalkState). v.at) c.self.view_is in
    let header = (c.in_ok-extent.ensures.read file held).0 in
    let lies = c.in_ok-extent.ensures.lies.0 in
    let begins = c.in_ok-extent.ensures.lies.1 in
    let cost = header_some file c.read_header.new.header c.args.cap.bytes c.self.inside.at c.args.self.now (sym at) header (omega (arith, begins, lies, sized)) in
    let first = where_room c.self.inside.at c.args.src.now.seen.size 60 (omega (arith, begins, lies)) in
    rw (p.1, p.2) (CountsRead-then {X = Unit {0}} _ _ _ (Err c.in_err-is_cut.field-0.0) _ _ _ (omega (arith, cost, first)) c.in_ok-extent.ensures.asks.0 c.in_err-is_cut.ensures.asks)

pub returns-clause-cost : goal.returns-clause-cost
returns-clause-cost g c = λ file held.
    let sized = c.args.src.now.seen.sized file held in
    let at = ap (λ (v : MemberWalkState). v.at) c.self.view_is in
    let header = (c.in_ok-extent.ensures.read file held).0 in
    let lies = c.in_ok-extent.ensures.lies.0 in
    let begins = c.in_ok-extent.ensures.lies.1 in
    let cost = header_some file c.read_header.new.header c.args.cap.bytes c.self.inside.at c.args.self.now (sym at) header (omega (arith, begins, lies, sized)) in
    let first = where_room c.self.inside.at c.args.src.now.seen.size 60 (omega (arith, begins, lies)) in
    let reads = c.in_ok-is_cut.ensures.asks.0 in
    let before = c.in_ok-extent.ensures.asks.0 in
    (ReadsUpTo-to (ReadsUpTo-then before reads) (omega (arith, cost, first, before.at_most, reads.at_most)), tt)

pub returns-in_err-extent-clause-asks : goal.returns-in_err-extent-clause-asks
returns-in_err-extent-clause-asks g c =
    let p = err_from_is_err_and c.from_residual.result c.from_residual.ensures.1 in
    let at = ap (λ (v : MemberWalkState). v.at) c.self.view_is in
    let same = ap (λ a. cost_where (nat_le (a + 60) c.args.src.now.seen.size) 60) at in
    let more = where_more (nat_le (c.args.self.now.at + 60) c.args.src.now.seen.size) 60 (60 + long_name_bytes c.args.cap.bytes) (omega arith) in
    rw (p.1, p.2) (CountsRead-to {X = Unit {0}} _ _ (Err c.in_err-extent.field-0.0) _ _ (omega (arith, same, more)) c.in_err-extent.ensures.asks)

pub returns-in_err-extent-clause-steps : goal.returns-in_err-extent-clause-steps
returns-in_err-extent-clause-steps g c =
    let p = err_from_is_err_and c.from_residual.result c.from_residual.ensures.1 in
    rw p.1 tt

pub returns-in_err-is_cut-clause-asks : goal.returns-in_err-is_cut-clause-asks
returns-in_err-is_cut-clause-asks g c =
    let p = err_from_is_err_and c.from_residual-in_err-is_cut.result c.from_residual-in_err-is_cut.ensures.1 in
    let at = ap (λ (v : MemberWalkState). v.at) c.self.view_is in
    let lies = c.in_ok-extent.ensures.lies.0 in
    let begins = c.in_ok-extent.ensures.lies.1 in
    let most = name_most c.read_header.new.header c.args.cap.bytes in
    let first = where_room c.self.inside.at c.args.src.now.seen.size 60 (omega (arith, begins, lies)) in
    let all = where_room c.args.self.now.at c.args.src.now.seen.size (60 + long_name_bytes c.args.cap.bytes) (omega (arith, begins, lies, at)) in
    rw (p.1, p.2) (CountsRead-then {X = Unit {0}} _ _ _ (Err c.in_err-is_cut.field-0.0) _ _ _ (omega (arith, most, first, all)) c.in_ok-extent.ensures.asks.0 c.in_err-is_cut.ensures.asks)

pub returns-in_err-is_cut-clause-steps : goal.returns-in_err-is_cut-clause-steps
returns-in_err-is_cut-clause-steps g c =
    let p = err_from_is_err_and c.from_residual-in_err-is_cut.result c.from_residual-in_err-is_cut.ensures.1 in
    rw p.1 tt

pub returns-clause-asks : goal.returns-clause-asks
returns-clause-asks g c =
    let at = ap (λ (v : MemberWalkState). v.at) c.self.view_is in
    let lies = c.in_ok-extent.ensures.lies.0 in
    let begins = c.in_ok-extent.ensures.lies.1 in
    let most = name_most c.read_header.new.header c.args.cap.bytes in
    let first = where_room c.self.inside.at c.args.src.now.seen.size 60 (omega (arith, begins, lies)) in
    let all = where_room c.args.self.now.at c.args.src.now.seen.size (60 + long_name_bytes c.args.cap.bytes) (omega (arith, begins, lies, at)) in
    let reads = c.in_ok-is_cut.ensures.asks.0 in
    let before = c.in_ok-extent.ensures.asks.0 in
    (ReadsUpTo-to (ReadsUpTo-then before reads) (omega (arith, most, first, all, before.at_most, reads.at_most)), tt)
