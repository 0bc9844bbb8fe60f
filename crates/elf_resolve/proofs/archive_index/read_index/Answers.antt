use Rattle.std.proofs.Common.{◌≡◌, ◌∷◌, [], List, ◌+◌, ◌*◌, ◌<◌, ◌≤◌, length, drop, sym, ap, subst, ◌∙◌, refl, arith}
use Rattle.std.proofs.lemmas.Result.{err_from_is_err_and}
use Rattle.elf_model.specs.Archive.{bytes_in}
use Rattle.elf_model.specs.LinkArchives.{LinkMember, archive_index, index_symbols, link_members, refusal_of}
use Rattle.elf_resolve.specs.Taken.{IsLinkFault, ReadsIndex}
use Rattle.elf_resolve.proofs.IndexParts.{index_answer, none_left, read_by, read_none, some_members, unrefused_small}
use Rattle.elf_resolve.proofs.MemberOffsets.{members_rise}
use Rattle.elf_resolve.proofs.archive_index.read_index.Goals as goal

pub returns-then-len-first-clause-reads : goal.returns-then-len-first-clause-reads
returns-then-len-first-clause-reads g c = λ file held are within unrefused.
    let past : length c.args.tables.now.members.items ≤ c.args.first = omega (arith, c.len.ensures, c.if-len-first.true) in
    read_none file c.args.keys.now c.args.tables.now.entries.items (none_left file c.args.tables.now.members.items c.args.first are past)

pub returns-in_err-parts-clause-reads : goal.returns-in_err-parts-clause-reads
returns-in_err-parts-clause-reads g c = λ file held are within unrefused.
    let p = err_from_is_err_and c.from_residual.result c.from_residual.ensures.1 in
    let some : c.args.first < length c.args.tables.now.members.items = omega (arith, c.len.ensures, c.if-len-first.false) in
    let count = some_members file c.args.tables.now.members.items c.args.first are in
    let f = c.in_err-parts.field-0.0 in
    let by_members : (members : List LinkMember) → (link_members file).members ≡ members → IsLinkFault (refusal_of (archive_index file (link_members file).members)) f =
    λ members. elim members as (λ (m : List LinkMember). (link_members file).members ≡ m → IsLinkFault (refusal_of (archive_index file (link_members file).members)) f) [
      | [] ↦ λ is. absurd (omega (arith, count, some, ap (λ (m : List LinkMember). length m) is))
      | (first ∷ rest) ↦ λ is. subst (λ (m : List LinkMember). IsLinkFault (refusal_of (archive_index file m)) f) (sym is) (c.in_err-parts.ensures.finds file held first rest is (unrefused_small file unrefused))
    ] in
    rw (p.1, p.2) (by_members (link_members file).members refl)

pub returns-clause-reads : goal.returns-clause-reads
returns-clause-reads g c = λ file held are within unrefused.
    let some : c.args.first < length c.args.tables.now.members.items = omega (arith, c.len.ensures, c.if-len-first.false) in
    let count = some_members file c.args.tables.now.members.items c.args.first are in
    let found = c.in_ok-parts.ensures.finds file held in
    let parts = c.in_ok-parts.parts in
    let bytes = bytes_in file found.extent in
    let members = (link_members file).members in
    let entered = c.enter_index.ensures.enters bytes found.extent.at members found.holds are (members_rise file) in
    let by_members : (ms : List LinkMember) → members ≡ ms → ReadsIndex file c.args.keys.now c.enter_index.new.keys c.args.tables.now.entries.items c.enter_index.new.tables.entries.items c.enter_index.result =
    λ ms. elim ms as (λ (m : List LinkMember). members ≡ m → ReadsIndex file c.args.keys.now c.enter_index.new.keys c.args.tables.now.entries.items c.enter_index.new.tables.entries.items c.enter_index.result) [
      | [] ↦ λ is. absurd (omega (arith, count, some, ap (λ (m : List LinkMember). length m) is))
      | (first ∷ rest) ↦ λ is.
          let names = drop (parts.width * (parts.count + 1)) bytes in
          let answer = ap (λ (m : List LinkMember). archive_index file m) is ∙ index_answer file c.index_parts.new.strings.bytes parts first rest found is
          ∙ ap (λ (m : List LinkMember). index_symbols m bytes found.extent.at parts.width 0 parts.count names) (sym is) in
          read_by file (index_symbols members bytes found.extent.at parts.width 0 parts.count names) c.args.keys.now c.enter_index.new.keys c.args.tables.now.entries.items c.enter_index.new.tables.entries.items c.enter_index.result
          answer entered
    ] in
    by_members members refl
