use Rattle.std.proofs.Common.{rules, ℕ, ◌≡◌, suc, ◌+◌, ◌*◌, List, drop, take, sym, ap, subst, ◌∙◌, arith}
use Rattle.std.proofs.lemmas.Result.{err_from_is_err_and}
use Rattle.std.proofs.lemmas.List.{length-drop}
use Rattle.std.specs.List.Sorted.{IsStrictlyIncreasing}
use Rattle.elf_model.specs.LinkArchives.{index_symbols, link_member_at, refusal_of}
use Rattle.elf_resolve.proofs.IndexLaws.{place_within}
use Rattle.elf_resolve.proofs.IndexPasses.{astray, cut_entry, names_from, one_entered}
use Rattle.elf_resolve.proofs.LinkFaultLaws.{fault_of_any}
use Rattle.elf_resolve.proofs.archive_index.enter_entry.Goals as goal

pub returns-in_err-name-clause-enters : goal.returns-in_err-name-clause-enters
returns-in_err-name-clause-enters c = λ bytes start members held are rises below.
    let p = err_from_is_err_and c.from_residual.result c.from_residual.ensures.1 in
    let parts = c.args.parts in
    let cut = c.in_err-name.ensures (drop (parts.width * (parts.count + 1)) bytes) held.names in
    rw (p.1, p.2) (λ left. cut_entry members bytes start parts.width c.args.place.index left (names_from bytes parts.width parts.count c.args.place.name) c.in_err-name.field-0.0 cut.0 cut.1)

pub returns-in_err-member-clause-enters : goal.returns-in_err-member-clause-enters
returns-in_err-member-clause-enters c = λ bytes start members held are rises below.
    let p = err_from_is_err_and c.from_residual-in_err-member.result c.from_residual-in_err-member.ensures.1 in
    let parts = c.args.parts in
    let index = c.args.place.index in
    let ended = c.in_ok-name.ensures (drop (parts.width * (parts.count + 1)) bytes) held.names in
    let here : c.members_from.result.now ≡ drop c.args.first c.args.tables.now.members.items = search rules in
    let known = c.in_err-member.ensures members (here ∙ are) (subst (λ (l : List ℕ). IsStrictlyIncreasing l) (sym (here ∙ are)) rises) in
    let offset = c.offset-offset.ensures bytes start held below in
    let within = place_within parts.width index parts.count below in
    let at : c.place-at.result ≡ start + parts.width * (index + 1) = omega (arith, c.place-at.ensures below (omega (arith, held.at_is, held.enough, held.fits)), held.at_is) in
    rw (p.1, p.2) (λ left. astray members bytes start parts.width index left c.in_ok-name.name.size c.offset-offset.result c.place-at.result (names_from bytes parts.width parts.count c.args.place.name) c.in_err-member.field-0.0 ended.ends offset at known)

pub returns-in_err-entry-clause-enters : goal.returns-in_err-entry-clause-enters
returns-in_err-entry-clause-enters c = λ bytes start members held are rises below.
    let p = err_from_is_err_and c.from_residual-in_err-entry.result c.from_residual-in_err-entry.ensures.1 in
    let parts = c.args.parts in
    let names = drop (parts.width * (parts.count + 1)) bytes in
    let ended = c.in_ok-name.ensures names held.names in
    let fault = c.in_err-entry.ensures.enters (take c.in_ok-name.name.size (drop c.args.place.name names)) ended.holds in
    rw (p.1, p.2) (λ left. fault_of_any (refusal_of (index_symbols members bytes start parts.width c.args.place.index (suc left) (names_from bytes parts.width parts.count c.args.place.name))) c.in_err-entry.field-0.0 fault)

pub returns-clause-enters : goal.returns-clause-enters
returns-clause-enters c = λ bytes start members held are rises below.
    let parts = c.args.parts in
    let index = c.args.place.index in
    let names = drop (parts.width * (parts.count + 1)) bytes in
    let ended = c.in_ok-name.ensures names held.names in
    let rest = length-drop (parts.width * (parts.count + 1)) bytes in
    let here : c.members_from.result.now ≡ drop c.args.first c.args.tables.now.members.items = search rules in
    let known = c.in_ok-member.ensures members (here ∙ are) (subst (λ (l : List ℕ). IsStrictlyIncreasing l) (sym (here ∙ are)) rises) in
    let offset = c.offset-offset.ensures bytes start held below in
    let next : c.saturating_add-next.result ≡ c.args.place.name + c.in_ok-name.name.size + 1 = omega (arith, c.saturating_add-next.ensures, c.saturating_add.ensures, ended.fits, rest, held.fits) in
    one_entered members (names_from bytes parts.width parts.count c.args.place.name) _ c.args.keys.now c.index_entry.new.keys c.args.tables.now.entries.items c.add_entry.new.self.entries.items c.args.place.name c.saturating_add-next.result
    c.in_ok-name.name.size c.in_ok-member.member c.in_ok-entry.entry ended.ends next (ap (λ n. link_member_at members n) (sym offset) ∙ known)
    (c.in_ok-entry.ensures.enters (take c.in_ok-name.name.size (drop c.args.place.name names)) ended.holds) c.in_ok-add_entry.ensures.adds
