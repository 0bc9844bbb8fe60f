use Rattle.std.proofs.Common.{false, sym, ap, ◌∙◌, arith}
use Rattle.elf_resolve.specs.declared.member_names.NamePlace.{NamePlace}
use Rattle.elf_resolve.proofs.MemberNameLaws.{place_found, place_missing}
use Rattle.elf_resolve.proofs.member_names.place_of_row.Goals as goal

pub returns-in-Some : goal.returns-in-Some
returns-in-Some c = λ rises.
    let place = c.in-Some.place.now in
    let there = c.in-Some.ensures.lookup.3 in
    there.1 place ∙ sym (place_found c.args.places.now c.args.row c.first_from-index.result place (c.first_from-index.ensures rises) there.0 (ap (λ (p : NamePlace). p.row) (sym (there.1 place)) ∙ c.if-place-row.true))

pub returns-in_default : goal.returns-in_default
returns-in_default c = λ rises.
    let place = c.in-Some.place.now in
    let there = c.in-Some.ensures.lookup.3 in
    place_missing c.args.places.now c.args.row c.first_from-index.result place rises (c.first_from-index.ensures rises) (λ below same. c.if-place-row.false (ap (λ (p : NamePlace). p.row) (there.1 place) ∙ same))

pub returns-in_default-2 : goal.returns-in_default-2
returns-in_default-2 c = λ rises.
    let past = rw c.in_default.is at c.get.ensures.lookup.3 in
    place_missing c.args.places.now c.args.row c.first_from-index.result (record { row = 0; name = record { start = 0; size = 0 }; is_cut = false }) rises (c.first_from-index.ensures rises) (λ below same. absurd (omega (arith, below, past)))
