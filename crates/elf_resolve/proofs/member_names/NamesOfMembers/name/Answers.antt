use Rattle.std.proofs.Common.{◌≡◌, ◌+◌, ◌≤◌, ℕ, List, length, map, sym, ap, subst, ◌∙◌, arith}
use Rattle.std.specs.List.Sorted.{IsStrictlyIncreasing}
use Rattle.elf_model.specs.Bytes.{slice}
use Rattle.elf_resolve.specs.MemberNames.{RowName, RowsAscend, name_of_row_in, place_in, row_of_place}
use Rattle.elf_resolve.specs.declared.member_names.NamePlace.{NamePlace}
use Rattle.elf_resolve.proofs.MemberNameLaws.{name_read, place_within, rows_same}
use Rattle.elf_resolve.proofs.member_names.NamesOfMembers.name.Goals as goal

pub returns : goal.returns
returns c = λ rises.
    let bytes = c.self.inside.bytes.items in
    let places = c.self.inside.places.items in
    let row = c.args.row in
    let p = c.place_of_row-is_cut.result in
    let ascend = subst (λ (l : List ℕ). IsStrictlyIncreasing l) (rows_same bytes places) (subst (λ (n : List RowName). RowsAscend n) (sym c.self.view_is) rises) in
    let given = c.deref.ensures.value in
    let place : p ≡ place_in places row = c.place_of_row-is_cut.ensures (subst (λ (l : List NamePlace). IsStrictlyIncreasing (map row_of_place l)) (sym given) ascend) ∙ ap (λ (l : List NamePlace). place_in l row) given in
    let within = place_within (length bytes) places row c.self.invariant in
    let inside : p.name.start + p.name.size ≤ length c.deref-2.result.now =
    omega (arith, within, ap (λ (q : NamePlace). q.name.start) place, ap (λ (q : NamePlace). q.name.size) place, ap (λ (b : List ℕ). length b) c.deref-2.ensures.value) in
    let text = c.part_of.ensures.held inside ∙ ap (λ (b : List ℕ). slice b p.name.start p.name.size) c.deref-2.ensures.value in
    name_read bytes places row p c.part_of.result.now place text ∙ ap (λ (n : List RowName). name_of_row_in n row) c.self.view_is
