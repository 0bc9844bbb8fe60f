use Rattle.std.proofs.Common.{rules, ◌≡◌, ◌++◌, ◌∷◌, [], List, map, inl, ap, ◌∙◌}
use Rattle.elf_model.specs.ShownNames.{shown_as}
use Rattle.elf_resolve.specs.MemberNames.{RowName, name_at_place}
use Rattle.elf_resolve.proofs.MemberNameLaws.{name_added, names_kept, places_added}
use Rattle.elf_resolve.proofs.member_names.NamesOfMembers.read.Goals as goal

pub returns-then-is_err-clause-reads : goal.returns-then-is_err-clause-reads
returns-then-is_err-clause-reads g c = λ file held within.
    let items : c.push.new.self.items ≡ c.self.inside.places.items = search rules in
    let grown = c.in-Some.ensures.0 in
    let same = ap (λ l. map (name_at_place c.append.new.bytes.items) l) items ∙ ap (λ b. map (name_at_place b) c.self.inside.places.items) grown
    ∙ names_kept c.self.inside.bytes.items c.bytes-bytes.result.now c.self.inside.places.items c.self.invariant ∙ c.self.view_is in
    rw c.refused-then-is_err.ensures (record { same = same; refused = λ small. inl tt })

pub invariant_of-self-2 : goal.invariant_of-self-2
invariant_of-self-2 g c =
    let items : c.push.new.self.items ≡ c.self.inside.places.items ++ record { row = c.args.row; name = c.in-Some.name; is_cut = c.in_ok-extent.is_cut } ∷ [] = search rules in
    places_added c.self.inside.bytes.items c.bytes-bytes.result.now c.append.new.bytes.items c.self.inside.places.items c.push.new.self.items c.in-Some.name c.args.row c.in_ok-extent.is_cut c.self.invariant c.in-Some.ensures.0 c.in-Some.ensures.1 items

pub returns-clause-reads : goal.returns-clause-reads
returns-clause-reads g c = λ file held within.
    let items : c.push.new.self.items ≡ c.self.inside.places.items ++ record { row = c.args.row; name = c.in-Some.name; is_cut = c.in_ok-extent.is_cut } ∷ [] = search rules in
    let added = name_added c.self.inside.bytes.items c.bytes-bytes.result.now c.append.new.bytes.items c.self.inside.places.items c.push.new.self.items c.in-Some.name c.args.row c.in_ok-extent.is_cut c.self.invariant c.in-Some.ensures.0 c.in-Some.ensures.1 items in
    record {
      name = shown_as c.in_ok-extent.is_cut c.read_named.new.name;
      member = c.in_ok-extent.ensures.reads file held within;
      added = added ∙ ap (λ (l : List RowName). l ++ record { row = c.args.row; name = shown_as c.in_ok-extent.is_cut c.bytes-bytes.result.now } ∷ []) c.self.view_is
          ∙ ap (λ b. c.args.self.now ++ record { row = c.args.row; name = shown_as c.in_ok-extent.is_cut b } ∷ []) c.bytes-bytes.ensures.value;
    }
