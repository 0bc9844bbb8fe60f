-- An entry has the name, or none of those that are left.
use Rattle.std.proofs.Common.{◌≡◌, false, sym, true, ◌∙◌}
use Rattle.elf_table.proofs.Absent.{none-of}
use Rattle.elf_needs.specs.Providers.{has_needed_name}
use Rattle.elf_needs.proofs.ProviderLaws.{any_behind, any_here, any_none, need_there}
use Rattle.elf_needs.proofs.known_object.ObjectList.is_needed.Goals as goal

pub returns-then-is_text : goal.returns-then-is_text
returns-then-is_text c =
    let l = c.loop-place in
    let has = has_needed_name c.args.self.now.links.held.texts c.args.name.now in
    let is : has c.in-Some.need ≡ true = sym (rw (c.text.ensures, c.if-is_text.true) at c.is_text.ensures) in
    sym (l.invariant.others ∙ any_here has c.args.self.now.links.needs l.place c.in-Some.need (sym c.need.ensures ∙ c.in-Some.is) is)

pub loop-place-preserved : goal.loop-place-preserved
loop-place-preserved c =
    let l = c.loop-place in
    let has = has_needed_name c.args.self.now.links.held.texts c.args.name.now in
    let isnt : has c.in-Some.need ≡ false = sym (rw (c.text.ensures, c.if-is_text.false) at c.is_text.ensures) in
    record {
      others = l.invariant.others ∙ any_behind has c.args.self.now.links.needs l.place c.in-Some.need (sym c.need.ensures ∙ c.in-Some.is) isnt;
      end = l.invariant.end;
    }

pub returns-in_default : goal.returns-in_default
returns-in_default c =
    let l = c.loop-place in
    let has = has_needed_name c.args.self.now.links.held.texts c.args.name.now in
    let past = need_there c.args.self.now.links.needs l.place (sym c.need.ensures ∙ none-of c.need.result c.in_default.not-Some) in
    sym (l.invariant.others ∙ any_none has c.args.self.now.links.needs l.place past)
