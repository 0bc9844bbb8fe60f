use Rattle.std.proofs.Common.{◌≡◌, ◌++◌, subst, OnOk}
use Rattle.elf_needs.proofs.RootLaws.{entered_after}
use Rattle.elf_needs.proofs.root_path.enter.Goals as goal

pub returns : goal.returns
returns c =
    let put : c.try_extend_from_slice.new.self.items ≡ c.push.new.self.items ++ c.args.name.now = subst (λ r. OnOk r (c.try_extend_from_slice.new.self.items ≡ c.push.new.self.items ++ c.args.name.now)) c.unwrap.ensures c.try_extend_from_slice.ensures.ok in
    record { within = entered_after _ _ _ _ _ record { some = c.requires.name.some; plain = c.requires.name.plain; not_itself = c.requires.name.not_itself; not_above = c.requires.name.not_above } c.requires.within c.push.ensures.items put }
