use Rattle.std.proofs.Common.{◌+◌, List, ℕ, take, drop, subst}
use Rattle.std.specs.Prelude.{Some}
use Rattle.elf_resolve.specs.StringBuffers.{SplitsName}
use Rattle.elf_resolve.proofs.IndexParts.{default_name_entered}
use Rattle.elf_resolve.proofs.archive_index.index_entry.Goals as goal

pub returns-in-Some-clause-enters : goal.returns-in-Some-clause-enters
returns-in-Some-clause-enters c = λ is held.
    let split = subst (λ (b : List ℕ). SplitsName b c.args.name (Some c.in-Some.parts)) (c.bytes.ensures is held) c.in-Some.ensures in
    default_name_entered is c.args.member split.place c.args.keys.now c.default_entry.new.keys c.default_entry.result split.sign split.is_default
    (c.default_entry.ensures.enters (take split.place is) (drop (split.place + 2) is) (split.base_held c.args.strings.now.bytes held) (split.version_held c.args.strings.now.bytes held))
