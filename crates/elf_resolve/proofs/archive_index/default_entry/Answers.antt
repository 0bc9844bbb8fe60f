use Rattle.std.proofs.Common.{◌++◌, ◌∷◌}
use Rattle.std.proofs.lemmas.Result.{err_from_is_err_and}
use Rattle.elf_resolve.proofs.IndexParts.{both_entered}
use Rattle.elf_resolve.proofs.StringBufferLaws.{holds_joined, holds_kept}
use Rattle.elf_resolve.proofs.archive_index.default_entry.Goals as goal

pub returns-in_err-key-clause-enters : goal.returns-in_err-key-clause-enters
returns-in_err-key-clause-enters c = λ name version base sign.
    let p = err_from_is_err_and c.from_residual-in_err-key.result c.from_residual-in_err-key.ensures.1 in
    let held = holds_joined c.args.strings.now c.join.new.self name version c.in_ok-joined.joined (c.in_ok-joined.ensures.joins name version base sign) in
    rw (p.1, p.2) (c.in_err-key.ensures (name ++ 64 ∷ version) held)

pub returns-in_err-default_key-clause-enters : goal.returns-in_err-default_key-clause-enters
returns-in_err-default_key-clause-enters c = λ name version base sign.
    let p = err_from_is_err_and c.from_residual-in_err-default_key.result c.from_residual-in_err-default_key.ensures.1 in
    let held = holds_kept c.args.strings.now.bytes c.join.new.self.bytes c.args.parts.0 name c.in_ok-joined.ensures.stays.first base in
    rw (p.1, p.2) (c.in_err-default_key.ensures name held)

pub returns-clause-enters : goal.returns-clause-enters
returns-clause-enters c = λ name version base sign.
    let full = holds_joined c.args.strings.now c.join.new.self name version c.in_ok-joined.joined (c.in_ok-joined.ensures.joins name version base sign) in
    let held = holds_kept c.args.strings.now.bytes c.join.new.self.bytes c.args.parts.0 name c.in_ok-joined.ensures.stays.first base in
    both_entered name (name ++ 64 ∷ version) c.args.member c.in_ok-key.key c.in_ok-default_key.default_key c.args.keys.now c.enter.new.keys c.enter-2.new.keys (c.in_ok-key.ensures (name ++ 64 ∷ version) full) (c.in_ok-default_key.ensures name held)
