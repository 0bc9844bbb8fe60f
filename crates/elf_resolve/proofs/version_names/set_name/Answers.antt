-- A name is set, or is there already.
use Rattle.std.proofs.Common.{ap, ◌∙◌, arith}
use Rattle.std.specs.Prelude.{not}
use Rattle.elf_resolve.proofs.VersionNameLaws.{name_kept, name_set}
use Rattle.elf_resolve.proofs.version_names.set_name.Goals as goal
use Rattle.elf_resolve.proofs.version_names.set_name.Goals.{else-place-names-via-then-place-names+else-is_none, else-place-names-via-else-place-names}

pub returns-then-is_none : goal.returns-then-is_none
returns-then-is_none c = λ bytes known is small held text.
    name_set bytes c.args.names.now known c.args.number c.args.name is small (c.is_none.ensures ∙ ap not c.if-is_none.true) held text

pub returns-else-place-names : goal.returns-else-place-names
returns-else-place-names c = λ bytes known is small held text. elim c.else-place-names.branch [
  | else-place-names-via-then-place-names+else-is_none w ↦ name_kept bytes c.args.names.now known c.args.number is (w.is_none.ensures ∙ ap not w.if-is_none.false) held
  | else-place-names-via-else-place-names w ↦ absurd (omega (arith, w.if-place-names.false, held.room, small))
]
