use Rattle.std.proofs.Common.{◌≤◌, length, sym, arith}
use Rattle.std.proofs.lemmas.List.{get_or_past}
use Rattle.elf_model.specs.Versions.{named_by}
use Rattle.elf_note.specs.declared.version_names.VersionNameRef.TheVariants.{Nowhere}
use Rattle.elf_note.proofs.NameTables.{behind-last, name-fits}
use Rattle.elf_note.proofs.version_names.VersionNames.name.Goals as goal

far : (c : goal.Else-from-lt-NUMBERS) → length c.self.inside.names ≤ c.args.number
far c = omega (arith, c.self.invariant, c.from.ensures, c.if-from-lt-NUMBERS.false)

pub returns-else-from-lt-NUMBERS-clause-is : goal.returns-else-from-lt-NUMBERS-clause-is
returns-else-from-lt-NUMBERS-clause-is c = rw (← c.self.view_is) (sym (get_or_past c.self.inside.names c.args.number Nowhere (far c)))

pub returns-else-from-lt-NUMBERS-clause-named : goal.returns-else-from-lt-NUMBERS-clause-named
returns-else-from-lt-NUMBERS-clause-named c =
    rw (← c.self.view_is)
    (λ file records places names. behind-last file (named_by file c.args.number records) c.self.inside.names c.args.number (far c) (names.named c.args.number))

pub returns-then-from-lt-NUMBERS-clause-fits : goal.returns-then-from-lt-NUMBERS-clause-fits
returns-then-from-lt-NUMBERS-clause-fits c = name-fits _ _ (omega (arith, c.from.ensures, c.if-from-lt-NUMBERS.true))
