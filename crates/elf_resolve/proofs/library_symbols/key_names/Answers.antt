-- The names of the keys of a symbol, in a library with version indexes and without them.
use Rattle.std.proofs.Common.{ℕ, refl, sym, ap, subst}
use Rattle.std.specs.Prelude.{Option}
use Rattle.elf_resolve.specs.LibraryKeys.{key_names, name_alone}
use Rattle.elf_resolve.specs.LibraryTables.{FindsKeyNames, HoldsLibraryVersions}
use Rattle.elf_resolve.specs.declared.library.VersionRows.{VersionRows}
use Rattle.elf_resolve.proofs.library_symbols.key_names.Goals as goal

pub returns-in-Some-clause-finds : goal.returns-in-Some-clause-finds
returns-in-Some-clause-finds c = λ file at known name held is text.
    let here = subst (λ (i : Option VersionRows). HoldsLibraryVersions file c.args.strings.now.bytes i c.args.versions.now known) c.in-Some.is held in
    let indexes = here.indexes_are in
    subst (λ (h : Option ℕ). FindsKeyNames (key_names file known h at c.args.named.0 name) c.versioned_names.new.strings.bytes c.versioned_names.result) (sym indexes.1)
    (c.versioned_names.ensures.finds file indexes.0 at known name indexes.2 here is text)

pub returns-in-None-clause-finds : goal.returns-in-None-clause-finds
returns-in-None-clause-finds c = λ file at known name held is text.
    let here = subst (λ (i : Option VersionRows). HoldsLibraryVersions file c.args.strings.now.bytes i c.args.versions.now known) c.in-None.is held in (
      name_alone name,
      ap (λ h. key_names file known h at c.args.named.0 name) here.indexes_are,
      record { name = text; default_name = refl },
    )
