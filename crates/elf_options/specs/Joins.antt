-- A name with its version, as one text.
use Rattle.std.specs.Prelude.{ℕ, List, ◌++◌}
use Rattle.elf_options.specs.declared.versioned_name.VersionedName.{VersionedName}

-- the text of the three together
abbrev pub joined_text : VersionedName → List ℕ
joined_text joined = joined.name.now ++ (joined.sign.now ++ joined.version.now)
