-- The styles of hash tables as the code represents them.
use Rattle.elf_model.specs.LoaderScope.{HashStyle as Kind, GnuTable, SysvTable}
use Rattle.elf_hash.specs.declared.hash_style.HashStyle.{HashStyle}
use Rattle.elf_hash.specs.declared.hash_style.HashStyle.TheVariants.{Gnu, Sysv}

-- the style in the terms of the model
abbrev pub hash_style_of : HashStyle → Kind
hash_style_of Gnu = GnuTable
hash_style_of Sysv = SysvTable
