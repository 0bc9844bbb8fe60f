-- The section that holds a hash table.
use Rattle.std.specs.Prelude.{ℕ, List}
use Rattle.elf_model.specs.Prelude.{HashStyle as IsHashKind, least_size, section_at}
use Rattle.elf_hash.specs.HashStyles.{hash_style_of}
use Rattle.elf_hash.specs.declared.hash_style.HashStyle.{HashStyle}

-- the smallest size in bytes of a hash table of a style
abbrev pub min_hash_bytes : HashStyle → ℕ
min_hash_bytes kind = least_size (hash_style_of kind)

-- the style and the header of a section that is found
abbrev pub found_at : List ℕ → HashStyle × ℕ → IsHashKind × ℕ
found_at file found = (hash_style_of found.0, section_at file found.1)
