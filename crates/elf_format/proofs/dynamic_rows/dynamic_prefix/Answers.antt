-- The tag is shown as its bits.
use Rattle.std.proofs.Common.{◌≡◌, refl}
use Rattle.elf_model.specs.Prelude.{d_tag, dynamic_prefix}
use Rattle.elf_format.proofs.TagBits.{tag_bits}
use Rattle.elf_format.proofs.dynamic_rows.dynamic_prefix.Goals as goal

pub returns-clause-front : goal.returns-clause-front
unfolding dynamic_prefix
returns-clause-front g c = λ file at is.
    let bits : c.cast_unsigned-tag.result ≡ d_tag file at = tag_bits c.args.entry.now.d_tag _ _ is.d_tag_bits is.d_tag_low c.cast_unsigned-tag.ensures in
    rw (
      c.put_hex_field.ensures.items,
      c.put_name_or_hex.ensures.items,
      c.put_decimal.ensures.items,
      c.begin_named.ensures.items,
      c.begin_named.ensures.format,
      c.begin_named.ensures.key,
      c.tag_name.ensures.name,
      bits,
      is.d_un,
    )
    refl
