-- The words of flags are fewer than the name holds.
use Rattle.std.proofs.Common.{rules, ◌≡◌, ℕ, ◌≤◌, List, ◌++◌, length, take, sym, ap, ap₂, subst, ◌∙◌}
use Rattle.std.proofs.lemmas.List.{take_all}
use Rattle.elf_model.specs.Prelude.{d_tag, d_un, flag_words, value_text}
use Rattle.elf_model.specs.declared.formats.Format.{Format}
use Rattle.elf_model.specs.declared.formats.Format.TheVariants.{Table}
use Rattle.elf_format.proofs.TagBits.{tag_bits}
use Rattle.elf_listing.proofs.dynamic_string_table.put_value_text.Goals as goal

pub returns-in-Table : goal.returns-in-Table
returns-in-Table g c = λ file at is.
    let tag : c.cast_unsigned.result ≡ d_tag file at = tag_bits c.args.entry.now.d_tag _ _ is.d_tag_bits is.d_tag_low c.cast_unsigned.ensures in
    let words : c.deref.result.now ≡ flag_words (d_tag file at) (d_un file at) = c.deref.ensures.0 ∙ (c.flag_words-words.ensures.items ∙ ap₂ flag_words tag is.d_un) in
    let short : length c.deref.result.now ≤ 400 = subst (λ (items : List ℕ). length items ≤ 400) (sym c.deref.ensures.0) c.flag_words-words.ensures.short in
    let format : g.R.Render.FORMAT ≡ Table = search rules in
    c.add.ensures
    ∙ (ap (λ (front : List ℕ). take 400 (front ++ c.deref.result.now)) c.clear.ensures
    ∙ (take_all 400 c.deref.result.now short
    ∙ (words ∙ ap (λ (f : Format). value_text f (d_tag file at) (d_un file at)) (sym format))))
