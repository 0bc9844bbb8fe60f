-- A line written in pieces ends in the name and the referenced version.
use Rattle.std.proofs.Common.{◌≡◌, ℕ, List, ◌++◌, sym, ap, ◌∙◌, append_assoc}
use Rattle.std.specs.Prelude.{codes}
use Rattle.elf_model.specs.Prelude.{closing, escaped, member_key, name_member, name_text, quoted, string_text, version_member}
use Rattle.elf_model.specs.BindingLines.{line_requested}
use Rattle.elf_model.specs.Names.DisplayedName.{Whole}
use Rattle.elf_model.specs.declared.formats.Format.{Format}
use Rattle.elf_model.specs.declared.formats.Format.TheVariants.{Columns, Object, Table}
use Rattle.elf_format.specs.Named.{escaped_bytes, line_tailed}
use Rattle.elf_format.specs.Requests.{after_request, before_request}

-- texts in pieces
three_is : (name sign version end : List ℕ) → name ++ (sign ++ (version ++ end)) ≡ (name ++ (sign ++ version)) ++ end
three_is name sign version end = ap (λ (rest : List ℕ). name ++ rest) (sym (append_assoc sign version end)) ∙ sym (append_assoc name (sign ++ version) end)

tail_is : (a b c d : List ℕ) → a ++ (b ++ (c ++ d)) ≡ ((a ++ b) ++ c) ++ d
tail_is a b c d = sym (append_assoc (a ++ b) c d ∙ append_assoc a b (c ++ d))

pub requested_is : (format : Format) (key text name version : List ℕ)
    → line_tailed format key text (Whole name) (before_request format ++ (escaped_bytes format version ++ after_request format))
    ≡ line_requested format key text name version
unfolding line_tailed line_requested escaped_bytes name_text version_member closing member_key quoted before_request after_request
requested_is Columns key text name version =
    ap (λ (rest : List ℕ). text ++ rest) (tail_is (escaped name) (codes "@") (escaped version) (codes "\n"))
requested_is Table key text name version =
    ap (λ (rest : List ℕ). text ++ rest) (tail_is (escaped name) (codes "@") (escaped version) (codes "\n"))
requested_is Object key text name version =
    ap (λ (rest : List ℕ). text ++ rest)
    (ap (λ (rest : List ℕ). name_member key (Whole name) ++ (codes ",\"version\":\"" ++ rest)) (sym (append_assoc (string_text (escaped version)) (codes "\"") (codes "}\n")))
    ∙ three_is (name_member key (Whole name)) (codes ",\"version\":\"") (string_text (escaped version) ++ codes "\"") (codes "}\n"))
