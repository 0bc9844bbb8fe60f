-- A line written in pieces ends in the name and its version.
use Rattle.std.proofs.Common.{◌≡◌, ℕ, Bool, true, false, List, ◌++◌, Result, Ok, refl, sym, ap, ◌∙◌, append_assoc, subst}
use Rattle.std.specs.Prelude.{codes, if◌then◌else◌}
use Rattle.elf_model.specs.Prelude.{DisplayedName, EveryRow, LinePrefix, Suffixed, closing, cut_mark, escaped, line_suffixed, lines_of, member_key, name_member, name_text, newline, quoted, string_text, suffix_members, suffix_text, suffixed_row, version_member, version_sign}
use Rattle.elf_model.specs.declared.causes.Cause.{Cause}
use Rattle.elf_model.specs.declared.formats.Format.TheVariants.{Columns, Object, Table}
use Rattle.elf_model.specs.declared.formats.Format.{Format}
use Rattle.elf_format.specs.Prelude.{escaped_bytes, line_tailed, shown_as, tailed_line}
use Rattle.elf_table.specs.Prelude.{NameRead, shown_by}
use Rattle.elf_table.specs.declared.names.NameEnd.TheVariants.{Cut, Whole}
use Rattle.elf_table.specs.declared.names.NameEnd.{NameEnd}
use Rattle.elf_source.specs.Output.{SinkTakes, SinkTakesPrefix, OutState}
use Rattle.elf_listing.specs.Prelude.{WroteItems, after_version, before_version, cut_of}
use Rattle.elf_listing.proofs.RowLaws.{WroteUntilStop-line, Whole-line}

-- texts in pieces
three_is : (name sign version end : List ℕ) → name ++ (sign ++ (version ++ end)) ≡ (name ++ (sign ++ version)) ++ end
three_is name sign version end = ap (λ (rest : List ℕ). name ++ rest) (sym (append_assoc sign version end)) ∙ sym (append_assoc name (sign ++ version) end)

tail_is : (text a d c : List ℕ) → text ++ (a ++ (d ++ c)) ≡ ((text ++ a) ++ d) ++ c
tail_is text a d c = sym (append_assoc (text ++ a) d c ∙ append_assoc text a (d ++ c))

longer_is : (text a m d c : List ℕ) → text ++ (a ++ (m ++ (d ++ c))) ≡ (((text ++ a) ++ m) ++ d) ++ c
longer_is text a m d c = sym (append_assoc text a (m ++ (d ++ c))) ∙ tail_is (text ++ a) m d c

sign_is : (default : Bool) → before_version Columns default ≡ version_sign default
unfolding before_version
sign_is true = refl
sign_is false = refl

sign_is_in_a_table : (default : Bool) → before_version Table default ≡ version_sign default
unfolding before_version
sign_is_in_a_table true = refl
sign_is_in_a_table false = refl

-- the lines of an object
abbrev default_member : Bool → List ℕ
default_member default = if default then codes ",\"default\":true" else codes ",\"default\":false"

object_is : (key text : List ℕ) (name : DisplayedName) (end : NameEnd) (version : List ℕ) (default : Bool)
    → text ++ (name_member key name ++ (codes ",\"version\":\"" ++ (string_text (escaped version) ++ after_version Object (cut_of end) default)))
    ≡ text ++ ((name_member key name ++ suffix_members (Suffixed default (shown_by end version))) ++ closing Object)
unfolding suffix_members version_member after_version closing member_key quoted
object_is key text name Whole version true = ap (λ (rest : List ℕ). text ++ rest)
    (ap (λ (rest : List ℕ). name_member key name ++ (codes ",\"version\":\"" ++ rest)) (tail_is (string_text (escaped version)) (codes "\"") (default_member true) (codes "}\n"))
    ∙ three_is (name_member key name) (codes ",\"version\":\"") ((string_text (escaped version) ++ codes "\"") ++ default_member true) (codes "}\n"))
object_is key text name Whole version false = ap (λ (rest : List ℕ). text ++ rest)
    (ap (λ (rest : List ℕ). name_member key name ++ (codes ",\"version\":\"" ++ rest)) (tail_is (string_text (escaped version)) (codes "\"") (default_member false) (codes "}\n"))
    ∙ three_is (name_member key name) (codes ",\"version\":\"") ((string_text (escaped version) ++ codes "\"") ++ default_member false) (codes "}\n"))
object_is key text name Cut version true = ap (λ (rest : List ℕ). text ++ rest)
    (ap (λ (rest : List ℕ). name_member key name ++ (codes ",\"version\":\"" ++ rest)) (longer_is (string_text (escaped version)) (codes "\"") (codes ",\"version_cut\":true") (default_member true) (codes "}\n"))
    ∙ three_is (name_member key name) (codes ",\"version\":\"") (((string_text (escaped version) ++ codes "\"") ++ codes ",\"version_cut\":true") ++ default_member true) (codes "}\n"))
object_is key text name Cut version false = ap (λ (rest : List ℕ). text ++ rest)
    (ap (λ (rest : List ℕ). name_member key name ++ (codes ",\"version\":\"" ++ rest)) (longer_is (string_text (escaped version)) (codes "\"") (codes ",\"version_cut\":true") (default_member false) (codes "}\n"))
    ∙ three_is (name_member key name) (codes ",\"version\":\"") (((string_text (escaped version) ++ codes "\"") ++ codes ",\"version_cut\":true") ++ default_member false) (codes "}\n"))

pub line_is : (format : Format) (key text : List ℕ) (name : DisplayedName) (end : NameEnd) (version : List ℕ) (default : Bool)
    → line_tailed format key text name (before_version format default ++ (escaped_bytes format version ++ after_version format (cut_of end) default))
    ≡ line_suffixed format key text name (Suffixed default (shown_by end version))
unfolding line_tailed line_suffixed escaped_bytes suffix_text name_text before_version after_version
line_is Columns key text name Whole version default =
    ap (λ (rest : List ℕ). text ++ rest) (rw (sign_is default) (three_is (name_text name) (version_sign default) (escaped version) newline))
line_is Columns key text name Cut version default =
    ap (λ (rest : List ℕ). text ++ rest)
    (rw (sign_is default)
    (ap (λ (rest : List ℕ). name_text name ++ (version_sign default ++ rest)) (sym (append_assoc (escaped version) cut_mark newline))
    ∙ three_is (name_text name) (version_sign default) (escaped version ++ cut_mark) newline))
line_is Table key text name Whole version default =
    ap (λ (rest : List ℕ). text ++ rest) (rw (sign_is_in_a_table default) (three_is (name_text name) (version_sign default) (escaped version) newline))
line_is Table key text name Cut version default =
    ap (λ (rest : List ℕ). text ++ rest)
    (rw (sign_is_in_a_table default)
    (ap (λ (rest : List ℕ). name_text name ++ (version_sign default ++ rest)) (sym (append_assoc (escaped version) cut_mark newline))
    ∙ three_is (name_text name) (version_sign default) (escaped version ++ cut_mark) newline))
line_is Object key text name end version default = object_is key text name end version default

-- the line of a row with its version
pub WroteText-suffixed : (a b : OutState) (front : LinePrefix) (at : ℕ) (end after : NameEnd) (name version : List ℕ) (answer : Result DisplayedName Cause) (default : Bool)
    → NameRead at (Ok end) name answer
    → SinkTakes a b (tailed_line front (shown_as (cut_of end) name) (before_version front.format default ++ (escaped_bytes front.format version ++ after_version front.format (cut_of after) default)))
    → WroteItems a b (suffixed_row EveryRow front at answer (Ok (Suffixed default (shown_by after version))))
WroteText-suffixed a b front at Whole after name version answer default read takes =
    rw read (Whole-line _ (subst (λ (line : List ℕ). SinkTakes a b line) (line_is front.format front.key front.text (shown_as false name) after version default) takes))
WroteText-suffixed a b front at Cut after name version answer default read takes =
    rw read (Whole-line _ (subst (λ (line : List ℕ). SinkTakes a b line) (line_is front.format front.key front.text (shown_as true name) after version default) takes))

pub Fronts-suffixed : (a b : OutState) (front : LinePrefix) (at : ℕ) (end after : NameEnd) (name version : List ℕ) (answer : Result DisplayedName Cause) (default : Bool)
    → NameRead at (Ok end) name answer
    → SinkTakesPrefix a b (tailed_line front (shown_as (cut_of end) name) (before_version front.format default ++ (escaped_bytes front.format version ++ after_version front.format (cut_of after) default)))
    → SinkTakesPrefix a b (lines_of (suffixed_row EveryRow front at answer (Ok (Suffixed default (shown_by after version)))))
Fronts-suffixed a b front at Whole after name version answer default read takes =
    rw read (WroteUntilStop-line _ (subst (λ (line : List ℕ). SinkTakesPrefix a b line) (line_is front.format front.key front.text (shown_as false name) after version default) takes))
Fronts-suffixed a b front at Cut after name version answer default read takes =
    rw read (WroteUntilStop-line _ (subst (λ (line : List ℕ). SinkTakesPrefix a b line) (line_is front.format front.key front.text (shown_as true name) after version default) takes))
