-- The content of notes in words.
use Rattle.std.proofs.Common.{◌≡◌, ◌≢◌, ℕ, zero, suc, ◌+◌, ◌-◌, ◌%◌, ◌<◌, ◌≤◌, ◌==◌, ◌&&◌, ◌||◌, not, min, nat_lt, if◌then◌else◌, Bool, true, false, List, [], ◌∷◌, ◌++◌, length, take, drop, get_or, Option, None, Some, refl, sym, ap, ◌∙◌, arith, ne_eqb, eq-eqb, append_assoc, append-nil, add-one, drop-cons, length-drop, inl, inr, ◌⊎◌}
use Rattle.std.specs.Prelude.{codes, unwrap_or}
use Rattle.std.proofs.lemmas.Bool.{and_right}
use Rattle.std.proofs.lemmas.Bool.Decides.{nat_tests}
use Rattle.std.proofs.lemmas.List.{drop_all, take_all}
use Rattle.elf_model.specs.Prelude.{DisplayedName, ListEnds, NoProperty, OneProperty, Property, PropertyWalk, abi_systems, abi_tag, abi_version, bare_property, before_nul, core_types, descriptor_digits, descriptor_mark, escaped, field, is_note_name, linux_core_types, name_byte_text, name_of, next_property, note_content, padded_property, pr_datasz, pr_type, properties_from, properties_in, properties_text, property_text, property_words, separator, slice, space, with_properties, with_property, x86_features, x86_levels}
use Rattle.elf_model.specs.Properties.{NextProperty}
use Rattle.elf_format.specs.Properties.{IsNextProperty, is_cut, is_none_listed, other_text}

-- an ABI tag, by the name of its system
pub abi_none : (words : List ℕ) → name_of abi_systems (field words 0 4) ≡ None → abi_tag words ≡ None
unfolding abi_tag
abi_none words none = rw (none, abi_tag) refl

pub abi_some : (words name : List ℕ) → name_of abi_systems (field words 0 4) ≡ Some name → abi_tag words ≡ Some (name ++ space ++ abi_version words)
unfolding abi_tag
abi_some words name some = rw (some, abi_tag) refl

-- a property by the size of its data and its type
pub property_features : (property : Property) → length property.content ≡ 4 → property.kind ≡ 0xc0000002
    → property_text property ≡ codes "x86 feature: " ++ property_words x86_features (field property.content 0 4)
unfolding property_text field
property_features property size is =
    let whole : take 4 (drop 0 property.content) ≡ property.content = rw (← size) (take_all (length property.content) property.content (omega arith)) in
    rw (size, is, whole) refl

pub property_levels : (property : Property) → length property.content ≡ 4 → property.kind ≡ 0xc0008002
    → property_text property ≡ codes "x86 ISA: " ++ property_words x86_levels (field property.content 0 4)
unfolding property_text field
property_levels property size is =
    let whole : take 4 (drop 0 property.content) ≡ property.content = rw (← size) (take_all (length property.content) property.content (omega arith)) in
    rw (size, is, whole) refl

pub property_sized : (property : Property) → length property.content ≢ 4 → property_text property ≡ other_text property
unfolding property_text
property_sized property other = let no = ne_eqb (length property.content) 4 other in rw no refl

pub property_kind : (property : Property) → length property.content ≡ 4 → property.kind ≢ 0xc0000002 → property.kind ≢ 0xc0008002 → property_text property ≡ other_text property
unfolding property_text
property_kind property size one other =
    let no = ne_eqb property.kind 0xc0000002 one in let none = ne_eqb property.kind 0xc0008002 other in rw (size, no, none) refl

-- properties that are shown, by how their walk ends
text_by : (properties : List Property) (cut : Option ℕ) (has_more : Bool) (text : List ℕ)
    → (elim properties as (λ _. Option (List ℕ)) [
      | [] ↦ None
      | property ∷ rest ↦ if has_more then Some text else elim cut as (λ _. Option (List ℕ)) [ None ↦ Some text | Some offset ↦ None ]
    ])
    ≡ (if (not (is_none_listed (record { properties = properties; cut = cut })) && (has_more || not (is_cut (record { properties = properties; cut = cut })))) then Some text else None)
text_by [] cut has_more text = refl
text_by (property ∷ rest) None true text = refl
text_by (property ∷ rest) None false text = refl
text_by (property ∷ rest) (Some offset) true text = refl
text_by (property ∷ rest) (Some offset) false text = refl

pub text_shown : (first : List ℕ) (has_more : Bool)
    → properties_text first has_more
    ≡ (if (not (is_none_listed (properties_in first)) && (has_more || not (is_cut (properties_in first)))) then Some (with_properties true (properties_in first).properties ++ descriptor_mark has_more) else None)
unfolding properties_text
text_shown first has_more = text_by (properties_in first).properties (properties_in first).cut has_more (with_properties true (properties_in first).properties ++ descriptor_mark has_more)

-- what is at the start of some bytes: fewer than a header has
pub no_head : (bytes : List ℕ) → 0 < length bytes → length bytes < 8 → next_property bytes ≡ NoProperty
unfolding next_property
no_head bytes some short =
    let none = ne_eqb (length bytes) 0 (λ e. omega (arith, e)) in
    let few : nat_lt (length bytes) 8 ≡ true = grind (arith, nat_tests) in
    rw (none, few) refl

pub no_bytes : (bytes : List ℕ) → length bytes ≡ 0 → next_property bytes ≡ ListEnds
unfolding next_property
no_bytes bytes none = rw none refl

-- fewer than a header has, or none
pub few_left : (bytes : List ℕ) → length bytes < 8 → ((length bytes ≡ 0) × (next_property bytes ≡ ListEnds)) ⊎ ((0 < length bytes) × (next_property bytes ≡ NoProperty))
few_left [] short = inl (refl, no_bytes [] refl)
few_left (byte ∷ bytes) short = inr (omega arith, no_head (byte ∷ bytes) (omega arith) short)

-- fewer than its data has with its header
pub no_data : (bytes : List ℕ) (datasz : ℕ) → 8 ≤ length bytes → datasz ≡ field bytes 4 4 → length bytes - 8 < datasz → next_property bytes ≡ NoProperty
unfolding next_property
no_data bytes datasz head is long =
    let none = ne_eqb (length bytes) 0 (λ e. omega (arith, e)) in
    let enough : nat_lt (length bytes) 8 ≡ false = grind (arith, nat_tests) in
    let cut : nat_lt (length bytes) (bare_property (pr_datasz bytes 0)) ≡ true = grind (arith, nat_tests) in
    rw (none, enough, cut) refl

-- a property
pub one_property : (bytes content : List ℕ) (kind datasz size : ℕ) → 8 ≤ length bytes → kind ≡ field bytes 0 4 → datasz ≡ field bytes 4 4 → datasz ≤ length bytes - 8
    → content ≡ slice bytes 8 datasz → size ≡ min (padded_property datasz) (length bytes)
    → next_property bytes ≡ OneProperty (record { kind = kind; content = content }) size
unfolding next_property
one_property bytes content kind datasz size head k d fits c s =
    let none = ne_eqb (length bytes) 0 (λ e. omega (arith, e)) in
    let enough : nat_lt (length bytes) 8 ≡ false = grind (arith, nat_tests) in
    let whole : nat_lt (length bytes) (bare_property (pr_datasz bytes 0)) ≡ false = grind (arith, nat_tests) in
    rw (none, enough, whole, s, c, k, d) refl

-- the steps that are left do not matter, nor where a list begins
pub record Alike (one other : PropertyWalk) : Type 0 where
  pub same : one.properties ≡ other.properties
  pub cut : is_cut one ≡ is_cut other

-- a property takes a byte at least, and there is one
takes_some : (bytes : List ℕ) (property : Property) (size : ℕ) → next_property bytes ≡ OneProperty property size → (0 < size) × (0 < length bytes)
unfolding next_property
takes_some bytes property size is = by (length bytes == 0) refl (nat_lt (length bytes) 8) refl (nat_lt (length bytes) (bare_property (pr_datasz bytes 0))) is
  where
    by : (a : Bool) → (length bytes == 0) ≡ a → (b : Bool) → nat_lt (length bytes) 8 ≡ b → (c : Bool)
        → (if a then ListEnds else if b then NoProperty else if c then NoProperty
        else OneProperty (record { kind = pr_type bytes 0; content = slice bytes 8 (pr_datasz bytes 0) }) (min (padded_property (pr_datasz bytes 0)) (length bytes))) ≡ OneProperty property size
        → (0 < size) × (0 < length bytes)
    by true x b y c e = cc
    by false x true y c e = cc
    by false x false y true e = cc
    by false x false y false e =
        let same : min (padded_property (pr_datasz bytes 0)) (length bytes) ≡ size = cc in
        let few : 8 ≤ length bytes = grind (arith, nat_tests) in
        (omega (arith, same, few), omega (arith, few))

-- THE STEPS of a walk
from_end : (most offset : ℕ) (rest : List ℕ) → next_property rest ≡ ListEnds → properties_from (suc most) offset rest ≡ record { properties = []; cut = None }
unfolding properties_from
from_end most offset rest e = rw (e, properties_from) refl

from_none : (most offset : ℕ) (rest : List ℕ) → next_property rest ≡ NoProperty → properties_from (suc most) offset rest ≡ record { properties = []; cut = Some offset }
unfolding properties_from
from_none most offset rest e = rw (e, properties_from) refl

from_one : (most offset : ℕ) (rest : List ℕ) (property : Property) (size : ℕ) → next_property rest ≡ OneProperty property size
    → properties_from (suc most) offset rest ≡ with_property property (properties_from most (offset + size) (drop size rest))
unfolding properties_from
from_one most offset rest property size e = rw (e, properties_from) refl

with_alike : (property : Property) (one other : PropertyWalk) → Alike one other → Alike (with_property property one) (with_property property other)
with_alike property one other is = record { same = ap (λ (xs : List Property). property ∷ xs) is.same; cut = is.cut }

alike : (m n o p : ℕ) (bytes : List ℕ) → length bytes < m → length bytes < n → Alike (properties_from m o bytes) (properties_from n p bytes)
alike zero n o p bytes less also = absurd (omega arith)
alike (suc m) zero o p bytes less also = absurd (omega arith)
alike (suc m) (suc n) o p bytes less also = by (next_property bytes) refl (λ x y rest few many. alike m n x y rest few many)
  where
    by : (next : NextProperty) → next_property bytes ≡ next → ((x y : ℕ) (rest : List ℕ) → length rest < m → length rest < n → Alike (properties_from m x rest) (properties_from n y rest))
        → Alike (properties_from (suc m) o bytes) (properties_from (suc n) p bytes)
    by ListEnds e more = rw (from_end m o bytes e, from_end n p bytes e) record { same = refl; cut = refl }
    by NoProperty e more = rw (from_none m o bytes e, from_none n p bytes e) record { same = refl; cut = refl }
    by (OneProperty property size) e more =
        let some = takes_some bytes property size e in
        let left : length (drop size bytes) ≡ length bytes - size = length-drop size bytes in
        let rest = more (o + size) (p + size) (drop size bytes) (omega (arith, some.0, some.1, left)) (omega (arith, some.0, some.1, left)) in
        rw (from_one m o bytes property size e, from_one n p bytes property size e) (with_alike property _ _ rest)

-- a list whose next property is known
pub list_next : (bytes : List ℕ) (property : Property) (size : ℕ) → next_property bytes ≡ OneProperty property size
    → ((properties_in bytes).properties ≡ property ∷ (properties_in (drop size bytes)).properties) × (is_cut (properties_in bytes) ≡ is_cut (properties_in (drop size bytes)))
unfolding properties_in
list_next bytes property size e =
    let some = takes_some bytes property size e in
    let left : length (drop size bytes) ≡ length bytes - size = length-drop size bytes in
    let rest = alike (length bytes) (suc (length (drop size bytes))) (0 + size) 0 (drop size bytes) (omega (arith, some.0, some.1, left)) (omega arith) in
    let first = from_one (length bytes) 0 bytes property size e in
    rw first (ap (λ (xs : List Property). property ∷ xs) rest.same, rest.cut)

pub list_ends : (bytes : List ℕ) → next_property bytes ≡ ListEnds → properties_in bytes ≡ record { properties = []; cut = None }
unfolding properties_in
list_ends bytes e = from_end (length bytes) 0 bytes e

pub list_broken : (bytes : List ℕ) → next_property bytes ≡ NoProperty → properties_in bytes ≡ record { properties = []; cut = Some 0 }
unfolding properties_in
list_broken bytes e = from_none (length bytes) 0 bytes e

-- a property was appended, and those after it are left
pub list_step : (bytes left : List ℕ) (property : Property) (size : ℕ) (is_first : Bool) (line items whole : List ℕ) → next_property bytes ≡ OneProperty property size → left ≡ drop size bytes
    → items ≡ line ++ separator (codes "; ") is_first ++ property_text property → line ++ with_properties is_first (properties_in bytes).properties ≡ whole
    → items ++ with_properties false (properties_in left).properties ≡ whole
unfolding with_properties
list_step bytes left property size is_first line items whole e rest put before =
    let next = list_next bytes property size e in
    let later : List ℕ = with_properties false (properties_in (drop size bytes)).properties in
    let sep : List ℕ = separator (codes "; ") is_first in
    let text : List ℕ = property_text property in
    let whole_is : line ++ (sep ++ text ++ later) ≡ whole = rw next.0 at before in
    rw (rest, put) (append_assoc (line ++ sep) text later ∙ (append_assoc line sep (text ++ later) ∙ (ap (λ (xs : List ℕ). line ++ xs) (sym (append_assoc sep text later)) ∙ whole_is)))

pub list_first : (bytes : List ℕ) (property : Property) (size : ℕ) (is_first none : Bool) → next_property bytes ≡ OneProperty property size → (is_first && is_none_listed (properties_in bytes)) ≡ none → false ≡ none
list_first bytes property size is_first none e before =
    let next = list_next bytes property size e in
    let some : is_none_listed (properties_in bytes) ≡ false = ap (λ (xs : List Property). is_none_listed (record { properties = xs; cut = None })) next.0 in
    sym (and_right is_first (is_none_listed (properties_in bytes)) some) ∙ before

pub list_cut : (bytes left : List ℕ) (property : Property) (size : ℕ) (cut : Bool) → next_property bytes ≡ OneProperty property size → left ≡ drop size bytes → is_cut (properties_in bytes) ≡ cut → is_cut (properties_in left) ≡ cut
list_cut bytes left property size cut e rest before = rw rest (sym (list_next bytes property size e).1 ∙ before)

-- no property is left
pub done_items : (bytes : List ℕ) (is_first : Bool) (line whole : List ℕ) → IsNextProperty bytes None → line ++ with_properties is_first (properties_in bytes).properties ≡ whole → line ≡ whole
unfolding with_properties
done_items bytes is_first line whole (inl ends) before = sym (append-nil line) ∙ (rw (list_ends bytes ends.1) at before)
done_items bytes is_first line whole (inr broken) before = sym (append-nil line) ∙ (rw (list_broken bytes broken.1) at before)

and_only : (x y : Bool) → y ≡ true → (x && y) ≡ x
and_only true y is = is
and_only false y is = refl

pub done_empty : (bytes : List ℕ) (is_first none : Bool) → IsNextProperty bytes None → (is_first && is_none_listed (properties_in bytes)) ≡ none → is_first ≡ none
done_empty bytes is_first none (inl ends) before = sym (and_only is_first (is_none_listed (properties_in bytes)) (ap is_none_listed (list_ends bytes ends.1))) ∙ before
done_empty bytes is_first none (inr broken) before = sym (and_only is_first (is_none_listed (properties_in bytes)) (ap is_none_listed (list_broken bytes broken.1))) ∙ before

pub done_cut : (bytes : List ℕ) (cut : Bool) → IsNextProperty bytes None → is_cut (properties_in bytes) ≡ cut → not (length bytes == 0) ≡ cut
done_cut bytes cut (inl ends) before = rw ends.0 (rw (list_ends bytes ends.1) at before)
done_cut bytes cut (inr broken) before =
    let some = ne_eqb (length bytes) 0 (λ e. omega (arith, e, broken.0)) in rw some (rw (list_broken bytes broken.1) at before)

-- the content of a list, by how its walk ended
pub hidden_by : (first : List ℕ) (has_more is_empty cut shown : Bool) → is_empty ≡ is_none_listed (properties_in first) → cut ≡ is_cut (properties_in first)
    → shown ≡ (not is_empty && (has_more || not cut)) → shown ≡ false → None ≡ properties_text first has_more
hidden_by first has_more is_empty cut shown empty is says hides =
    let hidden : (not (is_none_listed (properties_in first)) && (has_more || not (is_cut (properties_in first)))) ≡ false = rw (← empty, ← is) (sym says ∙ hides) in
    sym (text_shown first has_more ∙ rw hidden refl)

pub shown_by : (first : List ℕ) (has_more is_empty cut shown : Bool) → is_empty ≡ is_none_listed (properties_in first) → cut ≡ is_cut (properties_in first)
    → shown ≡ (not is_empty && (has_more || not cut)) → shown ≡ true → Some (with_properties true (properties_in first).properties ++ descriptor_mark has_more) ≡ properties_text first has_more
shown_by first has_more is_empty cut shown empty is says shows =
    let visible : (not (is_none_listed (properties_in first)) && (has_more || not (is_cut (properties_in first)))) ≡ true = rw (← empty, ← is) (sym says ∙ shows) in
    sym (text_shown first has_more ∙ rw visible refl)

-- notes of cores
pub core_content : (name first : List ℕ) (kind : ℕ) (has_more : Bool) → is_note_name (codes "GNU") name ≡ false → is_note_name (codes "CORE") name ≡ true → note_content name kind first has_more ≡ name_of core_types kind
unfolding note_content
core_content name first kind has_more other is = rw (other, is, note_content) refl

pub linux_content : (name first : List ℕ) (kind : ℕ) (has_more : Bool) → is_note_name (codes "GNU") name ≡ false → is_note_name (codes "CORE") name ≡ false → is_note_name (codes "LINUX") name ≡ true
    → note_content name kind first has_more ≡ name_of linux_core_types kind
unfolding note_content
linux_content name first kind has_more other another is = rw (other, another, is, note_content) refl

one_add : (k : ℕ) → 1 + k ≡ suc k
one_add k = omega arith

-- the bytes before the first NUL
pub nul_at : (bytes : List ℕ) (n : ℕ) → n ≤ length bytes → ((k : ℕ) → k < n → get_or bytes k 0 ≢ 0) → (n < length bytes → get_or bytes n 0 ≡ 0) → before_nul bytes ≡ take n bytes
nul_at [] zero within others ends = refl
nul_at [] (suc n) within others ends = refl
nul_at (byte ∷ bytes) zero within others ends = let is : byte ≡ 0 = ends (omega arith) in rw is refl
nul_at (byte ∷ bytes) (suc n) within others ends =
    let no = ne_eqb byte 0 (others 0 (omega arith)) in
    rw no (ap (λ (k : ℕ). take k (byte ∷ bytes)) (one_add _) ∙ ap (λ (xs : List ℕ). byte ∷ xs) (nul_at bytes n (omega arith) (λ k less. others (suc k) (omega arith)) (λ less. ends (omega arith))))

-- a byte of a text was escaped, and none is left
pub escaped_next : (text : List ℕ) (i : ℕ) (line items : List ℕ) (whole : List ℕ) → i < length text → items ≡ line ++ name_byte_text (get_or text i 0) → line ++ escaped (drop i text) ≡ whole → items ++ escaped (drop (i + 1) text) ≡ whole
unfolding escaped
escaped_next text i line items whole inside put left =
    let byte = name_byte_text (get_or text i 0) in
    let rest = escaped (drop (i + 1) text) in
    let next : escaped (drop i text) ≡ byte ++ rest = rw (add-one, drop-cons text i 0 inside) refl in
    rw put (append_assoc line byte rest ∙ (ap (λ (xs : List ℕ). line ++ xs) (sym next) ∙ left))

pub escaped_none : (text : List ℕ) (i : ℕ) (line whole : List ℕ) → length text ≤ i → line ++ escaped (drop i text) ≡ whole → line ≡ whole
unfolding escaped
escaped_none text i line whole over left = let none = drop_all i text over in rw (none, append-nil line) at left
