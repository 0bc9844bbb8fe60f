-- What a resolver finds of its keys.
use Rattle.std.proofs.Common.{◌≡◌, ℕ, Bool, true, false, ◌||◌, List, [], ◌∷◌, get_or, Option, None, refl, ap, ◌∙◌, sym}
use Rattle.std.specs.Prelude.{codes, if◌then◌else◌, is_some}
use Rattle.std.specs.List.{list_any}
use Rattle.elf_model.specs.LinkInputs.{Linking}
use Rattle.elf_model.specs.LinkKeys.{LinkKeys}
use Rattle.elf_model.specs.LinkLines.{LinkOutput, is_any, is_further_of, key_state_word, lines_after, linker_defines, reference_of, undefined_word, word_of_key}
use Rattle.elf_model.specs.declared.formats.Format.{Format}
use Rattle.elf_model.specs.declared.link_states.KeyEntry.{KeyEntry}
use Rattle.elf_model.specs.declared.link_states.KeyState.{KeyState}
use Rattle.elf_model.specs.declared.link_states.KeyState.TheVariants.{New, Weak, Undefined, WeakDefined, Defined, Shared}
use Rattle.elf_model.specs.declared.link_states.KeyState.TheVariants as state
use Rattle.elf_resolve.specs.FoundStates.{found_state, found_word, is_fault_state, undefined_state}
use Rattle.elf_resolve.specs.KeyChains.{first_number}
use Rattle.elf_resolve.specs.KeyFinds.{entry_held, state_found}
use Rattle.elf_resolve.specs.KeyLines.{lines_found}
use Rattle.elf_resolve.specs.LinkerNames.{bounded_name, bounds_noted, defines_name, output_of}
use Rattle.elf_resolve.specs.Resolved.{linking_of}
use Rattle.elf_resolve.specs.StaticLinks.{AreKeysListed}
use Rattle.elf_resolve.specs.declared.key_states.FoundState.{FoundState}
use Rattle.elf_resolve.specs.declared.key_states.FoundState.TheVariants as found
use Rattle.elf_resolve.specs.declared.resolver.Resolver.{Resolver}
use Rattle.elf_resolve.proofs.KeyLineLaws.{has_further, has_offers}
use Rattle.elf_resolve.proofs.LinkerNameLaws.{linker_defines-by}

-- A NAME OF THE LINKER'S, or the bound of a section
pub of_linker : (output : LinkOutput) (keys : LinkKeys) (held name : List ℕ) (is : Bool) → held ≡ name → is ≡ defines_name output held → is ≡ true → true ≡ linker_defines output keys name
of_linker output keys held name is same found holds =
    sym (linker_defines-by output keys name ∙ ap (λ (b : Bool). b || bounds_noted keys (bounded_name name)) (sym (sym holds ∙ found ∙ ap (defines_name output) same)))

pub of_section : (output : LinkOutput) (keys : LinkKeys) (held name : List ℕ) (is : Bool) (section : Option (List ℕ)) → held ≡ name → is ≡ defines_name output held → is ≡ false → bounded_name held ≡ section
    → bounds_noted keys section ≡ linker_defines output keys name
of_section output keys held name is section same found fails bounded =
    sym (linker_defines-by output keys name ∙ ap (λ (b : Bool). b || bounds_noted keys (bounded_name name)) (sym (sym fails ∙ found ∙ ap (defines_name output) same))
    ∙ ap (bounds_noted keys) (sym (ap bounded_name same) ∙ bounded))

-- WHAT A LINK SAYS of a key has the word of the definition
if_word : (b : Bool) (f g : FoundState) → found_word (if b then f else g) ≡ (if b then found_word f else found_word g)
if_word true f g = refl
if_word false f g = refl

undefined_same : (r l a : Bool) → found_word (undefined_state r l a) ≡ undefined_word r l a
undefined_same r true a = refl
undefined_same true false a = if_word a found.Order found.Undefined
undefined_same false false a = refl

word_same : (s : KeyState) (m r l a : Bool) → found_word (found_state s m r l a) ≡ key_state_word s m r l a
word_same New m r l a = if_word l found.Linker found.Weak
word_same Weak m r l a = if_word l found.Linker found.Weak
word_same Undefined m r l a = undefined_same r l a
word_same (state.Common size) m r l a = refl
word_same WeakDefined m r l a = refl
word_same Defined m r l a = if_word m found.Multiple found.Defined
word_same (Shared symbol) m r l a = refl

or_none : (a : Bool) (o : Option ℕ) → o ≡ None → (a || is_some o) ≡ a
or_none true o none = refl
or_none false o none = ap (λ (p : Option ℕ). is_some p) none

pub word_found : (link : Resolver) (key : ℕ) (entry : KeyEntry) → AreKeysListed link → entry ≡ entry_held link key → found_word (state_found link key entry) ≡ word_of_key (output_of link.output) (linking_of link) key
unfolding word_of_key
word_found link key entry listed is =
    let output = output_of link.output in
    let keys = link.link.keys.keys in
    let held = entry_held link key in
    let defines = linker_defines output keys (get_or keys.names key []) in
    ap (λ (e : KeyEntry). found_word (state_found link key e)) is
    ∙ word_same held.state (is_some (first_number link.further key)) (is_some (reference_of held)) defines (is_some (first_number link.offers key) || is_some (first_number link.spare.chains key))
    ∙ ap (λ (b : Bool). key_state_word held.state b (is_some (reference_of held)) defines (is_some (first_number link.offers key) || is_some (first_number link.spare.chains key)))
    (has_further link.further key keys.further listed.further)
    ∙ ap (λ (b : Bool). key_state_word held.state (list_any (is_further_of key) keys.further) (is_some (reference_of held)) defines b)
    (or_none (is_some (first_number link.offers key)) (first_number link.spare.chains key) (listed.spare key)
    ∙ has_offers link.tables.entries.items link.taken.items link.offers key link.tables.archives.items listed.offers listed.archives)

-- and the lines after it, and whether it is a fault
pub after_found : (format : Format) (link : Linking) (name : List ℕ) (key : ℕ) (state : FoundState) → lines_after format link name key (found_word state) ≡ lines_found format link name key state
after_found format link name key found.Defined = refl
after_found format link name key found.WeakDefined = refl
after_found format link name key found.Common = refl
after_found format link name key found.Shared = refl
after_found format link name key found.Multiple = refl
after_found format link name key found.Order = refl
after_found format link name key found.Undefined = refl
after_found format link name key found.Weak = refl
after_found format link name key found.Linker = refl
after_found format link name key found.Unused = refl

pub fault_found : (state : FoundState) → is_any (codes "undef" ∷ codes "order" ∷ codes "multiple" ∷ []) (found_word state) ≡ is_fault_state state
fault_found found.Defined = refl
fault_found found.WeakDefined = refl
fault_found found.Common = refl
fault_found found.Shared = refl
fault_found found.Multiple = refl
fault_found found.Order = refl
fault_found found.Undefined = refl
fault_found found.Weak = refl
fault_found found.Linker = refl
fault_found found.Unused = refl
