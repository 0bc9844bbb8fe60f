-- What a section adds to the groups that are taken: its group, itself, or nothing.
use Rattle.std.proofs.Common.{◌≡◌, ℕ, ◌+◌, ◌-◌, ◌/◌, ◌≤◌, ◌==◌, Bool, true, false, ◌&&◌, List, [], ◌∷◌, length, take, drop, refl, ap, ◌∙◌, sym, subst, bit_and, arith, inr}
use Rattle.std.specs.Prelude.{Option, None, Some, Result, Ok, Err, if◌then◌else◌, nat_lt, not}
use Rattle.std.proofs.lemmas.List.{length-drop, length-take}
use Rattle.elf_model.specs.Bytes.{field, slice}
use Rattle.elf_model.specs.LinkArchives.{refusal_of}
use Rattle.elf_model.specs.LinkObjects.{SectionGroup}
use Rattle.elf_model.specs.LinkSymbols.{comdat_group, group_in, group_named, group_sections, groups_at, is_comdat, is_link_once, section_link_name, signature_of, words_in}
use Rattle.elf_model.specs.Records.{section_at, sh_offset, sh_size, sh_type}
use Rattle.elf_model.specs.Tables.{section_bytes}
use Rattle.elf_model.specs.declared.link_states.LinkRefusal.{LinkRefusal}
use Rattle.elf_resolve.specs.KeyTables.{KeptGroup, KeyList}
use Rattle.elf_resolve.specs.SectionGroups.{FindsGroup, FindsSectionName, FoundGroup, HoldsDropped, TookSection, is_one_kept, sections_of_words}
use Rattle.elf_resolve.specs.StringBuffers.{HoldsText, ReadText, TableTexts}
use Rattle.elf_resolve.specs.Taken.{IsLinkFault}
use Rattle.elf_resolve.specs.declared.link_faults.LinkFault.{LinkFault}
use Rattle.elf_resolve.specs.declared.link_faults.LinkFault.TheVariants.{Refused, Read, Open, Memory}
use Rattle.elf_resolve.specs.declared.section_groups.Dropped.{Dropped}
use Rattle.elf_resolve.specs.declared.section_groups.Dropped.TheVariants.{Nothing}
use Rattle.elf_resolve.specs.declared.section_groups.GroupInFile.{GroupInFile}
use Rattle.elf_resolve.specs.declared.string_buffer.HeldText.{HeldText}
use Rattle.elf_resolve.specs.ObjectTables.{HoldsObjectSymbols, HoldsSectionNames, HoldsTables}
use Rattle.elf_resolve.specs.declared.object.ObjectTables.{ObjectTables}
use Rattle.elf_resolve.specs.declared.object.SymbolRows.{SymbolRows}
use Rattle.elf_resolve.proofs.ObjectLaws.{symbols_kept}
use Rattle.elf_resolve.proofs.StringBufferLaws.{holds_kept, holds_read}
use Rattle.elf_resolve.proofs.GroupFoundLaws.{group_passed}
use Rattle.elf_resolve.proofs.LinkFaultLaws.{fault_of_part}
use Rattle.elf_resolve.proofs.SectionGroupLaws.{eqb-not}

-- NO GROUP, and one
pub took_none : (file : List ℕ) (section : ℕ) (keys : KeyList) (bytes : List ℕ) → groups_at file section ≡ Ok [] → TookSection file section keys keys bytes Nothing
took_none file section keys bytes are = record {
  groups = [];
  are = are;
  sections = [];
  took = record { keys = refl; sections_are = refl; most = refl; most_further = refl };
  held = refl;
}

pub took_one : (file : List ℕ) (section : ℕ) (old new : KeyList) (bytes : List ℕ) (dropped : Dropped) (group : SectionGroup) (is : Bool) → groups_at file section ≡ Ok (group ∷ [])
    → KeptGroup old new group.signature group.is_link_once is → HoldsDropped bytes section dropped (if is then group.sections else []) → TookSection file section old new bytes dropped
took_one file section old new bytes dropped group is are kept held = record {
  groups = group ∷ [];
  are = are;
  sections = if is then group.sections else [];
  took = record {
    keys = kept.keys;
    sections_are = ap (λ (b : Bool). if b then group.sections else []) kept.dropped_is;
    most = kept.most;
    most_further = kept.most_further;
  };
  held = held;
}

-- THE SECTION of a group, and another
pub group_here : (file : List ℕ) (section : ℕ) → sh_type file (section_at file section) ≡ 17 → groups_at file section ≡ group_in file (section_at file section)
unfolding groups_at
group_here file section kind =
    ap (λ n. if n == 17 then group_in file (section_at file section) else group_named file (section_at file section) section (section_link_name file (section_at file section))) kind

pub name_here : (file : List ℕ) (section : ℕ) → (sh_type file (section_at file section) ≡ 17 → ⊥)
    → groups_at file section ≡ group_named file (section_at file section) section (section_link_name file (section_at file section))
unfolding groups_at
name_here file section kind =
    ap (λ (b : Bool). if b then group_in file (section_at file section) else group_named file (section_at file section) section (section_link_name file (section_at file section)))
    (eqb-not (sh_type file (section_at file section)) 17 kind)

-- A LINK-ONCE SECTION, or none
pub once_is : (file : List ℕ) (section : ℕ) (name : List ℕ) (once : Bool) → (sh_type file (section_at file section) ≡ 17 → ⊥) → section_link_name file (section_at file section) ≡ Ok name
    → is_link_once file (section_at file section) name ≡ once
    → groups_at file section ≡ Ok (if once then record { signature = name; is_link_once = true; sections = section ∷ [] } ∷ [] else [])
once_is file section name once kind found is =
    name_here file section kind ∙ ap (group_named file (section_at file section) section) found
    ∙ ap (λ (b : Bool). Ok (if b then record { signature = name; is_link_once = true; sections = section ∷ [] } ∷ [] else [])) is

pub once_fault : (file bytes : List ℕ) (section : ℕ) (fault : LinkFault) → (sh_type file (section_at file section) ≡ 17 → ⊥) → FindsSectionName file bytes (section_at file section) (Err fault)
    → IsLinkFault (refusal_of (groups_at file section)) fault
once_fault file bytes section (Refused refusal) kind found =
    inr (ap refusal_of (name_here file section kind) ∙ ap (λ r. refusal_of (group_named file (section_at file section) section r)) found)
once_fault file bytes section Read kind found = absurd found
once_fault file bytes section Open kind found = absurd found
once_fault file bytes section Memory kind found = absurd found

-- A GROUP: the bytes of its words
section_length : (file : List ℕ) (at : ℕ) → sh_offset file at + sh_size file at ≤ length file → length (section_bytes file at) ≡ sh_size file at
section_length file at within = length-take (sh_size file at) (drop (sh_offset file at) file) ∙ omega (arith, length-drop (sh_offset file at) file)

comdat_is : (file : List ℕ) (at : ℕ) → sh_offset file at + sh_size file at ≤ length file → is_comdat file at ≡ is_one_kept (section_bytes file at)
comdat_is file at within = ap (λ n. not (nat_lt n 4) && not (bit_and (field (section_bytes file at) 0 4) 1 == 0)) (sym (section_length file at within))

sections_are : (file : List ℕ) (at : ℕ) → sh_offset file at + sh_size file at ≤ length file → group_sections file at ≡ sections_of_words (section_bytes file at)
sections_are file at within = ap (λ n. words_in (n / 4 - 1) (drop 4 (section_bytes file at))) (sym (section_length file at within))

group_is : (file : List ℕ) (section : ℕ) (group : GroupInFile) (words : List ℕ) (kept : Bool) → sh_type file (section_at file section) ≡ 17 → FoundGroup file (section_at file section) group
    → words ≡ section_bytes file (section_at file section) → is_one_kept words ≡ kept
    → groups_at file section ≡ (if kept then comdat_group file (section_at file section) (signature_of file (section_at file section)) else Ok [])
group_is file section group words kept kind found held is =
    group_here file section kind
    ∙ group_passed file (section_at file section) kept found.passes (comdat_is file (section_at file section) found.within ∙ ap is_one_kept (sym held) ∙ is)

pub group_fault : (file : List ℕ) (section : ℕ) (fault : LinkFault) → sh_type file (section_at file section) ≡ 17 → FindsGroup file (section_at file section) (Err fault)
    → IsLinkFault (refusal_of (groups_at file section)) fault
group_fault file section (Refused refusal) kind found = inr (ap refusal_of (group_here file section kind ∙ found))
group_fault file section Read kind found = absurd found
group_fault file section Open kind found = absurd found
group_fault file section Memory kind found = absurd found

pub group_none : (file : List ℕ) (section : ℕ) (group : GroupInFile) (words : List ℕ) → sh_type file (section_at file section) ≡ 17 → FoundGroup file (section_at file section) group
    → words ≡ section_bytes file (section_at file section) → is_one_kept words ≡ false → groups_at file section ≡ Ok []
group_none file section group words kind found held is = group_is file section group words false kind found held is

refusal_comdat : (file : List ℕ) (at : ℕ) (signature : Result (List ℕ) LinkRefusal) (refusal : LinkRefusal) → refusal_of signature ≡ Some refusal → refusal_of (comdat_group file at signature) ≡ Some refusal
refusal_comdat file at (Ok name) refusal is = absurd (cc)
refusal_comdat file at (Err other) refusal is = is

pub signature_fault : (file : List ℕ) (section : ℕ) (group : GroupInFile) (words : List ℕ) (fault : LinkFault) → sh_type file (section_at file section) ≡ 17
    → FoundGroup file (section_at file section) group → words ≡ section_bytes file (section_at file section) → is_one_kept words ≡ true
    → IsLinkFault (refusal_of (signature_of file (section_at file section))) fault → IsLinkFault (refusal_of (groups_at file section)) fault
signature_fault file section group words fault kind found held is fails =
    fault_of_part (refusal_of (signature_of file (section_at file section))) (refusal_of (groups_at file section)) fault
    (λ refusal e. ap refusal_of (group_is file section group words true kind found held is) ∙ refusal_comdat file (section_at file section) (signature_of file (section_at file section)) refusal e) fails

pub group_one : (file : List ℕ) (section : ℕ) (group : GroupInFile) (words name : List ℕ) → sh_type file (section_at file section) ≡ 17 → FoundGroup file (section_at file section) group
    → words ≡ section_bytes file (section_at file section) → is_one_kept words ≡ true → signature_of file (section_at file section) ≡ Ok name
    → groups_at file section ≡ Ok (record { signature = name; is_link_once = false; sections = sections_of_words words } ∷ [])
group_one file section group words name kind found held is signed =
    let at = section_at file section in
    group_is file section group words true kind found held is ∙ ap (comdat_group file at) signed
    ∙ ap (λ s. Ok (record { signature = name; is_link_once = false; sections = s } ∷ [])) (sections_are file at found.within ∙ ap sections_of_words (sym held))

-- the words are held once they are read
pub words_held : (file : List ℕ) (at : ℕ) (group : GroupInFile) (old new : TableTexts) (text : HeldText) → FoundGroup file at group → ReadText file group.start group.size old new text
    → HoldsText new.bytes text (section_bytes file at)
words_held file at group old new text found read =
    subst (HoldsText new.bytes text) (ap (λ s. slice file s group.size) found.start ∙ ap (slice file (sh_offset file at)) found.size) (holds_read file group.start group.size old new text read)

-- tables stay held
object_symbols_kept : (file old new : List ℕ) (symbols : Option SymbolRows) → take (length old) new ≡ old → HoldsObjectSymbols file old symbols → HoldsObjectSymbols file new symbols
object_symbols_kept file old new None first held = held
object_symbols_kept file old new (Some symbols) first held =
    record { table = held.table; holds = symbols_kept file old new (section_at file symbols.section) symbols first held.holds; first = held.first }

section_names_kept : (file old new : List ℕ) (names : Option HeldText) → take (length old) new ≡ old → HoldsSectionNames file old names → HoldsSectionNames file new names
section_names_kept file old new None first held = held
section_names_kept file old new (Some names) first held = record { some = held.some; holds = holds_kept old new names _ first held.holds }

pub tables_kept : (file old new : List ℕ) (tables : ObjectTables) → take (length old) new ≡ old → HoldsTables file old tables → HoldsTables file new tables
tables_kept file old new tables first held =
    record { symbols = object_symbols_kept file old new tables.symbols first held.symbols; sections = section_names_kept file old new tables.sections first held.sections }
