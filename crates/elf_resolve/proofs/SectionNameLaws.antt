-- The names of sections that are noted, one section after the other.
use Rattle.std.proofs.Common.{◌≡◌, ℕ, suc, ◌+◌, ◌-◌, ◌<◌, ◌≤◌, ◌==◌, Bool, true, false, List, [], ◌∷◌, ◌++◌, refl, ap, ◌∙◌, sym, arith, inr}
use Rattle.std.specs.Prelude.{Ok, Err, if◌then◌else◌}
use Rattle.std.specs.List.{list_any}
use Rattle.elf_model.specs.LinkArchives.{refusal_of}
use Rattle.elf_model.specs.LinkKeys.{LinkKeys}
use Rattle.elf_model.specs.LinkObjects.{NamedSection, name_noted, section_noted, sections_noted}
use Rattle.elf_model.specs.LinkSymbols.{and_then, followed, is_identifier, section_link_name, section_named, sections_from}
use Rattle.elf_model.specs.Records.{e_shnum, section_at}
use Rattle.elf_resolve.specs.KeyTables.{KeyList, NotedSection}
use Rattle.elf_resolve.specs.SectionGroups.{FindsSectionName, NotedName, NotedSections, named_sections}
use Rattle.elf_resolve.specs.Taken.{IsLinkFault}
use Rattle.elf_resolve.specs.declared.link_faults.LinkFault.{LinkFault}
use Rattle.elf_resolve.specs.declared.link_faults.LinkFault.TheVariants.{Refused, Read, Open, Memory}
use Rattle.elf_resolve.proofs.FollowedLaws.{followed_all, followed_fault, followed_more, followed_none}

-- A REFUSED NAME
pub name_fault : (file bytes : List ℕ) (section : ℕ) (fault : LinkFault) → FindsSectionName file bytes (section_at file section) (Err fault) → IsLinkFault (refusal_of (named_sections file section)) fault
name_fault file bytes section (Refused refusal) found = inr (ap (λ r. refusal_of (section_named section r)) found)
name_fault file bytes section Read found = absurd found
name_fault file bytes section Open found = absurd found
name_fault file bytes section Memory found = absurd found

-- A NAME that is no identifier, that of a section that is dropped, and another
named-by : (file : List ℕ) (section : ℕ) (name : List ℕ) (test : Bool) → section_link_name file (section_at file section) ≡ Ok name → is_identifier name ≡ test
    → named_sections file section ≡ Ok (if test then record { name = name; index = section } ∷ [] else [])
named-by file section name test found is =
    ap (section_named section) found ∙ ap (λ (b : Bool). Ok (if b then record { name = name; index = section } ∷ [] else [])) is

pub noted_none : (file dropped : List ℕ) (section : ℕ) (keys : KeyList) (name : List ℕ) → section_link_name file (section_at file section) ≡ Ok name → is_identifier name ≡ false
    → NotedName file dropped section keys keys
noted_none file dropped section keys name found is = record { sections = []; are = named-by file section name false found is; keys = refl; most = refl; most_further = refl }

pub noted_dropped : (file dropped : List ℕ) (section : ℕ) (keys : KeyList) (name : List ℕ) → section_link_name file (section_at file section) ≡ Ok name → is_identifier name ≡ true
    → list_any (λ other. other == section) dropped ≡ true → NotedName file dropped section keys keys
noted_dropped file dropped section keys name found is gone = record {
  sections = record { name = name; index = section } ∷ [];
  are = named-by file section name true found is;
  keys = sym (ap (λ (b : Bool). if b then keys.keys else name_noted keys.keys name) gone);
  most = refl;
  most_further = refl;
}

pub noted_one : (file dropped : List ℕ) (section : ℕ) (old new : KeyList) (name : List ℕ) → section_link_name file (section_at file section) ≡ Ok name → is_identifier name ≡ true
    → list_any (λ other. other == section) dropped ≡ false → NotedSection old new name → NotedName file dropped section old new
noted_one file dropped section old new name found is stays noted = record {
  sections = record { name = name; index = section } ∷ [];
  are = named-by file section name true found is;
  keys = noted.keys ∙ sym (ap (λ (b : Bool). if b then old.keys else name_noted old.keys name) stays);
  most = noted.most;
  most_further = noted.most_further;
}

-- THE NAMES NOTED SO FAR, before the section of an index
pub record NotedSoFar (file : List ℕ) (dropped : List ℕ) (index : ℕ) (old new : KeyList) : Type 0 where
  pub first : List NamedSection
  pub so_far : sections_from file 0 (e_shnum file) ≡ followed first (sections_from file index (e_shnum file - index))
  pub keys : new.keys ≡ sections_noted dropped old.keys first
  pub most : new.most ≡ old.most
  pub most_further : new.most_further ≡ old.most_further

sections_from-step : (file : List ℕ) (index count : ℕ) → index < count
    → sections_from file index (count - index) ≡ and_then (named_sections file index) (sections_from file (index + 1) (count - (index + 1)))
unfolding sections_from
sections_from-step file index count below =
    let n : ℕ = count - (index + 1) in
    let here : count - index ≡ suc n = omega arith in
    let next : suc index ≡ index + 1 = omega arith in
    ap (sections_from file index) here ∙ ap (λ i. and_then (named_sections file index) (sections_from file i n)) next

sections_from-end : (file : List ℕ) (index count : ℕ) → count ≤ index → sections_from file index (count - index) ≡ Ok []
unfolding sections_from
sections_from-end file index count past = let none : count - index ≡ 0 = omega arith in ap (sections_from file index) none

sections_noted-append : (dropped : List ℕ) (keys : LinkKeys) (first more : List NamedSection)
    → sections_noted dropped keys (first ++ more) ≡ sections_noted dropped (sections_noted dropped keys first) more
sections_noted-append dropped keys [] more = refl
sections_noted-append dropped keys (section ∷ first) more = sections_noted-append dropped (section_noted dropped keys section) first more

pub noted_first : (file dropped : List ℕ) (keys : KeyList) → NotedSoFar file dropped 0 keys keys
noted_first file dropped keys =
    let all : e_shnum file ≡ e_shnum file - 0 = omega arith in
    record { first = []; so_far = followed_none (sections_from file 0 (e_shnum file)) ∙ ap (λ n. followed [] (sections_from file 0 n)) all; keys = refl; most = refl; most_further = refl }

pub noted_more : (file dropped : List ℕ) (index : ℕ) (old mid new : KeyList) → index < e_shnum file → NotedSoFar file dropped index old mid → NotedName file dropped index mid new
    → NotedSoFar file dropped (index + 1) old new
noted_more file dropped index old mid new below before here = record {
  first = before.first ++ here.sections;
  so_far = followed_more _ _ (named_sections file index) _ before.first here.sections before.so_far (sections_from-step file index (e_shnum file) below) here.are;
  keys = here.keys ∙ ap (λ k. sections_noted dropped k here.sections) before.keys ∙ sym (sections_noted-append dropped old.keys before.first here.sections);
  most = here.most ∙ before.most;
  most_further = here.most_further ∙ before.most_further;
}

pub noted_all : (file dropped : List ℕ) (index : ℕ) (old new : KeyList) → e_shnum file ≤ index → NotedSoFar file dropped index old new → NotedSections file dropped old new
noted_all file dropped index old new past before = record {
  sections = before.first;
  are = followed_all _ _ before.first before.so_far (sections_from-end file index (e_shnum file) past);
  keys = before.keys;
  most = before.most;
  most_further = before.most_further;
}

pub noted_fault : (file dropped : List ℕ) (index : ℕ) (old new : KeyList) (fault : LinkFault) → index < e_shnum file → NotedSoFar file dropped index old new
    → IsLinkFault (refusal_of (named_sections file index)) fault → IsLinkFault (refusal_of (sections_from file 0 (e_shnum file))) fault
noted_fault file dropped index old new fault below before is =
    followed_fault _ _ (named_sections file index) _ before.first fault before.so_far (sections_from-step file index (e_shnum file) below) is
