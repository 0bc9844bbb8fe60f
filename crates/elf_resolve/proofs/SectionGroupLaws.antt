-- The groups of an object and the names of its sections: what each section adds.
use Rattle.std.proofs.Common.{◌≡◌, ℕ, zero, suc, ◌+◌, ◌-◌, ◌*◌, ◌/◌, ◌<◌, ◌≤◌, ◌==◌, Bool, true, false, ◌&&◌, List, [], ◌∷◌, ◌++◌, length, take, drop, refl, ap, ◌∙◌, sym, subst, arith, append_assoc, bytes_eq, bit_and}
use Rattle.std.specs.Prelude.{Option, None, Some, Result, Ok, Err}
use Rattle.std.proofs.lemmas.Bool.Decides.{nat_tests}
use Rattle.std.proofs.lemmas.List.{drop-drop}
use Rattle.elf_model.specs.Bytes.{field, number}
use Rattle.std.specs.Prelude.{if◌then◌else◌, nat_le}
use Rattle.elf_model.specs.LinkSymbols.{LINK_ONCE_FRONT, SHF_GROUP, is_link_once, link_name, section_link_name, words_in}
use Rattle.elf_model.specs.Records.{e_shnum, e_shstrndx, section_at, sh_flags, sh_name}
use Rattle.elf_model.specs.Tables.{section_bytes}
use Rattle.elf_record.specs.Shdr.{IsShdr}
use Rattle.elf_record.specs.declared.shdr.Shdr.{Shdr}
use Rattle.elf_resolve.specs.ObjectTables.{HoldsNames, HoldsSectionNames}
use Rattle.elf_resolve.specs.SectionGroups.{FindsSectionName, HoldsDropped, group_word, sections_of_words}
use Rattle.elf_resolve.specs.SectionMarks.{MarksDropped}
use Rattle.elf_resolve.specs.StringBuffers.{FindsText, HoldsText}
use Rattle.elf_resolve.specs.declared.link_faults.LinkFault.{LinkFault}
use Rattle.elf_resolve.specs.declared.link_faults.LinkFault.TheVariants.{Refused, Read, Open, Memory}
use Rattle.elf_resolve.specs.declared.section_groups.Dropped.{Dropped}
use Rattle.elf_resolve.specs.declared.section_groups.Dropped.TheVariants.{Words}
use Rattle.elf_resolve.specs.declared.string_buffer.HeldText.{HeldText}
use Rattle.elf_table.specs.Load.{HoldsSectionHeaders, LoadedFile, section_place}
use Rattle.elf_table.specs.Store.{StoreState}

eqb-sym : (x y : ℕ) → (x == y) ≡ (y == x)
eqb-sym x y = grind (arith, nat_tests)

pub eqb-not : (x y : ℕ) → (x ≡ y → ⊥) → (x == y) ≡ false
eqb-not x y h = grind (arith, nat_tests)

-- the order of two texts that are compared does not matter
bytes_eq-sym : (a b : List ℕ) → bytes_eq a b ≡ bytes_eq b a
bytes_eq-sym [] [] = refl
bytes_eq-sym [] (y ∷ b) = refl
bytes_eq-sym (x ∷ a) [] = refl
bytes_eq-sym (x ∷ a) (y ∷ b) =
    let rest : bytes_eq a b ≡ bytes_eq b a = bytes_eq-sym a b in
    let first : (x == y) ≡ (y == x) = eqb-sym x y in
    cc

pub link_once-by : (file : List ℕ) (at : ℕ) (header : Shdr) (name : List ℕ) (result : Bool) → IsShdr file at header → bit_and header.sh_flags SHF_GROUP ≡ 0
    → result ≡ bytes_eq LINK_ONCE_FRONT (take 14 name) → result ≡ is_link_once file at name
link_once-by file at header name result is alone eq =
    let flags : bit_and (sh_flags file at) SHF_GROUP ≡ 0 = ap (λ f. bit_and f SHF_GROUP) (sym is.sh_flags) ∙ alone in
    eq ∙ bytes_eq-sym LINK_ONCE_FRONT (take 14 name) ∙ sym (ap (λ n. (n == 0) && bytes_eq (take 14 name) LINK_ONCE_FRONT) flags)

-- THE NAME OF A SECTION, by what is held of the names
pub place-is : (file : List ℕ) (loaded : LoadedFile) (store : StoreState) (section : ℕ) → HoldsSectionHeaders file loaded store → section_place loaded.header section ≡ section_at file section
place-is file loaded store section viewed = ap (λ o. o + 64 * section) viewed.header.e_shoff

section_link_name-is : (file : List ℕ) (at : ℕ) → (e_shstrndx file ≡ 0 → ⊥)
    → section_link_name file at ≡ link_name (section_bytes file (section_at file (e_shstrndx file))) (sh_name file at) at
unfolding section_link_name
section_link_name-is file at some =
    ap (λ b. if b then Ok [] else link_name (section_bytes file (section_at file (e_shstrndx file))) (sh_name file at) at) (eqb-not (e_shstrndx file) 0 some)

section_link_name-none : (file : List ℕ) (at : ℕ) → e_shstrndx file ≡ 0 → section_link_name file at ≡ Ok []
unfolding section_link_name
section_link_name-none file at none =
    ap (λ n. if n == 0 then Ok [] else link_name (section_bytes file (section_at file (e_shstrndx file))) (sh_name file at) at) none

pub no_section_names : (file bytes : List ℕ) (at : ℕ) (names : Option HeldText) → names ≡ None → 0 < e_shnum file → HoldsSectionNames file bytes names
    → FindsSectionName file bytes at (Ok (record { start = 0; size = 0 }))
no_section_names file bytes at names none some held =
    let held-none : e_shstrndx file ≡ 0 = subst (HoldsSectionNames file bytes) none held some in
    ([], section_link_name-none file at held-none, record { within = omega arith; fits = omega arith; bytes_are = refl })

section_name-at : (file bytes : List ℕ) (at index : ℕ) (names : HeldText) (result : Result HeldText LinkFault) → HoldsNames file bytes names → index ≡ sh_name file at
    → FindsText bytes (section_bytes file (section_at file (e_shstrndx file))) index at result → FindsSectionName file bytes at result
section_name-at file bytes at index names (Ok text) held is found =
    (found.0, section_link_name-is file at held.some ∙ ap (λ i. link_name (section_bytes file (section_at file (e_shstrndx file))) i at) (sym is) ∙ found.1, found.2)
section_name-at file bytes at index names (Err (Refused refusal)) held is found =
    section_link_name-is file at held.some ∙ ap (λ i. link_name (section_bytes file (section_at file (e_shstrndx file))) i at) (sym is) ∙ found
section_name-at file bytes at index names (Err Read) held is found = found
section_name-at file bytes at index names (Err Open) held is found = found
section_name-at file bytes at index names (Err Memory) held is found = found

pub section_name-found : (file bytes : List ℕ) (at place index : ℕ) (names : HeldText) (result : Result HeldText LinkFault) → HoldsNames file bytes names → index ≡ sh_name file at → place ≡ at
    → FindsText bytes (section_bytes file (section_at file (e_shstrndx file))) index place result → FindsSectionName file bytes at result
section_name-found file bytes at place index names result held is there found =
    section_name-at file bytes at index names result held is (subst (λ p. FindsText bytes (section_bytes file (section_at file (e_shstrndx file))) index p result) there found)

-- THE WORDS OF A GROUP: one more
field-drop : (bytes : List ℕ) (from at width : ℕ) → field (drop from bytes) at width ≡ field bytes (from + at) width
unfolding field
field-drop bytes from at width = ap (λ b. number (take width b)) (drop-drop at from bytes)

words_in-more : (n : ℕ) (bytes : List ℕ) → words_in (suc n) bytes ≡ words_in n bytes ++ field bytes (4 * n) 4 ∷ []
words_in-more zero bytes = refl
words_in-more (suc n) bytes =
    let rest : words_in (suc n) (drop 4 bytes) ≡ words_in n (drop 4 bytes) ++ field (drop 4 bytes) (4 * n) 4 ∷ [] = words_in-more n (drop 4 bytes) in
    let place : 4 + 4 * n ≡ 4 * suc n = omega arith in
    let last : field (drop 4 bytes) (4 * n) 4 ≡ field bytes (4 * suc n) 4 = field-drop bytes 4 (4 * n) 4 ∙ ap (λ p. field bytes p 4) place in
    ap (λ l. field bytes 0 4 ∷ l) (rest ∙ ap (λ f. words_in n (drop 4 bytes) ++ f ∷ []) last)

pub words_marked : (words before : List ℕ) (index : ℕ) → 1 ≤ index
    → (before ++ words_in (index - 1) (drop 4 words)) ++ field words (4 * index) 4 ∷ [] ≡ before ++ words_in index (drop 4 words)
words_marked words before index some =
    let n : ℕ = index - 1 in
    let is : suc n ≡ index = omega arith in
    let place : 4 + 4 * n ≡ 4 * index = omega arith in
    append_assoc before (words_in n (drop 4 words)) (field words (4 * index) 4 ∷ [])
    ∙ ap (λ f. before ++ (words_in n (drop 4 words) ++ f ∷ [])) (sym (field-drop words 4 (4 * n) 4 ∙ ap (λ p. field words p 4) place))
    ∙ ap (λ l. before ++ l) (sym (words_in-more n (drop 4 words)) ∙ ap (λ m. words_in m (drop 4 words)) is)

pub word_there : (words : List ℕ) (index : ℕ) (result : Option ℕ) → 4 * index + 4 ≤ length words → result ≡ group_word words index → result ≡ Some (field words (4 * index) 4)
word_there words index result within is =
    let test : nat_le (4 * index + 4) (length words) ≡ true = grind (arith, nat_tests) in
    is ∙ ap (λ b. if b then Some (field words (4 * index) 4) else None) test

pub words_marked-all : (words before : List ℕ) (index count : ℕ) → count ≡ length words / 4 → 1 ≤ index → index - 1 ≤ count - 1 → count ≤ index
    → before ++ words_in (index - 1) (drop 4 words) ≡ before ++ sections_of_words words
words_marked-all words before index count is some most least =
    let e : index - 1 ≡ length words / 4 - 1 = omega arith in
    ap (λ n. before ++ words_in n (drop 4 words)) e

pub words_marked-more : (count : ℕ) (marks final : List Bool) (words before : List ℕ) (index section : ℕ) → 1 ≤ index → final ≡ marks → section ≡ field words (4 * index) 4
    → MarksDropped count marks ((before ++ words_in (index - 1) (drop 4 words)) ++ section ∷ []) → MarksDropped count final (before ++ words_in (index + 1 - 1) (drop 4 words))
words_marked-more count marks final words before index section some same is marked =
    let e : index ≡ index + 1 - 1 = omega arith in
    let all = ap (λ s. (before ++ words_in (index - 1) (drop 4 words)) ++ s ∷ []) is ∙ words_marked words before index some ∙ ap (λ n. before ++ words_in n (drop 4 words)) e in
    subst (λ m. MarksDropped count m (before ++ words_in (index + 1 - 1) (drop 4 words))) (sym same) (subst (MarksDropped count marks) all marked)

pub held_words : (bytes : List ℕ) (section : ℕ) (text : HeldText) (dropped : Dropped) (sections : List ℕ) → dropped ≡ Words text → HoldsDropped bytes section dropped sections
    → (words : List ℕ) × HoldsText bytes text words × (sections ≡ sections_of_words words)
held_words bytes section text dropped sections is held = subst (λ d. HoldsDropped bytes section d sections) is held
