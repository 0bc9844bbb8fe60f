-- What the checks of a section that is a hash table imply, one by one, and what its symbols are.
use Rattle.std.proofs.Common.{◌≡◌, ℕ, ◌+◌, ◌*◌, ◌==◌, ◌||◌, not, Bool, true, false, List, ◌++◌, length, None, Some, Ok, Err, refl, sym, ap, ◌∙◌}
use Rattle.elf_model.specs.Prelude.{first_refusal, has_64_bit_words, has_symbols, hash_checks_from, linked_at, section_at, sh_link, symbol_table_checks}
use Rattle.elf_model.specs.declared.causes.Refusal.{Refusal}
use Rattle.elf_model.proofs.CheckSteps.{first_refusal-none, first_refusal-some}
use Rattle.elf_record.specs.Prelude.{IsShdr}
use Rattle.elf_record.specs.declared.shdr.Shdr.{Shdr}
use Rattle.elf_table.specs.Prelude.{AreHashed, ChecksThenValue, HoldsSectionHeaders, LoadedFile, RefusedBy, StoreState, StringTableRange, TableRange, front_checks, section_place, symbols_at}
use Rattle.elf_table.specs.declared.fault.Fault.{Fault}
use Rattle.elf_table.specs.declared.fault.Fault.TheVariants.{Refused, Source}
use Rattle.elf_table.proofs.RelocationLaws.{symbols-fail, symbols-pass}

not_not : (b : Bool) → not (not b) ≡ b
not_not true = refl
not_not false = refl

-- the header of a section that is loaded
pub place_is : (file : List ℕ) (section : ℕ) (loaded : LoadedFile) (store : StoreState) → HoldsSectionHeaders file loaded store → section_place loaded.header section ≡ section_at file section
place_is file section loaded store belongs = ap (λ (n : ℕ). n + 64 * section) belongs.header.e_shoff

-- the checks of the section are those of its header, and then those of the symbols that it links to
pub checks_are : (least : ℕ) (file : List ℕ) (at size : ℕ) (header : Shdr) (linked wide : Bool) → IsShdr file at header → size ≡ length file
    → linked ≡ not (sh_link file at == 0 || not (has_symbols file at)) → wide ≡ has_64_bit_words file at
    → hash_checks_from least file at ≡ front_checks least at size header linked wide ++ symbol_table_checks file (linked_at file at)
checks_are least file at size header linked wide is same links words = rw (same, links, words, is.sh_offset, is.sh_size, not_not (sh_link file at == 0 || not (has_symbols file at))) refl

module _ (least : ℕ) (file : List ℕ) (at size link : ℕ) (header : Shdr) (linked wide : Bool) (is : IsShdr file at header) (same : size ≡ length file)
    (links : linked ≡ not (sh_link file at == 0 || not (has_symbols file at))) (words : wide ≡ has_64_bit_words file at) where
  pub front_refused : (refusal : Refusal) → Some refusal ≡ first_refusal (front_checks least at size header linked wide) → RefusedBy (hash_checks_from least file at) (Refused refusal)
  front_refused refusal fails = ap first_refusal (checks_are least file at size header linked wide is same links words) ∙ first_refusal-some (front_checks least at size header linked wide) (symbol_table_checks file (linked_at file at)) refusal (sym fails)

  module _ (passes : None ≡ first_refusal (front_checks least at size header linked wide)) (here : link ≡ linked_at file at) where
    left : first_refusal (hash_checks_from least file at) ≡ first_refusal (symbol_table_checks file (linked_at file at))
    left = ap first_refusal (checks_are least file at size header linked wide is same links words) ∙ first_refusal-none (front_checks least at size header linked wide) (symbol_table_checks file (linked_at file at)) (sym passes)

    pub symbols_refused : (fault : Fault) → Err fault ≡ symbols_at file link → RefusedBy (hash_checks_from least file at) fault
    symbols_refused (Refused refusal) symbols = left ∙ symbols-fail file _ (Refused refusal) (sym (symbols ∙ ap (symbols_at file) here))
    symbols_refused (Source fault offset) symbols = symbols-fail file _ (Source fault offset) (sym (symbols ∙ ap (symbols_at file) here))

    pub symbols_hashed : (index : ℕ) (symbols : TableRange × StringTableRange) → index ≡ header.sh_link → Ok symbols ≡ symbols_at file link
        → ChecksThenValue (hash_checks_from least file at) (AreHashed file at) (Ok (index, symbols))
    symbols_hashed index symbols to found =
        let are = symbols-pass file (linked_at file at) symbols (sym (found ∙ ap (symbols_at file) here)) in
        (left ∙ are.0, record { link = to ∙ is.sh_link; symbols = are.1 })
