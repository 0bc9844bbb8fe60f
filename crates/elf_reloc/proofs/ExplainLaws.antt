-- What is explained, by the steps that lead to it.
use Rattle.std.proofs.Common.{◌≡◌, ◌≢◌, ℕ, zero, suc, Bool, true, false, List, Option, None, Some, Result, Ok, Err, refl, sym, ap, ◌∙◌, arith}
use Rattle.std.proofs.lemmas.Bool.Decides.{nat_tests}
use Rattle.elf_model.specs.Prelude.{DisplayedName, IsBudgetRefusal, Layout, MissingEntry, explained, first_refusal, header_checks, lack_of, lack_with, linked_at, load_checks, missing, missing_of, name_wanted, refused_in, resolved_symbol_name, section_at, strings_of, wanted}
use Rattle.elf_model.specs.declared.causes.Cause.{Cause}
use Rattle.elf_model.specs.declared.missing.MissingAddress.{MissingAddress}
use Rattle.elf_model.specs.declared.causes.Refusal.{Refusal}
use Rattle.elf_model.specs.declared.relocation_types.RelocationType.{RelocationType}
use Rattle.elf_model.specs.declared.causes.Cause.TheVariants.{Undefined, Unplaced, Unsupported}
use Rattle.elf_model.proofs.CheckSteps.{first_refusal-none, first_refusal-some}
use Rattle.elf_table.specs.Prelude.{HeaderRead, IsOfRead, LoadedAs, StoreState, StringTableRange, shown_by, strings_in}
use Rattle.elf_table.specs.declared.fault.Fault.{Fault}
use Rattle.elf_table.specs.declared.names.NameEnd.{NameEnd}
use Rattle.elf_table.specs.declared.fault.Fault.TheVariants.{Refused, Source}
use Rattle.elf_reloc.specs.Prelude.{Explains, ExplainsLoaded, Lacks, ReturnsSymbolName, may_be_missing}
use Rattle.elf_reloc.specs.declared.missing_item.MissingItem.{MissingItem}
use Rattle.elf_reloc.proofs.NamingLaws.{unnamed}

-- nothing is needed for other causes
wants_none : (cause : Cause) (type : RelocationType) (layout : Layout) (section : ℕ) (symbol : Option (ℕ × ℕ)) → may_be_missing cause ≡ false → wanted cause type layout section symbol ≡ None
unfolding wanted may_be_missing
wants_none Unplaced type layout section symbol h = absurd (cc)
wants_none Undefined type layout section symbol h = absurd (cc)
wants_none Unsupported type layout section symbol h = absurd (cc)
wants_none _ type layout section symbol h = refl

misses_none : (file : List ℕ) (header : ℕ) (layout : Layout) (section : ℕ) (refusal : Refusal) → may_be_missing refusal.cause ≡ false
    → missing file header layout section refusal ≡ None
unfolding missing missing_of
misses_none file header layout section refusal h = grind (arith, wants_none)

module _ (file : List ℕ) (section : ℕ) (layout : Layout) (refusal : Refusal) where
  -- no section of entries
  pub nowhere : refused_in file section refusal.at ≡ None → explained file section layout refusal ≡ None
  unfolding explained
  nowhere h = rw (h, explained) refl

  -- the one that the refusal points into
  pub somewhere : (index : ℕ) → refused_in file section refusal.at ≡ Some index
      → explained file section layout refusal ≡ lack_of file (section_at file index) (missing file (section_at file index) layout section refusal)
  unfolding explained
  somewhere index h = rw (h, explained) refl

  -- nothing for other causes
  pub never : may_be_missing refusal.cause ≡ false → explained file section layout refusal ≡ None
  unfolding lack_of
  never h = by_section (refused_in file section refusal.at) refl
    where
      by_section : (found : Option ℕ) → refused_in file section refusal.at ≡ found → explained file section layout refusal ≡ None
      by_section None e = nowhere e
      by_section (Some index) e = somewhere index e ∙ ap (lack_of file (section_at file index)) (misses_none file (section_at file index) layout section refusal h)

-- what is missing, with its name
told_of : (file : List ℕ) (header : ℕ) (lacking : MissingItem) → (lacking.missing.name ≢ 0 → strings_in file lacking.named.names ≡ strings_of file (linked_at file header))
    → resolved_symbol_name (strings_in file lacking.named.names) lacking.missing.name ≡ resolved_symbol_name (strings_of file (linked_at file header)) lacking.missing.name
told_of file header lacking names = by_name lacking.missing.name refl
  where
    by_name : (n : ℕ) → lacking.missing.name ≡ n → resolved_symbol_name (strings_in file lacking.named.names) lacking.missing.name ≡ resolved_symbol_name (strings_of file (linked_at file header)) lacking.missing.name
    by_name zero e = unnamed _ _ e ∙ sym (unnamed _ _ e)
    by_name (suc n) e = ap (λ (strings : List ℕ). resolved_symbol_name strings lacking.missing.name) (names (λ zero. omega (arith, zero, e)))

pub lacks_nothing : (file : List ℕ) (header : ℕ) (missed : Option MissingAddress) → Lacks file header missed None → lack_of file header missed ≡ None
unfolding lack_of
lacks_nothing file header missed lacks = rw (lacks, lack_of) refl

pub lacks_told : (file : List ℕ) (header : ℕ) (missed : Option MissingAddress) (lacking : MissingItem) → Lacks file header missed (Some lacking)
    → lack_of file header missed ≡ lack_with lacking.missing (resolved_symbol_name (strings_in file lacking.named.names) lacking.named.name)
unfolding lack_of
lacks_told file header missed lacking lacks =
    rw (lacks.0, lack_of)
    (ap (lack_with lacking.missing) (sym (told_of file header lacking lacks.2) ∙ ap (resolved_symbol_name (strings_in file lacking.named.names)) (sym lacks.1)))

-- a refusal of the file's own checks
pub header_explains : (file : List ℕ) (headers : ℕ) (lack : Option MissingEntry) (fault : Fault) (name : List ℕ) → HeaderRead file (Err fault) → Explains file headers lack (Err fault) name
header_explains file headers lack (Refused refusal) name read = λ other. first_refusal-some (header_checks file) (load_checks file headers) refusal (read other)
header_explains file headers lack (Source fault at) name read = tt

pub load_explains : (file : List ℕ) (headers : ℕ) (lack : Option MissingEntry) (fault : Fault) (name : List ℕ) (store : StoreState) → first_refusal (header_checks file) ≡ None
    → store.slots ≡ headers → LoadedAs file (Err fault) store → Explains file headers lack (Err fault) name
load_explains file headers lack (Refused refusal) name store passed slots loads = λ other.
    first_refusal-none (header_checks file) (load_checks file headers) passed ∙ (ap (λ (n : ℕ). first_refusal (load_checks file n)) (sym slots) ∙ loads other)
load_explains file headers lack (Source fault at) name store passed slots loads = tt

-- after those checks nothing is refused except with `Budget`
pub loaded_explains : (file : List ℕ) (headers : ℕ) (lack : Option MissingEntry) (result : Result (Option (MissingAddress × NameEnd)) Fault) (name : List ℕ)
    → ExplainsLoaded lack result name → Explains file headers lack result name
loaded_explains file headers lack (Ok found) name explains = explains
loaded_explains file headers lack (Err (Refused refusal)) name explains = λ other. absurd (other explains)
loaded_explains file headers lack (Err (Source fault at)) name explains = tt
