-- The symbol that a relocation entry names, by what the file's sections give.
use Rattle.std.proofs.Common.{◌≡◌, ◌≢◌, ℕ, ◌+◌, ◌≤◌, ◌==◌, false, inl, inr, List, None, Some, Result, Ok, Err, IfErr, refl, sym, ap, subst}
use Rattle.std.proofs.lemmas.Bool.{cases_Bool, ne_eqb}
use Rattle.elf_model.specs.Prelude.{DisplayedName, entry_at, first_refusal, linked_at, no_name, shown, st_name, strings_of, symbol_checks_of, symbol_named}
use Rattle.elf_model.specs.declared.causes.Cause.{Cause}
use Rattle.elf_model.specs.declared.causes.Refusal.{Refusal}
use Rattle.elf_source.specs.Source.{CountedState, ReadsUpTo}
use Rattle.elf_table.specs.Prelude.{IsReadFault, NameRead, RefusedBy, Refuses}
use Rattle.elf_table.specs.declared.fault.Fault.{Fault}
use Rattle.elf_table.specs.declared.fault.Fault.TheVariants.{Refused, Source}
use Rattle.elf_table.specs.declared.names.NameEnd.{NameEnd}
use Rattle.elf_listing.proofs.VersionedCosts.{IsReadFault-account}

-- what a fault says if there is one, after reads, in a bound on what both read
pub says_after : {X : Type 0} (a b c : CountedState) (result : Result X Fault) (n m k : ℕ) → b.asked + m ≤ a.asked + k → ReadsUpTo a b n → IfErr result (IsReadFault b c m) → IfErr result (IsReadFault a c k)
says_after a b c (Ok x) n m k within p q = tt
says_after a b c (Err fault) n m k within p q = IsReadFault-account a b c fault n m k within p q

pub named_zero : (file : List ℕ) (cap header entry symbol : ℕ) → symbol ≡ 0 → symbol_named file cap header entry symbol ≡ (entry, no_name)
unfolding symbol_named
named_zero file cap header entry symbol zero = rw zero refl

pub named_refused : (file : List ℕ) (cap header entry symbol : ℕ) (refusal : Refusal) → first_refusal (symbol_checks_of file header entry symbol) ≡ Some refusal
    → symbol_named file cap header entry symbol ≡ (refusal.at, Err refusal.cause)
unfolding symbol_named
named_refused file cap header entry symbol refusal is = elim (cases_Bool (symbol == 0)) [
  | inl zero ↦ let none = rw zero at is in cc
  | inr some ↦ rw (is, some) refl
]

pub named_found : (file : List ℕ) (cap header entry symbol : ℕ) → (symbol == 0) ≡ false → first_refusal (symbol_checks_of file header entry symbol) ≡ None
    → symbol_named file cap header entry symbol
    ≡ (entry_at file (linked_at file header) 24 symbol, shown (strings_of file (linked_at file header)) (st_name file (entry_at file (linked_at file header) 24 symbol)) cap)
unfolding symbol_named
named_found file cap header entry symbol some none = rw (none, some) refl

-- a refusal at an offset
pub refuses_as : {X : Type 0} (p : ℕ × Result DisplayedName Cause) (entry : ℕ) (cause : Cause) → p ≡ (entry, Err cause) → X → (entry ≡ p.0) × (p.1 ≡ Err cause)
refuses_as p entry cause same other = (ap (λ (s : ℕ × Result DisplayedName Cause). s.0) (sym same), ap (λ (s : ℕ × Result DisplayedName Cause). s.1) same)

-- a fault of the symbol's checks
pub refuses_named : (file : List ℕ) (cap header entry symbol : ℕ) (fault : Fault) → RefusedBy (symbol_checks_of file header entry symbol) fault
    → Refuses (symbol_named file cap header entry symbol).0 fault (symbol_named file cap header entry symbol).1
refuses_named file cap header entry symbol (Refused refusal) by = refuses_as _ _ _ (named_refused file cap header entry symbol refusal by)
refuses_named file cap header entry symbol (Source fault offset) by = absurd by

-- the name of a symbol that was found, as it is read: by its place and the strings of its name
pub read_named : (file : List ℕ) (cap header entry symbol place off : ℕ) (names : List ℕ) (result : Result NameEnd Fault) (name : List ℕ) → symbol ≢ 0
    → first_refusal (symbol_checks_of file header entry symbol) ≡ None → place ≡ entry_at file (linked_at file header) 24 symbol → off ≡ st_name file place
    → names ≡ strings_of file (linked_at file header) → NameRead place result name (shown names off cap)
    → NameRead (symbol_named file cap header entry symbol).0 result name (symbol_named file cap header entry symbol).1
read_named file cap header entry symbol place off names result name some passed here named strings read =
    let P : ℕ × Result DisplayedName Cause → Type 0 = λ s. NameRead s.0 result name s.1 in
    subst P (sym (named_found file cap header entry symbol (ne_eqb symbol 0 some) passed)) (rw (← here, ← named, ← strings) read)
