-- The names of an index, each with a NUL after it.
use Rattle.std.proofs.Common.{◌≡◌, ℕ, ◌+◌, ◌<◌, ◌≤◌, true, false, nat_lt, List, length, take, drop, Option, None, Some, Ok, Err, refl, sym, ap, subst, ◌∙◌, arith, length-take-le}
use Rattle.std.specs.Prelude.{◌==◌, ◌&&◌}
use Rattle.std.proofs.Math.ListN.{drop_of_length-le}
use Rattle.std.proofs.lemmas.Bool.Decides.{nat_tests}
use Rattle.std.proofs.lemmas.List.{length-drop, take_all}
use Rattle.elf_model.specs.Bytes.{slice}
use Rattle.elf_model.specs.LinkSymbols.{link_name}
use Rattle.elf_model.specs.Names.{is_empty_at_zero, nul_in, shown}
use Rattle.elf_model.specs.declared.causes.Cause.TheVariants.{NameUnended}
use Rattle.elf_model.specs.declared.link_states.LinkCause.TheVariants as cause
use Rattle.elf_model.proofs.Nuls.{some-free}
use Rattle.elf_resolve.specs.ArchiveIndexes.{EndedName}
use Rattle.elf_resolve.specs.StringBuffers.{FindsText, HoldsText}
use Rattle.elf_resolve.specs.declared.link_faults.LinkFault.{LinkFault}
use Rattle.elf_resolve.specs.declared.link_faults.LinkFault.TheVariants.{Refused, Read, Open, Memory}
use Rattle.elf_resolve.specs.declared.string_buffer.HeldText.{HeldText}
use Rattle.elf_resolve.proofs.StringBufferLaws.{held_size}

some_there : (strings : List ℕ) (index : ℕ) → index < length strings → is_empty_at_zero strings index ≡ false
some_there strings index below = let some : (length strings == 0) ≡ false = grind (arith, nat_tests) in ap (λ t. t && index == 0) some

front_is : (strings : List ℕ) (index : ℕ) → slice strings index (length strings + 1) ≡ drop index strings
front_is strings index = take_all (length strings + 1) (drop index strings) (omega (arith, length-drop index strings))

-- the name at an index of a table ends at the first NUL from there on
pub named_at : (strings : List ℕ) (index at end : ℕ) → index < length strings → nul_in (drop index strings) ≡ Some end → link_name strings index at ≡ Ok (take end (drop index strings))
unfolding link_name shown
named_at strings index at end below ends =
    let some = some_there strings index below in
    let yes : nat_lt index (length strings) ≡ true = grind (arith, nat_tests) in
    rw (some, front_is strings index, yes, ends, link_name) refl

pub unended_at : (strings : List ℕ) (index at : ℕ) → index < length strings → nul_in (drop index strings) ≡ None → link_name strings index at ≡ Err (record { at = at; cause = cause.Refused NameUnended })
unfolding link_name shown
unended_at strings index at below none =
    let some = some_there strings index below in
    let yes : nat_lt index (length strings) ≡ true = grind (arith, nat_tests) in
    let no : nat_lt (length strings) (length (drop index strings)) ≡ false = let count = length-drop index strings in grind (arith, nat_tests) in
    rw (some, front_is strings index, yes, none, no, link_name) refl

pub no_name_past : (strings : List ℕ) (index : ℕ) → length strings ≤ index → nul_in (drop index strings) ≡ None
no_name_past strings index past =
    ap nul_in (drop_of_length-le strings past)

-- A NAME that a buffer has at an index of the names
ended_by : (end : Option ℕ) (buffer is : List ℕ) (index at : ℕ) (text : HeldText) (name : List ℕ) → index < length is → link_name is index at ≡ Ok name → HoldsText buffer text name → nul_in (drop index is) ≡ end → EndedName buffer is index text
ended_by None buffer is index at text name below named held none = absurd (let no = unended_at is index at below none in cc)
ended_by (Some end) buffer is index at text name below named held ends =
    let found = named_at is index at end below ends in
    let same : take end (drop index is) ≡ name = cc in
    let inside = some-free (drop index is) end ends in
    let rest = length-drop index is in
    let size : end ≡ text.size = sym (length-take-le end (drop index is) (omega (arith, inside.1))) ∙ ap length same ∙ held_size buffer text name held in
    record {
      ends = ends ∙ ap (λ n. Some n) size;
      fits = omega (arith, size, inside.1, rest, below);
      holds = subst (λ b. HoldsText buffer text b) (sym same ∙ ap (λ n. take n (drop index is)) size) held;
    }

pub ended_name : (buffer is : List ℕ) (index at : ℕ) (text : HeldText) (name : List ℕ) → index < length is → link_name is index at ≡ Ok name → HoldsText buffer text name → EndedName buffer is index text
ended_name buffer is index at text name below named held = ended_by (nul_in (drop index is)) buffer is index at text name below named held refl

unended_by : (end : Option ℕ) (buffer is : List ℕ) (index at : ℕ) (f : LinkFault) → index < length is → FindsText buffer is index at (Err f) → nul_in (drop index is) ≡ end → nul_in (drop index is) ≡ None
unended_by None buffer is index at f below found none = none
unended_by (Some end) buffer is index at (Refused refusal) below found ends = absurd (let named = named_at is index at end below ends in cc)
unended_by (Some end) buffer is index at Read below found ends = absurd found
unended_by (Some end) buffer is index at Open below found ends = absurd found
unended_by (Some end) buffer is index at Memory below found ends = absurd found

pub unended_name : (buffer is : List ℕ) (index at : ℕ) (f : LinkFault) → index < length is → FindsText buffer is index at (Err f) → nul_in (drop index is) ≡ None
unended_name buffer is index at f below found = unended_by (nul_in (drop index is)) buffer is index at f below found refl
