-- The first symbol of a name in an object.
use Rattle.std.proofs.Common.{◌≡◌, ℕ, suc, ◌+◌, ◌-◌, ◌<◌, ◌≤◌, ◌==◌, Bool, true, false, List, [], ◌∷◌, ◌++◌, length, take, drop, refl, sym, ap, ◌∙◌, arith}
use Rattle.std.specs.Prelude.{Option, None, Some, Result, Ok, Err, ◌&&◌, bytes_eq, if◌then◌else◌}
use Rattle.std.proofs.lemmas.List.{append_assoc}
use Rattle.elf_model.specs.LinkPasses.{name_with_default}
use Rattle.elf_model.specs.LinkSymbols.{defines_from, defines_if, is_data_definition, is_global, is_that, link_name, names_symbol, refused_at, symbol_table_in}
use Rattle.elf_model.specs.Names.{DisplayedName, shown}
use Rattle.elf_model.specs.Names.DisplayedName.{Whole, Cut}
use Rattle.elf_model.specs.Records.{section_at, st_name}
use Rattle.elf_model.specs.Tables.{SYMBOL_SIZE, entry_at, entry_count, strings_of}
use Rattle.elf_model.specs.declared.causes.Cause.{Cause}
use Rattle.elf_model.specs.declared.link_states.LinkCause.TheVariants.{Refused}
use Rattle.elf_model.specs.declared.link_states.LinkRefusal.{LinkRefusal}
use Rattle.elf_resolve.specs.ObjectNames.{definition_at}
use Rattle.elf_resolve.specs.ObjectTables.{HoldsFirstSymbols}
use Rattle.elf_resolve.specs.StringBuffers.{FindsText}
use Rattle.elf_resolve.specs.declared.link_faults.LinkFault.{LinkFault}
use Rattle.elf_resolve.specs.declared.link_faults.LinkFault.TheVariants as fault
use Rattle.elf_resolve.specs.declared.object.SymbolRows.{SymbolRows}

-- A TEXT is another one and what follows that
and_assoc : (a b c : Bool) → (a && (b && c)) ≡ ((a && b) && c)
and_assoc true b c = refl
and_assoc false b c = refl

eq_append : (text front rest : List ℕ) → bytes_eq text (front ++ rest) ≡ (bytes_eq (take (length front) text) front && bytes_eq (drop (length front) text) rest)
eq_append text [] rest = refl
eq_append [] (byte ∷ front) rest = refl
eq_append (other ∷ text) (byte ∷ front) rest = ap (λ b. other == byte && b) (eq_append text front rest) ∙ and_assoc (other == byte) (bytes_eq (take (length front) text) front) (bytes_eq (drop (length front) text) rest)

pub default_eq : (text name default front rest tail : List ℕ) → front ≡ take (length default) text → rest ≡ drop (length default) text → tail ≡ drop (length default) name
    → bytes_eq text (name_with_default name default) ≡ (bytes_eq front default && bytes_eq rest (64 ∷ tail))
default_eq text name default front rest tail f r t =
    ap (bytes_eq text) (append_assoc default (64 ∷ []) (drop (length default) name)) ∙ eq_append text default (64 ∷ drop (length default) name)
    ∙ ap (λ l. bytes_eq l default && bytes_eq (drop (length default) text) (64 ∷ drop (length default) name)) (sym f)
    ∙ ap (λ l. bytes_eq front default && bytes_eq l (64 ∷ drop (length default) name)) (sym r)
    ∙ ap (λ l. bytes_eq front default && bytes_eq rest (64 ∷ l)) (sym t)

-- A NAME does not depend on where it would be refused
abbrev called_by : Result DisplayedName Cause → (at : ℕ) → Result (List ℕ) LinkRefusal
called_by (Ok (Whole name)) at = Ok name
called_by (Ok (Cut front)) at = Ok front
called_by (Err cause) at = refused_at at (Refused cause)

link_name-by : (strings : List ℕ) (index at : ℕ) → link_name strings index at ≡ called_by (shown strings index (length strings)) at
unfolding link_name
link_name-by strings index at = by_shown (shown strings index (length strings))
  where
    by_shown : (s : Result DisplayedName Cause) → elim s [ Ok (Whole name) ↦ Ok name | Ok (Cut front) ↦ Ok front | Err cause ↦ refused_at at (Refused cause) ] ≡ called_by s at
    by_shown (Ok (Whole name)) = refl
    by_shown (Ok (Cut front)) = refl
    by_shown (Err cause) = refl

that_by : (s : Result DisplayedName Cause) (at other : ℕ) (name : List ℕ) → is_that (called_by s at) name ≡ is_that (called_by s other) name
that_by (Ok (Whole name)) at other wanted = refl
that_by (Ok (Cut front)) at other wanted = refl
that_by (Err cause) at other wanted = refl

that_any : (strings : List ℕ) (index at other : ℕ) (name : List ℕ) → is_that (link_name strings index at) name ≡ is_that (link_name strings index other) name
that_any strings index at other name =
    let s = shown strings index (length strings) in
    ap (λ r. is_that r name) (link_name-by strings index at) ∙ that_by s at other name ∙ ap (λ r. is_that r name) (sym (link_name-by strings index other))

pub named_that : (strings name wanted : List ℕ) (index at other : ℕ) → link_name strings index other ≡ Ok name → bytes_eq name wanted ≡ is_that (link_name strings index at) wanted
named_that strings name wanted index at other is = ap (λ r. is_that r wanted) (sym is) ∙ that_any strings index other at wanted

pub unnamed_that : (bytes strings wanted : List ℕ) (index at other : ℕ) (fault : LinkFault) → FindsText bytes strings index other (Err fault) → false ≡ is_that (link_name strings index at) wanted
unnamed_that bytes strings wanted index at other (fault.Refused refusal) is = ap (λ r. is_that r wanted) (sym is) ∙ that_any strings index other at wanted
unnamed_that bytes strings wanted index at other fault.Read is = absurd is
unnamed_that bytes strings wanted index at other fault.Open is = absurd is
unnamed_that bytes strings wanted index at other fault.Memory is = absurd is

-- THE SYMBOL at an offset is one of the name, or not
pub other_binding : (file : List ℕ) (table_at at : ℕ) (name : List ℕ) → is_global file at ≡ false → ◌≡◌ {A = Option Bool} None (definition_at file table_at at name)
other_binding file table_at at name other = rw other refl

pub named_as : (file : List ℕ) (table_at at index : ℕ) (name : List ℕ) (named : Bool) → is_global file at ≡ true → index ≡ st_name file at
    → named ≡ is_that (link_name (strings_of file table_at) index at) name → names_symbol file table_at at name ≡ named
named_as file table_at at index name named one is known = rw one (sym (known ∙ ap (λ i. is_that (link_name (strings_of file table_at) i at) name) is))

pub definition_none : (file : List ℕ) (table_at at : ℕ) (name : List ℕ) → names_symbol file table_at at name ≡ false → ◌≡◌ {A = Option Bool} None (definition_at file table_at at name)
definition_none file table_at at name other = ap (λ (b : Bool). if b then Some (is_data_definition file at) else None) (sym other)

pub definition_some : (file : List ℕ) (table_at at : ℕ) (name : List ℕ) (is : Bool) → names_symbol file table_at at name ≡ true → is ≡ is_data_definition file at → Some is ≡ definition_at file table_at at name
definition_some file table_at at name is one known = ap (λ b. Some b) known ∙ ap (λ (b : Bool). if b then Some (is_data_definition file at) else None) (sym one)

-- THE FIRST OF THEM from an index on
abbrev first_or : Option Bool → (rest : Bool) → Bool
first_or None rest = rest
first_or (Some found) rest = found

first_by : (named is rest : Bool) → elim named [ true ↦ is | false ↦ rest ] ≡ first_or (if named then Some is else None) rest
first_by true is rest = refl
first_by false is rest = refl

defines_next : (file : List ℕ) (table_at index count : ℕ) (name : List ℕ) → index < count
    → defines_from file table_at index (count - index) name ≡ first_or (definition_at file table_at (entry_at file table_at SYMBOL_SIZE index) name) (defines_from file table_at (index + 1) (count - (index + 1)) name)
unfolding defines_from
defines_next file table_at index count name below =
    let e : count - index ≡ suc (count - (index + 1)) = omega arith in
    let n : suc index ≡ index + 1 = omega arith in
    let at = entry_at file table_at SYMBOL_SIZE index in
    rw e (first_by (names_symbol file table_at at name) (is_data_definition file at) (defines_from file table_at (suc index) (count - (index + 1)) name)
    ∙ ap (λ i. first_or (definition_at file table_at at name) (defines_from file table_at i (count - (index + 1)) name)) n)

pub defines_more : (file : List ℕ) (table_at index count : ℕ) (name : List ℕ) → index < count → ◌≡◌ {A = Option Bool} None (definition_at file table_at (entry_at file table_at SYMBOL_SIZE index) name)
    → defines_from file table_at index (count - index) name ≡ defines_from file table_at (index + 1) (count - (index + 1)) name
defines_more file table_at index count name below none =
    defines_next file table_at index count name below ∙ ap (λ d. first_or d (defines_from file table_at (index + 1) (count - (index + 1)) name)) (sym none)

pub defines_found : (file : List ℕ) (table_at index count : ℕ) (name : List ℕ) (found : Bool) → index < count → Some found ≡ definition_at file table_at (entry_at file table_at SYMBOL_SIZE index) name
    → found ≡ defines_from file table_at index (count - index) name
defines_found file table_at index count name found below is =
    sym (defines_next file table_at index count name below ∙ ap (λ d. first_or d (defines_from file table_at (index + 1) (count - (index + 1)) name)) (sym is))

pub defines_none : (file : List ℕ) (table_at index count : ℕ) (name : List ℕ) → count ≤ index → false ≡ defines_from file table_at index (count - index) name
unfolding defines_from
defines_none file table_at index count name past =
    let none : count - index ≡ 0 = omega arith in
    ap (λ n. defines_from file table_at index n name) (sym none)

pub defines_first : (file bytes : List ℕ) (symbols : SymbolRows) (name : List ℕ) → HoldsFirstSymbols file bytes symbols
    → defines_from file (section_at file symbols.section) symbols.first (symbols.count - symbols.first) name ≡ defines_if file (symbol_table_in file) name
defines_first file bytes symbols name held =
    let at = section_at file symbols.section in
    ap (λ c. defines_from file at symbols.first (c - symbols.first) name) held.holds.count
    ∙ ap (λ f. defines_from file at f (entry_count file at SYMBOL_SIZE - f) name) held.first
    ∙ ap (λ t. defines_if file t name) (sym held.table)
