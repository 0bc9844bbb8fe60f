-- Symbols of an object: in the bytes of their table, by their names, and taken.
use Rattle.std.proofs.Common.{◌≡◌, ℕ, suc, ◌+◌, ◌-◌, ◌*◌, ◌<◌, ◌≤◌, ◌^◌, ◌==◌, min, Bool, true, false, List, [], ◌∷◌, ◌++◌, length, get_or, take, drop, ◌⊎◌, inl, inr, refl, sym, ap, subst, ◌∙◌, arith}
use Rattle.std.specs.Prelude.{Option, None, Some, Result, Ok, Err, IsSome, bytes_eq, if◌then◌else◌, map, not}
use Rattle.std.proofs.lemmas.Bool.{cases_lt, false≢true}
use Rattle.std.proofs.lemmas.Bool.Decides.{nat_tests}
use Rattle.std.proofs.lemmas.Grind.{common_steps}
use Rattle.std.proofs.lemmas.List.{append_assoc, append-nil, drop_more, nil_from_length, map-append, take_min, length-take, take-take, get_or_past}
use Rattle.elf_model.specs.Bytes.{slice}
use Rattle.elf_model.specs.LinkArchives.{refusal_of}
use Rattle.elf_model.specs.LinkKeys.{LinkKeys, LinkSymbol, symbol_taken, symbols_taken}
use Rattle.elf_model.specs.LinkObjects.{ObjectSymbol, is_dropped, reference_role, symbol_without}
use Rattle.elf_model.specs.LinkSymbols.{LTO_MARK, and_then, is_common, is_weak_use, followed, is_default_at, is_global, link_name, link_symbol, link_symbol_at, object_symbol, refused_at, symbol_called, symbol_counts, symbol_role, symbol_section, symbol_use, symbol_table_in, symbols_from, symbols_if, version_sign_in, with_one_sign, without_version}
use Rattle.elf_model.specs.Numbers.{SHN_UNDEF}
use Rattle.elf_model.specs.Records.{section_at, sh_offset, sh_size, st_name, st_shndx, st_size}
use Rattle.elf_model.specs.Tables.{SYMBOL_SIZE, entry_at, entry_count, section_bytes, strings_of}
use Rattle.elf_model.specs.declared.link_states.LinkCause.TheVariants.{Lto}
use Rattle.elf_model.specs.declared.link_states.LinkRefusal.{LinkRefusal}
use Rattle.elf_model.specs.declared.link_states.SymbolRole.{SymbolRole}
use Rattle.elf_model.specs.declared.link_states.SymbolRole.TheVariants.{WeakReference, Reference, Common, WeakDefinition, Definition}
use Rattle.elf_model.specs.declared.link_states.SymbolUse.{SymbolUse}
use Rattle.elf_model.proofs.Slices.{slice-slice}
use Rattle.elf_record.specs.Sym.{IsSym}
use Rattle.elf_record.specs.declared.sym.Sym.{Sym}
use Rattle.elf_resolve.specs.KeyTables.{KeyList}
use Rattle.elf_resolve.specs.ObjectSymbols.{HoldsSome, NamesUse, TakesObjectSymbols, TookRows, default_by, is_reference_role, use_if}
use Rattle.elf_resolve.specs.ObjectTables.{HoldsFirstSymbols, HoldsSymbols}
use Rattle.elf_resolve.specs.StringBuffers.{FindsText, HoldsText, JoinedTexts, SplitName, TableTexts}
use Rattle.elf_resolve.specs.Symbols.{TookSymbol}
use Rattle.elf_resolve.specs.Taken.{IsLinkFault}
use Rattle.elf_resolve.specs.declared.link_faults.LinkFault.{LinkFault}
use Rattle.elf_resolve.specs.declared.link_faults.LinkFault.TheVariants as fault
use Rattle.elf_resolve.specs.declared.object.SymbolRows.{SymbolRows}
use Rattle.elf_resolve.specs.declared.object_symbols.NamedUse.{NamedUse}
use Rattle.elf_resolve.specs.declared.string_buffer.HeldText.{HeldText}
use Rattle.elf_resolve.proofs.LinkFaultLaws.{fault_of_part}
use Rattle.elf_resolve.proofs.StringBufferLaws.{held_size, holds_joined, holds_kept}

-- A SYMBOL in the bytes of a table is that of the file
pub row_in : (file rows part row : List ℕ) (at index start : ℕ) → rows ≡ slice file at (length rows) → length rows < 2 ^ 64 → start ≡ min (24 * index) (2 ^ 64 - 1)
    → (start + 24 ≤ length rows → part ≡ slice rows start 24) → (length rows < start + 24 → part ≡ []) → 24 ≤ length part → row ≡ take 24 part → row ≡ slice file (at + 24 * index) 24
row_in file rows part row at index start whole fits from held none some first = by_place (cases_lt (length rows) (start + 24))
  where
    by_place : (length rows < start + 24) ⊎ (start + 24 ≤ length rows) → row ≡ slice file (at + 24 * index) 24
    by_place (inl past) = absurd (omega (arith, ap length (none past)))
    by_place (inr within) =
        let here : start ≡ 24 * index = omega arith in
        first ∙ ap (take 24) (held within) ∙ take-take 24 24 (drop start rows) (omega arith) ∙ ap (λ b. slice b start 24) whole ∙ slice-slice file at (length rows) start 24 within ∙ ap (λ n. slice file (at + n) 24) here

-- all bytes of a slice are as many as it has
pub slice_own : (file : List ℕ) (at size : ℕ) → slice file at size ≡ slice file at (length (slice file at size))
slice_own file at size = sym (take_min size (drop at file)) ∙ ap (λ n. take n (drop at file)) (sym (length-take size (drop at file)))

-- THE NAMES of a symbol with a default version
pub names_split : (old new : TableTexts) (bytes is : List ℕ) (name base version joined : HeldText) (role : SymbolRole) → bytes ≡ is → HoldsText old.bytes name is → SplitName bytes name base version
    → take (length old.bytes) new.bytes ≡ old.bytes
    → ((first second : List ℕ) → HoldsText old.bytes base first → HoldsText old.bytes version second → JoinedTexts old new first second joined)
    → HoldsText new.bytes joined (with_one_sign is (version_sign_in is)) × HoldsSome new.bytes (if is_reference_role role then None else Some base) (default_by role is)
names_split old new bytes is name base version joined role same held split kept joins =
    let split_is = subst (λ (b : List ℕ). SplitName b name base version) same split in
    let place : ℕ = split_is.place in
    let front = split_is.base_held old.bytes held in
    let back = split_is.version_held old.bytes held in
    let one = holds_joined old new (take place is) (drop (place + 2) is) joined (joins _ _ front back) in (
      rw (split_is.sign, split_is.is_default, rest_of is place split_is.is_default) one,
      rw split_is.sign (by_role (is_reference_role role) place split_is.is_default (holds_kept old.bytes new.bytes base (take place is) kept front)),
    )
  where
    rest_of : (is : List ℕ) (place : ℕ) → is_default_at is place ≡ true → drop (place + 1) is ≡ 64 ∷ drop (place + 2) is
    rest_of is place default =
        let sign : get_or is (place + 1) 0 ≡ 64 = grind (arith, nat_tests) in
        let within : place + 1 < length is = grind (arith, nat_tests, get_or_past is (place + 1) 0) in
        drop_more is (place + 1) 0 within ∙ ap (λ b. b ∷ drop (place + 1 + 1) is) sign ∙ ap (λ n. 64 ∷ drop n is) (omega arith)

    by_role : (reference : Bool) (place : ℕ) → is_default_at is place ≡ true → HoldsText new.bytes base (take place is)
        → HoldsSome new.bytes (if reference then None else Some base) (if reference then None else without_version is (Some place))
    by_role true place default kept = refl
    by_role false place default kept = rw default kept

-- the rows of a table that is held
pub rows_held : (file bytes rows : List ℕ) (table_at index : ℕ) (symbols : SymbolRows) → HoldsSymbols file bytes table_at symbols → index < symbols.count → rows ≡ section_bytes file table_at
    → (24 * index + 24 ≤ length rows) × (rows ≡ slice file (sh_offset file table_at) (length rows))
rows_held file bytes rows table_at index symbols held below is =
    let size : length rows ≡ length (section_bytes file table_at) = ap length is in
    (omega (arith, held.whole), is ∙ slice_own file (sh_offset file table_at) (sh_size file table_at) ∙ ap (slice file (sh_offset file table_at)) (sym size))

-- A SYMBOL FOUND with its name
pub some_section : (sections : List ℕ) (section : Option ℕ) → is_dropped sections section ≡ true → IsSome section
some_section sections None is = absurd (false≢true is)
some_section sections (Some section) is = refl

pub named_found : (file bytes : List ℕ) (table_at at place index : ℕ) (sections : List ℕ) (symbol : Sym) (used : SymbolUse) (name : HeldText) → is_global file at ≡ true → IsSym file at symbol
    → index ≡ symbol.st_name → place ≡ at → FindsText bytes (strings_of file table_at) index place (Ok name) → used ≡ use_if (is_dropped sections (symbol_section file at)) (symbol_use file at)
    → NamesUse file bytes table_at at sections (record { name = name; symbol = used; at = place })
named_found file bytes table_at at place index sections symbol used name one is from here found use_is = record {
  is_one = one;
  name = found.0;
  called = ap (λ i. link_name (strings_of file table_at) i at) (sym (from ∙ is.st_name)) ∙ ap (link_name (strings_of file table_at) index) (sym here) ∙ found.1;
  holds = found.2;
  symbol_is = use_is;
  at_is = here;
}

-- a name that is refused is the symbol's refusal
refused_name : (bytes strings : List ℕ) (index at : ℕ) (fault : LinkFault) → FindsText bytes strings index at (Err fault) → IsLinkFault (refusal_of (link_name strings index at)) fault
refused_name bytes strings index at (fault.Refused refusal) found = inr (ap refusal_of found)
refused_name bytes strings index at fault.Read found = absurd found
refused_name bytes strings index at fault.Open found = absurd found
refused_name bytes strings index at fault.Memory found = absurd found

called_refused : (file : List ℕ) (at : ℕ) (name : Result (List ℕ) LinkRefusal) (refusal : LinkRefusal) → refusal_of name ≡ Some refusal → refusal_of (symbol_called file at name) ≡ Some refusal
called_refused file at (Err other) refusal is = is
called_refused file at (Ok name) refusal is = absurd (cc)

symbol_called-at : (file : List ℕ) (table_at at : ℕ) → is_global file at ≡ true → link_symbol_at file table_at at ≡ symbol_called file at (link_name (strings_of file table_at) (st_name file at) at)
unfolding link_symbol_at
symbol_called-at file table_at at one = rw one refl

pub unnamed : (file bytes : List ℕ) (table_at at place index : ℕ) (symbol : Sym) (fault : LinkFault) → is_global file at ≡ true → IsSym file at symbol → index ≡ symbol.st_name → place ≡ at
    → FindsText bytes (strings_of file table_at) index place (Err fault) → IsLinkFault (refusal_of (link_symbol_at file table_at at)) fault
unnamed file bytes table_at at place index symbol fault one is from here found =
    let strings = strings_of file table_at in
    let same : link_name strings index place ≡ link_name strings (st_name file at) at = ap (link_name strings index) here ∙ ap (λ i. link_name strings i at) (from ∙ is.st_name) in
    fault_of_part (refusal_of (link_name strings index place)) (refusal_of (link_symbol_at file table_at at)) fault
    (λ refusal e. ap refusal_of (symbol_called-at file table_at at one) ∙ called_refused file at (link_name strings (st_name file at) at) refusal (ap refusal_of (sym same) ∙ e))
    (refused_name bytes strings index place fault found)

-- A NAMED SYMBOL: the mark of intermediate code, none without a name, or one
named_called : (file bytes : List ℕ) (table_at at : ℕ) (sections : List ℕ) (named : NamedUse) (h : NamesUse file bytes table_at at sections named)
    → link_symbol_at file table_at at ≡ symbol_called file at (Ok h.name)
named_called file bytes table_at at sections named h = symbol_called-at file table_at at h.is_one ∙ ap (symbol_called file at) h.called

pub lto_refused : (file bytes : List ℕ) (table_at at row : ℕ) (sections : List ℕ) (named : NamedUse) (old new : KeyList) (text : List ℕ) (result : Result (Unit {0}) LinkFault) (h : NamesUse file bytes table_at at sections named)
    → text ≡ h.name → bytes_eq text LTO_MARK ≡ true → result ≡ Err (fault.Refused (record { at = named.at; cause = Lto }))
    → TakesObjectSymbols sections (link_symbol_at file table_at at) old new row result
lto_refused file bytes table_at at row sections named old new text result h same mark is =
    let one : bytes_eq h.name LTO_MARK ≡ true = ap (λ t. bytes_eq t LTO_MARK) (sym same) ∙ mark in
    let known : link_symbol_at file table_at at ≡ refused_at at Lto = named_called file bytes table_at at sections named h ∙ rw one refl in
    rw (is, h.at_is, known) (inr refl)

called_plain : (file : List ℕ) (at : ℕ) (text name : List ℕ) → text ≡ name → bytes_eq text LTO_MARK ≡ false → symbol_called file at (Ok name) ≡ Ok (symbol_counts file at name)
called_plain file at text name same other =
    let no : bytes_eq name LTO_MARK ≡ false = ap (λ t. bytes_eq t LTO_MARK) (sym same) ∙ other in
    rw no refl

pub took_none : (sections : List ℕ) (known : Result (List ObjectSymbol) LinkRefusal) (keys : KeyList) (row : ℕ) → known ≡ Ok [] → TakesObjectSymbols sections known keys keys row (Ok tt)
took_none sections known keys row is = ([], is, record { keys = refl; most = refl; most_further = refl })

pub unnamed_none : (file bytes : List ℕ) (table_at at row : ℕ) (sections : List ℕ) (named : NamedUse) (keys : KeyList) (text : List ℕ) (h : NamesUse file bytes table_at at sections named)
    → text ≡ h.name → bytes_eq text LTO_MARK ≡ false → named.name.size ≡ 0 → TakesObjectSymbols sections (link_symbol_at file table_at at) keys keys row (Ok tt)
unnamed_none file bytes table_at at row sections named keys text h same other none =
    let empty : h.name ≡ [] = nil_from_length h.name (held_size bytes named.name h.name h.holds ∙ none) in
    took_none sections (link_symbol_at file table_at at) keys row
    (named_called file bytes table_at at sections named h ∙ called_plain file at text h.name same other ∙ ap (λ n. Ok (symbol_counts file at n)) empty)

pub not_global : (file : List ℕ) (table_at at row : ℕ) (sections : List ℕ) (keys : KeyList) → is_global file at ≡ false → TakesObjectSymbols sections (link_symbol_at file table_at at) keys keys row (Ok tt)
unfolding link_symbol_at
not_global file table_at at row sections keys other = took_none sections (link_symbol_at file table_at at) keys row (rw other refl)

-- ITS NAMES AND ITS USE are those of the symbol without dropped sections
abbrev role_by : (undefined common weak : Bool) → (size : ℕ) → SymbolRole
role_by true common weak size = if weak then WeakReference else Reference
role_by false true weak size = Common size
role_by false false weak size = if weak then WeakDefinition else Definition

role_is : (file : List ℕ) (at : ℕ) (u c w : Bool) → (st_shndx file at == SHN_UNDEF) ≡ u → is_common file at ≡ c → is_weak_use file at ≡ w → symbol_role file at ≡ role_by u c w (st_size file at)
unfolding symbol_role
role_is file at true c w eu ec ew = rw (eu, ew) refl
role_is file at false true w eu ec ew = rw (eu, ec) refl
role_is file at false false w eu ec ew = rw (eu, ec, ew) refl

plain_default : (u c w : Bool) (size : ℕ) (default : Option (List ℕ)) → (if is_reference_role (role_by u c w size) then None else default) ≡ (if not u then default else None)
plain_default true c true size default = refl
plain_default true c false size default = refl
plain_default false true w size default = refl
plain_default false false true size default = refl
plain_default false false false size default = refl

dropped_default : (w : Bool) (size : ℕ) (default : Option (List ℕ)) → (if is_reference_role (reference_role (role_by false false w size)) then None else default) ≡ None
dropped_default true size default = refl
dropped_default false size default = refl

defined_in : (file : List ℕ) (at : ℕ) → IsSome (symbol_section file at) → ((st_shndx file at == SHN_UNDEF) ≡ false) × (is_common file at ≡ false)
defined_in file at some = (grind (arith, nat_tests, common_steps, some), grind (arith, nat_tests, common_steps, some))

pub symbol_is : (file : List ℕ) (at : ℕ) (name sections : List ℕ) (dropped : Bool) → is_dropped sections (symbol_section file at) ≡ dropped
    → record { name = with_one_sign name (version_sign_in name); default_name = default_by (use_if dropped (symbol_use file at)).role name; symbol = use_if dropped (symbol_use file at) }
    ≡ symbol_without sections (object_symbol file at name)
unfolding symbol_without object_symbol link_symbol
symbol_is file at name sections false other =
    let default = without_version name (version_sign_in name) in
    let role = role_is file at (st_shndx file at == SHN_UNDEF) (is_common file at) (is_weak_use file at) refl refl refl in
    let same : default_by (symbol_role file at) name ≡ (if not (st_shndx file at == SHN_UNDEF) then default else None) =
    ap (λ r. if is_reference_role r then None else default) role ∙ plain_default (st_shndx file at == SHN_UNDEF) (is_common file at) (is_weak_use file at) (st_size file at) default in
    rw other (ap (λ (d : Option (List ℕ)). record { name = with_one_sign name (version_sign_in name); default_name = d; symbol = symbol_use file at }) same)
symbol_is file at name sections true is =
    let default = without_version name (version_sign_in name) in
    let known = defined_in file at (some_section sections (symbol_section file at) is) in
    let role = role_is file at false false (is_weak_use file at) known.0 known.1 refl in
    let same : default_by (reference_role (symbol_role file at)) name ≡ None =
    ap (λ r. if is_reference_role (reference_role r) then None else default) role ∙ dropped_default (is_weak_use file at) (st_size file at) default in
    rw is (ap (λ (d : Option (List ℕ)). record { name = with_one_sign name (version_sign_in name); default_name = d; symbol = use_if true (symbol_use file at) }) same)

pub took_one : (file bytes : List ℕ) (table_at at row : ℕ) (sections : List ℕ) (named : NamedUse) (old new : KeyList) (text : List ℕ) (h : NamesUse file bytes table_at at sections named)
    → text ≡ h.name → bytes_eq text LTO_MARK ≡ false → (named.name.size ≡ 0 → ⊥)
    → TookSymbol old new (record { name = with_one_sign h.name (version_sign_in h.name); default_name = default_by named.symbol.role h.name; symbol = named.symbol }) (Some row)
    → TakesObjectSymbols sections (link_symbol_at file table_at at) old new row (Ok tt)
took_one file bytes table_at at row sections named old new text h same other some took =
    let dropped = is_dropped sections (symbol_section file at) in
    let is : record { name = with_one_sign h.name (version_sign_in h.name); default_name = default_by named.symbol.role h.name; symbol = named.symbol } ≡ symbol_without sections (object_symbol file at h.name) =
    ap (λ (u : SymbolUse). record { name = with_one_sign h.name (version_sign_in h.name); default_name = default_by u.role h.name; symbol = u }) h.symbol_is ∙ symbol_is file at h.name sections dropped refl in
    let one = subst (λ (s : LinkSymbol). TookSymbol old new s (Some row)) is took in (
      object_symbol file at h.name ∷ [],
      named_called file bytes table_at at sections named h ∙ called_plain file at text h.name same other ∙ ap (λ (l : List ObjectSymbol). Ok l) (counts_one h.name (λ e. some (sym (held_size bytes named.name h.name h.holds) ∙ ap length e))),
      record { keys = one.keys; most = one.most; most_further = one.most_further },
    )
  where
    counts_one : (name : List ℕ) → (name ≡ [] → ⊥) → symbol_counts file at name ≡ object_symbol file at name ∷ []
    counts_one [] other = absurd (other refl)
    counts_one (byte ∷ name) other = refl

-- THE ROWS of a table, one after the other
followed_none : (rest : Result (List ObjectSymbol) LinkRefusal) → rest ≡ followed [] rest
followed_none (Ok rest) = refl
followed_none (Err refusal) = refl

followed_more : (done more : List ObjectSymbol) (rest : Result (List ObjectSymbol) LinkRefusal) → followed done (followed more rest) ≡ followed (done ++ more) rest
followed_more done more (Ok rest) = ap (λ l. Ok l) (sym (append_assoc done more rest))
followed_more done more (Err refusal) = refl

pub rows_none : (file : List ℕ) (table_at first count : ℕ) (sections : List ℕ) (keys : KeyList) (row : ℕ) → TookRows file table_at first first count sections keys keys row
rows_none file table_at first count sections keys row =
    ([], followed_none (symbols_from file table_at first (count - first)), record { keys = refl; most = refl; most_further = refl })

symbols_next : (file : List ℕ) (table_at index count : ℕ) → index < count
    → symbols_from file table_at index (count - index) ≡ and_then (link_symbol_at file table_at (entry_at file table_at SYMBOL_SIZE index)) (symbols_from file table_at (index + 1) (count - (index + 1)))
unfolding symbols_from
symbols_next file table_at index count below =
    let e : count - index ≡ suc (count - (index + 1)) = omega arith in
    let n : suc index ≡ index + 1 = omega arith in
    rw e (ap (λ i. and_then (link_symbol_at file table_at (entry_at file table_at SYMBOL_SIZE index)) (symbols_from file table_at i (count - (index + 1)))) n)

pub rows_more : (file : List ℕ) (table_at first index count : ℕ) (sections : List ℕ) (old now next : KeyList) (row : ℕ) → index < count → TookRows file table_at first index count sections old now row
    → TakesObjectSymbols sections (link_symbol_at file table_at (entry_at file table_at SYMBOL_SIZE index)) now next row (Ok tt) → TookRows file table_at first (index + 1) count sections old next row
rows_more file table_at first index count sections old now next row below before more =
    let rest = symbols_from file table_at (index + 1) (count - (index + 1)) in
    let here : symbols_from file table_at index (count - index) ≡ followed more.0 rest = symbols_next file table_at index count below ∙ ap (λ r. and_then r rest) more.1 in (
      before.0 ++ more.0,
      before.1 ∙ ap (followed before.0) here ∙ followed_more before.0 more.0 rest,
      record {
        keys = rw (map-append (symbol_without sections) before.0 more.0, symbols_taken-append) (more.2.keys ∙ ap (λ k. symbols_taken (Some row) k (map (symbol_without sections) more.0)) before.2.keys);
        most = more.2.most ∙ before.2.most;
        most_further = more.2.most_further ∙ before.2.most_further;
      },
    )
  where
    symbols_taken-append : (row : Option ℕ) (keys : LinkKeys) (xs ys : List LinkSymbol) → symbols_taken row keys (xs ++ ys) ≡ symbols_taken row (symbols_taken row keys xs) ys
    symbols_taken-append row keys [] ys = refl
    symbols_taken-append row keys (x ∷ xs) ys = symbols_taken-append row (symbol_taken row keys x) xs ys

pub rows_fault : (file : List ℕ) (table_at first index count : ℕ) (sections : List ℕ) (old now : KeyList) (row : ℕ) (fault : LinkFault) → index < count → TookRows file table_at first index count sections old now row
    → IsLinkFault (refusal_of (link_symbol_at file table_at (entry_at file table_at SYMBOL_SIZE index))) fault → IsLinkFault (refusal_of (symbols_from file table_at first (count - first))) fault
rows_fault file table_at first index count sections old now row fault below before is =
    let one = link_symbol_at file table_at (entry_at file table_at SYMBOL_SIZE index) in
    fault_of_part (refusal_of one) (refusal_of (symbols_from file table_at first (count - first))) fault
    (λ refusal e. ap refusal_of (before.1 ∙ ap (followed before.0) (symbols_next file table_at index count below)) ∙ refused_then before.0 one (symbols_from file table_at (index + 1) (count - (index + 1))) refusal e) is
  where
    refused_then : (done : List ObjectSymbol) (one rest : Result (List ObjectSymbol) LinkRefusal) (refusal : LinkRefusal) → refusal_of one ≡ Some refusal → refusal_of (followed done (and_then one rest)) ≡ Some refusal
    refused_then done (Err other) rest refusal e = e
    refused_then done (Ok more) rest refusal e = absurd (cc)

pub rows_all : (file : List ℕ) (table_at first index count : ℕ) (sections : List ℕ) (old now : KeyList) (row : ℕ) → count ≤ index → TookRows file table_at first index count sections old now row
    → TakesObjectSymbols sections (symbols_from file table_at first (count - first)) old now row (Ok tt)
unfolding symbols_from
rows_all file table_at first index count sections old now row past before =
    let none : count - index ≡ 0 = omega arith in
    (before.0, before.1 ∙ ap (λ n. followed before.0 (symbols_from file table_at index n)) none ∙ ap (λ l. Ok l) (append-nil before.0), before.2)

-- THE SYMBOLS of an object are those of its first table
pub first_rows : (file bytes : List ℕ) (symbols : SymbolRows) → HoldsFirstSymbols file bytes symbols
    → symbols_from file (section_at file symbols.section) symbols.first (symbols.count - symbols.first) ≡ symbols_if file (symbol_table_in file)
first_rows file bytes symbols held =
    let at = section_at file symbols.section in
    ap (λ c. symbols_from file at symbols.first (c - symbols.first)) held.holds.count
    ∙ ap (λ f. symbols_from file at f (entry_count file at SYMBOL_SIZE - f)) held.first
    ∙ ap (symbols_if file) (sym held.table)
