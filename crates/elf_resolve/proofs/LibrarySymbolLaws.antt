-- Symbols of a shared library: their version indexes, the names of their keys, and what they are.
use Rattle.std.proofs.Common.{◌≡◌, ℕ, ◌+◌, ◌-◌, ◌*◌, ◌/◌, ◌<◌, ◌≤◌, ◌^◌, min, Bool, true, false, List, [], ◌∷◌, ◌++◌, length, take, ◌⊎◌, inl, inr, refl, sym, ap, subst, ◌∙◌, zero-le, arith}
use Rattle.std.specs.Prelude.{Option, None, Some, Result, Ok, Err, bytes_eq, if◌then◌else◌, nat_lt, not, ◌||◌}
use Rattle.std.proofs.lemmas.Bool.{cases_lt}
use Rattle.std.proofs.lemmas.List.{nil_from_length}
use Rattle.elf_model.specs.Bytes.{field, slice}
use Rattle.elf_model.specs.LinkArchives.{refusal_of}
use Rattle.elf_model.specs.LinkKeys.{LinkSymbol}
use Rattle.elf_model.specs.LinkSymbols.{AT, LTO_MARK, is_global, link_name, refused_at}
use Rattle.elf_model.specs.Loader.{is_hidden}
use Rattle.elf_model.specs.Records.{sh_offset, sh_size, st_name}
use Rattle.elf_model.specs.Tables.{SYMBOL_SIZE, entry_at, section_bytes, strings_of}
use Rattle.elf_model.specs.Versions.{VERSYM_SIZE, number_in}
use Rattle.elf_model.specs.declared.causes.Cause.TheVariants.{VersionCut}
use Rattle.elf_model.specs.declared.link_states.LinkCause.TheVariants.{Lto}
use Rattle.elf_model.specs.declared.link_states.LinkCause.TheVariants as cause
use Rattle.elf_model.specs.declared.link_states.LinkRefusal.{LinkRefusal}
use Rattle.elf_model.specs.declared.link_states.SymbolRole.{SymbolRole}
use Rattle.elf_model.proofs.Slices.{field-slice}
use Rattle.elf_resolve.specs.LibraryKeys.{KeyNames, LibraryVersions, has_no_version, is_undefined_at, key_names, library_symbol_at, name_alone, names_by_word, names_with, library_symbol_called, symbol_counted, library_symbol_named, version_name, version_index_at}
use Rattle.elf_resolve.specs.LibrarySymbols.{library_role, library_use}
use Rattle.elf_resolve.specs.LibraryVersions.{name_of_number}
use Rattle.elf_resolve.specs.LibraryTables.{FindsKeyNames, FindsLibrarySymbol, HoldsIndexes, HoldsKeyNames, HoldsLibraryVersions}
use Rattle.elf_resolve.specs.ObjectSymbols.{HoldsSome}
use Rattle.elf_resolve.specs.StringBuffers.{FindsText, HoldsText, JoinedTexts, TableTexts}
use Rattle.elf_resolve.specs.Taken.{IsLinkFault}
use Rattle.elf_resolve.specs.VersionTexts.{text_of_number, version_text}
use Rattle.elf_resolve.specs.declared.library.VersionRows.{VersionRows}
use Rattle.elf_resolve.specs.declared.link_faults.LinkFault.{LinkFault}
use Rattle.elf_resolve.specs.declared.link_faults.LinkFault.TheVariants as fault
use Rattle.elf_resolve.specs.declared.string_buffer.HeldText.{HeldText}
use Rattle.elf_resolve.specs.declared.version_room.VersionNames.{VersionNames}
use Rattle.elf_resolve.proofs.StringBufferLaws.{held_size, holds_joined, holds_kept}
use Rattle.elf_resolve.proofs.VersionPlaceLaws.{lt_true, part_field}

-- THE VERSION INDEX of a symbol is in the section
pub word_found : (file bytes rows part : List ℕ) (at symbol start word : ℕ) (indexes : VersionRows) → HoldsIndexes file bytes at indexes → rows ≡ section_bytes file at → length rows < 2 ^ 64
    → start ≡ min (symbol * 2) (2 ^ 64 - 1) → (start + 2 ≤ length rows → part ≡ slice rows start 2) → (length rows < start + 2 → part ≡ []) → 2 ≤ length part → word ≡ field part 0 2
    → version_index_at file at symbol ≡ Ok word
word_found file bytes rows part at symbol start word indexes held is fits from here none some word_is = by_place (cases_lt (length rows) (start + 2))
  where
    within_size : (start size symbol : ℕ) → start ≡ symbol * 2 → start + 2 ≤ size → symbol < size / 2
    within_size start size symbol same within = omega arith

    by_place : (length rows < start + 2) ⊎ (start + 2 ≤ length rows) → version_index_at file at symbol ≡ Ok word
    by_place (inl past) = absurd (omega (arith, ap length (none past)))
    by_place (inr within) =
        let same : start ≡ symbol * 2 = omega arith in
        let inside : start + 2 ≤ sh_size file at = subst (λ n. start + 2 ≤ n) (ap length is ∙ held.whole) within in
        let there : sh_offset file at + start ≡ entry_at file at VERSYM_SIZE symbol = omega arith in
        let value : field part 0 2 ≡ field file (entry_at file at VERSYM_SIZE symbol) 2 =
        part_field rows part start 2 (here within) ∙ ap (λ b. field b start 2) is ∙ field-slice file (sh_offset file at) (sh_size file at) start 2 inside ∙ ap (λ n. field file n 2) there in
        ap (λ b. if b then Ok (field file (entry_at file at VERSYM_SIZE symbol) 2) else refused_at at (cause.Refused VersionCut)) (lt_true symbol (sh_size file at / 2) (within_size start (sh_size file at) symbol same inside))
        ∙ ap (λ w. Ok w) (sym value ∙ sym word_is)

-- THE NAMES OF THE KEYS by a version index: without a version, and with one
pub word_plain : (file : List ℕ) (versions : LibraryVersions) (at word_at word : ℕ) (name : List ℕ) (known : Result ℕ LinkRefusal) → known ≡ Ok word → has_no_version file at word ≡ true
    → names_by_word file versions at word_at name known ≡ Ok (name_alone name)
word_plain file versions at word_at word name known is plain =
    ap (names_by_word file versions at word_at name) is
    ∙ ap (λ b. if b then Ok (name_alone name) else names_with (not (is_undefined_at file at || is_hidden word)) name word_at (version_name versions (number_in word) (is_undefined_at file at))) plain

pub word_versioned : (file : List ℕ) (versions : LibraryVersions) (at word_at word : ℕ) (name : List ℕ) (known : Result ℕ LinkRefusal) (version : Option (List ℕ)) → known ≡ Ok word → has_no_version file at word ≡ false
    → version_name versions (number_in word) (is_undefined_at file at) ≡ version
    → names_by_word file versions at word_at name known ≡ names_with (not (is_undefined_at file at || is_hidden word)) name word_at version
word_versioned file versions at word_at word name known version is plain version_is =
    ap (names_by_word file versions at word_at name) is
    ∙ ap (λ b. if b then Ok (name_alone name) else names_with (not (is_undefined_at file at || is_hidden word)) name word_at (version_name versions (number_in word) (is_undefined_at file at))) plain
    ∙ ap (names_with (not (is_undefined_at file at || is_hidden word)) name word_at) version_is

-- the name of a version in a buffer
pub version_held : (file bytes : List ℕ) (indexes : Option VersionRows) (texts : VersionNames) (versions : LibraryVersions) (number : ℕ) (reference : Bool) → HoldsLibraryVersions file bytes indexes texts versions
    → HoldsSome bytes (version_text texts number reference) (version_name versions number reference)
version_held file bytes indexes texts versions number true held = held.needed.names_are number
version_held file bytes indexes texts versions number false held = by_test (nat_lt number 2)
  where
    by_test : (none : Bool) → HoldsSome bytes (if none then Some (record { start = 0; size = 0 }) else text_of_number texts.defined.items number) (if none then Some [] else name_of_number versions.defined number)
    by_test true = record { within = zero-le; fits = omega arith; bytes_are = refl }
    by_test false = held.defined.names_are number

pub some_held : (bytes : List ℕ) (text : HeldText) (name : Option (List ℕ)) → HoldsSome bytes (Some text) name → (is : List ℕ) × (name ≡ Some is) × HoldsText bytes text is
some_held bytes text None held = absurd held
some_held bytes text (Some is) held = (is, refl, held)

pub names_held : (old new : TableTexts) (name version : List ℕ) (text joined : HeldText) (default : Option HeldText) (has_default : Bool) → take (length old.bytes) new.bytes ≡ old.bytes → HoldsText old.bytes text name
    → JoinedTexts old new name version joined → default ≡ (if has_default then Some text else None)
    → HoldsKeyNames new.bytes (joined, default) (record { name = name ++ AT ∷ version; default_name = if has_default then Some name else None })
names_held old new name version text joined default has_default kept held joins is = record {
  name = holds_joined old new name version joined joins;
  default_name = subst (λ (d : Option HeldText). HoldsSome new.bytes d (if has_default then Some name else None)) (sym is) (by_test has_default);
}
  where
    by_test : (test : Bool) → HoldsSome new.bytes (if test then Some text else None) (if test then Some name else None)
    by_test true = holds_kept old.bytes new.bytes text name kept held
    by_test false = refl

-- A SYMBOL does not count, is refused by its name, or is called so
pub library_not_global : (file : List ℕ) (versions : LibraryVersions) (table_at symbol : ℕ) → is_global file (entry_at file table_at SYMBOL_SIZE symbol) ≡ false → library_symbol_at file versions table_at symbol ≡ Ok []
unfolding library_symbol_at
library_not_global file versions table_at symbol other =
    let at = entry_at file table_at SYMBOL_SIZE symbol in
    ap (λ b. if b then library_symbol_called file versions at symbol (link_name (strings_of file table_at) (st_name file at) at) else Ok []) other

library_global : (file : List ℕ) (versions : LibraryVersions) (table_at symbol : ℕ) → let at = entry_at file table_at SYMBOL_SIZE symbol in
    is_global file at ≡ true → library_symbol_at file versions table_at symbol ≡ library_symbol_called file versions at symbol (link_name (strings_of file table_at) (st_name file at) at)
unfolding library_symbol_at
library_global file versions table_at symbol one =
    let at = entry_at file table_at SYMBOL_SIZE symbol in
    ap (λ b. if b then library_symbol_called file versions at symbol (link_name (strings_of file table_at) (st_name file at) at) else Ok []) one

-- a global symbol at an offset, whose name's index is known
pub record IsLibrarySymbol (file : List ℕ) (table_at symbol index at : ℕ) : Type 0 where
  pub one : is_global file (entry_at file table_at SYMBOL_SIZE symbol) ≡ true
  pub index_is : index ≡ st_name file (entry_at file table_at SYMBOL_SIZE symbol)
  pub at_is : at ≡ entry_at file table_at SYMBOL_SIZE symbol

library_called : (file : List ℕ) (versions : LibraryVersions) (table_at symbol index at : ℕ) → IsLibrarySymbol file table_at symbol index at
    → library_symbol_at file versions table_at symbol ≡ library_symbol_called file versions (entry_at file table_at SYMBOL_SIZE symbol) symbol (link_name (strings_of file table_at) index at)
library_called file versions table_at symbol index at is =
    let here = entry_at file table_at SYMBOL_SIZE symbol in
    library_global file versions table_at symbol is.one
    ∙ ap (λ i. library_symbol_called file versions here symbol (link_name (strings_of file table_at) i here)) (sym is.index_is)
    ∙ ap (λ a. library_symbol_called file versions here symbol (link_name (strings_of file table_at) index a)) (sym is.at_is)

pub library_unnamed : (file bytes : List ℕ) (versions : LibraryVersions) (table_at symbol index at : ℕ) (fault : LinkFault) → IsLibrarySymbol file table_at symbol index at
    → FindsText bytes (strings_of file table_at) index at (Err fault) → IsLinkFault (refusal_of (library_symbol_at file versions table_at symbol)) fault
library_unnamed file bytes versions table_at symbol index at (fault.Refused refusal) is found =
    inr (ap refusal_of (library_called file versions table_at symbol index at is ∙ ap (library_symbol_called file versions (entry_at file table_at SYMBOL_SIZE symbol) symbol) found))
library_unnamed file bytes versions table_at symbol index at fault.Read is found = absurd found
library_unnamed file bytes versions table_at symbol index at fault.Open is found = absurd found
library_unnamed file bytes versions table_at symbol index at fault.Memory is found = absurd found

-- a symbol whose name is known
pub library_marked : (file text name : List ℕ) (versions : LibraryVersions) (table_at symbol index at : ℕ) (why : LinkFault) → IsLibrarySymbol file table_at symbol index at
    → link_name (strings_of file table_at) index at ≡ Ok name → text ≡ name → bytes_eq text LTO_MARK ≡ true → why ≡ fault.Refused (record { at = at; cause = Lto })
    → IsLinkFault (refusal_of (library_symbol_at file versions table_at symbol)) why
library_marked file text name versions table_at symbol index at why is called same mark why_is =
    let here = entry_at file table_at SYMBOL_SIZE symbol in
    let marked : bytes_eq name LTO_MARK ≡ true = ap (λ t. bytes_eq t LTO_MARK) (sym same) ∙ mark in
    let known : library_symbol_at file versions table_at symbol ≡ refused_at here Lto =
    library_called file versions table_at symbol index at is ∙ ap (library_symbol_called file versions here symbol) called ∙ ap (λ b. if b then refused_at here Lto else symbol_counted file versions here symbol name) marked in
    rw (why_is, known, is.at_is) (inr refl)

library_counted : (file text name : List ℕ) (versions : LibraryVersions) (table_at symbol index at : ℕ) → IsLibrarySymbol file table_at symbol index at
    → link_name (strings_of file table_at) index at ≡ Ok name → text ≡ name → bytes_eq text LTO_MARK ≡ false
    → library_symbol_at file versions table_at symbol ≡ symbol_counted file versions (entry_at file table_at SYMBOL_SIZE symbol) symbol name
library_counted file text name versions table_at symbol index at is called same other =
    let here = entry_at file table_at SYMBOL_SIZE symbol in
    let plain : bytes_eq name LTO_MARK ≡ false = ap (λ t. bytes_eq t LTO_MARK) (sym same) ∙ other in
    library_called file versions table_at symbol index at is ∙ ap (library_symbol_called file versions here symbol) called ∙ ap (λ b. if b then refused_at here Lto else symbol_counted file versions here symbol name) plain

pub library_nameless : (file bytes text name : List ℕ) (held : HeldText) (versions : LibraryVersions) (table_at symbol index at : ℕ) → IsLibrarySymbol file table_at symbol index at
    → link_name (strings_of file table_at) index at ≡ Ok name → text ≡ name → bytes_eq text LTO_MARK ≡ false → HoldsText bytes held name → held.size ≡ 0
    → library_symbol_at file versions table_at symbol ≡ Ok []
library_nameless file bytes text name held versions table_at symbol index at is called same other holds none =
    let empty : name ≡ [] = nil_from_length name (held_size bytes held name holds ∙ none) in
    library_counted file text name versions table_at symbol index at is called same other ∙ ap (symbol_counted file versions (entry_at file table_at SYMBOL_SIZE symbol) symbol) empty

library_named : (file bytes text name : List ℕ) (held : HeldText) (versions : LibraryVersions) (table_at symbol index at : ℕ) → IsLibrarySymbol file table_at symbol index at
    → link_name (strings_of file table_at) index at ≡ Ok name → text ≡ name → bytes_eq text LTO_MARK ≡ false → HoldsText bytes held name → (held.size ≡ 0 → ⊥)
    → let here = entry_at file table_at SYMBOL_SIZE symbol in
    library_symbol_at file versions table_at symbol ≡ library_symbol_named file here (key_names file versions versions.indexes here symbol name)
library_named file bytes text name held versions table_at symbol index at is called same other holds some =
    library_counted file text name versions table_at symbol index at is called same other ∙ by_name name (λ e. some (sym (held_size bytes held name holds) ∙ ap length e))
  where
    by_name : (name : List ℕ) → (name ≡ [] → ⊥)
        → let here = entry_at file table_at SYMBOL_SIZE symbol in
        symbol_counted file versions here symbol name ≡ library_symbol_named file here (key_names file versions versions.indexes here symbol name)
    by_name [] some = absurd (some refl)
    by_name (byte ∷ name) some = refl

pub library_refused : (file bytes text name : List ℕ) (held : HeldText) (versions : LibraryVersions) (table_at symbol index at : ℕ) (fault : LinkFault) → IsLibrarySymbol file table_at symbol index at
    → link_name (strings_of file table_at) index at ≡ Ok name → text ≡ name → bytes_eq text LTO_MARK ≡ false → HoldsText bytes held name → (held.size ≡ 0 → ⊥)
    → IsLinkFault (refusal_of (key_names file versions versions.indexes (entry_at file table_at SYMBOL_SIZE symbol) symbol name)) fault
    → IsLinkFault (refusal_of (library_symbol_at file versions table_at symbol)) fault
library_refused file bytes text name held versions table_at symbol index at fault is called same other holds some refused =
    let here = entry_at file table_at SYMBOL_SIZE symbol in
    subst (λ (r : Result (List LinkSymbol) LinkRefusal). IsLinkFault (refusal_of r) fault) (sym (library_named file bytes text name held versions table_at symbol index at is called same other holds some))
    (by_names (key_names file versions versions.indexes here symbol name) refused)
  where
    by_names : (names : Result KeyNames LinkRefusal) → IsLinkFault (refusal_of names) fault → IsLinkFault (refusal_of (library_symbol_named file (entry_at file table_at SYMBOL_SIZE symbol) names)) fault
    by_names (Err refusal) refused = refused
    by_names (Ok names) refused = refused

pub library_found : (file old new text name : List ℕ) (held first : HeldText) (default : Option HeldText) (role : SymbolRole) (versions : LibraryVersions) (table_at symbol index at : ℕ)
    → IsLibrarySymbol file table_at symbol index at
    → link_name (strings_of file table_at) index at ≡ Ok name → text ≡ name → bytes_eq text LTO_MARK ≡ false → HoldsText old held name → (held.size ≡ 0 → ⊥)
    → role ≡ library_role file (entry_at file table_at SYMBOL_SIZE symbol)
    → FindsKeyNames (key_names file versions versions.indexes (entry_at file table_at SYMBOL_SIZE symbol) symbol name) new (Ok (first, default))
    → FindsLibrarySymbol (library_symbol_at file versions table_at symbol) new (entry_at file table_at SYMBOL_SIZE symbol) (Ok (Some (record { name = first; default = default; role = role; at = at })))
library_found file old new text name held first default role versions table_at symbol index at is called same other holds some role_is found =
    let here = entry_at file table_at SYMBOL_SIZE symbol in
    let names = found.0 in (
      record { name = names.name; default_name = names.default_name; symbol = library_use (library_role file here) },
      library_named file old text name held versions table_at symbol index at is called same other holds some ∙ ap (library_symbol_named file here) found.1,
      record { name = found.2.name; default_name = found.2.default_name; use_is = ap library_use (sym role_is) },
      is.at_is,
    )
