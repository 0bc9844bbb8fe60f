-- The symbol table of a group, and the signature that its symbol gives.
use Rattle.std.proofs.Common.{◌≡◌, ℕ, zero, suc, ◌+◌, ◌*◌, ◌/◌, ◌%◌, ◌<◌, ◌≤◌, ◌^◌, ◌==◌, Bool, true, false, ◌&&◌, List, [], ◌∷◌, ◌++◌, length, take, drop, refl, ap, ◌∙◌, sym, subst, arith, inl, inr}
use Rattle.std.specs.Prelude.{None, Result, Ok, Err, if◌then◌else◌, nat_lt, not}
use Rattle.std.proofs.lemmas.Bool.{cases_Bool, eqb-true}
use Rattle.std.proofs.lemmas.Bool.Decides.{nat_tests}
use Rattle.elf_model.proofs.CheckSteps.{passes_front}
use Rattle.elf_model.proofs.VersionSteps.{first-passes, others-pass}
use Rattle.elf_model.specs.Bytes.{slice}
use Rattle.elf_model.specs.Checks.{first_refusal, range_checks_of, refuse, strings_checks, table_checks, whole_checks_of}
use Rattle.elf_model.specs.LinkArchives.{refusal_of}
use Rattle.elf_model.specs.LinkSymbols.{link_name, section_link_name, signature_by, signature_of}
use Rattle.elf_model.specs.Records.{e_shnum, section_at, sh_entsize, sh_info, sh_link, sh_offset, sh_size, st_name, st_shndx, st_type}
use Rattle.elf_model.specs.Tables.{SYMBOL_SIZE, entry_at, entry_count, linked_at, section_bytes, strings_of, symbol_table_checks}
use Rattle.elf_model.specs.declared.causes.Cause.TheVariants.{EntrySize, SizeNotWhole}
use Rattle.elf_model.specs.declared.link_states.LinkRefusal.{LinkRefusal}
use Rattle.elf_record.specs.Sym.{IsSym}
use Rattle.elf_record.specs.declared.sym.Sym.{Sym}
use Rattle.elf_resolve.specs.ObjectTables.{HoldsSymbols}
use Rattle.elf_resolve.specs.SectionGroups.{FindsSectionName, FoundGroup, SignsGroup}
use Rattle.elf_resolve.specs.StringBuffers.{FindsText, HoldsText, ReadText, TableTexts}
use Rattle.elf_resolve.specs.declared.link_faults.LinkFault.{LinkFault}
use Rattle.elf_resolve.specs.declared.link_faults.LinkFault.TheVariants.{Refused, Read, Open, Memory}
use Rattle.elf_resolve.specs.declared.section_groups.GroupInFile.{GroupInFile}
use Rattle.elf_resolve.specs.declared.string_buffer.HeldText.{HeldText}
use Rattle.elf_resolve.proofs.GroupFoundLaws.{linked_passes}
use Rattle.elf_resolve.proofs.SectionGroupLaws.{eqb-not}
use Rattle.elf_resolve.proofs.ObjectLaws.{symbols_read}
use Rattle.elf_resolve.proofs.StringBufferLaws.{held_size}
use Rattle.elf_table.specs.Relocations.{AreSymbols}
use Rattle.elf_table.specs.Sections.{names_at, rows, symbols_at}
use Rattle.elf_table.specs.Tables.{StringTableRange, TableRange}

-- A SYMBOL TABLE whose checks pass and that has a symbol: whole symbols, and where they are
table_passes : (file : List ℕ) (header : ℕ) → first_refusal (symbol_table_checks file header) ≡ None → (sh_size file header == 0) ≡ false → first_refusal (table_checks file header 24 ++ strings_checks file header) ≡ None
table_passes file header passes some = rw some at passes

whole_symbols : (file : List ℕ) (header : ℕ) → first_refusal (table_checks file header 24 ++ strings_checks file header) ≡ None → sh_size file header / 24 * 24 ≡ sh_size file header
whole_symbols file header passes =
    let own = passes_front (table_checks file header 24) (strings_checks file header) passes in
    let later = others-pass (refuse (not (sh_entsize file header == 24)) header EntrySize) (whole_checks_of (length file) (sh_offset file header) (sh_size file header) header 24) own in
    let whole : not (sh_size file header % 24 == 0) ≡ false = passes_front_first later in
    divides (sh_size file header) whole
  where
    passes_front_first : first_refusal (whole_checks_of (length file) (sh_offset file header) (sh_size file header) header 24) ≡ None → not (sh_size file header % 24 == 0) ≡ false
    passes_front_first later = first-passes (refuse (not (sh_size file header % 24 == 0)) header SizeNotWhole) (range_checks_of (length file) (sh_offset file header) (sh_size file header) header) later

    divides : (n : ℕ) → not (n % 24 == 0) ≡ false → n / 24 * 24 ≡ n
    divides n h = elim (cases_Bool (n % 24 == 0)) [
      | inl whole ↦ let zero_left : n % 24 ≡ 0 = eqb-true (n % 24) 0 whole in omega arith
      | inr part ↦ let other = rw part at h in absurd (cc)
    ]

-- THE SIGNATURE by the name of the symbol
signature-is : (file : List ℕ) (at : ℕ) → let e = entry_at file (linked_at file at) SYMBOL_SIZE (sh_info file at) in
    signature_of file at ≡ signature_by file e (link_name (strings_of file (linked_at file at)) (st_name file e) e)
unfolding signature_of
signature-is file at = refl

abbrev pub symbol_at : List ℕ → ℕ → ℕ
symbol_at file at = entry_at file (linked_at file at) SYMBOL_SIZE (sh_info file at)

signed-by : (file : List ℕ) (at : ℕ) (name : Result (List ℕ) LinkRefusal) → link_name (strings_of file (linked_at file at)) (st_name file (symbol_at file at)) (symbol_at file at) ≡ name
    → signature_of file at ≡ signature_by file (symbol_at file at) name
signed-by file at name is = signature-is file at ∙ ap (signature_by file (symbol_at file at)) is

pub sign_fault : (file bytes : List ℕ) (at index place : ℕ) (fault : LinkFault) → index ≡ st_name file (symbol_at file at) → place ≡ symbol_at file at
    → FindsText bytes (strings_of file (linked_at file at)) index place (Err fault) → SignsGroup file bytes at (Err fault)
sign_fault file bytes at index place (Refused refusal) is there found =
    inr (ap refusal_of (signed-by file at (Err refusal) (ap (λ i. link_name (strings_of file (linked_at file at)) i (symbol_at file at)) (sym is) ∙ ap (link_name (strings_of file (linked_at file at)) index) (sym there) ∙ found)))
sign_fault file bytes at index place Read is there found = absurd found
sign_fault file bytes at index place Open is there found = absurd found
sign_fault file bytes at index place Memory is there found = absurd found

signed_some : (file : List ℕ) (at : ℕ) (byte : ℕ) (name : List ℕ) → signature_by file at (Ok (byte ∷ name)) ≡ Ok (byte ∷ name)
signed_some file at byte name = refl

-- the name of the symbol, unless it has none and is a section's
pub sign_name : (file bytes : List ℕ) (at index place : ℕ) (text : HeldText) → index ≡ st_name file (symbol_at file at) → place ≡ symbol_at file at
    → FindsText bytes (strings_of file (linked_at file at)) index place (Ok text)
    → (text.size ≡ 0 → (st_type file (symbol_at file at) == 3 && nat_lt (st_shndx file (symbol_at file at)) (e_shnum file)) ≡ false) → SignsGroup file bytes at (Ok text)
sign_name file bytes at index place text is there found unless = by_name found.0 found.1 found.2
  where
    by_name : (name : List ℕ) → link_name (strings_of file (linked_at file at)) index place ≡ Ok name → HoldsText bytes text name → SignsGroup file bytes at (Ok text)
    by_name name finds held =
        let here = ap (λ i. link_name (strings_of file (linked_at file at)) i (symbol_at file at)) (sym is) ∙ ap (link_name (strings_of file (linked_at file at)) index) (sym there) ∙ finds in
        (name, signed-by file at (Ok name) here ∙ kept name held, held)
      where
        kept : (name : List ℕ) → HoldsText bytes text name → signature_by file (symbol_at file at) (Ok name) ≡ Ok name
        kept [] held =
            let size : text.size ≡ 0 = sym (held_size bytes text [] held) in
            ap (λ (b : Bool). if b then section_link_name file (section_at file (st_shndx file (symbol_at file at))) else Ok []) (unless size)
        kept (byte ∷ name) held = refl

-- the name of its section
pub sign_section : (file bytes : List ℕ) (at index place section : ℕ) (text : HeldText) (result : Result HeldText LinkFault) → index ≡ st_name file (symbol_at file at)
    → place ≡ symbol_at file at → section ≡ st_shndx file (symbol_at file at)
    → FindsText bytes (strings_of file (linked_at file at)) index place (Ok text) → text.size ≡ 0
    → (st_type file (symbol_at file at) == 3 && nat_lt (st_shndx file (symbol_at file at)) (e_shnum file)) ≡ true
    → FindsSectionName file bytes (section_at file section) result → SignsGroup file bytes at result
sign_section file bytes at index place section text result is there which found empty of_section named =
    by_result result (none found.0 found.1 found.2) (subst (λ s. FindsSectionName file bytes (section_at file s) result) which named)
  where
    none : (name : List ℕ) → link_name (strings_of file (linked_at file at)) index place ≡ Ok name → HoldsText bytes text name
        → signature_of file at ≡ section_link_name file (section_at file (st_shndx file (symbol_at file at)))
    none [] finds held =
        let here = ap (λ i. link_name (strings_of file (linked_at file at)) i (symbol_at file at)) (sym is) ∙ ap (link_name (strings_of file (linked_at file at)) index) (sym there) ∙ finds in
        signed-by file at (Ok []) here ∙ ap (λ (b : Bool). if b then section_link_name file (section_at file (st_shndx file (symbol_at file at))) else Ok []) of_section
    none (byte ∷ name) finds held = let size = held_size bytes text (byte ∷ name) held in absurd (omega (arith, size, empty))

    by_result : (result : Result HeldText LinkFault) → signature_of file at ≡ section_link_name file (section_at file (st_shndx file (symbol_at file at)))
        → FindsSectionName file bytes (section_at file (st_shndx file (symbol_at file at))) result → SignsGroup file bytes at result
    by_result (Ok other) same named = (named.0, same ∙ named.1, named.2)
    by_result (Err (Refused refusal)) same named = inr (ap refusal_of (same ∙ named))
    by_result (Err Read) same named = absurd named
    by_result (Err Open) same named = absurd named
    by_result (Err Memory) same named = absurd named

-- THE SYMBOL of the group is in the table that is held
take_again : (n : ℕ) (xs : List ℕ) → take (length (take n xs)) xs ≡ take n xs
take_again zero xs = refl
take_again (suc n) [] = refl
take_again (suc n) (x ∷ xs) = ap (λ l. x ∷ l) (take_again n xs)

pub symbol_within : (file bytes : List ℕ) (at : ℕ) (group : GroupInFile) (count : ℕ) → FoundGroup file at group → count ≡ entry_count file (linked_at file at) SYMBOL_SIZE
    → 24 * count ≤ length (section_bytes file (linked_at file at)) → bytes ≡ section_bytes file (linked_at file at)
    → (24 * group.index + 24 ≤ length bytes) × (bytes ≡ slice file (sh_offset file (linked_at file at)) (length bytes))
symbol_within file bytes at group count found counted whole is =
    let size = ap length is in (
      omega (arith, found.below, found.symbols.counted, counted, whole, size),
      is ∙ sym (take_again (sh_size file (linked_at file at)) (drop (sh_offset file (linked_at file at)) file)) ∙ ap (λ b. slice file (sh_offset file (linked_at file at)) (length b)) (sym is),
    )

pub symbol_place : (file : List ℕ) (at place start : ℕ) (group : GroupInFile) (count : ℕ) → FoundGroup file at group → count ≡ entry_count file (linked_at file at) SYMBOL_SIZE
    → start ≡ sh_offset file (linked_at file at) → start + 24 * count < 2 ^ 64 → (start + 24 * group.index < 2 ^ 64 → place ≡ start + 24 * group.index) → place ≡ symbol_at file at
symbol_place file at place start group count found counted started fits is =
    let here : start + 24 * group.index < 2 ^ 64 = omega (arith, found.below, found.symbols.counted, counted, fits) in
    is here ∙ ap (λ s. s + 24 * group.index) started ∙ ap (λ i. sh_offset file (linked_at file at) + 24 * i) found.index

-- ITS TABLE AND NAMES are held once they are read
symbols_at-is : (file : List ℕ) (header : ℕ) (symbols : TableRange × StringTableRange) → (sh_size file header == 0) ≡ false → first_refusal (table_checks file header 24 ++ strings_checks file header) ≡ None
    → AreSymbols file header symbols → 0 < symbols.0.count → symbols_at file header ≡ Ok symbols
symbols_at-is file header symbols some passes are rows_some =
    rw (some, symbols_at) (rw (passes) (ap Ok (same_table symbols.0 symbols.1 are.placed are.counted are.sized (are.named rows_some))))
  where
    same_table : (table : TableRange) (names : StringTableRange) → table.at ≡ sh_offset file header → table.count ≡ sh_size file header / 24 → table.entry ≡ 24
        → names ≡ names_at file (section_at file (sh_link file header)) → ◌≡◌ {A = TableRange × StringTableRange} (rows (sh_offset file header) (sh_size file header / 24) 24, names_at file (section_at file (sh_link file header))) (table, names)
    same_table table names placed counted sized named =
        let whole : rows (sh_offset file header) (sh_size file header / 24) 24 ≡ table =
        ap (λ a. rows a (sh_size file header / 24) 24) (sym placed) ∙ ap (λ c. rows table.at c 24) (sym counted) ∙ ap (λ e. rows table.at table.count e) (sym sized) in
        cc

pub linked_read : (file : List ℕ) (at start count : ℕ) (group : GroupInFile) (old now new : TableTexts) (rows names : HeldText) → FoundGroup file at group
    → group.table.at + group.table.count * group.table.entry < 2 ^ 64
    → ReadText file group.table.at (group.table.count * group.table.entry) old now rows → ReadText file group.names.at group.names.size now new names
    → start ≡ group.table.at → count ≡ group.table.count
    → HoldsSymbols file new.bytes (linked_at file at) (record { section = 0; at = start; count = count; first = 0; rows = rows; names = names })
linked_read file at start count group old now new rows names found fits r n started counted =
    let header = linked_at file at in
    let passes = linked_passes file at found.passes in
    let size : sh_size file header ≡ 0 → ⊥ = λ none. omega (arith, none, found.below, found.symbols.counted) in
    let some = eqb-not (sh_size file header) 0 size in
    let tables = table_passes file header passes some in
    let whole = whole_symbols file header tables in
    let rows_some : 0 < group.table.count = omega (arith, found.below) in
    let sized : group.table.count * group.table.entry ≡ sh_size file header = ap (λ e. group.table.count * e) found.symbols.sized ∙ ap (λ c. c * 24) found.symbols.counted ∙ whole in
    let read = symbols_read file (sh_link file at) start count (sh_info file header) group.table group.names old now new rows names
    (symbols_at-is file header (group.table, group.names) some tables found.symbols rows_some) fits sized r n started counted refl in
    record { rows = read.holds.rows; names = read.holds.names; at = read.holds.at; count = read.holds.count; whole = read.holds.whole; fits = read.holds.fits }

pub symbol_is : (file : List ℕ) (at : ℕ) (group : GroupInFile) (fields : Sym) → FoundGroup file at group → IsSym file (sh_offset file (linked_at file at) + 24 * group.index) fields → IsSym file (symbol_at file at) fields
symbol_is file at group fields found is = subst (λ i. IsSym file (sh_offset file (linked_at file at) + 24 * i) fields) found.index is

-- a section's symbol or not
pub is_section : {a b c : ℕ} → a ≡ 3 → b < c → (a == 3 && nat_lt b c) ≡ true
is_section {a} {b} {c} kind below = grind (arith, nat_tests)

pub no_section : (a b c : ℕ) → c ≤ b → (a == 3 && nat_lt b c) ≡ false
no_section a b c past = let less : nat_lt b c ≡ false = grind (arith, nat_tests) in rw less (never (a == 3))
  where
    never : (x : Bool) → (x && false) ≡ false
    never true = refl
    never false = refl

pub no_kind : (a b c : ℕ) → (a ≡ 3 → ⊥) → (a == 3 && nat_lt b c) ≡ false
no_kind a b c other = rw (eqb-not a 3 other) refl
