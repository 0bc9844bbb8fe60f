-- A symbol of a shared library is found, does not count, or is refused.
use Rattle.std.proofs.Common.{◌≡◌, ◌+◌, ◌*◌, ◌<◌, refl, sym, ap, subst, ◌∙◌, arith}
use Rattle.std.proofs.lemmas.Result.{err_from_is_err_and}
use Rattle.elf_model.specs.Records.{sh_offset}
use Rattle.elf_model.specs.Tables.{SYMBOL_SIZE, entry_at, strings_of}
use Rattle.elf_resolve.specs.ObjectTables.{HoldsSymbols}
use Rattle.elf_resolve.specs.declared.object.SymbolRows.{SymbolRows}
use Rattle.elf_resolve.proofs.LibrarySymbolLaws.{IsLibrarySymbol, library_found, library_marked, library_nameless, library_not_global, library_refused, library_unnamed}
use Rattle.elf_resolve.proofs.ObjectSymbolLaws.{rows_held}
use Rattle.elf_resolve.proofs.library_symbols.library_symbol.Goals as goal

pub returns-in_default-global_in-clause-finds : goal.returns-in_default-global_in-clause-finds
returns-in_default-global_in-clause-finds c = λ file table_at symbols known some held versions view below.
    let same : symbols ≡ c.in-Some.symbols = cc in
    let there = subst (HoldsSymbols file c.args.strings.now.bytes table_at) same held in
    let within = subst (λ (s : SymbolRows). c.args.index < s.count) same below in
    let rows = rows_held file c.args.strings.now.bytes c.bytes.result.now table_at c.args.index c.in-Some.symbols there within (c.bytes.ensures _ there.rows) in
    library_not_global file known table_at c.args.index (c.in_default-global_in.ensures rows.0 file (sh_offset file table_at) rows.1)

pub returns-in_err-name-clause-finds : goal.returns-in_err-name-clause-finds
returns-in_err-name-clause-finds c = λ file table_at symbols known some held versions view below.
    let same : symbols ≡ c.in-Some.symbols = cc in
    let there = subst (HoldsSymbols file c.args.strings.now.bytes table_at) same held in
    let within = subst (λ (s : SymbolRows). c.args.index < s.count) same below in
    let rows = rows_held file c.args.strings.now.bytes c.bytes.result.now table_at c.args.index c.in-Some.symbols there within (c.bytes.ensures _ there.rows) in
    let one = c.in-Some-global_in.ensures rows.0 file (sh_offset file table_at) rows.1 in
    let here : c.place-at.result ≡ entry_at file table_at SYMBOL_SIZE c.args.index = c.place-at.ensures (omega (arith, there.fits, within)) ∙ ap (λ a. a + 24 * c.args.index) there.at in
    let is : IsLibrarySymbol file table_at c.args.index c.from.result c.place-at.result = record { one = one.0; index_is = c.from.ensures ∙ one.1.st_name; at_is = here } in
    let e = err_from_is_err_and c.from_residual.result c.from_residual.ensures.1 in
    rw (e.1, e.2)
    (library_unnamed file c.args.strings.now.bytes known table_at c.args.index c.from.result c.place-at.result c.in_err-name.field-0.0 is
    (c.in_err-name.ensures (strings_of file table_at) (there.names (omega (arith, within)))))

pub returns-then-is_lto_mark-clause-finds : goal.returns-then-is_lto_mark-clause-finds
returns-then-is_lto_mark-clause-finds c = λ file table_at symbols known some held versions view below.
    let same : symbols ≡ c.in-Some.symbols = cc in
    let there = subst (HoldsSymbols file c.args.strings.now.bytes table_at) same held in
    let within = subst (λ (s : SymbolRows). c.args.index < s.count) same below in
    let rows = rows_held file c.args.strings.now.bytes c.bytes.result.now table_at c.args.index c.in-Some.symbols there within (c.bytes.ensures _ there.rows) in
    let one = c.in-Some-global_in.ensures rows.0 file (sh_offset file table_at) rows.1 in
    let here : c.place-at.result ≡ entry_at file table_at SYMBOL_SIZE c.args.index = c.place-at.ensures (omega (arith, there.fits, within)) ∙ ap (λ a. a + 24 * c.args.index) there.at in
    let is : IsLibrarySymbol file table_at c.args.index c.from.result c.place-at.result = record { one = one.0; index_is = c.from.ensures ∙ one.1.st_name; at_is = here } in
    let name = c.in_ok-name.ensures (strings_of file table_at) (there.names (omega (arith, within))) in
    rw c.refused.ensures
    (library_marked file c.bytes-2.result.now name.0 known table_at c.args.index c.from.result c.place-at.result _ is name.1 (c.bytes-2.ensures name.0 name.2)
    (sym c.is_lto_mark.ensures ∙ c.if-is_lto_mark.true) refl)

pub returns-then-name-eq0-clause-finds : goal.returns-then-name-eq0-clause-finds
returns-then-name-eq0-clause-finds c = λ file table_at symbols known some held versions view below.
    let same : symbols ≡ c.in-Some.symbols = cc in
    let there = subst (HoldsSymbols file c.args.strings.now.bytes table_at) same held in
    let within = subst (λ (s : SymbolRows). c.args.index < s.count) same below in
    let rows = rows_held file c.args.strings.now.bytes c.bytes.result.now table_at c.args.index c.in-Some.symbols there within (c.bytes.ensures _ there.rows) in
    let one = c.in-Some-global_in.ensures rows.0 file (sh_offset file table_at) rows.1 in
    let here : c.place-at.result ≡ entry_at file table_at SYMBOL_SIZE c.args.index = c.place-at.ensures (omega (arith, there.fits, within)) ∙ ap (λ a. a + 24 * c.args.index) there.at in
    let is : IsLibrarySymbol file table_at c.args.index c.from.result c.place-at.result = record { one = one.0; index_is = c.from.ensures ∙ one.1.st_name; at_is = here } in
    let name = c.in_ok-name.ensures (strings_of file table_at) (there.names (omega (arith, within))) in
    library_nameless file c.args.strings.now.bytes c.bytes-2.result.now name.0 c.in_ok-name.name known table_at c.args.index c.from.result c.place-at.result is name.1 (c.bytes-2.ensures name.0 name.2)
    (sym c.is_lto_mark.ensures ∙ c.if-is_lto_mark.false) name.2 c.if-name-eq0.true

pub returns-in_err-name-2-clause-finds : goal.returns-in_err-name-2-clause-finds
returns-in_err-name-2-clause-finds c = λ file table_at symbols known some held versions view below.
    let same : symbols ≡ c.in-Some.symbols = cc in
    let there = subst (HoldsSymbols file c.args.strings.now.bytes table_at) same held in
    let within = subst (λ (s : SymbolRows). c.args.index < s.count) same below in
    let rows = rows_held file c.args.strings.now.bytes c.bytes.result.now table_at c.args.index c.in-Some.symbols there within (c.bytes.ensures _ there.rows) in
    let one = c.in-Some-global_in.ensures rows.0 file (sh_offset file table_at) rows.1 in
    let here : c.place-at.result ≡ entry_at file table_at SYMBOL_SIZE c.args.index = c.place-at.ensures (omega (arith, there.fits, within)) ∙ ap (λ a. a + 24 * c.args.index) there.at in
    let is : IsLibrarySymbol file table_at c.args.index c.from.result c.place-at.result = record { one = one.0; index_is = c.from.ensures ∙ one.1.st_name; at_is = here } in
    let name = c.in_ok-name.ensures (strings_of file table_at) (there.names (omega (arith, within))) in
    let e = err_from_is_err_and c.from_residual-in_err-name-2.result c.from_residual-in_err-name-2.ensures.1 in
    rw (e.1, e.2)
    (library_refused file c.args.strings.now.bytes c.bytes-2.result.now name.0 c.in_ok-name.name known table_at c.args.index c.from.result c.place-at.result c.in_err-name-2.field-0.0 is name.1
    (c.bytes-2.ensures name.0 name.2) (sym c.is_lto_mark.ensures ∙ c.if-is_lto_mark.false) name.2 c.if-name-eq0.false
    (c.in_err-name-2.ensures.finds file (entry_at file table_at SYMBOL_SIZE c.args.index) known name.0 versions one.1 name.2))

pub returns-clause-finds : goal.returns-clause-finds
returns-clause-finds c = λ file table_at symbols known some held versions view below.
    let same : symbols ≡ c.in-Some.symbols = cc in
    let there = subst (HoldsSymbols file c.args.strings.now.bytes table_at) same held in
    let within = subst (λ (s : SymbolRows). c.args.index < s.count) same below in
    let rows = rows_held file c.args.strings.now.bytes c.bytes.result.now table_at c.args.index c.in-Some.symbols there within (c.bytes.ensures _ there.rows) in
    let one = c.in-Some-global_in.ensures rows.0 file (sh_offset file table_at) rows.1 in
    let here : c.place-at.result ≡ entry_at file table_at SYMBOL_SIZE c.args.index = c.place-at.ensures (omega (arith, there.fits, within)) ∙ ap (λ a. a + 24 * c.args.index) there.at in
    let is : IsLibrarySymbol file table_at c.args.index c.from.result c.place-at.result = record { one = one.0; index_is = c.from.ensures ∙ one.1.st_name; at_is = here } in
    let name = c.in_ok-name.ensures (strings_of file table_at) (there.names (omega (arith, within))) in
    library_found file c.args.strings.now.bytes c.key_names.new.strings.bytes c.bytes-2.result.now name.0 c.in_ok-name.name _ _ c.role_of-role.result known table_at c.args.index c.from.result c.place-at.result is name.1
    (c.bytes-2.ensures name.0 name.2) (sym c.is_lto_mark.ensures ∙ c.if-is_lto_mark.false) name.2 c.if-name-eq0.false
    (c.role_of-role.ensures file (entry_at file table_at SYMBOL_SIZE c.args.index) one.1 view)
    (c.in_ok-name-2.ensures.finds file (entry_at file table_at SYMBOL_SIZE c.args.index) known name.0 versions one.1 name.2)
