use Rattle.std.proofs.Common.{◌<◌, ◌%◌, ap, subst, ◌∙◌, sym, arith}
use Rattle.std.specs.Prelude.{IsSome}
use Rattle.std.proofs.lemmas.Result.{err_from_is_err_and}
use Rattle.elf_model.specs.Records.{e_shnum, sh_offset, st_shndx, st_type}
use Rattle.elf_model.specs.Tables.{linked_at, strings_of}
use Rattle.elf_resolve.proofs.LinkedSymbolLaws.{is_section, no_kind, no_section, sign_fault, sign_name, sign_section, symbol_at, symbol_is, symbol_place, symbol_within}
use Rattle.elf_resolve.proofs.section_groups.symbol_name.Goals as goal
use Rattle.elf_resolve.proofs.section_groups.symbol_name.Goals.{else-name-eq0-via-then-name-eq0+then-kind-eq-STT_SECTION+else-fields-sections, else-name-eq0-via-then-name-eq0+else-kind-eq-STT_SECTION, else-name-eq0-via-else-name-eq0}

pub returns-in_default : goal.returns-in_default
returns-in_default c = λ file at viewed held found symbols.
    let w = symbol_within file c.bytes.result.now at c.args.group.now c.args.symbols.count found symbols.count symbols.whole (c.bytes.ensures _ symbols.rows) in
    let none = subst IsSome c.in_default.is (c.symbol_in.ensures.found w.0) in
    absurd (cc)

pub returns-in_err-name : goal.returns-in_err-name
returns-in_err-name c = λ file at viewed held found symbols.
    let w = symbol_within file c.bytes.result.now at c.args.group.now c.args.symbols.count found symbols.count symbols.whole (c.bytes.ensures _ symbols.rows) in
    let is = symbol_is file at c.args.group.now c.in-Some.fields found (c.in-Some.ensures.is file (sh_offset file (linked_at file at)) w.1) in
    let there = symbol_place file at c.place-place.result c.args.symbols.at c.args.group.now c.args.symbols.count found symbols.count symbols.at symbols.fits c.place-place.ensures in
    let some : 0 < c.args.symbols.count = omega (arith, found.below, found.symbols.counted, symbols.count) in
    let index = c.from.ensures ∙ is.st_name in
    let p = err_from_is_err_and c.from_residual.result c.from_residual.ensures.1 in
    rw (p.1, p.2) (sign_fault file c.args.strings.now.bytes at c.from.result c.place-place.result c.in_err-name.field-0.0 index there (c.in_err-name.ensures (strings_of file (linked_at file at)) (symbols.names some)))

pub returns-then-fields-sections : goal.returns-then-fields-sections
returns-then-fields-sections c = λ file at viewed held found symbols.
    let w = symbol_within file c.bytes.result.now at c.args.group.now c.args.symbols.count found symbols.count symbols.whole (c.bytes.ensures _ symbols.rows) in
    let is = symbol_is file at c.args.group.now c.in-Some.fields found (c.in-Some.ensures.is file (sh_offset file (linked_at file at)) w.1) in
    let there = symbol_place file at c.place-place.result c.args.symbols.at c.args.group.now c.args.symbols.count found symbols.count symbols.at symbols.fits c.place-place.ensures in
    let some : 0 < c.args.symbols.count = omega (arith, found.below, found.symbols.counted, symbols.count) in
    let index = c.from.ensures ∙ is.st_name in
    let kind = sym (ap (λ i. i % 16) is.st_info) ∙ sym c.kind.ensures ∙ c.if-kind-eq-STT_SECTION.true in
    sign_section file c.args.strings.now.bytes at c.from.result c.place-place.result c.in-Some.fields.st_shndx c.in_ok-name.name c.section_name.result index there is.st_shndx
    (c.in_ok-name.ensures (strings_of file (linked_at file at)) (symbols.names some)) c.if-name-eq0.true
    (is_section kind (omega (arith, is.st_shndx, c.if-fields-sections.true, c.sections.ensures, viewed.count, viewed.header.e_shnum)))
    (c.section_name.ensures file viewed held)

pub returns : goal.returns
returns c = λ file at viewed held found symbols.
    let w = symbol_within file c.bytes.result.now at c.args.group.now c.args.symbols.count found symbols.count symbols.whole (c.bytes.ensures _ symbols.rows) in
    let is = symbol_is file at c.args.group.now c.in-Some.fields found (c.in-Some.ensures.is file (sh_offset file (linked_at file at)) w.1) in
    let there = symbol_place file at c.place-place.result c.args.symbols.at c.args.group.now c.args.symbols.count found symbols.count symbols.at symbols.fits c.place-place.ensures in
    let some : 0 < c.args.symbols.count = omega (arith, found.below, found.symbols.counted, symbols.count) in
    let index = c.from.ensures ∙ is.st_name in
    let named = sign_name file c.args.strings.now.bytes at c.from.result c.place-place.result c.in_ok-name.name index there
    (c.in_ok-name.ensures (strings_of file (linked_at file at)) (symbols.names some)) in
    elim c.else-name-eq0.branch [
      | else-name-eq0-via-then-name-eq0+then-kind-eq-STT_SECTION+else-fields-sections w ↦
          named (λ e. no_section (st_type file (symbol_at file at)) (st_shndx file (symbol_at file at)) (e_shnum file) (omega (arith, is.st_shndx, w.if-fields-sections.false, w.sections.ensures, viewed.count, viewed.header.e_shnum)))
      | else-name-eq0-via-then-name-eq0+else-kind-eq-STT_SECTION w ↦
          named (λ e. no_kind (st_type file (symbol_at file at)) (st_shndx file (symbol_at file at)) (e_shnum file) (λ k. w.if-kind-eq-STT_SECTION.false (w.kind.ensures ∙ ap (λ i. i % 16) is.st_info ∙ k)))
      | else-name-eq0-via-else-name-eq0 w ↦ named (λ e. absurd (w.if-name-eq0.false e))
    ]
