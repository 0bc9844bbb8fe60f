-- The name of the symbol and then its version are read before the line is written.
use Rattle.std.proofs.Common.{◌≡◌, ℕ, ◌+◌, ◌*◌, ◌/◌, ◌^◌, refl, sym, ap, ◌∙◌, [], Ok, Err}
use Rattle.std.proofs.lemmas.Result.{err_from_is_err_and}
use Rattle.elf_options.specs.Permitted.{style_of}
use Rattle.elf_model.specs.Prelude.{entry_at, linked_at, place_of_relocation, relocation_choice, relocation_size, section_at, sh_link, sh_offset}
use Rattle.elf_table.specs.declared.names.NameEnd.{NameEnd}
use Rattle.elf_table.specs.declared.names.NameEnd.TheVariants.{Whole}
use Rattle.elf_listing.proofs.Amounts.{all_of, part_of}
use Rattle.elf_listing.specs.RowLayouts.{relocation_layout}
use Rattle.elf_listing.proofs.RowLaws.{WroteSome-as}
use Rattle.elf_listing.proofs.SelectionLaws.{placed-chosen-as}
use Rattle.elf_listing.proofs.RowCalls.{ListsRow-hidden, ListsRow-named, ListsRow-unread, WroteUntilStop-as}
use Rattle.elf_listing.proofs.SuffixShown.{ListingReads-suffix, WroteUntilStop-suffix, WroteUntilStop-unnamed, suffixed-hidden, suffixed-shown, relocation_row_is}
use Rattle.elf_listing.proofs.relocations.RelocationsTableRows.row.Goals as goal

pub returns-in_err-read-clause-lists : goal.returns-in_err-read-clause-lists
returns-in_err-read-clause-lists g c =
    let p = err_from_is_err_and c.from_residual.result c.from_residual.ensures.1 in
    ListsRow-unread _ _ _ _ (relocation_layout c.args.self.now) (g.V.NameVersions.lookup c.args.versions.now) c.args.row.now _ p (part_of _ _) c.in_err-read.ensures.fetches (λ file held at_of of_kind row.
    let at = section_at file c.args.self.now.section in
    let decoded = c.decode_entry-addend.ensures file row.bytes in
    let here : c.args.row.now.at ≡ sh_offset file at + c.args.row.now.index * relocation_size c.args.self.now.has_addends = row.here ∙ ap (λ (from : ℕ). from + c.args.row.now.index * relocation_size c.args.self.now.has_addends) of_kind.1 in
    let symbol = c.symbol-symbol.ensures ∙ ap (λ n. n / 2 ^ 32) decoded.0.r_info in
    WroteUntilStop-as _ _ _ (relocation_row_is c.args.self.now.has_addends (g.V.NameVersions.lookup c.args.versions.now) file _ (style_of c.args.listing.now.style) c.args.self.now.section at c.args.row.now.at _ c.args.row.now.index here refl symbol)
    (WroteUntilStop-unnamed _ (relocation_choice c.args.self.now.has_addends file (style_of c.args.listing.now.style) c.args.row.now.at) _ _ _ [] _ _ (c.in_err-read.ensures.read file at held of_kind.0)))

pub returns-in_err-suffix-clause-lists : goal.returns-in_err-suffix-clause-lists
returns-in_err-suffix-clause-lists g c =
    let p = err_from_is_err_and c.from_residual-in_err-suffix.result c.from_residual-in_err-suffix.ensures.1 in
    let first = c.in_ok-read.ensures.fetches in
    let same = first.0.same_style in
    let both = ListingReads-suffix {X = NameEnd} (g.V.NameVersions.lookup c.args.versions.now) _ _ _ c.in_ok-read.read (Err c.in_err-suffix.field-0.0) _ first c.in_err-suffix.ensures.reads.fetches in
    ListsRow-unread _ _ _ _ (relocation_layout c.args.self.now) (g.V.NameVersions.lookup c.args.versions.now) c.args.row.now _ p (all_of _) both (λ file held at_of of_kind row.
    let at = section_at file c.args.self.now.section in
    let decoded = c.decode_entry-addend.ensures file row.bytes in
    let here : c.args.row.now.at ≡ sh_offset file at + c.args.row.now.index * relocation_size c.args.self.now.has_addends = row.here ∙ ap (λ (from : ℕ). from + c.args.row.now.index * relocation_size c.args.self.now.has_addends) of_kind.1 in
    let symbol = c.symbol-symbol.ensures ∙ ap (λ n. n / 2 ^ 32) decoded.0.r_info in
    let read = c.in_ok-read.ensures.read file at held of_kind.0 in
    let defined = c.in_ok-read.ensures.defined file at held of_kind.0 in
    let after = rw same at (c.in_err-suffix.ensures.reads.read file (first.2.reads.keeps.same_file ∙ held) (sh_link file at) (entry_at file (linked_at file at) 24 c.symbol-symbol.result) of_kind.2 defined) in
    WroteUntilStop-as _ _ _ (relocation_row_is c.args.self.now.has_addends (g.V.NameVersions.lookup c.args.versions.now) file _ (style_of c.args.listing.now.style) c.args.self.now.section at c.args.row.now.at _ c.args.row.now.index here refl symbol)
    (WroteUntilStop-suffix _ (relocation_choice c.args.self.now.has_addends file (style_of c.args.listing.now.style) c.args.row.now.at) _ _ c.in_ok-read.read.end _ _ _ _ _ read after))

pub returns-then-not-is_row_shown-clause-lists : goal.returns-then-not-is_row_shown-clause-lists
returns-then-not-is_row_shown-clause-lists g c =
    let first = c.in_ok-read.ensures.fetches in
    let same = first.0.same_style in
    let both = ListingReads-suffix {X = NameEnd} (g.V.NameVersions.lookup c.args.versions.now) _ _ _ c.in_ok-read.read (Ok Whole) _ first c.in_ok-suffix.ensures.reads.fetches in
    ListsRow-hidden _ _ (relocation_layout c.args.self.now) (g.V.NameVersions.lookup c.args.versions.now) c.args.row.now _ (all_of _) both (λ file held at_of of_kind row.
    let at = section_at file c.args.self.now.section in
    let decoded = c.decode_entry-addend.ensures file row.bytes in
    let here : c.args.row.now.at ≡ sh_offset file at + c.args.row.now.index * relocation_size c.args.self.now.has_addends = row.here ∙ ap (λ (from : ℕ). from + c.args.row.now.index * relocation_size c.args.self.now.has_addends) of_kind.1 in
    let symbol = c.symbol-symbol.ensures ∙ ap (λ n. n / 2 ^ 32) decoded.0.r_info in
    let read = c.in_ok-read.ensures.read file at held of_kind.0 in
    let defined = c.in_ok-read.ensures.defined file at held of_kind.0 in
    let after = rw same at (c.in_ok-suffix.ensures.reads.read file (first.2.reads.keeps.same_file ∙ held) (sh_link file at) (entry_at file (linked_at file at) 24 c.symbol-symbol.result) of_kind.2 defined) in
    let placed = c.place_of_relocation-place.ensures file (c.file_type.ensures file (both.2.reads.keeps.same_file ∙ held)) decoded.0 in
    let hidden = rw c.in_ok-suffix.ensures.reads.kept at (placed-chosen-as c.args.listing.now.style _ _ (place_of_relocation c.args.self.now.has_addends file c.args.row.now.at) _ _ _ _ both.0.same_style placed (rw c.bytes.ensures.value at c.is_row_shown.ensures) c.if-not-is_row_shown.true) in
    (relocation_row_is c.args.self.now.has_addends (g.V.NameVersions.lookup c.args.versions.now) file _ (style_of c.args.listing.now.style) c.args.self.now.section at c.args.row.now.at _ c.args.row.now.index here refl symbol
    ∙ suffixed-hidden (relocation_choice c.args.self.now.has_addends file (style_of c.args.listing.now.style) c.args.row.now.at) _ _ c.in_ok-read.read.end _ _ _ c.in_ok-suffix.suffix _ read after hidden))

pub returns-clause-lists : goal.returns-clause-lists
returns-clause-lists g c =
    let first = c.in_ok-read.ensures.fetches in
    let same = first.0.same_style in
    let both = ListingReads-suffix {X = NameEnd} (g.V.NameVersions.lookup c.args.versions.now) _ _ _ c.in_ok-read.read (Ok Whole) _ first c.in_ok-suffix.ensures.reads.fetches in
    ListsRow-named _ _ _ _ (relocation_layout c.args.self.now) (g.V.NameVersions.lookup c.args.versions.now) c.args.row.now _ _ (all_of _) both (rw c.bytes-2.ensures.value at c.suffixed_line.ensures) (λ file held at_of of_kind row.
    let at = section_at file c.args.self.now.section in
    let decoded = c.decode_entry-addend.ensures file row.bytes in
    let here : c.args.row.now.at ≡ sh_offset file at + c.args.row.now.index * relocation_size c.args.self.now.has_addends = row.here ∙ ap (λ (from : ℕ). from + c.args.row.now.index * relocation_size c.args.self.now.has_addends) of_kind.1 in
    let symbol = c.symbol-symbol.ensures ∙ ap (λ n. n / 2 ^ 32) decoded.0.r_info in
    let read = c.in_ok-read.ensures.read file at held of_kind.0 in
    let defined = c.in_ok-read.ensures.defined file at held of_kind.0 in
    let front = rw (c.requires.format, c.naming-naming.ensures.gnu, c.naming-naming.ensures.machine file held) at (c.relocation_prefix.ensures.front c.args.self.now.has_addends file c.args.row.now.at decoded.0 decoded.1) in
    let after = rw same at (c.in_ok-suffix.ensures.reads.read file (first.2.reads.keeps.same_file ∙ held) (sh_link file at) (entry_at file (linked_at file at) 24 c.symbol-symbol.result) of_kind.2 defined) in
    let placed = c.place_of_relocation-place.ensures file (c.file_type.ensures file (both.2.reads.keeps.same_file ∙ held)) decoded.0 in
    let shown = rw c.in_ok-suffix.ensures.reads.kept at (placed-chosen-as c.args.listing.now.style _ _ (place_of_relocation c.args.self.now.has_addends file c.args.row.now.at) _ _ _ _ both.0.same_style placed (rw c.bytes.ensures.value at c.is_row_shown.ensures) c.if-not-is_row_shown.false) in
    let now = rw (sym c.in_ok-suffix.ensures.reads.kept) at read in
    (WroteSome-as _ _ _ (relocation_row_is c.args.self.now.has_addends (g.V.NameVersions.lookup c.args.versions.now) file _ (style_of c.args.listing.now.style) c.args.self.now.section at c.args.row.now.at _ c.args.row.now.index here front symbol ∙ suffixed-shown (relocation_choice c.args.self.now.has_addends file (style_of c.args.listing.now.style) c.args.row.now.at) _ _ c.in_ok-read.read.end _ _ _ c.in_ok-suffix.suffix _ read after shown)
    ((rw c.bytes-2.ensures.value at c.suffixed_line.ensures).shows _ _ now)))
