-- The checks of the section come before its records.
use Rattle.std.proofs.Common.{rules, ◌≡◌, ◌*◌, ◌+◌, ◌/◌, ◌==◌, false, refl, sym, ◌∙◌}
use Rattle.std.proofs.lemmas.Bool.{eq-eqb, ne_eqb}
use Rattle.std.proofs.lemmas.Result.{err_from_is_err_and}
use Rattle.elf_options.specs.Permitted.{style_of}
use Rattle.elf_table.proofs.OpenLaws.{still_open}
use Rattle.elf_model.specs.Prelude.{max_records, name_bytes, record_size, section_at, sh_size}
use Rattle.elf_note.proofs.HeldLaws.{still_held}
use Rattle.elf_source.proofs.GrowthLaws.{grows_not}
use Rattle.elf_note.specs.Reading.{bytes_each}
use Rattle.elf_listing.specs.Prelude.{records_kind, store_sections}
use Rattle.elf_listing.proofs.ListsLaws.{ListingCalls-nothing, ListingCalls-refused}
use Rattle.elf_listing.proofs.RowLaws.{WroteUntilStop-unread-first, WroteSome-as}
use Rattle.elf_listing.proofs.SectionCosts.{range_within}
use Rattle.elf_listing.proofs.SectionShown.{no_table, range_of_file, section_placed, table_fails}
use Rattle.elf_listing.proofs.ShowLaws.{SpentCredit-fault}
use Rattle.elf_listing.proofs.VersionSections.{SpentCredit-account, found, none_are, none_asked, outside, reads_pay, same_le, section_is, unnamed, walk_pays}
use Rattle.elf_listing.proofs.ViewedLaws.{still_viewed}
use Rattle.elf_listing.proofs.listing.Listing.versions.Goals as goal

pub returns-then-header-section_type : goal.returns-then-header-section_type
returns-then-header-section_type g c = ListingCalls-nothing _ _ _ _ (λ file held.
    let is_at = c.section-header.ensures.is_at file (c.args.self.now.loaded.belongs file held) in
    no_table (records_kind c.args.kind) file _ _ _ _ (ne_eqb _ _ (λ same. c.if-header-section_type.true (is_at.sh_type ∙ (same ∙ sym c.section_type.ensures)))))

pub returns-then-header-eq0 : goal.returns-then-header-eq0
returns-then-header-eq0 g c = ListingCalls-nothing _ _ _ _ (λ file held.
    let is_at = c.section-header.ensures.is_at file (c.args.self.now.loaded.belongs file held) in
    let kind = sym is_at.sh_type ∙ (c.if-header-section_type.false ∙ c.section_type.ensures) in
    none_are c.args.kind file _ _ _ (section_at file c.args.section) (eq-eqb _ _ kind) (sym is_at.sh_size ∙ c.if-header-eq0.true))

pub returns-in_err-table : goal.returns-in_err-table
returns-in_err-table g c =
    let p = err_from_is_err_and c.from_residual.result c.from_residual.ensures.1 in
    rw (p.1, p.2) (ListingCalls-refused _ _ _ _ (search rules) (λ file held.
    let belongs = c.args.self.now.loaded.belongs file held in
    let is_at = c.section-header.ensures.is_at file belongs in
    let at = section_at file c.args.section in
    let kind = sym is_at.sh_type ∙ (c.if-header-section_type.false ∙ c.section_type.ensures) in
    let some : (sh_size file at == 0) ≡ false = ne_eqb _ 0 (λ e. c.if-header-eq0.false (is_at.sh_size ∙ e)) in
    let place = section_placed file c.args.section c.place-at.ensures.value belongs.header.e_shoff in
    let value = range_of_file belongs.size is_at.sh_offset is_at.sh_size place c.in_err-table.ensures.value in
    table_fails (records_kind c.args.kind) file _ _ at (eq-eqb _ _ kind) _ _ (outside file at some _ value)))

pub returns-in_err-names : goal.returns-in_err-names
returns-in_err-names g c =
    let p = err_from_is_err_and c.from_residual-in_err-names.result c.from_residual-in_err-names.ensures.1 in
    rw (p.1, p.2) (ListingCalls-refused _ _ _ _ c.in_err-names.ensures.refusal (λ file held.
    let belongs = c.args.self.now.loaded.belongs file held in
    let is_at = c.section-header.ensures.is_at file belongs in
    let at = section_at file c.args.section in
    let kind = sym is_at.sh_type ∙ (c.if-header-section_type.false ∙ c.section_type.ensures) in
    let some : (sh_size file at == 0) ≡ false = ne_eqb _ 0 (λ e. c.if-header-eq0.false (is_at.sh_size ∙ e)) in
    let place = section_placed file c.args.section c.place-at.ensures.value belongs.header.e_shoff in
    let value = range_of_file belongs.size is_at.sh_offset is_at.sh_size place c.in_ok-table.ensures.value in
    table_fails (records_kind c.args.kind) file _ _ at (eq-eqb _ _ kind) _ _
    (unnamed file at some _ value _ (sym (c.in_err-names.ensures.held file belongs)))))

pub invariant_of-self : goal.invariant_of-self
invariant_of-self g c = record {
  loaded = still_open _ _ c.new.ensures.did.costs.reads c.args.self.now.loaded;
  viewed = still_viewed _ _ c.new.ensures.did.costs.reads c.args.self.now.viewed;
  held = still_held _ c.new.ensures.did.costs.reads c.args.self.now.held;
}

pub returns-in_err-cursor : goal.returns-in_err-cursor
returns-in_err-cursor g c =
    let p = err_from_is_err_and c.from_residual-in_err-cursor.result c.from_residual-in_err-cursor.ensures.1 in
    let f = c.args.self.now.file in
    let cap = c.args.self.now.style.cap.bytes in
    let k = c.args.kind in
    let fields = c.section-header.ensures.fields in
    let kind = sym fields.sh_type ∙ (c.if-header-section_type.false ∙ c.section_type.ensures) in
    let value = rw (fields.sh_offset, fields.sh_size) at c.in_ok-table.ensures.value in
    let within = range_within (records_kind k) (store_sections f.store.now) c.args.section f.loaded.size _ _ _ cap (λ n. n / record_size k * (bytes_each k + name_bytes cap)) _ (eq-eqb _ _ kind) refl (none_asked k _) (same_le _) value in
    let did = c.in_err-cursor.ensures.did in
    rw (p.1, p.2)
    (record {
      grows = grows_not _;
      keeps = record { same_src = refl; same_out = refl; same_file = refl; same_style = refl };
      spent = SpentCredit-fault _ _ _ _ _ _ _ (reads_pay (max_records k c.in_ok-table.table.count) (bytes_each k) (name_bytes cap) _ within) did.costs.reads did.costs.says;
      shows = λ file held. WroteUntilStop-unread-first _ _ _ c.in_err-cursor.ensures.fault;
    })

pub returns : goal.returns
returns g c =
    let f = c.args.self.now.file in
    let cap = c.args.self.now.style.cap.bytes in
    let style = style_of c.args.self.now.style in
    let k = c.args.kind in
    let fields = c.section-header.ensures.fields in
    let kind = sym fields.sh_type ∙ (c.if-header-section_type.false ∙ c.section_type.ensures) in
    let value = rw (fields.sh_offset, fields.sh_size) at c.in_ok-table.ensures.value in
    let within = range_within (records_kind k) (store_sections f.store.now) c.args.section f.loaded.size _ _ _ cap (λ n. n / record_size k * (bytes_each k + name_bytes cap)) _ (eq-eqb _ _ kind) refl (none_asked k _) (same_le _) value in
    let made = c.in_ok-cursor.ensures in
    let pays = walk_pays _ _ _ _ (max_records k c.in_ok-table.table.count) (bytes_each k) (name_bytes cap) _ made.starts.left made.account within in
    record {
      grows = c.version_rows.ensures.grows;
      keeps = record {
        same_src = c.version_rows.ensures.keeps.same_src;
        same_out = c.version_rows.ensures.keeps.same_out;
        same_file = c.version_rows.ensures.keeps.same_file;
        same_style = c.version_rows.ensures.keeps.same_style;
      };
      spent = SpentCredit-account _ _ _ _ _ _ _ _ _ _ pays made.did.costs.reads c.version_rows.ensures.spent;
      shows = λ file held.
          let belongs = c.args.self.now.loaded.belongs file held in
          let is_at = c.section-header.ensures.is_at file belongs in
          let at = section_at file c.args.section in
          let some : (sh_size file at == 0) ≡ false = ne_eqb _ 0 (λ e. c.if-header-eq0.false (is_at.sh_size ∙ e)) in
          let place = section_placed file c.args.section c.place-at.ensures.value belongs.header.e_shoff in
          let stood = range_of_file belongs.size is_at.sh_offset is_at.sh_size place c.in_ok-table.ensures.value in
          let typed = sym is_at.sh_type ∙ (c.if-header-section_type.false ∙ c.section_type.ensures) in
          let all = found file at some _ stood _ (sym (c.in_ok-names.ensures.held file belongs)) in
          WroteSome-as _ _ _ (section_is k file style c.args.section at _ _ _ (eq-eqb _ _ typed) all.0 all.1 all.2 (rw place at made.starts))
          (c.version_rows.ensures.shows file (made.did.costs.reads.keeps.same_file ∙ held) (made.did.known file held));
    }

pub new-requires-clause-within : goal.new-requires-clause-within
new-requires-clause-within g c = rw c.args.self.now.loaded.size at c.in_ok-table.ensures.within

pub version_rows-requires-clause-going : goal.version_rows-requires-clause-going
version_rows-requires-clause-going g c = c.in_ok-cursor.ensures.starts.not_failed

pub version_rows-requires-clause-within : goal.version_rows-requires-clause-within
version_rows-requires-clause-within g c =
    let made = c.in_ok-cursor.ensures in
    rw (made.starts.its_table, made.did.costs.reads.keeps.same_size) (rw c.args.self.now.loaded.size at c.in_ok-table.ensures.within)

pub version_rows-requires-clause-strings : goal.version_rows-requires-clause-strings
version_rows-requires-clause-strings g c =
    rw c.in_ok-cursor.ensures.did.costs.reads.keeps.same_size (rw c.args.self.now.loaded.size at c.in_ok-names.ensures.within)
