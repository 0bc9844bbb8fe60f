-- The records of the first section are added, if its checks pass.
use Rattle.std.proofs.Common.{◌≡◌, ℕ, ◌==◌, false, Some, None, refl, sym, ap, ◌∙◌, arith}
use Rattle.std.proofs.lemmas.Bool.{ne_eqb}
use Rattle.std.proofs.lemmas.Result.{err_from_is_err_and}
use Rattle.elf_table.proofs.OpenLaws.{still_open}
use Rattle.elf_model.specs.Prelude.{file_sections, first_of_type, first_typed, section_at, sh_size}
use Rattle.elf_note.specs.Ahead.{ReadsOnCredit}
use Rattle.elf_note.proofs.HeldLaws.{still_held}
use Rattle.elf_note.proofs.SpendsLaws.{SpendsAtMost-none, SpendsAtMost-reads, SpendsAtMost-then, SpendsAtMost-to}
use Rattle.elf_source.specs.Source.{CountedState}
use Rattle.elf_source.proofs.ReadsLaws.{ReadsUpTo-none}
use Rattle.elf_table.specs.Tables.{StringTableRange, StringsInBounds}
use Rattle.elf_note.proofs.WordLaws.{none-of}
use Rattle.elf_listing.specs.Versions.{kind_type}
use Rattle.elf_listing.proofs.FirstTaken.{empty-section, no-section, of-read, taken-all, taken-cut, taken-none, taken-refused}
use Rattle.elf_listing.proofs.SectionShown.{range_of_file, section_placed}
use Rattle.elf_listing.proofs.VersionSections.{found, outside, unnamed}
use Rattle.elf_listing.proofs.VersionedCosts.{IsReadFault-account, walk-cost}
use Rattle.elf_listing.proofs.ViewedLaws.{still_viewed}
use Rattle.elf_listing.proofs.listing.Listing.take_first.Goals as goal

-- nothing was read
spends_not : (src : CountedState) (credit n : ℕ) → ReadsOnCredit src src credit credit n
spends_not src credit n = SpendsAtMost-none src credit credit n (omega arith)

-- an empty table lies within every source
empty_within : (size : ℕ) (names : StringTableRange) → names ≡ record { at = 0; size = 0 } → StringsInBounds size names
empty_within size names is = rw is (λ some. omega arith)

pub returns-in_default-clause-records : goal.returns-in_default-clause-records
returns-in_default-clause-records g c = record {
  fetches = (record { same_src = refl; same_out = refl; same_file = refl; same_style = refl }, refl, spends_not _ _ _, tt);
  within = empty_within _ _ c.new.ensures;
  taken = λ file held records names.
      let belongs = c.args.self.now.loaded.belongs file held in
      let none : first_of_type file (kind_type c.args.kind) ≡ None =
      ap (first_typed (file_sections file)) (sym c.section_type.ensures) ∙ sym (c.first.ensures.held file belongs) ∙ none-of _ c.in_default.not-Some in
      taken-none file c.args.kind records _ _ _ (no-section file c.args.kind none) names;
}

pub returns-then-header-eq0-clause-records : goal.returns-then-header-eq0-clause-records
returns-then-header-eq0-clause-records g c = record {
  fetches = (record { same_src = refl; same_out = refl; same_file = refl; same_style = refl }, refl, spends_not _ _ _, tt);
  within = empty_within _ _ c.new-then-header-eq0.ensures;
  taken = λ file held records names.
      let belongs = c.args.self.now.loaded.belongs file held in
      let first : first_of_type file (kind_type c.args.kind) ≡ Some c.in-Some.section =
      ap (first_typed (file_sections file)) (sym c.section_type.ensures) ∙ sym (c.first.ensures.held file belongs) ∙ c.in-Some.is in
      taken-none file c.args.kind records _ _ _
      (empty-section file c.args.kind c.in-Some.section first (sym (c.section-header.ensures.is_at file belongs).sh_size ∙ c.if-header-eq0.true)) names;
}

pub returns-in_err-table-clause-records : goal.returns-in_err-table-clause-records
returns-in_err-table-clause-records g c =
    let p = err_from_is_err_and c.from_residual.result c.from_residual.ensures.1 in
    rw (p.1, p.2)
    (record {
      fetches = (record { same_src = refl; same_out = refl; same_file = refl; same_style = refl }, refl, spends_not _ _ _, grind (arith, c.in_err-table.ensures));
      within = tt;
      taken = λ file held records names.
          let belongs = c.args.self.now.loaded.belongs file held in
          let is_at = c.section-header.ensures.is_at file belongs in
          let at = section_at file c.in-Some.section in
          let first : first_of_type file (kind_type c.args.kind) ≡ Some c.in-Some.section =
          ap (first_typed (file_sections file)) (sym c.section_type.ensures) ∙ sym (c.first.ensures.held file belongs) ∙ c.in-Some.is in
          let some : (sh_size file at == 0) ≡ false = ne_eqb _ 0 (λ e. c.if-header-eq0.false (is_at.sh_size ∙ e)) in
          let place = section_placed file c.in-Some.section c.place-at.ensures.value belongs.header.e_shoff in
          let value = range_of_file belongs.size is_at.sh_offset is_at.sh_size place c.in_err-table.ensures.value in
          taken-refused file c.args.kind c.in-Some.section records (λ f r. Unit {0}) _ first (outside file at some _ value);
    })

pub returns-in_err-strings-clause-records : goal.returns-in_err-strings-clause-records
returns-in_err-strings-clause-records g c =
    let p = err_from_is_err_and c.from_residual-in_err-strings.result c.from_residual-in_err-strings.ensures.1 in
    rw (p.1, p.2)
    (record {
      fetches = (record { same_src = refl; same_out = refl; same_file = refl; same_style = refl }, refl, spends_not _ _ _, grind (arith, c.in_err-strings.ensures.refusal));
      within = tt;
      taken = λ file held records names.
          let belongs = c.args.self.now.loaded.belongs file held in
          let is_at = c.section-header.ensures.is_at file belongs in
          let at = section_at file c.in-Some.section in
          let first : first_of_type file (kind_type c.args.kind) ≡ Some c.in-Some.section =
          ap (first_typed (file_sections file)) (sym c.section_type.ensures) ∙ sym (c.first.ensures.held file belongs) ∙ c.in-Some.is in
          let some : (sh_size file at == 0) ≡ false = ne_eqb _ 0 (λ e. c.if-header-eq0.false (is_at.sh_size ∙ e)) in
          let place = section_placed file c.in-Some.section c.place-at.ensures.value belongs.header.e_shoff in
          let value = range_of_file belongs.size is_at.sh_offset is_at.sh_size place c.in_ok-table.ensures.value in
          taken-refused file c.args.kind c.in-Some.section records (λ f r. Unit {0}) _ first (unnamed file at some _ value _ (sym (c.in_err-strings.ensures.held file belongs)));
    })

pub invariant_of-self : goal.invariant_of-self
invariant_of-self g c = record {
  loaded = still_open _ _ c.new-2.ensures.did.costs.reads c.args.self.now.loaded;
  viewed = still_viewed _ _ c.new-2.ensures.did.costs.reads c.args.self.now.viewed;
  held = still_held _ c.new-2.ensures.did.costs.reads c.args.self.now.held;
}

pub returns-in_err-cursor-clause-records : goal.returns-in_err-cursor-clause-records
returns-in_err-cursor-clause-records g c =
    let p = err_from_is_err_and c.from_residual-in_err-cursor.result c.from_residual-in_err-cursor.ensures.1 in
    let f = c.args.self.now.file in
    let fields = c.section-header.ensures.fields in
    let cost = walk-cost f.store.now f.loaded.size c.in-Some.section c.args.kind _ _ _ _ _ (sym c.in-Some.is ∙ c.first.ensures.value) c.section_type.ensures fields.sh_offset fields.sh_size (ne_eqb _ 0 c.if-header-eq0.false) (sym c.in_ok-table.ensures.value) in
    let did = c.in_err-cursor.ensures.did in
    let reads = did.costs.reads in
    let most = reads.at_most in
    rw (p.1, p.2)
    (record {
      fetches = (
        record { same_src = refl; same_out = refl; same_file = refl; same_style = refl },
        refl,
        SpendsAtMost-to (SpendsAtMost-reads _ reads) (omega (arith, most, cost)),
        IsReadFault-account _ _ _ _ 0 _ _ (omega (arith, cost)) (ReadsUpTo-none _ 0) did.costs.says,
      );
      within = tt;
      taken = λ file held records names. of-read file c.args.kind records (λ f r. Unit {0}) _ c.in_err-cursor.ensures.fault;
    })

pub returns-in_err-take_all-clause-records : goal.returns-in_err-take_all-clause-records
returns-in_err-take_all-clause-records g c =
    let p = err_from_is_err_and c.from_residual-in_err-take_all.result c.from_residual-in_err-take_all.ensures.1 in
    let f = c.args.self.now.file in
    let fields = c.section-header.ensures.fields in
    let cost = walk-cost f.store.now f.loaded.size c.in-Some.section c.args.kind _ _ _ _ _ (sym c.in-Some.is ∙ c.first.ensures.value) c.section_type.ensures fields.sh_offset fields.sh_size (ne_eqb _ 0 c.if-header-eq0.false) (sym c.in_ok-table.ensures.value) in
    let made = c.in_ok-cursor.ensures in
    let first_reads = made.did.costs.reads in
    let did = c.in_err-take_all.ensures.did in
    let reads = did.costs.reads in
    let most = reads.at_most in
    let account = made.account in
    rw (p.1, p.2)
    (record {
      fetches = (
        record { same_src = refl; same_out = refl; same_file = refl; same_style = refl },
        refl,
        SpendsAtMost-to (SpendsAtMost-then (SpendsAtMost-reads _ first_reads) (SpendsAtMost-reads _ reads)) (omega (arith, most, account, cost)),
        IsReadFault-account _ _ _ _ _ _ _ (omega (arith, account, cost)) first_reads did.costs.says,
      );
      within = tt;
      taken = λ file held records names.
          let belongs = c.args.self.now.loaded.belongs file held in
          let is_at = c.section-header.ensures.is_at file belongs in
          let at = section_at file c.in-Some.section in
          let first : first_of_type file (kind_type c.args.kind) ≡ Some c.in-Some.section =
          ap (first_typed (file_sections file)) (sym c.section_type.ensures) ∙ sym (c.first.ensures.held file belongs) ∙ c.in-Some.is in
          let some : (sh_size file at == 0) ≡ false = ne_eqb _ 0 (λ e. c.if-header-eq0.false (is_at.sh_size ∙ e)) in
          let place = section_placed file c.in-Some.section c.place-at.ensures.value belongs.header.e_shoff in
          let value = range_of_file belongs.size is_at.sh_offset is_at.sh_size place c.in_ok-table.ensures.value in
          let all = found file at some _ value _ (sym (c.in_ok-strings.ensures.held file belongs)) in
          let told = did.known file (first_reads.keeps.same_file ∙ held) (made.did.known file held) records names in
          taken-cut file c.args.kind c.in-Some.section records c.take_all.new.self c.take_all.new.places _ _ _ first all.0 all.2 (rw place at made.starts) told;
    })

pub returns-clause-records : goal.returns-clause-records
returns-clause-records g c =
    let f = c.args.self.now.file in
    let fields = c.section-header.ensures.fields in
    let cost = walk-cost f.store.now f.loaded.size c.in-Some.section c.args.kind _ _ _ _ _ (sym c.in-Some.is ∙ c.first.ensures.value) c.section_type.ensures fields.sh_offset fields.sh_size (ne_eqb _ 0 c.if-header-eq0.false) (sym c.in_ok-table.ensures.value) in
    let made = c.in_ok-cursor.ensures in
    let first_reads = made.did.costs.reads in
    let did = c.in_ok-take_all.ensures.did in
    let reads = did.costs.reads in
    let most = reads.at_most in
    let account = made.account in
    record {
      fetches = (
        record { same_src = refl; same_out = refl; same_file = refl; same_style = refl },
        refl,
        SpendsAtMost-to (SpendsAtMost-then (SpendsAtMost-reads _ first_reads) (SpendsAtMost-reads _ reads)) (omega (arith, most, account, cost)),
        tt,
      );
      within = rw c.args.self.now.loaded.size at c.in_ok-strings.ensures.within;
      taken = λ file held records names.
          let belongs = c.args.self.now.loaded.belongs file held in
          let is_at = c.section-header.ensures.is_at file belongs in
          let at = section_at file c.in-Some.section in
          let first : first_of_type file (kind_type c.args.kind) ≡ Some c.in-Some.section =
          ap (first_typed (file_sections file)) (sym c.section_type.ensures) ∙ sym (c.first.ensures.held file belongs) ∙ c.in-Some.is in
          let some : (sh_size file at == 0) ≡ false = ne_eqb _ 0 (λ e. c.if-header-eq0.false (is_at.sh_size ∙ e)) in
          let place = section_placed file c.in-Some.section c.place-at.ensures.value belongs.header.e_shoff in
          let value = range_of_file belongs.size is_at.sh_offset is_at.sh_size place c.in_ok-table.ensures.value in
          let all = found file at some _ value _ (sym (c.in_ok-strings.ensures.held file belongs)) in
          let told = did.known file (first_reads.keeps.same_file ∙ held) (made.did.known file held) records names in
          taken-all file c.args.kind c.in-Some.section records _ _ _ _ _ first all.0 all.2 (rw place at made.starts) told all.1;
    }

pub invariant_of-self-2 : goal.invariant_of-self-2
invariant_of-self-2 g c =
    let made = c.new-2.ensures.did.costs.reads in
    let taken = c.take_all.ensures.did.costs.reads in
    record {
      loaded = still_open _ _ taken (still_open _ _ made c.args.self.now.loaded);
      viewed = still_viewed _ _ taken (still_viewed _ _ made c.args.self.now.viewed);
      held = still_held _ taken (still_held _ made c.args.self.now.held);
    }

pub new-requires-2-clause-within : goal.new-requires-2-clause-within
new-requires-2-clause-within g c = rw c.args.self.now.loaded.size at c.in_ok-table.ensures.within

pub take_all-requires-clause-going : goal.take_all-requires-clause-going
take_all-requires-clause-going g c = c.in_ok-cursor.ensures.starts.not_failed

pub take_all-requires-clause-within : goal.take_all-requires-clause-within
take_all-requires-clause-within g c =
    let made = c.in_ok-cursor.ensures in
    rw (made.starts.its_table, made.did.costs.reads.keeps.same_size) (rw c.args.self.now.loaded.size at c.in_ok-table.ensures.within)
