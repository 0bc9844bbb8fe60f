-- What is found is of the first section of version numbers that links to the table.
use Rattle.std.proofs.Common.{[], refl, sym, ◌∙◌, arith}
use Rattle.std.proofs.lemmas.Result.{err_from_is_err_and}
use Rattle.std.proofs.lemmas.Bool.{ne_eqb}
use Rattle.elf_note.proofs.SpendsLaws.{SpendsAtMost-none}
use Rattle.elf_listing.proofs.Amounts.{part_of}
use Rattle.elf_listing.specs.Parts.{store_sections}
use Rattle.elf_note.proofs.WordLaws.{none-of}
use Rattle.elf_listing.proofs.SectionShown.{section_placed}
use Rattle.elf_listing.proofs.SuffixFound.{bytes_of, no_symbols, unnumbered, refused_numbers, refused_walks, found_all, walks_of}
use Rattle.elf_listing.proofs.listing.Listing.suffixes.Goals as goal

pub returns-then-symbols-eq0 : goal.returns-then-symbols-eq0
returns-then-symbols-eq0 g c = record {
  fetches = (record { same_src = refl; same_out = refl; same_file = refl; same_style = refl }, refl, SpendsAtMost-none _ _ _ _ (part_of _ _), tt);
  within = tt;
  pays = tt;
  read = λ file held counted. no_symbols file c.args.table (sym counted ∙ c.if-symbols-eq0.true);
}

pub returns-in_default : goal.returns-in_default
returns-in_default g c = record {
  fetches = (record { same_src = refl; same_out = refl; same_file = refl; same_style = refl }, refl, SpendsAtMost-none _ _ _ _ (part_of _ _), tt);
  within = tt;
  pays = tt;
  read = λ file held counted. unnumbered file c.args.table (sym (c.version_numbers_of.ensures.held file (c.args.self.now.loaded.belongs file held)) ∙ none-of _ c.in_default.not-Some);
}

pub returns-in_err-found : goal.returns-in_err-found
returns-in_err-found g c =
    let p = err_from_is_err_and c.from_residual.result c.from_residual.ensures.1 in
    rw (p.1, p.2)
    (record {
      fetches = (record { same_src = refl; same_out = refl; same_file = refl; same_style = refl }, refl, SpendsAtMost-none _ _ _ _ (part_of _ _), grind (arith, c.in_err-found.ensures.refusal));
      within = tt;
      pays = tt;
      read = λ file held counted.
          let belongs = c.args.self.now.loaded.belongs file held in
          let found = sym (c.version_numbers_of.ensures.held file belongs) ∙ c.in-Some.is in
          refused_numbers file c.args.table c.in-Some.section (rw counted at (ne_eqb _ 0 c.if-symbols-eq0.false)) found _ (c.in_err-found.ensures.held file belongs);
    })

pub returns-in_err-numbered : goal.returns-in_err-numbered
returns-in_err-numbered g c =
    let p = err_from_is_err_and c.from_residual-in_err-numbered.result c.from_residual-in_err-numbered.ensures.1 in
    let first = sym c.version_numbers_of.ensures.value ∙ c.in-Some.is in
    let cost = walks_of (store_sections c.args.self.now.file.store.now) c.args.table c.args.symbols c.args.self.now.file.loaded.size c.in-Some.section (ne_eqb _ 0 c.if-symbols-eq0.false) first in
    rw (p.1, p.2)
    (record {
      fetches = rw cost c.in_err-numbered.ensures.numbers.fetches;
      within = tt;
      pays = tt;
      read = λ file held counted.
          let belongs = c.args.self.now.loaded.belongs file held in
          let found = sym (c.version_numbers_of.ensures.held file belongs) ∙ c.in-Some.is in
          refused_walks file c.args.table c.in-Some.section (rw counted at (ne_eqb _ 0 c.if-symbols-eq0.false)) found [] _
          (c.in_ok-found.ensures.held file belongs).pass (c.in_err-numbered.ensures.numbers.read file held);
    })

pub returns : goal.returns
returns g c =
    let first = sym c.version_numbers_of.ensures.value ∙ c.in-Some.is in
    let cost = walks_of (store_sections c.args.self.now.file.store.now) c.args.table c.args.symbols c.args.self.now.file.loaded.size c.in-Some.section (ne_eqb _ 0 c.if-symbols-eq0.false) first in
    let numbers = c.in_ok-numbered.ensures.numbers in
    record {
      fetches = rw cost numbers.fetches;
      within = record {
        entry = c.in_ok-found.ensures.counts.entry;
        words = rw c.args.self.now.loaded.size at c.in_ok-found.ensures.within;
        names = numbers.within;
        places = c.in_ok-numbered.ensures.count ∙ c.requires.1;
      };
      pays = λ cap. bytes_of (store_sections c.args.self.now.file.store.now) c.args.table cap c.in-Some.section first;
      read = λ file held counted.
          let belongs = c.args.self.now.loaded.belongs file held in
          let found = sym (c.version_numbers_of.ensures.held file belongs) ∙ c.in-Some.is in
          found_all file c.args.table c.in-Some.section (rw counted at (ne_eqb _ 0 c.if-symbols-eq0.false)) found _ _
          (c.in_ok-found.ensures.held file belongs) (section_placed file c.in-Some.section c.place-lookup.ensures.value belongs.header.e_shoff) (numbers.read file held);
    }
