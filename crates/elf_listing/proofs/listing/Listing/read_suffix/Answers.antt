-- The entry gives the version, and the name of its index is read after it.
use Rattle.std.proofs.Common.{rules, ◌≡◌, ℕ, ◌+◌, ◌*◌, ◌<◌, ◌≤◌, nat_lt, false, Ok, Err, refl, ap, ◌∙◌, arith}
use Rattle.std.proofs.lemmas.Bool.{le-ltb}
use Rattle.std.proofs.lemmas.Result.{err_from_is_err_and}
use Rattle.elf_model.specs.Prelude.{is_default, number_in}
use Rattle.elf_note.proofs.SpendsLaws.{SpendsAtMost-none}
use Rattle.elf_table.specs.declared.names.NameEnd.{NameEnd}
use Rattle.elf_listing.proofs.Amounts.{below_as, fewer_as, from_as, least_as, part_of}
use Rattle.elf_listing.specs.SuffixNames.{number_reported}
use Rattle.elf_listing.proofs.SuffixShown.{ListingReads-more, ListingReads-name, ListingReads-then}
use Rattle.elf_listing.proofs.SuffixWords.{default_none, default_of, named_failed, named_read, suffix_cut, suffix_named, suffix_none, suffix_unread}
use Rattle.elf_listing.proofs.listing.Listing.read_suffix.Goals as goal

pub returns-then-index-len : goal.returns-then-index-len
returns-then-index-len g c = record {
  fetches = (record { same_src = refl; same_out = refl; same_file = refl; same_style = refl }, refl, SpendsAtMost-none _ _ _ _ (part_of _ _), rw c.refused.ensures (search rules));
  kept = refl;
  read = λ file held table symbol_at are defined.
      rw c.refused.ensures (λ other. suffix_cut file table c.args.suffixes.now are c.args.self.now.style.cap.bytes symbol_at c.args.index (from_as c.if-index-len.true c.len.ensures));
}

pub returns-in_err-word : goal.returns-in_err-word
returns-in_err-word g c =
    let p = err_from_is_err_and c.from_residual.result c.from_residual.ensures.1 in
    rw (p.1, p.2)
    (record {
      fetches = ListingReads-then {X = Unit {0}} _ _ _ (tt {0}) (Err c.in_err-word.field-0.0) 0 _ _ (omega arith)
          (record { same_src = refl; same_out = refl; same_file = refl; same_style = refl }, refl, SpendsAtMost-none _ _ _ _ (part_of _ _), tt) c.in_err-word.ensures.fetches;
      kept = c.in_err-word.ensures.kept;
      read = λ file held table symbol_at are defined. suffix_unread _ _ _ (c.in_err-word.ensures.read file held);
    })

pub returns-then-number-lt2 : goal.returns-then-number-lt2
returns-then-number-lt2 g c =
    let cap = c.args.self.now.style.cap.bytes in
    let there : c.args.index < c.args.suffixes.now.words.count = below_as c.if-index-len.false c.len.ensures in
    let here : c.place-at.result ≡ c.args.suffixes.now.words.at + c.args.index * 2 =
    c.place-at.ensures ∙ ap (λ (entry : ℕ). c.args.suffixes.now.words.at + c.args.index * entry) c.requires.entry in
    record {
      fetches = ListingReads-more {X = Unit {0}} _ _ c.in_ok-word.word tt _ _ (part_of _ _) c.in_ok-word.ensures.fetches;
      kept = c.in_ok-word.ensures.kept;
      read = λ file held table symbol_at are defined.
          suffix_none file table c.args.suffixes.now are cap symbol_at c.args.index there _ c.in_ok-word.word here (c.in_ok-word.ensures.read file held) (fewer_as c.if-number-lt2.true c.version_number-number.ensures);
    }

pub returns-in_err-end : goal.returns-in_err-end
returns-in_err-end g c =
    let p = err_from_is_err_and c.from_residual-in_err-end.result c.from_residual-in_err-end.ensures.1 in
    let cap = c.args.self.now.style.cap.bytes in
    let there : c.args.index < c.args.suffixes.now.words.count = below_as c.if-index-len.false c.len.ensures in
    let here : c.place-at.result ≡ c.args.suffixes.now.words.at + c.args.index * 2 =
    c.place-at.ensures ∙ ap (λ (entry : ℕ). c.args.suffixes.now.words.at + c.args.index * entry) c.requires.entry in
    let number = c.version_number-number.ensures in
    let many : 2 ≤ number_in c.in_ok-word.word = least_as c.if-number-lt2.false number in
    let high : nat_lt c.version_number-number.result 2 ≡ false = le-ltb _ 2 c.if-number-lt2.false in
    let first = c.in_ok-word.ensures.fetches in
    let same = first.0.same_style in
    rw (p.1, p.2)
    (record {
      fetches = ListingReads-name {X = NameEnd} _ _ _ c.in_ok-word.word (Err c.in_err-end.field-0.0) _ first c.in_err-end.ensures.fetches;
      kept = c.in_err-end.ensures.kept ∙ c.in_ok-word.ensures.kept;
      read = λ file held table symbol_at are defined.
          let named = suffix_named file table c.args.suffixes.now are cap symbol_at c.args.index there _ c.in_ok-word.word here (c.in_ok-word.ensures.read file held) many in
          named_failed _ _ _ (number_reported file cap (number_in c.in_ok-word.word) c.place-at.result) (is_default file symbol_at c.in_ok-word.word) named
          (rw (same, number) at (c.in_err-end.ensures.read file (first.2.reads.keeps.same_file ∙ held) are.numbered high));
    })

pub returns-then-word-number : goal.returns-then-word-number
returns-then-word-number g c =
    let cap = c.args.self.now.style.cap.bytes in
    let there : c.args.index < c.args.suffixes.now.words.count = below_as c.if-index-len.false c.len.ensures in
    let here : c.place-at.result ≡ c.args.suffixes.now.words.at + c.args.index * 2 =
    c.place-at.ensures ∙ ap (λ (entry : ℕ). c.args.suffixes.now.words.at + c.args.index * entry) c.requires.entry in
    let number = c.version_number-number.ensures in
    let many : 2 ≤ number_in c.in_ok-word.word = least_as c.if-number-lt2.false number in
    let high : nat_lt c.version_number-number.result 2 ≡ false = le-ltb _ 2 c.if-number-lt2.false in
    let first = c.in_ok-word.ensures.fetches in
    let same = first.0.same_style in
    record {
      fetches = ListingReads-name {X = NameEnd} _ _ _ c.in_ok-word.word (Ok c.in_ok-end.end) _ first c.in_ok-end.ensures.fetches;
      kept = c.in_ok-end.ensures.kept ∙ c.in_ok-word.ensures.kept;
      read = λ file held table symbol_at are defined.
          let told = number_reported file cap (number_in c.in_ok-word.word) c.place-at.result in
          let named = suffix_named file table c.args.suffixes.now are cap symbol_at c.args.index there _ c.in_ok-word.word here (c.in_ok-word.ensures.read file held) many in
          named_read _ _ _ told _ (named ∙ ap told (default_of file symbol_at c.in_ok-word.word c.args.is_defined (rw number at c.if-word-number.true) defined))
          (rw (same, number) at (c.in_ok-end.ensures.read file (first.2.reads.keeps.same_file ∙ held) are.numbered high));
    }

pub returns-else-word-number : goal.returns-else-word-number
returns-else-word-number g c =
    let cap = c.args.self.now.style.cap.bytes in
    let there : c.args.index < c.args.suffixes.now.words.count = below_as c.if-index-len.false c.len.ensures in
    let here : c.place-at.result ≡ c.args.suffixes.now.words.at + c.args.index * 2 =
    c.place-at.ensures ∙ ap (λ (entry : ℕ). c.args.suffixes.now.words.at + c.args.index * entry) c.requires.entry in
    let number = c.version_number-number.ensures in
    let many : 2 ≤ number_in c.in_ok-word.word = least_as c.if-number-lt2.false number in
    let high : nat_lt c.version_number-number.result 2 ≡ false = le-ltb _ 2 c.if-number-lt2.false in
    let first = c.in_ok-word.ensures.fetches in
    let same = first.0.same_style in
    record {
      fetches = ListingReads-name {X = NameEnd} _ _ _ c.in_ok-word.word (Ok c.in_ok-end.end) _ first c.in_ok-end.ensures.fetches;
      kept = c.in_ok-end.ensures.kept ∙ c.in_ok-word.ensures.kept;
      read = λ file held table symbol_at are defined.
          let told = number_reported file cap (number_in c.in_ok-word.word) c.place-at.result in
          let named = suffix_named file table c.args.suffixes.now are cap symbol_at c.args.index there _ c.in_ok-word.word here (c.in_ok-word.ensures.read file held) many in
          rw number (named_read _ _ _ told _ (named ∙ ap told (default_none file symbol_at c.in_ok-word.word (rw number at c.if-word-number.false)))
          (rw (same, number) at (c.in_ok-end.ensures.read file (first.2.reads.keeps.same_file ∙ held) are.numbered high)));
    }
