-- The name of a symbol by the cases of the definition, and whether the symbol is defined.
use Rattle.std.proofs.Common.{ℕ, ◌==◌, not, [], Err, Ok, refl, sym, ap, ◌∙◌, arith}
use Rattle.std.proofs.lemmas.Bool.{eq-eqb}
use Rattle.std.proofs.lemmas.Result.{err_from_is_err_and}
use Rattle.elf_model.specs.Prelude.{st_name, st_shndx}
use Rattle.elf_model.specs.Names.DisplayedName.{Whole}
use Rattle.elf_note.proofs.HeldLaws.{still_ahead}
use Rattle.elf_note.proofs.WordLaws.{none-of}
use Rattle.elf_note.proofs.SpendsLaws.{SpendsAtMost-none, SpendsAtMost-then}
use Rattle.elf_table.proofs.OpenLaws.{still_open}
use Rattle.elf_table.specs.declared.names.NameEnd.{NameEnd}
use Rattle.elf_listing.proofs.Amounts.{part_of}
use Rattle.elf_listing.proofs.ViewedLaws.{still_viewed}
use Rattle.elf_table.specs.Prelude.{symbols_linked}
use Rattle.elf_listing.proofs.LocatedShown.{among_zero, read_among, refuses_among}
use Rattle.elf_listing.proofs.SymbolNamed.{named_zero, read_named, refuses_named, says_after}
use Rattle.elf_listing.proofs.listing.Listing.read_linked.Goals as goal

pub returns-in_err-found : goal.returns-in_err-found
returns-in_err-found g c =
    let p = err_from_is_err_and c.from_residual.result c.from_residual.ensures.1 in
    rw (p.1, p.2)
    (record {
      fetches = (record { same_src = refl; same_out = refl; same_file = refl; same_style = refl }, refl, SpendsAtMost-none _ _ _ _ (part_of _ _), grind (arith, c.in_err-found.ensures.refusal));
      read = λ file header held linked. refuses_named file c.args.self.now.style.cap.bytes header c.args.at c.args.symbol _ (c.in_err-found.ensures.held file header linked);
      among = λ file held. refuses_among file c.args.self.now.style.cap.bytes c.args.at c.args.symbol c.args.linked _ c.in_err-found.ensures.among;
      defined = λ file header held linked some. tt;
    })

pub returns-in_default : goal.returns-in_default
returns-in_default g c = record {
  fetches = (record { same_src = refl; same_out = refl; same_file = refl; same_style = refl }, refl, SpendsAtMost-none _ _ _ _ (part_of _ _), tt);
  read = λ file header held linked.
      let zero = rw (none-of _ c.in_default.not-Some) at (c.in_ok-found.ensures.held file header linked) in
      rw (named_zero file c.args.self.now.style.cap.bytes header c.args.at c.args.symbol zero) (ap (λ name. Ok (Whole name)) (sym c.clear.ensures));
  among = λ file held.
      let zero = rw (none-of _ c.in_default.not-Some) at c.in_ok-found.ensures.among in
      rw (among_zero file c.args.self.now.style.cap.bytes c.args.at c.args.symbol (symbols_linked file c.args.linked) zero) (ap (λ name. Ok (Whole name)) (sym c.clear.ensures));
  defined = λ file header held linked some.
      let zero = eq-eqb c.args.symbol 0 (rw (none-of _ c.in_default.not-Some) at (c.in_ok-found.ensures.held file header linked)) in absurd cc;
}

pub returns-in_err-end : goal.returns-in_err-end
returns-in_err-end g c =
    let p = err_from_is_err_and c.from_residual-in_err-end.result c.from_residual-in_err-end.ensures.1 in
    let first = c.in_ok-entry.ensures.ahead.costs.spends in
    let more = c.in_err-end.ensures.fetches in
    rw (p.1, p.2)
    (record {
      fetches = (
        record { same_src = more.0.same_src; same_out = more.0.same_out; same_file = more.0.same_file; same_style = more.0.same_style },
        more.1,
        SpendsAtMost-then first more.2,
        says_after {X = NameEnd} _ _ _ (Err c.in_err-end.field-0.0) _ _ _ (omega (arith, first.account)) first.reads more.3,
      );
      read = λ file header held linked.
          let found = rw c.in-Some.is at (c.in_ok-found.ensures.held file header linked) in
          let decoded = c.in_ok-entry.ensures.read file held (c.args.self.now.held file held) in
          read_named file c.args.self.now.style.cap.bytes header c.args.at c.args.symbol _ _ _ (Err c.in_err-end.field-0.0) [] found.0 found.1 (c.at.ensures ∙ found.2) (c.from.ensures ∙ (decoded.st_name ∙ ap (st_name file) (sym c.at.ensures))) found.3
          (c.in_err-end.ensures.read file (c.in_ok-entry.ensures.ahead.costs.spends.reads.keeps.same_file ∙ held));
      among = λ file held.
          let is = rw c.in-Some.is at c.in_ok-found.ensures.among in
          let within = rw c.in-Some.is at (c.in_ok-found.ensures.within _ c.requires) in
          let decoded = c.in_ok-entry.ensures.read file held (c.args.self.now.held file held) in
          read_among file c.args.self.now.style.cap.bytes c.args.at c.args.symbol c.args.linked _ _ _ _ _ (Err c.in_err-end.field-0.0) [] is.0 is.1 is.2 within.0.0 is.3 c.at.ensures
          (c.from.ensures ∙ (decoded.st_name ∙ ap (st_name file) (sym c.at.ensures)))
          (c.in_err-end.ensures.read file (c.in_ok-entry.ensures.ahead.costs.spends.reads.keeps.same_file ∙ held));
      defined = λ file header held linked some. tt;
    })

pub returns : goal.returns
returns g c =
    let first = c.in_ok-entry.ensures.ahead.costs.spends in
    let more = c.in_ok-end.ensures.fetches in
    record {
      fetches = (
        record { same_src = more.0.same_src; same_out = more.0.same_out; same_file = more.0.same_file; same_style = more.0.same_style },
        more.1,
        SpendsAtMost-then first more.2,
        tt,
      );
      read = λ file header held linked.
          let found = rw c.in-Some.is at (c.in_ok-found.ensures.held file header linked) in
          let decoded = c.in_ok-entry.ensures.read file held (c.args.self.now.held file held) in
          read_named file c.args.self.now.style.cap.bytes header c.args.at c.args.symbol _ _ _ (Ok c.in_ok-end.end) _ found.0 found.1 (c.at.ensures ∙ found.2) (c.from.ensures ∙ (decoded.st_name ∙ ap (st_name file) (sym c.at.ensures))) found.3
          (c.in_ok-end.ensures.read file (c.in_ok-entry.ensures.ahead.costs.spends.reads.keeps.same_file ∙ held));
      among = λ file held.
          let is = rw c.in-Some.is at c.in_ok-found.ensures.among in
          let within = rw c.in-Some.is at (c.in_ok-found.ensures.within _ c.requires) in
          let decoded = c.in_ok-entry.ensures.read file held (c.args.self.now.held file held) in
          read_among file c.args.self.now.style.cap.bytes c.args.at c.args.symbol c.args.linked _ _ _ _ _ (Ok c.in_ok-end.end) _ is.0 is.1 is.2 within.0.0 is.3 c.at.ensures
          (c.from.ensures ∙ (decoded.st_name ∙ ap (st_name file) (sym c.at.ensures)))
          (c.in_ok-end.ensures.read file (c.in_ok-entry.ensures.ahead.costs.spends.reads.keeps.same_file ∙ held));
      defined = λ file header held linked some.
          let found = rw c.in-Some.is at (c.in_ok-found.ensures.held file header linked) in
          let decoded = c.in_ok-entry.ensures.read file held (c.args.self.now.held file held) in
          ap (λ (n : ℕ). not (n == 0)) (decoded.st_shndx ∙ ap (st_shndx file) found.2);
    }

pub invariant_of-self-2 : goal.invariant_of-self-2
invariant_of-self-2 g c = record {
  loaded = still_open _ _ c.symbol.ensures.ahead.costs.spends.reads c.args.self.now.loaded;
  viewed = still_viewed _ _ c.symbol.ensures.ahead.costs.spends.reads c.args.self.now.viewed;
  held = still_ahead _ _ c.symbol.ensures.ahead c.args.self.now.held;
}
