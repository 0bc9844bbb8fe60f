-- The definitions are added before the needs.
use Rattle.std.proofs.Common.{[], ◌∙◌, arith}
use Rattle.std.proofs.lemmas.Result.{err_from_is_err_and}
use Rattle.elf_model.specs.Prelude.{SHT_GNU_VERDEF, first_versions, walks_cost}
use Rattle.elf_model.specs.declared.versions.VersionKind.TheVariants.{Definition}
use Rattle.elf_note.proofs.SpendsLaws.{SpendsAtMost-then, SpendsAtMost-to}
use Rattle.elf_source.proofs.ReadsLaws.{ReadsUpTo-none}
use Rattle.elf_listing.proofs.FirstTaken.{numbered-cut, numbered-later, or-none}
use Rattle.elf_listing.proofs.ListsLaws.{SameFile-then}
use Rattle.elf_listing.proofs.VersionedCosts.{IsReadFault-account}
use Rattle.elf_listing.proofs.listing.Listing.numbered.Goals as goal

pub returns-in_err-numbered-clause-numbers : goal.returns-in_err-numbered-clause-numbers
unfolding walks_cost
returns-in_err-numbered-clause-numbers g c =
    let p = err_from_is_err_and c.from_residual.result c.from_residual.ensures.1 in
    let taken = c.in_err-numbered.ensures.records in
    let account = taken.fetches.2.account in
    rw (p.1, p.2)
    (record {
      fetches = (taken.fetches.0, taken.fetches.1, SpendsAtMost-to taken.fetches.2 (omega (arith, account)), IsReadFault-account _ _ _ _ 0 _ _ (omega arith) (ReadsUpTo-none _ 0) taken.fetches.3);
      within = tt;
      read = λ file held. numbered-cut file [] (λ f r. Unit {0}) [] _ (taken.taken file held [] (c.requires file _));
    })

pub returns-in_err-numbered-2-clause-numbers : goal.returns-in_err-numbered-2-clause-numbers
unfolding walks_cost
returns-in_err-numbered-2-clause-numbers g c =
    let p = err_from_is_err_and c.from_residual-in_err-numbered-2.result c.from_residual-in_err-numbered-2.ensures.1 in
    let first = c.in_ok-numbered.ensures.records in
    let second = c.in_err-numbered-2.ensures.records in
    let same = first.fetches.0.same_file in
    let spends = rw same at second.fetches.2 in
    let one = first.fetches.2.account in
    let two = spends.account in
    rw (p.1, p.2)
    (record {
      fetches = (
        SameFile-then first.fetches.0 second.fetches.0,
        second.fetches.1 ∙ first.fetches.1,
        SpendsAtMost-to (SpendsAtMost-then first.fetches.2 spends) (omega (arith, one, two)),
        IsReadFault-account _ _ _ _ _ _ _ (omega (arith, one)) first.fetches.2.reads (rw same at second.fetches.3),
      );
      within = tt;
      read = λ file held.
          let taken = first.taken file held [] (c.requires file _) in
          numbered-later file [] (λ f r. Unit {0}) [] _ taken.whole
          (second.taken file (first.fetches.2.reads.keeps.same_file ∙ held) (first_versions Definition SHT_GNU_VERDEF file) taken.names);
    })

pub returns-clause-numbers : goal.returns-clause-numbers
unfolding walks_cost
returns-clause-numbers g c =
    let first = c.in_ok-numbered.ensures.records in
    let second = c.in_ok-numbered-2.ensures.records in
    let same = first.fetches.0.same_file in
    let spends = rw same at second.fetches.2 in
    let one = first.fetches.2.account in
    let two = spends.account in
    record {
      fetches = (
        SameFile-then first.fetches.0 second.fetches.0,
        second.fetches.1 ∙ first.fetches.1,
        SpendsAtMost-to (SpendsAtMost-then first.fetches.2 spends) (omega (arith, one, two)),
        tt,
      );
      within = (first.within, rw first.fetches.2.reads.keeps.same_size at second.within);
      read = λ file held.
          let taken = first.taken file held [] (c.requires file _) in
          let more = second.taken file (first.fetches.2.reads.keeps.same_file ∙ held) (first_versions Definition SHT_GNU_VERDEF file) taken.names in
          (or-none _ _ _ taken.whole more.whole, record { names = more.names; defined = taken.named; needed = more.named });
    }
