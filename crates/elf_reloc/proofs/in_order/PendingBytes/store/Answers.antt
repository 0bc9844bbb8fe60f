use Rattle.std.proofs.Common.{rules, ap, ◌∙◌, arith, ◌≡◌, Err}
use Rattle.std.proofs.lemmas.Result.{err_from_is_err_and}
use Rattle.elf_source.proofs.ReadsLaws.{ReadsUpTo-then, ReadsUpTo-to}
use Rattle.elf_model.specs.Bytes.{slice}
use Rattle.elf_reloc.specs.Entries.{patch_as}
use Rattle.elf_reloc.proofs.InOrderSteps.{unread_after, midway_patch}
use Rattle.elf_reloc.proofs.WindowSteps.{stopping}
use Rattle.elf_reloc.proofs.in_order.PendingBytes.store.Goals as goal

pub advance-requires-clause-held : goal.advance-requires-clause-held
advance-requires-clause-held g c = omega (arith, c.requires.held, c.requires.may.within)

pub advance-requires-clause-may : goal.advance-requires-clause-may
advance-requires-clause-may g c = record { free = c.requires.may.free; within = omega (arith, c.requires.may.within, c.requires.inside); fits = c.requires.may.fits }

pub read_ahead_pending-requires-clause-may : goal.read_ahead_pending-requires-clause-may
read_ahead_pending-requires-clause-may g c =
    let reads = c.advance.ensures.did.reads in
    record { free = reads.same_limit ∙ c.requires.may.free; within = omega (arith, c.requires.may.within, reads.keeps.same_size); fits = omega (arith, c.requires.may.fits, reads.keeps.same_size) }

pub read_ahead_pending-requires-clause-inside : goal.read_ahead_pending-requires-clause-inside
read_ahead_pending-requires-clause-inside g c = omega (arith, c.requires.inside, c.in_ok-advance.ensures.low, c.width_of.ensures.value)

pub read_ahead_pending-requires-clause-held : goal.read_ahead_pending-requires-clause-held
read_ahead_pending-requires-clause-held g c = omega (arith, c.requires.inside, c.requires.held, c.in_ok-advance.ensures.low, c.in_ok-advance.ensures.long)

pub patch-requires-clause-fits : goal.patch-requires-clause-fits
patch-requires-clause-fits g c = omega (arith, c.in_ok-read_ahead_pending.ensures.on.within, c.requires.may.within, c.requires.may.fits)

pub patch-requires-clause-patch : goal.patch-requires-clause-patch
patch-requires-clause-patch g c = omega (arith, c.requires.inside, c.requires.may.within, c.requires.may.fits)

pub returns-in_err-advance-clause-did : goal.returns-in_err-advance-clause-did
returns-in_err-advance-clause-did g c =
    let p = err_from_is_err_and c.from_residual.result c.from_residual.ensures.1 in
    let did = c.in_err-advance.ensures.did in
    record { says = rw (p.1, p.2) did.says; reads = ReadsUpTo-to did.reads (omega (arith, did.reads.at_most, c.requires.inside)); grows = did.grows; wrote = rw p.1 did.wrote }

pub returns-in_err-advance-clause-text : goal.returns-in_err-advance-clause-text
returns-in_err-advance-clause-text g c = λ file held now long midway.
    let p = err_from_is_err_and c.from_residual.result c.from_residual.ensures.1 in
    (rw (p.1, p.2) (c.in_err-advance.ensures.text c.args.size (omega (arith, c.requires.inside)) file held now long midway).0, rw p.1 tt)

pub returns-in_err-read_ahead_pending-clause-did : goal.returns-in_err-read_ahead_pending-clause-did
returns-in_err-read_ahead_pending-clause-did g c =
    let p = err_from_is_err_and c.from_residual-in_err-read_ahead_pending.result c.from_residual-in_err-read_ahead_pending.ensures.1 in
    let did = c.in_ok-advance.ensures.did in
    record {
      says = search (rules, stopping);
      reads = ReadsUpTo-to (ReadsUpTo-then did.reads c.read_ahead_pending.ensures.reads) (omega (arith, c.in_ok-advance.ensures.low, c.in_ok-advance.ensures.long, did.reads.at_most, c.read_ahead_pending.ensures.reads.at_most, c.requires.low, c.requires.inside, c.requires.held));
      grows = did.grows;
      wrote = rw p.1 (omega (arith, did.wrote));
    }

pub returns-in_err-read_ahead_pending-clause-text : goal.returns-in_err-read_ahead_pending-clause-text
returns-in_err-read_ahead_pending-clause-text g c = λ file held now long midway.
    let p = err_from_is_err_and c.from_residual-in_err-read_ahead_pending.result c.from_residual-in_err-read_ahead_pending.ensures.1 in (
      unread_after (Unit {0}) _ _ c.advance.new.src c.read_ahead_pending.new.src c.in_err-read_ahead_pending.field-0.0 _ _ (p.1 ∙ ap Err p.2) c.in_err-read_ahead_pending.ensures.says (c.in_ok-advance.ensures.text c.args.size (omega (arith, c.requires.inside)) file held now long midway).0,
      rw p.1 tt,
    )

pub returns-clause-did : goal.returns-clause-did
returns-clause-did g c =
    let did = c.in_ok-advance.ensures.did in
    record {
      says = tt;
      reads = ReadsUpTo-to (ReadsUpTo-then did.reads c.read_ahead_pending.ensures.reads) (omega (arith, c.in_ok-advance.ensures.low, c.in_ok-advance.ensures.long, did.reads.at_most, c.read_ahead_pending.ensures.reads.at_most, c.requires.low, c.requires.inside, c.requires.held));
      grows = did.grows;
      wrote = did.wrote;
    }

pub returns-clause-low : goal.returns-clause-low
returns-clause-low g c = omega (arith, c.patch.ensures.low, c.read_ahead_pending.ensures.low, c.in_ok-advance.ensures.low)

pub returns-clause-on : goal.returns-clause-on
returns-clause-on g c = record {
  within = omega (arith, c.patch.ensures.low, c.patch.ensures.long, c.in_ok-read_ahead_pending.ensures.on.within);
  asked = omega (arith, c.in_ok-advance.ensures.low, c.in_ok-advance.ensures.long, c.advance.ensures.did.reads.at_most, c.in_ok-read_ahead_pending.ensures.on.asked, c.patch.ensures.low, c.patch.ensures.long, c.requires.low, c.requires.inside, c.requires.held);
}

pub returns-clause-text : goal.returns-clause-text
returns-clause-text g c = λ file held now long midway.
    let first = c.in_ok-advance.ensures.text c.args.size (omega (arith, c.requires.inside)) file held now long midway in
    let low : c.advance.new.self.low ≡ c.args.placed.now.offset = c.in_ok-advance.ensures.low in
    let width = c.width_of.ensures.value in
    let read = c.in_ok-read_ahead_pending.ensures.bytes file (c.advance.ensures.did.reads.keeps.same_file ∙ held) now long first.1 in (
      first.0,
      midway_patch (slice file c.args.at c.args.size) now c.read_ahead_pending.new.self c.patch.new.self (patch_as c.args.placed.now) (omega (arith, c.read_ahead_pending.ensures.low, low)) (omega (arith, c.read_ahead_pending.ensures.low, low, width, c.in_ok-read_ahead_pending.ensures.long))
          c.patch.ensures.low c.patch.ensures.bytes c.patch.ensures.long read,
    )
