-- Each piece is searched after those before it.
use Rattle.std.proofs.Common.{◌≡◌, ℕ, ◌+◌, ◌<◌, List, Some, length, ap, ◌∙◌, arith, length-take}
use Rattle.elf_model.specs.Bytes.{slice}
use Rattle.elf_model.proofs.Searches.{search-more, kept-more, found-here}
use Rattle.elf_note.specs.Ahead.{IsAheadOf}
use Rattle.elf_note.proofs.HeldLaws.{piece-of_file}
use Rattle.elf_note.proofs.SpendsLaws.{SpendsAtMost-then}
use Rattle.elf_note.proofs.read_ahead.ReadAhead.search.Goals as goal

pub returns-in-Some-clause-searched : goal.returns-in-Some-clause-searched
returns-in-Some-clause-searched g c = λ file h a.
    let l = c.loop-done in
    let i = l.invariant in
    let p = c.part-piece.result.now in
    let b = c.in_ok-fill_buf.ensures in
    let start = c.args.index.names.at + c.args.index.off in
    let held = c.fill_buf.new.self in
    let at : ℕ = start + l.done in
    let size = c.part-piece.ensures.size in
    let begins = b.brings.begins in
    let ends = b.brings.ends in
    let from_ = i.begins in
    let test = c.loop-done-test.true in
    let known = b.agrees file (i.spends.reads.keeps.same_file ∙ h) (i.held file h a) in
    let part = c.part-piece.ensures.part in
    let piece : p ≡ slice file at (length p) =
    piece-of_file file p held at _ _ known (omega arith) begins (omega arith) size part in
    let below = c.in-Some.ensures.below in
    let sized = c.args.src.now.seen.sized file h in
    let inside = c.requires.few.0 in
    let some : 0 < c.args.index.names.size = omega arith in
    let within = c.requires.within some in
    found-here file p l.name c.add.new.self start l.done (length p) c.args.want c.in-Some.place c.args.cap.bytes piece (i.no_nul file h a)
    (i.name file h a) c.in-Some.ensures.first (omega arith) (omega arith) (omega arith) c.add.ensures

pub loop-done-preserved : goal.loop-done-preserved
loop-done-preserved g c =
    let l = c.loop-done in
    let i = l.invariant in
    let p = c.part-piece.result.now in
    let b = c.in_ok-fill_buf.ensures in
    let start = c.args.index.names.at + c.args.index.off in
    let held = c.fill_buf.new.self in
    let at : ℕ = start + l.done in
    let size = c.part-piece.ensures.size in
    let begins = b.brings.begins in
    let ends = b.brings.ends in
    let asked = b.brings.asked in
    let paid = b.brings.paid in
    let from_ = i.begins in
    let test = c.loop-done-test.true in
    let before = i.behind test in
    let not_past = b.costs.not_past in
    let until = i.ends in
    let added = c.add-in-loop-done.ensures in
    let part = c.part-piece.ensures.part in
    let piece : (file : List ℕ) → c.args.src.now.seen.file ≡ Some file → IsAheadOf file c.args.self.now → p ≡ slice file at (length p) =
    λ file h a. piece-of_file file p held at _ _ (b.agrees file (i.spends.reads.keeps.same_file ∙ h) (i.held file h a)) (omega arith) begins (omega arith) size part in
    record {
      in_range = omega arith;
      few = omega (arith, ap length added, length-take {A = ℕ});
      begins = i.begins;
      ends = i.ends;
      paid = omega (arith, i.paid);
      spends = SpendsAtMost-then i.spends b.costs.spends;
      behind = λ more. omega arith;
      not_past = omega arith;
      same_symbols = i.same_symbols;
      held = λ file h a. b.agrees file (i.spends.reads.keeps.same_file ∙ h) (i.held file h a);
      no_nul = λ file h a. search-more file p start l.done (length p) (piece file h a) (i.no_nul file h a) c.in_default.ensures.first;
      name = λ file h a. kept-more file p l.name c.add-in-loop-done.new.self start l.done (length p) c.args.cap.bytes (piece file h a) (i.name file h a) added;
    }
