use Rattle.std.proofs.Common.{◌≡◌, ℕ, ◌+◌, ◌≤◌, List, Some, length, take, ap, ◌∙◌, arith, length-take, length-take-le, rules}
use Rattle.std.proofs.lemmas.Result.{err_from_is_err_and}
use Rattle.elf_model.specs.Bytes.{slice}
use Rattle.elf_model.proofs.Searches.{search-more, kept-more, found-here}
use Rattle.elf_table.specs.Windows.{HoldsBytes}
use Rattle.elf_table.proofs.Paging.{held-front}
use Rattle.elf_table.proofs.FaultLaws.{of-read}
use Rattle.elf_table.proofs.ThroughLaws.{through_err, through_none, through_ok, through_skip, through_then}
use Rattle.elf_table.proofs.name_search.search_name.Goals as goal

pub returns-in-Some-clause-searched : goal.returns-in-Some-clause-searched
returns-in-Some-clause-searched g c = λ file h a.
    let l = c.loop-done in
    let i = l.invariant in
    let b = c.in_ok-fill_buf.ensures in
    let n = c.min-count.result in
    let count = c.min-count.ensures in
    let front = c.front-front.result.now in
    let held : HoldsBytes file c.fill_buf.new.self = b.went.agrees file (i.went.reads.keeps.same_file ∙ h) (i.went.agrees file h a) in
    let few : n ≤ length c.fill_buf.new.self.held = omega (arith, ap length c.front-front.ensures) in
    let stays = b.brings.stays in
    let piece : take n front ≡ slice file (c.args.window.now.at + l.done) n =
    ap (take n) c.front-front.ensures ∙ held-front file c.fill_buf.new.self n few held ∙ ap (λ (x : ℕ). slice file x n) (stays ∙ i.place) in
    let size : length (take n front) ≡ n = length-take-le n front (omega (arith, ap length c.front-front.ensures)) in
    let below = c.in-Some.ensures.below in
    let sized = c.args.src.now.seen.sized file h in
    let test = c.loop-done-test.true in
    let enough = c.requires.left.enough in
    let ends = c.requires.left.within (omega arith) in
    found-here file (take n front) l.name c.add.new.self c.args.window.now.at l.done n c.args.want c.in-Some.place c.args.cap.bytes piece (i.no_nul file h a)
    (i.name file h a) c.in-Some.ensures.first (omega arith) (omega arith) (omega arith) c.add.ensures

pub returns-in-Some-clause-inside : goal.returns-in-Some-clause-inside
returns-in-Some-clause-inside g c = omega (arith, c.in_ok-fill_buf.ensures.brings.stays)

pub loop-done-smaller : goal.loop-done-smaller
loop-done-smaller g c = omega (arith, ap length c.front-front.ensures, c.in_ok-fill_buf.ensures.brings.long)

pub skip-requires : goal.skip-requires
skip-requires g c = omega (arith, ap length c.front-front.ensures)

pub returns-in_err-fill_buf-clause-reads : goal.returns-in_err-fill_buf-clause-reads
returns-in_err-fill_buf-clause-reads g c =
    let p = err_from_is_err_and c.from_residual.result c.from_residual.ensures.1 in
    let e = c.in_err-fill_buf.ensures in
    rw (p.1, p.2) (record { went = through_err (through_then c.loop-done.invariant.went e.went); fault = of-read _ _ e.brings.1 })

pub returns-in-Some-clause-reads : goal.returns-in-Some-clause-reads
returns-in-Some-clause-reads g c = record { went = through_ok _ (through_then c.loop-done.invariant.went c.in_ok-fill_buf.ensures.went); fault = tt }

pub returns-clause-reads : goal.returns-clause-reads
returns-clause-reads g c = record { went = through_ok _ c.loop-done.invariant.went; fault = tt }

pub loop-done-init : goal.loop-done-init
loop-done-init g c = record {
  in_range = omega arith;
  few = search rules;
  place = omega arith;
  went = through_none _ _ _ _;
  no_nul = search rules;
  name = search rules;
}

pub loop-done-preserved : goal.loop-done-preserved
loop-done-preserved g c =
    let l = c.loop-done in
    let i = l.invariant in
    let b = c.in_ok-fill_buf.ensures in
    let n = c.min-count.result in
    let count = c.min-count.ensures in
    let test = c.loop-done-test.true in
    let front = c.front-front.result.now in
    let few : n ≤ length c.fill_buf.new.self.held = omega (arith, ap length c.front-front.ensures) in
    let stays = b.brings.stays in
    let added = c.add-in-loop-done.ensures in
    let sk = c.skip.ensures in
    let went = through_then i.went b.went in
    let piece : (file : List ℕ) → c.args.src.now.seen.file ≡ Some file → HoldsBytes file c.args.window.now → take n front ≡ slice file (c.args.window.now.at + l.done) n =
    λ file h a. ap (take n) c.front-front.ensures ∙ held-front file c.fill_buf.new.self n few (went.agrees file h a) ∙ ap (λ (x : ℕ). slice file x n) (stays ∙ i.place) in
    record {
      in_range = omega arith;
      few = omega (arith, ap length added, length-take {A = ℕ});
      place = omega (arith, sk.at);
      went = through_skip went sk;
      no_nul = λ file h a. search-more file (take n front) c.args.window.now.at l.done n (piece file h a) (i.no_nul file h a) c.in_default.ensures.first;
      name = λ file h a. kept-more file (take n front) l.name c.add-in-loop-done.new.self c.args.window.now.at l.done n c.args.cap.bytes (piece file h a) (i.name file h a) added;
    }
