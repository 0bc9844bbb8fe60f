use Rattle.std.proofs.Common.{◌≡◌, ◌∙◌, ℕ, suc, ◌+◌, ◌-◌, ◌<◌, min, length, take, ap, sym, refl, arith, length-take}
use Rattle.std.proofs.lemmas.Result.{err_from_is_err_and}
use borrow.Rule.Slice.PartMut.{same_len_mid}
use Rattle.elf_source.proofs.PutsLaws.{SinkTakes-nothing}
use Rattle.elf_source.proofs.ReadsLaws.{ReadsUpTo-none}
use Rattle.elf_image.specs.Marks.{is_window_marked}
use Rattle.elf_image.specs.Written.{bytes_after}
use Rattle.elf_image.proofs.SegmentWindowSteps.{after-long, from-after, unmarked-unmet, window-index, window-more, window-next, window-start, window-stopped, windows-end, windows-read, windows-reads, windows-refuse}
use Rattle.elf_image.proofs.StopSteps.{stops-after}
use Rattle.elf_image.proofs.segment_windows.write_segment_windows.Goals as goal

pub windows-init : goal.windows-init
windows-init g c = record {
  sized = refl;
  within = omega arith;
  room = omega (arith, c.requires.room);
  index = (0, window-start c.args.target.now, ReadsUpTo-none _ _);
  text = λ source writes from marks. SinkTakes-nothing _;
}

pub windows-preserved : goal.windows-preserved
windows-preserved g c =
    let l = c.windows in
    let i = l.invariant in
    let image = c.args.image.now in
    let target = c.args.target.now in
    let marks = c.args.marks.now in
    let k : ℕ = i.index.0 in
    let count : ℕ = c.min-count.result in
    let few : count ≡ min (target.size - l.low) target.window = omega (arith, c.min-count.ensures) in
    let below : l.low < target.size = omega (arith, c.windows-test.true) in
    let long : length (take (count - 0) l.room) ≡ count = length-take (count - 0) l.room ∙ omega (arith, i.room, few) in
    let some : 0 < target.window = omega (arith, c.requires.some) in
    let here = window-index target l.low k some below i.index.1 in
    let marked : c.is_marked-met.result ≡ is_window_marked marks.met k = c.is_marked-met.ensures ∙ ap (is_window_marked marks.met) here.1 in
    let step : l.low + count ≡ l.low + length (take (count - 0) l.room) = omega (arith, long) in
    let there = window-next target l.low count (l.low + count) k some below few refl i.index.1 in
    record {
      sized = refl;
      within = omega (arith, few, below);
      room = omega (arith, i.room, same_len_mid 0 _ l.room c.write_window.new.bytes c.write_window.auto.bytes);
      index = (suc k, there, windows-read image target marks l.low (length (take (count - 0) l.room)) (l.low + count) k c.is_marked-met.result marked step i.index.2 c.write_window.ensures.costs);
      text = λ source writes from are.
          window-more _ _ _ (bytes_after source target writes) l.low (length (take (count - 0) l.room)) (l.low + count) step (i.text source writes from are)
          (c.in_ok-write_window.ensures.text source writes (from-after image source target writes i.index.2 from)
          (λ none. (k, here.0, omega (arith, long, few), unmarked-unmet target.window target.index k writes marks are (sym marked ∙ none))));
    }

pub returns-in_err-write_window-clause-costs : goal.returns-in_err-write_window-clause-costs
returns-in_err-write_window-clause-costs g c =
    let l = c.windows in
    let i = l.invariant in
    let image = c.args.image.now in
    let target = c.args.target.now in
    let marks = c.args.marks.now in
    let k : ℕ = i.index.0 in
    let count : ℕ = c.min-count.result in
    let few : count ≡ min (target.size - l.low) target.window = omega (arith, c.min-count.ensures) in
    let below : l.low < target.size = omega (arith, c.windows-test.true) in
    let long : length (take (count - 0) l.room) ≡ count = length-take (count - 0) l.room ∙ omega (arith, i.room, few) in
    let some : 0 < target.window = omega (arith, c.requires.some) in
    let here = window-index target l.low k some below i.index.1 in
    let marked : c.is_marked-met.result ≡ is_window_marked marks.met k = c.is_marked-met.ensures ∙ ap (is_window_marked marks.met) here.1 in
    let step : l.low + count ≡ l.low + length (take (count - 0) l.room) = omega (arith, long) in
    let there = window-next target l.low count (l.low + count) k some below few refl i.index.1 in
    windows-reads image target marks (l.low + count) (suc k) there
    (windows-read image target marks l.low (length (take (count - 0) l.room)) (l.low + count) k c.is_marked-met.result marked step i.index.2 c.write_window.ensures.costs)

pub returns-in_err-write_window-clause-refuses : goal.returns-in_err-write_window-clause-refuses
returns-in_err-write_window-clause-refuses g c =
    let p = err_from_is_err_and c.from_residual.result c.from_residual.ensures.1 in
    let l = c.windows in
    let i = l.invariant in
    let image = c.args.image.now in
    let target = c.args.target.now in
    let marks = c.args.marks.now in
    let k : ℕ = i.index.0 in
    let count : ℕ = c.min-count.result in
    let few : count ≡ min (target.size - l.low) target.window = omega (arith, c.min-count.ensures) in
    let below : l.low < target.size = omega (arith, c.windows-test.true) in
    let long : length (take (count - 0) l.room) ≡ count = length-take (count - 0) l.room ∙ omega (arith, i.room, few) in
    let some : 0 < target.window = omega (arith, c.requires.some) in
    let here = window-index target l.low k some below i.index.1 in
    let marked : c.is_marked-met.result ≡ is_window_marked marks.met k = c.is_marked-met.ensures ∙ ap (is_window_marked marks.met) here.1 in
    let step : l.low + count ≡ l.low + length (take (count - 0) l.room) = omega (arith, long) in
    let there = window-next target l.low count (l.low + count) k some below few refl i.index.1 in
    rw (p.1, p.2) (λ refusal e late.
    windows-refuse image target marks l.low (length (take (count - 0) l.room)) (l.low + count) k c.is_marked-met.result marked step i.index.2 there
    (c.in_err-write_window.ensures.refuses refusal e late))

pub returns-in_err-write_window-clause-text : goal.returns-in_err-write_window-clause-text
returns-in_err-write_window-clause-text g c = λ source writes from are.
    let p = err_from_is_err_and c.from_residual.result c.from_residual.ensures.1 in
    let l = c.windows in
    let i = l.invariant in
    let image = c.args.image.now in
    let target = c.args.target.now in
    let marks = c.args.marks.now in
    let k : ℕ = i.index.0 in
    let count : ℕ = c.min-count.result in
    let few : count ≡ min (target.size - l.low) target.window = omega (arith, c.min-count.ensures) in
    let below : l.low < target.size = omega (arith, c.windows-test.true) in
    let long : length (take (count - 0) l.room) ≡ count = length-take (count - 0) l.room ∙ omega (arith, i.room, few) in
    let some : 0 < target.window = omega (arith, c.requires.some) in
    let here = window-index target l.low k some below i.index.1 in
    let marked : c.is_marked-met.result ≡ is_window_marked marks.met k = c.is_marked-met.ensures ∙ ap (is_window_marked marks.met) here.1 in
    let step : l.low + count ≡ l.low + length (take (count - 0) l.room) = omega (arith, long) in
    let there = window-next target l.low count (l.low + count) k some below few refl i.index.1 in
    rw (p.1, p.2)
    (window-stopped (Unit {0}) (Unit {0}) _ _ _ (bytes_after source target writes) l.low (length (take (count - 0) l.room)) c.in_err-write_window.field-0.0 (i.text source writes from are)
    (c.in_err-write_window.ensures.text source writes (from-after image source target writes i.index.2 from)
    (λ none. (k, here.0, omega (arith, long, few), unmarked-unmet target.window target.index k writes marks are (sym marked ∙ none)))))

pub returns-clause-costs : goal.returns-clause-costs
returns-clause-costs g c =
    let i = c.windows.invariant in
    windows-reads c.args.image.now c.args.target.now c.args.marks.now c.windows.low i.index.0 i.index.1 i.index.2

pub returns-clause-text : goal.returns-clause-text
returns-clause-text g c = λ source writes from marks.
    let i = c.windows.invariant in
    windows-end _ _ (bytes_after source c.args.target.now writes) c.windows.low c.args.target.now.size (after-long source c.args.target.now from.is_target c.args.image.now.leaves writes from.are_writes)
    (omega (arith, c.windows-test.false, i.sized)) (i.text source writes from marks)

pub returns-in_err-write_window-clause-stops : goal.returns-in_err-write_window-clause-stops
returns-in_err-write_window-clause-stops g c =
    let p = err_from_is_err_and c.from_residual.result c.from_residual.ensures.1 in
    rw (p.1, p.2) (stops-after c.write_window.new.src c.write_window.new.out c.in_err-write_window.field-0.0 c.windows.invariant.index.2 c.in_err-write_window.ensures.stops)
