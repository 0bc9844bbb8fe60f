use Rattle.std.proofs.Common.{◌∙◌, Some, refl, sym, ap}
use Rattle.elf_source.specs.Source.{SourceState, CountedState}
use Rattle.elf_source.proofs.RangeLaws.{is_whole}
use Rattle.elf_source.proofs.range_source.Counted+RangeSource+S.widen.Goals as goal

pub returns : goal.returns
returns g c =
    let is = c.self.view_is in
    let below = c.set.ensures.below in
    record {
      is_whole = is_whole c.set.new.self c.set.ensures.start (c.set.ensures.size ∙ (c.whole-size.ensures.value ∙ sym (ap (λ (b : SourceState). b.size) below)));
      same_whole = ap (λ (b : SourceState). Some (record { size = b.size; file = b.file })) below ∙ ap (λ (v : CountedState). v.seen.whole) is;
      same_failures = ap (λ (b : SourceState). b.failures) below ∙ ap (λ (v : CountedState). v.seen.failures) is;
      same_asked = ap (λ (v : CountedState). v.asked) is;
      same_limit = ap (λ (v : CountedState). v.most) is;
      same_stopped = ap (λ (v : CountedState). v.stopped) is;
      shows = refl;
    }
