use Rattle.std.proofs.Common.{ap, refl, ◌∙◌}
use Rattle.elf_source.specs.Source.{CountedState, file_by}
use Rattle.elf_source.proofs.HidingLaws.{view_of}
use Rattle.elf_source.proofs.counted.Counted.mask_section_headers.Goals as goal

pub returns : goal.returns
returns g c =
    let is = c.self.view_is in
    record {
      is_hidden = refl;
      shows = λ hidden file held. ap (λ b. file_by b (g.S.Source.seen c.self.inside.source).file) hidden ∙ view_of c.self.inside.hides _ file (ap (λ (v : CountedState). v.seen.file) is ∙ held);
      same_size = ap (λ (v : CountedState). v.seen.size) is;
      same_failures = ap (λ (v : CountedState). v.seen.failures) is;
      same_source = ap (λ (v : CountedState). v.source) is;
      same_asked = ap (λ (v : CountedState). v.asked) is;
      same_limit = ap (λ (v : CountedState). v.most) is;
      same_stopped = ap (λ (v : CountedState). v.stopped) is;
    }
