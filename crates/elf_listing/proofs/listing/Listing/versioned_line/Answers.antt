-- The line is written in full, or a prefix of it at a fault.
use Rattle.std.proofs.Common.{refl}
use Rattle.std.proofs.lemmas.Result.{err_from_is_err_and}
use Rattle.elf_format.specs.Fronts.{front_of}
use Rattle.elf_note.proofs.SpendsLaws.{SpendsAtMost-none}
use Rattle.elf_source.proofs.GrowthLaws.{grows_put}
use Rattle.elf_listing.proofs.Amounts.{part_of}
use Rattle.elf_listing.proofs.SuffixLines.{Fronts-suffixed, WroteText-suffixed}
use Rattle.elf_listing.proofs.listing.Listing.versioned_line.Goals as goal

pub returns : goal.returns
returns g c =
    let puts = rw (c.before_version.ensures.text, c.after_version.ensures.text, c.is_cut.ensures, c.is_cut-2.ensures, c.bytes.ensures.value) at c.in_ok-shown.ensures.puts in
    record {
      grows = grows_put _ _ c.show_joined-shown.ensures.puts;
      keeps = record { same_src = refl; same_out = refl; same_file = refl; same_style = refl };
      spent = (SpendsAtMost-none _ _ _ _ (part_of _ _), tt);
      shows = λ at answer read. WroteText-suffixed _ _ (front_of c.args.front.now) at c.args.end c.args.suffix.end _ c.args.version.now answer c.args.suffix.is_default read puts.0;
    }

pub returns-in_err-shown : goal.returns-in_err-shown
returns-in_err-shown g c =
    let p = err_from_is_err_and c.from_residual.result c.from_residual.ensures.1 in
    let puts = rw (c.before_version.ensures.text, c.after_version.ensures.text, c.is_cut.ensures, c.is_cut-2.ensures, c.bytes.ensures.value) at c.in_err-shown.ensures.puts in
    rw (p.1, p.2)
    (record {
      grows = grows_put _ _ c.show_joined-shown.ensures.puts;
      keeps = record { same_src = refl; same_out = refl; same_file = refl; same_style = refl };
      spent = (SpendsAtMost-none _ _ _ _ (part_of _ _), puts.1);
      shows = λ at answer read. Fronts-suffixed _ _ (front_of c.args.front.now) at c.args.end c.args.suffix.end _ c.args.version.now answer c.args.suffix.is_default read puts.0;
    })
