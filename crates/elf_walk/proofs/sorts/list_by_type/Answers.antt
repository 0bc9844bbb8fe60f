-- A file's listing by its type.
use Rattle.std.proofs.Common.{Bool, [], refl, rules, subst}
use Rattle.elf_source.proofs.PutsLaws.{SinkTakes-nothing}
use Rattle.std.proofs.lemmas.Result.{err_from_is_err_and}
use Rattle.elf_options.specs.Permitted.{style_of}
use Rattle.elf_archive.specs.Listed.{ReportsArchive}
use Rattle.elf_walk.proofs.HeadedLaws.{archive_listed, elf_ended, elf_stopped, nothing_listed, undecided_listed, undecided_says}
use Rattle.elf_walk.proofs.sorts.list_by_type.Goals as goal

pub returns-in_err-show-in-Elf-clause-lists : goal.returns-in_err-show-in-Elf-clause-lists
returns-in_err-show-in-Elf-clause-lists g c = λ file held.
    let p = err_from_is_err_and c.from_residual.result c.from_residual.ensures.1 in
    rw (c.in-Elf.is, p.1, p.2) (elf_stopped file c.args.caps c.args.parts.0 c.args.out.now c.show.new.out c.in_err-show-in-Elf.field-0.0 (c.in_err-show-in-Elf.ensures.text file held))

pub returns-in_err-show-in-Elf-clause-cost : goal.returns-in_err-show-in-Elf-clause-cost
returns-in_err-show-in-Elf-clause-cost g c = λ file held. rw c.in-Elf.is (c.in_err-show-in-Elf.ensures.cost file held)

pub returns-in_ok-show-in-Elf-clause-lists : goal.returns-in_ok-show-in-Elf-clause-lists
returns-in_ok-show-in-Elf-clause-lists g c = λ file held.
    rw c.in-Elf.is (elf_ended file c.args.caps c.args.parts.0 c.args.out.now c.show.new.out c.in_ok-show-in-Elf.field-0 (c.in_ok-show-in-Elf.ensures.text file held))

pub returns-in_ok-show-in-Elf-clause-cost : goal.returns-in_ok-show-in-Elf-clause-cost
returns-in_ok-show-in-Elf-clause-cost g c = λ file held. rw c.in-Elf.is (c.in_ok-show-in-Elf.ensures.cost file held)

pub returns-in-Archive-clause-lists : goal.returns-in-Archive-clause-lists
returns-in-Archive-clause-lists g c = λ file held.
    let text =
    subst (λ (alone : Bool). ReportsArchive alone file c.args.caps c.args.parts.0 c.args.out.now c.show_archive.new.out c.show_archive.result) c.are_alone-alone.ensures (c.show_archive.ensures.text file held) in
    rw c.in-Archive.is (archive_listed file c.args.caps c.args.parts.0 c.args.out.now c.show_archive.new.out c.show_archive.result text)

pub returns-in-Archive-clause-cost : goal.returns-in-Archive-clause-cost
returns-in-Archive-clause-cost g c = λ file held. rw c.in-Archive.is (c.show_archive.ensures.cost file held)

pub returns-in-Undecided-sort-clause-lists : goal.returns-in-Undecided-sort-clause-lists
returns-in-Undecided-sort-clause-lists g c = λ file held.
    rw c.in-Undecided-sort.is (undecided_listed file c.args.caps.limits (style_of c.args.caps.style) c.args.parts.0 c.args.out.now c.report_undecided.new.out c.report_undecided.result c.report_undecided.ensures.tells)

pub returns-in-Undecided-sort-clause-says : goal.returns-in-Undecided-sort-clause-says
returns-in-Undecided-sort-clause-says g c = undecided_says c.args.caps.style.format c.args.src.now c.limit.new.self c.args.out.now c.report_undecided.new.out c.report_undecided.result c.report_undecided.ensures.tells

pub returns-in_default : goal.returns-in_default
returns-in_default g c =
    let nothing = nothing_listed c.args.sort c.in-Undecided.is c.in_default.not-Undecided in
    record {
      slots = refl;
      grows = record { bytes = []; takes = SinkTakes-nothing c.args.out.now };
      leaves = search rules;
      says = tt;
      lists = λ file held. nothing.lists file c.args.caps.limits (style_of c.args.caps.style) c.args.parts.0 c.args.out.now;
      cost = λ file held. rw (nothing.costs file c.args.caps.limits.headers (style_of c.args.caps.style) c.args.parts.0) (search rules);
      asks = rw (nothing.asks c.args.src.now.seen.size c.args.caps.limits.headers (style_of c.args.caps.style)) (search rules);
    }
