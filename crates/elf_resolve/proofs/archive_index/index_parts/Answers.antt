use Rattle.std.proofs.Common.{inr, sym, ap, ◌∙◌}
use Rattle.std.proofs.lemmas.Result.{err_from_is_err_and}
use Rattle.elf_archive.specs.Members.{extent_of}
use Rattle.elf_model.specs.LinkArchives.{refusal_of}
use Rattle.elf_resolve.proofs.IndexLaws.{width_of_header}
use Rattle.elf_resolve.proofs.IndexParts.{cut_first, found_index, no_index}
use Rattle.elf_resolve.proofs.MemberWalks.{data_within_file}
use Rattle.elf_resolve.proofs.archive_index.index_parts.Goals as goal

pub returns-in_err-extent-clause-finds : goal.returns-in_err-extent-clause-finds
returns-in_err-extent-clause-finds g c = λ file held.
    let p = err_from_is_err_and c.from_residual.result c.from_residual.ensures.1 in
    rw (p.1, p.2) (cut_first file c.args.strings.now.bytes c.in_err-extent.field-0.0 (c.in_err-extent.ensures.reads file held))

pub returns-in-Some-clause-finds : goal.returns-in-Some-clause-finds
returns-in-Some-clause-finds g c = λ file held.
    let head = c.in_ok-extent.ensures.reads file held in
    let now = c.in_ok-extent.ensures.keeps.same_file ∙ held in
    let within = data_within_file file 8 (extent_of c.in_ok-extent.extent) head.data_are in
    let width = sym (width_of_header file c.read_header_at.new.header head.bytes) ∙ sym c.in-Some.ensures.width in
    found_index file c.read_parts.new.strings.bytes c.in-Some.width (extent_of c.in_ok-extent.extent) c.read_parts.result head.data_are width
    (λ members. c.read_parts.ensures.finds file members now within c.in_ok-extent.ensures.lies.1)

pub returns-in-None-clause-finds : goal.returns-in-None-clause-finds
returns-in-None-clause-finds g c = λ file held.
    let head = c.in_ok-extent.ensures.reads file held in
    let none = sym (width_of_header file c.read_header_at.new.header head.bytes) ∙ sym c.in-None.ensures.width in
    rw c.refused.ensures (λ first rest are small. inr (ap refusal_of (no_index file first rest none)))
