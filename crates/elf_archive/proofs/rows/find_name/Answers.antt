-- The bytes that a name begins with are where it is found.
use Rattle.std.proofs.Common.{Ok, sym, ap, ◌∙◌, arith}
use Rattle.std.proofs.lemmas.Result.{err_from_is_err_and}
use Rattle.elf_archive.specs.NameFronts.{name_of_front}
use Rattle.elf_archive.proofs.MemberLaws.{name-of}
use Rattle.elf_archive.proofs.NameLaws.{found_at}
use Rattle.elf_archive.proofs.rows.find_name.Goals as goal

pub returns-in_err-front : goal.returns-in_err-front
returns-in_err-front c =
    let p = err_from_is_err_and c.from_residual.result c.from_residual.ensures.1 in
    rw (p.1, p.2) (c.in_err-front.ensures.located c.args.file.now (omega arith) (name-of c.args.file.now c.args.header.now c.args.at c.requires.header))

pub returns-in-Some : goal.returns-in-Some
returns-in-Some c =
    let file = c.args.file.now in
    let front = c.in_ok-front.front in
    let located = c.in_ok-front.ensures.located file (omega arith) (name-of file c.args.header.now c.args.at c.requires.header) in
    let told = c.in-Some.ensures in (
      found_at file c.bytes_of.result.now front.form front.at front.size c.in-Some.size _ located c.bytes_of.ensures.bytes told.0 told.2 ∙ ap Ok c.shortened.ensures.0,
      c.shortened.ensures.1,
    )

pub returns-in-None : goal.returns-in-None
returns-in-None c =
    let file = c.args.file.now in
    let located = c.in_ok-front.ensures.located file (omega arith) (name-of file c.args.header.now c.args.at c.requires.header) in
    located ∙ ap (name_of_front c.in_ok-front.front.form 4096) (sym c.bytes_of.ensures.bytes) ∙ c.in-None.ensures
