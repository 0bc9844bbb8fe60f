use Rattle.std.proofs.Common.{Err, length, ◌∙◌, arith}
use Rattle.std.proofs.lemmas.Result.{err_from_is_err_and}
use Rattle.elf_archive.proofs.AskLaws.{CountsRead-then, CountsRead-to}
use Rattle.elf_archive.proofs.NameLaws.{two_reads}
use Rattle.elf_archive.proofs.names.read_front.Goals as goal

pub returns-clause-read : goal.returns-clause-read
returns-clause-read g c = λ file held.
    let sizes = c.split_at_mut-first.ensures in
    two_reads c.fill-3.result file c.fill-2.new.out c.fill-3.new.out c.args.at _ _ (length c.args.out.now) sizes.front_len (omega (arith, sizes.front_len, sizes.back_len))
    (c.in_ok-fill.ensures.read file held) (c.fill-3.ensures.read file (c.fill-2.ensures.reads.keeps.same_file ∙ held))

pub returns-in_err-fill-clause-asks : goal.returns-in_err-fill-clause-asks
returns-in_err-fill-clause-asks g c =
    let p = err_from_is_err_and c.from_residual.result c.from_residual.ensures.1 in
    let sizes = c.split_at_mut-first.ensures in
    rw (p.1, p.2) (CountsRead-to {X = Unit {0}} _ _ (Err c.in_err-fill.field-0.0) _ (length c.args.out.now) (omega (arith, sizes.front_len, sizes.back_len)) (c.in_err-fill.ensures.reads, c.in_err-fill.ensures.says))

pub returns-clause-asks : goal.returns-clause-asks
returns-clause-asks g c =
    let sizes = c.split_at_mut-first.ensures in
    CountsRead-then _ _ _ c.fill-3.result _ _ (length c.args.out.now) (omega (arith, sizes.front_len, sizes.back_len)) c.in_ok-fill.ensures.reads (c.fill-3.ensures.reads, c.fill-3.ensures.says)
