use Rattle.std.proofs.Common.{ap, refl, sym, subst, Err, IfErr, ◌∙◌}
use Rattle.std.proofs.lemmas.Result.{err_from_is_err_and}
use Rattle.clap.specs.Walk.{texts}
use Rattle.elf_model.specs.Placing.{no_items}
use Rattle.elf_requests.specs.Layouts.{LaysWords}
use Rattle.elf_requests.proofs.LayoutLaws.{put_at, refused_at}
use Rattle.elf_requests.proofs.items.lay.Goals as goal

pub returns-in_err-put-clause-refused : goal.returns-in_err-put-clause-refused
returns-in_err-put-clause-refused c =
    let told = err_from_is_err_and c.from_residual.result c.from_residual.ensures.1 in
    subst (λ r. IfErr r (λ fault. LaysWords no_items (texts c.args.words.now) (Err fault))) (sym (told.1 ∙ ap (λ fault. Err fault) told.2))
    (c.loop-word.invariant (Err c.in_err-put.field-0.0) (refused_at c.args.words.now c.loop-word.word-index _ c.loop-word.layout c.in_err-put.field-0.0 _
    c.loop-word-test.true c.in_err-put.ensures.refused refl))

pub loop-word-preserved : goal.loop-word-preserved
loop-word-preserved c = λ result lays.
    c.loop-word.invariant result (put_at c.args.words.now c.loop-word.word-index _ c.loop-word.layout _ result
    c.loop-word-test.true c.in_ok-put.ensures.put lays)
