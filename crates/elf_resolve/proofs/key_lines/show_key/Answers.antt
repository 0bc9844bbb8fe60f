use Rattle.std.proofs.Common.{Err}
use Rattle.std.specs.List.{concat}
use Rattle.std.proofs.lemmas.Result.{err_from_is_err_and}
use Rattle.elf_resolve.specs.KeyLines.{lines_found}
use Rattle.elf_resolve.specs.Resolved.{linking_of}
use Rattle.elf_resolve.proofs.KeyShownLaws.{key_text, writes_as, writes_first, writes_then}
use Rattle.elf_resolve.proofs.key_lines.show_key.Goals as goal

pub returns-in_err-show_key_line : goal.returns-in_err-show_key_line
returns-in_err-show_key_line g c =
    let p = err_from_is_err_and c.from_residual.result c.from_residual.ensures.1 in
    let fault = c.in_err-show_key_line.field-0.0 in
    rw (p.1, p.2)
    (record {
      writes = λ listed held found.
          writes_as {X = Unit {0}} c.args.out.now c.show_key_line.new.out (Err fault) _ _
          (key_text g.R.Render.FORMAT c.args.link.now c.args.key c.args.entry.now c.args.state listed held found _ _ _ _ c.word.ensures.word c.definer.ensures c.referrer.ensures c.name-name.ensures)
          (writes_first _ (concat (lines_found g.R.Render.FORMAT (linking_of c.args.link.now) c.name-name.result.now c.args.key c.args.state)) fault c.in_err-show_key_line.ensures.puts);
    })

pub returns : goal.returns
returns g c = record {
  writes = λ listed held found.
      writes_as c.args.out.now c.show_after.new.out c.show_after.result _ _
      (key_text g.R.Render.FORMAT c.args.link.now c.args.key c.args.entry.now c.args.state listed held found _ _ _ _ c.word.ensures.word c.definer.ensures c.referrer.ensures c.name-name.ensures)
      (writes_then c.show_after.new.out _ (concat (lines_found g.R.Render.FORMAT (linking_of c.args.link.now) c.name-name.result.now c.args.key c.args.state)) c.show_after.result c.in_ok-show_key_line.ensures.puts.0 (c.show_after.ensures.writes listed));
}
