-- The line of a path, and the listing after it.
use Rattle.std.proofs.Common.{rules, ◌≡◌, true, false, ap, refl, ◌∙◌}
use Rattle.std.specs.Prelude.{map}
use Rattle.std.proofs.lemmas.Result.{err_from_is_err_and}
use Rattle.elf_model.specs.Prelude.{EveryRow, RowsOf, path_line, wanted_text}
use Rattle.elf_options.specs.Prelude.{style_of, texts_of}
use Rattle.elf_source.specs.Source.{SourceState}
use Rattle.elf_walk.proofs.HeadedLaws.{every_headed, held_headed, line_begun, line_unheld, path_stops}
use Rattle.elf_walk.proofs.headed.list_with_path_line.Goals as goal

pub returns-in_err-show_path-clause-lists : goal.returns-in_err-show_path-clause-lists
returns-in_err-show_path-clause-lists g c = λ file held.
    let p = err_from_is_err_and c.from_residual.result c.from_residual.ensures.1 in
    let by_name : c.args.rule.now.caps.style.choice.by_name ≡ false = search rules in
    let every : (style_of c.args.rule.now.caps.style).choice ≡ EveryRow = rw by_name refl in
    let line = path_line c.args.rule.now.caps.style.format c.args.path.now in
    rw (p.1, p.2) (path_stops c.args.sort line file c.args.rule.now.caps.limits (style_of c.args.rule.now.caps.style) c.args.rule.now.parts.0 c.args.out.now c.show_path.new.out c.in_err-show_path.field-0.0
    (line_begun line (style_of c.args.rule.now.caps.style).choice c.args.out.now c.show_path.new.out every c.in_err-show_path.ensures.puts.0))

pub returns-then-not-rule-clause-lists : goal.returns-then-not-rule-clause-lists
returns-then-not-rule-clause-lists g c = λ file held.
    let now = ap (λ (seen : SourceState). seen.file) c.limit.ensures.seen ∙ held in
    let by_name : c.args.rule.now.caps.style.choice.by_name ≡ false = search rules in
    let every : (style_of c.args.rule.now.caps.style).choice ≡ EveryRow = rw by_name refl in
    every_headed _ _ file _ _ _ _ c.show_path.new.out _ _ every c.in_ok-show_path.ensures.puts.0 (c.list_by_type.ensures.lists file now)

pub returns-in_err-line-clause-lists : goal.returns-in_err-line-clause-lists
returns-in_err-line-clause-lists g c = λ file held.
    let p = err_from_is_err_and c.from_residual-in_err-line.result c.from_residual-in_err-line.ensures.1 in
    let line = path_line c.args.rule.now.caps.style.format c.args.path.now in
    rw (p.1, p.2) (path_stops c.args.sort line file c.args.rule.now.caps.limits (style_of c.args.rule.now.caps.style) c.args.rule.now.parts.0 c.args.out.now c.defer_path_line.new.out c.in_err-line.field-0.0
    (line_unheld line (style_of c.args.rule.now.caps.style).choice c.args.out.now c.defer_path_line.new.out c.in_err-line.field-0.0 c.in_err-line.ensures.holds))

pub returns-clause-lists : goal.returns-clause-lists
returns-clause-lists g c = λ file held.
    let now = ap (λ (seen : SourceState). seen.file) c.limit.ensures.seen ∙ held in
    let by_name : c.args.rule.now.caps.style.choice.by_name ≡ true = search rules in
    let names = map (wanted_text c.args.rule.now.caps.style.choice.versions) (texts_of c.args.rule.now.caps.style.choice.texts.now) in
    let named : (style_of c.args.rule.now.caps.style).choice ≡ RowsOf names = rw by_name refl in
    let line = path_line c.args.rule.now.caps.style.format c.args.path.now in
    held_headed c.args.out.now c.defer_path_line.new.out c.list_by_type-listed.new.out c.end_listed.new.out line c.in_ok-line.line c.in_ok-line.ensures.holds c.end_listed.ensures.line c.args.sort file
    c.args.rule.now.caps.limits (style_of c.args.rule.now.caps.style) c.args.rule.now.parts.0 names c.list_by_type-listed.result c.end_listed.result named c.end_listed.ensures.listed (c.list_by_type-listed.ensures.lists file now)
