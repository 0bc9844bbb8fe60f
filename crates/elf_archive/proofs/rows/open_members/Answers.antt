-- A source in memory gives the file.
use Rattle.std.proofs.Common.{◌≡◌, Some, Err, refl, ap, ◌∙◌}
use Rattle.elf_source.specs.Source.{SourceState}
use Rattle.elf_table.specs.declared.fault.Fault.TheVariants.{Refused}
use Rattle.elf_archive.proofs.RowLaws.{refused_magic}
use Rattle.elf_archive.proofs.rows.open_members.Goals as goal

pub returns-in-Ok : goal.returns-in-Ok
returns-in-Ok c =
    let known = ap (λ (s : SourceState). s.file) c.new-src.ensures.seen ∙ ap Some c.new.ensures in
    (c.in-Ok.ensures.read c.args.file.now known, refl, refl, refl)

pub returns-in-Err-Refused : goal.returns-in-Err-Refused
returns-in-Err-Refused c =
    let known = ap (λ (s : SourceState). s.file) c.new-src.ensures.seen ∙ ap Some c.new.ensures in
    let one : c.magic-read.result ≡ Err c.in-Err-Refused.field-0 = c.in-Err-Refused.is in
    let two : c.in-Err-Refused.field-0 ≡ Refused c.in-Err-Refused.refusal = rw one at c.in-Err-Refused.field-0-is in
    let is : c.magic-read.result ≡ Err (Refused c.in-Err-Refused.refusal) = one ∙ ap Err two in
    refused_magic c.args.file.now _ _ 8 c.in-Err-Refused.refusal c.magic-read.result c.new-src.ensures.free is c.magic-read.ensures.asks.1 (c.magic-read.ensures.read c.args.file.now known)
