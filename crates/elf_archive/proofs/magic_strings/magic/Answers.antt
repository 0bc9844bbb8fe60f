use Rattle.std.proofs.Common.{sym, ◌∙◌, arith}
use Rattle.elf_archive.proofs.MagicLaws.{magic-of, is-thin, is-other, is-archive, length-passes}
use Rattle.elf_archive.proofs.magic_strings.magic.Goals as goal

pub returns-then-magic-eq-THIN_MAGIC-clause-read : goal.returns-then-magic-eq-THIN_MAGIC-clause-read
returns-then-magic-eq-THIN_MAGIC-clause-read g c = λ file held.
    let sized = c.args.src.now.seen.sized file held in
    let same = magic-of file c.fill.new.out (c.in_ok-fill.ensures.read file held) in
    rw c.refused-then-magic-eq-THIN_MAGIC.ensures
    (λ other. is-thin file (omega (arith, sized)) (omega (arith, sized)) (sym same ∙ (sym c.u64_at-magic.ensures ∙ c.if-magic-eq-THIN_MAGIC.true)))

pub returns-then-magic-ne-ARCHIVE_MAGIC-clause-read : goal.returns-then-magic-ne-ARCHIVE_MAGIC-clause-read
returns-then-magic-ne-ARCHIVE_MAGIC-clause-read g c = λ file held.
    let sized = c.args.src.now.seen.sized file held in
    let same = magic-of file c.fill.new.out (c.in_ok-fill.ensures.read file held) in
    let is = c.u64_at-magic.ensures ∙ same in
    rw c.refused-then-magic-ne-ARCHIVE_MAGIC.ensures
    (λ other. is-other file (omega (arith, sized)) (omega (arith, sized)) (λ e. c.if-magic-eq-THIN_MAGIC.false (is ∙ e)) (λ e. c.if-magic-ne-ARCHIVE_MAGIC.true (is ∙ e)))

pub returns-clause-read : goal.returns-clause-read
returns-clause-read g c = λ file held.
    let sized = c.args.src.now.seen.sized file held in
    let same = magic-of file c.fill.new.out (c.in_ok-fill.ensures.read file held) in
    is-archive file (omega (arith, sized)) (omega (arith, sized)) (sym same ∙ (sym c.u64_at-magic.ensures ∙ c.if-magic-ne-ARCHIVE_MAGIC.false))

pub returns-in_err-fill-clause-unread : goal.returns-in_err-fill-clause-unread
returns-in_err-fill-clause-unread g c = λ refusal is. absurd (length-passes c.args.src.now.seen.size refusal (omega arith) (omega arith) is)

pub returns-then-magic-eq-THIN_MAGIC-clause-unread : goal.returns-then-magic-eq-THIN_MAGIC-clause-unread
returns-then-magic-eq-THIN_MAGIC-clause-unread g c = λ refusal is. absurd (length-passes c.args.src.now.seen.size refusal (omega arith) (omega arith) is)

pub returns-then-magic-ne-ARCHIVE_MAGIC-clause-unread : goal.returns-then-magic-ne-ARCHIVE_MAGIC-clause-unread
returns-then-magic-ne-ARCHIVE_MAGIC-clause-unread g c = λ refusal is. absurd (length-passes c.args.src.now.seen.size refusal (omega arith) (omega arith) is)

pub returns-clause-unread : goal.returns-clause-unread
returns-clause-unread g c = λ refusal is. absurd (length-passes c.args.src.now.seen.size refusal (omega arith) (omega arith) is)

pub returns-then-magic-eq-THIN_MAGIC-clause-size : goal.returns-then-magic-eq-THIN_MAGIC-clause-size
returns-then-magic-eq-THIN_MAGIC-clause-size g c = rw c.refused-then-magic-eq-THIN_MAGIC.ensures tt

pub returns-then-magic-ne-ARCHIVE_MAGIC-clause-size : goal.returns-then-magic-ne-ARCHIVE_MAGIC-clause-size
returns-then-magic-ne-ARCHIVE_MAGIC-clause-size g c = rw c.refused-then-magic-ne-ARCHIVE_MAGIC.ensures tt
