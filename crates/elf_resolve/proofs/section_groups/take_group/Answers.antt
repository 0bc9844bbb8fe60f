use Rattle.std.proofs.Common.{true, false, refl, ap, ◌∙◌, sym}
use Rattle.std.proofs.lemmas.Result.{err_from_is_err_and}
use Rattle.elf_model.specs.Records.{section_at}
use Rattle.elf_model.specs.Tables.{section_bytes}
use Rattle.elf_source.proofs.ReadsLaws.{KeepsSource-then}
use Rattle.elf_resolve.specs.SectionGroups.{sections_of_words}
use Rattle.elf_resolve.specs.declared.section_groups.Dropped.TheVariants.{Nothing, Words}
use Rattle.elf_resolve.proofs.SectionTakenLaws.{group_fault, group_none, group_one, signature_fault, tables_kept, took_none, took_one, words_held}
use Rattle.elf_resolve.proofs.StringBufferLaws.{holds_kept, kept_then}
use Rattle.elf_resolve.proofs.section_groups.take_group.Goals as goal

pub returns-in_err-group-clause-takes : goal.returns-in_err-group-clause-takes
returns-in_err-group-clause-takes g c = λ file known viewed held kind.
    let p = err_from_is_err_and c.from_residual.result c.from_residual.ensures.1 in
    rw (p.1, p.2) (group_fault file c.args.section c.in_err-group.field-0.0 kind (c.in_err-group.ensures file viewed))

pub returns-then-not-is_comdat-clause-takes : goal.returns-then-not-is_comdat-clause-takes
returns-then-not-is_comdat-clause-takes g c = λ file known viewed held kind.
    let at = section_at file c.args.section in
    let found = c.in_ok-group.ensures file viewed in
    let words = words_held file at c.in_ok-group.group c.args.strings.now c.read.new.self c.in_ok-words.words found (c.in_ok-words.ensures.reads file known) in
    let bytes = c.bytes.ensures (section_bytes file at) words in
    took_none file c.args.section c.args.keys.now c.read.new.self.bytes
    (group_none file c.args.section c.in_ok-group.group c.bytes.result.now kind found bytes (sym c.is_comdat.ensures ∙ c.if-not-is_comdat.true))

pub returns-in_err-name-clause-takes : goal.returns-in_err-name-clause-takes
returns-in_err-name-clause-takes g c = λ file known viewed held kind.
    let at = section_at file c.args.section in
    let found = c.in_ok-group.ensures file viewed in
    let words = words_held file at c.in_ok-group.group c.args.strings.now c.read.new.self c.in_ok-words.words found (c.in_ok-words.ensures.reads file known) in
    let bytes = c.bytes.ensures (section_bytes file at) words in
    let there = c.read.ensures.keeps.same_file ∙ known in
    let tables = tables_kept file c.args.strings.now.bytes c.read.new.self.bytes c.args.tables c.read.ensures.stays.first held in
    let p = err_from_is_err_and c.from_residual-in_err-name.result c.from_residual-in_err-name.ensures.1 in
    rw (p.1, p.2) (signature_fault file c.args.section c.in_ok-group.group c.bytes.result.now c.in_err-name.field-0.0 kind found bytes
    (sym c.is_comdat.ensures ∙ c.if-not-is_comdat.false) (c.in_err-name.ensures.signs file at there viewed tables found))

pub returns-in-Ok-true-clause-takes : goal.returns-in-Ok-true-clause-takes
returns-in-Ok-true-clause-takes g c = λ file known viewed held kind.
    let at = section_at file c.args.section in
    let found = c.in_ok-group.ensures file viewed in
    let words = words_held file at c.in_ok-group.group c.args.strings.now c.read.new.self c.in_ok-words.words found (c.in_ok-words.ensures.reads file known) in
    let bytes = c.bytes.ensures (section_bytes file at) words in
    let there = c.read.ensures.keeps.same_file ∙ known in
    let tables = tables_kept file c.args.strings.now.bytes c.read.new.self.bytes c.args.tables c.read.ensures.stays.first held in
    let signed = c.in_ok-name.ensures.signs file at there viewed tables found in
    let same = c.bytes-2.ensures signed.0 signed.2 in
    let kept = rw c.in-Ok-true.field-0-test at (rw same at c.in-Ok-true.ensures) in
    took_one file c.args.section c.args.keys.now c.drop_group.new.self c.signature.new.strings.bytes (Words c.in_ok-words.words)
    (record { signature = signed.0; is_link_once = false; sections = sections_of_words c.bytes.result.now }) true
    (group_one file c.args.section c.in_ok-group.group c.bytes.result.now signed.0 kind found bytes (sym c.is_comdat.ensures ∙ c.if-not-is_comdat.false) signed.1)
    kept (section_bytes file at, holds_kept c.read.new.self.bytes c.signature.new.strings.bytes c.in_ok-words.words _ c.signature.ensures.stays.first words, ap sections_of_words bytes)

pub returns-in-Ok-false-clause-takes : goal.returns-in-Ok-false-clause-takes
returns-in-Ok-false-clause-takes g c = λ file known viewed held kind.
    let at = section_at file c.args.section in
    let found = c.in_ok-group.ensures file viewed in
    let words = words_held file at c.in_ok-group.group c.args.strings.now c.read.new.self c.in_ok-words.words found (c.in_ok-words.ensures.reads file known) in
    let bytes = c.bytes.ensures (section_bytes file at) words in
    let there = c.read.ensures.keeps.same_file ∙ known in
    let tables = tables_kept file c.args.strings.now.bytes c.read.new.self.bytes c.args.tables c.read.ensures.stays.first held in
    let signed = c.in_ok-name.ensures.signs file at there viewed tables found in
    let same = c.bytes-2.ensures signed.0 signed.2 in
    let kept = rw c.in-Ok-false.field-0-test at (rw same at c.in-Ok-false.ensures) in
    took_one file c.args.section c.args.keys.now c.drop_group.new.self c.signature.new.strings.bytes Nothing
    (record { signature = signed.0; is_link_once = false; sections = sections_of_words c.bytes.result.now }) false
    (group_one file c.args.section c.in_ok-group.group c.bytes.result.now signed.0 kind found bytes (sym c.is_comdat.ensures ∙ c.if-not-is_comdat.false) signed.1)
    kept refl

pub returns-in_err-name-clause-keeps : goal.returns-in_err-name-clause-keeps
returns-in_err-name-clause-keeps g c = KeepsSource-then c.read.ensures.keeps c.signature.ensures.keeps

pub returns-in_err-name-clause-stays : goal.returns-in_err-name-clause-stays
returns-in_err-name-clause-stays g c = kept_then c.read.ensures.stays c.signature.ensures.stays

pub returns-in-Ok-true-clause-keeps : goal.returns-in-Ok-true-clause-keeps
returns-in-Ok-true-clause-keeps g c = KeepsSource-then c.read.ensures.keeps c.signature.ensures.keeps

pub returns-in-Ok-true-clause-stays : goal.returns-in-Ok-true-clause-stays
returns-in-Ok-true-clause-stays g c = kept_then c.read.ensures.stays c.signature.ensures.stays

pub returns-in-Ok-false-clause-keeps : goal.returns-in-Ok-false-clause-keeps
returns-in-Ok-false-clause-keeps g c = KeepsSource-then c.read.ensures.keeps c.signature.ensures.keeps

pub returns-in-Ok-false-clause-stays : goal.returns-in-Ok-false-clause-stays
returns-in-Ok-false-clause-stays g c = kept_then c.read.ensures.stays c.signature.ensures.stays

pub returns-in-Err-clause-keeps : goal.returns-in-Err-clause-keeps
returns-in-Err-clause-keeps g c = KeepsSource-then c.read.ensures.keeps c.signature.ensures.keeps

pub returns-in-Err-clause-stays : goal.returns-in-Err-clause-stays
returns-in-Err-clause-stays g c = kept_then c.read.ensures.stays c.signature.ensures.stays
