use Rattle.std.proofs.Common.{true, false, [], ◌∷◌, refl, ap, ◌∙◌, sym}
use Rattle.std.proofs.lemmas.Result.{err_from_is_err_and}
use Rattle.elf_model.specs.LinkArchives.{refusal_of}
use Rattle.elf_model.specs.LinkSymbols.{groups_at, is_link_once}
use Rattle.elf_model.specs.Records.{section_at}
use Rattle.elf_resolve.specs.declared.section_groups.Dropped.TheVariants.{Nothing, Section}
use Rattle.elf_resolve.proofs.LinkFaultLaws.{fault_of_any}
use Rattle.elf_resolve.proofs.SectionTakenLaws.{once_fault, once_is, took_none, took_one}
use Rattle.elf_resolve.proofs.section_groups.take_link_once.Goals as goal

pub returns-in_err-name : goal.returns-in_err-name
returns-in_err-name c = λ file viewed held kind.
    let p = err_from_is_err_and c.from_residual.result c.from_residual.ensures.1 in
    rw (p.1, p.2) (once_fault file c.args.strings.now.bytes c.args.section c.in_err-name.field-0.0 kind (c.in_err-name.ensures file viewed held))

pub returns-then-not-is_link_once : goal.returns-then-not-is_link_once
returns-then-not-is_link_once c = λ file viewed held kind.
    let at = section_at file c.args.section in
    let f = c.in_ok-name.ensures file viewed held in
    let test = ap (is_link_once file at) (sym (c.bytes-text.ensures f.0 f.2)) ∙ sym (c.is_link_once.ensures file at (c.section.ensures.is_at file viewed)) ∙ c.if-not-is_link_once.true in
    took_none file c.args.section c.args.keys.now c.args.strings.now.bytes (once_is file c.args.section f.0 _ kind f.1 test)

pub returns-in-Ok-true : goal.returns-in-Ok-true
returns-in-Ok-true c = λ file viewed held kind.
    let at = section_at file c.args.section in
    let f = c.in_ok-name.ensures file viewed held in
    let same = c.bytes-text.ensures f.0 f.2 in
    let test = ap (is_link_once file at) (sym same) ∙ sym (c.is_link_once.ensures file at (c.section.ensures.is_at file viewed)) ∙ c.if-not-is_link_once.false in
    took_one file c.args.section c.args.keys.now c.drop_group.new.self c.args.strings.now.bytes Section (record { signature = f.0; is_link_once = true; sections = c.args.section ∷ [] }) true
    (once_is file c.args.section f.0 _ kind f.1 test) (rw c.in-Ok-true.field-0-test at (rw same at c.in-Ok-true.ensures)) refl

pub returns-in-Ok-false : goal.returns-in-Ok-false
returns-in-Ok-false c = λ file viewed held kind.
    let at = section_at file c.args.section in
    let f = c.in_ok-name.ensures file viewed held in
    let same = c.bytes-text.ensures f.0 f.2 in
    let test = ap (is_link_once file at) (sym same) ∙ sym (c.is_link_once.ensures file at (c.section.ensures.is_at file viewed)) ∙ c.if-not-is_link_once.false in
    took_one file c.args.section c.args.keys.now c.drop_group.new.self c.args.strings.now.bytes Nothing (record { signature = f.0; is_link_once = true; sections = c.args.section ∷ [] }) false
    (once_is file c.args.section f.0 _ kind f.1 test) (rw c.in-Ok-false.field-0-test at (rw same at c.in-Ok-false.ensures)) refl

pub returns-in-Err : goal.returns-in-Err
returns-in-Err c = λ file viewed held kind. fault_of_any (refusal_of (groups_at file c.args.section)) c.full.result c.full.ensures.limit
