-- The versym entry is read, if there is one.
use Rattle.std.proofs.Common.{ap, sym, Ok, ◌∙◌, arith}
use Rattle.elf_table.proofs.LedgerLaws.{CallDid-as, CallDid-none, CallDid-stop}
use Rattle.elf_table.specs.declared.fault.Fault.TheVariants.{Refused}
use Rattle.elf_model.specs.declared.causes.Cause.TheVariants.{VersionCut}
use Rattle.elf_table.proofs.Absent.{none-of}
use Rattle.elf_loader.specs.NumberSets.{has_number}
use Rattle.elf_options.specs.Wants.{asked_of}
use Rattle.elf_loader.proofs.AnswerLaws.{fits-cut, fits-none, fits-word}
use Rattle.elf_loader.proofs.version_match.version_fits.Goals as goal

pub returns-in_default : goal.returns-in_default
returns-in_default g c =
    let none = none-of c.args.words.now c.in_default.not-Some in
    CallDid-as _ (omega arith) (CallDid-none c.args.src.now)
    (λ file read costs told are. (fits-none file told (asked_of c.args.asked.now) (has_number c.args.numbers.now) c.args.index (rw none at are), rw none tt))

pub returns-then-index-len : goal.returns-then-index-len
returns-then-index-len g c =
    rw c.refused.ensures
    (CallDid-as _ (omega arith) (CallDid-stop (Refused (record { at = c.in-Some.words.head; cause = VersionCut })) (λ budget. cc) (CallDid-none c.args.src.now))
    (λ file read costs told are other.
    fits-cut file told c.in-Some.words (asked_of c.args.asked.now) (has_number c.args.numbers.now) c.args.index (rw c.in-Some.is at are) (omega (arith, c.len.ensures, c.if-index-len.true))))

pub returns : goal.returns
returns g c =
    let place = c.place-at.ensures in
    CallDid-as _ (omega arith) c.in_ok-word.ensures
    (λ file read costs told are. (
      fits-word file told c.in-Some.words (asked_of c.args.asked.now) (has_number c.args.numbers.now) c.args.index c.in_ok-word.word (rw c.in-Some.is at are) c.in-Some.words.entry
          (omega (arith, c.len.ensures, c.if-index-len.false)) (rw place at read) ∙ ap Ok (sym c.fits.ensures),
      rw c.in-Some.is (place, rw place at read),
    ))
