-- The name of a definition follows it; any other record holds the index itself.
use Rattle.std.proofs.Common.{◌≡◌, ℕ, ◌+◌, ap, ◌∙◌, arith}
use Rattle.std.proofs.lemmas.Result.{err_from_is_err_and}
use Rattle.elf_model.specs.Bytes.{field}
use Rattle.elf_table.proofs.LedgerLaws.{CallDid-as, CallDid-none}
use Rattle.elf_note.specs.Words.{end_of_named_record}
use Rattle.elf_note.proofs.WordLaws.{definition-index, own-index}
use Rattle.elf_note.proofs.record_reader.read_name.Goals as goal

pub overflow_add-place : goal.overflow_add-place
unfolding end_of_named_record
overflow_add-place g c = let inside = rw c.in-Definition.is at c.requires.inside in omega (arith, c.from.ensures, c.requires.low)

pub read-requires-clause-has : goal.read-requires-clause-has
unfolding end_of_named_record
read-requires-clause-has g c = let inside = rw c.in-Definition.is at c.requires.inside in record { within = c.requires.within; inside = omega (arith, c.from.ensures); low = c.requires.low }

pub returns-in_ok-read-in-Definition : goal.returns-in_ok-read-in-Definition
returns-in_ok-read-in-Definition g c =
    let table = c.args.held.now.table.at in
    let place = c.args.stand.now.place in
    rw c.in-Definition.is
    (record {
      did = CallDid-as _ (omega arith) c.in_ok-read-in-Definition.ensures.did
          (λ file told costs held words.
          let there : table + (place + c.from.result) ≡ table + place + c.args.words.now.aux = omega (arith, c.from.ensures) in
          c.word.ensures.is_at file (table + (place + c.from.result)) (told held)
          ∙ ap (λ (x : ℕ). field file x 4) there ∙ definition-index file (table + place) c.args.words.now words);
    })

pub returns-in-File : goal.returns-in-File
returns-in-File g c =
    record {
      did = CallDid-as _ (omega arith) (CallDid-none c.args.src.now)
          (λ file told costs held words.
          own-index file c.args.stand.now.kind (c.args.held.now.table.at + c.args.stand.now.place) c.args.words.now c.in-File.is words);
    }

pub returns-in_err-read-in-Definition : goal.returns-in_err-read-in-Definition
returns-in_err-read-in-Definition g c =
    let p = err_from_is_err_and c.from_residual.result c.from_residual.ensures.1 in
    rw (p.1, p.2, c.in-Definition.is) (record { did = CallDid-as _ (omega arith) c.in_err-read-in-Definition.ensures.did (λ file told costs held words. told held) })
