-- The checks are those of the fields, and the name is read if they pass.
use Rattle.std.proofs.Common.{◌≡◌, ℕ, ◌+◌, ap, sym, ◌∙◌, arith}
use Rattle.std.proofs.lemmas.Result.{err_from_is_err_and}
use Rattle.elf_table.specs.Prelude.{TableRange}
use Rattle.elf_table.specs.declared.fault.Fault.TheVariants.{Refused}
use Rattle.elf_table.proofs.LedgerLaws.{CallDid-as, CallDid-stop, CallDid-then}
use Rattle.elf_note.specs.Reading.{record_position_of}
use Rattle.elf_table.proofs.Absent.{none-of}
use Rattle.elf_note.proofs.WordLaws.{asks-words, asks-name, distance-inside, read-fails, record-checked}
use Rattle.elf_note.proofs.record_reader.read_record.Goals as goal

pub returns-in-Some-clause-did : goal.returns-in-Some-clause-did
returns-in-Some-clause-did g c =
    let h = c.args.held.now in
    let s = c.args.stand.now in
    let at : c.at.result + s.place ≡ h.table.at + s.place = ap (λ (x : ℕ). x + s.place) (c.at.ensures ∙ ap (λ (t : TableRange). t.at) c.table-table.ensures.is) in
    let size : c.len.result ≡ h.table.count = c.len.ensures ∙ ap (λ (t : TableRange). t.count) c.table-table.ensures.is in
    let passes = rw c.in-Some.is at c.refused_words.ensures.passes in
    let checked = rw (at, size) at c.refused_words.ensures.is in
    CallDid-as _ (asks-words h s.kind) (CallDid-stop (Refused c.in-Some.refusal) passes c.in_ok-words.ensures.did)
    (λ file told costs held knows other.
    record-checked file h.table.at h.table.count s c.in_ok-words.words c.requires.has.inside (told held) ∙ sym checked ∙ c.in-Some.is)

pub given-requires : goal.given-requires
given-requires g c =
    let h = c.args.held.now in
    let s = c.args.stand.now in
    let aux = c.in_ok-words.words.aux in
    let at : c.at.result ≡ h.table.at = c.at.ensures ∙ ap (λ (t : TableRange). t.at) c.table-table.ensures.is in
    let size : c.len.result ≡ h.table.count = c.len.ensures ∙ ap (λ (t : TableRange). t.count) c.table-table.ensures.is in
    let passes = rw (none-of c.refused_words.result c.in_default.not-Some) at c.refused_words.ensures.passes in
    let inside = passes.ends in
    omega (arith, at, size, inside, distance-inside s.kind aux, c.table-table.ensures.ends)

pub returns-clause-did : goal.returns-clause-did
returns-clause-did g c =
    let h = c.args.held.now in
    let s = c.args.stand.now in
    let words = c.in_ok-words.words in
    let at : c.at.result + s.place ≡ h.table.at + s.place = ap (λ (x : ℕ). x + s.place) (c.at.ensures ∙ ap (λ (t : TableRange). t.at) c.table-table.ensures.is) in
    let size : c.len.result ≡ h.table.count = c.len.ensures ∙ ap (λ (t : TableRange). t.count) c.table-table.ensures.is in
    let same : c.at-2.result ≡ h.table.at = c.at-2.ensures ∙ ap (λ (t : TableRange). t.at) c.table-table.ensures.is in
    let checked = rw (at, size) at c.refused_words.ensures.is in
    let passes = none-of c.refused_words.result c.in_default.not-Some in
    let leads = rw same at c.behind.ensures.leads in
    CallDid-as _ (asks-name h s.kind) (CallDid-then c.in_ok-words.ensures.did c.in_ok-name.ensures.did)
    (λ file told costs held knows.
    let is_at = told.0 held in
    let there = leads file knows is_at in
    record {
      passes = record-checked file h.table.at h.table.count s words c.requires.has.inside is_at ∙ sym checked ∙ passes;
      is = c.given.ensures.is file h.table.at at is_at (told.1 held is_at);
      leads = there.leads;
      knows = there.knows;
    })

pub returns-clause-fits : goal.returns-clause-fits
returns-clause-fits g c =
    let h = c.args.held.now in
    let s = c.args.stand.now in
    let passes = rw (none-of c.refused_words.result c.in_default.not-Some) at c.refused_words.ensures.passes in
    record {
      number = rw c.given.ensures.number passes.small;
      next = c.behind.ensures.fits h.table.count (omega (arith, c.requires.has.inside)) c.requires.owner;
    }

pub returns-in_err-words : goal.returns-in_err-words
returns-in_err-words g c =
    let h = c.args.held.now in
    let s = c.args.stand.now in
    let p = err_from_is_err_and c.from_residual.result c.from_residual.ensures.1 in
    rw (p.1, p.2)
    (record {
      did = CallDid-as _ (asks-words h s.kind) c.in_err-words.ensures.did
          (λ file told costs held knows. read-fails file h.table.at h.table.count (record_position_of s) _ (told held));
      fits = tt;
    })

pub returns-in_err-name : goal.returns-in_err-name
returns-in_err-name g c =
    let h = c.args.held.now in
    let s = c.args.stand.now in
    let p = err_from_is_err_and c.from_residual-in_err-name.result c.from_residual-in_err-name.ensures.1 in
    rw (p.1, p.2)
    (record {
      did = CallDid-as _ (asks-name h s.kind) (CallDid-then c.in_ok-words.ensures.did c.in_err-name.ensures.did)
          (λ file told costs held knows. read-fails file h.table.at h.table.count (record_position_of s) _ (told.1 held (told.0 held)));
      fits = tt;
    })

pub read_name-requires : goal.read_name-requires
read_name-requires g c =
    let h = c.args.held.now in
    let size : c.len.result ≡ h.table.count = c.len.ensures ∙ ap (λ (t : TableRange). t.count) c.table-table.ensures.is in
    let passes = rw (none-of c.refused_words.result c.in_default.not-Some) at c.refused_words.ensures.passes in
    let same = c.in_ok-words.ensures.did.costs.reads.keeps.same_size in
    record { within = rw same c.requires.has.within; inside = rw size at passes.ends; low = c.requires.has.low }

pub behind-requires : goal.behind-requires
behind-requires g c =
    let at : c.at-2.result ≡ c.args.held.now.table.at = c.at-2.ensures ∙ ap (λ (t : TableRange). t.at) c.table-table.ensures.is in
    let ends = c.table-table.ensures.ends in
    (omega (arith, at, ends, c.requires.has.inside), omega (arith, at, ends, c.requires.owner))
