-- What is held is the file's, and what is not held is read.
use Rattle.std.proofs.Common.{◌≡◌, ◌+◌, length, rules, refl, ◌∙◌, arith}
use Rattle.elf_model.specs.Bytes.{slice}
use Rattle.elf_table.proofs.LedgerLaws.{CallDid-as, CallDid-none, CallDid-of}
use Rattle.elf_note.proofs.HeldBytes.{part-held, read-gives, stop-says}
use Rattle.elf_note.proofs.table_buffer.TableBuffer.read.Goals as goal

pub returns-then-self : goal.returns-then-self
returns-then-self g c =
    let i = c.self.inside in
    let n = length c.args.out.now in
    let copied : c.copy_from_slice.new.self ≡ slice i.bytes c.args.place n = search rules in
    rw (← c.self.view_is)
    (rw c.if-self.true
    (record {
      did = CallDid-as 0 (omega arith) (CallDid-none c.args.src.now)
          (λ file told costs held. copied ∙ part-held file i.bytes i.table.at i.table.count c.args.place n (held refl) (rw (← c.self.view_is) at c.requires.has.inside));
    }))

pub returns : goal.returns
returns g c =
    let i = c.self.inside in
    let n = length c.args.out.now in
    let table : c.at.result ≡ i.table.at = search rules in
    rw (← c.self.view_is)
    (rw c.if-self.false
    (record {
      did = CallDid-of c.fill.ensures.reads (stop-says _ c.fill.result c.fill.ensures.says)
          (λ file h held. read-gives (slice file (i.table.at + c.args.place) n) c.fill.new.out (c.at.result + c.args.place) c.fill.result c.fill.ensures.at (rw table at c.fill.ensures.read file h));
    }))
