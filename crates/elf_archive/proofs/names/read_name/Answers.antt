-- The bytes that a name begins with are those of its field, or are read.
use Rattle.std.proofs.Common.{take, refl, ap, ◌∙◌, arith}
use Rattle.elf_source.proofs.ReadsLaws.{ReadsUpTo-none}
use Rattle.elf_archive.specs.NameFronts.{name_of_front}
use Rattle.elf_archive.proofs.AskLaws.{CountsRead-to}
use Rattle.elf_archive.proofs.MemberLaws.{name-of}
use Rattle.elf_archive.proofs.NameLaws.{field_is, lies_in, read_cost}
use Rattle.elf_archive.proofs.names.read_name.Goals as goal

pub returns-in-Err-clause-asks : goal.returns-in-Err-clause-asks
returns-in-Err-clause-asks g c = rw (c.refused.ensures, c.in-Err.ensures.outside) (ReadsUpTo-none _ _, λ budget. cc)

pub returns-in-Err-clause-read : goal.returns-in-Err-clause-read
returns-in-Err-clause-read g c = λ file held is.
    let located = c.in-Err.ensures.located file (omega (arith, c.args.src.now.seen.sized file held, c.requires.names.small)) (name-of file c.args.header.now c.args.at is) in
    rw c.refused.ensures (λ other. (refl, located))

pub read_elsewhere-requires : goal.read_elsewhere-requires
read_elsewhere-requires g c =
    let front = c.in-Ok.ensures.front in
    let size = c.args.src.now.seen.size in
    record {
      few = (front.most, front.few);
      within = (c.requires.names.small, lies_in c.in-Ok.front.form size c.args.names c.in-Ok.front.at c.in-Ok.front.size (front.lies size c.requires.front) c.requires.names);
    }

pub returns-in-Field-clause-read : goal.returns-in-Field-clause-read
returns-in-Field-clause-read g c = λ file held is.
    let field = name-of file c.args.header.now c.args.at is in
    let located = c.in-Ok.ensures.located file (omega (arith, c.args.src.now.seen.sized file held, c.requires.names.small)) field in
    let whole = rw c.in-Field.is at c.in-Ok.ensures.front.whole in
    let same = field_is file (take 16 c.args.header.now) c.args.at c.in-Ok.front.at c.in-Ok.front.size field whole.0 whole.1 in
    rw (located ∙ ap (name_of_front c.in-Ok.front.form c.args.cap.bytes) same) c.put_named.ensures.named

pub returns-in-Data : goal.returns-in-Data
returns-in-Data g c =
    let front = c.in-Ok.ensures.front in
    let cost = read_cost c.in-Ok.front.form c.in-Ok.front.size c.in-Data.is in
    record {
      asks = CountsRead-to _ _ c.read_elsewhere.result _ _ (omega (arith, cost, front.cost)) c.read_elsewhere.ensures.asks;
      read = λ file held is.
          let located = c.in-Ok.ensures.located file (omega (arith, c.args.src.now.seen.sized file held, c.requires.names.small)) (name-of file c.args.header.now c.args.at is) in
          rw located (c.read_elsewhere.ensures.read file held);
    }
