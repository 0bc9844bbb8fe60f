-- The file is too short, or its first bytes are read.
use Rattle.std.proofs.Common.{◌∙◌, arith}
use Rattle.elf_table.proofs.LedgerLaws.{CallDid-of, CallReads-more, CallReads-none}
use Rattle.elf_library.proofs.MachineLaws.{front_is, short_is}
use Rattle.elf_library.proofs.link_reader.machine_of.Goals as goal

pub returns-then-length : goal.returns-then-length
returns-then-length g c = record {
  costs = CallReads-more 20 (omega arith) (CallReads-none c.args.src.now);
  known = λ file held. short_is file (omega (arith, c.args.src.now.seen.sized file held, c.length.ensures.value, c.if-length.true));
}

pub returns : goal.returns
returns g c =
    CallDid-of c.fill.ensures.reads tt
    (λ file held.
    c.machine_by.ensures
    ∙ front_is file _ (c.in_ok-fill.ensures.read file held) (omega (arith, c.args.src.now.seen.sized file held, c.length.ensures.value, c.if-length.false)))
