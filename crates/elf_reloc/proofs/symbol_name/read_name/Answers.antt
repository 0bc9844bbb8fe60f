-- The name is read if there is one.
use Rattle.std.proofs.Common.{◌∙◌, sym, arith}
use Rattle.elf_model.specs.Explain.{resolved_symbol_name}
use Rattle.elf_table.specs.Tables.{strings_in}
use Rattle.elf_table.proofs.LedgerLaws.{CallDid-as, CallDid-none, CallDid-of}
use Rattle.elf_reloc.proofs.NamingLaws.{fault_tells, named, read_tells, unnamed}
use Rattle.elf_reloc.proofs.symbol_name.read_name.Goals as goal

pub returns-then-off-eq0 : goal.returns-then-off-eq0
returns-then-off-eq0 g c =
    CallDid-as _ (omega arith) (CallDid-none c.args.src.now)
    (λ file none costs. rw c.clear.ensures (unnamed (strings_in file c.args.named.now.names) c.args.named.now.name c.if-off-eq0.true))

pub returns-in-Ok : goal.returns-in-Ok
returns-in-Ok g c =
    CallDid-of c.read.ensures.reads tt
    (λ file held.
    let same = named (strings_in file c.args.named.now.names) c.args.named.now.name c.if-off-eq0.false in
    rw same (read_tells c.args.named.now.at c.in-Ok.end c.read.new.name _ (rw c.from.ensures at (c.in-Ok.ensures.read file held))))

pub returns-in-Err : goal.returns-in-Err
returns-in-Err g c =
    fault_tells c.args.src.now c.read.new.src _ c.args.named.now.at c.read.new.name (λ file. resolved_symbol_name (strings_in file c.args.named.now.names) c.args.named.now.name)
    c.in-Err.fault c.unless_refused.result c.unless_refused.ensures c.read.ensures.reads c.in-Err.ensures.says
    (λ file held.
    let same = named (strings_in file c.args.named.now.names) c.args.named.now.name c.if-off-eq0.false in
    rw same (rw c.from.ensures at (c.in-Err.ensures.read file held)))
