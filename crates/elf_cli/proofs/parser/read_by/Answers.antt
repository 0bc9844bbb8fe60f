use Rattle.std.proofs.Common.{map}
use Rattle.elf_cli.proofs.FaultLaws.{read, refused}
use Rattle.elf_cli.proofs.parser.read_by.Goals as goal

pub returns-in-Ok-clause-read : goal.returns-in-Ok-clause-read
returns-in-Ok-clause-read g c = read _ (map g.S.AsStr.text c.args.words.now) c.in-Ok.matches c.requires c.in-Ok.ensures.kinds c.in-Ok.ensures.ok.2

pub returns-in-Err-clause-refused : goal.returns-in-Err-clause-refused
returns-in-Err-clause-refused g c = refused _ (map g.S.AsStr.text c.args.words.now) c.in-Err.error c.into.result c.requires c.in-Err.ensures.kinds c.into.ensures
