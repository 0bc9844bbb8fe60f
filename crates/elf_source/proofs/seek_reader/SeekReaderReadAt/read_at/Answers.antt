use Rattle.std.proofs.Common.{rules}
use Rattle.elf_source.proofs.seek_reader.SeekReaderReadAt.read_at.Goals as goal

pub returns-in_err-go-clause-bytes : goal.returns-in_err-go-clause-bytes
returns-in_err-go-clause-bytes g c = record {
  there = c.go.new.self.inner;
  stays = search rules;
  seeks = λ away. (c.go.result, c.go.ensures.seeks away, search rules);
  reads = search rules;
}

pub returns-clause-bytes : goal.returns-clause-bytes
returns-clause-bytes g c = record {
  there = c.go.new.self.inner;
  stays = search rules;
  seeks = λ away. (c.go.result, c.go.ensures.seeks away, search rules);
  reads = search rules;
}
