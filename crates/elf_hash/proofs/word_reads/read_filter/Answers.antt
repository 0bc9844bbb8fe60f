-- The eight bytes are the field of the file.
use Rattle.elf_table.proofs.LedgerLaws.{CallDid-of}
use Rattle.elf_hash.proofs.WalkLaws.{filter_read}
use Rattle.elf_hash.proofs.word_reads.read_filter.Goals as goal

pub returns : goal.returns
returns g c = CallDid-of c.fill.ensures.reads tt (λ file held. filter_read file c.args.at _ _ c.u64_at.ensures (c.in_ok-fill.ensures.read file held))
