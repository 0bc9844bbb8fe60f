-- A field of one byte is that byte.
use Rattle.std.proofs.Common.{sym}
use Rattle.elf_record.proofs.FieldReads.{byte_read}
use Rattle.elf_library.proofs.link_reader.byte_at.Goals as goal

pub returns : goal.returns
returns c = sym (byte_read c.args.bytes.now c.args.place c.requires)
