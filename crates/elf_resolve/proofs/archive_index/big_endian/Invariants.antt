use Rattle.std.proofs.Common.{◌≡◌, ◌<◌, ◌^◌, take}
use Rattle.std.specs.Prelude.{reverse}
use Rattle.elf_model.specs.Bytes.{number}
use Rattle.elf_resolve.proofs.archive_index.big_endian.Given as goal

abbrev pub invariant-loop-byte : goal.invariant-loop-byte
invariant-loop-byte l = (l.number ≡ number (reverse (take l.byte-index l.bytes))) × (l.number < 256 ^ l.byte-index)
