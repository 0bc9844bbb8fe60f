-- The bytes that are left take the hash so far to the hash of all.
use Rattle.std.proofs.Common.{◌≡◌, drop, fold}
use Rattle.elf_model.specs.Hash.{hash_byte}
use Rattle.elf_hash.proofs.hash_functions.sysv_hash.Given as goal

abbrev pub invariant-loop-byte : goal.invariant-loop-byte
invariant-loop-byte l = fold hash_byte l.hash (drop l.byte-index l.name) ≡ fold hash_byte 0 l.name
