use Rattle.std.proofs.Common.{◌≡◌, ◌<◌, ◌^◌, drop}
use Rattle.elf_model.specs.Archive.{parse_padded_decimal}
use Rattle.elf_archive.proofs.fields.parse_padded_decimal.Given as goal

abbrev pub invariant-loop-place : goal.invariant-loop-place
invariant-loop-place l = record {
  same : parse_padded_decimal l.number (drop l.place l.field) ≡ parse_padded_decimal 0 l.field;
  small : l.number < 10 ^ l.place;
}
