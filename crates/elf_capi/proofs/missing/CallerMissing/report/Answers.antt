-- The name is reported by how it ended.
use Rattle.std.proofs.Common.{length, refl}
use Rattle.elf_capi.proofs.LackLaws.{tells_symbol}
use Rattle.elf_capi.specs.declared.missing.CallerMissing.{CallerMissing}
use Rattle.elf_capi.proofs.missing.CallerMissing.report.Goals as goal

pub returns : goal.returns
returns c =
    let name = c.args.name.now in
    let told : CallerMissing = record {
      helpful = c.helpful.result;
      section = c.apply_input_of.result;
      relocation = c.args.missing.now.kind;
      name_len = length name;
      is_cut = c.cut_number.result;
      name = c.padded.result;
    } in
    (c.helpful.ensures, c.apply_input_of.ensures, refl, tells_symbol told c.args.end name c.padded.ensures c.cut_number.ensures)
