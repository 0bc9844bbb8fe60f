use Rattle.std.proofs.Common.{◌≡◌, ◌∙◌, ◌*◌, ◌+◌, take, ap, refl}
use Rattle.elf_table.proofs.Paging.{held-front}
use Rattle.elf_image.proofs.rela_rows.RelaRows.front_row.Goals as goal

pub returns : goal.returns
returns c = record {
  held = c.requires.some;
  index = refl;
  taken = λ file holds.
      let a = c.requires.alive.1 in
      let w = c.args.self.now.window in
      let place : c.at.result ≡ c.args.self.now.table.at + 24 * c.args.self.now.index = c.at.ensures.value ∙ a.place in
      let entry = c.front_entry.ensures file c.at.result (ap (take 24) c.front.ensures ∙ (held-front file w 24 c.requires.some holds ∙ rw c.at.ensures.value)) in
      record { place = place; entry = entry.0; addend = entry.1 };
}
