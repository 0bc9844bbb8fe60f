-- An entry that was read is taken, and stores a word.
use Rattle.std.proofs.Common.{◌∙◌, ◌<◌, ◌∷◌, List, ap, sym, subst, refl, Ok, arith}
use Rattle.elf_model.specs.Image.{ImageChange, entry_change}
use Rattle.elf_image.specs.Changes.{TakesChange, image_changes_left}
use Rattle.elf_image.specs.declared.changes.PlacedBytes.{PlacedBytes}
use Rattle.elf_image.specs.declared.walk.ImageWalk.{ImageWalk}
use Rattle.elf_image.specs.declared.walk.WalkStep.TheVariants as walked
use Rattle.elf_image.proofs.ChangeSteps.{change_stores, entry_turn, left_entries}
use Rattle.elf_image.proofs.EntryTurnSteps.{moved, moved-as}
use Rattle.elf_image.proofs.RelativeEntrySteps.{relative-alive, relative-first, relative-known, relative-reads, relative-steps, relative-stores}
use Rattle.elf_image.proofs.walk.ImageWalk.take_relative.Goals as goal

pub returns : goal.returns
returns c =
    let image = c.args.image.now in
    let old = c.args.self.now in
    let entries = c.pass_relative.new.self in
    let new : ImageWalk = record { rows = old.rows; entries = entries; past_rows = old.past_rows; last = old.last; wanted = old.wanted } in
    let placed : PlacedBytes = record { place = c.args.found.now.place; width = 8; bytes = c.relative_bytes.result } in
    let row = c.args.found.now.row in
    let held = c.requires.found.held in
    let p = c.pass_relative.ensures in
    let a = c.requires.alive.1.entries.rows in
    let some : old.entries.rows.index < old.entries.rows.table.count = omega (arith, a.place, a.end, held.held.held) in
    let same = ap (λ noted. moved old.entries entries.rows noted entries.chunks) (sym p.noted) ∙ moved-as old.entries entries entries.rows refl p.ranges p.begun p.part p.wanted in
    let past = c.requires.found.past in
    record {
      reads = let r = relative-reads old.entries entries row held p.rows some same in omega (arith, r);
      alive = λ size alive. record { rows = alive.rows; entries = relative-alive old.entries entries row held p.rows some same size alive.entries; last = alive.last };
      less = let s = relative-steps old.entries entries row held p.rows some same in omega (arith, s);
      wanted = refl;
      takes = λ source of known.
          let is = held.held.taken source.file known.entries.held in
          let stores = relative-stores source image row.at row.entry placed of is.entry held.kind refl (c.requires.found.place source row.at of)
          (λ symbol. c.relative_bytes.ensures.value source.file row.at symbol is.entry is.addend of.based) in
          let rest = image_changes_left source new in
          let before = left_entries source old past ∙ (relative-first old.entries entries row held p.rows some same source known.entries ∙ ap (λ xs. entry_change source row.at ∷ xs) (sym (left_entries source new past))) in
          subst (λ (xs : List ImageChange). TakesChange source image.leaves old.wanted xs rest (Ok (walked.Stores placed))) (sym before)
          (change_stores source image.leaves old.wanted row.at rest placed (stores, c.relative_bytes.ensures.given));
      turn = λ file. entry_turn file old new (walked.Stores placed) c.relative_bytes.ensures.given past;
      known = λ file known. record {
        rows = known.rows;
        entries = relative-known old.entries entries row held p.rows some same file known.entries (p.chunks file known.entries);
        ranges = p.ranges ∙ known.ranges;
        wanted = p.wanted ∙ known.wanted;
      };
    }
