-- The name is looked up in the string table of the record that names the version index.
use Rattle.std.proofs.Common.{rules, ◌<◌, length, refl, sym, ◌∙◌, arith}
use Rattle.elf_note.proofs.SpendsLaws.{SpendsAtMost-none}
use Rattle.elf_listing.proofs.Amounts.{part_of}
use Rattle.elf_listing.proofs.SuffixNumbers.{told_defined, told_needed, told_nowhere}
use Rattle.elf_listing.proofs.listing.Listing.read_number.Goals as goal

pub returns-in-Nowhere : goal.returns-in-Nowhere
returns-in-Nowhere g c = record {
  fetches = (record { same_src = refl; same_out = refl; same_file = refl; same_style = refl }, refl, SpendsAtMost-none _ _ _ _ (part_of _ _), rw c.refused.ensures (search rules));
  kept = refl;
  read = λ file held numbered many.
      rw c.refused.ensures
      (λ other default. told_nowhere file c.args.suffixes.now.numbered _ numbered c.args.self.now.style.cap.bytes c.args.number c.args.at many (sym c.name.ensures.is ∙ c.in-Nowhere.is) default);
}

pub returns-in-Defined : goal.returns-in-Defined
returns-in-Defined g c = record {
  fetches = c.read_into.ensures.fetches;
  kept = c.read_into.ensures.kept;
  read = λ file held numbered many.
      let few : c.args.number < length c.args.suffixes.now.places = omega (arith, c.in-Defined.ensures.fits, c.requires.places) in
      told_defined file c.args.suffixes.now.numbered _ numbered c.args.self.now.style.cap.bytes c.args.number c.args.at many few _ _ c.in-Defined.index
      (sym c.name.ensures.is ∙ c.in-Defined.is) (rw (c.from.ensures, c.from-in-Defined.ensures) at (c.read_into.ensures.read file held));
}

pub returns-in-Needed : goal.returns-in-Needed
returns-in-Needed g c = record {
  fetches = c.read_into-in-Needed.ensures.fetches;
  kept = c.read_into-in-Needed.ensures.kept;
  read = λ file held numbered many.
      let few : c.args.number < length c.args.suffixes.now.places = omega (arith, c.in-Needed.ensures.fits, c.requires.places) in
      told_needed file c.args.suffixes.now.numbered _ numbered c.args.self.now.style.cap.bytes c.args.number c.args.at many few _ _ c.in-Needed.index
      (sym c.name.ensures.is ∙ c.in-Needed.is) (rw (c.from-in-Needed.ensures, c.from-in-Needed-2.ensures) at (c.read_into-in-Needed.ensures.read file held));
}
