-- The string of an entry by the cases of the definition.
use Rattle.std.proofs.Common.{rules, ◌≡◌, true, false, Ok, sym, ap, ◌∙◌, refl}
use Rattle.std.proofs.lemmas.Result.{err_from_is_err_and}
use Rattle.elf_model.specs.Prelude.{d_tag, is_string_tag}
use Rattle.elf_model.specs.Names.DisplayedName.{Whole}
use Rattle.elf_listing.specs.Strings.{strings_reported}
use Rattle.elf_listing.proofs.StringsTold.{reported_none, told_read, told_refused}
use Rattle.elf_listing.proofs.listing.Listing.read_string.Goals as goal

pub returns-then-not-tells_of_string : goal.returns-then-not-tells_of_string
returns-then-not-tells_of_string g c = record {
  fetches = search rules;
  read = λ file held of decoded.
      let none : is_string_tag (d_tag file c.args.at) ≡ false = sym (c.tells_of_string.ensures file c.args.at decoded) ∙ c.if-not-tells_of_string.true in
      rw (reported_none (strings_reported c.args.strings.now file) c.args.self.now.style.format file c.args.self.now.style.cap.bytes c.args.at none) (ap (λ name. Ok (Whole name)) (sym (rw c.requires.format at (c.put_value_text.ensures file c.args.at decoded))));
}

pub returns-in_err-names : goal.returns-in_err-names
returns-in_err-names g c = record {
  fetches = search rules;
  read = λ file held of decoded.
      let p = err_from_is_err_and c.from_residual.result c.from_residual.ensures.1 in
      let tells : is_string_tag (d_tag file c.args.at) ≡ true = sym (c.tells_of_string.ensures file c.args.at decoded) ∙ c.if-not-tells_of_string.false in
      rw (p.1, p.2) (told_refused (strings_reported c.args.strings.now file) c.args.self.now.style.format file c.args.self.now.name c.args.self.now.style.cap.bytes c.args.at _ _ refl tells (c.in_err-names.ensures.told file of));
}

pub returns : goal.returns
returns g c = record {
  fetches = search rules;
  read = λ file held of decoded.
      let tells : is_string_tag (d_tag file c.args.at) ≡ true = sym (c.tells_of_string.ensures file c.args.at decoded) ∙ c.if-not-tells_of_string.false in
      told_read (strings_reported c.args.strings.now file) c.args.self.now.style.format file _ c.args.self.now.style.cap.bytes c.args.at _ _ _ _ refl tells (c.in_ok-names.ensures.told file of) decoded.d_un (c.read_name.ensures.read file held);
}

pub read_name-requires : goal.read_name-requires
read_name-requires g c = c.in_ok-names.ensures.within c.args.self.now.src.now.seen.size c.requires.within
