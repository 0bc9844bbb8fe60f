-- The program headers, then what dynamic entries locate.
use Rattle.std.proofs.Common.{ℕ, List}
use Rattle.std.proofs.lemmas.Result.{err_from_is_err_and}
use Rattle.elf_model.specs.Prelude.{ListingItem, located_items}
use Rattle.elf_options.specs.Permitted.{style_of}
use Rattle.elf_options.specs.declared.caps.ListingStyle.{ListingStyle}
use Rattle.elf_table.specs.declared.file.SectionView.{SectionView}
use Rattle.elf_listing.specs.Prelude.{located_asked}
use Rattle.elf_listing.proofs.PartsLaws.{Parts-more, Parts-then}
use Rattle.elf_listing.proofs.listing.Listing.view_headers.Goals as goal

-- what dynamic entries locate reads, and its items
abbrev cost : ℕ → SectionView → ListingStyle → ℕ
cost parts f style = located_asked (style_of style) parts f.loaded

abbrev items : ℕ → SectionView → ListingStyle → List ℕ → List ListingItem
items parts f style file = located_items file (style_of style) parts

pub returns-in_err-program_headers : goal.returns-in_err-program_headers
returns-in_err-program_headers g c =
    let p = err_from_is_err_and c.from_residual.result c.from_residual.ensures.1 in
    rw (p.1, p.2) (Parts-more _ _ _ c.in_err-program_headers.ensures)

pub located-requires : goal.located-requires
located-requires g c =
    let keeps = c.in_ok-program_headers.ensures.keeps in
    rw (keeps.same_file, keeps.same_style) c.requires

pub returns : goal.returns
returns g c = Parts-then _ (cost c.args.parts.0) (items c.args.parts.0) c.in_ok-program_headers.ensures c.located.ensures
