-- A kind, and then the others.
use Rattle.std.proofs.Common.{◌≡◌, ℕ, Bool, List, sym, ap, subst}
use Rattle.std.proofs.lemmas.Result.{err_from_is_err_and}
use Rattle.elf_options.specs.Permitted.{style_of}
use Rattle.elf_options.specs.declared.caps.ListingStyle.{ListingStyle}
use Rattle.elf_model.specs.Listing.{ListingItem}
use Rattle.elf_table.specs.declared.file.SectionView.{SectionView}
use Rattle.elf_listing.specs.Prelude.{PartListed, kinds_asked, kinds_items}
use Rattle.elf_listing.proofs.PartsLaws.{Parts-more, Parts-then, cost_of_kinds, items_of_kinds}
use Rattle.elf_listing.proofs.kind_list.Tuple2KindList.list.Goals as goal

abbrev costs : ℕ → (Bool → Bool → List PartListed) → SectionView → ListingStyle → ℕ
costs parts kinds f style = cost_of_kinds parts (kinds style.gnu style.versions) f style

abbrev shown : ℕ → (Bool → Bool → List PartListed) → SectionView → ListingStyle → List ℕ → List ListingItem
shown parts kinds f style file = items_of_kinds parts (kinds style.gnu style.versions) f style file

-- what holds before the others are listed still holds
still_ready : {A B : Type 0} (ready : A → B → Type 0) {a a' : A} {b b' : B} → a' ≡ a → b' ≡ b → ready a b → ready a' b'
still_ready ready {a = a} {b' = b'} seen style holds = subst (λ x. ready x b') (sym seen) (subst (ready a) (sym style) holds)

pub returns-in_err-list_kind : goal.returns-in_err-list_kind
unfolding kinds_asked kinds_items
returns-in_err-list_kind g c =
    let p = err_from_is_err_and c.from_residual.result c.from_residual.ensures.1 in
    rw (p.1, p.2) (Parts-more _ _ _ c.in_err-list_kind.ensures)

pub list-requires : goal.list-requires
list-requires g c =
    let done = c.in_ok-list_kind.ensures in
    still_ready g.B.KindList.ready done.spent.0.reads.keeps.same_file (ap style_of done.keeps.same_style) c.requires.1

pub returns : goal.returns
unfolding kinds_asked kinds_items
returns g c = Parts-then _ (costs c.args.parts.0 g.B.KindList.kinds) (shown c.args.parts.0 g.B.KindList.kinds) c.in_ok-list_kind.ensures c.list.ensures
