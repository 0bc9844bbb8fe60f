-- Each header is shown after those before it.
use Rattle.elf_options.specs.Prelude.{style_of}
use Rattle.elf_options.specs.declared.caps.ListingStyle.{ListingStyle}
use Rattle.std.proofs.Common.{◌≡◌, ℕ, Bool, List, refl, arith}
use Rattle.std.proofs.lemmas.Result.{err_from_is_err_and}
use Rattle.elf_model.specs.Listing.{ListingItem}
use Rattle.elf_table.specs.declared.file.SectionView.{SectionView}
use Rattle.elf_listing.specs.Parts.{PartListed}
use Rattle.elf_listing.proofs.ListsLaws.{ListingCalls-nothing}
use Rattle.elf_listing.proofs.LoopLaws.{rows_none}
use Rattle.elf_listing.proofs.PartsLaws.{headers_stopped, headers_then}
use Rattle.elf_listing.proofs.listed_kind.list_headers.Goals as goal

-- what a header reads, and its items
abbrev costs : (Bool → Bool → PartListed) → SectionView → ListingStyle → ℕ → ℕ
costs listed f style = (listed style.gnu style.versions).cost f.loaded f.store.now style.cap.bytes

abbrev shown : (Bool → Bool → PartListed) → ListingStyle → List ℕ → ℕ → List ListingItem
shown listed style file i = (listed style.gnu style.versions).items file (style_of style) i

pub headers-init : goal.headers-init
headers-init g c = record {
  counted = c.count-count.ensures;
  below = omega arith;
  so_far = ListingCalls-nothing _ _ _ _ (λ file held. rows_none _ _ _ refl);
}

pub returns-in_err-header : goal.returns-in_err-header
returns-in_err-header g c =
    let p = err_from_is_err_and c.from_residual.result c.from_residual.ensures.1 in
    let known = c.headers.invariant in
    rw (p.1, p.2)
    (headers_stopped _ _ c.headers.index _ (omega (arith, known.counted, c.headers-test.true))
    (headers_then (costs g.K.ListedKind.listed) (shown g.K.ListedKind.listed) c.headers.index known.so_far c.in_err-header.ensures))

pub headers-preserved : goal.headers-preserved
headers-preserved g c =
    let known = c.headers.invariant in
    record {
      counted = known.counted;
      below = omega (arith, c.headers-test.true);
      so_far = headers_then (costs g.K.ListedKind.listed) (shown g.K.ListedKind.listed) c.headers.index known.so_far c.in_ok-header.ensures;
    }

pub returns : goal.returns
returns g c =
    let known = c.headers.invariant in
    let all : c.headers.index ≡ (g.K.ListedKind.listed c.args.listing.now.style.gnu c.args.listing.now.style.versions).count c.args.listing.now.file.store.now = omega (arith, c.headers-test.false, known.counted, known.below) in
    rw all at known.so_far
