-- The headers before the index were shown.
use Rattle.elf_options.specs.Permitted.{style_of}
use Rattle.std.proofs.Common.{◌≡◌, ◌-◌, ◌≤◌, Ok}
use Rattle.elf_model.specs.Prelude.{each, sum_over}
use Rattle.elf_listing.specs.Prelude.{ListingCalls, ListingWrote}
use Rattle.elf_listing.proofs.listed_kind.list_headers.Given as goal

abbrev pub invariant-headers : goal.invariant-headers
invariant-headers g l =
    let part = g.K.ListedKind.listed l.fn.listing.style.gnu l.fn.listing.style.versions in
    let f = l.fn.listing.file in
    let cap = l.fn.listing.style.cap.bytes in
    record {
      counted : l.count ≡ part.count f.store.now;
      below : l.index ≤ l.count;
      so_far : ListingCalls {X = Unit {0}} l.fn.listing l.listing (Ok tt) (sum_over (part.cost f.loaded f.store.now cap) 0 l.index)
          (ListingWrote {X = Unit {0}} l.fn.listing l.listing (Ok tt) (λ file. each (part.items file (style_of l.fn.listing.style)) 0 l.index));
    }

abbrev pub decreases-headers : goal.decreases-headers
decreases-headers g l = l.count - l.index
