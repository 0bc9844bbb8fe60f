-- The layouts that items give, item by item.
use Rattle.std.proofs.Common.{◌≡◌, ℕ, zero, suc, ◌+◌, ◌<◌, List, [], ◌∷◌, length, drop, slice_index_or, sym, subst, ◌∙◌, arith}
use Rattle.elf_model.specs.Placing.{Layout}
use Rattle.elf_capi.specs.Prelude.{LaysItem, LaysItems, PutsKind}
use Rattle.elf_capi.specs.declared.items.CallerItem.{CallerItem}

-- an item is added to a layout in one way
one_put : (kind : ℕ) (item : CallerItem) (old new other : Layout) → PutsKind kind item old new → PutsKind kind item old other → new ≡ other
one_put zero item old new other (i, p, d, e, f, g, w) (j, q, h, l, m, r, v) = λ k. record {
  lookup = (w ∙ sym v) k;
  sections = (p.0 ∙ sym q.0) k;
  definitions = (d ∙ sym h) k;
  linkage = (e ∙ sym l) k;
  table = (f ∙ sym m) k;
  thread = (g ∙ sym r) k;
}
one_put (suc zero) item old new other (i, p, d, e, f, g, w) (j, q, h, l, m, r, v) = λ k. record {
  lookup = (w ∙ sym v) k;
  sections = (d ∙ sym h) k;
  definitions = (p.0 ∙ sym q.0) k;
  linkage = (e ∙ sym l) k;
  table = (f ∙ sym m) k;
  thread = (g ∙ sym r) k;
}
one_put (suc (suc zero)) item old new other (i, p, d, e, f, g, w) (j, q, h, l, m, r, v) = λ k. record {
  lookup = (w ∙ sym v) k;
  sections = (d ∙ sym h) k;
  definitions = (e ∙ sym l) k;
  linkage = (p.0 ∙ sym q.0) k;
  table = (f ∙ sym m) k;
  thread = (g ∙ sym r) k;
}
one_put (suc (suc (suc zero))) item old new other (i, p, d, e, f, g, w) (j, q, h, l, m, r, v) = λ k. record {
  lookup = (w ∙ sym v) k;
  sections = (d ∙ sym h) k;
  definitions = (e ∙ sym l) k;
  linkage = (f ∙ sym m) k;
  table = (p.0 ∙ sym q.0) k;
  thread = (g ∙ sym r) k;
}
one_put (suc (suc (suc (suc zero)))) item old new other (i, p, d, e, f, g, w) (j, q, h, l, m, r, v) = λ k. record {
  lookup = (w ∙ sym v) k;
  sections = (d ∙ sym h) k;
  definitions = (e ∙ sym l) k;
  linkage = (f ∙ sym m) k;
  table = (g ∙ sym r) k;
  thread = (p.0 ∙ sym q.0) k;
}
one_put (suc (suc (suc (suc (suc kind))))) item old new other puts others = absurd puts

-- what the remaining items give after a layout to which one was added
laid_before : (items : List CallerItem) (i : ℕ) (d : CallerItem) (old next new : Layout) → i < length items
    → LaysItem (slice_index_or items i d) old next → LaysItems next (drop (suc i) items) new → LaysItems old (drop i items) new
laid_before [] i d old next new within puts lays = absurd (omega arith)
laid_before (item ∷ items) zero d old next new within puts lays = (next, puts, lays)
laid_before (item ∷ items) (suc i) d old next new within puts lays = laid_before items i d old next new (omega arith) puts lays

laid_behind : (items : List CallerItem) (i : ℕ) (d : CallerItem) (old next new : Layout) → i < length items
    → LaysItem (slice_index_or items i d) old next → LaysItems old (drop i items) new → LaysItems next (drop (suc i) items) new
laid_behind [] i d old next new within puts lays = absurd (omega arith)
laid_behind (item ∷ items) zero d old next new within puts (other, put, lays) =
    subst (λ l. LaysItems l items new) (one_put item.kind item old other next put puts) lays
laid_behind (item ∷ items) (suc i) d old next new within puts lays = laid_behind items i d old next new (omega arith) puts lays

-- an item that is added comes before what the remaining items give
pub put_before : (items : List CallerItem) (i : ℕ) (d : CallerItem) (old next new : Layout) → i < length items
    → LaysItem (slice_index_or items i d) old next → LaysItems next (drop (i + 1) items) new → LaysItems old (drop i items) new
put_before items i d old next new within puts lays =
    let one : i + 1 ≡ suc i = omega arith in
    laid_before items i d old next new within puts (subst (λ n. LaysItems next (drop n items) new) one lays)

pub put_after : (items : List CallerItem) (i : ℕ) (d : CallerItem) (old next new : Layout) → i < length items
    → LaysItem (slice_index_or items i d) old next → LaysItems old (drop i items) new → LaysItems next (drop (i + 1) items) new
put_after items i d old next new within puts lays =
    let one : suc i ≡ i + 1 = omega arith in
    subst (λ n. LaysItems next (drop n items) new) one (laid_behind items i d old next new within puts lays)
