-- What successive calls of a listing did.
use Rattle.elf_options.specs.Prelude.{style_of}
use Rattle.elf_options.specs.declared.caps.ListingStyle.{ListingStyle}
use Rattle.std.proofs.Common.{◌≡◌, ℕ, ◌+◌, ◌-◌, ◌<◌, Bool, true, false, List, ◌++◌, Some, Result, Ok, Err, refl, sym, ap, ◌∙◌, arith, zero-add}
use Rattle.elf_model.specs.Prelude.{ListingItem, RELOCS, SYMBOLS, each, gnu_relocations, has, relocations, relocations_with_versions, suffixed_symbols, sum_over, symbol_versions, symbols}
use Rattle.elf_model.proofs.SumLemmas.{last_cost, sums_split}
use Rattle.elf_model.proofs.ListingLemmas.{rows_split}
use Rattle.elf_source.specs.declared.source.Source.{Ghosts as Sources}
use Rattle.elf_source.specs.declared.sink.Sink.{Ghosts as Sinks}
use Rattle.elf_source.proofs.GrowthLaws.{grows_then}
use Rattle.elf_table.specs.declared.run_fault.RunFault.{RunFault}
use Rattle.elf_table.specs.declared.file.SectionView.{SectionView}
use Rattle.elf_listing.specs.Prelude.{AreRecordsListed, ListingCalls, ListingWrote, PartListed, asked_cost, asked_items, kinds_asked, kinds_items, of_sections, record_kinds, relocations_part, sections_listed, symbols_part}
use Rattle.elf_listing.specs.declared.listing.Listing.{Listing}
use Rattle.elf_listing.proofs.FileShown.{versions_none}
use Rattle.elf_listing.proofs.EachLaws.{each-more}
use Rattle.elf_listing.proofs.ListsLaws.{ListingCalls-within, SameFile-then}
use Rattle.elf_listing.proofs.RowLaws.{WroteSome-as}
use Rattle.elf_listing.proofs.ShowLaws.{SpentCredit-then, WroteUntilStop-more, WroteSome-then}

-- what a part reads, and its items, if it is one of the given parts
abbrev pub cost_asked : ℕ → PartListed → SectionView → ListingStyle → ℕ
cost_asked parts part f style = asked_cost parts part f.loaded f.store.now style.cap.bytes

abbrev pub items_asked : ℕ → PartListed → SectionView → ListingStyle → List ℕ → List ListingItem
items_asked parts part f style file = asked_items parts part f.store.now (style_of style) file

-- what some kinds read, and their items
abbrev pub cost_of_kinds : ℕ → List PartListed → SectionView → ListingStyle → ℕ
cost_of_kinds parts kinds f style = kinds_asked parts kinds f.loaded f.store.now style.cap.bytes

abbrev pub items_of_kinds : ℕ → List PartListed → SectionView → ListingStyle → List ℕ → List ListingItem
items_of_kinds parts kinds f style file = kinds_items parts kinds f.store.now (style_of style) file

-- the bits of the symbols and of the relocation entries
pub symbols_bit : (versions : Bool) → (symbols_part versions).bit ≡ SYMBOLS
unfolding symbols suffixed_symbols
symbols_bit true = refl
symbols_bit false = refl

pub relocations_bit : (gnu versions : Bool) → (relocations_part gnu versions).bit ≡ RELOCS
unfolding relocations relocations_with_versions gnu_relocations
relocations_bit true true = refl
relocations_bit true false = refl
relocations_bit false true = refl
relocations_bit false false = refl

module _ {S W X : Type 0} {s : Sources S} {w : Sinks W} where
  -- the same items
  pub Parts-as : {a b : Listing S W s w} {result : Result X RunFault} {n : ℕ} {xs ys : List ℕ → List ListingItem}
      → ((file : List ℕ) → a.src.now.seen.file ≡ Some file → ys file ≡ xs file) → ListingCalls a b result n (ListingWrote a b result xs) → ListingCalls a b result n (ListingWrote a b result ys)
  Parts-as same p = ListingCalls-within _ _ _ _ _ _ _ (omega arith) p (λ file held. WroteSome-as _ _ _ (same file held) (p.shows file held))

  -- a part was shown, and then another, whose cost and items the file and the style determine
  pub Parts-then : {a b c : Listing S W s w} {x : X} {result : Result X RunFault} {n : ℕ} (xs : List ℕ → List ListingItem) (m : SectionView → ListingStyle → ℕ) (ys : SectionView → ListingStyle → List ℕ → List ListingItem)
      → ListingCalls a b (Ok x) n (ListingWrote a b (Ok x) xs) → ListingCalls b c result (m b.file b.style) (ListingWrote b c result (ys b.file b.style))
      → ListingCalls a c result (n + m a.file a.style) (ListingWrote a c result (λ file. xs file ++ ys a.file a.style file))
  Parts-then xs m ys p q = record {
    grows = grows_then p.grows q.grows;
    keeps = SameFile-then p.keeps q.keeps;
    spent = rw (← p.keeps.same_file, ← p.keeps.same_style) (SpentCredit-then _ _ _ _ _ _ _ _ _ _ _ (omega arith) p.spent.0 q.spent);
    shows = λ file held.
        let shown = rw (p.keeps.same_file, p.keeps.same_style) at (q.shows file (p.spent.0.reads.keeps.same_file ∙ held)) in
        WroteSome-then _ _ _ _ _ _ (p.shows file held) shown;
  }

  -- a part failed, and nothing after it was shown
  pub Parts-more : {a b : Listing S W s w} {stop : RunFault} {n : ℕ} (m : ℕ) (xs ys : List ℕ → List ListingItem)
      → ListingCalls {X = X} a b (Err stop) n (ListingWrote {X = X} a b (Err stop) xs) → ListingCalls {X = X} a b (Err stop) (n + m) (ListingWrote {X = X} a b (Err stop) (λ file. xs file ++ ys file))
  Parts-more m xs ys p = ListingCalls-within _ _ _ _ _ _ _ (omega arith) p (λ file held. WroteUntilStop-more _ _ _ _ _ (p.shows file held))

  -- some headers were shown, and then the next
  pub headers_then : {a b c : Listing S W s w} {x : X} {result : Result X RunFault} (amount : SectionView → ListingStyle → ℕ → ℕ) (row : ListingStyle → List ℕ → ℕ → List ListingItem) (i : ℕ)
      → ListingCalls a b (Ok x) (sum_over (amount a.file a.style) 0 i) (ListingWrote a b (Ok x) (λ file. each (row a.style file) 0 i))
      → ListingCalls b c result (amount b.file b.style i) (ListingWrote b c result (λ file. row b.style file i))
      → ListingCalls a c result (sum_over (amount a.file a.style) 0 (i + 1)) (ListingWrote a c result (λ file. each (row a.style file) 0 (i + 1)))
  headers_then {a = a} amount row i p q =
      let cost = amount a.file a.style in
      rw (last_cost cost 0 i ∙ ap (λ n. sum_over cost 0 i + cost n) (zero-add i))
      (Parts-as (λ file held. each-more (row a.style file) i) (Parts-then _ (λ f style. amount f style i) (λ f style file. row style file i) p q))

  -- the last of them failed, and none after it was shown
  pub headers_stopped : {a b : Listing S W s w} {stop : RunFault} (amount : ℕ → ℕ) (row : List ℕ → ℕ → List ListingItem) (i count : ℕ) → i < count
      → ListingCalls {X = X} a b (Err stop) (sum_over amount 0 (i + 1)) (ListingWrote {X = X} a b (Err stop) (λ file. each (row file) 0 (i + 1)))
      → ListingCalls {X = X} a b (Err stop) (sum_over amount 0 count) (ListingWrote {X = X} a b (Err stop) (λ file. each (row file) 0 count))
  headers_stopped amount row i count below p =
      let all : count ≡ i + 1 + (count - (i + 1)) = omega arith in
      rw (all, sums_split amount 0 (i + 1) (count - (i + 1))) (Parts-as (λ file held. rows_split (row file) 0 (i + 1) (count - (i + 1))) (Parts-more _ _ _ p))

  -- the rows of definitions and needs were shown, and then the versions of symbols may be
  pub records_listed : {a b : Listing S W s w} {x : X} {n : ℕ} (parts : ℕ)
      → ListingCalls a b (Ok x) n (ListingWrote a b (Ok x) (kinds_items parts (sections_listed record_kinds) a.file.store.now (style_of a.style)))
      → has parts (of_sections symbol_versions).bit ≡ true → AreRecordsListed b.src.now.seen.file (style_of b.style)
  unfolding symbol_versions
  records_listed {a = a} parts p = λ asked file held.
      let before = sym p.spent.0.reads.keeps.same_file ∙ held in
      rw (p.keeps.same_style)
      (versions_none file (style_of a.style) parts a.file.loaded a.file.store.now (a.loaded.belongs file before) asked (p.shows file before).no_fault)
