-- What a limit has room for, and what is requested within it.
use Rattle.std.proofs.Common.{◌≡◌, ℕ, zero, suc, ◌+◌, ◌-◌, ◌*◌, ◌^◌, ◌<◌, ◌≤◌, Bool, true, false, inl, inr, min, Option, Some, Result, refl, sym, ap, ◌∙◌, subst, arith}
use Rattle.std.specs.Prelude.{List, IfErr, ◌⊎◌}
use Rattle.std.proofs.Math.Dec.{leb}
use Rattle.std.proofs.Math.Nat.{mul-le-mul_left}
use Rattle.std.proofs.lemmas.Bool.{cases_lt}
use Rattle.std.proofs.lemmas.Bool.Decides.{leb_tells}
use Rattle.elf_model.specs.ApplyCost.{layout_names_cost}
use Rattle.elf_source.specs.Prelude.{CountedState, OutState, ReadsUpTo, SetsLimit, SourceState, left}
use Rattle.elf_table.specs.Prelude.{IsOpen, LoadedFile, StoreState}
use Rattle.elf_table.specs.declared.run_fault.RunFault.{RunFault}
use Rattle.elf_reloc.specs.Prelude.{ApplyFaultSays, ApplySays, NotForBudget, OverBudget, ReadsWithin, RoomFor, WritesBytes, WritesOrWants, entries_from, walk_all, windows, write_passes}
use Rattle.elf_reloc.specs.declared.entry.ApplyTarget.{ApplyTarget}

-- what a pass requests, by the number of entries and what each of them requests
walk_by : (target : ApplyTarget) (entries each : ℕ) → entries ≡ entries_from target 0 → each ≡ 48 + layout_names_cost target.layout.now → entries * each ≡ walk_all target
unfolding walk_all
walk_by target entries each counted costs = grind arith

-- a product and a sum that saturate at 2^128 - 1 are exact if they are small
sum_small :
    (passes exact size most pass walks all : ℕ) → pass ≡ min exact (2 ^ 128 - 1) → walks ≡ min (passes * pass) (2 ^ 128 - 1) → all ≡ min (walks + size) (2 ^ 128 - 1) → most < 2 ^ 64 → all ≤ most
    → passes * exact + size ≤ most
sum_small zero exact size most pass walks all p w a small fits = omega (arith, p, w, a, small, fits)
sum_small (suc k) exact size most pass walks all p w a small fits = elim (cases_lt (2 ^ 128 - 1) exact) [
  | inl high ↦ absurd (let one : suc k * pass ≡ pass + k * pass = omega arith in omega (arith, one, p, w, a, small, fits, high))
  | inr low ↦
      let same : pass ≡ exact = omega (arith, p, low) in
      let product = ap (λ n. suc k * n) same in omega (arith, product, w, a, small, fits)
]

-- and never more than the exact ones
sum_least :
    (passes exact size most pass walks all : ℕ) → pass ≡ min exact (2 ^ 128 - 1) → walks ≡ min (passes * pass) (2 ^ 128 - 1) → all ≡ min (walks + size) (2 ^ 128 - 1) → most < all
    → most < passes * exact + size
sum_least passes exact size most pass walks all p w a over =
    let few : pass ≤ exact = omega (arith, p) in
    let product : passes * pass ≤ passes * exact = mul-le-mul_left passes few in
    omega (arith, product, w, a, over)

-- what is left of a limit
left_most : (src : CountedState) (bytes most : ℕ) → left src ≡ Some bytes → src.most ≡ Some most → most ≡ src.asked + bytes
left_most src bytes most is set = grind arith

over_left : (src : CountedState) (bytes n : ℕ) (most : Option ℕ) → src.most ≡ most → left src ≡ Some bytes → bytes < n → OverBudget src n
over_left src bytes n most set is over = grind arith

pub room_for :
    (src : CountedState) (target : ApplyTarget) (bytes passes entries each size pass walks all : ℕ) → left src ≡ Some bytes → bytes < 2 ^ 64 → entries ≡ entries_from target 0 → each ≡ 48 + layout_names_cost target.layout.now
    → pass ≡ min (entries * each) (2 ^ 128 - 1) → walks ≡ min (passes * pass) (2 ^ 128 - 1) → all ≡ min (walks + size) (2 ^ 128 - 1)
    → RoomFor src (passes * walk_all target + size) (leb all bytes)
room_for src target bytes passes entries each size pass walks all is small counted costs p w a =
    let P : ℕ → Type 0 = λ n. RoomFor src (passes * n + size) (leb all bytes) in
    subst P (walk_by target entries each counted costs) (by_test _ (leb_tells all bytes))
  where
    by_test : (room : Bool) → ((room ≡ true) × (all ≤ bytes)) ⊎ ((room ≡ false) × (bytes < all)) → RoomFor src (passes * (entries * each) + size) room
    by_test true (inl fits) = λ most set.
        let same = left_most src bytes most is set in
        let exact = sum_small passes (entries * each) size bytes pass walks all p w a small fits.1 in omega (arith, same, exact)
    by_test true (inr over) = let wrong = over.0 in cc
    by_test false (inl fits) = let wrong = fits.0 in cc
    by_test false (inr over) = over_left src bytes _ _ refl is (sum_least passes (entries * each) size bytes pass walks all p w a over.1)

-- a section that a limit has no room for has bytes
pub some_size : (src : CountedState) (rises : Bool) (size walk : ℕ) → OverBudget src (write_passes rises size * walk + size) → 0 < size
some_size src rises size walk over = grind arith

-- what the passes that write request, by the order of the entries
pub write_asks :
    (rises : Bool) (size walk before after : ℕ) → (rises ≡ true → after ≤ before + (walk + size)) → after ≤ before + (windows size * walk + size)
    → after ≤ before + (write_passes rises size * walk + size)
write_asks rises size walk before after once all = grind arith

-- a limit was removed
module _ (a b : CountedState) (bytes : Option ℕ) (limits : SetsLimit a b bytes) where
  pub open_free : (loaded : LoadedFile) (store : StoreState) → IsOpen a loaded store → IsOpen b loaded store
  open_free loaded store opened = record { size = grind arith; belongs = λ file held. opened.belongs file (ap (λ (s : SourceState). s.file) (sym limits.seen) ∙ held) }

  pub spends_free :
      (d : CountedState) (m n : ℕ) → ReadsUpTo b d m → d.asked ≤ b.asked + n → ((most : ℕ) → a.most ≡ Some most → a.asked + n ≤ most) → ReadsWithin a d n
  spends_free d m n reads asked room = grind arith

  pub says_free : {X : Type 0} (d : CountedState) (out : OutState) (n : ℕ) (result : Result X RunFault) → IfErr result (ApplyFaultSays NotForBudget b d out) → IfErr result (ApplySays a d out n)
  says_free d out n result says = grind arith

-- the same if it is removed last
module _ (a b d : CountedState) (bytes : Option ℕ) (limits : SetsLimit b d bytes) where
  pub spends_last : (n : ℕ) → ReadsWithin a b n → ReadsWithin a d n
  spends_last n spends = grind arith

  pub says_last : {X : Type 0} (out : OutState) (n : ℕ) (result : Result X RunFault) → IfErr result (ApplySays a b out n) → IfErr result (ApplySays a d out n)
  says_last out n result says = grind arith

-- a text that was written, if nothing is refused
pub never_wants : {X : Type 0} (old new : OutState) (result : Result X RunFault) (text : List ℕ) → WritesBytes old new result text → WritesOrWants old new result text
never_wants old new result text h = grind arith
