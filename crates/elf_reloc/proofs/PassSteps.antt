-- A pass over the entries, entry by entry.
use Rattle.std.proofs.Common.{◌≡◌, ℕ, ◌+◌, ◌-◌, ◌<◌, ◌≤◌, Bool, List, [], ◌∷◌, length, take, drop, min, max, Result, Ok, Err, sym, ap, ◌∙◌, arith}
use Rattle.std.proofs.Common.{inl, inr, length-take, length-drop}
use Rattle.std.proofs.lemmas.Bool.{cases_lt}
use Rattle.std.proofs.lemmas.List.{take_all, nil_from_length}
use Rattle.std.proofs.lemmas.List.{drop-drop, take-append-drop}
use borrow.Rule.Slice.PartMut.{put_mid}
use Rattle.elf_model.specs.Prelude.{Fails, Put, SectionChange, StoredBytes, clipped, put}
use Rattle.elf_model.specs.declared.causes.Refusal.{Refusal}
use Rattle.elf_table.specs.declared.fault.Fault.{Fault}
use Rattle.elf_reloc.specs.Prelude.{ChecksEntries, FindsEntry, Folds, ValueOrRefusal, changes_left, folded}
use Rattle.elf_reloc.specs.declared.entry.ApplyTarget.{ApplyTarget as TargetCode}
use Rattle.elf_reloc.specs.declared.walk.RelocationWalk.{RelocationWalk}

module _ {A : Type 0} (step : A → StoredBytes → A) (value : A) where
  pub folded-some : (changes rest : List SectionChange) (patch : StoredBytes) (answer : Result A Refusal) → changes ≡ Put patch ∷ rest → folded step value changes ≡ answer → folded step (step value patch) rest ≡ answer
  unfolding folded
  folded-some changes rest patch answer e h = sym (ap (folded step value) e) ∙ h

  pub folded-none : (changes : List SectionChange) (answer : Result A Refusal) → changes ≡ [] → folded step value changes ≡ answer → answer ≡ Ok value
  unfolding folded
  folded-none changes answer e h = sym h ∙ ap (folded step value) e

  folded-fails : (changes rest : List SectionChange) (refusal : Refusal) (answer : Result A Refusal) → changes ≡ Fails refusal ∷ rest → folded step value changes ≡ answer → answer ≡ Err refusal
  unfolding folded
  folded-fails changes rest refusal answer e h = sym h ∙ ap (folded step value) e

  pub folded-fault : (file : List ℕ) (target : TargetCode) (old new : RelocationWalk) (fault : Fault) (answer : Result A Refusal) → FindsEntry file target old new (Err fault) → folded step value (changes_left file target old) ≡ answer → ValueOrRefusal (Err fault) answer
  folded-fault file target old new fault answer finds h = grind (arith, folded-fails)

-- the same fault of a check
pub checks_fault : (fault : Fault) (answer : Result (Bool × ℕ) Refusal) → ValueOrRefusal {X = Bool × ℕ} (Err fault) answer → ChecksEntries (Err fault) answer
checks_fault fault answer h = grind arith

-- the same fault, if the result is another value
pub folds-fault : (X : Type 0) {A : Type 0} (fault : Fault) (value : A) (answer : Result A Refusal) → ValueOrRefusal {X = A} (Err fault) answer → Folds {X = X} (Err fault) value answer
folds-fault X fault value answer h = grind arith

-- the part of a patch that falls into a window
take-cut : (j k : ℕ) (xs : List ℕ) → j ≡ min k (length xs) → take j xs ≡ take k xs
take-cut j k xs e = elim (cases_lt k (length xs)) [
  | inl below ↦ ap (λ n. take n xs) (e ∙ min-left k (length xs) below)
  | inr past ↦ take_all j xs (omega arith) ∙ sym (take_all k xs past)
]
  where
    min-left : (a b : ℕ) → a < b → min a b ≡ a
    min-left a b h = omega arith

put-as : (patch : StoredBytes) (window mid : List ℕ) (a k : ℕ) → a ≡ patch.at → mid ≡ patch.bytes → k ≡ length mid → put_mid a k window mid ≡ put patch window
unfolding put
put-as patch window mid a k same bytes len = grind (arith, drop-drop)

put-none : (patch : StoredBytes) (window : List ℕ) → patch.bytes ≡ [] → put patch window ≡ window
unfolding put
put-none patch window none = grind (arith, take-append-drop)

module _ (patch : StoredBytes) (low n first end : ℕ) (window : List ℕ) (counted : n ≡ length window) (f : first ≡ max patch.at low) (e : end ≡ min (patch.at + length patch.bytes) (low + n)) where
  pub stored-in : (mid : List ℕ) → first < end → mid ≡ take (end - patch.at - (first - patch.at)) (drop (first - patch.at) patch.bytes)
      → put_mid (first - low) (end - low - (first - low)) window mid ≡ put (clipped low n patch) window
  unfolding clipped
  stored-in mid some is =
      let from : first - patch.at ≡ low - patch.at = omega arith in
      let rest : List ℕ = drop (low - patch.at) patch.bytes in
      let long : length rest ≡ length patch.bytes - (low - patch.at) = length-drop (low - patch.at) patch.bytes in
      let fits : end - patch.at - (first - patch.at) ≡ min (n - (patch.at - low)) (length rest) = omega arith in
      let at : first - low ≡ min (patch.at - low) n = omega arith in
      let bytes : mid ≡ take (n - (patch.at - low)) rest =
      is ∙ (ap (λ k. take (end - patch.at - (first - patch.at)) (drop k patch.bytes)) from ∙ take-cut _ (n - (patch.at - low)) rest fits) in
      let len : length mid ≡ min (n - (patch.at - low)) (length rest) = ap length bytes ∙ length-take (n - (patch.at - low)) rest in
      put-as (clipped low n patch) window mid (first - low) (end - low - (first - low)) at bytes (omega arith)

  pub stored-none : end ≤ first → window ≡ put (clipped low n patch) window
  unfolding clipped
  stored-none past =
      let rest : List ℕ = drop (low - patch.at) patch.bytes in
      let long : length rest ≡ length patch.bytes - (low - patch.at) = length-drop (low - patch.at) patch.bytes in
      let len : length (take (n - (patch.at - low)) rest) ≡ min (n - (patch.at - low)) (length rest) = length-take (n - (patch.at - low)) rest in
      sym (put-none (clipped low n patch) window (nil_from_length (take (n - (patch.at - low)) rest) (omega arith)))
