-- What a window holds after a read, and after bytes were skipped.
use Rattle.std.proofs.Common.{◌≡◌, ℕ, ◌+◌, ◌-◌, ◌≤◌, ◌<◌, List, ◌++◌, length, take, drop, min, ap, sym, ◌∙◌, refl, arith, inl, inr, ◌⊎◌, length-drop, length-append, length-take, take-take}
use Rattle.std.proofs.lemmas.Bool.{cases_lt}
use Rattle.std.proofs.lemmas.List.{drop_all}
use Rattle.elf_model.specs.Bytes.{slice}
use Rattle.elf_model.proofs.Slices.{slice-rest}
use Rattle.elf_model.proofs.Searches.{slice-two}
use Rattle.elf_table.specs.Windows.{WindowState, HoldsBytes}

-- what was read follows what was held
pub joined : (file window held out : List ℕ) (at n size : ℕ) → window ≡ held ++ out → length held ≡ n → held ≡ slice file at n
    → out ≡ slice file (at + n) size → length out ≡ size → window ≡ slice file at (length window)
joined file window held out at n size e l h o s =
    let two : held ++ out ≡ slice file at (n + size) = rw (h, o) (sym (slice-two file at n size)) in
    let long : length window ≡ n + size = ap length e ∙ omega (arith, length-append held out) in
    e ∙ two ∙ ap (slice file at) (sym long)

-- a slice without its first bytes
pub drop-slice : (file : List ℕ) (at size count : ℕ) → drop count (slice file at size) ≡ slice file (at + count) (size - count)
drop-slice file at size count = go (cases_lt size count)
  where
    go : (size < count) ⊎ (count ≤ size) → drop count (slice file at size) ≡ slice file (at + count) (size - count)
    go (inl few) =
        let none : size - count ≡ 0 = omega arith in
        drop_all count (slice file at size) (omega (arith, length-take size (drop at file))) ∙ ap (slice file (at + count)) (sym none)
    go (inr enough) = slice-rest file at size count enough

-- what a window holds, in its fields, once bytes were skipped
pub passed-held : (bytes : List ℕ) (from held count passed : ℕ) → passed ≡ min count held → slice bytes (from + passed) (held - passed) ≡ drop count (slice bytes from held)
passed-held bytes from held count passed m = go (cases_lt held count)
  where
    go : (held < count) ⊎ (count ≤ held) → slice bytes (from + passed) (held - passed) ≡ drop count (slice bytes from held)
    go (inl past) =
        let none : held - passed ≡ 0 = omega arith in
        let less : held - count ≡ 0 = omega arith in
        rw (drop-slice bytes from held count, none, less) refl
    go (inr inside) = let p : passed ≡ count = omega arith in rw (drop-slice bytes from held count, p) refl

-- what is left of what was held
pub Agrees-skip : (file : List ℕ) (old new : WindowState) (count : ℕ) → new.at ≡ old.at + count → new.held ≡ drop count old.held → HoldsBytes file old → HoldsBytes file new
Agrees-skip file old new count a h e =
    let gone : length new.held ≡ length old.held - count = ap length h ∙ length-drop count old.held in
    let part : drop count (slice file old.at (length old.held)) ≡ slice file (old.at + count) (length old.held - count) = drop-slice file old.at (length old.held) count in
    h ∙ ap (drop count) e ∙ part ∙ ap (λ (x : ℕ). slice file x (length old.held - count)) (sym a) ∙ ap (slice file new.at) (sym gone)

-- the same in a window's fields
pub Agrees-passed : (file bytes : List ℕ) (at from held count passed : ℕ) → length (slice bytes from held) ≡ held → passed ≡ min count held
    → slice bytes from held ≡ slice file at (length (slice bytes from held))
    → slice bytes (from + passed) (held - passed) ≡ slice file (at + count) (length (slice bytes (from + passed) (held - passed)))
Agrees-passed file bytes at from held count passed whole m e = go (cases_lt held count)
  where
    go : (held < count) ⊎ (count ≤ held) → slice bytes (from + passed) (held - passed) ≡ slice file (at + count) (length (slice bytes (from + passed) (held - passed)))
    go (inl past) =
        let none : held - passed ≡ 0 = omega arith in
        rw (none) refl
    go (inr inside) =
        let p : passed ≡ count = omega arith in
        rw p
        (Agrees-skip file (record { at = at; held = slice bytes from held; unread = 0; page = 0 }) (record { at = at + count; held = slice bytes (from + count) (held - count); unread = 0; page = 0 }) count refl
        (sym (slice-rest bytes from held count inside)) e)

-- a prefix of what is held
pub held-front : (file : List ℕ) (w : WindowState) (n : ℕ) → n ≤ length w.held → HoldsBytes file w → take n w.held ≡ slice file w.at n
held-front file w n few e = ap (take n) e ∙ take-take n (length w.held) (drop w.at file) few
