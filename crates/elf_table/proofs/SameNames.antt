-- What the results of a comparison imply for a name in a file's string table.
use Rattle.std.proofs.Common.{◌≡◌, ℕ, zero, suc, ◌+◌, ◌-◌, ◌<◌, ◌≤◌, ◌⊎◌, inl, inr, true, false, min, List, [], ◌∷◌, ◌++◌, length, get_or, drop, Ok, Err, refl, ap, sym, ◌∙◌, arith, length-take, length-drop, length-append, get_or-take}
use Rattle.elf_model.specs.Prelude.{Differ, begins, same, slice}
use Rattle.elf_model.specs.declared.causes.Cause.TheVariants.{NameOutside, NameUnended}
use Rattle.elf_model.proofs.Slices.{slice-size}
use Rattle.elf_model.proofs.SameLaws.{Compared, is_alike, is_other, is_short, compared, same-empty, same-outside, same-inside, same_not}
use Rattle.elf_table.specs.NamesRead.{SameBelow, DifferBelow}
use Rattle.elf_table.proofs.Paging.{drop-slice}

-- an empty string table
pub same-none : (file wanted : List ℕ) (at size off : ℕ) → size ≡ 0 → off ≡ 0 → same (slice file at size) off wanted ≡ Ok false
same-none file wanted at size off z o = same-empty (slice file at size) off wanted (ap (slice file at) z, o)

-- an index past the string table
pub same-past : (file wanted : List ℕ) (at size off : ℕ) → size ≤ off → (size ≡ 0 → off ≡ 0 → ⊥) → same (slice file at size) off wanted ≡ Err NameOutside
same-past file wanted at size off past some =
    same-outside (slice file at size) off wanted (omega (arith, length-take size (drop at file)), λ e. some (omega arith) e.1)

-- a byte of the wanted name with its NUL
wanted-byte : (wanted : List ℕ) (k : ℕ) → get_or (wanted ++ 0 ∷ []) k 0 ≡ get_or wanted k 0
wanted-byte [] zero = refl
wanted-byte [] (suc k) = refl
wanted-byte (w ∷ wanted) zero = refl
wanted-byte (w ∷ wanted) (suc k) = wanted-byte wanted k

-- as many bytes were compared as the wanted name has with its NUL, or as are left of the string
-- table
module _ (file wanted : List ℕ) (at size off want : ℕ) (inside : at + size ≤ length file) (below : off < size) (all : want ≡ min (length wanted + 1) (size - off)) where
  long : length (drop off (slice file at size)) ≡ size - off
  long = omega (arith, slice-size file at size inside, length-drop off (slice file at size))

  front : length (slice file (at + off) want) ≡ want
  front = slice-size file (at + off) want (omega arith)

  full : length (wanted ++ 0 ∷ []) ≡ length wanted + 1
  full = length-append wanted (0 ∷ [])

  -- a byte of what is left of the string table
  rest-byte : (k : ℕ) → k < want → get_or (drop off (slice file at size)) k 0 ≡ get_or (slice file (at + off) want) k 0
  rest-byte k low =
      ap (λ (rest : List ℕ). get_or rest k 0) (drop-slice file at size off) ∙ get_or-take (size - off) (drop (at + off) file) k 0 (omega arith)
      ∙ sym (get_or-take want (drop (at + off) file) k 0 low)

  -- a byte differs
  pub same-false : DifferBelow (length (slice file (at + off) want)) (slice file (at + off) want) wanted → same (slice file at size) off wanted ≡ Ok false
  same-false other =
      let low : other.0 < want = omega (arith, other.1, front) in
      let d : Differ (drop off (slice file at size)) (wanted ++ 0 ∷ []) =
      (other.0, omega (arith, long), omega (arith, full), λ e. other.2 (sym (rest-byte other.0 low) ∙ e ∙ wanted-byte wanted other.0)) in
      (same_not (slice file at size) off wanted).1 (inl d)

  -- none does: the name is the wanted one, or the string table ends before its NUL
  pub same-alike : SameBelow (length (slice file (at + off) want)) (slice file (at + off) want) wanted
      → ((same (slice file at size) off wanted ≡ Ok true) × (length wanted < size - off)) ⊎ ((same (slice file at size) off wanted ≡ Err NameUnended) × (size - off ≤ length wanted))
  same-alike alike = by (compared (drop off (slice file at size)) (wanted ++ 0 ∷ []))
    where
      is : same (slice file at size) off wanted ≡ begins (drop off (slice file at size)) (wanted ++ 0 ∷ [])
      is = same-inside (slice file at size) off wanted (omega (arith, slice-size file at size inside))

      by : Compared (drop off (slice file at size)) (wanted ++ 0 ∷ [])
          → ((same (slice file at size) off wanted ≡ Ok true) × (length wanted < size - off)) ⊎ ((same (slice file at size) off wanted ≡ Err NameUnended) × (size - off ≤ length wanted))
      by (is_alike e s) = inl (is ∙ s, omega (arith, long, full, ap length e, length-take (length (wanted ++ 0 ∷ [])) (drop off (slice file at size))))
      by (is_other d s) =
          let low : d.0 < want = omega (arith, d.1, d.2, long, full) in
          absurd (d.3 (rest-byte d.0 low ∙ alike d.0 (omega (arith, front)) ∙ sym (wanted-byte wanted d.0)))
      by (is_short l e s) = inr (is ∙ s, omega (arith, l, long, full))
