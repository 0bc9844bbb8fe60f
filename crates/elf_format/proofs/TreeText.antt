-- The indentation of a tree, level by level.
use Rattle.std.proofs.Common.{◌≡◌, ℕ, suc, zero, ◌+◌, ◌-◌, ◌<◌, List, [], ◌++◌, codes, sym, ap, ◌∙◌, append_assoc, append-nil, arith}
use Rattle.elf_format.specs.NeededObjects.{indentation}

-- that of more levels goes on after that of fewer
levels_more : (n k depth : ℕ) → depth ≡ n + suc k → (rest : List ℕ) × (indentation depth ≡ indentation (suc k) ++ rest)
unfolding indentation
levels_more zero k depth is =
    let same : depth ≡ suc k = omega (arith, is) in ([], ap indentation same ∙ sym (append-nil (indentation (suc k))))
levels_more (suc n) k zero is = absurd (omega (arith, is))
levels_more (suc n) k (suc depth) is =
    let more = levels_more n k depth (omega (arith, is)) in
    (more.0 ++ codes "  ", ap (λ xs. xs ++ codes "  ") more.1 ∙ append_assoc (indentation (suc k)) more.0 (codes "  "))

pub levels_below : (k depth : ℕ) → k < depth → (rest : List ℕ) × (indentation depth ≡ (indentation k ++ codes "  ") ++ rest)
unfolding indentation
levels_below k depth less = levels_more (depth - suc k) k depth (omega (arith, less))
