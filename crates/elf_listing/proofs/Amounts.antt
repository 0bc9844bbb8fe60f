-- Bounds and sums of amounts, stated once: a proof that cites one reads none of its other facts.
use Rattle.std.proofs.Common.{◌≡◌, ℕ, suc, ◌+◌, ◌*◌, ◌<◌, ◌≤◌, arith}

pub all_of : (n : ℕ) → n ≤ n
all_of n = omega arith

pub all_as : {n k : ℕ} → n ≡ k → n ≤ k
all_as same = omega arith

pub part_of : (n k : ℕ) → n ≤ n + k
part_of n k = omega arith

-- there is one, if one is below
pub some_of : {i n : ℕ} → i < n → 0 < n
some_of below = omega arith

pub some_as : {i n m k : ℕ} → i < n → n ≡ m → m ≡ k → 0 < k
some_as below same is = omega arith

pub not_none : {n : ℕ} → 0 < n → n ≡ 0 → ⊥
not_none some none = omega arith

-- a bound on a number is one on its equal
pub below_as : {i n m : ℕ} → i < n → n ≡ m → i < m
below_as below same = omega arith

pub fewer_as : {n m k : ℕ} → n < k → n ≡ m → m < k
fewer_as few same = omega arith

pub from_as : {i n m : ℕ} → n ≤ i → n ≡ m → m ≤ i
from_as from same = omega arith

pub least_as : {k n m : ℕ} → k ≤ n → n ≡ m → k ≤ m
least_as least same = omega arith

-- the place of a row, in a table that is a section's
pub placed_row : {from start at : ℕ} (index size : ℕ) → from ≡ start → at ≡ from + index * size → at ≡ start + index * size
placed_row index size is here = rw is at here

-- a count at the start of a loop, after a step, and at the end
pub count_begins : {i left all : ℕ} → i ≡ 0 → left ≡ all → i + left ≡ all
count_begins none same = omega arith

pub count_next : (i left fewer : ℕ) {all next : ℕ} → i + left ≡ all → fewer + 1 ≡ left → next ≡ i + 1 → next + fewer ≡ all
count_next i left fewer counted less step = omega arith

pub count_given : (i left fewer : ℕ) {all next : ℕ} → i + left ≡ all → left ≡ suc fewer → next ≡ i + 1 → next + fewer ≡ all
count_given i left fewer counted less step = omega arith

pub count_ends : {i left all : ℕ} → i + left ≡ all → left ≡ 0 → i ≡ all
count_ends counted none = omega arith

pub count_at_most : (left : ℕ) {i all : ℕ} → i + left ≡ all → i ≤ all
count_at_most left counted = omega arith

pub count_fewer : {left fewer : ℕ} → fewer + 1 ≡ left → fewer < left
count_fewer less = omega arith

-- what may still be asked for, at the start of a loop, before a read, after a row, and at the end
pub asked_begins : (asked credit : ℕ) {cost bound : ℕ} → cost ≡ bound → asked + credit + cost ≤ asked + (credit + bound)
asked_begins asked credit same = omega arith

pub asked_read : (asked unread rest : ℕ) {bound : ℕ} → asked + (unread + rest) ≤ bound → asked + unread ≤ bound
asked_read asked unread rest known = omega arith

pub asked_row : (after credit own : ℕ) {later : ℕ} → later ≤ after + (credit + own) → later ≤ after + credit + own
asked_row after credit own most = omega arith

pub asked_last : (before after credit unread left rest : ℕ) {bound : ℕ} → before + credit + (unread + rest) ≤ bound → after + left ≤ before + unread → after + credit ≤ bound
asked_last before after credit unread left rest known account = omega arith

pub asked_as : (asked credit : ℕ) {later cost bound : ℕ} → later ≤ asked + (credit + cost) → cost ≡ bound → later ≤ asked + (credit + bound)
asked_as asked credit most same = omega arith

-- a part of a sum of at most 64
pub part_within : (rest : ℕ) {n k : ℕ} → n ≤ 64 → 64 + rest ≤ k → n ≤ k
part_within rest most all = omega arith

pub part_counted : (rest : ℕ) {n k : ℕ} → n ≤ 64 → k ≡ 64 + rest → n ≤ k
part_counted rest most all = omega arith

pub asked_within : (n asked : ℕ) {later k : ℕ} → later ≤ asked + n → n ≤ k → later ≤ asked + k
asked_within n asked known most = omega arith
