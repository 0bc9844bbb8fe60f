-- What a page holds once it was read.
use Rattle.std.proofs.Common.{◌≡◌, ◌++◌, ℕ, List, length, take, take_at}
use Rattle.elf_model.specs.Bytes.{slice}

pub held_as : (file xs ys : List ℕ) (at n : ℕ) → length xs ≡ n → xs ≡ slice file at n → take n (xs ++ ys) ≡ slice file at (length (take n (xs ++ ys)))
held_as file xs ys at n is read = rw (take_at xs ys n is) (rw is read)
