-- The layouts that arguments give, one by one.
use Rattle.std.proofs.Common.{◌≡◌, ℕ, zero, suc, ◌+◌, ◌<◌, List, [], ◌∷◌, length, drop, slice_index_or, Result, Err, subst, inl, inr, arith}
use Rattle.std.specs.Borrow.{Bor}
use Rattle.clap.specs.Walk.{Text, texts}
use Rattle.elf_model.specs.Placing.{Layout}
use Rattle.elf_requests.specs.Layouts.{LaysWords, PutsItem, RefusesItem}
use Rattle.elf_cli.specs.declared.faults.RequestFault.{RequestFault}

-- a refused argument decides
pub refused_at : (words : List (Bor Text)) (i : ℕ) (d : Bor Text) (old : Layout) (fault : RequestFault) (result : Result Layout RequestFault) → i < length words
    → RefusesItem (slice_index_or words i d).now old fault → result ≡ Err fault → LaysWords old (texts (drop i words)) result
refused_at [] i d old fault result within refuses is = absurd (omega arith)
refused_at (word ∷ words) zero d old fault result within refuses is = inr (fault, is, refuses)
refused_at (word ∷ words) (suc i) d old fault result within refuses is = refused_at words i d old fault result (omega arith) refuses is

put_before : (words : List (Bor Text)) (i : ℕ) (d : Bor Text) (old new : Layout) (result : Result Layout RequestFault) → i < length words
    → PutsItem (slice_index_or words i d).now old new → LaysWords new (texts (drop (suc i) words)) result → LaysWords old (texts (drop i words)) result
put_before [] i d old new result within puts lays = absurd (omega arith)
put_before (word ∷ words) zero d old new result within puts lays = inl (new, puts, lays)
put_before (word ∷ words) (suc i) d old new result within puts lays = put_before words i d old new result (omega arith) puts lays

-- an argument whose item is added comes before what the remaining arguments give
pub put_at : (words : List (Bor Text)) (i : ℕ) (d : Bor Text) (old new : Layout) (result : Result Layout RequestFault) → i < length words
    → PutsItem (slice_index_or words i d).now old new → LaysWords new (texts (drop (i + 1) words)) result → LaysWords old (texts (drop i words)) result
put_at words i d old new result within puts lays =
    let one : i + 1 ≡ suc i = omega arith in
    put_before words i d old new result within puts (subst (λ n. LaysWords new (texts (drop n words)) result) one lays)
