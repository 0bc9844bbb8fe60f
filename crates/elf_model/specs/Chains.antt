-- Walks along the chains of a hash table of either kind, symbol by symbol, for the first symbol
-- that answers. Whether the symbol of an index answers, or why it cannot be tried, is decided by a
-- function, the trial.
use Rattle.std.specs.Prelude.{ℕ, Bool, true, false, Option, None, Some, Result, Ok, Err}
use Rattle.elf_model.specs.declared.causes.Refusal.{Refusal}

-- A HASH TABLE: its offset and size in bytes in the file, and how many symbols the symbol table has
pub record HashTable : Type 0 where
  pub place : ℕ
  pub size : ℕ
  pub symbols : ℕ

-- why a walk ends at a symbol index: no symbol and no chain word has it; the symbol cannot be
-- tried; it answers; the chain ends
pub data WalkEnd : Type 0 where
  NotThere : WalkEnd
  Untried : Refusal → WalkEnd
  Answers : WalkEnd
  Last : WalkEnd

-- why a walk ends at a symbol that is tried: if it does not answer, by the trial's result
abbrev pub end_of_match : Result Bool Refusal → Option WalkEnd → Option WalkEnd
end_of_match (Err refusal) otherwise = Some (Untried refusal)
end_of_match (Ok true) otherwise = Some Answers
end_of_match (Ok false) otherwise = otherwise

-- the result of a walk: the index of the symbol that answers, or that there is none, or a refusal;
-- how many symbols it tries, and how many chain words it reads
pub record ChainResult : Type 0 where
  pub answer : Result (Option ℕ) Refusal
  pub tried : ℕ
  pub read : ℕ

-- no symbol answers, and none is tried
abbrev pub nothing_tried : ChainResult
nothing_tried = record { answer = Ok None; tried = 0; read = 0 }

-- a walk that is refused after this many symbols are tried and this many chain words are read
abbrev pub refused_walk : (tried read : ℕ) → Refusal → ChainResult
refused_walk tried read refusal = record { answer = Err refusal; tried = tried; read = read }
