-- How walks end, and what they request by the symbols that are tried and the chain words that are
-- read.
use Rattle.std.proofs.Common.{◌≡◌, ℕ, suc, ◌+◌, ◌≤◌, Bool, List, Option, Result, Ok, Err, IfSome, ap, ◌∙◌, arith, mul-le-mul_right, suc-mul}
use Rattle.elf_model.specs.Prelude.{ChainResult as NoteScan, field, refused_walk, slice}
use Rattle.elf_model.specs.declared.causes.Refusal.{Refusal}
use Rattle.elf_model.proofs.Slices.{field-slice}
use Rattle.elf_source.specs.Source.{CountedState}
use Rattle.elf_table.specs.Prelude.{CallReads, IsOfRead, fault_of_result}
use Rattle.elf_table.specs.declared.fault.Fault.{Fault}
use Rattle.elf_table.specs.declared.fault.Fault.TheVariants.{Refused, Source}
use Rattle.elf_hash.specs.Prelude.{GivesWalked, TriesSymbol, WalksChain, index_of, walk_bytes}
use Rattle.elf_hash.specs.declared.chain_result.ChainMatch.{ChainMatch}
use Rattle.elf_hash.specs.declared.chain_result.ChainResult.{ChainResult}
use Rattle.elf_hash.specs.declared.answer.SymbolMatch.{SymbolMatch}

-- eight bytes that are read
pub filter_read : (file : List ℕ) (at word : ℕ) (bytes : List ℕ) → word ≡ field bytes 0 8 → bytes ≡ slice file at 8 → word ≡ field file at 8
filter_read file at word bytes value read =
    value ∙ ap (λ (b : List ℕ). field b 0 8) read ∙ field-slice file at 8 0 8 (omega arith) ∙ ap (λ (p : ℕ). field file p 8) (omega arith)

-- fewer words and symbols
pub bytes_most : (few read tried most_read most_tried cost : ℕ) → read ≤ most_read → tried ≤ most_tried
    → walk_bytes few read tried cost ≤ walk_bytes few most_read most_tried cost
bytes_most few read tried most_read most_tried cost r t = omega (arith, r, mul-le-mul_right cost t)

-- one more symbol
pub bytes_tried : (few read tried cost : ℕ) → walk_bytes few read tried cost + cost ≡ walk_bytes few read (suc tried) cost
bytes_tried few read tried cost = omega (arith, suc-mul tried cost)

-- one more step, in which a symbol is tried and a word is read
pub bytes_step : (few steps most cost : ℕ) → suc steps ≤ most → walk_bytes few steps steps cost + cost + 4 ≤ walk_bytes few most most cost
bytes_step few steps most cost one =
    omega (arith, bytes_tried few steps steps cost, bytes_most few (suc steps) (suc steps) most most cost one one)

module _ (is_at : ℕ → SymbolMatch → Type 0) (few cost : ℕ) (walk : NoteScan) where
  -- how a walk ends that has requested a number of bytes: within its cost, and with its result
  pub record Meets (spent : ℕ) (result : Result ChainResult Fault) : Type 0 where
    pub within : spent ≤ walk_bytes few walk.read walk.tried cost
    pub gives : GivesWalked is_at walk result

  -- and so it has its effect
  pub walks : {old new : CountedState} (spent : ℕ) (result : Result ChainResult Fault)
      → ((most : ℕ) → spent ≤ most → CallReads old new (fault_of_result result) most) → Meets spent result
      → WalksChain is_at few cost walk old new result
  walks spent result costs meets = record { costs = costs _ meets.within; gives = meets.gives }

  pub meets_answer : (spent tried read : ℕ) (found : Option ChainMatch) → walk ≡ record { answer = Ok (index_of found); tried = tried; read = read }
      → spent ≤ walk_bytes few read tried cost → IfSome found (λ f. is_at f.index f.answer)
      → Meets spent (Ok (record { found = found; tried = tried; read = read }))
  meets_answer spent tried read found is within symbol = record { within = rw is within; gives = (is, symbol) }

  pub meets_refusal : (spent tried read : ℕ) (refusal : Refusal) → walk ≡ refused_walk tried read refusal
      → spent ≤ walk_bytes few read tried cost → Meets spent (Err (Refused refusal))
  meets_refusal spent tried read refusal is within = record { within = rw is within; gives = λ other. ap (λ (w : NoteScan). w.answer) is }

  pub meets_fault : (spent tried read : ℕ) (fault : Fault) → IsOfRead fault → tried ≤ walk.tried → read ≤ walk.read
      → spent ≤ walk_bytes few read tried cost → Meets spent (Err fault)
  meets_fault spent tried read (Source fault at) of_read t r within =
      record { within = omega (arith, within, bytes_most few read tried walk.read walk.tried cost r t); gives = tt }
  meets_fault spent tried read (Refused refusal) of_read t r within =
      record { within = omega (arith, within, bytes_most few read tried walk.read walk.tried cost r t); gives = λ other. absurd (other of_read) }

  pub meets_untried : (spent tried read index : ℕ) (says : ℕ → Result Bool Refusal) (fault : Fault) → TriesSymbol is_at says index (Err fault)
      → ((refusal : Refusal) → says index ≡ Err refusal → walk ≡ refused_walk tried read refusal)
      → tried ≤ walk.tried → read ≤ walk.read → spent ≤ walk_bytes few read tried cost → Meets spent (Err fault)
  meets_untried spent tried read index says (Source fault at) tries ends t r within =
      record { within = omega (arith, within, bytes_most few read tried walk.read walk.tried cost r t); gives = tt }
  meets_untried spent tried read index says (Refused refusal) tries ends t r within = record {
    within = omega (arith, within, bytes_most few read tried walk.read walk.tried cost r t);
    gives = λ other. ap (λ (w : NoteScan). w.answer) (ends refusal (tries other));
  }
