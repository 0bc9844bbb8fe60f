-- The effect of a lookup over several files.
use Rattle.std.specs.Prelude.{ℕ, suc, ◌≡◌, ◌+◌, ◌<◌, ◌≤◌, List, [], ◌∷◌, length, get_or, Option, Some, Result, Ok, Err, IfErr}
use Rattle.std.specs.List.{sum_by}
use Rattle.elf_model.specs.Prelude.{BoundTo, BoundToNone, IsBudgetRefusal, StoppedIn, SymbolQuery, bound_in}
use Rattle.elf_model.specs.Bindings as model
use Rattle.elf_table.specs.declared.fault.Fault.TheVariants.{Refused, Source}
use Rattle.elf_loader.specs.Lookups.{lookup_bytes}
use Rattle.elf_source.specs.Source.{KeepsSource, SameView}
use Rattle.elf_library.specs.Prelude.{FailsIn, LookupObjectState, SpendsBudget, kept_cost}
use Rattle.elf_needs.specs.declared.bind_name.BindResult.{BindResult}
use Rattle.elf_needs.specs.declared.bind_name.BindResult.TheVariants.{Bound, Unbound}
use Rattle.elf_needs.specs.declared.bind_name.BindFault.{BindFault}

-- how many bytes were requested from all of them
abbrev pub asked_of_all : List LookupObjectState → ℕ
asked_of_all objects = sum_by (λ (o : LookupObjectState). o.src.asked) objects

-- objects are these files, in each of which a given number of headers is allowed
abbrev pub AreObjectFiles : ℕ → List LookupObjectState → List (List ℕ) → Type 0
AreObjectFiles headers [] [] = Unit {0}
AreObjectFiles headers (object ∷ objects) (file ∷ files) =
    (object.src.seen.file ≡ Some file) × (object.headers ≡ headers) × AreObjectFiles headers objects files
AreObjectFiles headers [] (file ∷ files) = ⊥
AreObjectFiles headers (object ∷ objects) [] = ⊥

-- what was requested from one of them, for any source: it is kept, and from a known file at most
-- the cost of the lookup in it
pub record AskedOf (wanted : SymbolQuery) (old new : LookupObjectState) : Type 0 where
  pub keeps : KeepsSource old.src.seen new.src.seen
  pub view : SameView old.src new.src
  pub same_headers : new.headers ≡ old.headers
  pub grows : old.src.asked ≤ new.src.asked
  pub at_most : new.src.asked ≤ old.src.asked + lookup_bytes 28 old.src.seen.size wanted
  pub known : (file : List ℕ) → old.src.seen.file ≡ Some file → new.src.asked ≤ old.src.asked + kept_cost file old.headers wanted

-- the first n were read, and none of the others
pub record AskedFirst (wanted : SymbolQuery) (old new : List LookupObjectState) (n : ℕ) : Type 0 where
  pub same_length : length new ≡ length old
  pub asked : (k : ℕ) (d : LookupObjectState) → k < n → AskedOf wanted (get_or old k d) (get_or new k d)
  pub others : (k : ℕ) (d : LookupObjectState) → n ≤ k → get_or new k d ≡ get_or old k d

-- how many of n were read
abbrev pub reached : ℕ → Result BindResult BindFault → ℕ
reached all (Ok (Bound object symbol)) = suc object
reached all (Ok Unbound) = all
reached all (Err blame) = suc blame.object

-- the result is the definition's; or the refusal, except one for lack of budget
abbrev pub ReturnsBinding : model.Binding → Result BindResult BindFault → Type 0
ReturnsBinding bound (Ok (Bound object symbol)) = bound ≡ BoundTo object symbol
ReturnsBinding bound (Ok Unbound) = bound ≡ BoundToNone
ReturnsBinding bound (Err blame) = elim blame.fault [
  | Refused refusal ↦ (IsBudgetRefusal refusal → ⊥) → bound ≡ StoppedIn blame.object refusal
  | Source fault at ↦ Unit {0}
]

-- THE EFFECT OF A LOOKUP OVER FILES: the files up to the one that defines the name were read, what
-- is left of the budget decreases by what was requested from all, and if all files are known the
-- result is the definition's over them in order
pub record BindsAcross (wanted : SymbolQuery) (old new : List LookupObjectState) (left_old left_new : Option ℕ) (result : Result BindResult BindFault) : Type 0 where
  pub asked : AskedFirst wanted old new (reached (length old) result)
  pub pays : SpendsBudget left_old left_new (asked_of_all old) (asked_of_all new)
  pub says : IfErr result (λ blame. (d : LookupObjectState) → FailsIn wanted (get_or old blame.object d) (get_or new blame.object d) left_new blame.fault)
  pub tells : (headers : ℕ) (files : List (List ℕ)) → AreObjectFiles headers old files → ReturnsBinding (bound_in headers wanted files) result
