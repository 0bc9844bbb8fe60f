-- The symbols of a file, taken in order.
use Rattle.std.proofs.Common.{◌≡◌, ℕ, zero, suc, ◌+◌, ◌<◌, Bool, true, false, List, [], ◌∷◌, ◌++◌, length, get_or, take, map, refl, sym, ap, subst, ◌∙◌, inl, inr, arith}
use Rattle.std.specs.Prelude.{Option, None, Some}
use Rattle.std.proofs.lemmas.List.{get_or-map, length-map, take_more}
use Rattle.elf_model.specs.LinkKeys.{LinkKeys, LinkSymbol, default_used, entry_named, name_used, prepared, symbol_taken, symbols_taken}
use Rattle.elf_model.specs.LinkSteps.{ends_at}
use Rattle.elf_model.specs.declared.link_states.KeyEntry.{KeyEntry}
use Rattle.elf_resolve.specs.KeyTables.{KeyList}
use Rattle.elf_resolve.specs.Symbols.{LacksRoomForOne, LacksRoomForSome, LacksRoomForSymbol, NotTookSymbol, NotTookSymbols, NotUsedName, TookSymbol, TookSymbols, UsedName, symbol_record}
use Rattle.elf_resolve.specs.declared.symbols.Symbol as given
use Rattle.elf_resolve.specs.declared.table.KeyFault.{KeyFault}

-- a symbol after others
pub symbols_taken-push : (row : Option ℕ) (keys : LinkKeys) (symbols : List LinkSymbol) (s : LinkSymbol) → symbols_taken row keys (symbols ++ s ∷ []) ≡ symbol_taken row (symbols_taken row keys symbols) s
symbols_taken-push row keys [] s = refl
symbols_taken-push row keys (x ∷ xs) s = symbols_taken-push row (symbol_taken row keys x) xs s

-- whether a symbol ends at its first name
abbrev ends_in : LinkKeys → LinkSymbol → Bool
ends_in keys s = ends_at (prepared (entry_named keys s.name) s.symbol).state s.symbol.role

pub ends_as : (keys : LinkKeys) (s : LinkSymbol) (entry before : KeyEntry) → entry ≡ entry_named keys s.name → before ≡ prepared entry s.symbol → ends_in keys s ≡ ends_at before.state s.symbol.role
ends_as keys s entry before known is =
    ap (λ e. ends_at (prepared e s.symbol).state s.symbol.role) (sym known) ∙ ap (λ (e : KeyEntry). ends_at e.state s.symbol.role) (sym is)

taken_as : (row : Option ℕ) (keys : LinkKeys) (s : LinkSymbol) (default : Option (List ℕ)) (ends : Bool) → s.default_name ≡ default → ends_in keys s ≡ ends
    → default_used row (name_used row keys s.name s.symbol) default s.symbol ends ≡ symbol_taken row keys s
unfolding symbol_taken
taken_as row keys s default ends default_is ends_is =
    ap (λ d. default_used row (name_used row keys s.name s.symbol) d s.symbol ends) (sym default_is)
    ∙ ap (λ b. default_used row (name_used row keys s.name s.symbol) s.default_name s.symbol b) (sym ends_is)

-- a symbol of one name; one that ends at its first; and one that uses both
pub first_alone : (old new : KeyList) (s : LinkSymbol) (row : Option ℕ) → s.default_name ≡ None → UsedName old new s.name s.symbol row → TookSymbol old new s row
first_alone old new s row one used = record { keys = used.keys ∙ taken_as row old.keys s None (ends_in old.keys s) one refl; most = used.most; most_further = used.most_further }

pub ends_at_first : (old new : KeyList) (s : LinkSymbol) (row : Option ℕ) (name : List ℕ) → s.default_name ≡ Some name → ends_in old.keys s ≡ true → UsedName old new s.name s.symbol row → TookSymbol old new s row
ends_at_first old new s row name two ends used = record { keys = used.keys ∙ taken_as row old.keys s (Some name) true two ends; most = used.most; most_further = used.most_further }

pub second_used : (old now new : KeyList) (s : LinkSymbol) (row : Option ℕ) (name : List ℕ) → s.default_name ≡ Some name → ends_in old.keys s ≡ false → UsedName old now s.name s.symbol row → UsedName now new name s.symbol row → TookSymbol old new s row
second_used old now new s row name two ends first second = record {
  keys = second.keys ∙ ap (λ k. name_used row k name s.symbol) first.keys ∙ taken_as row old.keys s (Some name) false two ends;
  most = second.most ∙ first.most;
  most_further = second.most_further ∙ first.most_further;
}

-- one whose first name can't be used, and one whose second can't
pub first_not_used : (old new : KeyList) (s : LinkSymbol) (fault : KeyFault) → NotUsedName old new s.name s.symbol fault → NotTookSymbol old new s fault
first_not_used old new s fault first = record { limits = first.limits; full = inl first.full }

pub second_not_used : (old now new : KeyList) (s : LinkSymbol) (row : Option ℕ) (name : List ℕ) (fault : KeyFault) → s.default_name ≡ Some name → UsedName old now s.name s.symbol row → NotUsedName now new name s.symbol fault → NotTookSymbol old new s fault
second_not_used old now new s row name fault two first second = record {
  limits = record { most = second.limits.most ∙ first.most; most_further = second.limits.most_further ∙ first.most_further };
  full = inr (subst (λ d. LacksRoomForSome new d s.symbol fault) (sym two) second.full);
}

-- one symbol more
pub took_more : (old now new : KeyList) (symbols : List given.Symbol) (row : Option ℕ) (i : ℕ) (d : given.Symbol) → i < length symbols → TookSymbols old now (take i (map symbol_record symbols)) row
    → TookSymbol now new (symbol_record (get_or symbols i d)) row → TookSymbols old new (take (i + 1) (map symbol_record symbols)) row
took_more old now new symbols row i d there before one =
    let next : take (i + 1) (map symbol_record symbols) ≡ take i (map symbol_record symbols) ++ symbol_record (get_or symbols i d) ∷ [] =
    take_more (map symbol_record symbols) i (symbol_record d) (omega (arith, length-map symbols symbol_record))
    ∙ ap (λ s. take i (map symbol_record symbols) ++ s ∷ []) (get_or-map symbol_record symbols i d (symbol_record d) there) in
    record {
      keys = rw (next, symbols_taken-push) (one.keys ∙ ap (λ k. symbol_taken row k (symbol_record (get_or symbols i d))) before.keys);
      most = one.most ∙ before.most;
      most_further = one.most_further ∙ before.most_further;
    }

-- one of the symbols can't be taken
one_lacks : (table : KeyList) (fault : KeyFault) (symbols : List given.Symbol) (i : ℕ) (d : given.Symbol) → i < length symbols → LacksRoomForSymbol table (symbol_record (get_or symbols i d)) fault
    → LacksRoomForOne table (map symbol_record symbols) fault
one_lacks table fault [] i d there lacks = absurd (omega (arith, there))
one_lacks table fault (s ∷ symbols) zero d there lacks = inl lacks
one_lacks table fault (s ∷ symbols) (suc i) d there lacks = inr (one_lacks table fault symbols i d (omega (arith, there)) lacks)

pub took_not : (old now new : KeyList) (symbols : List given.Symbol) (row : Option ℕ) (i : ℕ) (d : given.Symbol) (fault : KeyFault) → i < length symbols → TookSymbols old now (take i (map symbol_record symbols)) row
    → NotTookSymbol now new (symbol_record (get_or symbols i d)) fault → NotTookSymbols old new (map symbol_record symbols) fault
took_not old now new symbols row i d fault there before one = record {
  limits = record { most = one.limits.most ∙ before.most; most_further = one.limits.most_further ∙ before.most_further };
  full = one_lacks new fault symbols i d there one.full;
}
