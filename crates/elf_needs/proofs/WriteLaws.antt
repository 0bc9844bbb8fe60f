-- The lines of one symbol after another.
use Rattle.std.proofs.Common.{◌≡◌, ℕ, zero, suc, ◌+◌, ◌-◌, ◌<◌, ◌≤◌, ◌||◌, min, length, drop, get_or, arith, Bool, true, false, List, [], ◌∷◌, ◌++◌, inl, Option, None, Some, Result, Ok, Err, refl, sym, ap, subst, ◌∙◌, append_assoc, append-nil}
use Rattle.elf_model.specs.Prelude.{BoundItem, BoundObjects, DynamicSymbols, Faulty, IsBudgetRefusal, LookupTables as IsScopeOf, Told, any_unbound, before_items, bound_item, counted_items, counts_check, first_refusal, hashed_symbol_count, is_failed, is_unbound, items_from, lookup_tables_of, object_items, objects_items, refusal_line, symbols_hashed}
use Rattle.elf_model.specs.declared.states.BindingState.{BindingState}
use Rattle.elf_needs.specs.Bound.{IsBudgetShort, LeadsItems, OnlyShort, ReturnsItem, WritesSymbol, bound_lines}
use Rattle.elf_needs.specs.ItemLines.{ReturnsFault, WritesLines, WritesSoFar}
use Rattle.elf_needs.specs.ListedLines.{listed_binding, listed_line, listed_text}
use Rattle.elf_needs.specs.declared.line_options.LineOptions.{LineOptions}
use Rattle.elf_model.specs.declared.causes.Refusal.{Refusal}
use Rattle.elf_needs.specs.Prelude.{AreObjectFiles}
use Rattle.elf_hash.specs.Prelude.{RefusesAs}
use Rattle.elf_library.specs.Prelude.{CountsHashed, LookupObjectState}
use Rattle.elf_needs.specs.declared.search_scope.WriteEnd.TheVariants.{Cut, Ended, Whole}
use Rattle.elf_library.specs.declared.needs_fault.NeedsFault.{NeedsFault}
use Rattle.elf_library.specs.declared.needs_fault.NeedsFault.TheVariants.{Out}
use Rattle.elf_needs.specs.declared.search_scope.WriteEnd.{WriteEnd}
use Rattle.elf_source.specs.Prelude.{IsOutFault, OutState, SinkTakes, SinkTakesPrefix}
use Rattle.elf_source.specs.declared.faults.OutFault.{OutFault}
use Rattle.elf_source.proofs.PutsLaws.{SinkTakes-nothing}
use Rattle.elf_table.specs.declared.fault.Fault.{Fault}
use Rattle.elf_table.specs.declared.fault.Fault.TheVariants.{Refused, Source}
use Rattle.elf_needs.proofs.AskLaws.{file_here}
use Rattle.elf_needs.proofs.ItemLineLaws.{AreItemLines, ends_cut, ends_fault, ends_last, faulted, so_far_more}

-- the text of items after others, and whether they report that something is missing
text_then : (lines : LineOptions) (a b : List BoundItem) → listed_text lines (a ++ b) ≡ listed_text lines a ++ listed_text lines b
text_then lines [] b = refl
text_then lines (item ∷ a) b = ap (λ (text : List ℕ). listed_line lines item ++ text) (text_then lines a b) ∙ sym (append_assoc (listed_line lines item) (listed_text lines a) (listed_text lines b))

or_assoc : (a b c : Bool) → (a || (b || c)) ≡ ((a || b) || c)
or_assoc true b c = refl
or_assoc false b c = refl

fail_then : (a b : List BoundItem) → any_unbound (a ++ b) ≡ (any_unbound a || any_unbound b)
fail_then [] b = refl
fail_then (item ∷ a) b = ap (λ (e : Bool). is_failed item || e) (fail_then a b) ∙ or_assoc (is_failed item) (any_unbound a) (any_unbound b)

or_false : (a : Bool) → (a || false) ≡ a
or_false true = refl
or_false false = refl

pub bound_are : (lines : LineOptions) → AreItemLines (bound_lines lines)
bound_are lines = record { no_text = refl; none_fails = refl; text_then = text_then lines; fails_then = fail_then }

-- THE LINE OF A FAULT
pub only_of : (objects : List LookupObjectState) (left : Option ℕ) (fault : Fault) → OnlyShort objects left fault → (refusal : Refusal) → fault ≡ Refused refusal → IsBudgetRefusal refusal → IsBudgetShort objects left refusal
only_of objects left (Refused refusal) only other is budget =
    let same : refusal ≡ other = cc in
    subst (λ (r : Refusal). IsBudgetShort objects left r) same (only (subst IsBudgetRefusal (sym same) budget))
only_of objects left (Source fault at) only other is budget = absurd (apart is)
  where
    apart : Source fault at ≡ Refused other → ⊥
    apart e = cc

pub faulted_lines : (lines : LineOptions) (all : List BoundItem) (short : Refusal → Type 0) (fault : Fault) (a b : OutState) (result : Result WriteEnd NeedsFault)
    → ((refusal : Refusal) → fault ≡ Refused refusal → (IsBudgetRefusal refusal → ⊥) → all ≡ Faulty refusal ∷ [])
    → ((refusal : Refusal) → fault ≡ Refused refusal → IsBudgetRefusal refusal → short refusal) → ReturnsFault lines.format fault a b result → WritesLines (bound_lines lines) all short a b result
faulted_lines lines = faulted (bound_are lines) Faulty (λ refusal. (append-nil (refusal_line lines.format refusal), refl))

-- OF A SYMBOL
module _ (lines : LineOptions) (item : Option BoundItem) (object symbol : ℕ) (name : List ℕ) (version : Option (List ℕ)) (short : Refusal → Type 0) where
  item_is : (fault : Fault) → ReturnsItem item object symbol name version (Err fault) → (refusal : Refusal) → fault ≡ Refused refusal → (IsBudgetRefusal refusal → ⊥) → item ≡ Some (Faulty refusal)
  item_is (Refused refusal) tells other is unless = let same : refusal ≡ other = cc in subst (λ (r : Refusal). item ≡ Some (Faulty r)) same (tells (subst (λ (r : Refusal). IsBudgetRefusal r → ⊥) (sym same) unless))
  item_is (Source fault at) tells other is unless = absurd (apart is)
    where
      apart : Source fault at ≡ Refused other → ⊥
      apart e = cc

  leads_fault : (fault : Fault) (a b : OutState) (result : Result WriteEnd NeedsFault) → ReturnsItem item object symbol name version (Err fault) → ReturnsFault lines.format fault a b result → LeadsItems item result
  leads_fault (Refused refusal) a b (Ok (Whole fails)) tells told = absurd told
  leads_fault (Refused refusal) a b (Ok Ended) tells told = let is = tells told.0 in λ rest. rw is refl
  leads_fault (Refused refusal) a b (Ok Cut) tells told = tt
  leads_fault (Refused refusal) a b (Err fault) tells told = tt
  leads_fault (Source fault at) a b result tells told = rw (told.0) tt

  pub symbol_fault : (fault : Fault) (a b : OutState) (result : Result WriteEnd NeedsFault) → ReturnsItem item object symbol name version (Err fault)
      → ((refusal : Refusal) → fault ≡ Refused refusal → IsBudgetRefusal refusal → short refusal) → ReturnsFault lines.format fault a b result → WritesSymbol lines item short a b result
  symbol_fault fault a b result tells only told = record {
    writes = faulted_lines lines (before_items item []) short fault a b result
        (λ refusal is unless. ap (λ (i : Option BoundItem). before_items i []) (item_is fault tells refusal is unless)) only told;
    leads = leads_fault fault a b result tells told;
  }

  pub symbol_none : (a : OutState) → item ≡ None → WritesSymbol lines item short a a (Ok (Whole false))
  symbol_none a is = rw is (record { writes = (SinkTakes-nothing a, refl); leads = λ rest. refl })

  module _ (found : BindingState) (is : item ≡ Some (Told object symbol found name version)) where
    pub symbol_told : (a b : OutState) (fails : Bool) → SinkTakes a b (listed_binding lines object symbol found name version) → fails ≡ is_unbound found → WritesSymbol lines item short a b (Ok (Whole fails))
    symbol_told a b fails takes e = rw is (record {
      writes = (subst (λ (t : List ℕ). SinkTakes a b t) (sym (append-nil (listed_binding lines object symbol found name version))) takes, e ∙ sym (or_false (is_unbound found)));
      leads = λ rest. refl;
    })

    pub symbol_out : (a b : OutState) (fault : OutFault) → SinkTakesPrefix a b (listed_binding lines object symbol found name version) → IsOutFault b fault → WritesSymbol lines item short a b (Err (Out fault))
    symbol_out a b fault takes fails = rw is (record {
      writes = (listed_binding lines object symbol found name version, inl (sym (append-nil (listed_binding lines object symbol found name version))), takes, fails);
      leads = tt;
    })

-- AN OBJECT'S
module _ (objects : BoundObjects) (place : ℕ) (file : List ℕ) (told : IsScopeOf) (found : lookup_tables_of file objects.headers ≡ Ok told) where
  pub items_are : (count : ℕ) → symbols_hashed file told ≡ Ok count → object_items objects place file ≡ items_from objects place file told.symbols 1 (count - 1)
  unfolding object_items counted_items
  items_are count e = rw (found, object_items) (rw (e, counted_items) refl)

  pub items_fault : (refusal : Refusal) → symbols_hashed file told ≡ Err refusal → object_items objects place file ≡ Faulty refusal ∷ []
  unfolding object_items counted_items
  items_fault refusal e = rw (found, object_items) (rw (e, counted_items) refl)

  pub items_refused : (fault : Fault) → RefusesAs (symbols_hashed file told) fault → (refusal : Refusal) → fault ≡ Refused refusal → (IsBudgetRefusal refusal → ⊥) → object_items objects place file ≡ Faulty refusal ∷ []
  items_refused (Refused refusal) tells other is unless =
      let same : refusal ≡ other = cc in
      items_fault other (subst (λ (r : Refusal). symbols_hashed file told ≡ Err r) same (tells (subst (λ (r : Refusal). IsBudgetRefusal r → ⊥) (sym same) unless)))
  items_refused (Source fault at) tells other is unless = absurd (apart is)
    where
      apart : Source fault at ≡ Refused other → ⊥
      apart e = cc

ok_is : (m n : ℕ) → ◌≡◌ {A = Result ℕ Refusal} (Ok m) (Ok n) → m ≡ n
ok_is m n e = cc

err_not : (refusal : Refusal) (n : ℕ) → ◌≡◌ {A = Result ℕ Refusal} (Err refusal) (Ok n) → ⊥
err_not refusal n e = cc

pub hashed_fits : (file : List ℕ) (told : IsScopeOf) (count : ℕ) → symbols_hashed file told ≡ Ok count → count ≤ told.table.symbols
unfolding symbols_hashed
hashed_fits file told count e = go (first_refusal (counts_check file told ∷ [])) refl
  where
    go : (r : Option Refusal) → first_refusal (counts_check file told ∷ []) ≡ r → count ≤ told.table.symbols
    go (Some refusal) is = absurd (err_not refusal count (rw (is, symbols_hashed) at e))
    go None is = let same = ok_is (min (hashed_symbol_count file told) told.table.symbols) count (rw (is, symbols_hashed) at e) in omega (arith, same)

pub items_none : (objects : BoundObjects) (place : ℕ) (file : List ℕ) (symbols : DynamicSymbols) (y count : ℕ) → count ≤ y → items_from objects place file symbols y (count - y) ≡ []
unfolding items_from
items_none objects place file symbols y count past = let none : count - y ≡ 0 = omega (arith, past) in rw (none, items_from) refl

pub items_next : (objects : BoundObjects) (place : ℕ) (file : List ℕ) (symbols : DynamicSymbols) (y count : ℕ) → y < count
    → items_from objects place file symbols y (count - y) ≡ before_items (bound_item objects place file symbols y) (items_from objects place file symbols (y + 1) (count - (y + 1)))
unfolding items_from
items_next objects place file symbols y count less =
    let more : count - y ≡ suc (count - (y + 1)) = omega (arith, less) in
    let next : y + 1 ≡ suc y = omega arith in
    rw (more, next, items_from) refl

-- ALL OBJECTS'
front_file : (n : ℕ) (files : List (List ℕ)) → n < length files → drop n files ≡ get_or files n [] ∷ drop (suc n) files
front_file n [] less = absurd (omega (arith, less))
front_file zero (file ∷ files) less = refl
front_file (suc n) (file ∷ files) less = front_file n files (omega (arith, less))

no_file : (n : ℕ) (files : List (List ℕ)) → length files ≤ n → drop n files ≡ []
no_file zero [] past = refl
no_file (suc n) [] past = refl
no_file zero (file ∷ files) past = absurd (omega (arith, past))
no_file (suc n) (file ∷ files) past = no_file n files (omega (arith, past))

first_items : (objects : BoundObjects) (place : ℕ) (file : List ℕ) (files : List (List ℕ)) → objects_items objects place (file ∷ files) ≡ object_items objects place file ++ objects_items objects (suc place) files
unfolding objects_items
first_items objects place file files = refl

pub objects_next : (objects : BoundObjects) (place : ℕ) (files : List (List ℕ)) → place < length files
    → objects_items objects place (drop place files) ≡ object_items objects place (get_or files place []) ++ objects_items objects (place + 1) (drop (place + 1) files)
objects_next objects place files less =
    let front = front_file place files less in
    let next : place + 1 ≡ suc place = omega arith in
    ap (objects_items objects place) front ∙ first_items objects place (get_or files place []) (drop (suc place) files)
    ∙ ap (λ (p : ℕ). object_items objects place (get_or files place []) ++ objects_items objects p (drop p files)) (sym next)

pub objects_none : (objects : BoundObjects) (place : ℕ) (files : List (List ℕ)) → length files ≤ place → objects_items objects place (drop place files) ≡ []
unfolding objects_items
objects_none objects place files past = let none = no_file place files past in rw (none, objects_items) refl

-- what is left after one symbol's items, whichever they are
pub parts_of : (item : Option BoundItem) (rest : List BoundItem) → (behind : List BoundItem) × (before_items item rest ≡ before_items item [] ++ behind)
parts_of None rest = (rest, refl)
parts_of (Some (Faulty refusal)) rest = ([], refl)
parts_of (Some (Told object symbol found name version)) rest = (rest, refl)

-- how the lines of an object end, and not those of a symbol alone
abbrev pub IsEnd : Result WriteEnd NeedsFault → Type 0
IsEnd (Ok (Whole fails)) = ⊥
IsEnd (Ok Ended) = Unit {0}
IsEnd (Ok Cut) = Unit {0}
IsEnd (Err fault) = Unit {0}

-- THE ITEM OF ONE SYMBOL more is written, and others may be left, or it is the end
module _ {lines : LineOptions} {all : List BoundItem} {a b : OutState} {fails : Bool} (left : List BoundItem) (item : Option BoundItem) (rest : List BoundItem) (c : OutState) (before : WritesSoFar (bound_lines lines) all left a b fails) (next : left ≡ before_items item rest) where
  item_more : (short : Refusal → Type 0) (more : Bool) → WritesSymbol lines item short b c (Ok (Whole more)) → WritesSoFar (bound_lines lines) all rest a c (fails || more)
  item_more short more wrote = so_far_more (bound_are lines) left (before_items item []) rest more before (next ∙ wrote.leads rest) wrote.writes.0 wrote.writes.1

  item_ends : (short : Refusal → Type 0) → (result : Result WriteEnd NeedsFault) → IsEnd result → WritesSymbol lines item short b c result → WritesLines (bound_lines lines) all short a c result
  item_ends short (Ok (Whole more)) end wrote = absurd end
  item_ends short (Ok Ended) end wrote = ends_last (bound_are lines) left (before_items item []) c short short before (next ∙ wrote.leads rest) wrote.writes
  item_ends short (Ok Cut) end wrote = let parts = parts_of item rest in ends_cut (bound_are lines) left (before_items item []) parts.0 c short before (next ∙ parts.1) wrote.writes
  item_ends short (Err fault) end wrote = let parts = parts_of item rest in ends_fault (bound_are lines) left (before_items item []) parts.0 c short before (next ∙ parts.1) fault wrote.writes

-- how many symbols an object has, whose lookup tables are found in its file
pub record SymbolsIn (file : List ℕ) (headers count : ℕ) : Type 0 where
  pub told : IsScopeOf
  pub scope : lookup_tables_of file headers ≡ Ok told
  pub hashed : symbols_hashed file told ≡ Ok count
  pub fits : count ≤ told.table.symbols

pub counted_in : (headers n count : ℕ) (objects : List LookupObjectState) (files : List (List ℕ)) (d new : LookupObjectState) {l0 l1 : Option ℕ} (result : Result ℕ Fault) → result ≡ Ok count
    → CountsHashed (get_or objects n d) new l0 l1 result → AreObjectFiles headers objects files → n < length objects → SymbolsIn (get_or files n []) headers count
counted_in headers n count objects files d new result is counts are less =
    let file = get_or files n [] in
    let here = file_here headers n objects files d are less in
    let counted = counts.known file here.0 in
    let hashed : symbols_hashed file counted.0 ≡ Ok count = rw is at counted.2 in
    record { told = counted.0; scope = ap (lookup_tables_of file) (sym here.1) ∙ counted.1; hashed = hashed; fits = hashed_fits file counted.0 count hashed }

-- THE LINE OF ONE SYMBOL of an object more is written, and it is the last, or others are left
module _ (objects : BoundObjects) (place : ℕ) (file : List ℕ) (count symbol : ℕ) (has : SymbolsIn file objects.headers count) (less : symbol < count) {lines : LineOptions} {a b : OutState} {fails : Bool} (c : OutState)
    (before : WritesSoFar (bound_lines lines) (items_from objects place file has.told.symbols 1 (count - 1)) (items_from objects place file has.told.symbols symbol (count - symbol)) a b fails) where
  pub symbol_more : (short : Refusal → Type 0) (more : Bool) → WritesSymbol lines (bound_item objects place file has.told.symbols symbol) short b c (Ok (Whole more))
      → WritesSoFar (bound_lines lines) (items_from objects place file has.told.symbols 1 (count - 1)) (items_from objects place file has.told.symbols (symbol + 1) (count - (symbol + 1))) a c (fails || more)
  symbol_more short more wrote = item_more _ _ _ c before (items_next objects place file has.told.symbols symbol count less) short more wrote

  pub symbol_ends : (short : Refusal → Type 0) → (result : Result WriteEnd NeedsFault) → IsEnd result → WritesSymbol lines (bound_item objects place file has.told.symbols symbol) short b c result
      → WritesLines (bound_lines lines) (object_items objects place file) short a c result
  symbol_ends short result end wrote =
      subst (λ (all : List BoundItem). WritesLines (bound_lines lines) all short a c result) (sym (items_are objects place file has.told has.scope count has.hashed))
      (item_ends _ _ _ c before (items_next objects place file has.told.symbols symbol count less) short result end wrote)
