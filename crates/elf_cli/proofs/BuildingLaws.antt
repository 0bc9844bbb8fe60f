-- What one more argument makes of a command, and tables whose rows are taken one after another.
use Rattle.std.proofs.Common.{◌≡◌, ◌∙◌, ◌≤◌, ◌++◌, ◌∷◌, [], ℕ, Bool, Bor, Err, IfOk, List, Ok, Option, Result, None, ap, length, map, refl, rules, sym, take, true}
use Rattle.std.specs.List.{fold}
use Rattle.std.specs.declared.alloc.AllocError.{AllocError}
use Rattle.std.proofs.lemmas.List.{map_push, take_all}
use Rattle.std.proofs.lemmas.List.Folds.{fold-map}
use Rattle.clap.specs.Simple.{App, app_of_fields, with_rule}
use Rattle.clap.specs.Walk.{Rule}
use Rattle.clap.specs.Adds.{AddsAliases, AddsCommandAliases}
use Rattle.clap.specs.Words.{AddsArg, app_of, rule_of}
use Rattle.clap.specs.declared.builder.arg.Arg.{Arg}
use Rattle.clap.specs.declared.builder.command.Command.{Command}
use Rattle.clap.specs.declared.builder.command.Command.TheViews.{out-Command as fields_of}
use Rattle.clap.specs.Walk.{Text}
use Rattle.elf_cli.specs.Building.{IsArg, IsBuilt}
use Rattle.elf_cli.specs.Described.{rule_of_kind}
use Rattle.elf_cli.specs.declared.arg_specs.ArgKind.{ArgKind}
use Rattle.elf_cli.specs.declared.arg_specs.ArgKind.TheVariants.{Flag, Value, Repeated, Number, Count, Filled, Needed, Index, Optional, Any}

-- no kind of argument has a letter by itself
pub without_letter : (name : Text) (kind : ArgKind) → record (rule_of_kind name kind) { short = None } ≡ rule_of_kind name kind
without_letter name Flag = refl
without_letter name (Value value) = refl
without_letter name (Repeated value) = refl
without_letter name (Number parser) = refl
without_letter name (Count parser default) = refl
without_letter name (Filled value) = refl
without_letter name Needed = refl
without_letter name (Index parser) = refl
without_letter name Optional = refl
without_letter name Any = refl

-- and none has another name
pub without_names : (name : Text) (kind : ArgKind) (letter : Option ℕ)
    → record (record (rule_of_kind name kind) { short = letter }) { aliases = [] } ≡ record (rule_of_kind name kind) { short = letter }
without_names name Flag letter = refl
without_names name (Value value) letter = refl
without_names name (Repeated value) letter = refl
without_names name (Number parser) letter = refl
without_names name (Count parser default) letter = refl
without_names name (Filled value) letter = refl
without_names name Needed letter = refl
without_names name (Index parser) letter = refl
without_names name Optional letter = refl
without_names name Any letter = refl

with_another_name : (rule : Rule) (old new : Arg) (name : Bor Text) (is_shown : Bool) → IsArg rule old → AddsAliases old new ((name, is_shown) ∷ []) → rule.aliases ≡ []
    → IsArg (record rule { aliases = name.now ∷ [] }) new
with_another_name rule old new name is_shown is adds none =
    let names = λ (arg : Arg). map (λ (alias : Bor Text × Bool). alias.0.now) arg.aliases.items in
    let before : names old ≡ [] = ap (λ (r : Rule). r.aliases) is.0 ∙ none in
    let after : names new ≡ name.now ∷ [] =
    ap (map (λ (alias : Bor Text × Bool). alias.0.now)) adds.1 ∙ map_push _ old.aliases.items (name, is_shown) ∙ ap (λ l. l ++ (name.now ∷ [])) before in
    let others : rule_of new ≡ record (rule_of old) { aliases = names new } = ap rule_of adds.0 in
    (others ∙ ap (λ l. record (rule_of old) { aliases = l }) after ∙ ap (λ (r : Rule). record r { aliases = name.now ∷ [] }) is.0, ap (λ (a : Arg). a.global) adds.0 ∙ is.1)

command_with_another_name : (app : App) (old new : Command) (name : Bor Text) (is_shown : Bool) → IsBuilt app old → AddsCommandAliases old new ((name, is_shown) ∷ []) → app.top.aliases ≡ []
    → IsBuilt (record app { top = record app.top { aliases = name.now ∷ [] } }) new
command_with_another_name app old new name is_shown is adds none =
    let names = λ (command : Command). map (λ (alias : Bor Text × Bool). alias.0.now) (fields_of command).aliases.items in
    let before : names old ≡ [] = ap (λ (a : App). a.top.aliases) is.0 ∙ none in
    let after : names new ≡ name.now ∷ [] =
    ap (map (λ (alias : Bor Text × Bool). alias.0.now)) adds.1 ∙ map_push _ (fields_of old).aliases.items (name, is_shown) ∙ ap (λ l. l ++ (name.now ∷ [])) before in
    let others : app_of new ≡ record (app_of old) { top = record (app_of old).top { aliases = names new } } = ap app_of_fields adds.0 in (
      others ∙ ap (λ l. record (app_of old) { top = record (app_of old).top { aliases = l } }) after ∙ ap (λ (a : App). record a { top = record a.top { aliases = name.now ∷ [] } }) is.0,
      ap (λ f. f.has_globals) adds.0 ∙ is.1,
    )

pub is_named : (rule : Rule) (old : Arg) (result : Result Arg AllocError) (name : Bor Text) → IsArg rule old → rule.aliases ≡ [] → IfOk result (λ new. AddsAliases old new ((name, true) ∷ []))
    → IfOk result (IsArg (record rule { aliases = name.now ∷ [] }))
is_named rule old (Ok new) name is none adds = with_another_name rule old new name true is adds none
is_named rule old (Err error) name is none adds = tt

pub command_is_named : (app : App) (old : Command) (result : Result Command AllocError) (name : Bor Text) → IsBuilt app old → app.top.aliases ≡ [] → IfOk result (λ new. AddsCommandAliases old new ((name, true) ∷ []))
    → IfOk result (IsBuilt (record app { top = record app.top { aliases = name.now ∷ [] } }))
command_is_named app old (Ok new) name is none adds = command_with_another_name app old new name true is adds none
command_is_named app old (Err error) name is none adds = tt

pub added : (app : App) (rule : Rule) (old new : Command) (arg : Arg) → IsBuilt app old → IsArg rule arg → AddsArg old arg new → IsBuilt (with_rule app rule) new
added app rule old new arg built is adds =
    let shape : app_of new ≡ with_rule (app_of old) (rule_of arg) = adds.shape is.1 in
    (shape ∙ ap (λ a. with_rule a (rule_of arg)) built.0 ∙ ap (with_rule app) is.0, search rules)

-- all rows are taken, each as what it describes
pub all_taken : {A B C : Type 0} (f : B → A → B) (h : C → A) (from : B) (rows : List C) (i : ℕ) (table : List A) → length rows ≤ i
    → map h rows ≡ table → fold (λ b row. f b (h row)) from (take i rows) ≡ fold f from table
all_taken f h from rows i table past is = ap (fold (λ b row. f b (h row)) from) (take_all i rows past) ∙ sym (fold-map f h from rows) ∙ ap (fold f from) is
