-- What the values of a command's arguments are, by the rows of the command line.
use Rattle.std.proofs.Common.{◌≡◌, ◌∙◌, ℕ, List, Option, None, Some, Result, Ok, Err, ap, sym, refl, option_map}
use Rattle.std.specs.Prelude.{bytes_eq, find, option_and_then}
use Rattle.std.specs.Str.Parse.{ParsesUnsigned}
use Rattle.clap.specs.Facts.{Entry}
use Rattle.clap.specs.Matches.{ReadsOne, matched_of}
use Rattle.clap.specs.Walk.{Row, Text, row_of, rows_of}
use Rattle.clap.specs.declared.parser.matches.Found.{Found}
use Rattle.clap.specs.declared.parser.matches.ValueSource.{ValueSource}
use Rattle.clap.proofs.WalkLemmas.{find_row}
use Rattle.elf_cli.specs.Options.{HasNumber, is_given, is_of_words}

-- the number that a typed getter reads is that of the value, if the value is a number
pub number_read : (E : Type 0) (G : List ℕ → Result ℕ E → Type 0) (only : (u : List ℕ) (x : Result ℕ E) → G u x → ParsesUnsigned 64 10 u x)
    → (o : Option Text) (r : Option ℕ) → (o ≡ None → r ≡ None) → ((t : Text) → o ≡ Some t → ReadsOne G t r) → (value : Option ℕ) → HasNumber o value → r ≡ value
number_read E G only None r none some value has = none refl ∙ sym has
number_read E G only (Some t) (Some v) none some value has = let is = only t (Ok v) (some t refl) in ap Some is.1 ∙ sym has.1
number_read E G only (Some t) None none some value has = let failed = some t refl in absurd (only t (Err failed.0) failed.1 has.0)

-- where a value comes from, by its row
sourced : (f : Found) (id : Text) → option_and_then (λ a. a.source) (matched_of f id) ≡ option_and_then (λ (r : Row). r.source) (find (λ r. bytes_eq r.id id) (rows_of f))
sourced f id = go (find (λ e. bytes_eq e.0.now id) f.entries.items) ∙ ap (option_and_then (λ (r : Row). r.source)) (sym (find_row f.entries.items id))
  where
    go : (o : Option Entry) → option_and_then (λ a. a.source) (option_map (λ e. e.1) o) ≡ option_and_then (λ (r : Row). r.source) (option_map row_of o)
    go None = refl
    go (Some e) = refl

-- an option is given if its value comes from the command line
pub given : (f : Found) (id : Text) (source : Option ValueSource) → source ≡ option_and_then (λ a. a.source) (matched_of f id) → is_of_words source ≡ is_given id (rows_of f)
given f id source is = ap is_of_words (is ∙ sourced f id)
