-- The names of a list, one per line.
use Rattle.std.specs.Prelude.{◌++◌, ℕ, Bool, true, ◌≡◌, ◌≤◌, ◌<◌, ◌+◌, ◌==◌, ⊤, nat_lt, List, [], length, filter, All, Option, None, Some, Result, Ok, Err}
use Rattle.std.specs.Borrow.{Bor}
use Rattle.std.specs.List.{slice_split}
use Rattle.elf_model.specs.Prelude.{IsWanted, is_complete, parse_query}
use Rattle.elf_options.specs.declared.names_fault.NamesFault.{NamesFault}
use Rattle.elf_options.specs.declared.names_fault.NamesFault.TheVariants.{NoNames, Read, TooLarge, BadName, Memory}

-- the lines of a text: what is between its newlines, before the first and after the last
abbrev pub text_lines : List ℕ → List (List ℕ)
text_lines text = slice_split (λ b. b == 10) text

-- the names of some lines: those that are not empty
abbrev pub line_names : List (List ℕ) → List (List ℕ)
line_names lines = filter (λ line. nat_lt 0 (length line)) lines

-- THE NAMES OF A LIST: a last line without a newline counts, an empty line doesn't, and a carriage
-- return is a byte like others
abbrev pub listed_names : List ℕ → List (List ℕ)
listed_names text = line_names (text_lines text)

-- bytes are a valid row name: 1 to 4,096 of them, none NUL; and if a name may have a version,
-- neither is empty
abbrev pub IsRowName : (versions : Bool) → List ℕ → Type 0
IsRowName versions bytes = IsWanted bytes × (length bytes ≤ 4096) × (versions ≡ true → is_complete (parse_query bytes) ≡ true)

-- the text of a list is the whole file, which has at most 67,108,864 bytes
abbrev pub IsListText : (file text : List ℕ) → Result (Unit {0}) NamesFault → Type 0
IsListText file text (Ok x) = (text ≡ file) × (length file ≤ 67108864)
IsListText file text (Err TooLarge) = 67108864 < length file
IsListText file text (Err Read) = ⊤
IsListText file text (Err Memory) = ⊤
IsListText file text (Err BadName) = ⊥
IsListText file text (Err NoNames) = ⊥

-- why a list gives no names: one is not a valid row name, or memory is exhausted
abbrev pub IsNoNames : (versions : Bool) → List (List ℕ) → NamesFault → Type 0
IsNoNames versions names BadName = All (IsRowName versions) names → ⊥
IsNoNames versions names Memory = ⊤
IsNoNames versions names _ = ⊥

-- why there are none of some arguments and a list: neither has one, or it is the reason of the list
abbrev pub AreNoNames : (versions : Bool) → (words listed : List (List ℕ)) → NamesFault → Type 0
AreNoNames versions words listed NoNames = words ++ listed ≡ []
AreNoNames versions words listed fault = IsNoNames versions listed fault

-- the lines of the rest of a text; none if nothing is left
abbrev pub after_lines : Option (Bor (List ℕ)) → List (List ℕ)
after_lines None = []
after_lines (Some text) = text_lines text.now

-- how many bytes are left of a text, and one for its end
abbrev pub after_bytes : Option (Bor (List ℕ)) → ℕ
after_bytes None = 0
after_bytes (Some text) = length text.now + 1
