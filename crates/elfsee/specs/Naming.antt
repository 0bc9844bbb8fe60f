-- A listing of the rows of some names.
use Rattle.std.specs.Prelude.{ℕ, ◌≡◌, List, codes}
use Rattle.elf_options.specs.Prelude.{named_style, style_of}
use Rattle.elf_options.specs.declared.names_fault.NamesFault.TheVariants.{NoNames, BadName, Memory, Read, TooLarge}
use Rattle.elf_options.specs.declared.caps.ListingStyle.{ListingStyle}
use Rattle.elf_options.specs.declared.names_fault.NamesFault.{NamesFault}
use Rattle.elf_record.specs.declared.parts.Parts.{Parts}
use Rattle.elf_requests.specs.declared.requests.Task.TheVariants.{Show}
use Rattle.elf_requests.specs.declared.requests.Task.{Task}
use Rattle.elfsee.specs.Ends.{EndsWithoutMemory}

-- a task lists these parts, of which only the rows of these names are shown, in a style that is
-- otherwise this one
abbrev pub ShowsRowsOf : List (List ℕ) → Parts → ListingStyle → Task → Type 0
ShowsRowsOf names parts style (Show shown styled) = (shown ≡ parts) × (style_of styled ≡ named_style names (style_of style))
ShowsRowsOf names parts style _ = ⊥

-- how the program ends if there are no names
abbrev pub EndsNames : NamesFault → ℕ → List ℕ → Type 0
EndsNames Read status line = (status ≡ 2) × (line ≡ codes "elfsee: cannot read names")
EndsNames TooLarge status line = (status ≡ 2) × (line ≡ codes "elfsee: names too large")
EndsNames BadName status line = (status ≡ 2) × (line ≡ codes "elfsee: bad name")
EndsNames NoNames status line = (status ≡ 2) × (line ≡ codes "elfsee: no names")
EndsNames Memory status line = EndsWithoutMemory status line

-- there were no names
abbrev pub EndsWithoutNames : ℕ → List ℕ → Type 0
EndsWithoutNames status line = (fault : NamesFault) × EndsNames fault status line
