-- The names that a linker defines itself, by what it makes.
use Rattle.std.specs.Prelude.{ℕ, ◌&&◌, ◌||◌, not, Bool, false, List, bytes_eq, codes, drop, length, take, Option, None, Some, if◌then◌else◌}
use Rattle.std.specs.List.{list_any}
use Rattle.elf_model.specs.LinkKeys.{LinkKeys}
use Rattle.elf_model.specs.LinkLines.{LinkOutput, has_section, linker_names}
use Rattle.elf_resolve.specs.declared.linker_names.OutputKind.{OutputKind}

-- what a link makes
abbrev pub output_of : OutputKind → LinkOutput
output_of output = record { is_shared = output.is_shared; is_dynamic = output.is_dynamic }

-- THE NAMES, apart from the bounds of sections
abbrev pub defines_name : LinkOutput → (name : List ℕ) → Bool
defines_name output name =
    list_any (bytes_eq name) linker_names
    || (output.is_dynamic && bytes_eq name (codes "_DYNAMIC"))
    || (not output.is_shared && bytes_eq name (codes "__tls_get_addr"))

-- what is left of a name after its front, if it begins with that
abbrev pub after_front : (front name : List ℕ) → Option (List ℕ)
after_front front name = if bytes_eq front (take (length front) name) then Some (drop (length front) name) else None

-- THE SECTION whose start or end a name is: no name is both
abbrev pub first_or : Option (List ℕ) → Option (List ℕ) → Option (List ℕ)
first_or None other = other
first_or (Some section) other = Some section

abbrev pub bounded_name : (name : List ℕ) → Option (List ℕ)
bounded_name name = first_or (after_front (codes "__start_") name) (after_front (codes "__stop_") name)

abbrev pub bounds_noted : LinkKeys → Option (List ℕ) → Bool
bounds_noted keys None = false
bounds_noted keys (Some section) = has_section keys section
