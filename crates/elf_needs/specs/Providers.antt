-- Which object of a program a needed name leads to.
use Rattle.std.specs.Prelude.{ℕ, if◌then◌else◌, Bool, List, [], slice_index_or, Option, None, Some}
use Rattle.std.specs.List.{list_any}
use Rattle.elf_model.specs.Prelude.{InterpreterAlone, NoProvider, ProvidedBy, Provider, VersionedObjects}
use Rattle.elf_needs.specs.Called.{called_by, is_interpreter_name, is_text}
use Rattle.elf_needs.specs.declared.known_object.ObjectList.{ObjectList}
use Rattle.elf_library.specs.declared.links.NeededLibrary.{NeededLibrary}
use Rattle.elf_needs.specs.declared.providers.LibraryProvider.{LibraryProvider}
use Rattle.elf_needs.specs.declared.providers.LibraryProvider.TheVariants as leads
use Rattle.elf_needs.specs.declared.search_scope.SearchScope.{SearchScope}

-- a DT_NEEDED entry has a name; and one does, of any object
abbrev pub has_needed_name : List (List ℕ) → List ℕ → NeededLibrary → Bool
has_needed_name texts name need = is_text (Some (slice_index_or texts need.name [])) name

abbrev pub is_needed : ObjectList → List ℕ → Bool
is_needed objects name = list_any (has_needed_name objects.links.held.texts name) objects.links.needs

-- if no object has the name, it may be the interpreter's, which is none
abbrev pub provider_without : ObjectList → List ℕ → Provider
provider_without objects name = if is_interpreter_name objects name then InterpreterAlone else NoProvider

abbrev pub provider_called : ObjectList → List ℕ → Option ℕ → Provider
provider_called objects name None = provider_without objects name
provider_called objects name (Some index) = ProvidedBy index

-- WHAT THE ENTRIES FOR A NAME LEAD TO: the first object that has it
abbrev pub provider_of : ObjectList → List ℕ → Provider
provider_of objects name =
    if is_needed objects name then provider_called objects name (called_by objects name) else provider_without objects name

-- what is returned for that
abbrev pub as_provider : LibraryProvider → Provider
as_provider leads.NoObject = NoProvider
as_provider leads.Interpreter = InterpreterAlone
as_provider (leads.Object index) = ProvidedBy index

-- the objects whose files these are, their indices among all objects, and all objects
abbrev pub versioned_of : (files : List (List ℕ)) → (indexes : List ℕ) → ObjectList → VersionedObjects
versioned_of files indexes known = record { files = files; indexes = indexes; provider = provider_of known }

abbrev pub versioned_among : List (List ℕ) → SearchScope → VersionedObjects
versioned_among files scope = versioned_of files scope.indexes.now scope.known.now
