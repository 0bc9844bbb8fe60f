-- Who needs a shared library, by its symbols one after the other.
use Rattle.std.proofs.Common.{◌≡◌, ℕ, ◌+◌, ◌-◌, ◌<◌, ◌≤◌, List, [], ◌∷◌, ◌++◌, refl, sym, ap, subst, ◌∙◌}
use Rattle.std.specs.Prelude.{Option, None, Some, Ok}
use Rattle.elf_model.specs.LinkArchives.{refusal_of}
use Rattle.elf_model.specs.LinkKeys.{LinkKeys, LinkSymbol}
use Rattle.elf_model.specs.declared.link_states.SharedDefinition.{SharedDefinition}
use Rattle.elf_model.specs.declared.link_states.SymbolRole.TheVariants.{Shared}
use Rattle.elf_model.specs.declared.link_states.SymbolUse.{SymbolUse}
use Rattle.elf_resolve.specs.KeyMarks.{NotedKeys}
use Rattle.elf_resolve.specs.LibraryKeys.{LibraryVersions, library_symbol_at, library_symbols_from}
use Rattle.elf_resolve.specs.LibraryNeeds.{FindsNeed, NeededRows, default_need, joined_need, name_need, need_of_names, need_of_role, need_of_symbol, needs_joined, no_need}
use Rattle.elf_resolve.specs.LibraryTables.{HoldsLibrarySymbol}
use Rattle.elf_resolve.specs.ObjectSymbols.{HoldsSome}
use Rattle.elf_resolve.specs.StringBuffers.{HoldsText}
use Rattle.elf_resolve.specs.Taken.{IsLinkFault}
use Rattle.elf_resolve.specs.declared.library_needs.LibraryNeed.{LibraryNeed}
use Rattle.elf_resolve.specs.declared.library_symbols.LibrarySymbol.{LibrarySymbol}
use Rattle.elf_resolve.specs.declared.link_faults.LinkFault.{LinkFault}
use Rattle.elf_resolve.specs.declared.string_buffer.HeldText.{HeldText}
use Rattle.elf_resolve.proofs.FollowedLaws.{followed_all, followed_fault, followed_more, followed_none}
use Rattle.elf_resolve.proofs.LibraryTakenLaws.{library_next, library_rows_end}

needs_joined-append : (keys : LinkKeys) (marks : NotedKeys) (need : LibraryNeed) (first rest : List LinkSymbol) → needs_joined keys marks need (first ++ rest) ≡ needs_joined keys marks (needs_joined keys marks need first) rest
needs_joined-append keys marks need [] rest = refl
needs_joined-append keys marks need (s ∷ first) rest = needs_joined-append keys marks (joined_need need (need_of_symbol keys marks s)) first rest

pub need_rows_none : (file : List ℕ) (versions : LibraryVersions) (table_at first count : ℕ) (keys : LinkKeys) (marks : NotedKeys) → NeededRows file versions table_at first first count keys marks no_need
need_rows_none file versions table_at first count keys marks = ([], followed_none (library_symbols_from file versions table_at first (count - first)), refl)

pub need_rows_more : (file : List ℕ) (versions : LibraryVersions) (table_at first index count : ℕ) (keys : LinkKeys) (marks : NotedKeys) (need next : LibraryNeed) → index < count
    → NeededRows file versions table_at first index count keys marks need
    → (symbols : List LinkSymbol) × (library_symbol_at file versions table_at index ≡ Ok symbols) × (next ≡ needs_joined keys marks need symbols)
    → NeededRows file versions table_at first (index + 1) count keys marks next
need_rows_more file versions table_at first index count keys marks need next below before more =
    let one = library_symbol_at file versions table_at index in
    let rest = library_symbols_from file versions table_at (index + 1) (count - (index + 1)) in (
      before.0 ++ more.0,
      followed_more (library_symbols_from file versions table_at first (count - first)) (library_symbols_from file versions table_at index (count - index)) one rest before.0 more.0 before.1
          (library_next file versions table_at index count below) more.1,
      more.2 ∙ ap (λ n. needs_joined keys marks n more.0) before.2 ∙ sym (needs_joined-append keys marks no_need before.0 more.0),
    )

pub need_rows_fault : (file : List ℕ) (versions : LibraryVersions) (table_at first index count : ℕ) (keys : LinkKeys) (marks : NotedKeys) (need : LibraryNeed) (fault : LinkFault) → index < count
    → NeededRows file versions table_at first index count keys marks need → IsLinkFault (refusal_of (library_symbol_at file versions table_at index)) fault
    → IsLinkFault (refusal_of (library_symbols_from file versions table_at first (count - first))) fault
need_rows_fault file versions table_at first index count keys marks need fault below before is =
    followed_fault (library_symbols_from file versions table_at first (count - first)) (library_symbols_from file versions table_at index (count - index)) (library_symbol_at file versions table_at index)
    (library_symbols_from file versions table_at (index + 1) (count - (index + 1))) before.0 fault before.1 (library_next file versions table_at index count below) is

pub need_rows_all : (file : List ℕ) (versions : LibraryVersions) (table_at first index count : ℕ) (keys : LinkKeys) (marks : NotedKeys) (need : LibraryNeed) → count ≤ index
    → NeededRows file versions table_at first index count keys marks need → FindsNeed (library_symbols_from file versions table_at first (count - first)) keys marks (Ok need)
need_rows_all file versions table_at first index count keys marks need past before = (
  before.0,
  followed_all (library_symbols_from file versions table_at first (count - first)) (library_symbols_from file versions table_at index (count - index)) before.0 before.1 (library_rows_end file versions table_at index count past),
  before.2,
)

-- WHO NEEDS A LIBRARY by a definition of a default version, or of another
default_held : (bytes : List ℕ) (text : HeldText) (name : Option (List ℕ)) → HoldsSome bytes (Some text) name → (is : List ℕ) × (name ≡ Some is) × HoldsText bytes text is
default_held bytes text None held = absurd held
default_held bytes text (Some name) held = (name, refl, held)

pub need_of_default : (keys : LinkKeys) (marks : NotedKeys) (bytes name default : List ℕ) (found : LibrarySymbol) (text : HeldText) (is : LinkSymbol) (definition : SharedDefinition) → HoldsLibrarySymbol bytes found is
    → found.role ≡ Shared definition → found.default ≡ Some text → ((n : List ℕ) → HoldsText bytes found.name n → name ≡ n) → ((n : List ℕ) → HoldsText bytes text n → default ≡ n)
    → default_need keys marks name default definition ≡ need_of_symbol keys marks is
need_of_default keys marks bytes name default found text is definition held role some named called =
    let d = default_held bytes text is.default_name (subst (λ t. HoldsSome bytes t is.default_name) some held.default_name) in
    ap (λ n. default_need keys marks n default definition) (named is.name held.name) ∙ ap (λ n. default_need keys marks is.name n definition) (called d.0 d.2)
    ∙ sym (ap (λ n. need_of_names keys marks is.name n definition) d.1) ∙ sym (ap (λ r. need_of_role keys marks is.name is.default_name r) (ap (λ (u : SymbolUse). u.role) held.use_is ∙ role))

pub need_of_name : (keys : LinkKeys) (marks : NotedKeys) (bytes name : List ℕ) (found : LibrarySymbol) (is : LinkSymbol) (definition : SharedDefinition) → HoldsLibrarySymbol bytes found is
    → found.role ≡ Shared definition → found.default ≡ None → ((n : List ℕ) → HoldsText bytes found.name n → name ≡ n) → name_need keys marks name definition ≡ need_of_symbol keys marks is
need_of_name keys marks bytes name found is definition held role none named =
    let d : is.default_name ≡ None = subst (λ t. HoldsSome bytes t is.default_name) none held.default_name in
    ap (λ n. name_need keys marks n definition) (named is.name held.name)
    ∙ sym (ap (λ n. need_of_names keys marks is.name n definition) d) ∙ sym (ap (λ r. need_of_role keys marks is.name is.default_name r) (ap (λ (u : SymbolUse). u.role) held.use_is ∙ role))
