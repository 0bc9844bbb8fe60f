-- The lookup of a name is the walk for a symbol that has it.
use Rattle.std.proofs.Common.{◌≡◌, ℕ, ◌+◌, ◌*◌, List, length, Option, None, Some, Result, Ok, Err, refl, sym, ap, subst, ◌∙◌, arith}
use Rattle.elf_model.specs.Prelude.{ChainResult as NoteScan, Lookup as Looked, has_name, linked_at, looked_up, lookup_answer, parse_lookup, section_table_of, symbol_at, sysv_hash, sysv_walked}
use Rattle.elf_model.proofs.SysvWalkLaws.{sysv_walk_is_bounded, sysv_walk_is_lookup}
use Rattle.elf_record.specs.Sym.{IsSym}
use Rattle.elf_source.specs.Source.{CountedState}
use Rattle.elf_table.specs.Prelude.{CallReads, fault_of_result, row_at}
use Rattle.elf_table.specs.declared.fault.Fault.{Fault}
use Rattle.elf_table.specs.declared.fault.Fault.TheVariants.{Refused, Source}
use Rattle.elf_hash.specs.Prelude.{GivesLookup as Finds, GivesWalked, IsHashSection, LooksBySysv, SaysHasName, WalksChain, lookup_in, step_bytes, symbol_bytes, walk_bytes}
use Rattle.elf_hash.specs.declared.chain_result.ChainMatch.{ChainMatch}
use Rattle.elf_hash.specs.declared.chain_result.ChainResult.{ChainResult}
use Rattle.elf_hash.specs.declared.hash_section.HashSection.{HashSection}
use Rattle.elf_hash.specs.declared.answer.SymbolMatch.{SymbolMatch}
use Rattle.elf_hash.proofs.NamedLaws.{row_is}

-- what steps request, each a chain word, a symbol and a name
pub steps_ask : (steps length : ℕ) → walk_bytes 4 steps steps (symbol_bytes length) ≡ 4 + steps * step_bytes length
steps_ask steps length = omega arith

module _ (file : List ℕ) (at : ℕ) (wanted : List ℕ) (s : HashSection) (is : IsHashSection file at s) (entry : s.symbols.entry ≡ 24) where
  abbrev pub is_at : ℕ → SymbolMatch → Type 0
  is_at index answer = IsSym file (row_at s.symbols index) answer.symbol

  abbrev pub walk : NoteScan
  walk = sysv_walked file (section_table_of file at) (sysv_hash wanted) (has_name file (linked_at file at) wanted)

  abbrev pub named : SaysHasName file s.symbols s.names wanted (has_name file (linked_at file at) wanted)
  named = record { table = linked_at file at; start = is.symbols; entry = entry; count = is.count; strings = is.names; says_so = refl }

  looked : looked_up file at wanted ≡ parse_lookup file at walk
  looked = sym (sysv_walk_is_lookup file at wanted)

  finds_found : (found : Option ChainMatch) (tried read : ℕ) → GivesWalked is_at walk (Ok (record { found = found; tried = tried; read = read }))
      → Finds file (looked_up file at wanted) (Ok (lookup_in s.link (record { found = found; tried = tried; read = read })))
  finds_found None tried read gives = looked ∙ ap (parse_lookup file at) gives.0
  finds_found (Some found) tried read gives = (
    symbol_at file (linked_at file at) found.index,
    rw (is.link) (looked ∙ ap (parse_lookup file at) gives.0),
    subst (λ (p : ℕ). IsSym file p found.answer.symbol) (row_is file s.symbols s.names wanted _ named found.index) gives.1,
  )

  fails : (fault : Fault) → GivesWalked is_at walk (Err fault) → Finds file (looked_up file at wanted) (Err fault)
  fails (Refused refusal) gives = λ other. ap (λ (l : Looked). l.answer) looked ∙ ap (lookup_answer file at) (gives other)
  fails (Source fault offset) gives = tt

  charges : {old new : CountedState} (result : Result ChainResult Fault)
      → WalksChain is_at 4 (symbol_bytes (length wanted)) walk old new result
      → CallReads old new (fault_of_result result) (4 + (looked_up file at wanted).compared * step_bytes (length wanted))
  charges result walks =
      let bounded = (sysv_walk_is_bounded file (section_table_of file at) (sysv_hash wanted) (has_name file (linked_at file at) wanted)).0 in
      rw (looked, ← steps_ask walk.tried (length wanted)) (rw bounded at walks.costs)

  pub looks_answered : {old new : CountedState} (w : ChainResult) → WalksChain is_at 4 (symbol_bytes (length wanted)) walk old new (Ok w)
      → LooksBySysv file (looked_up file at wanted) old new (Ok (lookup_in s.link w)) 4 (length wanted)
  looks_answered w walks = record { costs = charges _ walks; finds = finds_found w.found w.tried w.read walks.gives }

  pub looks_failed : {old new : CountedState} (fault : Fault) → WalksChain is_at 4 (symbol_bytes (length wanted)) walk old new (Err fault)
      → LooksBySysv file (looked_up file at wanted) old new (Err fault) 4 (length wanted)
  looks_failed fault walks = record { costs = charges _ walks; finds = fails fault walks.gives }
