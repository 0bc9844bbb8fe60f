-- What a request does: what it writes of a file, what it costs, and what it reads.
use Rattle.std.specs.Prelude.{ℕ, ◌≡◌, ◌≤◌, ◌+◌, ⊤, Bool, List, length, Option, Some, Result, IfErr, IfSome}
use Rattle.elf_model.specs.BytesQuery.{BytesQuery, bytes_answer, bytes_ceiling, bytes_cost}
use Rattle.elf_model.specs.Prelude.{IsAnswered, IsShown, Layout, apply_answer, apply_cost_by_order, find_answer, find_cost, listing_cost, loader_answer, loader_ceiling, loader_cost, looked_at, parse_query, show_answer_by}
use Rattle.elf_model.specs.declared.formats.Format.TheVariants.{Columns}
use Rattle.elf_model.specs.declared.formats.Format.{Format}
use Rattle.elf_source.specs.Prelude.{CountedState, OutGrows, OutState}
use Rattle.elf_options.specs.Prelude.{style_of}
use Rattle.elf_options.specs.declared.caps.Caps.{Caps}
use Rattle.elf_options.specs.declared.caps.Limits.{Limits}
use Rattle.elf_table.specs.declared.run_fault.RunFault.{RunFault}
use Rattle.elf_hash.specs.Lookups.{find_bytes}
use Rattle.elf_reloc.specs.Applied.{apply_ceiling}
use Rattle.elf_reloc.specs.Queried.{query_as}
use Rattle.elf_listing.specs.Reports.{AsksWithin, FaultSays, KeepsSourceUnlimited}
use Rattle.elf_requests.specs.declared.requests.Task.{Task}
use Rattle.elf_requests.specs.declared.requests.Task.TheVariants.{Show, Find, Resolve, Apply, Bytes, Place}
use Rattle.elf_requests.specs.Answers.{Answers, WholeOrUsedUp}

-- at most n bytes are requested, and at most the budget
pub record AsksUpTo (budget : Option ℕ) (old new : CountedState) (n : ℕ) : Type 0 where
  pub most : new.asked ≤ old.asked + n
  pub within : IfSome budget (λ bytes. new.asked ≤ old.asked + bytes)

-- THE EFFECT OF A TASK. For any source: what was written is kept, the source is kept and no limit
-- is left, a fault says what happened, and this is requested. If the file is known: it writes this
-- of it, and requests at most what this costs
pub record Runs (old new : CountedState) (before after : OutState) (result : Result ℕ RunFault) (CountsRead : Type 0) (costs : List ℕ → ℕ) (Gives : List ℕ → Type 0) : Type 0 where
  pub grows : OutGrows before after
  pub leaves : KeepsSourceUnlimited old new
  pub says : IfErr result (FaultSays old new after)
  pub asks : CountsRead
  pub cost : (file : List ℕ) → old.seen.file ≡ Some file → new.asked ≤ old.asked + costs file
  pub text : (file : List ℕ) → old.seen.file ≡ Some file → Gives file

-- a listing, by its caps and its parts
abbrev pub RunsShow : Caps → ℕ → CountedState → CountedState → OutState → OutState → Result ℕ RunFault → Type 0
RunsShow caps parts old new before after result =
    Runs old new before after result (AsksWithin caps parts old new result) (λ file. listing_cost file caps.limits.headers (style_of caps.style) parts)
    (λ file. Answers before after result (IsShown caps.limits.budget file caps.limits.headers (style_of caps.style) parts)
    (WholeOrUsedUp caps.limits.budget old new result (show_answer_by file caps.limits.headers (style_of caps.style) parts)))

-- a lookup of a name, whose result is written in a format
abbrev pub RunsFind : Limits → List ℕ → Format → CountedState → CountedState → OutState → OutState → Result ℕ RunFault → Type 0
RunsFind limits wanted format old new before after result =
    Runs old new before after result (AsksUpTo limits.budget old new (find_bytes old.seen.size limits.headers (length wanted)))
    (λ file. find_cost file limits.headers wanted)
    (λ file. Answers before after result
    (IsAnswered format limits.budget (length file) (find_cost file limits.headers wanted) (find_answer format file limits.headers wanted))
    (WholeOrUsedUp limits.budget old new result (find_answer format file limits.headers wanted)))

-- a lookup as a loader does it, of a name alone or with a version, by the program headers alone or
-- not
abbrev pub RunsResolve : Limits → List ℕ → Bool → Format → CountedState → CountedState → OutState → OutState → Result ℕ RunFault → Type 0
RunsResolve limits text by_segments format old new before after result =
    Runs old new before after result (AsksUpTo limits.budget old new (loader_ceiling old.seen.size limits.headers (parse_query text)))
    (λ file. loader_cost (looked_at by_segments file) limits.headers (parse_query text))
    (λ file. Answers before after result
    (IsAnswered format limits.budget (length file) (loader_cost (looked_at by_segments file) limits.headers (parse_query text))
    (loader_answer format (looked_at by_segments file) limits.headers text))
    (WholeOrUsedUp limits.budget old new result (loader_answer format (looked_at by_segments file) limits.headers text)))

-- a section with its relocations applied
abbrev pub RunsApply : Limits → ℕ → Layout → CountedState → CountedState → OutState → OutState → Result ℕ RunFault → Type 0
RunsApply limits section layout old new before after result =
    Runs old new before after result (AsksUpTo limits.budget old new (apply_ceiling old.seen.size limits.headers layout))
    (λ file. apply_cost_by_order file limits.headers section layout)
    (λ file. Answers before after result
    (IsAnswered Columns limits.budget (length file) (apply_cost_by_order file limits.headers section layout) (apply_answer file limits.headers section layout))
    (λ answer. ⊤))

-- the bytes of a section or of a program header
abbrev pub RunsBytes : Limits → BytesQuery → CountedState → CountedState → OutState → OutState → Result ℕ RunFault → Type 0
RunsBytes limits query old new before after result =
    Runs old new before after result (AsksUpTo limits.budget old new (bytes_ceiling old.seen.size limits.headers query))
    (λ file. bytes_cost file limits.headers query)
    (λ file. Answers before after result
    (IsAnswered Columns limits.budget (length file) (bytes_cost file limits.headers query) (bytes_answer file limits.headers query))
    (λ answer. ⊤))

-- a task, within its limits
abbrev pub RunsTask : Limits → Task → CountedState → CountedState → OutState → OutState → Result ℕ RunFault → Type 0
RunsTask limits (Show parts style) old new before after result = RunsShow (record { limits = limits; style = style }) parts.0 old new before after result
RunsTask limits (Find wanted format) old new before after result = RunsFind limits wanted.bytes.now format old new before after result
RunsTask limits (Resolve wanted by_segments format) old new before after result =
    RunsResolve limits wanted.text.now by_segments format old new before after result
RunsTask limits (Apply section layout explain) old new before after result = RunsApply limits section layout.now old new before after result
RunsTask limits (Bytes query) old new before after result = RunsBytes limits (query_as query) old new before after result
RunsTask limits (Place section addresses explain) old new before after result = RunsApply limits section addresses.now old new before after result
