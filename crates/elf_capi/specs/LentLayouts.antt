-- A layout of any size, which a caller provides, and what it lacks if a section was refused.
use Rattle.std.specs.Prelude.{ℕ, ◌≡◌, ◌+◌, ◌<◌, ◌≤◌, ◌⊎◌, List, ◌++◌, take, length, Option, None, Some, IfSome}
use Rattle.std.specs.Ordering.{nat_cmp}
use Rattle.elf_model.specs.Prelude.{Cut, DisplayedName, IsBudgetRefusal, Layout, MissingEntry, Searched, apply_cost_by_order, explained, first_refusal, header_checks, load_checks}
use Rattle.elf_model.specs.declared.missing.LayoutAddress.TheVariants.{Entry, Named, Place}
use Rattle.elf_model.specs.declared.missing.LayoutAddress.{LayoutAddress}
use Rattle.elf_model.specs.declared.relocation_types.RelocationBase.TheVariants.{Linkage, Symbol, Table, Thread}
use Rattle.elf_model.specs.declared.causes.Refusal.{Refusal}
use Rattle.elf_model.specs.Names.DisplayedName.{Whole}
use Rattle.elf_reloc.specs.Explained.{explain_bytes}
use Rattle.elf_layout.specs.Prelude.{KeysAscend, MayBorrow, borrowed_as, borrowed_index, named, placed}
use Rattle.elf_layout.specs.declared.addresses.BorrowedLayout.{BorrowedLayout}
use Rattle.elf_capi.specs.Applied.{AppliesFor}
use Rattle.elf_capi.specs.Limits.{AreInRange, budget_of, headers_of}
use Rattle.elf_capi.specs.Told.{IsStatus, Untouched}
use Rattle.elf_capi.specs.declared.end.CallEnd.{CallEnd}
use Rattle.elf_capi.specs.declared.lent_layout.CallerLayout.{CallerLayout}
use Rattle.elf_capi.specs.declared.limits.CallerLimits.{CallerLimits}
use Rattle.elf_capi.specs.declared.missing.CallerMissing.{CallerMissing}
use Rattle.elf_capi.specs.declared.call_status.CallStatus.{CallStatus}
use Rattle.elf_capi.specs.declared.call_status.CallStatus.TheVariants.{Refused, BadCall}

-- A LAYOUT MAY BE BORROWED: the indices of its sections ascend, and of each type its names are
-- valid names of items, and ascend
pub record MayBorrowLayout (layout : CallerLayout) : Type 0 where
  pub sections : KeysAscend nat_cmp borrowed_index layout.sections.now
  pub definitions : MayBorrow layout.definitions.now
  pub linkage : MayBorrow layout.linkage.now
  pub table : MayBorrow layout.table.now
  pub thread : MayBorrow layout.thread.now

-- the layout that it is
abbrev pub lent_layout : CallerLayout → Layout
lent_layout layout = record {
  lookup = Searched;
  sections = placed layout.sections.now;
  definitions = named layout.definitions.now;
  linkage = named layout.linkage.now;
  table = named layout.table.now;
  thread = named layout.thread.now;
}

-- it is returned if it may be borrowed, and not otherwise
abbrev pub GivesLayout : CallerLayout → Option BorrowedLayout → Type 0
GivesLayout layout None = MayBorrowLayout layout → ⊥
GivesLayout layout (Some lent) = MayBorrowLayout layout × (borrowed_as lent ≡ lent_layout layout)

-- the items of which one would help, each type of them as a number: 1 a section, 2 a definition, 4
-- a PLT entry, 8 a GOT entry, 16 a GOT entry for an offset from the thread pointer
abbrev pub helpful : LayoutAddress → ℕ
helpful (Place section) = 1
helpful (Named Symbol) = 2
helpful (Named Linkage) = 6
helpful (Named Table) = 8
helpful (Named Thread) = 16
helpful Entry = 4

-- the section that needs an address, or 0 if a name does
abbrev pub apply_input_of : LayoutAddress → ℕ
apply_input_of (Place section) = section
apply_input_of (Named base) = 0
apply_input_of Entry = 0

-- the name of the entry's symbol: its first 255 bytes, or all
abbrev pub ReturnsSymbol : CallerMissing → DisplayedName → Type 0
ReturnsSymbol missing (Whole name) = (take missing.name_len missing.name ≡ name) × (missing.is_cut ≡ 0)
ReturnsSymbol missing (Cut front) = (take missing.name_len missing.name ≡ front) × (missing.is_cut ≡ 1)

-- WHAT IS MISSING, AS NUMBERS: which items would help, with the number of the relocation type;
-- nothing if none would
abbrev pub ReturnsMissing : CallerMissing → Option MissingEntry → Type 0
ReturnsMissing missing None =
    (missing.helpful ≡ 0) × (missing.section ≡ 0) × (missing.relocation ≡ 0) × (missing.name_len ≡ 0) × (missing.is_cut ≡ 0)
ReturnsMissing missing (Some lack) =
    (missing.helpful ≡ helpful lack.missing.wanted) × (missing.section ≡ apply_input_of lack.missing.wanted)
    × (missing.relocation ≡ lack.missing.kind) × ReturnsSymbol missing lack.name

-- nothing can be known: the file's headers are refused; or it is for lack of budget, which does not
-- suffice to find out too
abbrev pub CannotBeKnown : List ℕ → (headers : ℕ) → Option ℕ → (asked : ℕ) → Type 0
CannotBeKnown file headers budget asked =
    (refusal : Refusal)
    × ((IsBudgetRefusal refusal → ⊥) → first_refusal (header_checks file ++ load_checks file headers) ≡ Some refusal)
    × (IsBudgetRefusal refusal → (bytes : ℕ) × (budget ≡ Some bytes) × (bytes < asked + explain_bytes headers))

-- what a layout lacks if a section was refused, after n bytes that were requested: what would help,
-- or nothing is reported
abbrev pub ExplainsRefusal : List ℕ → (headers : ℕ) → Option ℕ → (section : ℕ) → Layout → (asked : ℕ) → Refusal → CallerMissing → Type 0
ExplainsRefusal file headers budget section layout asked refusal missing =
    ReturnsMissing missing (explained file section layout refusal)
    ⊎ (ReturnsMissing missing None × CannotBeKnown file headers budget asked)

-- the same for a call: if it was not refused nothing is missing
abbrev pub ExplainsTold : List ℕ → (headers : ℕ) → Option ℕ → (section : ℕ) → Layout → (cost : ℕ) → CallStatus → CallerMissing → Type 0
ExplainsTold file headers budget section layout cost (Refused refusal) missing =
    (asked : ℕ) × (asked ≤ cost) × ExplainsRefusal file headers budget section layout asked refusal missing
ExplainsTold file headers budget section layout cost _ missing = ReturnsMissing missing None

-- the effect of a call with its arguments: within the cost and the budget it gives the section for
-- the borrowed layout, and if it is refused what that lacks
pub record Places (file : List ℕ) (limits : CallerLimits) (section : ℕ) (layout : CallerLayout) (room : ℕ) (out : List ℕ) (end : CallEnd) (missing : CallerMissing) (told : CallStatus) : Type 0 where
  pub permitted : AreInRange limits room
  pub lent : MayBorrowLayout layout
  pub applies : AppliesFor file (headers_of limits room) (budget_of limits) section (lent_layout layout) out end.written told
  pub explains : ExplainsTold file (headers_of limits room) (budget_of limits) section (lent_layout layout)
      (apply_cost_by_order file (headers_of limits room) section (lent_layout layout)) told missing
  pub cost : end.asked ≤ apply_cost_by_order file (headers_of limits room) section (lent_layout layout) + explain_bytes (headers_of limits room)
  pub budget : IfSome (budget_of limits) (λ bytes. end.asked ≤ bytes)

-- or its arguments are out of range, and nothing is read and written
abbrev pub PlacesInMemory : List ℕ → CallerLimits → ℕ → CallerLayout → ℕ → List ℕ → List ℕ → CallEnd → CallerMissing → CallStatus → Type 0
PlacesInMemory file limits section layout room before out end missing BadCall =
    (AreInRange limits room → MayBorrowLayout layout → ⊥) × Untouched before out end × ReturnsMissing missing None
PlacesInMemory file limits section layout room before out end missing told = Places file limits section layout room out end missing told

-- no byte of a section that is refused counts as written
abbrev pub CountsWritten : CallEnd → CallStatus → Type 0
CountsWritten end (Refused refusal) = end.written ≡ 0
CountsWritten end _ = Unit {0}

-- WHAT A CALLER HAS of a section in a borrowed layout, with the given bytes of room: the result, as
-- the memory and the numbers have it
pub record IsPlaced (file : List ℕ) (limits : CallerLimits) (section : ℕ) (layout : CallerLayout) (room status : ℕ) (before out : List ℕ) (missing : CallerMissing) (end : CallEnd) : Type 0 where
  pub told : CallStatus
  pub places : PlacesInMemory file limits section layout room before out end missing told
  pub status_is : IsStatus status end told
  pub written : CountsWritten end told
  pub within : end.written ≤ length out
