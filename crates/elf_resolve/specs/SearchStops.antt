-- What a search of an archive adds to the rows of a link, and where it stops.
use Rattle.std.specs.Prelude.{⊤, ℕ, ◌≡◌, ◌<◌, ◌++◌, ◌⊎◌, false, List, [], ◌∷◌, length, get_or, Option, None, Some, Result, Ok, Err}
use Rattle.elf_model.specs.LinkArchives.{LinkFiles, link_members, member_bytes, member_refusal, no_member, refusal_of}
use Rattle.elf_model.specs.LinkSymbols.{object_of}
use Rattle.elf_model.specs.declared.link_states.LinkRefusal.{LinkRefusal}
use Rattle.elf_model.specs.declared.link_states.LinkRow.{LinkRow}
use Rattle.elf_resolve.specs.LinkFaults.{MovesWithin}
use Rattle.elf_resolve.specs.RowTables.{LinkRows}
use Rattle.elf_resolve.specs.Taken.{IsLinkFault}
use Rattle.elf_resolve.specs.declared.link_faults.LinkFault.{LinkFault}
use Rattle.elf_resolve.specs.declared.table.LinkStop.{LinkStop}
use Rattle.elf_resolve.specs.declared.table.LinkStop.TheVariants.{TooManyRows}

-- the row of a member of an input that is not refused
pub record IsTakenMember (refusal : ℕ → Option LinkRefusal) (input : ℕ) (row : LinkRow) : Type 0 where
  pub member : ℕ
  pub member_is : row.member ≡ Some member
  pub input_is : row.input ≡ input
  pub unrefused : refusal member ≡ None

abbrev pub AreTakenMembers : (refusal : ℕ → Option LinkRefusal) (input : ℕ) → List LinkRow → Type 0
AreTakenMembers refusal input [] = Unit {0}
AreTakenMembers refusal input (row ∷ rows) = IsTakenMember refusal input row × AreTakenMembers refusal input rows

-- ROWS OF MEMBERS were added, none of which is refused
pub record AddedMembers (refusal : ℕ → Option LinkRefusal) (input : ℕ) (old new : List LinkRow) : Type 0 where
  pub added : List LinkRow
  pub rows : new ≡ old ++ added
  pub taken : AreTakenMembers refusal input added

-- A SEARCH STOPPED at a member, whose row is the last one; the rows are the first ones of those that
-- would have been made
pub record StoppedAtMember (refusal : ℕ → Option LinkRefusal) (stopped : ℕ → Type 0) (input count : ℕ) (old new made : List LinkRow) : Type 0 where
  pub before : List LinkRow
  pub row : LinkRow
  pub member : ℕ
  pub rest : List LinkRow
  pub added : AddedMembers refusal input old before
  pub rows : new ≡ before ++ row ∷ []
  pub made_is : made ≡ new ++ rest
  pub member_is : row.member ≡ Some member
  pub input_is : row.input ≡ input
  pub within : member < count
  pub stops : stopped member

-- or for lack of room for a row, or at a member of which only a definition was asked for
abbrev pub StopsSearch : (refusal : ℕ → Option LinkRefusal) (stopped halted : ℕ → Type 0) (input count : ℕ) (old new made : List LinkRow) → LinkStop → Type 0
StopsSearch refusal stopped halted input count old new made TooManyRows = ⊤
StopsSearch refusal stopped halted input count old new made _ =
    ((member : ℕ) × (member < count) × halted member) ⊎ StoppedAtMember refusal stopped input count old new made

-- a member stops a search for another reason than lack of room for a row
abbrev pub IsMemberStop : LinkStop → Type 0
IsMemberStop TooManyRows = ⊥
IsMemberStop _ = ⊤

-- A SEARCH LACKS ROOM for a row only if there are as many rows as there is room for
abbrev pub FillsRows : LinkRows → LinkStop → Type 0
FillsRows table TooManyRows = length table.rows ≡ table.most
FillsRows table _ = ⊤

-- WHAT A SEARCH ADDS, up to where it stops
abbrev pub AddsMembers : (refusal : ℕ → Option LinkRefusal) (stopped halted : ℕ → Type 0) (input count : ℕ) (old new made : List LinkRow) → Result (Unit {0}) LinkStop → Type 0
AddsMembers refusal stopped halted input count old new made (Ok done) = AddedMembers refusal input old new
AddsMembers refusal stopped halted input count old new made (Err stop) = StopsSearch refusal stopped halted input count old new made stop

-- THE REFUSAL OF EACH MEMBER of a file, if it is known
abbrev pub files_of_headers : (headers : ℕ) → LinkFiles
files_of_headers headers = record { file = λ input. None; is_archive = λ input. false; is_whole = λ input. false; headers = headers }

abbrev pub refusal_in : Option (List ℕ) → (headers member : ℕ) → Option LinkRefusal
refusal_in file headers member = member_refusal (files_of_headers headers) member file

-- the bytes of a file, if they are known
abbrev pub bytes_known : Option (List ℕ) → List ℕ
bytes_known None = []
bytes_known (Some file) = file

-- an offset of a member's refusal has 64 bits in its archive
abbrev pub MovesMember : (headers : ℕ) → List ℕ → (member : ℕ) → Type 0
MovesMember headers file member =
    MovesWithin (get_or (link_members file).members member no_member).extent.at (refusal_of (object_of (member_bytes file (link_members file).members member) headers))

-- a fault is that of a member
abbrev pub IsFaultOfMember : (headers : ℕ) → List ℕ → (member : ℕ) → LinkFault → Type 0
IsFaultOfMember headers file member fault = MovesMember headers file member → IsLinkFault (refusal_in (Some file) headers member) fault

-- the fault that is kept is that of a member that was to be taken
pub record KeepsFault (known : Option (List ℕ)) (headers : ℕ) (kept : Option LinkFault) (asked : Option ℕ) (member : ℕ) : Type 0 where
  pub file : List ℕ
  pub fault : LinkFault
  pub file_is : known ≡ Some file
  pub kept_is : kept ≡ Some fault
  pub not_asked : asked ≡ None
  pub is : member < length (link_members file).members → IsFaultOfMember headers file member fault

-- or that of a limit or the system, when a member was asked for a definition
pub record KeepsLimit (count : ℕ) (kept : Option LinkFault) (member : ℕ) : Type 0 where
  pub fault : LinkFault
  pub kept_is : kept ≡ Some fault
  pub is : member < count → IsLinkFault None fault

-- WHERE A SEARCH OF A FILE ENDS, with the fault that is kept
abbrev pub StopsWith : (headers : ℕ) → List ℕ → (input : ℕ) (old new made : List LinkRow) → (kept : Option LinkFault) → (asked : Option ℕ) → Type 0
StopsWith headers file input old new made kept asked =
    (fault : LinkFault) × (kept ≡ Some fault)
    × (IsLinkFault None fault
    ⊎ ((asked ≡ None) × StoppedAtMember (refusal_in (Some file) headers) (λ member. IsFaultOfMember headers file member fault) input (length (link_members file).members) old new made))

abbrev pub EndsSearch : (headers : ℕ) → List ℕ → (input : ℕ) (old new made : List LinkRow) → (kept : Option LinkFault) → (asked : Option ℕ) → Result (Unit {0}) LinkStop → Type 0
EndsSearch headers file input old new made kept asked (Ok done) = AddedMembers (refusal_in (Some file) headers) input old new
EndsSearch headers file input old new made kept asked (Err TooManyRows) = ⊤
EndsSearch headers file input old new made kept asked (Err _) = StopsWith headers file input old new made kept asked
