-- Where a link that is refused ends: at the first row that the definition refuses.
use Rattle.std.specs.Prelude.{⊤, ℕ, ◌≡◌, ◌++◌, ◌⊎◌, Bool, true, false, List, [], ◌∷◌, length, take, Option, None, Some, Result, Ok, Err}
use Rattle.std.specs.List.{slice_get}
use Rattle.elf_model.specs.LinkArchives.{LinkFiles, archive_index, link_members, refusal_of, row_refusal}
use Rattle.elf_model.specs.declared.link_states.LinkCause.TheVariants.{ScriptFault}
use Rattle.elf_model.specs.declared.link_states.LinkRefusal.{LinkRefusal}
use Rattle.elf_model.specs.declared.link_states.LinkRow.{LinkRow}
use Rattle.elf_model.specs.declared.link_states.LinkRowKind.{LinkRowKind}
use Rattle.elf_resolve.specs.SearchStops.{MovesMember}
use Rattle.elf_resolve.specs.Taken.{IsLimit, IsLinkFault}
use Rattle.elf_resolve.specs.declared.link_faults.LinkFault.{LinkFault}
use Rattle.elf_resolve.specs.declared.link_faults.LinkFault.TheVariants.{Refused}
use Rattle.elf_resolve.specs.declared.link_files.InputKind.TheVariants.{BadScript}
use Rattle.elf_resolve.specs.declared.link_files.LinkInput.{LinkInput}
use Rattle.elf_resolve.specs.declared.link_files.LinkPlan.{LinkPlan}
use Rattle.elf_resolve.specs.declared.resolver.LinkEnd.{LinkEnd}
use Rattle.elf_resolve.specs.declared.resolver.Resolver.{Resolver}

-- no row is refused
abbrev pub NoneRefused : LinkFiles → List LinkRow → Type 0
NoneRefused files [] = Unit {0}
NoneRefused files (row ∷ rows) = (row_refusal files row ≡ None) × NoneRefused files rows

-- an offset of a member's refusal has 64 bits in its archive
abbrev pub MovesOf : LinkFiles → (member : Option ℕ) → (file : Option (List ℕ)) → Type 0
MovesOf files None file = Unit {0}
MovesOf files (Some member) None = Unit {0}
MovesOf files (Some member) (Some file) = MovesMember files.headers file member

abbrev pub MovesRow : LinkFiles → LinkRow → Type 0
MovesRow files row = MovesOf files row.member (files.file row.input)

-- THE LAST ROW IS REFUSED, and none before it; the rows are the first ones of a whole link, except for
-- the kind of the last
pub record RefusedLast (files : LinkFiles) (rows whole : List LinkRow) (index : Option ℕ) (refusal : LinkRefusal) : Type 0 where
  pub before : List LinkRow
  pub row : LinkRow
  pub rows_are : rows ≡ before ++ row ∷ []
  pub unrefused : NoneRefused files before
  pub index_is : index ≡ Some (length before)
  pub refusal_is : MovesRow files row → row_refusal files row ≡ Some refusal
  pub kind : LinkRowKind
  pub rest : List LinkRow
  pub whole_is : whole ≡ before ++ (record row { kind = kind } ∷ rest)

-- why a link stops: a limit or the system; a script that is refused; or a row
abbrev pub StopsLink : LinkFiles → (is_script : Type 0) → (rows whole : List LinkRow) → (index : Option ℕ) → LinkFault → Type 0
StopsLink files is_script rows whole index (Refused refusal) =
    IsLimit refusal.cause ⊎ ((is_script × (refusal ≡ record { at = 0; cause = ScriptFault })) ⊎ RefusedLast files rows whole index refusal)
StopsLink files is_script rows whole index _ = ⊤

-- THE ROWS AFTER SOMETHING WAS TAKEN: none is refused, or it stops at the last
abbrev pub LeavesRows : {A : Type 0} → LinkFiles → (is_script : Type 0) → Resolver → (whole : List LinkRow) → Result A LinkFault → Type 0
LeavesRows files is_script link whole (Ok done) = NoneRefused files link.link.rows.rows
LeavesRows files is_script link whole (Err fault) = StopsLink files is_script link.link.rows.rows whole link.row fault

-- an input of a plan is a script that is refused
pub record HasBadScript (plan : LinkPlan) : Type 0 where
  pub index : ℕ
  pub input : LinkInput
  pub at : slice_get plan.inputs.items index ≡ Some input
  pub kind_is : input.kind ≡ BadScript

-- A LINK ENDS AT A REFUSAL: that of the first row of the whole link that is refused. The rows are those up
-- to it; only its kind may be another
pub record EndsAtRefusal (files : LinkFiles) (whole rows : List LinkRow) (end : LinkEnd) : Type 0 where
  pub index : ℕ
  pub row : LinkRow
  pub at : slice_get whole index ≡ Some row
  pub refusal_is : MovesRow files row → row_refusal files row ≡ Some end.refusal
  pub none_before : NoneRefused files (take index whole)
  pub row_is : end.row ≡ Some index
  pub kind : LinkRowKind
  pub rows_are : rows ≡ take index whole ++ record row { kind = kind } ∷ []

-- or of a limit, or of a script
abbrev pub EndsLink : LinkFiles → LinkPlan → (whole rows : List LinkRow) → LinkEnd → Type 0
EndsLink files plan whole rows end =
    IsLimit end.refusal.cause ⊎ ((HasBadScript plan × (end.refusal ≡ record { at = 0; cause = ScriptFault })) ⊎ EndsAtRefusal files whole rows end)

-- a fault of the index of an archive that is searched, or of a limit
abbrev pub IsFaultOfIndex : (is_whole : Bool) → List ℕ → LinkFault → Type 0
IsFaultOfIndex true file fault = IsLinkFault None fault
IsFaultOfIndex false file fault = IsLinkFault (refusal_of (archive_index file (link_members file).members)) fault
