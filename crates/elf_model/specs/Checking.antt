-- What is printed of a file among many: its state, and its line.
use Rattle.std.specs.Prelude.{[], ◌∷◌, ℕ, ◌≡◌, nat_lt, Bool, true, false, if◌then◌else◌, List, length, codes, Option, None, Some}
use Rattle.elf_model.specs.Budget.{IsBudgeted}
use Rattle.elf_model.specs.Causes.{cause_word}
use Rattle.elf_model.specs.Fields.{CAUSE_WIDTH, Field, Fields, LinePrefix, closed_line, front}
use Rattle.elf_model.specs.Fields.Field.{Decimal, Hexadecimal, Hyphen, ArgSpec}
use Rattle.elf_model.specs.FileLists.{file_magic, undecided}
use Rattle.elf_model.specs.Lines.{named_line}
use Rattle.elf_model.specs.Names.DisplayedName.{Whole}
use Rattle.elf_model.specs.Records.{FILE_HEADER_SIZE}
use Rattle.elf_model.specs.Style.{ListingStyle}
use Rattle.elf_model.specs.declared.causes.Cause.{Cause}
use Rattle.elf_model.specs.declared.causes.Cause.TheVariants.{NotElf, Short}
use Rattle.elf_model.specs.declared.causes.Refusal.{Refusal}
use Rattle.elf_model.specs.declared.formats.Format.{Format}
use Rattle.elf_model.specs.declared.formats.Format.TheVariants.{Columns, Object, Table}
use Rattle.elf_model.specs.declared.states.FileMagic.{FileMagic}
use Rattle.elf_model.specs.declared.states.FileMagic.TheVariants as sort
use Rattle.elf_model.specs.declared.states.FileStatus.{FileStatus}
use Rattle.elf_model.specs.declared.states.FileStatus.TheVariants as state

abbrev pub is_not_elf : Cause → Bool
is_not_elf NotElf = true
is_not_elf _ = false

-- the state by the fault of a listing: a file without the magic number is not ELF
abbrev pub listed_state : Option Refusal → FileStatus
listed_state None = state.Ok
listed_state (Some refusal) = if is_not_elf refusal.cause then state.NoElf else state.Refused refusal

-- the state of a file that is too short for a file header, by what it is
abbrev pub short_file_status : ℕ → FileMagic → FileStatus
short_file_status size sort.Elf = state.Refused (record { at = size; cause = Short })
short_file_status size sort.Undecided = state.Refused undecided
short_file_status size _ = state.NoElf

-- THE STATE of a file within a budget, by the fault of its listing, or if it is too short for a
-- file header by what it is
abbrev pub state_of : Option ℕ → List ℕ → Option Refusal → FileStatus
state_of budget file fault =
    if nat_lt (length file) FILE_HEADER_SIZE then short_file_status (length file) (file_magic false budget file) else listed_state fault

-- a state is that of the listing of a file within a budget: with no budget, of its report
pub record IsStateOf (budget : Option ℕ) (file : List ℕ) (headers : ℕ) (style : ListingStyle) (parts : ℕ) (found : FileStatus) : Type 0 where
  pub text : List ℕ
  pub fault : Option Refusal
  pub listed : IsBudgeted budget file headers style parts text fault
  pub state_is : found ≡ state_of budget file fault

-- the word of a state
unfoldable pub file_status_name : FileStatus → List ℕ
file_status_name state.Ok = codes "ok"
file_status_name (state.Refused refusal) = codes "refused"
file_status_name state.NoElf = codes "no-elf"
file_status_name state.Unread = codes "unread"
file_status_name state.Memory = codes "memory"

-- the width of the column of a cause: none, except in a table
abbrev pub cause_width : Format → ℕ
cause_width Table = CAUSE_WIDTH
cause_width Columns = 0
cause_width Object = 0

-- whether a file is malformed and why, or a hyphen
abbrev pub fault_fields : Format → FileStatus → List Field
fault_fields format (state.Refused refusal) =
    Hexadecimal (codes "place") 16 9 refusal.at ∷ ArgSpec (codes "cause") (cause_width format) (cause_word refusal.cause) ∷ []
fault_fields format _ = Hyphen ∷ []

-- a file's state, and its fault
abbrev check_fields : Format → FileStatus → Fields
check_fields format found = record { letter = codes "C"; fields = ArgSpec (codes "state") 12 (file_status_name found) ∷ fault_fields format found }

-- a file's line up to its path
unfoldable pub check_front : Format → FileStatus → LinePrefix
check_front format found = front format (codes "path") (check_fields format found)

-- the line of a file: its state, whether it is malformed and why, and its path
abbrev pub check_line : Format → FileStatus → List ℕ → List ℕ
check_line format found path = named_line (check_front format found) (Whole path)

-- the last line of a check, if paths could not be named: how many
unfoldable pub unnamed_line : Format → ℕ → List ℕ
unnamed_line format count =
    let word = ArgSpec (codes "state") 12 (codes "unnamed") in
    closed_line format (record { letter = codes "C"; fields = word ∷ [] }) (Decimal (codes "count") 10 count)
