-- Where the name of a member is, and how it ends there.
use Rattle.std.specs.Prelude.{ℕ, ◌≡◌, ◌+◌, ◌<◌, ◌≤◌, List, length, take, Option, None, Some, Result, Ok, Err}
use Rattle.elf_model.specs.Prelude.{DisplayedName, capped, cost_where, is_elsewhere, long_name_bytes, long_of, name_in_data, newline_in, short_name, slice, trimmed}
use Rattle.elf_model.specs.declared.causes.Cause.{Cause}
use Rattle.elf_model.specs.declared.causes.Cause.TheVariants.{NameUnended}
use Rattle.elf_archive.specs.Members.{NamesInBounds}
use Rattle.elf_archive.specs.declared.member.FileRange.{FileRange as Place}
use Rattle.elf_archive.specs.declared.name_fronts.NameForm.{NameForm}
use Rattle.elf_archive.specs.declared.name_fronts.NameForm.TheVariants.{Data, Field, Table}
use Rattle.elf_archive.specs.declared.name_fronts.NameFront.{NameFront}

-- the name that some bytes begin with, as it is shown
abbrev pub name_of_front : NameForm → ℕ → List ℕ → Result DisplayedName Cause
name_of_front Field cap front = Ok (capped cap (short_name front))
name_of_front Data cap front = Ok (capped cap (trimmed 0 front))
name_of_front Table cap front = long_of cap front (newline_in front)

-- the bytes that a name begins with are located, or its cause
abbrev pub LocatesName : List ℕ → ℕ → Result NameFront Cause → Result DisplayedName Cause → Type 0
LocatesName file cap (Ok front) answer = answer ≡ name_of_front front.form cap (slice file front.at front.size)
LocatesName file cap (Err cause) answer = answer ≡ Err cause

-- n bytes at an offset lie within a source of this size, if the table of names does
abbrev pub FrontLies : NameForm → ℕ → Option Place → ℕ → ℕ → Type 0
FrontLies Field size names at n = at + n ≤ size
FrontLies Data size names at n = at + n ≤ size
FrontLies Table size names at n = NamesInBounds size names → at + n ≤ size

-- how many of n bytes are read: those of a field are known
abbrev pub front_cost : NameForm → ℕ → ℕ
front_cost Field n = 0
front_cost Data n = n
front_cost Table n = n

-- n bytes of a field begin where it does, and are all of it
abbrev pub IsWhole : NameForm → ℕ → ℕ → ℕ → Type 0
IsWhole Field at begin n = (begin ≡ at) × (n ≡ 16)
IsWhole Data at begin n = Unit {0}
IsWhole Table at begin n = Unit {0}

-- n bytes of the table of names are no more than are looked at
abbrev pub AreFew : NameForm → ℕ → ℕ → Type 0
AreFew Field cap n = Unit {0}
AreFew Data cap n = Unit {0}
AreFew Table cap n = n ≤ cap + 2

-- n bytes of the table of names are some
abbrev pub AreSome : NameForm → ℕ → Type 0
AreSome Field n = Unit {0}
AreSome Data n = Unit {0}
AreSome Table n = 0 < n

-- what is known of the bytes that a name begins with, by the name field of a header at an offset
pub record IsNameFront (field : List ℕ) (names : Option Place) (at cap : ℕ) (front : NameFront) : Type 0 where
  pub most : front.size ≤ 4098
  pub few : AreFew front.form cap front.size
  pub whole : IsWhole front.form at front.at front.size
  pub cost : front_cost front.form front.size ≤ cost_where (is_elsewhere field) (long_name_bytes cap)
  pub lies : (size : ℕ) → at + 60 + name_in_data field ≤ size → FrontLies front.form size names front.at front.size

-- bytes of the table of names begin with a name of the given length, or they end before the name
-- does
abbrev pub TellsLineLength : List ℕ → ℕ → Option ℕ → Type 0
TellsLineLength front cap (Some size) =
    (size ≤ length front) × (0 < length front) × (long_of cap front (newline_in front) ≡ Ok (capped cap (take size front)))
TellsLineLength front cap None = long_of cap front (newline_in front) ≡ Err NameUnended

-- the same for bytes anywhere
abbrev pub TellsLength : NameForm → List ℕ → ℕ → Option ℕ → Type 0
TellsLength form front cap (Some size) =
    (size ≤ length front) × AreSome form (length front) × (name_of_front form cap front ≡ Ok (capped cap (take size front)))
TellsLength form front cap None = name_of_front form cap front ≡ Err NameUnended
