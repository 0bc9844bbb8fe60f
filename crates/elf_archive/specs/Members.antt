-- What a cursor over members returns.
use Rattle.std.specs.Prelude.{ℕ, ◌≡◌, ◌+◌, ◌*◌, ◌^◌, ◌<◌, ◌≤◌, if◌then◌else◌, nat_le, Bool, List, take, Option, None, Some, Result, Ok, Err, IfErr, IfSome, option_map}
use Rattle.elf_source.specs.Source.{CountedState, ReadsUpTo}
use Rattle.elf_table.specs.Prelude.{IsReadFault, Refuses}
use Rattle.elf_table.specs.declared.fault.Fault.{Fault}
use Rattle.elf_model.specs.Prelude.{DisplayedName, FileRange, IsBudgetRefusal, Member, MemberWalkState, OneMember, behind, cost_where, is_elsewhere, is_name_table, long_name_bytes, next_member, shown_as}
use Rattle.elf_model.specs.declared.causes.Cause.{Cause}
use Rattle.elf_model.specs.declared.causes.Cause.TheVariants.{MemberCut}
use Rattle.elf_model.specs.Archive.{Ends, Broken}
use Rattle.elf_table.specs.declared.fault.Fault.TheVariants.{Refused, Source}
use Rattle.elf_archive.specs.declared.member.FileRange.{FileRange as Place}
use Rattle.elf_archive.specs.declared.member.Member.{Member as Given}

-- some bytes of a file
abbrev pub extent_of : Place → FileRange
extent_of place = record { at = place.at; size = place.size }

-- the table of names, if there was one
abbrev pub extent_of_names : Option Place → Option FileRange
extent_of_names names = option_map extent_of names

-- a member, with the shown bytes of its name
abbrev pub member_of : Given → List ℕ → Member
member_of given name = record { index = given.index; extent = extent_of given.extent; name = shown_as given.is_cut name }

-- some bytes lie within a source of this size
abbrev pub IsInBounds : ℕ → FileRange → Type 0
IsInBounds size extent = extent.at + extent.size ≤ size

-- a table of names, if there was one, lies within a source of fewer than 2^63 bytes
pub record NamesInBounds (size : ℕ) (names : Option Place) : Type 0 where
  pub small : size < 2 ^ 63
  pub lies : IfSome (extent_of_names names) (IsInBounds size)

-- a walk over the members is within a source of this size, or just after its end, and has skipped
-- 60 bytes per member
pub record IsMemberWalkInBounds (size : ℕ) (p : MemberWalkState) : Type 0 where
  pub within : p.at ≤ size + 1
  pub passed : 8 + 60 * p.index ≤ p.at
  pub names : IfSome p.names (IsInBounds size)

-- a read of a member's data at an offset returns their range, or refuses for its cause
abbrev pub DataRead : ℕ → Result Place Fault → Result FileRange Cause → Type 0
DataRead at (Ok place) answer = answer ≡ Ok (extent_of place)
DataRead at (Err fault) answer = Refuses at fault answer

-- the range that a header gives is that of its member's data, or there is no valid member
abbrev pub DataTold : Option Place → Result FileRange Cause → Type 0
DataTold (Some place) answer = answer ≡ Ok (extent_of place)
DataTold None answer = answer ≡ Err MemberCut

-- a size that a header gives is that of all its member's data, or there is no valid member
abbrev pub SizeTold : Option ℕ → Result ℕ Cause → Type 0
SizeTold (Some size) answer = answer ≡ Ok size
SizeTold None answer = answer ≡ Err MemberCut

-- a read of a member's name returns whether it is cut, and leaves its bytes, or refuses for its
-- cause
abbrev pub NameShown : ℕ → Result Bool Fault → List ℕ → Result DisplayedName Cause → Type 0
NameShown at (Ok cut) name answer = answer ≡ Ok (shown_as cut name)
NameShown at (Err fault) name answer = Refuses at fault answer

-- a step over the next member: it is returned, with the bytes of its name, or the file's end is
-- reported, or its refusal
abbrev pub ReturnsMember : List ℕ → ℕ → MemberWalkState → MemberWalkState → List ℕ → Result (Option Given) Fault → Type 0
ReturnsMember file cap old new name (Ok None) = next_member file cap old ≡ Ends
ReturnsMember file cap old new name (Ok (Some given)) =
    (next_member file cap old ≡ OneMember (member_of given name)) × (new ≡ behind file old (member_of given name))
ReturnsMember file cap old new name (Err (Refused refusal)) = (IsBudgetRefusal refusal → ⊥) → next_member file cap old ≡ Broken refusal
ReturnsMember file cap old new name (Err (Source fault at)) = Unit {0}

-- what a step skips: a member that it returns lies within the source, after its header, and the
-- walk follows it
pub record PassesMember (size : ℕ) (old new : MemberWalkState) (given : Given) : Type 0 where
  pub index : given.index ≡ old.index
  pub begins : old.at + 60 ≤ given.extent.at
  pub lies : IsInBounds size (extent_of given.extent)
  pub is_at : IsMemberWalkInBounds size new
  pub counts : new.index ≡ old.index + 1
  pub ends : given.extent.at + given.extent.size ≤ new.at

-- the same for a result
abbrev pub StepsOver : ℕ → MemberWalkState → MemberWalkState → Result (Option Given) Fault → Type 0
StepsOver size old new (Ok None) = Unit {0}
StepsOver size old new (Ok (Some given)) = PassesMember size old new given
StepsOver size old new (Err fault) = Unit {0}

-- the table of names after a member with this header and these data: the first one decides
abbrev pub names_passed : Option FileRange → List ℕ → FileRange → Option FileRange
names_passed (Some table) header extent = Some table
names_passed None header extent = if is_name_table header 0 then Some extent else None

-- what a name costs by the header
abbrev pub member_name_cost : List ℕ → ℕ → ℕ
member_name_cost header cap = cost_where (is_elsewhere (take 16 header)) (long_name_bytes cap)

-- what a step over the next member reads at most, for any bytes: nothing if no header fits
abbrev pub step_cost : ℕ → ℕ → MemberWalkState → ℕ
step_cost size cap p = cost_where (nat_le (p.at + 60) size) (60 + long_name_bytes cap)

-- what reads did: they requested at most n bytes, and a fault satisfies `IsReadFault`
abbrev pub AsksAtMost : {X : Type 0} → CountedState → CountedState → Result X Fault → ℕ → Type 0
AsksAtMost old new result n = ReadsUpTo old new n × IfErr result (IsReadFault old new n)
