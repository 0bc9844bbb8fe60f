-- What a member's header gives, and what the walk does by it.
use Rattle.std.proofs.Common.{◌≡◌, ℕ, ◌+◌, ◌-◌, ◌<◌, ◌≤◌, ◌==◌, ◌&&◌, nat_lt, add-zero, true, false, List, length, take, Option, None, Some, Ok, Err, refl, sym, ap, ◌∙◌, arith}
use Rattle.std.proofs.lemmas.Bool.Decides.{nat_tests}
use Rattle.elf_model.specs.Prelude.{DisplayedName, FileRange, Member, MemberWalkState, OneMember, behind, data_after, field, is_name_table, member_data, member_name, member_size, name_field, name_in_data, names_behind, next_member, padded_end, parsed_member_size, slice}
use Rattle.elf_model.specs.declared.causes.Cause.{Cause}
use Rattle.elf_model.specs.declared.causes.Cause.TheVariants.{MemberCut}
use Rattle.elf_model.specs.Archive.{Ends, Broken}
use Rattle.elf_table.specs.Prelude.{Refuses}
use Rattle.elf_table.specs.declared.fault.Fault.{Fault}
use Rattle.elf_table.specs.declared.fault.Fault.TheVariants.{Refused, Source}
use Rattle.elf_archive.specs.Members.{ReturnsMember, names_passed}
use Rattle.elf_model.proofs.Slices.{slice-slice, field-slice}

-- the size that a header gives is the one that it gives in the file
pub told-of : (file header : List ℕ) (at size : ℕ) → size ≡ 60 → header ≡ slice file at size → parsed_member_size header 0 ≡ parsed_member_size file at
unfolding parsed_member_size
told-of file header at size sixty is =
    rw (is, sixty) (rw (field-slice file at 60 58 2 (omega arith), slice-slice file at 60 48 10 (omega arith)) refl)

pub table-of : (file header : List ℕ) (at : ℕ) → header ≡ slice file at 60 → is_name_table header 0 ≡ is_name_table file at
table-of file header at is =
    rw is (ap (λ n. n == 0x2020202020202f2f && field (slice file at 60) 8 8 == 0x2020202020202020) (field-slice file at 60 0 8 (omega arith) ∙ ap (λ n. field file n 8) (add-zero at))
    ∙ ap (λ n. field file at 8 == 0x2020202020202f2f && n == 0x2020202020202020) (field-slice file at 60 8 8 (omega arith)))

pub name-of : (file header : List ℕ) (at : ℕ) → header ≡ slice file at 60 → take 16 header ≡ name_field file at
name-of file header at is = rw is (slice-slice file at 60 0 16 (omega arith) ∙ ap (λ n. slice file n 16) (add-zero at))

-- no header is at an offset
pub size-short : (file : List ℕ) (at : ℕ) → length file < at + 60 → member_size file at ≡ Err MemberCut
unfolding member_size
size-short file at short = grind (arith, nat_tests)

pub size-none : (file : List ℕ) (at : ℕ) → parsed_member_size file at ≡ None → member_size file at ≡ Err MemberCut
unfolding member_size
size-none file at none = grind (arith, nat_tests, none)

pub size-outside : (file : List ℕ) (at size : ℕ) → parsed_member_size file at ≡ Some size → length file < at + 60 + size → member_size file at ≡ Err MemberCut
unfolding member_size
size-outside file at size told outside = grind (arith, nat_tests, told)

pub size-inside : (file : List ℕ) (at size : ℕ) → parsed_member_size file at ≡ Some size → at + 60 + size ≤ length file → member_size file at ≡ Ok size
unfolding member_size
size-inside file at size told inside = grind (arith, nat_tests, told)

-- the data of a member, after a name at their start
pub data-none : (file : List ℕ) (at : ℕ) → member_size file at ≡ Err MemberCut → member_data file at ≡ Err MemberCut
unfolding member_data
data-none file at none = rw (none, member_data) refl

data-is : (file header : List ℕ) (at size : ℕ) → header ≡ slice file at 60 → member_size file at ≡ Ok size → member_data file at ≡ data_after (at + 60) size (name_in_data (take 16 header))
unfolding member_data
data-is file header at size is told = rw (told, member_data) (ap (λ field. data_after (at + 60) size (name_in_data field)) (sym (name-of file header at is)))

behind-short : (at size name : ℕ) → size < name → data_after at size name ≡ Err MemberCut
unfolding data_after
behind-short at size name short = let less : nat_lt size name ≡ true = grind (arith, nat_tests) in rw (less, data_after) refl

behind-told : (at size name : ℕ) → name ≤ size → data_after at size name ≡ Ok (record { at = at + name; size = size - name })
unfolding data_after
behind-told at size name room = let no : nat_lt size name ≡ false = grind (arith, nat_tests) in rw (no, data_after) refl

pub data-short : (file header : List ℕ) (at size : ℕ) → header ≡ slice file at 60 → member_size file at ≡ Ok size → size < name_in_data (take 16 header) → member_data file at ≡ Err MemberCut
data-short file header at size is told short = data-is file header at size is told ∙ behind-short (at + 60) size (name_in_data (take 16 header)) short

pub data-told : (file header : List ℕ) (at size : ℕ) → header ≡ slice file at 60 → member_size file at ≡ Ok size → name_in_data (take 16 header) ≤ size
    → member_data file at ≡ Ok (record { at = at + 60 + name_in_data (take 16 header); size = size - name_in_data (take 16 header) })
data-told file header at size is told room = data-is file header at size is told ∙ behind-told (at + 60) size (name_in_data (take 16 header)) room

-- the walk at the file's end
pub next-ends : (file : List ℕ) (cap : ℕ) (p : MemberWalkState) → length file ≤ p.at → next_member file cap p ≡ Ends
unfolding next_member
next-ends file cap p past = let no : nat_lt p.at (length file) ≡ false = grind (arith, nat_tests) in rw no refl

-- at an offset without a valid member
pub next-cut : (file : List ℕ) (cap : ℕ) (p : MemberWalkState) (cause : Cause) → p.at < length file → member_data file p.at ≡ Err cause
    → next_member file cap p ≡ Broken (record { at = p.at; cause = cause })
unfolding next_member
next-cut file cap p cause below cut = let yes : nat_lt p.at (length file) ≡ true = grind (arith, nat_tests) in rw (yes, cut) refl

-- if its name is refused
pub next-unnamed : (file : List ℕ) (cap : ℕ) (extent : FileRange) (p : MemberWalkState) (cause : Cause) → p.at < length file → member_data file p.at ≡ Ok extent → member_name file cap p.names p.at ≡ Err cause
    → next_member file cap p ≡ Broken (record { at = p.at; cause = cause })
unfolding next_member
next-unnamed file cap extent p cause below told cut = let yes : nat_lt p.at (length file) ≡ true = grind (arith, nat_tests) in rw (yes, told, cut) refl

-- a member
pub next-member : (file : List ℕ) (cap : ℕ) (extent : FileRange) (p : MemberWalkState) (name : DisplayedName) → p.at < length file → member_data file p.at ≡ Ok extent → member_name file cap p.names p.at ≡ Ok name
    → next_member file cap p ≡ OneMember (record { index = p.index; extent = extent; name = name })
unfolding next_member
next-member file cap extent p name below told named = let yes : nat_lt p.at (length file) ≡ true = grind (arith, nat_tests) in rw (yes, told, named) refl

-- what a refusal of the header, or of the name, says of the walk
pub tells-data : (file name : List ℕ) (cap : ℕ) (p : MemberWalkState) (fault : Fault) → p.at < length file → Refuses p.at fault (member_data file p.at) → ReturnsMember file cap p p name (Err fault)
tells-data file name cap p (Refused refusal) below says = λ other.
    let said = says other in
    next-cut file cap p refusal.cause below said.1 ∙ ap (λ (a : ℕ). Broken (record { at = a; cause = refusal.cause })) (sym said.0)
tells-data file name cap p (Source fault at) below says = tt

pub tells-name : (file name : List ℕ) (cap : ℕ) (extent : FileRange) (p : MemberWalkState) (fault : Fault) → p.at < length file → member_data file p.at ≡ Ok extent
    → Refuses p.at fault (member_name file cap p.names p.at) → ReturnsMember file cap p p name (Err fault)
tells-name file name cap extent p (Refused refusal) below told says = λ other.
    let said = says other in
    next-unnamed file cap extent p refusal.cause below told said.1 ∙ ap (λ (a : ℕ). Broken (record { at = a; cause = refusal.cause })) (sym said.0)
tells-name file name cap extent p (Source fault at) below told says = tt

-- the table of names after a member, by its header
passed : (file header : List ℕ) (p : MemberWalkState) (extent : FileRange) → header ≡ slice file p.at 60 → names_passed p.names header extent ≡ names_behind file p extent
passed file header p extent is = go p.names refl
  where
    go : (names : Option FileRange) → p.names ≡ names → names_passed p.names header extent ≡ names_behind file p extent
    go (Some table) e = rw e refl
    go None e = rw (e, table-of file header p.at is) refl

-- the walk after a member, by its header
pub behind-is : (file header : List ℕ) (p new : MemberWalkState) (m : Member) → header ≡ slice file p.at 60 → new.at ≡ padded_end p.at (m.extent.at + m.extent.size)
    → new.index ≡ p.index + 1 → new.names ≡ names_passed p.names header m.extent → new ≡ behind file p m
behind-is file header p new m is at index names =
    let all = names ∙ passed file header p m.extent is in
    rw (← at, ← index, ← all) refl
