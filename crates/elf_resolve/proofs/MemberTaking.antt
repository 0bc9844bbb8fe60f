-- A member of a known archive: where it is, its table of names, and what is taken of it.
use Rattle.std.proofs.Common.{◌≡◌, ◌==◌, ◌&&◌, ◌||◌, add-zero, ℕ, zero, suc, ◌+◌, ◌-◌, ◌<◌, ◌≤◌, Bool, true, false, nat_lt, nat_le, List, [], ◌∷◌, length, get_or, Option, None, Some, Result, Ok, Err, refl, sym, ap, subst, ◌∙◌, arith}
use Rattle.std.specs.Prelude.{IfSome, if◌then◌else◌, map, not, option_map}
use Rattle.std.proofs.lemmas.Bool.Decides.{nat_tests}
use Rattle.elf_archive.specs.Members.{IsInBounds}
use Rattle.elf_model.specs.Archive.{FileRange, bytes_in, is_name_table, member_data, member_name}
use Rattle.elf_model.specs.Bytes.{field, slice}
use Rattle.elf_model.specs.LinkArchives.{LINK_NAME_BYTES, LinkFiles, LinkMember, is_archive_index, link_member_name, link_members, member_bytes, member_refusal, members_as_objects, moved, name_table, no_member, or_empty, refusal_of, refused_after_name, table_before}
use Rattle.elf_model.specs.LinkObjects.{LinkObject}
use Rattle.elf_model.specs.LinkSymbols.{object_defines, object_of}
use Rattle.elf_model.specs.Names.{DisplayedName}
use Rattle.elf_model.specs.declared.causes.Cause.{Cause}
use Rattle.elf_model.specs.declared.link_states.LinkRefusal.{LinkRefusal}
use Rattle.elf_resolve.specs.KeyTables.{KeyList}
use Rattle.elf_resolve.specs.LinkFaults.{MovesWithin}
use Rattle.elf_resolve.specs.LinkMembers.{KnownMembers, TookMember, file_of_range, is_file_member, members_by_file, range_before, whole_file_of}
use Rattle.elf_resolve.specs.MemberNames.{NamedMember, named_refusal}
use Rattle.elf_resolve.specs.Passing.{TookObject}
use Rattle.elf_resolve.specs.Taken.{IsLinkFault, TakesObject, data_of, header_of}
use Rattle.elf_resolve.specs.declared.link_faults.LinkFault.{LinkFault}
use Rattle.elf_source.specs.Ranges.{IsWholeRange, Narrows, Widens, file_within}
use Rattle.elf_source.specs.Source.{CountedState, RangeParent}
use Rattle.elf_model.proofs.Slices.{field-slice}
use Rattle.elf_resolve.proofs.MemberPasses.{table_by}
use Rattle.elf_resolve.proofs.LinkFaultLaws.{fault_of_any}
use Rattle.elf_resolve.proofs.MemberOffsets.{header_is}
use Rattle.elf_resolve.proofs.MemberWalks.{data_after_header, data_within_file, finds_members}

-- ALL BYTES of the file of a range, and a part of them
pub widened_file : (old new : CountedState) (file : List ℕ) → Widens old new → file_of_range old.seen ≡ Some file → new.seen.file ≡ Some file
widened_file old new file w held = sym (ap whole_file_of w.is_whole) ∙ ap whole_file_of w.same_whole ∙ held

pub narrowed_file : (a b : CountedState) (file : List ℕ) (start size : ℕ) → Narrows a b start size → IsWholeRange a.seen → a.seen.file ≡ Some file → b.seen.file ≡ Some (slice file start size)
narrowed_file a b file start size n whole held = n.file_is (record { size = a.seen.size; file = a.seen.file }) whole ∙ ap (λ f. file_within f start size) held

-- THE MEMBER of an index
abbrev pub member_of_index : List ℕ → (member : ℕ) → LinkMember
member_of_index file member = get_or (link_members file).members member no_member

pub header_of_index : (file offsets : List ℕ) (member at : ℕ) → offsets ≡ map header_of (link_members file).members → member < length (link_members file).members → at ≡ get_or offsets member 0 → (member_of_index file member).header ≡ at
header_of_index file offsets member at are below is =
    sym (header_is (link_members file).members member below) ∙ ap (λ l. get_or l member 0) (sym are) ∙ sym is

pub data_of_index : (file : List ℕ) (member at : ℕ) → member < length (link_members file).members → (member_of_index file member).header ≡ at → member_data file at ≡ Ok (member_of_index file member).extent
data_of_index file member at below is = ap (λ n. member_data file n) (sym is) ∙ (finds_members file).told member below

pub extent_of_index : (file : List ℕ) (member at : ℕ) (extent : FileRange) → member < length (link_members file).members → (member_of_index file member).header ≡ at → member_data file at ≡ Ok extent
    → extent ≡ (member_of_index file member).extent
extent_of_index file member at extent below here told = let both : Ok extent ≡ Ok (member_of_index file member).extent = sym told ∙ data_of_index file member at below here in cc

-- MEMBERS THAT ARE KNOWN
pub known_object : (file : List ℕ) (whole : Option RangeParent) (headers member : ℕ) → whole_file_of whole ≡ Some file
    → (members_by_file (whole_file_of whole) headers).objects member ≡ or_empty (object_of (member_bytes file (link_members file).members member) headers)
unfolding members_as_objects
known_object file whole headers member is = ap (λ f. (members_by_file f headers).objects member) is

pub known_defines : (file : List ℕ) (whole : Option RangeParent) (headers member : ℕ) (name : List ℕ) → whole_file_of whole ≡ Some file
    → (members_by_file (whole_file_of whole) headers).defines member name ≡ (members_by_file (Some file) headers).defines member name
known_defines file whole headers member name is = ap (λ f. (members_by_file f headers).defines member name) is

pub defines_by : (file : List ℕ) (headers member : ℕ) (name : List ℕ) → object_defines (member_bytes file (link_members file).members member) headers name ≡ (members_by_file (Some file) headers).defines member name
unfolding members_as_objects
defines_by file headers member name = refl

pub same_members : (old new : Option RangeParent) (before after : ℕ) → new ≡ old → after ≡ before → members_by_file (whole_file_of new) after ≡ members_by_file (whole_file_of old) before
same_members old new before after whole headers =
    ap (λ w. members_by_file (whole_file_of w) after) whole ∙ ap (λ h. members_by_file (whole_file_of old) h) headers

pub still_known : (old new : Option RangeParent) (offsets kept : List ℕ) (names others : Option FileRange) → new ≡ old → kept ≡ offsets → others ≡ names → KnownMembers old offsets names → KnownMembers new kept others
still_known old new offsets kept names others whole same named known =
    record { file = known.file; is = ap whole_file_of whole ∙ known.is; unrefused = known.unrefused; offsets_are = same ∙ known.offsets_are; names_are = named ∙ known.names_are }

-- files of which only the number of headers counts
abbrev pub files_with : (headers : ℕ) → LinkFiles
files_with headers = record { file = λ input. None; is_archive = λ input. false; is_whole = λ input. false; headers = headers }

-- a header that was read says what its member is
pub index_by : (file header : List ℕ) (at : ℕ) → header ≡ slice file at 60 → is_archive_index header 0 ≡ is_archive_index file at
index_by file header at is =
    rw is (ap (λ n. n == 0x2020202020202020 && (field (slice file at 60) 0 8 == 0x202020202020202f || field (slice file at 60) 0 8 == 0x202f34364d59532f)) (field-slice file at 60 8 8 (omega arith))
    ∙ ap (λ n. field file (at + 8) 8 == 0x2020202020202020 && (n == 0x202020202020202f || n == 0x202f34364d59532f)) (field-slice file at 60 0 8 (omega arith) ∙ ap (λ n. field file n 8) (add-zero at)))

pub file_by : (file header : List ℕ) (at place : ℕ) (is_none is_file : Bool) → header ≡ slice file at 60 → place ≡ at → is_none ≡ (is_archive_index header 0 || is_name_table header 0) → is_file ≡ not is_none
    → is_file ≡ is_file_member file place
file_by file header at place is_none is_file is here none negated =
    negated ∙ ap not (none ∙ ap (λ t. t || is_name_table header 0) (index_by file header at is) ∙ ap (λ t. is_archive_index file at || t) (table_by file header at is)) ∙ ap (λ n. is_file_member file n) (sym here)

-- ITS TABLE OF NAMES
abbrev IsThere : List LinkMember → LinkMember → Type 0
IsThere members table = (k : ℕ) × (k < length members) × (get_or members k no_member ≡ table)

there_by : (t : Bool) (file : List ℕ) (m : LinkMember) (members : List LinkMember) (table : LinkMember) → is_name_table file m.header ≡ t → (name_table file members ≡ Some table → IsThere members table)
    → name_table file (m ∷ members) ≡ Some table → IsThere (m ∷ members) table
there_by true file m members table named later is =
    let first = rw named at is in
    let same : m ≡ table = cc in
    (zero, omega arith, same)
there_by false file m members table other later is =
    let rest = later (rw other at is) in
    (suc rest.0, omega (arith, rest.1), rest.2)

table_there : (file : List ℕ) (members : List LinkMember) (table : LinkMember) → name_table file members ≡ Some table → IsThere members table
table_there file [] table is = absurd (cc)
table_there file (m ∷ members) table is = there_by (is_name_table file m.header) file m members table refl (table_there file members table) is

ascend : (file : List ℕ) (i distance : ℕ) → i + distance < length (link_members file).members → (member_of_index file i).header ≤ (member_of_index file (i + distance)).header
ascend file i zero below = let same : i + zero ≡ i = omega arith in omega (arith, ap (λ n. (member_of_index file n).header) same)
ascend file i (suc distance) below =
    let next : i + suc distance ≡ i + distance + 1 = omega arith in
    omega (arith, ascend file i distance (omega (arith, below)), (finds_members file).rises (i + distance) (omega (arith, below)), ap (λ n. (member_of_index file n).header) next)

no_later : (file : List ℕ) (i j : ℕ) → i ≤ j → j < length (link_members file).members → (member_of_index file i).header ≤ (member_of_index file j).header
no_later file i j order below =
    let there : i + (j - i) ≡ j = omega (arith, order) in
    omega (arith, ascend file i (j - i) (omega (arith, below, there)), ap (λ n. (member_of_index file n).header) there)

-- a table is before a header if its data begin there or before
same_test : (file : List ℕ) (k member : ℕ) → k < length (link_members file).members → member < length (link_members file).members
    → nat_le (member_of_index file k).extent.at (member_of_index file member).header ≡ nat_lt (member_of_index file k).header (member_of_index file member).header
same_test file k member here there = by_order (nat_lt k member) refl
  where
    past : (member_of_index file k).header + 60 ≤ (member_of_index file k).extent.at
    past = data_after_header file (member_of_index file k).header (member_of_index file k).extent ((finds_members file).told k here)

    by_order : (t : Bool) → nat_lt k member ≡ t → nat_le (member_of_index file k).extent.at (member_of_index file member).header ≡ nat_lt (member_of_index file k).header (member_of_index file member).header
    by_order true is =
        let before : k < member = grind (arith, nat_tests) in
        let apart = (finds_members file).apart k (omega (arith, before, there)) in
        let later = no_later file (k + 1) member (omega (arith, before)) there in
        let begun : (member_of_index file k).extent.at ≤ (member_of_index file member).header = omega (arith, apart, later) in
        let less : (member_of_index file k).header < (member_of_index file member).header = omega (arith, begun, past) in
        let yes : nat_le (member_of_index file k).extent.at (member_of_index file member).header ≡ true = grind (arith, nat_tests) in
        let also : nat_lt (member_of_index file k).header (member_of_index file member).header ≡ true = grind (arith, nat_tests) in
        yes ∙ sym also
    by_order false is =
        let after : member ≤ k = grind (arith, nat_tests) in
        let later = no_later file member k after here in
        let no_less : (member_of_index file member).header ≤ (member_of_index file k).header = later in
        let past_it : (member_of_index file member).header < (member_of_index file k).extent.at = omega (arith, later, past) in
        let not_begun : nat_le (member_of_index file k).extent.at (member_of_index file member).header ≡ false = grind (arith, nat_tests) in
        let also : nat_lt (member_of_index file k).header (member_of_index file member).header ≡ false = grind (arith, nat_tests) in
        not_begun ∙ sym also

pub table_of_member : (file : List ℕ) (member : ℕ) → member < length (link_members file).members
    → range_before (option_map data_of (name_table file (link_members file).members)) (member_of_index file member).header ≡ table_before (name_table file (link_members file).members) (member_of_index file member).header
table_of_member file member there = by_table (name_table file (link_members file).members) refl
  where
    by_table : (table : Option LinkMember) → name_table file (link_members file).members ≡ table
        → range_before (option_map data_of table) (member_of_index file member).header ≡ table_before table (member_of_index file member).header
    by_table None is = refl
    by_table (Some table) is =
        let place = table_there file (link_members file).members table is in
        let test = same_test file place.0 member place.1 there in
        let same = ap (λ (m : LinkMember). nat_le m.extent.at (member_of_index file member).header) (sym place.2) ∙ test ∙ ap (λ (m : LinkMember). nat_lt m.header (member_of_index file member).header) place.2 in
        ap (λ t. if t then Some table.extent else None) same

pub table_within : (file : List ℕ) (at : ℕ) → IfSome (range_before (option_map data_of (name_table file (link_members file).members)) at) (IsInBounds (length file))
table_within file at = by_table (name_table file (link_members file).members) refl
  where
    if_before : (t : Bool) (extent : FileRange) → extent.at + extent.size ≤ length file → IfSome (if t then Some extent else None) (IsInBounds (length file))
    if_before true extent within = within
    if_before false extent within = tt

    by_table : (table : Option LinkMember) → name_table file (link_members file).members ≡ table → IfSome (range_before (option_map data_of table) at) (IsInBounds (length file))
    by_table None is = tt
    by_table (Some table) is =
        let place = table_there file (link_members file).members table is in
        let told = (finds_members file).told place.0 place.1 in
        let within = data_within_file file (member_of_index file place.0).header (member_of_index file place.0).extent told in
        if_before (nat_le table.extent.at at) table.extent (omega (arith, within, ap (λ (m : LinkMember). m.extent.at) place.2, ap (λ (m : LinkMember). m.extent.size) place.2))

-- WHAT IS TAKEN of it
module _ (files : LinkFiles) (file : List ℕ) (member at : ℕ) (table : Option FileRange) (below : member < length (link_members file).members) (here : (member_of_index file member).header ≡ at)
    (names : table ≡ table_before (name_table file (link_members file).members) (member_of_index file member).header) where
  name_is : link_member_name file (link_members file).members member ≡ member_name file LINK_NAME_BYTES table at
  name_is = ap (λ t. member_name file LINK_NAME_BYTES t (member_of_index file member).header) (sym names) ∙ ap (λ n. member_name file LINK_NAME_BYTES table n) here

  extent_is : (extent : FileRange) → member_data file at ≡ Ok extent → extent ≡ (member_of_index file member).extent
  extent_is extent told = extent_of_index file member at extent below here told

  pub refusal_of_object : (extent : FileRange) (name : DisplayedName) → NamedMember file table at extent name
      → member_refusal files member (Some file) ≡ moved extent.at (refusal_of (object_of (slice file extent.at extent.size) files.headers))
  refusal_of_object extent name m =
      ap (λ n. refused_after_name files file (member_of_index file member) n) (name_is ∙ m.named)
      ∙ ap (λ (e : FileRange). moved e.at (refusal_of (object_of (bytes_in file e) files.headers))) (sym (extent_is extent m.data_are))

  pub took_member : (row : ℕ) (old new : KeyList) (extent : FileRange) (name : DisplayedName) → NamedMember file table at extent name → TakesObject (slice file extent.at extent.size) files.headers row old new (Ok tt)
      → TookMember files file member row old new
  took_member row old new extent name m took =
      let object = took.0 in
      let bytes = ap (λ (e : FileRange). bytes_in file e) (extent_is extent m.data_are) in
      let known : object_of (member_bytes file (link_members file).members member) files.headers ≡ Ok object = ap (λ b. object_of b files.headers) (sym bytes) ∙ took.1 in
      record {
        taken = refusal_of_object extent name m ∙ ap (λ (r : Result LinkObject LinkRefusal). moved extent.at (refusal_of r)) took.1;
        object = subst (λ (o : LinkObject). TookObject o old new row) (sym (ap or_empty known)) took.2;
      }

  pub name_refused : (f : LinkFault) → IsLinkFault (named_refusal at (member_data file at) (member_name file LINK_NAME_BYTES table at)) f → IsLinkFault (member_refusal files member (Some file)) f
  name_refused f says = by_name (member_name file LINK_NAME_BYTES table at) refl
    where
      told : IsLinkFault (named_refusal at (Ok (member_of_index file member).extent) (member_name file LINK_NAME_BYTES table at)) f
      told = subst (λ d. IsLinkFault (named_refusal at d (member_name file LINK_NAME_BYTES table at)) f) (data_of_index file member at below here) says

      by_name : (name : Result DisplayedName Cause) → member_name file LINK_NAME_BYTES table at ≡ name → IsLinkFault (member_refusal files member (Some file)) f
      by_name (Ok name) is = fault_of_any (member_refusal files member (Some file)) f (subst (λ n. IsLinkFault (named_refusal at (Ok (member_of_index file member).extent) n) f) is told)
      by_name (Err other) is =
          let same = ap (λ n. refused_after_name files file (member_of_index file member) n) (name_is ∙ is) in
          let place = subst (λ n. IsLinkFault (named_refusal n (Ok (member_of_index file member).extent) (Err other)) f) (sym here) (subst (λ n. IsLinkFault (named_refusal at (Ok (member_of_index file member).extent) n) f) is told) in
          subst (λ r. IsLinkFault r f) (sym same) place

  -- a fault of its object, which is moved within the archive
  pub object_refused : (extent : FileRange) (name : DisplayedName) (inner result : LinkFault) → NamedMember file table at extent name
      → MovesWithin (member_of_index file member).extent.at (refusal_of (object_of (member_bytes file (link_members file).members member) files.headers))
      → IsLinkFault (refusal_of (object_of (slice file extent.at extent.size) files.headers)) inner
      → ((known : Option LinkRefusal) → MovesWithin extent.at known → IsLinkFault known inner → IsLinkFault (moved extent.at known) result) → IsLinkFault (member_refusal files member (Some file)) result
  object_refused extent name inner result m within says moves =
      let known = refusal_of (object_of (slice file extent.at extent.size) files.headers) in
      let fits = subst (λ (e : FileRange). MovesWithin e.at (refusal_of (object_of (bytes_in file e) files.headers))) (sym (extent_is extent m.data_are)) within in
      subst (λ r. IsLinkFault r result) (sym (refusal_of_object extent name m)) (moves known fits says)
