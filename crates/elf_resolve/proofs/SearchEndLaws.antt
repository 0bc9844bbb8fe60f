-- Where a search of an archive ends, as a resolver has it.
use Rattle.std.proofs.Common.{◌≡◌, ℕ, ◌<◌, List, [], ◌∷◌, ◌++◌, length, sym, ap, subst, ◌∙◌, ◌⊎◌, inl, inr, arith}
use Rattle.std.specs.Prelude.{Option, Some, Result, Ok, Err}
use Rattle.std.proofs.lemmas.List.{length-map}
use Rattle.elf_model.specs.Archive.{FileRange}
use Rattle.elf_model.specs.LinkArchives.{LinkFiles, link_members}
use Rattle.elf_model.specs.declared.link_states.LinkRow.{LinkRow}
use Rattle.elf_resolve.specs.EndsAtRefusal.{NoneRefused, StopsLink}
use Rattle.elf_resolve.specs.LinkMembers.{KnownMembers, whole_file_of}
use Rattle.elf_resolve.specs.SearchStops.{AddedMembers, AddsMembers, EndsSearch, IsFaultOfMember, KeepsFault, KeepsLimit, StoppedAtMember, StopsWith, bytes_known, refusal_in}
use Rattle.elf_resolve.specs.Taken.{IsLinkFault, header_of}
use Rattle.elf_resolve.specs.declared.link_faults.LinkFault.{LinkFault}
use Rattle.elf_resolve.specs.declared.table.LinkStop.{LinkStop}
use Rattle.elf_resolve.specs.declared.table.LinkStop.TheVariants.{Full, TooManyRows, Unreadable}
use Rattle.elf_source.specs.Source.{RangeParent}
use Rattle.elf_resolve.proofs.RefusalLaws.{added_none_refused, member_moves, member_row_refusal, row_stops}

-- a file is still the one that was known
pub file_still : (known now : Option (List ℕ)) (file other : List ℕ) → bytes_known now ≡ bytes_known known → known ≡ Some file → now ≡ Some other → other ≡ file
file_still known now file other same is is_other = sym (ap bytes_known is_other) ∙ same ∙ ap bytes_known is

module _ (file : List ℕ) (k0 : Option (List ℕ)) (w1 : Option RangeParent) (h0 h1 input count : ℕ) (offsets : List ℕ) (names : Option FileRange) (old new made : List LinkRow) (kept : Option LinkFault) (asked : Option ℕ) where
  module _ (file_is : k0 ≡ Some file) (still : bytes_known (whole_file_of w1) ≡ bytes_known k0) (headers : h1 ≡ h0) (count_is : count ≡ length (link_members file).members) (known : KnownMembers w1 offsets names) where
    offsets_count : length offsets ≡ count
    offsets_count =
        let same = file_still k0 (whole_file_of w1) file known.file still file_is known.is in
        ap length known.offsets_are ∙ length-map (link_members known.file).members header_of ∙ ap (λ f. length (link_members f).members) same ∙ sym count_is

    its_fault : (member : ℕ) → member < count → (k : KeepsFault (whole_file_of w1) h1 kept asked member) → IsFaultOfMember h0 file member k.fault
    its_fault member within k =
        let same = file_still k0 (whole_file_of w1) file k.file still file_is k.file_is in
        let there : member < length (link_members k.file).members = omega (arith, within, count_is, ap (λ f. length (link_members f).members) same) in
        subst (λ h. IsFaultOfMember h file member k.fault) headers (subst (λ f. IsFaultOfMember h1 f member k.fault) same (k.is there))

    stops_with : ((member : ℕ) × (member < count) × KeepsLimit (length offsets) kept member) ⊎ StoppedAtMember (refusal_in k0 h0) (KeepsFault (whole_file_of w1) h1 kept asked) input count old new made → StopsWith h0 file input old new made kept asked
    stops_with (inl at) = (at.2.fault, at.2.kept_is, inl (at.2.is (omega (arith, at.1, offsets_count))))
    stops_with (inr at) = (
      at.stops.fault,
      at.stops.kept_is,
      inr (
        at.stops.not_asked,
        record {
          before = at.before;
          row = at.row;
          member = at.member;
          rest = at.rest;
          added = subst (λ k. AddedMembers (refusal_in k h0) input old at.before) file_is at.added;
          rows = at.rows;
          made_is = at.made_is;
          member_is = at.member_is;
          input_is = at.input_is;
          within = omega (arith, at.within, count_is);
          stops = its_fault at.member at.within at.stops;
        },
      ),
    )

    pub search_ends : (r : Result (Unit {0}) LinkStop) → AddsMembers (refusal_in k0 h0) (KeepsFault (whole_file_of w1) h1 kept asked) (KeepsLimit (length offsets) kept) input count old new made r → EndsSearch h0 file input old new made kept asked r
    search_ends (Ok done) added = subst (λ k. AddedMembers (refusal_in k h0) input old new) file_is added
    search_ends (Err TooManyRows) stops = tt
    search_ends (Err (Full fault)) stops = stops_with stops
    search_ends (Err Unreadable) stops = stops_with stops

-- A LINK STOPS at a member
pub member_stops : (files : LinkFiles) (is_script : Type 0) (file : List ℕ) (input member : ℕ) (rows whole before rest : List LinkRow) (index : Option ℕ) (row : LinkRow) (fault : LinkFault) → files.file input ≡ Some file
    → row.member ≡ Some member → row.input ≡ input → NoneRefused files before → rows ≡ before ++ row ∷ [] → index ≡ Some (length before) → whole ≡ rows ++ rest → IsFaultOfMember files.headers file member fault
    → StopsLink files is_script rows whole index fault
member_stops files is_script file input member rows whole before rest index row fault file_is member_is input_is none rows_are index_is made says =
    row_stops files is_script rows whole before rest index row fault none rows_are index_is made
    (λ moves. subst (λ r. IsLinkFault r fault) (sym (member_row_refusal files file row input member member_is input_is file_is)) (says (member_moves files file row input member member_is input_is file_is moves)))

pub search_stops : (files : LinkFiles) (file : List ℕ) (input : ℕ) (old rows whole : List LinkRow) (index : Option ℕ) (fault : LinkFault) → files.file input ≡ Some file → NoneRefused files old
    → StoppedAtMember (refusal_in (Some file) files.headers) (λ member. IsFaultOfMember files.headers file member fault) input (length (link_members file).members) old rows whole
    → ((before : List LinkRow) (row : LinkRow) → rows ≡ before ++ row ∷ [] → index ≡ Some (length before)) → StopsLink files ⊥ rows whole index fault
search_stops files file input old rows whole index fault file_is none at last =
    member_stops files ⊥ file input at.member rows whole at.before at.rest index at.row fault file_is at.member_is at.input_is (added_none_refused files file input old at.before file_is at.added none) at.rows
    (last at.before at.row at.rows) at.made_is at.stops
