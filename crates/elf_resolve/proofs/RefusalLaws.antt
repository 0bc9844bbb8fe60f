-- Rows that are refused, and where a link stops.
use Rattle.std.proofs.Common.{◌≡◌, ℕ, ◌+◌, ◌<◌, ◌≤◌, ◌^◌, Bool, true, false, List, [], ◌∷◌, ◌++◌, get_or, length, append_assoc, refl, sym, ap, subst, ◌∙◌, ◌⊎◌, inl, inr, arith, leb}
use Rattle.std.specs.Prelude.{Option, None, Some, Result, Ok, Err}
use Rattle.std.proofs.lemmas.Bool.Decides.{leb_tells}
use Rattle.elf_model.specs.LinkArchives.{LinkFiles, archive_as, archive_index, archive_input, files_as_inputs, input_at, input_of, link_member_name, link_members, member_refusal, members_refusal, no_member, object_input, or_object, refusal_of, refused_after_name, row_refusal, searched_by}
use Rattle.elf_model.specs.LinkInputs.{IndexSymbol, InputFile, Linking, file_row, input_taken}
use Rattle.elf_model.specs.LinkObjects.{LinkObject}
use Rattle.elf_model.specs.LinkSymbols.{object_of}
use Rattle.elf_model.specs.Names.{DisplayedName}
use Rattle.elf_model.specs.declared.causes.Cause.{Cause}
use Rattle.elf_model.specs.declared.link_states.LinkRefusal.{LinkRefusal}
use Rattle.elf_model.specs.declared.link_states.LinkRow.{LinkRow}
use Rattle.elf_model.specs.declared.link_states.LinkRowKind.{LinkRowKind}
use Rattle.elf_model.specs.declared.link_states.LinkRowKind.TheVariants.{Object}
use Rattle.elf_resolve.specs.EndsAtRefusal.{MovesOf, MovesRow, NoneRefused, RefusedLast, StopsLink}
use Rattle.elf_resolve.specs.LinkFaults.{MovesWithin}
use Rattle.elf_resolve.specs.SearchStops.{AddedMembers, AreTakenMembers, MovesMember, files_of_headers, refusal_in}
use Rattle.elf_resolve.specs.Taken.{IsLinkFault}
use Rattle.elf_resolve.specs.declared.link_faults.LinkFault.{LinkFault}
use Rattle.elf_resolve.specs.declared.link_faults.LinkFault.TheVariants.{Refused, Read, Open, Memory}
use Rattle.elf_resolve.proofs.BeginLaws.{Begins}

-- ROWS OF WHICH NONE IS REFUSED
pub none_both : (files : LinkFiles) (xs ys : List LinkRow) → NoneRefused files xs → NoneRefused files ys → NoneRefused files (xs ++ ys)
none_both files [] ys first second = second
none_both files (x ∷ xs) ys first second = (first.0, none_both files xs ys first.1 second)

pub none_more : (files : LinkFiles) (old new : List LinkRow) (row : LinkRow) → new ≡ old ++ row ∷ [] → row_refusal files row ≡ None → NoneRefused files old → NoneRefused files new
none_more files old new row rows none before = subst (λ r. NoneRefused files r) (sym rows) (none_both files old (row ∷ []) before (none, tt))

-- THE REFUSAL OF A ROW: of a file
pub file_refusal : (files : LinkFiles) (kind : LinkRowKind) (index : ℕ) → row_refusal files (file_row kind index) ≡ refusal_of (input_at files index)
unfolding row_refusal
file_refusal files kind index = refl

-- and of a member
pub by_headers : (files : LinkFiles) (file : List ℕ) (member : ℕ) → member_refusal files member (Some file) ≡ refusal_in (Some file) files.headers member
by_headers files file member = by (link_member_name file (link_members file).members member) where
  by : (name : Result DisplayedName Cause)
      → (let m = get_or (link_members file).members member no_member in refused_after_name files file m name ≡ refused_after_name (files_of_headers files.headers) file m name)
  by (Ok name) = refl
  by (Err other) = refl

pub member_row_refusal : (files : LinkFiles) (file : List ℕ) (row : LinkRow) (input member : ℕ) → row.member ≡ Some member → row.input ≡ input → files.file input ≡ Some file
    → row_refusal files row ≡ refusal_in (Some file) files.headers member
unfolding row_refusal
member_row_refusal files file row input member member_is input_is file_is =
    let of_member : Option ℕ → Option LinkRefusal = λ o. elim o [ None ↦ refusal_of (input_at files row.input) | Some m ↦ member_refusal files m (files.file row.input) ] in
    ap of_member member_is ∙ ap (λ i. member_refusal files member (files.file i)) input_is ∙ ap (λ f. member_refusal files member f) file_is ∙ by_headers files file member

pub member_moves : (files : LinkFiles) (file : List ℕ) (row : LinkRow) (input member : ℕ) → row.member ≡ Some member → row.input ≡ input → files.file input ≡ Some file → MovesRow files row → MovesMember files.headers file member
member_moves files file row input member member_is input_is file_is moves =
    subst (λ f. MovesOf files (Some member) f) file_is (subst (λ i. MovesOf files (Some member) (files.file i)) input_is (subst (λ o. MovesOf files o (files.file row.input)) member_is moves))

-- members that were added
taken_none : (files : LinkFiles) (file : List ℕ) (input : ℕ) (rows : List LinkRow) → files.file input ≡ Some file → AreTakenMembers (refusal_in (Some file) files.headers) input rows → NoneRefused files rows
taken_none files file input [] file_is are = tt
taken_none files file input (row ∷ rows) file_is are =
    (member_row_refusal files file row input are.0.member are.0.member_is are.0.input_is file_is ∙ are.0.unrefused, taken_none files file input rows file_is are.1)

pub added_none_refused : (files : LinkFiles) (file : List ℕ) (input : ℕ) (old new : List LinkRow) → files.file input ≡ Some file → AddedMembers (refusal_in (Some file) files.headers) input old new → NoneRefused files old → NoneRefused files new
added_none_refused files file input old new file_is added before =
    subst (λ r. NoneRefused files r) (sym added.rows) (none_both files old added.added before (taken_none files file input added.added file_is added.taken))

-- WHERE A LINK STOPS
pub limit_stops : (files : LinkFiles) (is_script : Type 0) (rows whole : List LinkRow) (index : Option ℕ) (fault : LinkFault) → IsLinkFault None fault → StopsLink files is_script rows whole index fault
limit_stops files is_script rows whole index (Refused refusal) (inl limit) = inl limit
limit_stops files is_script rows whole index (Refused refusal) (inr is) = absurd cc
limit_stops files is_script rows whole index Read is = tt
limit_stops files is_script rows whole index Open is = tt
limit_stops files is_script rows whole index Memory is = tt

-- within a larger link
last_begins : (files : LinkFiles) (rows made whole : List LinkRow) (index : Option ℕ) (refusal : LinkRefusal) → Begins made whole → RefusedLast files rows made index refusal → RefusedLast files rows whole index refusal
last_begins files rows made whole index refusal begins last = record {
  before = last.before;
  row = last.row;
  rows_are = last.rows_are;
  unrefused = last.unrefused;
  index_is = last.index_is;
  refusal_is = last.refusal_is;
  kind = last.kind;
  rest = last.rest ++ begins.rest;
  whole_is = begins.are ∙ ap (λ m. m ++ begins.rest) last.whole_is ∙ append_assoc last.before (record last.row { kind = last.kind } ∷ last.rest) begins.rest;
}

pub stops_within : (files : LinkFiles) (script wider : Type 0) (rows made whole : List LinkRow) (index : Option ℕ) (fault : LinkFault) → (script → wider) → Begins made whole → StopsLink files script rows made index fault → StopsLink files wider rows whole index fault
stops_within files script wider rows made whole index (Refused refusal) widens begins (inl limit) = inl limit
stops_within files script wider rows made whole index (Refused refusal) widens begins (inr (inl is)) = inr (inl (widens is.0, is.1))
stops_within files script wider rows made whole index (Refused refusal) widens begins (inr (inr last)) = inr (inr (last_begins files rows made whole index refusal begins last))
stops_within files script wider rows made whole index Read widens begins is = tt
stops_within files script wider rows made whole index Open widens begins is = tt
stops_within files script wider rows made whole index Memory widens begins is = tt

-- at the row of a file
pub file_stops : (files : LinkFiles) (is_script : Type 0) (rows whole before rest : List LinkRow) (index : Option ℕ) (row : LinkRow) (kind : LinkRowKind) (fault : LinkFault) → NoneRefused files before → rows ≡ before ++ row ∷ [] → index ≡ Some (length before)
    → ((refusal : LinkRefusal) → row_refusal files row ≡ Some refusal → whole ≡ before ++ (record row { kind = kind } ∷ rest)) → IsLinkFault (row_refusal files row) fault → StopsLink files is_script rows whole index fault
file_stops files is_script rows whole before rest index row kind (Refused refusal) none rows_are index_is made (inl limit) = inl limit
file_stops files is_script rows whole before rest index row kind (Refused refusal) none rows_are index_is made (inr is) = inr (inr (record {
  before = before;
  row = row;
  rows_are = rows_are;
  unrefused = none;
  index_is = index_is;
  refusal_is = λ moves. is;
  kind = kind;
  rest = rest;
  whole_is = made refusal is;
}))
file_stops files is_script rows whole before rest index row kind Read none rows_are index_is made is = tt
file_stops files is_script rows whole before rest index row kind Open none rows_are index_is made is = tt
file_stops files is_script rows whole before rest index row kind Memory none rows_are index_is made is = tt

-- at the row of a member
less_or_not : (a b : ℕ) → (a < b) ⊎ (a < b → ⊥)
less_or_not a b = by (leb_tells b a) where
  by : ((leb b a ≡ true) × (b ≤ a)) ⊎ ((leb b a ≡ false) × (a < b)) → (a < b) ⊎ (a < b → ⊥)
  by (inl (is, most)) = inr (λ less. omega (arith, less, most))
  by (inr (is, less)) = inl less

moves_or_not : (start : ℕ) (known : Option LinkRefusal) → MovesWithin start known ⊎ (MovesWithin start known → ⊥)
moves_or_not start None = inl tt
moves_or_not start (Some refusal) = less_or_not (start + refusal.at) (2 ^ 64)

row_moves_or_not : (files : LinkFiles) (member : Option ℕ) (file : Option (List ℕ)) → MovesOf files member file ⊎ (MovesOf files member file → ⊥)
row_moves_or_not files None file = inl tt
row_moves_or_not files (Some member) None = inl tt
row_moves_or_not files (Some member) (Some file) = moves_or_not _ _

pub row_stops : (files : LinkFiles) (is_script : Type 0) (rows whole before rest : List LinkRow) (index : Option ℕ) (row : LinkRow) (fault : LinkFault) → NoneRefused files before → rows ≡ before ++ row ∷ [] → index ≡ Some (length before)
    → whole ≡ rows ++ rest → (MovesRow files row → IsLinkFault (row_refusal files row) fault) → StopsLink files is_script rows whole index fault
row_stops files is_script rows whole before rest index row fault none rows_are index_is made says = by (row_moves_or_not files row.member (files.file row.input)) where
  whole_is : whole ≡ before ++ (row ∷ rest)
  whole_is = made ∙ ap (λ r. r ++ rest) rows_are ∙ append_assoc before (row ∷ []) rest

  unmoved : (f : LinkFault) → (MovesRow files row → ⊥) → StopsLink files is_script rows whole index f
  unmoved (Refused refusal) never = inr (inr (record {
    before = before;
    row = row;
    rows_are = rows_are;
    unrefused = none;
    index_is = index_is;
    refusal_is = λ moves. absurd (never moves);
    kind = row.kind;
    rest = rest;
    whole_is = whole_is;
  }))
  unmoved Read never = tt
  unmoved Open never = tt
  unmoved Memory never = tt

  by : (MovesRow files row) ⊎ (MovesRow files row → ⊥) → StopsLink files is_script rows whole index fault
  by (inl moves) = file_stops files is_script rows whole before rest index row row.kind fault none rows_are index_is (λ refusal is. whole_is) (says moves)
  by (inr never) = unmoved fault never

-- THE REFUSAL OF AN INPUT: an object
pub object_at : (files : LinkFiles) (index : ℕ) (file : List ℕ) → files.is_archive index ≡ false → files.file index ≡ Some file → input_at files index ≡ object_input (object_of file files.headers)
unfolding input_of
object_at files index file not_archive file_is =
    ap (λ a. input_of a (files.is_whole index) (files.file index) files.headers) not_archive ∙ ap (λ f. input_of false (files.is_whole index) f files.headers) file_is

object_refusal_of : (r : Result LinkObject LinkRefusal) → refusal_of (object_input r) ≡ refusal_of r
object_refusal_of (Ok object) = refl
object_refusal_of (Err refusal) = refl

pub object_row_refusal : (files : LinkFiles) (kind : LinkRowKind) (index : ℕ) (file : List ℕ) → files.is_archive index ≡ false → files.file index ≡ Some file → row_refusal files (file_row kind index) ≡ refusal_of (object_of file files.headers)
object_row_refusal files kind index file not_archive file_is =
    file_refusal files kind index ∙ ap refusal_of (object_at files index file not_archive file_is) ∙ object_refusal_of (object_of file files.headers)

-- an archive
pub archive_at : (files : LinkFiles) (index : ℕ) (whole : Bool) (file : List ℕ) → files.is_archive index ≡ true → files.is_whole index ≡ whole → files.file index ≡ Some file → input_at files index ≡ archive_input whole file files.headers
unfolding input_of
archive_at files index whole file archive whole_is file_is =
    ap (λ a. input_of a (files.is_whole index) (files.file index) files.headers) archive ∙ ap (λ w. input_of true w (files.file index) files.headers) whole_is ∙ ap (λ f. input_of true whole f files.headers) file_is

pub members_refused : (whole : Bool) (file : List ℕ) (headers : ℕ) (refusal : LinkRefusal) → members_refusal file ≡ Some refusal → refusal_of (archive_input whole file headers) ≡ Some refusal
unfolding archive_input
members_refused whole file headers refusal is =
    ap (λ (o : Option LinkRefusal). refusal_of (elim o [ Some r ↦ Err r | None ↦ archive_as whole file headers ])) is

members_unrefused : (whole : Bool) (file : List ℕ) (headers : ℕ) → members_refusal file ≡ None → archive_input whole file headers ≡ archive_as whole file headers
unfolding archive_input
members_unrefused whole file headers is =
    ap (λ (o : Option LinkRefusal). elim o [ Some r ↦ Err r | None ↦ archive_as whole file headers ]) is

searched_refusal : (file : List ℕ) (headers : ℕ) (index : Result (List IndexSymbol) LinkRefusal) → refusal_of (searched_by file headers index) ≡ refusal_of index
searched_refusal file headers (Ok symbols) = refl
searched_refusal file headers (Err refusal) = refl

pub index_refusal : (file : List ℕ) (headers : ℕ) → members_refusal file ≡ None → refusal_of (archive_input false file headers) ≡ refusal_of (archive_index file (link_members file).members)
index_refusal file headers is = ap refusal_of (members_unrefused false file headers is) ∙ searched_refusal file headers (archive_index file (link_members file).members)

pub whole_refusal : (file : List ℕ) (headers : ℕ) → members_refusal file ≡ None → refusal_of (archive_input true file headers) ≡ None
whole_refusal file headers is = ap refusal_of (members_unrefused true file headers is)

-- a file that is missing
pub missing_row_refusal : (files : LinkFiles) (kind : LinkRowKind) (index : ℕ) → files.file index ≡ None → row_refusal files (file_row kind index) ≡ None
unfolding input_of
missing_row_refusal files kind index none = file_refusal files kind index ∙ ap (λ f. refusal_of (input_of (files.is_archive index) (files.is_whole index) f files.headers)) none

-- A FILE THAT IS REFUSED counts as an empty object
empty_for : (r : Result InputFile LinkRefusal) (refusal : LinkRefusal) (link : Linking) (index : ℕ) → refusal_of r ≡ Some refusal → (input_taken link index (or_object r)).rows ≡ link.rows ++ (file_row Object index ∷ [])
unfolding input_taken
empty_for (Ok value) refusal link index is = absurd cc
empty_for (Err other) refusal link index is = refl

pub refused_rows : (files : LinkFiles) (link : Linking) (kind : LinkRowKind) (index : ℕ) (refusal : LinkRefusal) → row_refusal files (file_row kind index) ≡ Some refusal
    → (input_taken link index (files_as_inputs files index)).rows ≡ link.rows ++ (file_row Object index ∷ [])
refused_rows files link kind index refusal is = empty_for (input_at files index) refusal link index (sym (file_refusal files kind index) ∙ is)
