-- Links without shared libraries: the state of each key is an own one, and further definitions and the
-- entries of indexes are of keys.
use Rattle.std.proofs.Common.{ℕ, zero, suc, ◌<◌, ◌≤◌, Bool, true, false, List, [], ◌∷◌, ◌++◌, length, map, arith}
use Rattle.std.specs.Prelude.{replicate, Option, None, Some, ◌==◌, if◌then◌else◌}
use Rattle.elf_model.specs.LinkInputs.{EnteredIndex, IndexSymbol, InputFile, LinkInputs, Linking, OpenArchive, again_at, archive_again, archive_opened, argument_symbol, default_entered, default_index, file_row, group_settled, index_entered, input_again, input_taken, inputs_again, inputs_taken, linked, members_taken, opened_at, rounds_made, symbol_entered, untaken_in, whole_row, with_arguments, with_object, with_row, with_taken}
use Rattle.elf_model.specs.LinkInputs.InputFile.{ObjectFile, SearchedFile, WholeFile, MissingFile}
use Rattle.elf_model.specs.LinkInputs.LinkInputs.{NoInputs, Input, Group}
use Rattle.elf_model.specs.LinkKeys.{LinkKeys, entered, key_index, no_keys}
use Rattle.elf_model.specs.LinkObjects.{LinkObject}
use Rattle.elf_model.specs.LinkPasses.{ArchiveMembers, ArchivePass, LinkArchive, archive_searched, entry_visited, index_passed, member_taken, passes_made, takes_member, untaken}
use Rattle.elf_model.specs.declared.link_states.IndexEntry.{IndexEntry}
use Rattle.elf_model.specs.declared.link_states.LinkRowKind.TheVariants.{Object, Archive}
use Rattle.elf_resolve.specs.KeyLists.{AreKeyedEntries}
use Rattle.elf_resolve.specs.OwnLinks.{AreKeyedArchives, AreOwnKeys, IsOwnLink}
use Rattle.elf_resolve.proofs.KeyLaws.{index_within}
use Rattle.elf_resolve.proofs.OwnKeyLaws.{AreOwnInObject, StayOwn, arguments_own, entered_stay, keyed_more, keyed_push, object_stay, stay_itself, stay_then, symbols_stay}

-- an input of objects
abbrev pub AreOwnMembers : List (ℕ × LinkObject) → Type 0
AreOwnMembers [] = Unit {0}
AreOwnMembers ((member, object) ∷ members) = AreOwnInObject object.symbols × AreOwnMembers members

abbrev pub IsOwnFile : InputFile → Type 0
IsOwnFile (ObjectFile object) = AreOwnInObject object.symbols
IsOwnFile (SearchedFile count symbols members) = (member : ℕ) → AreOwnInObject (members.objects member).symbols
IsOwnFile (WholeFile members) = AreOwnMembers members
IsOwnFile MissingFile = Unit {0}

-- A SEARCH
visited_by : (archive : LinkArchive) (p : ArchivePass) (e : IndexEntry) (takes : Bool) → AreOwnInObject (archive.members.objects e.member).symbols → AreOwnKeys p.keys → StayOwn p.keys (if takes then member_taken archive p e else p).keys
unfolding member_taken
visited_by archive p e true are own = object_stay (Some (length p.rows)) p.keys (archive.members.objects e.member) are own
visited_by archive p e false are own = stay_itself p.keys own

module _ (archive : LinkArchive) (are : (member : ℕ) → AreOwnInObject (archive.members.objects member).symbols) where
  visited_stay : (p : ArchivePass) (e : IndexEntry) → AreOwnKeys p.keys → StayOwn p.keys (entry_visited archive p e).keys
  unfolding entry_visited
  visited_stay p e own = visited_by archive p e (takes_member archive p e) (are e.member) own

  pass_stay : (es : List IndexEntry) (p : ArchivePass) → AreOwnKeys p.keys → StayOwn p.keys (index_passed archive p es).keys
  pass_stay [] p own = stay_itself p.keys own
  pass_stay (e ∷ es) p own =
      let first = visited_stay p e own in
      stay_then p.keys (entry_visited archive p e).keys (index_passed archive (entry_visited archive p e) es).keys first (pass_stay es (entry_visited archive p e) first.own)

  either_pass : (b : Bool) (k : LinkKeys) (x y : ArchivePass) → StayOwn k x.keys → StayOwn k y.keys → StayOwn k (if b then x else y).keys
  either_pass true k x y first second = first
  either_pass false k x y first second = second

  passes_stay : (n : ℕ) (es : List IndexEntry) (p : ArchivePass) → AreOwnKeys p.keys → StayOwn p.keys (passes_made n archive es p).keys
  passes_stay zero es p own = stay_itself p.keys own
  passes_stay (suc n) es p own =
      let next = index_passed archive p es in
      let first = pass_stay es p own in
      either_pass (next.keys.asked == p.keys.asked) p.keys next (passes_made n archive es next) first (stay_then p.keys next.keys (passes_made n archive es next).keys first (passes_stay n es next first.own))

  searched_stay : (es : List IndexEntry) (p : ArchivePass) → AreOwnKeys p.keys → StayOwn p.keys (archive_searched archive es p).keys
  unfolding archive_searched
  searched_stay es p own = passes_stay (suc (untaken p.taken)) es p own

-- archives
archives_more : (n m : ℕ) (archives : List OpenArchive) → n ≤ m → AreKeyedArchives n archives → AreKeyedArchives m archives
archives_more n m [] below are = tt
archives_more n m (a ∷ archives) below are = (keyed_more n m a.entries below are.0, archives_more n m archives below are.1)

archives_push : (n : ℕ) (archives : List OpenArchive) (a : OpenArchive) → AreKeyedArchives n archives → AreKeyedEntries n a.entries → AreKeyedArchives n (archives ++ a ∷ [])
archives_push n [] a are is = (is, tt)
archives_push n (x ∷ archives) a are is = (are.0, archives_push n archives a are.1 is)

taken_keyed : (n : ℕ) (a : OpenArchive) (taken : List Bool) (here : Bool) → AreKeyedEntries n a.entries → AreKeyedEntries n (if here then record a { taken = taken } else a).entries
taken_keyed n a taken true are = are
taken_keyed n a taken false are = are

archives_taken : (n : ℕ) (archives : List OpenArchive) (i : ℕ) (taken : List Bool) → AreKeyedArchives n archives → AreKeyedArchives n (with_taken archives i taken)
archives_taken n [] i taken are = tt
archives_taken n (a ∷ archives) i taken are = (taken_keyed n a taken (a.input == i) are.0, archives_taken n archives i taken are.1)

again_own : (link : Linking) (archive : OpenArchive) (members : ArchiveMembers) → ((member : ℕ) → AreOwnInObject (members.objects member).symbols) → IsOwnLink link → IsOwnLink (archive_again link archive members)
unfolding archive_again
again_own link archive members are own =
    let a : LinkArchive = record { input = archive.input; row = archive.row; members = members } in
    let p : ArchivePass = record { keys = link.keys; rows = link.rows; taken = archive.taken } in
    let pass = archive_searched a archive.entries p in
    let stay = searched_stay a are archive.entries p own.keys in
    record {
      keys = stay.own;
      archives = archives_taken (length pass.keys.names) link.archives archive.input pass.taken (archives_more (length link.keys.names) (length pass.keys.names) link.archives stay.more own.archives);
    }

-- THE NAMES OF AN INDEX
record StaysKeyed (old : LinkKeys) (new : EnteredIndex) : Type 0 where
  stay : StayOwn old new.keys
  keyed : AreKeyedEntries (length new.keys.names) new.entries

entered_by : (before : EnteredIndex) (keys : LinkKeys) (default : Option (List ℕ)) (key member : ℕ) → StayOwn before.keys keys → key < length keys.names → AreKeyedEntries (length before.keys.names) before.entries
    → StaysKeyed before.keys (record { keys = default_entered keys default; entries = before.entries ++ record { key = key; default_key = default_index keys default key; member = member } ∷ [] })
entered_by before keys None key member stay below are = record {
  stay = stay;
  keyed = keyed_push (length keys.names) before.entries (record { key = key; default_key = key; member = member })
      (keyed_more (length before.keys.names) (length keys.names) before.entries stay.more are) (omega (arith, below)) (omega (arith, below));
}
entered_by before keys (Some name) key member stay below are =
    let second = entered_stay keys name stay.own in
    let both = stay_then before.keys keys (entered keys name) stay second in
    record {
      stay = both;
      keyed = keyed_push (length (entered keys name).names) before.entries (record { key = key; default_key = key_index keys name; member = member })
          (keyed_more (length before.keys.names) (length (entered keys name).names) before.entries both.more are) (omega (arith, below, second.more)) (omega (arith, index_within keys name));
    }

symbol_keyed : (before : EnteredIndex) (s : IndexSymbol) → AreOwnKeys before.keys → AreKeyedEntries (length before.keys.names) before.entries → StaysKeyed before.keys (symbol_entered before s)
unfolding symbol_entered
symbol_keyed before s own are =
    entered_by before (entered before.keys s.name) s.default_name (key_index before.keys s.name) s.member (entered_stay before.keys s.name own) (index_within before.keys s.name) are

index_keyed : (before : EnteredIndex) (symbols : List IndexSymbol) → AreOwnKeys before.keys → AreKeyedEntries (length before.keys.names) before.entries → StaysKeyed before.keys (index_entered before symbols)
index_keyed before [] own are = record { stay = stay_itself before.keys own; keyed = are }
index_keyed before (s ∷ symbols) own are =
    let first = symbol_keyed before s own are in
    let rest = index_keyed (symbol_entered before s) symbols first.stay.own first.keyed in
    record { stay = stay_then before.keys (symbol_entered before s).keys (index_entered (symbol_entered before s) symbols).keys first.stay rest.stay; keyed = rest.keyed }

-- AN INPUT
whole_own : (index row : ℕ) (link : Linking) (members : List (ℕ × LinkObject)) → AreOwnMembers members → IsOwnLink link → IsOwnLink (members_taken index row link members)
whole_own index row link [] are own = own
whole_own index row link ((member, object) ∷ members) are own =
    let next = with_object link (whole_row index row member) object in
    let stay = object_stay (Some (length link.rows)) link.keys object are.0 own.keys in
    let is : IsOwnLink next = record { keys = stay.own; archives = archives_more (length link.keys.names) (length next.keys.names) link.archives stay.more own.archives } in
    whole_own index row next members are.1 is

input_own : (link : Linking) (index : ℕ) (file : InputFile) → IsOwnFile file → IsOwnLink link → IsOwnLink (input_taken link index file)
unfolding input_taken archive_opened
input_own link index (ObjectFile object) are own =
    let stay = object_stay (Some (length link.rows)) link.keys object are own.keys in
    record { keys = stay.own; archives = archives_more (length link.keys.names) (length (with_object link (file_row Object index) object).keys.names) link.archives stay.more own.archives }
input_own link index (SearchedFile count symbols members) are own =
    let opened = index_entered (record { keys = link.keys; entries = [] }) symbols in
    let keyed = index_keyed (record { keys = link.keys; entries = [] }) symbols own.keys tt in
    let archive : OpenArchive = record { input = index; row = length link.rows; entries = opened.entries; taken = replicate count false } in
    let before : Linking = record { keys = opened.keys; rows = link.rows ++ file_row Archive index ∷ []; archives = link.archives ++ archive ∷ [] } in
    let is : IsOwnLink before = record {
      keys = keyed.stay.own;
      archives = archives_push (length opened.keys.names) link.archives archive (archives_more (length link.keys.names) (length opened.keys.names) link.archives keyed.stay.more own.archives) keyed.keyed;
    } in
    again_own before archive members are is
input_own link index (WholeFile members) are own =
    let before = with_row link (file_row Archive index) in
    let is : IsOwnLink before = record { keys = own.keys; archives = own.archives } in
    whole_own index (length link.rows) before members are is
input_own link index MissingFile are own = record { keys = own.keys; archives = own.archives }

again_at_own : (link : Linking) (found : Option OpenArchive) (members : ArchiveMembers) → ((member : ℕ) → AreOwnInObject (members.objects member).symbols) → IsOwnLink link → IsOwnLink (again_at link found members)
again_at_own link None members are own = own
again_at_own link (Some archive) members are own = again_own link archive members are own

input_again_own : (link : Linking) (index : ℕ) (file : InputFile) → IsOwnFile file → IsOwnLink link → IsOwnLink (input_again link index file)
unfolding input_again
input_again_own link index (SearchedFile count symbols members) are own = again_at_own link (opened_at link.archives index) members are own
input_again_own link index (ObjectFile object) are own = own
input_again_own link index (WholeFile members) are own = own
input_again_own link index MissingFile are own = own

-- GROUPS
either_link : (b : Bool) (x y : Linking) → IsOwnLink x → IsOwnLink y → IsOwnLink (if b then x else y)
either_link true x y first second = first
either_link false x y first second = second

rounds_own : (n : ℕ) (round : Linking → Linking) (asked : ℕ) (link : Linking) → ((l : Linking) → IsOwnLink l → IsOwnLink (round l)) → IsOwnLink link → IsOwnLink (rounds_made n round asked link)
rounds_own zero round asked link keeps own = own
rounds_own (suc n) round asked link keeps own =
    either_link (link.keys.asked == asked) link (rounds_made n round link.keys.asked (round link)) own (rounds_own n round link.keys.asked (round link) keeps (keeps link own))

group_own : (round : Linking → Linking) (asked : ℕ) (link : Linking) → ((l : Linking) → IsOwnLink l → IsOwnLink (round l)) → IsOwnLink link → IsOwnLink (group_settled round asked link)
unfolding group_settled
group_own round asked link keeps own = rounds_own (suc (untaken_in link.archives)) round asked link keeps own

module _ (files : ℕ → InputFile) (are : (index : ℕ) → IsOwnFile (files index)) where
  inputs_again_own : (inputs : LinkInputs) (link : Linking) → IsOwnLink link → IsOwnLink (inputs_again files inputs link)
  inputs_again_own NoInputs link own = own
  inputs_again_own (Input index rest) link own = inputs_again_own rest (input_again link index (files index)) (input_again_own link index (files index) (are index) own)
  inputs_again_own (Group group rest) link own =
      inputs_again_own rest (group_settled (inputs_again files group) link.keys.asked (inputs_again files group link))
      (group_own (inputs_again files group) link.keys.asked (inputs_again files group link) (inputs_again_own group) (inputs_again_own group link own))

  inputs_own : (inputs : LinkInputs) (link : Linking) → IsOwnLink link → IsOwnLink (inputs_taken files inputs link)
  inputs_own NoInputs link own = own
  inputs_own (Input index rest) link own = inputs_own rest (input_taken link index (files index)) (input_own link index (files index) (are index) own)
  inputs_own (Group group rest) link own =
      inputs_own rest (group_settled (inputs_again files group) link.keys.asked (inputs_taken files group link))
      (group_own (inputs_again files group) link.keys.asked (inputs_taken files group link) (inputs_again_own group) (inputs_own group link own))

-- the arguments
start_own : (arguments : List (List ℕ)) → IsOwnLink (with_arguments arguments)
unfolding with_arguments
start_own arguments =
    let none : AreOwnKeys no_keys = record { own = tt; further = tt } in
    record { keys = (symbols_stay None no_keys (map argument_symbol arguments) (arguments_own arguments) none).own; archives = tt }

-- A LINK
pub linked_own : (files : ℕ → InputFile) (arguments : List (List ℕ)) (inputs : LinkInputs) → ((index : ℕ) → IsOwnFile (files index)) → IsOwnLink (linked files arguments inputs)
linked_own files arguments inputs are = inputs_own files are inputs (with_arguments arguments) (start_own arguments)
