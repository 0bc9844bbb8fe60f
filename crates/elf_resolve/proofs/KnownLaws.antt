-- In links of inputs without restricted symbols, the keys that have been asked for are known.
use Rattle.std.proofs.Common.{ℕ, zero, suc, Bool, true, false, List, [], ◌∷◌, length, map, refl}
use Rattle.std.specs.Prelude.{Option, None, Some, ◌==◌, if◌then◌else◌}
use Rattle.elf_model.specs.LinkInputs.{EnteredIndex, IndexSymbol, InputFile, LinkInputs, Linking, OpenArchive, again_at, archive_again, archive_opened, argument_symbol, default_entered, group_settled, index_entered, input_again, input_taken, inputs_again, inputs_taken, linked, members_taken, opened_at, rounds_made, symbol_entered, untaken_in, with_arguments, with_object, whole_row}
use Rattle.elf_model.specs.LinkInputs.InputFile.{ObjectFile, SearchedFile, WholeFile, MissingFile}
use Rattle.elf_model.specs.LinkInputs.LinkInputs.{NoInputs, Input, Group}
use Rattle.elf_model.specs.LinkKeys.{LinkKeys, entered, no_keys, symbol_taken, symbols_taken}
use Rattle.elf_model.specs.LinkObjects.{LinkObject}
use Rattle.elf_model.specs.LinkPasses.{ArchiveMembers, ArchivePass, LinkArchive, archive_searched, index_passed, passes_made, untaken}
use Rattle.elf_model.specs.declared.link_states.IndexEntry.{IndexEntry}
use Rattle.elf_resolve.specs.KeyOrders.{AreUnrestricted, AreUnrestrictedIn, AskedAreKnown, IsUnrestricted}
use Rattle.elf_resolve.proofs.FollowLaws.{follows_entered, follows_object, follows_symbol}
use Rattle.elf_resolve.proofs.LeftLaws.{follows_pass}

-- a search
known_either : (b : Bool) (x y : ArchivePass) → AskedAreKnown x.keys → AskedAreKnown y.keys → AskedAreKnown (if b then x else y).keys
known_either true x y first second = first
known_either false x y first second = second

known_passes : (archive : LinkArchive) → ((member : ℕ) → AreUnrestricted (archive.members.objects member).symbols) → (n : ℕ) (es : List IndexEntry) (p : ArchivePass) → AskedAreKnown p.keys → AskedAreKnown (passes_made n archive es p).keys
known_passes archive plain zero es p known = known
known_passes archive plain (suc n) es p known =
    let next = index_passed archive p es in
    let now : AskedAreKnown next.keys = (follows_pass archive plain p es known).known in
    known_either (next.keys.asked == p.keys.asked) next (passes_made n archive es next) now (known_passes archive plain n es next now)

known_searched : (archive : LinkArchive) → ((member : ℕ) → AreUnrestricted (archive.members.objects member).symbols) → (es : List IndexEntry) (p : ArchivePass) → AskedAreKnown p.keys → AskedAreKnown (archive_searched archive es p).keys
unfolding archive_searched
known_searched archive plain es p known = known_passes archive plain (suc (untaken p.taken)) es p known

known_again : (link : Linking) (archive : OpenArchive) (members : ArchiveMembers) → ((member : ℕ) → AreUnrestricted (members.objects member).symbols) → AskedAreKnown link.keys → AskedAreKnown (archive_again link archive members).keys
unfolding archive_again
known_again link archive members plain known =
    known_searched (record { input = archive.input; row = archive.row; members = members }) plain archive.entries (record { keys = link.keys; rows = link.rows; taken = archive.taken }) known

-- the names of an index
known_default : (keys : LinkKeys) (default : Option (List ℕ)) → AskedAreKnown keys → AskedAreKnown (default_entered keys default)
known_default keys None known = known
known_default keys (Some name) known = (follows_entered keys name known).known

known_entered : (before : EnteredIndex) (s : IndexSymbol) → AskedAreKnown before.keys → AskedAreKnown (symbol_entered before s).keys
unfolding symbol_entered
known_entered before s known = known_default (entered before.keys s.name) s.default_name (follows_entered before.keys s.name known).known

pub known_index : (before : EnteredIndex) (symbols : List IndexSymbol) → AskedAreKnown before.keys → AskedAreKnown (index_entered before symbols).keys
known_index before [] known = known
known_index before (s ∷ symbols) known = known_index (symbol_entered before s) symbols (known_entered before s known)

-- an input
known_whole : (index row : ℕ) (link : Linking) (members : List (ℕ × LinkObject)) → AreUnrestrictedIn members → AskedAreKnown link.keys → AskedAreKnown (members_taken index row link members).keys
known_whole index row link [] are known = known
known_whole index row link ((member, object) ∷ members) are known =
    known_whole index row (with_object link (whole_row index row member) object) members are.1 (follows_object (Some (length link.rows)) link.keys object are.0 known).known

known_input : (link : Linking) (index : ℕ) (file : InputFile) → IsUnrestricted file → AskedAreKnown link.keys → AskedAreKnown (input_taken link index file).keys
unfolding input_taken archive_opened
known_input link index (ObjectFile object) are known = (follows_object (Some (length link.rows)) link.keys object are known).known
known_input link index (SearchedFile count symbols members) are known = known_again _ _ members are (known_index (record { keys = link.keys; entries = [] }) symbols known)
known_input link index (WholeFile members) are known = known_whole index (length link.rows) _ members are known
known_input link index MissingFile are known = known

known_again_at : (link : Linking) (found : Option OpenArchive) (members : ArchiveMembers) → ((member : ℕ) → AreUnrestricted (members.objects member).symbols) → AskedAreKnown link.keys → AskedAreKnown (again_at link found members).keys
known_again_at link None members are known = known
known_again_at link (Some archive) members are known = known_again link archive members are known

known_input_again : (link : Linking) (index : ℕ) (file : InputFile) → IsUnrestricted file → AskedAreKnown link.keys → AskedAreKnown (input_again link index file).keys
unfolding input_again
known_input_again link index (SearchedFile count symbols members) are known = known_again_at link (opened_at link.archives index) members are known
known_input_again link index (ObjectFile object) are known = known
known_input_again link index (WholeFile members) are known = known
known_input_again link index MissingFile are known = known

-- groups
either_link : (b : Bool) (x y : Linking) → AskedAreKnown x.keys → AskedAreKnown y.keys → AskedAreKnown (if b then x else y).keys
either_link true x y first second = first
either_link false x y first second = second

known_rounds : (n : ℕ) (round : Linking → Linking) (asked : ℕ) (link : Linking) → ((l : Linking) → AskedAreKnown l.keys → AskedAreKnown (round l).keys) → AskedAreKnown link.keys → AskedAreKnown (rounds_made n round asked link).keys
known_rounds zero round asked link keeps known = known
known_rounds (suc n) round asked link keeps known =
    either_link (link.keys.asked == asked) link (rounds_made n round link.keys.asked (round link)) known (known_rounds n round link.keys.asked (round link) keeps (keeps link known))

known_group : (round : Linking → Linking) (asked : ℕ) (link : Linking) → ((l : Linking) → AskedAreKnown l.keys → AskedAreKnown (round l).keys) → AskedAreKnown link.keys → AskedAreKnown (group_settled round asked link).keys
unfolding group_settled
known_group round asked link keeps known = known_rounds (suc (untaken_in link.archives)) round asked link keeps known

module _ (files : ℕ → InputFile) (are : (index : ℕ) → IsUnrestricted (files index)) where
  known_inputs_again : (inputs : LinkInputs) (link : Linking) → AskedAreKnown link.keys → AskedAreKnown (inputs_again files inputs link).keys
  known_inputs_again NoInputs link known = known
  known_inputs_again (Input index rest) link known = known_inputs_again rest (input_again link index (files index)) (known_input_again link index (files index) (are index) known)
  known_inputs_again (Group group rest) link known =
      known_inputs_again rest (group_settled (inputs_again files group) link.keys.asked (inputs_again files group link))
      (known_group (inputs_again files group) link.keys.asked (inputs_again files group link) (known_inputs_again group) (known_inputs_again group link known))

  pub known_inputs : (inputs : LinkInputs) (link : Linking) → AskedAreKnown link.keys → AskedAreKnown (inputs_taken files inputs link).keys
  known_inputs NoInputs link known = known
  known_inputs (Input index rest) link known = known_inputs rest (input_taken link index (files index)) (known_input link index (files index) (are index) known)
  known_inputs (Group group rest) link known =
      known_inputs rest (group_settled (inputs_again files group) link.keys.asked (inputs_taken files group link))
      (known_group (inputs_again files group) link.keys.asked (inputs_taken files group link) (known_inputs_again group) (known_inputs group link known))

-- the arguments
known_arguments : (keys : LinkKeys) (arguments : List (List ℕ)) → AskedAreKnown keys → AskedAreKnown (symbols_taken None keys (map argument_symbol arguments))
known_arguments keys [] known = known
known_arguments keys (name ∷ arguments) known =
    known_arguments (symbol_taken None keys (argument_symbol name)) arguments (follows_symbol None keys (argument_symbol name) refl tt known).known

known_start : (arguments : List (List ℕ)) → AskedAreKnown (with_arguments arguments).keys
unfolding with_arguments
known_start arguments = known_arguments no_keys arguments (λ i k. refl)

-- A LINK, and the index of an archive after it
pub known_links : (files : ℕ → InputFile) (arguments : List (List ℕ)) (inputs : LinkInputs) (symbols : List IndexSymbol)
    → ((index : ℕ) → IsUnrestricted (files index)) → AskedAreKnown (index_entered (record { keys = (linked files arguments inputs).keys; entries = [] }) symbols).keys
known_links files arguments inputs symbols are =
    known_index (record { keys = (linked files arguments inputs).keys; entries = [] }) symbols (known_inputs files are inputs (with_arguments arguments) (known_start arguments))
