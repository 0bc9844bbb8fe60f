-- Each part of a link only adds rows after those that it has.
use Rattle.std.proofs.Common.{◌≡◌, ℕ, zero, suc, ◌<◌, Bool, true, false, List, [], ◌∷◌, ◌++◌, append_assoc, get_or, length, take, refl, sym, ap, subst, ◌∙◌, arith}
use Rattle.std.specs.Prelude.{◌==◌, if◌then◌else◌, Option, None, Some}
use Rattle.std.proofs.lemmas.List.{append-nil}
use Rattle.elf_model.specs.LinkInputs.{IndexSymbol, InputFile, LinkInputs, Linking, OpenArchive, again_at, archive_again, archive_opened, group_settled, input_again, input_taken, inputs_again, inputs_taken, members_taken, opened_at, rounds_made, untaken_in, whole_row, with_object}
use Rattle.elf_model.specs.LinkInputs.InputFile.{ObjectFile, SearchedFile, WholeFile, MissingFile}
use Rattle.elf_model.specs.LinkInputs.LinkInputs.{NoInputs, Input, Group}
use Rattle.elf_model.specs.LinkObjects.{LinkObject}
use Rattle.elf_model.specs.LinkPasses.{ArchiveMembers, ArchivePass, LinkArchive, archive_searched, entry_visited, index_passed, member_taken, passes_made, takes_member, untaken}
use Rattle.elf_model.specs.declared.link_states.IndexEntry.{IndexEntry}
use Rattle.elf_model.specs.declared.link_states.LinkRow.{LinkRow}
use Rattle.elf_resolve.specs.LinkPlaces.{EnteredGroup, groups_ended, input_made, inputs_made}

-- rows are the first ones of others
pub record Begins (rows whole : List LinkRow) : Type 0 where
  pub rest : List LinkRow
  pub are : whole ≡ rows ++ rest

pub begins_same : (rows : List LinkRow) → Begins rows rows
begins_same rows = record { rest = []; are = sym (append-nil rows) }

pub begins_then : (a b c : List LinkRow) → Begins a b → Begins b c → Begins a c
begins_then a b c first second = record { rest = first.rest ++ second.rest; are = second.are ∙ ap (λ r. r ++ second.rest) first.are ∙ append_assoc a first.rest second.rest }

pub begins_more : (rows more : List LinkRow) → Begins rows (rows ++ more)
begins_more rows more = record { rest = more; are = refl }

pub begins_as : (rows whole other : List LinkRow) → whole ≡ other → Begins rows whole → Begins rows other
begins_as rows whole other same begins = subst (λ w. Begins rows w) same begins

-- PASSES over an index
module _ (archive : LinkArchive) where
  member_begins : (p : ArchivePass) (e : IndexEntry) → Begins p.rows (member_taken archive p e).rows
  unfolding member_taken
  member_begins p e = begins_more p.rows _

  visit_by : (p : ArchivePass) (e : IndexEntry) (b : Bool) → Begins p.rows (if b then member_taken archive p e else p).rows
  visit_by p e true = member_begins p e
  visit_by p e false = begins_same p.rows

  pub visited_begins : (p : ArchivePass) (e : IndexEntry) → Begins p.rows (entry_visited archive p e).rows
  unfolding entry_visited
  visited_begins p e = visit_by p e (takes_member archive p e)

  pub passed_begins : (p : ArchivePass) (es : List IndexEntry) → Begins p.rows (index_passed archive p es).rows
  passed_begins p [] = begins_same p.rows
  passed_begins p (e ∷ es) = begins_then p.rows (entry_visited archive p e).rows _ (visited_begins p e) (passed_begins (entry_visited archive p e) es)

  passes_by : (rows : List LinkRow) (next more : ArchivePass) (b : Bool) → Begins rows next.rows → Begins next.rows more.rows → Begins rows (if b then next else more).rows
  passes_by rows next more true first second = first
  passes_by rows next more false first second = begins_then rows next.rows more.rows first second

  made_begins : (n : ℕ) (es : List IndexEntry) (p : ArchivePass) → Begins p.rows (passes_made n archive es p).rows
  made_begins zero es p = begins_same p.rows
  made_begins (suc n) es p =
      passes_by p.rows (index_passed archive p es) (passes_made n archive es (index_passed archive p es)) ((index_passed archive p es).keys.asked == p.keys.asked) (passed_begins p es) (made_begins n es (index_passed archive p es))

  pub searched_begins : (es : List IndexEntry) (p : ArchivePass) → Begins p.rows (archive_searched archive es p).rows
  unfolding archive_searched
  searched_begins es p = made_begins (suc (untaken p.taken)) es p

  -- an entry of a pass, and a pass of a search
  pub entry_begins : (start : ArchivePass) (es : List IndexEntry) (i : ℕ) (d : IndexEntry) → i < length es → Begins (entry_visited archive (index_passed archive start (take i es)) (get_or es i d)).rows (index_passed archive start es).rows
  entry_begins start [] i d below = absurd (omega (arith, below))
  entry_begins start (e ∷ es) zero d below = passed_begins (entry_visited archive start e) es
  entry_begins start (e ∷ es) (suc i) d below = entry_begins (entry_visited archive start e) es i d (omega (arith, below))

  pub pass_begins : (es : List IndexEntry) (p : ArchivePass) → Begins (index_passed archive p es).rows (archive_searched archive es p).rows
  unfolding archive_searched
  pass_begins es p =
      passes_by (index_passed archive p es).rows (index_passed archive p es) (passes_made (untaken p.taken) archive es (index_passed archive p es)) ((index_passed archive p es).keys.asked == p.keys.asked)
      (begins_same (index_passed archive p es).rows) (made_begins (untaken p.taken) es (index_passed archive p es))

-- A LINK
pub again_begins : (link : Linking) (archive : OpenArchive) (members : ArchiveMembers) → Begins link.rows (archive_again link archive members).rows
unfolding archive_again
again_begins link archive members =
    searched_begins (record { input = archive.input; row = archive.row; members = members }) archive.entries (record { keys = link.keys; rows = link.rows; taken = archive.taken })

pub members_begin : (index row : ℕ) (link : Linking) (members : List (ℕ × LinkObject)) → Begins link.rows (members_taken index row link members).rows
members_begin index row link [] = begins_same link.rows
members_begin index row link ((member, object) ∷ members) =
    begins_then link.rows (with_object link (whole_row index row member) object).rows _ (begins_more link.rows _) (members_begin index row (with_object link (whole_row index row member) object) members)

opened_begins : (link : Linking) (index count : ℕ) (symbols : List IndexSymbol) (members : ArchiveMembers) → Begins link.rows (archive_opened link index count symbols members).rows
unfolding archive_opened
opened_begins link index count symbols members = begins_then link.rows _ _ (begins_more link.rows _) (again_begins _ _ members)

pub taken_begins : (link : Linking) (index : ℕ) (file : InputFile) → Begins link.rows (input_taken link index file).rows
unfolding input_taken
taken_begins link index (ObjectFile object) = begins_more link.rows _
taken_begins link index (SearchedFile count symbols members) = opened_begins link index count symbols members
taken_begins link index (WholeFile members) = begins_then link.rows _ _ (begins_more link.rows _) (members_begin index _ _ members)
taken_begins link index MissingFile = begins_more link.rows _

again_at_begins : (link : Linking) (archive : Option OpenArchive) (members : ArchiveMembers) → Begins link.rows (again_at link archive members).rows
again_at_begins link None members = begins_same link.rows
again_at_begins link (Some archive) members = again_begins link archive members

pub input_again_begins : (link : Linking) (index : ℕ) (file : InputFile) → Begins link.rows (input_again link index file).rows
unfolding input_again
input_again_begins link index (SearchedFile count symbols members) = again_at_begins link (opened_at link.archives index) members
input_again_begins link index (ObjectFile object) = begins_same link.rows
input_again_begins link index (WholeFile members) = begins_same link.rows
input_again_begins link index MissingFile = begins_same link.rows

pub input_made_begins : (is_new : Bool) (link : Linking) (index : ℕ) (file : InputFile) → Begins link.rows (input_made is_new link index file).rows
input_made_begins true link index file = taken_begins link index file
input_made_begins false link index file = input_again_begins link index file

-- GROUPS
rounds_by : (rows : List LinkRow) (link more : Linking) (b : Bool) → Begins rows link.rows → Begins rows more.rows → Begins rows (if b then link else more).rows
rounds_by rows link more true first second = first
rounds_by rows link more false first second = second

rounds_begin : (n : ℕ) (round : Linking → Linking) (asked : ℕ) (link : Linking) → ((l : Linking) → Begins l.rows (round l).rows) → Begins link.rows (rounds_made n round asked link).rows
rounds_begin zero round asked link adds = begins_same link.rows
rounds_begin (suc n) round asked link adds =
    rounds_by link.rows link (rounds_made n round link.keys.asked (round link)) (link.keys.asked == asked) (begins_same link.rows)
    (begins_then link.rows (round link).rows _ (adds link) (rounds_begin n round link.keys.asked (round link) adds))

pub settled_begins : (round : Linking → Linking) (asked : ℕ) (link : Linking) → ((l : Linking) → Begins l.rows (round l).rows) → Begins link.rows (group_settled round asked link).rows
unfolding group_settled
settled_begins round asked link adds = rounds_begin (suc (untaken_in link.archives)) round asked link adds

module _ (files : ℕ → InputFile) where
  pub inputs_again_begin : (inputs : LinkInputs) (link : Linking) → Begins link.rows (inputs_again files inputs link).rows
  inputs_again_begin NoInputs link = begins_same link.rows
  inputs_again_begin (Input index rest) link = begins_then link.rows _ _ (input_again_begins link index (files index)) (inputs_again_begin rest (input_again link index (files index)))
  inputs_again_begin (Group group rest) link =
      let once = inputs_again files group link in
      let settled = group_settled (inputs_again files group) link.keys.asked once in
      begins_then link.rows once.rows _ (inputs_again_begin group link)
      (begins_then once.rows settled.rows _ (settled_begins (inputs_again files group) link.keys.asked once (inputs_again_begin group)) (inputs_again_begin rest settled))

  pub inputs_taken_begin : (inputs : LinkInputs) (link : Linking) → Begins link.rows (inputs_taken files inputs link).rows
  inputs_taken_begin NoInputs link = begins_same link.rows
  inputs_taken_begin (Input index rest) link = begins_then link.rows _ _ (taken_begins link index (files index)) (inputs_taken_begin rest (input_taken link index (files index)))
  inputs_taken_begin (Group group rest) link =
      let once = inputs_taken files group link in
      let settled = group_settled (inputs_again files group) link.keys.asked once in
      begins_then link.rows once.rows _ (inputs_taken_begin group link)
      (begins_then once.rows settled.rows _ (settled_begins (inputs_again files group) link.keys.asked once (inputs_again_begin group)) (inputs_taken_begin rest settled))

  pub inputs_made_begin : (again : Bool) (inputs : LinkInputs) (link : Linking) → Begins link.rows (inputs_made files again inputs link).rows
  inputs_made_begin false inputs link = inputs_taken_begin inputs link
  inputs_made_begin true inputs link = inputs_again_begin inputs link

  pub groups_end_begin : (groups : List EnteredGroup) (link : Linking) → Begins link.rows (groups_ended files groups link).rows
  groups_end_begin [] link = begins_same link.rows
  groups_end_begin (g ∷ groups) link =
      let settled = group_settled (inputs_again files g.group) g.asked link in
      let made = inputs_made files g.again g.rest settled in
      begins_then link.rows settled.rows _ (settled_begins (inputs_again files g.group) g.asked link (inputs_again_begin g.group))
      (begins_then settled.rows made.rows _ (inputs_made_begin g.again g.rest settled) (groups_end_begin groups made))
