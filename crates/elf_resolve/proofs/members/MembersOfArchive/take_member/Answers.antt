use Rattle.std.proofs.Common.{◌≡◌, ℕ, ◌<◌, List, [], ◌∷◌, ◌++◌, length, sym, ap, subst, ◌∙◌, arith}
use Rattle.std.specs.Prelude.{IfSome, Ok, Option, map, option_map}
use Rattle.std.proofs.lemmas.List.{length-map}
use Rattle.std.proofs.lemmas.Result.{err_from_is_err_and}
use Rattle.elf_archive.specs.Members.{IsInBounds, extent_of, extent_of_names}
use Rattle.elf_model.specs.Archive.{FileRange}
use Rattle.elf_model.specs.Bytes.{slice}
use Rattle.elf_model.specs.LinkArchives.{link_members, name_table, refusal_of, table_before}
use Rattle.elf_model.specs.LinkSymbols.{object_of}
use Rattle.elf_resolve.specs.LinkMembers.{file_of_range, range_before, whole_file_of}
use Rattle.elf_resolve.specs.Taken.{IsLinkFault, TakesObject, data_of, header_of}
use Rattle.elf_resolve.proofs.IndexParts.{unrefused_small}
use Rattle.elf_resolve.proofs.MemberTaking.{header_of_index, member_of_index, name_refused, object_refused, table_of_member, table_within, took_member, widened_file}
use Rattle.elf_resolve.proofs.MemberWalks.{data_within_file}
use Rattle.elf_resolve.proofs.RowNameLaws.{name_by_file}
use Rattle.elf_resolve.proofs.members.MembersOfArchive.take_member.Goals as goal

-- the member is one of the archive
one_of : (file offsets : List ℕ) (member : ℕ) → offsets ≡ map header_of (link_members file).members → member < length offsets → member < length (link_members file).members
one_of file offsets member are below = omega (arith, below, ap length are, length-map (link_members file).members header_of)

-- its table of names
names_here : (file : List ℕ) (member at : ℕ) (names result : Option FileRange) → member < length (link_members file).members → (member_of_index file member).header ≡ at
    → names ≡ option_map data_of (name_table file (link_members file).members) → result ≡ range_before names at → result ≡ table_before (name_table file (link_members file).members) (member_of_index file member).header
names_here file member at names result below here are is =
    is ∙ ap (λ n. range_before n at) are ∙ ap (λ n. range_before (option_map data_of (name_table file (link_members file).members)) n) (sym here) ∙ table_of_member file member below

names_within : (file : List ℕ) (at : ℕ) (names result : Option FileRange) → names ≡ option_map data_of (name_table file (link_members file).members) → result ≡ range_before names at → IfSome result (IsInBounds (length file))
names_within file at names result are is = subst (λ t. IfSome t (IsInBounds (length file))) (sym (is ∙ ap (λ n. range_before n at) are)) (table_within file at)

pub returns-in_err-extent-clause-takes : goal.returns-in_err-extent-clause-takes
returns-in_err-extent-clause-takes g c = λ files headers known.
    let p = err_from_is_err_and c.from_residual-in_err-extent.result c.from_residual-in_err-extent.ensures.1 in
    let file = known.file in
    let member = c.args.member in
    let at = c.in_ok-at.at in
    let place = c.in_ok-at.ensures.place in
    let below = one_of file c.args.self.now.members.now member known.offsets_are place.0 in
    let here = header_of_index file c.args.self.now.members.now member at known.offsets_are below place.1 in
    let whole = widened_file c.args.self.now.src.now c.widen.new.self file c.widen.ensures known.is in
    let archive_names = extent_of_names c.args.self.now.archive.names in
    let table = extent_of_names c.names_before-names.result in
    let names = names_here file member at archive_names table below here known.names_are c.names_before-names.ensures in
    let inside = names_within file at archive_names table known.names_are c.names_before-names.ensures in
    let says = c.in_err-extent.ensures.reads file whole inside in
    rw (p.1, p.2) (λ under moves. name_refused files file member at table below here names c.in_err-extent.field-0.0 (says.refused (unrefused_small file known.unrefused)))

pub returns-in_err-narrow_to-clause-takes : goal.returns-in_err-narrow_to-clause-takes
returns-in_err-narrow_to-clause-takes g c = λ files headers known.
    let p = err_from_is_err_and c.from_residual-in_err-narrow_to.result c.from_residual-in_err-narrow_to.ensures.1 in
    let file = known.file in
    let at = c.in_ok-at.at in
    let whole = widened_file c.args.self.now.src.now c.widen.new.self file c.widen.ensures known.is in
    let archive_names = extent_of_names c.args.self.now.archive.names in
    let table = extent_of_names c.names_before-names.result in
    let inside = names_within file at archive_names table known.names_are c.names_before-names.ensures in
    let read = c.in_ok-extent.ensures.reads file whole inside in
    let held = ap whole_file_of (c.in_ok-extent.ensures.keeps.same_whole ∙ c.widen.ensures.same_whole) ∙ known.is in
    let within = data_within_file file at (extent_of c.in_ok-extent.extent) read.member.data_are in
    let fails = c.in_err-narrow_to.ensures.fails file held in
    absurd (omega (arith, within, fails))

pub returns-in-Ok-clause-takes : goal.returns-in-Ok-clause-takes
returns-in-Ok-clause-takes g c = λ files headers known.
    let file = known.file in
    let member = c.args.member in
    let at = c.in_ok-at.at in
    let place = c.in_ok-at.ensures.place in
    let below = one_of file c.args.self.now.members.now member known.offsets_are place.0 in
    let here = header_of_index file c.args.self.now.members.now member at known.offsets_are below place.1 in
    let whole = widened_file c.args.self.now.src.now c.widen.new.self file c.widen.ensures known.is in
    let archive_names = extent_of_names c.args.self.now.archive.names in
    let table = extent_of_names c.names_before-names.result in
    let names = names_here file member at archive_names table below here known.names_are c.names_before-names.ensures in
    let inside = names_within file at archive_names table known.names_are c.names_before-names.ensures in
    let read = c.in_ok-extent.ensures.reads file whole inside in
    let held = ap whole_file_of (c.in_ok-extent.ensures.keeps.same_whole ∙ c.widen.ensures.same_whole) ∙ known.is in
    let extent = extent_of c.in_ok-extent.extent in
    let bytes = slice file extent.at extent.size in
    let narrowed = c.in_ok-narrow_to.ensures.narrows file held in
    let took = subst (λ n. TakesObject bytes n c.args.row c.args.keys.now c.take_object-taken.new.keys (Ok tt)) (sym headers) (c.in-Ok.ensures.takes bytes narrowed) in
    took_member files file member at table below here names c.args.row c.args.keys.now c.take_object-taken.new.keys extent read.name read.member took

pub returns-in-Err-clause-takes : goal.returns-in-Err-clause-takes
returns-in-Err-clause-takes g c = λ files headers known under moves.
    let file = known.file in
    let member = c.args.member in
    let at = c.in_ok-at.at in
    let place = c.in_ok-at.ensures.place in
    let here = header_of_index file c.args.self.now.members.now member at known.offsets_are under place.1 in
    let whole = widened_file c.args.self.now.src.now c.widen.new.self file c.widen.ensures known.is in
    let archive_names = extent_of_names c.args.self.now.archive.names in
    let table = extent_of_names c.names_before-names.result in
    let names = names_here file member at archive_names table under here known.names_are c.names_before-names.ensures in
    let inside = names_within file at archive_names table known.names_are c.names_before-names.ensures in
    let read = c.in_ok-extent.ensures.reads file whole inside in
    let held = ap whole_file_of (c.in_ok-extent.ensures.keeps.same_whole ∙ c.widen.ensures.same_whole) ∙ known.is in
    let extent = extent_of c.in_ok-extent.extent in
    let bytes = slice file extent.at extent.size in
    let narrowed = c.in_ok-narrow_to.ensures.narrows file held in
    let fault = subst (λ n. IsLinkFault (refusal_of (object_of bytes n)) c.in-Err.fault) (sym headers) (c.in-Err.ensures.takes bytes narrowed) in
    object_refused files file member at table under here names extent read.name c.in-Err.fault c.in_member.result read.member moves fault c.in_member.ensures

pub returns-in-Ok-clause-names : goal.returns-in-Ok-clause-names
returns-in-Ok-clause-names g c = λ known.
    let file = known.file in
    let member = c.args.member in
    let at = c.in_ok-at.at in
    let place = c.in_ok-at.ensures.place in
    let below = one_of file c.args.self.now.members.now member known.offsets_are place.0 in
    let here = header_of_index file c.args.self.now.members.now member at known.offsets_are below place.1 in
    let whole = widened_file c.args.self.now.src.now c.widen.new.self file c.widen.ensures known.is in
    let archive_names = extent_of_names c.args.self.now.archive.names in
    let table = extent_of_names c.names_before-names.result in
    let names = names_here file member at archive_names table below here known.names_are c.names_before-names.ensures in
    let inside = names_within file at archive_names table known.names_are c.names_before-names.ensures in
    let read = c.in_ok-extent.ensures.reads file whole inside in
    let named = name_by_file (file_of_range c.args.self.now.src.now.seen) file member at table (extent_of c.in_ok-extent.extent) read.name known.is here names read.member in
    c.take_object-taken.ensures.names ∙ read.added ∙ ap (λ n. c.args.self.now.room.now.names ++ (record { row = c.args.row; name = n }) ∷ []) named
