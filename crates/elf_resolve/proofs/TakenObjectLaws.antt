-- What a member that is taken does to keys, and whether a member is a file.
use Rattle.std.proofs.Common.{◌≡◌, ℕ, List, Bool, true, false, get_or, refl, sym, ap, subst, ◌∙◌}
use Rattle.std.specs.Prelude.{OnOk, Some, Result, Ok, Err, not, ◌||◌}
use Rattle.std.specs.List.{slice_get}
use Rattle.std.proofs.lemmas.Option.{get_or_from_slice_get}
use Rattle.elf_model.specs.Archive.{is_name_table}
use Rattle.elf_model.specs.LinkArchives.{LinkFiles, LinkMember, is_archive_index, link_members, member_bytes, no_member, or_empty}
use Rattle.elf_model.specs.LinkSymbols.{object_of}
use Rattle.elf_resolve.specs.KeyTables.{KeyList}
use Rattle.elf_resolve.specs.LinkMembers.{ReturnsFileMember, TakesMember, is_file_member}
use Rattle.elf_resolve.specs.Passing.{TookObject}
use Rattle.elf_resolve.specs.declared.link_faults.LinkFault.{LinkFault}

pub took_object : (files : LinkFiles) (file : List ℕ) (member row : ℕ) (old new : KeyList) (r : Result (Unit {0}) LinkFault) → TakesMember files file member row old new r
    → OnOk r (TookObject (or_empty (object_of (member_bytes file (link_members file).members member) files.headers)) old new row)
took_object files file member row old new (Ok done) took = took.object
took_object files file member row old new (Err fault) took = tt

get_or-there : (members : List LinkMember) (member : ℕ) (m : LinkMember) → slice_get members member ≡ Some m → get_or members member no_member ≡ m
get_or-there members member m is = get_or_from_slice_get members member m no_member is

not_is : (no_file : Bool) → true ≡ not no_file → no_file ≡ false
not_is true is = absurd cc
not_is false is = refl

-- a member that is a file is neither an index nor the table of names
pub as_file : (file : List ℕ) (member : ℕ) (m : LinkMember) (is_taken : Bool) (made : Bool → Type 0) → slice_get (link_members file).members member ≡ Some m → ReturnsFileMember file member (Ok is_taken) → is_taken ≡ true
    → made false → made (is_archive_index file m.header || is_name_table file m.header)
as_file file member m is_taken made at told taken here =
    let is : true ≡ is_file_member file m.header = sym taken ∙ told.1 ∙ ap (λ (one : LinkMember). is_file_member file one.header) (get_or-there (link_members file).members member m at) in
    subst made (sym (not_is (is_archive_index file m.header || is_name_table file m.header) is)) here
