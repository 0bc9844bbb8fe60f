-- The symbols of objects are no definitions of shared libraries.
use Rattle.std.proofs.Common.{ℕ, zero, suc, ◌+◌, ◌-◌, Bool, true, false, List, [], ◌∷◌, ◌++◌}
use Rattle.std.specs.Prelude.{Option, None, Some, Result, Ok, Err, ◌==◌, ◌||◌, if◌then◌else◌, bytes_eq}
use Rattle.elf_model.specs.Archive.{bytes_in, is_name_table}
use Rattle.elf_model.specs.LinkArchives.{LinkFiles, LinkMember, archive_as, archive_index, archive_input, files_as_inputs, input_of, is_archive_index, link_members, member_bytes, members_as_objects, members_refusal, object_input, or_empty, or_object, searched_by, whole_members}
use Rattle.elf_model.specs.LinkInputs.{IndexSymbol, InputFile}
use Rattle.elf_model.specs.LinkObjects.{LinkObject, NamedSection, ObjectSymbol, SectionGroup}
use Rattle.elf_model.specs.LinkSymbols.{LTO_MARK, and_then, followed, groups_from, is_common, is_global, is_weak_use, link_name, link_symbol, refused_at, link_symbol_at, object_by, object_of, object_refusal, object_symbol, sections_from, symbol_called, symbol_counts, symbol_role, symbol_table_in, symbols_from, symbols_if}
use Rattle.elf_model.specs.Numbers.{SHN_UNDEF}
use Rattle.elf_model.specs.Records.{e_shnum, section_at, sh_info, st_name, st_shndx, st_size}
use Rattle.elf_model.specs.Tables.{SYMBOL_SIZE, entry_at, entry_count, strings_of}
use Rattle.elf_model.specs.declared.link_states.LinkCause.TheVariants.{Lto}
use Rattle.elf_model.specs.declared.link_states.LinkRefusal.{LinkRefusal}
use Rattle.elf_model.specs.declared.link_states.SymbolRole.{SymbolRole}
use Rattle.elf_model.specs.declared.link_states.SymbolRole.TheVariants.{WeakReference, Reference, WeakDefinition, Definition, Common}
use Rattle.elf_resolve.specs.KeyStates.{IsOwn}
use Rattle.elf_resolve.proofs.OwnKeyLaws.{AreOwnInObject}
use Rattle.elf_resolve.proofs.OwnLinkLaws.{AreOwnMembers, IsOwnFile}

-- a result has own symbols, if it is one
abbrev AreOwnIf : Result (List ObjectSymbol) LinkRefusal → Type 0
AreOwnIf (Ok symbols) = AreOwnInObject symbols
AreOwnIf (Err refusal) = Unit {0}

abbrev IsOwnObject : Result LinkObject LinkRefusal → Type 0
IsOwnObject (Ok object) = AreOwnInObject object.symbols
IsOwnObject (Err refusal) = Unit {0}

own_append : (first rest : List ObjectSymbol) → AreOwnInObject first → AreOwnInObject rest → AreOwnInObject (first ++ rest)
own_append [] rest are others = others
own_append (s ∷ first) rest are others = (are.0, own_append first rest are.1 others)

own_followed : (first : List ObjectSymbol) (rest : Result (List ObjectSymbol) LinkRefusal) → AreOwnInObject first → AreOwnIf rest → AreOwnIf (followed first rest)
own_followed first (Err refusal) are others = tt
own_followed first (Ok rest) are others = own_append first rest are others

own_both : (first rest : Result (List ObjectSymbol) LinkRefusal) → AreOwnIf first → AreOwnIf rest → AreOwnIf (and_then first rest)
own_both (Err refusal) rest are others = tt
own_both (Ok first) rest are others = own_followed first rest are others

own_either : (b : Bool) (x y : SymbolRole) → IsOwn x → IsOwn y → IsOwn (if b then x else y)
own_either true x y first second = first
own_either false x y first second = second

role_own : (file : List ℕ) (at : ℕ) → IsOwn (symbol_role file at)
unfolding symbol_role
role_own file at =
    let weak = is_weak_use file at in
    let reference : SymbolRole = if weak then WeakReference else Reference in
    let definition : SymbolRole = if weak then WeakDefinition else Definition in
    let other : SymbolRole = if is_common file at then Common (st_size file at) else definition in
    own_either (st_shndx file at == SHN_UNDEF) reference other (own_either weak WeakReference Reference tt tt)
    (own_either (is_common file at) (Common (st_size file at)) definition tt (own_either weak WeakDefinition Definition tt tt))

counted_own : (file : List ℕ) (at : ℕ) (name : List ℕ) → AreOwnInObject (symbol_counts file at name)
unfolding object_symbol link_symbol
counted_own file at [] = tt
counted_own file at (byte ∷ name) = (role_own file at, tt)

called_by : (b : Bool) (refusal : Result (List ObjectSymbol) LinkRefusal) (symbols : List ObjectSymbol) → AreOwnIf refusal → AreOwnInObject symbols → AreOwnIf (if b then refusal else Ok symbols)
called_by true refusal symbols first are = first
called_by false refusal symbols first are = are

called_own : (file : List ℕ) (at : ℕ) (name : Result (List ℕ) LinkRefusal) → AreOwnIf (symbol_called file at name)
called_own file at (Err refusal) = tt
called_own file at (Ok name) = called_by (bytes_eq name LTO_MARK) (refused_at at Lto) (symbol_counts file at name) tt (counted_own file at name)

symbol_by : (b : Bool) (x : Result (List ObjectSymbol) LinkRefusal) → AreOwnIf x → AreOwnIf (if b then x else Ok [])
symbol_by true x are = are
symbol_by false x are = tt

symbol_own : (file : List ℕ) (table_at at : ℕ) → AreOwnIf (link_symbol_at file table_at at)
unfolding link_symbol_at
symbol_own file table_at at =
    let name = link_name (strings_of file table_at) (st_name file at) at in
    symbol_by (is_global file at) (symbol_called file at name) (called_own file at name)

symbols_from_own : (count : ℕ) (file : List ℕ) (table_at index : ℕ) → AreOwnIf (symbols_from file table_at index count)
unfolding symbols_from
symbols_from_own zero file table_at index = tt
symbols_from_own (suc count) file table_at index =
    let at = entry_at file table_at SYMBOL_SIZE index in
    own_both (link_symbol_at file table_at at) (symbols_from file table_at (suc index) count) (symbol_own file table_at at) (symbols_from_own count file table_at (suc index))

symbols_if_own : (file : List ℕ) (table : Option ℕ) → AreOwnIf (symbols_if file table)
symbols_if_own file None = tt
symbols_if_own file (Some table) =
    let table_at = section_at file table in
    symbols_from_own (entry_count file table_at SYMBOL_SIZE - sh_info file table_at) file table_at (sh_info file table_at)

-- AN OBJECT by its bytes
by_own : (groups : Result (List SectionGroup) LinkRefusal) (sections : Result (List NamedSection) LinkRefusal) (symbols : Result (List ObjectSymbol) LinkRefusal) → AreOwnIf symbols → IsOwnObject (object_by groups sections symbols)
by_own (Err refusal) sections symbols are = tt
by_own (Ok groups) (Err refusal) symbols are = tt
by_own (Ok groups) (Ok sections) (Err refusal) are = tt
by_own (Ok groups) (Ok sections) (Ok symbols) are = are

unless_refused : (refusal : Option LinkRefusal) (object : Result LinkObject LinkRefusal) → IsOwnObject object
    → IsOwnObject (elim refusal as (λ _. Result LinkObject LinkRefusal) [ Some refused ↦ Err refused | None ↦ object ])
unless_refused (Some refused) object are = tt
unless_refused None object are = are

object_own : (file : List ℕ) (headers : ℕ) → IsOwnObject (object_of file headers)
unfolding object_of
object_own file headers =
    let groups = groups_from file 0 (e_shnum file) in
    let sections = sections_from file 0 (e_shnum file) in
    let symbols = symbols_if file (symbol_table_in file) in
    unless_refused (object_refusal file headers) (object_by groups sections symbols) (by_own groups sections symbols (symbols_if_own file (symbol_table_in file)))

empty_own : (object : Result LinkObject LinkRefusal) → IsOwnObject object → AreOwnInObject (or_empty object).symbols
empty_own (Ok object) are = are
empty_own (Err refusal) are = tt

-- THE MEMBERS of an archive
members_own : (file : List ℕ) (members : List LinkMember) (headers member : ℕ) → AreOwnInObject ((members_as_objects file members headers).objects member).symbols
unfolding members_as_objects
members_own file members headers member = empty_own (object_of (member_bytes file members member) headers) (object_own (member_bytes file members member) headers)

whole_by : (b : Bool) (index : ℕ) (object : LinkObject) (rest : List (ℕ × LinkObject)) → AreOwnInObject object.symbols → AreOwnMembers rest → AreOwnMembers (if b then rest else ((index, object) ∷ rest))
whole_by true index object rest first are = are
whole_by false index object rest first are = (first, are)

whole_files_own : (file : List ℕ) (index : ℕ) (members : List LinkMember) (headers : ℕ) → AreOwnMembers (whole_members file index members headers)
whole_files_own file index [] headers = tt
whole_files_own file index (m ∷ members) headers =
    whole_by (is_archive_index file m.header || is_name_table file m.header) index (or_empty (object_of (bytes_in file m.extent) headers)) (whole_members file (index + 1) members headers)
    (empty_own (object_of (bytes_in file m.extent) headers) (object_own (bytes_in file m.extent) headers)) (whole_files_own file (index + 1) members headers)

-- AN INPUT by its bytes
abbrev IsOwnInput : Result InputFile LinkRefusal → Type 0
IsOwnInput (Ok file) = IsOwnFile file
IsOwnInput (Err refusal) = Unit {0}

searched_own : (file : List ℕ) (headers : ℕ) (symbols : Result (List IndexSymbol) LinkRefusal) → IsOwnInput (searched_by file headers symbols)
searched_own file headers (Err refusal) = tt
searched_own file headers (Ok symbols) = λ member. members_own file (link_members file).members headers member

archive_as_own : (whole : Bool) (file : List ℕ) (headers : ℕ) → IsOwnInput (archive_as whole file headers)
archive_as_own true file headers = whole_files_own file 0 (link_members file).members headers
archive_as_own false file headers = searched_own file headers (archive_index file (link_members file).members)

input_unless_refused : (refusal : Option LinkRefusal) (file : Result InputFile LinkRefusal) → IsOwnInput file
    → IsOwnInput (elim refusal as (λ _. Result InputFile LinkRefusal) [ Some refused ↦ Err refused | None ↦ file ])
input_unless_refused (Some refused) file are = tt
input_unless_refused None file are = are

archive_own : (whole : Bool) (file : List ℕ) (headers : ℕ) → IsOwnInput (archive_input whole file headers)
unfolding archive_input
archive_own whole file headers = input_unless_refused (members_refusal file) (archive_as whole file headers) (archive_as_own whole file headers)

object_input_own : (object : Result LinkObject LinkRefusal) → IsOwnObject object → IsOwnInput (object_input object)
object_input_own (Err refusal) are = tt
object_input_own (Ok object) are = are

input_own : (archive whole : Bool) (file : Option (List ℕ)) (headers : ℕ) → IsOwnInput (input_of archive whole file headers)
unfolding input_of
input_own archive whole None headers = tt
input_own true whole (Some file) headers = archive_own whole file headers
input_own false whole (Some file) headers = object_input_own (object_of file headers) (object_own file headers)

or_object_own : (file : Result InputFile LinkRefusal) → IsOwnInput file → IsOwnFile (or_object file)
or_object_own (Ok file) are = are
or_object_own (Err refusal) are = tt

pub files_own : (files : LinkFiles) (index : ℕ) → IsOwnFile (files_as_inputs files index)
files_own files index = or_object_own (input_of (files.is_archive index) (files.is_whole index) (files.file index) files.headers) (input_own (files.is_archive index) (files.is_whole index) (files.file index) files.headers)
