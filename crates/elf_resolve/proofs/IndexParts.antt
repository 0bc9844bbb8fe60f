-- The parts of an index, and the names of its symbols.
use Rattle.std.proofs.Common.{◌≡◌, ℕ, zero, suc, ◌+◌, ◌-◌, ◌*◌, ◌^◌, ◌<◌, ◌≤◌, ◌==◌, ◌&&◌, nat_lt, Bool, true, false, List, [], ◌∷◌, ◌++◌, length, get_or, drop, take, None, Some, Result, Ok, Err, inr, refl, sym, ap, subst, ◌∙◌, arith, drop-cons}
use Rattle.std.specs.Prelude.{map, not}
use Rattle.std.proofs.lemmas.Bool.Decides.{nat_tests}
use Rattle.std.proofs.lemmas.List.{append-nil, get_or_past, length-drop, length-map, nil_from_length, take_all}
use Rattle.elf_model.specs.Archive.{FileRange, bytes_in, member_data}
use Rattle.elf_model.specs.Bytes.{slice}
use Rattle.elf_model.specs.LinkArchives.{LinkMember, archive_index, big, index_in, index_symbols, index_width, link_members, link_members_from, members_refusal, refusal_of, symbol_of_index}
use Rattle.elf_model.specs.LinkInputs.{IndexSymbol}
use Rattle.elf_model.specs.LinkKeys.{LinkKeys, entered, key_index}
use Rattle.elf_model.specs.LinkSymbols.{is_default_at, version_sign_in}
use Rattle.elf_model.specs.declared.causes.Cause.{Cause}
use Rattle.elf_model.specs.declared.causes.Cause.TheVariants.{TooLong}
use Rattle.elf_model.specs.declared.link_states.LinkRefusal.{LinkRefusal}
use Rattle.elf_model.specs.declared.link_states.IndexEntry.{IndexEntry}
use Rattle.elf_model.specs.declared.link_states.LinkCause.TheVariants as cause
use Rattle.elf_resolve.specs.ArchiveIndexes.{EnteredName, EntersDefault, EntersIndexBy, EntersName, FindsIndex, FindsParts, FoundIndex, HasParts, HoldsIndex}
use Rattle.elf_resolve.specs.KeyTables.{Entered, KeyList}
use Rattle.elf_resolve.specs.StringBuffers.{HoldsText}
use Rattle.elf_resolve.specs.MemberExtents.{member_refused}
use Rattle.elf_resolve.specs.Taken.{IsLinkFault, ReadIndex, ReadsIndex, header_of}
use Rattle.elf_resolve.specs.declared.index_parts.IndexParts.{IndexParts}
use Rattle.elf_resolve.specs.declared.link_faults.LinkFault.{LinkFault}
use Rattle.elf_resolve.specs.declared.string_buffer.HeldText.{HeldText}
use Rattle.elf_resolve.proofs.IndexLaws.{cut_index, whole_index}
use Rattle.elf_resolve.proofs.LinkFaultLaws.{fault_of_any}
use Rattle.elf_resolve.proofs.StringBufferLaws.{holds_part}

-- A SYMBOL WITH A DEFAULT VERSION
sign_after : (is : List ℕ) (place : ℕ) → is_default_at is place ≡ true → drop (place + 1) is ≡ 64 ∷ drop (place + 2) is
sign_after is place default = by_place (nat_lt (place + 1) (length is)) refl
  where
    both : (a b : Bool) → (a && b) ≡ true → b ≡ true
    both true b e = e
    both false b e = absurd (cc)

    sign : (get_or is (place + 1) 0 == 64) ≡ true
    sign = both (not (place == 0)) (get_or is (place + 1) 0 == 64) default

    is_at : get_or is (place + 1) 0 ≡ 64
    is_at = let e = sign in grind (arith, nat_tests)

    by_place : (t : Bool) → nat_lt (place + 1) (length is) ≡ t → drop (place + 1) is ≡ 64 ∷ drop (place + 2) is
    by_place true within =
        let below : place + 1 < length is = let e = within in grind (arith, nat_tests) in
        let next : suc (place + 1) ≡ place + 2 = omega arith in
        drop-cons is (place + 1) 0 below ∙ ap (λ b. b ∷ drop (suc (place + 1)) is) is_at ∙ ap (λ n. 64 ∷ drop n is) next
    by_place false outside =
        let past : length is ≤ place + 1 = let e = outside in grind (arith, nat_tests) in
        absurd (omega (arith, is_at, get_or_past is (place + 1) 0 past))

pub default_symbol : (is : List ℕ) (member place : ℕ) → version_sign_in is ≡ Some place → is_default_at is place ≡ true
    → symbol_of_index is member ≡ record { name = take place is ++ 64 ∷ drop (place + 2) is; default_name = Some (take place is); member = member }
default_symbol is member place sign default =
    rw (sign, default) (ap (λ rest. record { name = take place is ++ rest; default_name = Some (take place is); member = member }) (sign_after is place default))

pub default_name_entered : (is : List ℕ) (member place : ℕ) (old new : KeyList) (result : Result IndexEntry LinkFault) → version_sign_in is ≡ Some place → is_default_at is place ≡ true
    → EntersDefault (take place is) (drop (place + 2) is) member old new result → EntersName is member old new result
default_name_entered is member place old new (Ok entry) sign default e =
    subst (λ (s : IndexSymbol). EnteredName s old new entry) (sym (default_symbol is member place sign default)) e
default_name_entered is member place old new (Err f) sign default e = e

pub both_entered : (name full : List ℕ) (member key default_key : ℕ) (old mid new : KeyList) → Entered old mid full key → Entered mid new name default_key
    → EnteredName (record { name = full; default_name = Some name; member = member }) old new (record { key = key; default_key = default_key; member = member })
both_entered name full member key default_key old mid new e f = record {
  entry_is = ap (λ k. record { key = k; default_key = default_key; member = member }) e.index_is
      ∙ ap (λ k. record { key = key_index old.keys full; default_key = k; member = member }) (f.index_is ∙ ap (λ (k : LinkKeys). key_index k name) e.keys);
  keys = f.keys ∙ ap (λ (k : LinkKeys). entered k name) e.keys;
  most = f.most ∙ e.most;
  most_further = f.most_further ∙ e.most_further;
}

-- THE PARTS of an index in a buffer
pub count_read : (bytes text : List ℕ) (width result : ℕ) → width ≤ length bytes → text ≡ bytes → (0 + width ≤ length text → result ≡ big text 0 width) → result ≡ big bytes 0 width
count_read bytes text width result enough same read = read (omega (arith, enough, ap length same)) ∙ ap (λ b. big b 0 width) same

text_of : (text : HeldText) (start size : ℕ) → text.start ≡ start → text.size ≡ size → record { start = start; size = size } ≡ text
text_of text start size starts sized = ap (λ n. record { start = n; size = size }) (sym starts) ∙ ap (λ n. record { start = text.start; size = n }) (sym sized)

pub parts_held : (buffer bytes : List ℕ) (index : HeldText) (at : ℕ) (parts : IndexParts) → HoldsText buffer index bytes → at + length bytes < 2 ^ 63 → parts.width * (parts.count + 1) ≤ length bytes → parts.count ≡ big bytes 0 parts.width
    → parts.at ≡ at + parts.width → parts.offsets.start ≡ index.start + parts.width → parts.offsets.size ≡ parts.width * parts.count → parts.names.start ≡ index.start + parts.width * (parts.count + 1)
    → parts.names.size ≡ length bytes - parts.width * (parts.count + 1) → HoldsIndex buffer bytes at parts
parts_held buffer bytes index at parts held small enough count place offsets_start offsets_size names_start names_size =
    let offsets = holds_part buffer index bytes parts.width (parts.width * parts.count) held (omega (arith, enough)) in
    let names = holds_part buffer index bytes (parts.width * (parts.count + 1)) (length bytes - parts.width * (parts.count + 1)) held (omega (arith, enough)) in
    let rest : slice bytes (parts.width * (parts.count + 1)) (length bytes - parts.width * (parts.count + 1)) ≡ drop (parts.width * (parts.count + 1)) bytes =
    take_all (length bytes - parts.width * (parts.count + 1)) (drop (parts.width * (parts.count + 1)) bytes) (omega (arith, length-drop (parts.width * (parts.count + 1)) bytes)) in
    record {
      at_is = place;
      count_is = count;
      enough = enough;
      fits = small;
      offsets = subst (λ (t : HeldText). HoldsText buffer t (slice bytes parts.width (parts.width * parts.count))) (text_of parts.offsets (index.start + parts.width) (parts.width * parts.count) offsets_start offsets_size) offsets;
      names = subst (λ (t : HeldText). HoldsText buffer t (drop (parts.width * (parts.count + 1)) bytes))
          (text_of parts.names (index.start + parts.width * (parts.count + 1)) (length bytes - parts.width * (parts.count + 1)) names_start names_size)
          (subst (λ b. HoldsText buffer (record { start = index.start + parts.width * (parts.count + 1); size = length bytes - parts.width * (parts.count + 1) }) b) rest names);
    }

-- THE PARTS of an index that is read
pub parts_found : (file buffer : List ℕ) (members : List LinkMember) (width : ℕ) (extent : FileRange) (result : Result IndexParts LinkFault) → HasParts buffer (bytes_in file extent) extent.at width result
    → FindsParts file members width extent buffer result
parts_found file buffer members width extent (Ok parts) has = has
parts_found file buffer members width extent (Err f) has = rw has.1 (inr (ap refusal_of (cut_index file members width extent has.0)))

-- THE INDEX of an archive that has members
pub index_of_width : (file : List ℕ) (first : LinkMember) (rest : List LinkMember) (width : ℕ) → index_width file ≡ Some width → archive_index file (first ∷ rest) ≡ index_in file (first ∷ rest) width first.extent
unfolding archive_index
index_of_width file first rest width is = rw (is, archive_index) refl

pub no_index : (file : List ℕ) (first : LinkMember) (rest : List LinkMember) → index_width file ≡ None → archive_index file (first ∷ rest) ≡ Err (record { at = 8; cause = cause.NoIndex })
unfolding archive_index
no_index file first rest is = rw (is, archive_index) refl

pub no_members : (file : List ℕ) → archive_index file [] ≡ Ok []
unfolding archive_index
no_members file = refl

first_by : (below : Bool) (found : Result FileRange Cause) (most : ℕ) (file : List ℕ) (at : ℕ) (first : LinkMember) (rest : List LinkMember) → nat_lt at (length file) ≡ below → member_data file at ≡ found
    → (link_members_from (suc most) file at).members ≡ first ∷ rest → member_data file at ≡ Ok first.extent
unfolding link_members_from
first_by false found most file at first rest ends is are = absurd (let none = rw (ends, link_members_from) at are in cc)
first_by true (Err other) most file at first rest below is are = absurd (let none = rw (below, is, link_members_from) at are in cc)
first_by true (Ok extent) most file at first rest below is are =
    let some = rw (below, is, link_members_from) at are in
    let same : (record { header = at; extent = extent }) ≡ first = cc in
    is ∙ ap (λ (m : LinkMember). Ok m.extent) same

first_from : (most : ℕ) (file : List ℕ) (at : ℕ) (first : LinkMember) (rest : List LinkMember) → (link_members_from most file at).members ≡ first ∷ rest → member_data file at ≡ Ok first.extent
unfolding link_members_from
first_from zero file at first rest are = absurd (cc)
first_from (suc most) file at first rest are = first_by (nat_lt at (length file)) (member_data file at) most file at first rest refl refl are

-- the first member is after the magic string
pub first_member : (file : List ℕ) (first : LinkMember) (rest : List LinkMember) → (link_members file).members ≡ first ∷ rest → member_data file 8 ≡ Ok first.extent
first_member file first rest are = first_from (length file) file 8 first rest are

pub cut_first : (file buffer : List ℕ) (f : LinkFault) → (length file < 2 ^ 63 → IsLinkFault (member_refused 8 (member_data file 8)) f) → FindsIndex file buffer (Err f)
cut_first file buffer f says = λ first rest are small.
    fault_of_any (refusal_of (archive_index file (first ∷ rest))) f (subst (λ found. IsLinkFault (member_refused 8 found) f) (first_member file first rest are) (says small))

pub found_index : (file buffer : List ℕ) (width : ℕ) (extent : FileRange) (result : Result IndexParts LinkFault) → member_data file 8 ≡ Ok extent → index_width file ≡ Some width
    → ((members : List LinkMember) → FindsParts file members width extent buffer result) → FindsIndex file buffer result
found_index file buffer width extent (Ok parts) told is finds =
    let p = finds [] in record { extent = extent; data_are = told; width_is = is ∙ ap (λ n. Some n) (sym p.0); holds = p.1 }
found_index file buffer width extent (Err f) told is finds = λ first rest are small.
    let there : Ok first.extent ≡ Ok extent = sym (first_member file first rest are) ∙ told in
    let same : extent ≡ first.extent = cc in
    let answer = index_of_width file first rest width is ∙ ap (λ e. index_in file (first ∷ rest) width e) (sym same) in
    subst (λ r. IsLinkFault (refusal_of r) f) (sym answer) (finds (first ∷ rest))

pub index_answer : (file buffer : List ℕ) (parts : IndexParts) (first : LinkMember) (rest : List LinkMember) → (found : FoundIndex file buffer parts) → (link_members file).members ≡ first ∷ rest
    → archive_index file (first ∷ rest) ≡ index_symbols (first ∷ rest) (bytes_in file found.extent) found.extent.at parts.width 0 parts.count (drop (parts.width * (parts.count + 1)) (bytes_in file found.extent))
index_answer file buffer parts first rest found are =
    let there : Ok first.extent ≡ Ok found.extent = sym (first_member file first rest are) ∙ found.data_are in
    let same : first.extent ≡ found.extent = cc in
    index_of_width file first rest parts.width found.width_is ∙ ap (λ e. index_in file (first ∷ rest) parts.width e) same
    ∙ whole_index file (first ∷ rest) parts.width parts.count found.extent found.holds.count_is found.holds.enough

-- WHAT IS READ of an archive with members, or without
pub read_none : (file : List ℕ) (old : KeyList) (before : List IndexEntry) → (link_members file).members ≡ [] → ReadIndex file old old before before
read_none file old before none = record {
  symbols = [];
  are = ap (λ m. archive_index file m) none ∙ no_members file;
  keys = refl;
  entries = sym (append-nil before);
  most = refl;
  most_further = refl;
}

pub read_by : (file : List ℕ) (answer : Result (List IndexSymbol) LinkRefusal) (old new : KeyList) (before after : List IndexEntry) (result : Result (Unit {0}) LinkFault) → archive_index file (link_members file).members ≡ answer
    → EntersIndexBy answer old new before after result → ReadsIndex file old new before after result
read_by file answer old new before after (Ok done) is e =
    record { symbols = e.symbols; are = is ∙ e.are; keys = e.keys; entries = e.entries; most = e.most; most_further = e.most_further }
read_by file answer old new before after (Err f) is e = subst (λ r. IsLinkFault (refusal_of r) f) (sym is) e

-- how many members there are, by the offsets that are kept
pub some_members : (file items : List ℕ) (from : ℕ) → drop from items ≡ map header_of (link_members file).members → length (link_members file).members ≡ length items - from
some_members file items from are = sym (length-map (link_members file).members header_of) ∙ sym (ap length are) ∙ length-drop from items

pub none_left : (file items : List ℕ) (from : ℕ) → drop from items ≡ map header_of (link_members file).members → length items ≤ from → (link_members file).members ≡ []
none_left file items from are past = nil_from_length (link_members file).members (omega (arith, some_members file items from are, past))

-- an archive has fewer than 2^63 bytes
pub unrefused_small : (file : List ℕ) → members_refusal file ≡ None → length file < 2 ^ 63
unrefused_small file none = by_test (nat_lt (length file) (2 ^ 63)) refl
  where
    by_test : (t : Bool) → nat_lt (length file) (2 ^ 63) ≡ t → length file < 2 ^ 63
    by_test true is = grind (arith, nat_tests)
    by_test false is = absurd (let some : members_refusal file ≡ Some (record { at = 0; cause = cause.Refused TooLong }) = rw (is, members_refusal) refl in cc)
