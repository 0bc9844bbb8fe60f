-- The names of members, by the bytes that they begin with.
use Rattle.std.proofs.Common.{◌≡◌, ◌⊎◌, inl, inr, ℕ, Bool, ◌+◌, ◌-◌, ◌<◌, ◌≤◌, ◌++◌, List, [], ◌∷◌, length, take, drop, take-take, true, false, nat_lt, min, length-take, length-drop, Option, None, Some, Result, Ok, Err, refl, sym, ap, ◌∙◌, drop-drop, arith}
use Rattle.std.specs.Prelude.{OnOk}
use Rattle.std.proofs.Math.Seq.{take-add}
use Rattle.std.proofs.lemmas.Bool.Decides.{nat_tests}
use Rattle.std.proofs.lemmas.List.{take_all}
use Rattle.elf_model.specs.Prelude.{DisplayedName, FileRange, bsd_name, bsd_name_length, capped, is_elsewhere, long_name, long_of, long_offset, member_name, name_in_data, newline_in, parsed_member_name, short_name, slice, trimmed}
use Rattle.elf_model.specs.declared.causes.Cause.{Cause}
use Rattle.elf_model.specs.declared.causes.Cause.TheVariants.{NameOutside}
use Rattle.elf_model.proofs.Slices.{slice-rest}
use Rattle.elf_table.specs.Prelude.{IsOfRead, Refuses}
use Rattle.elf_table.specs.declared.fault.Fault.{Fault}
use Rattle.elf_table.specs.declared.fault.Fault.TheVariants.{Refused, Source}
use Rattle.elf_archive.specs.Members.{NamesInBounds}
use Rattle.elf_archive.specs.NameFronts.{FrontLies, front_cost, name_of_front}
use Rattle.elf_archive.specs.declared.member.FileRange.{FileRange as Place}
use Rattle.elf_archive.specs.declared.name_fronts.NameForm.{NameForm}
use Rattle.elf_archive.specs.declared.name_fronts.NameForm.TheVariants.{Data, Field, Table}

-- two slices, one after the other
pub two_slices : (file first rest : List ℕ) (at n m : ℕ) → first ≡ slice file at n → rest ≡ slice file (at + n) m → first ++ rest ≡ slice file at (n + m)
two_slices file first rest at n m p q =
    rw (p, q) (ap (λ r. take n (drop at file) ++ take m r) (sym (drop-drop n at file)) ∙ sym (take-add n m (drop at file)))

-- what two consecutive reads gave
pub two_reads : {X E : Type 0} (result : Result X E) (file first rest : List ℕ) (at n m whole : ℕ) → n ≡ 4096 → n + m ≡ whole → first ≡ slice file at n
    → OnOk result (rest ≡ slice file (at + 4096) m) → OnOk result (first ++ rest ≡ slice file at whole)
two_reads (Ok x) file first rest at n m whole first_is all p q =
    rw (← all) (two_slices file first rest at n m p (q ∙ ap (λ k. slice file (at + k) m) (sym first_is)))
two_reads (Err fault) file first rest at n m whole first_is all p q = tt

-- without a table of names there is no long name
pub long-none : (file : List ℕ) (cap offset : ℕ) → long_name file cap None offset ≡ Err NameOutside
unfolding long_name
long-none file cap offset = refl

pub long-outside : (file : List ℕ) (cap offset : ℕ) (table : FileRange) → table.size ≤ offset → long_name file cap (Some table) offset ≡ Err NameOutside
unfolding long_name
long-outside file cap offset table past =
    let no : nat_lt offset table.size ≡ false = grind (arith, nat_tests) in rw no refl

-- the bytes that were read are those of the name
front_is : (file : List ℕ) (at size offset cap n : ℕ) → offset ≤ size → n ≤ cap + 2 → offset + n ≤ size → (n < cap + 2 → offset + n ≡ size)
    → slice (slice file at size) offset (cap + 2) ≡ slice file (at + offset) n
front_is file at size offset cap n inside few within whole = by_size (nat_lt n (cap + 2)) refl
  where
    rest : drop offset (slice file at size) ≡ slice file (at + offset) (size - offset)
    rest = slice-rest file at size offset inside

    by_size : (t : Bool) → nat_lt n (cap + 2) ≡ t → slice (slice file at size) offset (cap + 2) ≡ slice file (at + offset) n
    by_size true e =
        let less : n < cap + 2 = grind (arith, nat_tests) in
        let all : size - offset ≡ n = omega (arith, whole less) in
        ap (take (cap + 2)) (rest ∙ ap (slice file (at + offset)) all)
        ∙ take_all (cap + 2) (slice file (at + offset) n) (omega (arith, length-take n (drop (at + offset) file)))
    by_size false e =
        let more : cap + 2 ≤ n = grind (arith, nat_tests) in
        let same : n ≡ cap + 2 = omega arith in
        ap (take (cap + 2)) rest ∙ take-take (cap + 2) (size - offset) (drop (at + offset) file) (omega arith) ∙ ap (slice file (at + offset)) (sym same)

-- a long name, by the bytes that were read
pub long_read : (file front : List ℕ) (table : FileRange) (offset cap n : ℕ) → offset < table.size → n ≤ cap + 2 → offset + n ≤ table.size → (n < cap + 2 → offset + n ≡ table.size)
    → front ≡ slice file (table.at + offset) n → long_name file cap (Some table) offset ≡ long_of cap front (newline_in front)
unfolding long_name
long_read file front table offset cap n inside few within whole is =
    let yes : nat_lt offset table.size ≡ true = grind (arith, nat_tests) in
    let same = front_is file table.at table.size offset cap n (omega arith) few within whole ∙ sym is in
    rw (yes, same) refl

-- a name at the start of the data, by the bytes read
pub bsd_looked : (file : List ℕ) (cap start size want : ℕ) → want ≡ min size (cap + 2) → bsd_name file cap start size ≡ capped cap (trimmed 0 (slice file start want))
unfolding bsd_name
bsd_looked file cap start size want is = rw is refl

-- a long name, by the bytes at its offset
pub long_front : (file : List ℕ) (table : FileRange) (offset cap n : ℕ) → offset < table.size → n ≤ cap + 2 → offset + n ≤ table.size → (n < cap + 2 → offset + n ≡ table.size)
    → long_name file cap (Some table) offset ≡ long_of cap (slice file (table.at + offset) n) (newline_in (slice file (table.at + offset) n))
long_front file table offset cap n inside few within whole = long_read file (slice file (table.at + offset) n) table offset cap n inside few within whole refl

-- bytes at an offset that may be too large, and at the largest
none_in : (bytes : List ℕ) → length bytes ≡ 0 → bytes ≡ []
none_in [] none = refl
none_in (b ∷ bytes) none = absurd (omega (arith, none))

past : (file : List ℕ) (at n : ℕ) → length file ≤ at → slice file at n ≡ []
past file at n out =
    none_in (slice file at n) (let a = length-take n (drop at file) in let b = length-drop at file in omega (arith, a, b, out))

saturated : (file : List ℕ) (at n least most : ℕ) → length file ≤ most → least ≡ min at most → slice file least n ≡ slice file at n
saturated file at n least most small is = by_size (nat_lt most at) refl
  where
    by_size : (t : Bool) → nat_lt most at ≡ t → slice file least n ≡ slice file at n
    by_size true e =
        let more : most < at = grind (arith, nat_tests) in
        past file least n (omega (arith, is, small, more)) ∙ sym (past file at n (omega (arith, small, more)))
    by_size false e =
        let few : at ≤ most = grind (arith, nat_tests) in
        let same : least ≡ at = omega (arith, is, few) in
        ap (λ (k : ℕ). slice file k n) same

-- WHERE A NAME IS, by the name field
module _ (file field : List ℕ) (cap at : ℕ) (is : field ≡ slice file at 16) where
  in_data : (names : Option FileRange) (size : ℕ) → bsd_name_length (slice file at 16) ≡ Some size → member_name file cap names at ≡ Ok (bsd_name file cap (at + 60) size)
  unfolding member_name
  in_data names size told = rw (told, member_name) refl

  elsewhere : (names : Option FileRange) → bsd_name_length (slice file at 16) ≡ None → member_name file cap names at ≡ parsed_member_name file cap names (slice file at 16)
  unfolding member_name
  elsewhere names told = rw (told, member_name) refl

  in_table : (names : Option FileRange) (offset : ℕ) → long_offset (slice file at 16) ≡ Some offset → parsed_member_name file cap names (slice file at 16) ≡ long_name file cap names offset
  unfolding parsed_member_name
  in_table names offset told = rw (told, parsed_member_name) refl

  in_field : (names : Option FileRange) → long_offset (slice file at 16) ≡ None → parsed_member_name file cap names (slice file at 16) ≡ Ok (capped cap (short_name (slice file at 16)))
  unfolding parsed_member_name
  in_field names told = rw (told, parsed_member_name) refl

  pub data_located : (names : Option FileRange) (size want : ℕ) → bsd_name_length field ≡ Some size → want ≡ min size (cap + 2) → member_name file cap names at ≡ name_of_front Data cap (slice file (at + 60) want)
  data_located names size want told few = in_data names size (ap bsd_name_length (sym is) ∙ told) ∙ ap Ok (bsd_looked file cap (at + 60) size want few)

  module _ (names : Option FileRange) (other : bsd_name_length field ≡ None) where
    pub field_located : long_offset field ≡ None → member_name file cap names at ≡ name_of_front Field cap (slice file at 16)
    field_located told = elsewhere names (ap bsd_name_length (sym is) ∙ other) ∙ in_field names (ap long_offset (sym is) ∙ told)

    pub table_located : (offset : ℕ) → long_offset field ≡ Some offset → member_name file cap names at ≡ long_name file cap names offset
    table_located offset told = elsewhere names (ap bsd_name_length (sym is) ∙ other) ∙ in_table names offset (ap long_offset (sym is) ∙ told)

-- a name of a table, by the bytes at its offset
pub line_located : (file : List ℕ) (table : FileRange) (offset cap want least most : ℕ) → offset < table.size → want ≡ min (cap + 2) (table.size - offset) → length file ≤ most → least ≡ min (table.at + offset) most
    → long_name file cap (Some table) offset ≡ name_of_front Table cap (slice file least want)
line_located file table offset cap want least most inside is small at =
    long_read file (slice file (table.at + offset) want) table offset cap want inside (omega (arith, is)) (omega (arith, is, inside)) (λ few. omega (arith, is, inside, few)) refl
    ∙ ap (λ (front : List ℕ). long_of cap front (newline_in front)) (sym (saturated file (table.at + offset) want least most small at))

-- how many bytes of the data it takes, and whether it is elsewhere
pub in-data : (field : List ℕ) (size : ℕ) → bsd_name_length field ≡ Some size → name_in_data field ≡ size
unfolding name_in_data
in-data field size told = rw (told, name_in_data) refl

pub elsewhere-data : (field : List ℕ) (size : ℕ) → bsd_name_length field ≡ Some size → is_elsewhere field ≡ true
unfolding is_elsewhere
elsewhere-data field size told = rw told refl

pub elsewhere-table : (field : List ℕ) (offset : ℕ) → bsd_name_length field ≡ None → long_offset field ≡ Some offset → is_elsewhere field ≡ true
unfolding is_elsewhere
elsewhere-table field offset other told = rw (other, told) refl

-- a name of a field, by all of it
pub field_is : (file field : List ℕ) (at begin n : ℕ) → field ≡ slice file at 16 → begin ≡ at → n ≡ 16 → slice file begin n ≡ field
field_is file field at begin n is first all = rw (first, all) (sym is)

-- they lie within a source, and are read if they are elsewhere
pub lies_in : (form : NameForm) (size : ℕ) (names : Option Place) (at n : ℕ) → FrontLies form size names at n → NamesInBounds size names → at + n ≤ size
lies_in Field size names at n lies within = lies
lies_in Data size names at n lies within = lies
lies_in Table size names at n lies within = lies within

pub read_cost : (form : NameForm) (n : ℕ) → (form ≡ Data) ⊎ (form ≡ Table) → front_cost form n ≡ n
read_cost Data n is = refl
read_cost Table n is = refl
read_cost Field n (inl is) = absurd (cc)
read_cost Field n (inr is) = absurd (cc)

-- a name in a file, by the bytes that it begins with
pub found_at : (file bytes : List ℕ) (form : NameForm) (at n size : ℕ) (answer : Result DisplayedName Cause) → answer ≡ name_of_front form 4096 (slice file at n) → bytes ≡ slice file at n → size ≤ length bytes
    → name_of_front form 4096 bytes ≡ Ok (capped 4096 (take size bytes)) → answer ≡ Ok (capped 4096 (slice file at size))
found_at file bytes form at n size answer located read within told =
    let few : length bytes ≤ n = rw read (omega (arith, length-take n (drop at file))) in
    let same : take size bytes ≡ slice file at size = ap (take size) read ∙ take-take size n (drop at file) (omega (arith, within, few)) in
    located ∙ ap (name_of_front form 4096) (sym read) ∙ told ∙ ap (λ (name : List ℕ). Ok (capped 4096 name)) same

-- a read fault refuses nothing
pub unread-refuses : {X : Type 0} (at : ℕ) (fault : Fault) (answer : Result X Cause) → IsOfRead fault → Refuses at fault answer
unread-refuses at (Refused refusal) answer read = λ other. absurd (other read)
unread-refuses at (Source fault offset) answer read = tt
