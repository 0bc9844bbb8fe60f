-- What a lookup reads of the version records, and the result of comparing them, by the records that
-- a listing visits.
use Rattle.std.proofs.Common.{◌≡◌, ℕ, zero, suc, ◌+◌, Bool, true, false, cond, List, [], ◌∷◌, ◌++◌, append-nil, length, map, filter, Option, None, Some, Result, Ok, Err, refl, sym, ap, ◌∙◌, arith, inl, inr}
use Rattle.std.proofs.lemmas.List.Elements.{All-nil, All-cons}
use Rattle.elf_model.specs.Prelude.{CompareResult, ComparedNumbersAreRecords, ComparingEndsAtTheFirst, EndsReadings, IsComparable, IsRefusedAt, Meets, Misses, ReadingsAreRecords, RecordCursorState, Refuses, StandsAtItsEnd, VersionRecordRead, VersionRecordTable, Versions, VisitedRecord, WalksStandAtRecords, WalksStandAtTheirEnd, compared_until, compared_with, end_reading, first_position, first_refusal, has_record, max_records, meetings, name_index, named_at, names_version, names_wanted, next_position, number_in, number_word, numbers_under, one_more, position_after, readings, readings_of, record_checks, records_in, records_read, same, versions_in, visited_at, visited_from, with_number}
use Rattle.elf_model.specs.declared.causes.Cause.{Cause}
use Rattle.elf_model.specs.declared.causes.Refusal.{Refusal}
use Rattle.elf_model.proofs.VersionSteps.{met-ended, met-most, met-record, met-refused}

abbrev visited_of : Versions → List VisitedRecord
visited_of versions = versions.met

-- if there is a record, a walk continues there
pub is_there-next :
    (file : List ℕ) (table : VersionRecordTable) (done : ℕ) (stand : RecordCursorState) → position_after file table done ≡ Some stand
    → position_after file table (suc done) ≡ next_position file table.place stand
unfolding position_after
is_there-next file table done stand is = rw is refl

-- the position of a walk after this many records
abbrev StandsAtVisited : List ℕ → VersionRecordTable → ℕ → VisitedRecord → Type 0
StandsAtVisited file table done met = (stand : RecordCursorState) × (position_after file table done ≡ Some stand) × (visited_at table.place stand ≡ met)

-- no record is visited
none-met : (file : List ℕ) (table : VersionRecordTable) (done : ℕ) (before : List VisitedRecord) (met : VisitedRecord) (others : List VisitedRecord) → [] ≡ before ++ met ∷ others → StandsAtVisited file table done met
none-met file table done [] met others none = absurd (cc)
none-met file table done (first ∷ before) met others none = absurd (cc)

is_there-from :
    (file : List ℕ) (table : VersionRecordTable) (most done : ℕ) (stand : Option RecordCursorState) (before : List VisitedRecord) (met : VisitedRecord) (others : List VisitedRecord)
    → position_after file table done ≡ stand → (visited_from file table.place table.size stand most).met ≡ before ++ met ∷ others
    → StandsAtVisited file table (done + length before) met
is_there-from file table most done None before met others is all =
    none-met file table (done + length before) before met others (sym (ap visited_of (met-ended file table.place table.size most)) ∙ all)
is_there-from file table zero done (Some stand) before met others is all =
    none-met file table (done + length before) before met others (sym (ap visited_of (met-most file table.place table.size stand)) ∙ all)
is_there-from file table (suc most) done (Some stand) before met others is all =
    go (λ rest. is_there-from file table most (suc done) (next_position file table.place stand) rest met others (is_there-next file table done stand is))
    (first_refusal (record_checks file table.place table.size stand)) refl before all
  where
    go : ((rest : List VisitedRecord) → (visited_from file table.place table.size (next_position file table.place stand) most).met ≡ rest ++ met ∷ others
        → StandsAtVisited file table (suc done + length rest) met)
        → (refusal : Option Refusal) → first_refusal (record_checks file table.place table.size stand) ≡ refusal
        → (before : List VisitedRecord) → (visited_from file table.place table.size (Some stand) (suc most)).met ≡ before ++ met ∷ others
        → StandsAtVisited file table (done + length before) met
    go later (Some refusal) c before all =
        none-met file table (done + length before) before met others
        (sym (ap visited_of (met-refused file table.place table.size stand most refusal c)) ∙ all)
    go later None c [] all =
        let first = sym (ap visited_of (met-record file table.place table.size stand most c)) ∙ all in
        let here : done + 0 ≡ done = omega arith in
        (stand, rw here is, cc)
    go later None c (one ∷ rest) all =
        let first = sym (ap visited_of (met-record file table.place table.size stand most c)) ∙ all in
        let count : done + suc (length rest) ≡ suc done + length rest = omega arith in
        rw count (later rest (cc))

pub walks_stand_at_records : WalksStandAtRecords
unfolding versions_in position_after
walks_stand_at_records file table before met others all =
    let count : 0 + length before ≡ length before = omega arith in
    rw count at
    (is_there-from file table (max_records table.kind table.size) 0 (first_position table.kind table.head table.size) before met others refl all)

-- a walk from its position ends where it did
ends-from :
    (file : List ℕ) (table : VersionRecordTable) (most done : ℕ) (stand : Option RecordCursorState) → done + most ≡ max_records table.kind table.size
    → position_after file table done ≡ stand
    → let walk = visited_from file table.place table.size stand most in
    StandsAtItsEnd file table (done + length walk.met) walk.cut (position_after file table (done + length walk.met))
ends-from file table most done None room is =
    let here : done + 0 ≡ done = omega arith in
    rw (met-ended file table.place table.size most, here) is
ends-from file table zero done (Some stand) room is =
    let here : done + 0 ≡ done = omega arith in
    let full : done ≡ max_records table.kind table.size = omega (arith, room) in
    rw (met-most file table.place table.size stand, here, is) (inr (full, refl))
ends-from file table (suc most) done (Some stand) room is =
    go (ends-from file table most (suc done) (next_position file table.place stand) (omega (arith, room)) (is_there-next file table done stand is))
    (first_refusal (record_checks file table.place table.size stand)) refl
  where
    go : let later = visited_from file table.place table.size (next_position file table.place stand) most in
        StandsAtItsEnd file table (suc done + length later.met) later.cut (position_after file table (suc done + length later.met))
        → (refusal : Option Refusal) → first_refusal (record_checks file table.place table.size stand) ≡ refusal
        → let walk = visited_from file table.place table.size (Some stand) (suc most) in
        StandsAtItsEnd file table (done + length walk.met) walk.cut (position_after file table (done + length walk.met))
    go ends (Some refusal) c =
        let here : done + 0 ≡ done = omega arith in
        rw (met-refused file table.place table.size stand most refusal c, here, is) (inl c)
    go ends None c =
        let later = visited_from file table.place table.size (next_position file table.place stand) most in
        let count : done + suc (length later.met) ≡ suc done + length later.met = omega arith in
        rw (met-record file table.place table.size stand most c, count) ends

pub walks_stand_at_their_end : WalksStandAtTheirEnd
unfolding versions_in position_after
walks_stand_at_their_end file table =
    let walk = visited_from file table.place table.size (first_position table.kind table.head table.size) (max_records table.kind table.size) in
    let count : 0 + length walk.met ≡ length walk.met = omega arith in
    rw count at
    (ends-from file table (max_records table.kind table.size) 0 (first_position table.kind table.head table.size) (omega arith) refl)

-- visited records before others
meetings-are : (strings : List ℕ) (met : List VisitedRecord) (others : List VersionRecordRead) → meetings strings met others ≡ map (Meets strings) met ++ others
unfolding meetings
meetings-are strings [] others = refl
meetings-are strings (one ∷ met) others = ap (λ (more : List VersionRecordRead). Meets strings one ∷ more) (meetings-are strings met others)

-- how they end
end-is : (is_there : Bool) (cut : Option Refusal) → EndsReadings cut (end_reading is_there cut)
end-is is_there None = refl
end-is true (Some refusal) = inl refl
end-is false (Some refusal) = inr refl

pub readings_are_records : ReadingsAreRecords
unfolding readings readings_of
readings_are_records file = (
  refl,
  λ table others.
      let walk = records_in file table in
      let is_there = has_record table (length walk.met) (position_after file table (length walk.met)) in (
        end_reading is_there walk.cut,
        end-is is_there walk.cut,
        meetings-are table.strings walk.met (end_reading is_there walk.cut ++ readings file others),
      ),
)

-- the result of comparing each kind of record
pub compared-none :
    (file wanted strings : List ℕ) (met : VisitedRecord) (others : List VersionRecordRead) → names_version file met ≡ false
    → compared_with file wanted (Meets strings met ∷ others) ≡ one_more (compared_with file wanted others)
unfolding compared_with
compared-none file wanted strings met others n = rw (n, compared_with) refl

pub compared-is :
    (file wanted strings : List ℕ) (met : VisitedRecord) (others : List VersionRecordRead) (is_wanted : Bool) → names_version file met ≡ true
    → same strings (name_index file met) wanted ≡ Ok is_wanted
    → compared_with file wanted (Meets strings met ∷ others)
    ≡ one_more (with_number is_wanted (number_in (number_word file met)) (compared_with file wanted others))
unfolding compared_with
compared-is file wanted strings met others is_wanted n e = rw (n, e, compared_with) refl

pub compared-fault :
    (file wanted strings : List ℕ) (met : VisitedRecord) (others : List VersionRecordRead) (cause : Cause) → names_version file met ≡ true
    → same strings (name_index file met) wanted ≡ Err cause
    → compared_with file wanted (Meets strings met ∷ others) ≡ compared_until 1 (record { at = named_at file met; cause = cause })
unfolding compared_with
compared-fault file wanted strings met others cause n e = rw (n, e, compared_with) refl

compared-refused :
    (file wanted : List ℕ) (refusal : Refusal) (others : List VersionRecordRead)
    → compared_with file wanted (Refuses refusal ∷ others) ≡ compared_until 1 refusal
unfolding compared_with
compared-refused file wanted refusal others = refl

compared-missed :
    (file wanted : List ℕ) (refusal : Refusal) (others : List VersionRecordRead)
    → compared_with file wanted (Misses refusal ∷ others) ≡ compared_until 0 refusal
unfolding compared_with
compared-missed file wanted refusal others = refl

compared-nothing : (file wanted : List ℕ) → compared_with file wanted [] ≡ record { numbers = []; refused = None; read = 0 }
unfolding compared_with
compared-nothing file wanted = refl

abbrev numbers_in : CompareResult → List ℕ
numbers_in compared = compared.numbers

abbrev refused_in : CompareResult → Option Refusal
refused_in compared = compared.refused

abbrev read_in : CompareResult → ℕ
read_in compared = compared.read

-- the indices with one more record, which has the wanted name or not
numbers-with :
    (file wanted strings : List ℕ) (one : VisitedRecord) (met : List VisitedRecord) → names_wanted file wanted strings one ≡ true
    → numbers_under file wanted strings (one ∷ met) ≡ number_in (number_word file one) ∷ numbers_under file wanted strings met
numbers-with file wanted strings one met e =
    ap (λ (b : Bool). map (λ (m : VisitedRecord). number_in (number_word file m)) (cond b (one ∷ filter (names_wanted file wanted strings) met) (filter (names_wanted file wanted strings) met))) e

numbers-without :
    (file wanted strings : List ℕ) (one : VisitedRecord) (met : List VisitedRecord) → names_wanted file wanted strings one ≡ false
    → numbers_under file wanted strings (one ∷ met) ≡ numbers_under file wanted strings met
numbers-without file wanted strings one met e =
    ap (λ (b : Bool). map (λ (m : VisitedRecord). number_in (number_word file m)) (cond b (one ∷ filter (names_wanted file wanted strings) met) (filter (names_wanted file wanted strings) met))) e

-- a comparison that is not refused gives the indices of some records, and those of the others
record Splits (file wanted : List ℕ) (numbers : List ℕ) (count : ℕ) (all others : List VersionRecordRead) : Type 0 where
  later : (compared_with file wanted others).refused ≡ None
  numbers_are : (compared_with file wanted all).numbers ≡ numbers ++ (compared_with file wanted others).numbers
  read_is : (compared_with file wanted all).read ≡ count + (compared_with file wanted others).read

-- of records that are visited
split-met :
    (file wanted strings : List ℕ) (met : List VisitedRecord) (others : List VersionRecordRead)
    → (compared_with file wanted (map (Meets strings) met ++ others)).refused ≡ None
    → Splits file wanted (numbers_under file wanted strings met) (length met) (map (Meets strings) met ++ others) others
split-met file wanted strings [] others none = record { later = none; numbers_are = refl; read_is = omega arith }
split-met file wanted strings (one ∷ met) others none =
    go (split-met file wanted strings met others) (names_version file one) refl (same strings (name_index file one) wanted) refl
  where
    rest : List VersionRecordRead
    rest = map (Meets strings) met ++ others

    go : ((compared_with file wanted (map (Meets strings) met ++ others)).refused ≡ None
        → Splits file wanted (numbers_under file wanted strings met) (length met) (map (Meets strings) met ++ others) others)
        → (n : Bool) → names_version file one ≡ n → (s : Result Bool Cause) → same strings (name_index file one) wanted ≡ s
        → Splits file wanted (numbers_under file wanted strings (one ∷ met)) (suc (length met)) (Meets strings one ∷ map (Meets strings) met ++ others) others
    go more false n s is =
        let e = compared-none file wanted strings one (map (Meets strings) met ++ others) n in
        let all = more (sym (ap refused_in e) ∙ none) in
        let other : names_wanted file wanted strings one ≡ false = rw n refl in
        record {
          later = all.later;
          numbers_are =
              ap numbers_in e ∙ all.numbers_are
              ∙ sym (ap (λ (l : List ℕ). l ++ (compared_with file wanted others).numbers) (numbers-without file wanted strings one met other));
          read_is = let more : suc (length met) + (compared_with file wanted others).read ≡ suc (length met + (compared_with file wanted others).read) = omega arith in ap read_in e ∙ ap suc all.read_is ∙ sym more;
        }
    go more true n (Err cause) is =
        let e = ap refused_in (compared-fault file wanted strings one (map (Meets strings) met ++ others) cause n is) in
        let both = sym e ∙ none in
        absurd (cc)
    go more true n (Ok false) is =
        let e = compared-is file wanted strings one (map (Meets strings) met ++ others) false n is in
        let all = more (sym (ap refused_in e) ∙ none) in
        let other : names_wanted file wanted strings one ≡ false = rw (n, is) refl in
        record {
          later = all.later;
          numbers_are =
              ap numbers_in e ∙ all.numbers_are
              ∙ sym (ap (λ (l : List ℕ). l ++ (compared_with file wanted others).numbers) (numbers-without file wanted strings one met other));
          read_is = let more : suc (length met) + (compared_with file wanted others).read ≡ suc (length met + (compared_with file wanted others).read) = omega arith in ap read_in e ∙ ap suc all.read_is ∙ sym more;
        }
    go more true n (Ok true) is =
        let e = compared-is file wanted strings one (map (Meets strings) met ++ others) true n is in
        let all = more (sym (ap refused_in e) ∙ none) in
        let wanted_one : names_wanted file wanted strings one ≡ true = rw (n, is) refl in
        record {
          later = all.later;
          numbers_are =
              ap numbers_in e ∙ ap (λ (l : List ℕ). number_in (number_word file one) ∷ l) all.numbers_are
              ∙ sym (ap (λ (l : List ℕ). l ++ (compared_with file wanted others).numbers) (numbers-with file wanted strings one met wanted_one));
          read_is = let more : suc (length met) + (compared_with file wanted others).read ≡ suc (length met + (compared_with file wanted others).read) = omega arith in ap read_in e ∙ ap suc all.read_is ∙ sym more;
        }

-- if a walk is refused, so is the comparison
whole :
    (file wanted : List ℕ) (cut : Option Refusal) (last others : List VersionRecordRead) → EndsReadings cut last
    → (compared_with file wanted (last ++ others)).refused ≡ None → last ≡ []
whole file wanted None last others ends none = ends
whole file wanted (Some refusal) last others (inl is) none =
    let e = sym (ap (λ (l : List VersionRecordRead). (compared_with file wanted (l ++ others)).refused) is) ∙ none in
    let both = sym (ap refused_in (compared-refused file wanted refusal others)) ∙ e in
    absurd (cc)
whole file wanted (Some refusal) last others (inr is) none =
    let e = sym (ap (λ (l : List VersionRecordRead). (compared_with file wanted (l ++ others)).refused) is) ∙ none in
    let both = sym (ap refused_in (compared-missed file wanted refusal others)) ∙ e in
    absurd (cc)

-- of a table
split-table :
    (file wanted : List ℕ) (table : VersionRecordTable) (others : List VersionRecordTable)
    → (compared_with file wanted (readings file (table ∷ others))).refused ≡ None
    → Splits file wanted (numbers_under file wanted table.strings (records_in file table).met) (length (records_in file table).met)
    (readings file (table ∷ others)) (readings file others)
split-table file wanted table others none =
    let met = (records_in file table).met in
    let read = (readings_are_records file).1 table others in
    let last = read.0 in
    let is = read.2 in
    let all = split-met file wanted table.strings met (last ++ readings file others) (sym (ap (λ (l : List VersionRecordRead). (compared_with file wanted l).refused) is) ∙ none) in
    let ended = ap (λ (l : List VersionRecordRead). l ++ readings file others) (whole file wanted (records_in file table).cut last (readings file others) read.1 all.later) in
    record {
      later = sym (ap (λ (l : List VersionRecordRead). (compared_with file wanted l).refused) ended) ∙ all.later;
      numbers_are =
          ap (λ (l : List VersionRecordRead). (compared_with file wanted l).numbers) is ∙ all.numbers_are
          ∙ ap (λ (l : List VersionRecordRead). numbers_under file wanted table.strings met ++ (compared_with file wanted l).numbers) ended;
      read_is =
          ap (λ (l : List VersionRecordRead). (compared_with file wanted l).read) is ∙ all.read_is
          ∙ ap (λ (l : List VersionRecordRead). length met + (compared_with file wanted l).read) ended;
    }

pub compared_numbers_are_records : ComparedNumbersAreRecords
compared_numbers_are_records file wanted definitions needs none =
    let first = split-table file wanted definitions (needs ∷ []) none in
    let second = split-table file wanted needs [] first.later in
    let nothing : compared_with file wanted (readings file []) ≡ record { numbers = []; refused = None; read = 0 } =
    ap (compared_with file wanted) (readings_are_records file).0 ∙ compared-nothing file wanted in
    let of_definitions = numbers_under file wanted definitions.strings (records_in file definitions).met in
    let of_needs = numbers_under file wanted needs.strings (records_in file needs).met in (
      first.numbers_are
          ∙ ap (λ (l : List ℕ). of_definitions ++ l)
          (second.numbers_are ∙ ap (λ (c : CompareResult). of_needs ++ c.numbers) nothing ∙ append-nil of_needs),
      let last = ap read_in nothing in omega (arith, first.read_is, second.read_is, last),
    )

pub comparing_ends_at_the_first : ComparingEndsAtTheFirst
comparing_ends_at_the_first file wanted [] refusal refused =
    let both = sym (ap refused_in (compared-nothing file wanted)) ∙ refused in absurd (cc)
comparing_ends_at_the_first file wanted (Refuses other ∷ others) refusal refused =
    let e = compared-refused file wanted other others in
    let both = sym (ap refused_in e) ∙ refused in
    record { before = []; last = Refuses other; others = others; parts = refl; refuses = cc; goes_on = All-nil _; read_is = ap read_in e }
comparing_ends_at_the_first file wanted (Misses other ∷ others) refusal refused =
    let e = compared-missed file wanted other others in
    let both = sym (ap refused_in e) ∙ refused in
    record { before = []; last = Misses other; others = others; parts = refl; refuses = cc; goes_on = All-nil _; read_is = ap read_in e }
comparing_ends_at_the_first file wanted (Meets strings met ∷ others) refusal refused =
    go (comparing_ends_at_the_first file wanted others refusal) (names_version file met) refl (same strings (name_index file met) wanted) refl
  where
    behind_one : IsComparable file wanted (Meets strings met) → IsRefusedAt file wanted refusal others (compared_with file wanted others).read
        → (compared_with file wanted (Meets strings met ∷ others)).read ≡ suc (compared_with file wanted others).read
        → IsRefusedAt file wanted refusal (Meets strings met ∷ others) (compared_with file wanted (Meets strings met ∷ others)).read
    behind_one on f read = record {
      before = Meets strings met ∷ f.before;
      last = f.last;
      others = f.others;
      parts = ap (λ (l : List VersionRecordRead). Meets strings met ∷ l) f.parts;
      refuses = f.refuses;
      goes_on = All-cons (IsComparable file wanted) (Meets strings met) f.before on f.goes_on;
      read_is = let more : suc (length f.before) + records_read f.last ≡ suc (length f.before + records_read f.last) = omega arith in read ∙ ap suc f.read_is ∙ sym more;
    }

    go : ((compared_with file wanted others).refused ≡ Some refusal → IsRefusedAt file wanted refusal others (compared_with file wanted others).read)
        → (n : Bool) → names_version file met ≡ n → (s : Result Bool Cause) → same strings (name_index file met) wanted ≡ s
        → IsRefusedAt file wanted refusal (Meets strings met ∷ others) (compared_with file wanted (Meets strings met ∷ others)).read
    go later false n s is =
        let e = compared-none file wanted strings met others n in
        behind_one (λ other refuses. let names = refuses.0 in cc) (later (sym (ap refused_in e) ∙ refused)) (ap read_in e)
    go later true n (Err cause) is =
        let e = compared-fault file wanted strings met others cause n is in
        let both = sym (ap refused_in e) ∙ refused in
        record { before = []; last = Meets strings met; others = others; parts = refl; refuses = (n, (cause, is, cc)); goes_on = All-nil _; read_is = ap read_in e }
    go later true n (Ok is_wanted) is =
        let e = compared-is file wanted strings met others is_wanted n is in
        behind_one (λ other refuses. let fault = refuses.1.1 in cc) (later (sym (ap refused_in e) ∙ refused)) (ap read_in e)
