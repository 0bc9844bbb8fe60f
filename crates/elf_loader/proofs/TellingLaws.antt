-- Reading the name of a symbol's version.
use Rattle.std.proofs.Common.{◌≡◌, ℕ, ◌+◌, ◌*◌, ◌-◌, ◌^◌, ◌<◌, ◌≤◌, min, true, false, is_some, List, [], length, take, drop, None, Some, Result, Ok, Err, refl, sym, ap, subst, ◌∙◌, arith, length-take, length-drop}
use Rattle.std.proofs.lemmas.List.{take-take}
use Rattle.elf_model.specs.Prelude.{ChainResult, Cut as ShownCut, DisplayedName, IsNameBytesAt, LookupTables, NumberNameSource, TOLD_BYTES, VersymTable, VisitedRecord, found_lookup, name_index, named_at, named_by_record, refused_lookup, shown, slice, versym, versym_at}
use Rattle.elf_model.specs.declared.causes.Cause.{Cause}
use Rattle.elf_model.specs.declared.causes.Refusal.{Refusal}
use Rattle.elf_model.specs.declared.causes.Cause.TheVariants.{VersionIndex}
use Rattle.elf_model.specs.Names.DisplayedName.{Whole as ShownWhole}
use Rattle.elf_model.proofs.NameLemmas.{View, is_cut, is_empty, is_outside, is_unended, is_whole, view}
use Rattle.elf_model.proofs.Nuls.{some-free}
use Rattle.elf_model.proofs.Slices.{slice-size, slice-slice}
use Rattle.elf_source.specs.Source.{CountedState}
use Rattle.elf_table.specs.Prelude.{CallReads, NameRead, StringTableRange, strings_in}
use Rattle.elf_table.specs.declared.names.NameEnd.TheVariants.{Cut, Whole}
use Rattle.elf_table.specs.declared.fault.Fault.{Fault}
use Rattle.elf_table.specs.declared.names.NameEnd.{NameEnd}
use Rattle.elf_table.specs.declared.fault.Fault.TheVariants.{Refused, Source}
use Rattle.elf_table.proofs.LedgerLaws.{CallReads-more, CallReads-then}
use Rattle.elf_loader.specs.Prelude.{NamesBefore, ReturnsVersionName, parsed_member_bytes}
use Rattle.elf_loader.specs.declared.version_name_record.VersionNameRecord.{VersionNameRecord}

-- the first record that has the index has its name
told-shown :
    (file : List ℕ) (scope : LookupTables) (words : VersymTable) (y : ℕ) (walked : ChainResult) (naming : NumberNameSource) (strings : List ℕ) (met : VisitedRecord) (name : DisplayedName)
    → naming.found ≡ Some (strings, met) → shown strings (name_index file met) TOLD_BYTES ≡ Ok name
    → named_by_record file scope words y walked naming
    ≡ found_lookup scope y walked naming.read true (Some (record { index = words.index; word = versym file (versym_at words y); name = name }))
unfolding named_by_record
told-shown file scope words y walked naming strings met name found told = rw (found, named_by_record) (rw (told, named_by_record) refl)

-- or the fault of its name
told-fault :
    (file : List ℕ) (scope : LookupTables) (words : VersymTable) (y : ℕ) (walked : ChainResult) (naming : NumberNameSource) (strings : List ℕ) (met : VisitedRecord) (cause : Cause)
    → naming.found ≡ Some (strings, met) → shown strings (name_index file met) TOLD_BYTES ≡ Err cause
    → named_by_record file scope words y walked naming ≡ refused_lookup walked.tried walked.read naming.read true (record { at = named_at file met; cause = cause })
unfolding named_by_record
told-fault file scope words y walked naming strings met cause found told = rw (found, named_by_record) (rw (told, named_by_record) refl)

-- or none has it, or an earlier one is refused
told-none :
    (file : List ℕ) (scope : LookupTables) (words : VersymTable) (y : ℕ) (walked : ChainResult) (naming : NumberNameSource) → naming.found ≡ None → naming.refused ≡ None
    → named_by_record file scope words y walked naming ≡ refused_lookup walked.tried walked.read naming.read false (record { at = versym_at words y; cause = VersionIndex })
unfolding named_by_record
told-none file scope words y walked naming found none = rw (found, none, named_by_record) refl

told-refused :
    (file : List ℕ) (scope : LookupTables) (words : VersymTable) (y : ℕ) (walked : ChainResult) (naming : NumberNameSource) (refusal : Refusal) → naming.found ≡ None → naming.refused ≡ Some refusal
    → named_by_record file scope words y walked naming ≡ refused_lookup walked.tried walked.read naming.read false refusal
unfolding named_by_record
told-refused file scope words y walked naming refusal found none = rw (found, none, named_by_record) refl

-- a fault before the record
pub fault-tells :
    (file : List ℕ) (scope : LookupTables) (words : VersymTable) (y : ℕ) (naming left : NumberNameSource) (a b : CountedState) (name : List ℕ) (fault : Fault)
    → NamesBefore file a b naming left (Err fault) → ReturnsVersionName file scope words y naming a b name (Err fault)
fault-tells file scope words y naming left a b name (Refused refusal) p = (
  CallReads-more _ (omega arith) p.0,
  λ other walked. let r = p.1 other in let none : is_some naming.found ≡ false = ap is_some r.0 in rw none (told-refused file scope words y walked naming refusal r.0 r.1),
)
fault-tells file scope words y naming left a b name (Source fault at) p = CallReads-more _ (omega arith) p

stopped : (a b : CountedState) (n at : ℕ) → CallReads a b None n → CallReads a b (Some (Refused (record { at = at; cause = VersionIndex }))) n
stopped a b n at p = record { reads = p.reads; says = λ budget. absurd (cc) }

-- no record
pub none-tells :
    (file : List ℕ) (scope : LookupTables) (words : VersymTable) (y at : ℕ) (naming left : NumberNameSource) (a b : CountedState) (name : List ℕ)
    → at ≡ versym_at words y → left ≡ record { found = None; refused = None; read = 0 } → NamesBefore file a b naming left (Ok None)
    → ReturnsVersionName file scope words y naming a b name (Err (Refused (record { at = at; cause = VersionIndex })))
none-tells file scope words y at naming left a b name here nothing p =
    let n = rw nothing at p.2 in (
      CallReads-more _ (omega (arith, n.read)) (stopped a b (p.0 * 28) at p.1),
      λ other walked. let none : is_some naming.found ≡ false = ap is_some n.found in rw (none, here) (told-none file scope words y walked naming n.found n.refused),
    )

-- the bytes that are shown of a name are in the file, at their offset in its strings
abbrev shown_bytes : Result DisplayedName Cause → List ℕ
shown_bytes (Ok (ShownWhole bytes)) = bytes
shown_bytes (Ok (ShownCut bytes)) = bytes
shown_bytes (Err cause) = []

slice-is_at : (file : List ℕ) (at size off n : ℕ) → off + n ≤ length (slice file at size) → IsNameBytesAt file (at + off) (slice (slice file at size) off n)
slice-is_at file at size off n fits =
    let few = length-take size (drop at file) in
    let within : length (slice file at size) ≤ size = omega (arith, few) in
    let same : slice (slice file at size) off n ≡ slice file (at + off) n = slice-slice file at size off n (omega (arith, fits, within)) in
    let long : length (slice (slice file at size) off n) ≡ n = slice-size (slice file at size) off n fits in
    ap (slice file (at + off)) long ∙ sym same

shown-is_at :
    (file : List ℕ) (at size off cap : ℕ) (name : DisplayedName) → shown (slice file at size) off cap ≡ Ok name
    → IsNameBytesAt file (at + off) (shown_bytes (Ok name)) × (off ≤ size)
shown-is_at file at size off cap name told = go (view (slice file at size) off cap)
  where
    table : List ℕ
    table = slice file at size

    few : length table ≤ size
    few = let l = length-take size (drop at file) in omega (arith, l)

    so : (bytes : List ℕ) → bytes ≡ shown_bytes (Ok name) → IsNameBytesAt file (at + off) bytes → off ≤ size → IsNameBytesAt file (at + off) (shown_bytes (Ok name)) × (off ≤ size)
    so bytes is is_at inside = (subst (IsNameBytesAt file (at + off)) is is_at, inside)

    go : View table off cap → IsNameBytesAt file (at + off) (shown_bytes (Ok name)) × (off ≤ size)
    go (is_empty none e) = let zero = none.1 in so [] (ap shown_bytes (sym e ∙ told)) refl (omega (arith, zero))
    go (is_outside none e) = let no = sym e ∙ told in absurd (cc)
    go (is_whole place below nul e) =
        let front : List ℕ = slice table off (cap + 1) in
        let f = some-free front place nul in
        let l = length-take (cap + 1) (drop off table) in
        let d = length-drop off table in
        let same : slice table off place ≡ take place front = sym (take-take place (cap + 1) (drop off table) (omega (arith, f.1, l))) in
        so (slice table off place) (same ∙ ap shown_bytes (sym e ∙ told)) (slice-is_at file at size off place (omega (arith, f.1, l, d, below))) (omega (arith, below, few))
    go (is_cut below none e) =
        so (slice table off cap) (ap shown_bytes (sym e ∙ told)) (slice-is_at file at size off cap (omega (arith, below))) (omega (arith, below, few))
    go (is_unended below end none e) = let no = sym e ∙ told in absurd (cc)

-- if the strings end below 2^64, the name's offset fits into 64 bits
pub is_at-there :
    (file : List ℕ) (strings : StringTableRange) (off cap at : ℕ) (name : DisplayedName) → shown (strings_in file strings) off cap ≡ Ok name
    → strings.at + strings.size < 2 ^ 64 → at ≡ min (strings.at + off) (2 ^ 64 - 1) → IsNameBytesAt file at (shown_bytes (Ok name))
is_at-there file strings off cap at name told ends is =
    let is_at = shown-is_at file strings.at strings.size off cap name told in
    let inside = is_at.1 in
    let here : strings.at + off ≡ at = omega (arith, inside, ends, is) in
    subst (λ (n : ℕ). IsNameBytesAt file n (shown_bytes (Ok name))) here is_at.0

-- its name is read, and is there
pub name-tells :
    (file : List ℕ) (scope : LookupTables) (words : VersymTable) (y at : ℕ) (naming left : NumberNameSource) (a b c : CountedState) (name : List ℕ) (by : VersionNameRecord) (end : NameEnd)
    → NamesBefore file a b naming left (Ok (Some by)) → CallReads b c None parsed_member_bytes
    → NameRead by.«record».named_at (Ok end) name (shown (strings_in file by.names) by.«record».name TOLD_BYTES)
    → by.names.at + by.names.size < 2 ^ 64 → at ≡ min (by.names.at + by.«record».name) (2 ^ 64 - 1)
    → ReturnsVersionName file scope words y naming a c name (Ok (record { end = end; at = at }))
name-tells file scope words y at naming left a b c name by Whole p pays reads ends is = (
  CallReads-then _ (omega arith) p.3 pays,
  λ walked. told-shown file scope words y walked naming (strings_in file by.names) p.0 (ShownWhole name) p.1 (let e = p.2.name in rw e at reads),
  is_at-there file by.names by.«record».name TOLD_BYTES at (ShownWhole name) reads ends is,
)
name-tells file scope words y at naming left a b c name by Cut p pays reads ends is = (
  CallReads-then _ (omega arith) p.3 pays,
  λ walked. told-shown file scope words y walked naming (strings_in file by.names) p.0 (ShownCut name) p.1 (let e = p.2.name in rw e at reads),
  is_at-there file by.names by.«record».name TOLD_BYTES at (ShownCut name) reads ends is,
)

-- or it is not
pub name-fails :
    (file : List ℕ) (scope : LookupTables) (words : VersymTable) (y : ℕ) (naming left : NumberNameSource) (a b c : CountedState) (name : List ℕ) (by : VersionNameRecord) (fault : Fault)
    → NamesBefore file a b naming left (Ok (Some by)) → CallReads b c (Some fault) parsed_member_bytes
    → NameRead by.«record».named_at (Err fault) name (shown (strings_in file by.names) by.«record».name TOLD_BYTES)
    → ReturnsVersionName file scope words y naming a c name (Err fault)
name-fails file scope words y naming left a b c name by (Refused refusal) p pays reads =
    let some : is_some naming.found ≡ true = ap is_some p.1 in
    rw some (
      CallReads-then _ (omega arith) p.3 pays,
      λ other walked.
          let r = reads other in
          let e = p.2.name in
          let at : named_at file p.0 ≡ refusal.at = sym p.2.named_at ∙ sym r.0 in
          let t = told-fault file scope words y walked naming (strings_in file by.names) p.0 refusal.cause p.1 (rw e at r.1) in
          rw at at t,
    )
name-fails file scope words y naming left a b c name by (Source fault at) p pays reads =
    let some : is_some naming.found ≡ true = ap is_some p.1 in rw some (CallReads-then _ (omega arith) p.3 pays)
