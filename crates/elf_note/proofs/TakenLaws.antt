-- Records that are added one after the other.
use Rattle.std.proofs.Common.{◌≡◌, ℕ, ◌*◌, ◌≤◌, Bool, true, false, if◌then◌else◌, List, [], ◌∷◌, ◌++◌, Option, None, Result, Err, refl, sym, ap, subst, ◌∙◌, append_assoc, append-nil, arith}
use Rattle.std.proofs.Math.Nat.{mul-le-mul_right}
use Rattle.elf_model.specs.Versions.{VisitedRecord, Versions, no_versions, with_visited}
use Rattle.elf_source.specs.Source.{CountedState}
use Rattle.elf_table.specs.Prelude.{CallDid, fault_of_result}
use Rattle.elf_table.specs.declared.fault.Fault.{Fault}
use Rattle.elf_table.specs.declared.fault.Fault.TheVariants.{Refused, Source}
use Rattle.elf_note.specs.Prelude.{BufferedTable, KeepsWalk, NamesNumbers, ReadsNumberNames, ReturnsVersion, VersionCursorState, unheld, unread, why_stopped_now}
use Rattle.elf_note.specs.declared.version_names.VersionNameRef.{VersionNameRef}

-- what may still be read grows with the records that are left
less-unheld : (h : BufferedTable) (new old each : ℕ) → new ≤ old → unheld h (new * each) ≤ unheld h (old * each)
less-unheld h new old each fewer = go h.whole
  where
    go : (whole : Bool) → (if whole then 0 else (new * each)) ≤ (if whole then 0 else (old * each))
    go true = omega arith
    go false = mul-le-mul_right each fewer

pub unread-fewer : (old new : VersionCursorState) → KeepsWalk old new → unread new ≤ unread old
unread-fewer old new keeps =
    let held = keeps.same_held in
    let each = keeps.same_each in
    rw (held, each) (less-unheld old.held new.left old.left old.each keeps.fewer)

-- some records before those that are left
abbrev pub after_all : List VisitedRecord → Versions → Versions
after_all records left = record { met = records ++ left.met; cut = left.cut }

-- before the first step none was visited
pub met-none : (file : List ℕ) (records : List VisitedRecord) (all : Versions) (names : List VersionNameRef) (places : List ℕ) → NamesNumbers file records names places
    → (seen : List VisitedRecord) × (all ≡ after_all seen all) × NamesNumbers file (records ++ seen) names places
met-none file records all names places is = ([], refl, subst (λ (met : List VisitedRecord). NamesNumbers file met names places) (sym (append-nil records)) is)

-- a step that is refused refuses all
pub stops-all :
    (file : List ℕ) (records seen : List VisitedRecord) (all left new : Versions) (names : List VersionNameRef) (places : List ℕ) (fault : Fault) → all ≡ after_all seen left
    → ReturnsVersion file left new (Err fault) → ReadsNumberNames file records all names places (Err fault)
stops-all file records seen all left new names places (Refused refusal) before tells =
    λ other. ap (λ (v : Versions). v.cut) (before ∙ ap (after_all seen) (tells other))
stops-all file records seen all left new names places (Source fault at) before tells = tt

-- one record more after those that were visited
pub behind-more :
    (seen : List VisitedRecord) (met : VisitedRecord) (all left new : Versions) → all ≡ after_all seen left → left ≡ with_visited met new
    → all ≡ after_all (seen ++ met ∷ []) new
behind-more seen met all left new before first =
    before ∙ ap (after_all seen) first
    ∙ ap (λ (records : List VisitedRecord). record { met = records; cut = new.cut }) (sym (append_assoc seen (met ∷ []) new.met))

-- and their names
pub names-more :
    (file : List ℕ) (records seen : List VisitedRecord) (met : VisitedRecord) (names : List VersionNameRef) (places : List ℕ) → NamesNumbers file ((records ++ seen) ++ met ∷ []) names places
    → NamesNumbers file (records ++ (seen ++ met ∷ [])) names places
names-more file records seen met names places is = subst (λ (all : List VisitedRecord). NamesNumbers file all names places) (append_assoc records seen (met ∷ [])) is

-- at the end all were visited
pub end-cut : (seen : List VisitedRecord) (all left : Versions) → all ≡ after_all seen left → left ≡ no_versions None → all.cut ≡ None
end-cut seen all left before none = ap (λ (v : Versions). v.cut) (before ∙ ap (after_all seen) none)

pub end-names :
    (file : List ℕ) (records seen : List VisitedRecord) (all left : Versions) (names : List VersionNameRef) (places : List ℕ) → all ≡ after_all seen left
    → left ≡ no_versions None → NamesNumbers file (records ++ seen) names places → NamesNumbers file (records ++ all.met) names places
end-names file records seen all left names places before none is =
    let met : all.met ≡ seen = ap (λ (v : Versions). v.met) (before ∙ ap (after_all seen) none) ∙ append-nil seen in
    subst (λ (m : List VisitedRecord). NamesNumbers file (records ++ m) names places) (sym met) is

-- a cursor that had not failed read as stated
pub going-did :
    {X : Type 0} {a b : CountedState} {n : ℕ} {P : List ℕ → Type 0} (failed : Option Fault) (result : Result X Fault) → failed ≡ None
    → CallDid a b (why_stopped_now failed result) n P → CallDid a b (fault_of_result result) n P
going-did {a = a} {b = b} {n = n} {P = P} failed result going did = subst (λ (f : Option Fault). CallDid a b (why_stopped_now f result) n P) going did
