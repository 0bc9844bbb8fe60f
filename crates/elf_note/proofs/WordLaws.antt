-- Fields that are those of a record of a file.
use Rattle.std.proofs.Common.{◌≡◌, ℕ, ◌+◌, ◌^◌, ◌<◌, ◌≤◌, nat_lt, Bool, true, false, if◌then◌else◌, List, Option, None, Some, IfSome, Err, ◌⊎◌, inl, inr, refl, ap, ◌∙◌, arith}
use Rattle.std.proofs.lemmas.Bool.Decides.{nat_tests}
use Rattle.elf_model.specs.Prelude.{RecordCursorState, field, first_refusal, name_distance, name_end, name_index, record_checks, record_size, visited_at, word_checks}
use Rattle.elf_model.specs.declared.versions.VersionKind.TheVariants.{Definition, File, Need}
use Rattle.elf_model.specs.declared.versions.VersionKind.{VersionKind}
use Rattle.elf_table.specs.Prelude.{IsOfRead}
use Rattle.elf_table.specs.declared.fault.Fault.{Fault}
use Rattle.elf_table.specs.declared.fault.Fault.TheVariants.{Refused, Source}
use Rattle.elf_note.specs.Prelude.{BufferedTable, HoldsName, HoldsWords, IsPositionInTable, ReadsRecord, aux_word, bytes_each, checks_of, distance_of_name, end_of_named_record, index_bytes, record_position_of, unheld}
use Rattle.elf_note.specs.declared.record_position.RecordPosition.{RecordPosition}
use Rattle.elf_note.specs.declared.record_fields.VersionRecordFields.{VersionRecordFields}
pub use Rattle.elf_table.proofs.Absent.{none-of}

pub distance-is : (file : List ℕ) (kind : VersionKind) (at : ℕ) → distance_of_name kind (aux_word file (record { kind = kind; at = at })) ≡ name_distance file (record { kind = kind; at = at })
unfolding distance_of_name aux_word name_distance
distance-is file Definition at = refl
distance-is file File at = refl
distance-is file Need at = refl

pub end-is : (file : List ℕ) (kind : VersionKind) (at : ℕ) → end_of_named_record kind (aux_word file (record { kind = kind; at = at })) ≡ name_end file (record { kind = kind; at = at })
unfolding end_of_named_record aux_word name_end
end-is file Definition at = refl
end-is file File at = refl
end-is file Need at = refl

-- the location of the name
pub named-where : (file : List ℕ) (kind : VersionKind) (at : ℕ) (words : VersionRecordFields) → HoldsWords file (record { kind = kind; at = at }) words
    → distance_of_name kind words.aux ≡ name_distance file (record { kind = kind; at = at })
named-where file kind at words h = ap (distance_of_name kind) h.aux ∙ distance-is file kind at

-- the checks of the fields are those of the record
pub checks-are : (file : List ℕ) (kind : VersionKind) (at size place : ℕ) (words : VersionRecordFields) → HoldsWords file (record { kind = kind; at = at }) words
    → checks_of kind size place at words ≡ word_checks file size place (record { kind = kind; at = at })
checks-are file kind at size place words h =
    let ends : end_of_named_record kind words.aux ≡ name_end file (record { kind = kind; at = at }) = ap (end_of_named_record kind) h.aux ∙ end-is file kind at in
    let version = h.version in
    let number = h.number in
    rw (version, number, ends) refl

-- the structure that holds the name ends after its start
pub distance-inside : (kind : VersionKind) (aux : ℕ) → distance_of_name kind aux ≤ end_of_named_record kind aux
unfolding distance_of_name end_of_named_record
distance-inside Definition aux = omega arith
distance-inside File aux = omega arith
distance-inside Need aux = omega arith

-- what a record may read
pub asks-words : (h : BufferedTable) (kind : VersionKind) → unheld h (record_size kind) ≤ unheld h (bytes_each kind)
asks-words h kind = go h.whole kind
  where
    go : (whole : Bool) (kind : VersionKind) → (if whole then 0 else record_size kind) ≤ (if whole then 0 else bytes_each kind)
    go true kind = omega arith
    go false Definition = omega arith
    go false File = omega arith
    go false Need = omega arith

pub asks-name : (h : BufferedTable) (kind : VersionKind) → unheld h (record_size kind) + unheld h (index_bytes kind) ≤ unheld h (bytes_each kind)
asks-name h kind = go h.whole kind
  where
    go : (whole : Bool) (kind : VersionKind)
        → (if whole then 0 else record_size kind) + (if whole then 0 else index_bytes kind) ≤ (if whole then 0 else bytes_each kind)
    go true kind = omega arith
    go false Definition = omega arith
    go false File = omega arith
    go false Need = omega arith

-- the checks of a record that is in the table are those of its fields
pub record-checked :
    (file : List ℕ) (table size : ℕ) (s : RecordPosition) (words : VersionRecordFields) → s.place + record_size s.kind ≤ size
    → HoldsWords file (visited_at table (record_position_of s)) words
    → first_refusal (record_checks file table size (record_position_of s)) ≡ first_refusal (checks_of s.kind size s.place (table + s.place) words)
unfolding record_checks
record-checked file table size s words inside h =
    let t : nat_lt size (s.place + record_size s.kind) ≡ false = grind (arith, nat_tests) in
    let same = checks-are file s.kind (table + s.place) size s.place words h in
    rw (t, same) refl

pub fits_along :
    (size : ℕ) (kind : VersionKind) (o : Option RecordPosition) → IfSome o (λ s. (s.place < 2 ^ 64 + 2 ^ 32) × (s.owner ≡ 0)) → IfSome o (λ s. s.kind ≡ kind)
    → IfSome o (IsPositionInTable size (bytes_each kind))
fits_along size kind None near same = tt
fits_along size kind (Some s) near same = record { near = near.0; owner = omega (arith, near.1); pays = rw same (omega arith) }

-- the index of a name: after a definition, and in any other record
pub definition-index :
    (file : List ℕ) (at : ℕ) (words : VersionRecordFields) → HoldsWords file (record { kind = Definition; at = at }) words
    → field file (at + words.aux) 4 ≡ name_index file (record { kind = Definition; at = at })
unfolding name_index name_distance aux_word
definition-index file at words h = ap (λ (x : ℕ). field file (at + x) 4) h.aux

pub own-index :
    (file : List ℕ) (kind : VersionKind) (at : ℕ) (words : VersionRecordFields) → (kind ≡ File) ⊎ (kind ≡ Need)
    → HoldsWords file (record { kind = kind; at = at }) words → words.name ≡ name_index file (record { kind = kind; at = at })
unfolding name_index HoldsName
own-index file Definition at words (inl is) h = cc
own-index file Definition at words (inr is) h = cc
own-index file File at words is h = h.name
own-index file Need at words is h = h.name

-- if a read fails no check is returned
pub read-fails : (file : List ℕ) (table size : ℕ) (stand : RecordCursorState) (fault : Fault) → IsOfRead fault → ReadsRecord file table size stand (Err fault)
read-fails file table size stand (Refused refusal) budget = λ other. absurd (other budget)
read-fails file table size stand (Source fault at) budget = tt
