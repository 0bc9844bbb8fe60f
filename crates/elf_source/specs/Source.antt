-- The states of a source and of a counted source, and what a read does.
use Rattle.std.specs.Prelude.{◌≡◌, ℕ, ◌+◌, ◌-◌, ◌^◌, ◌≤◌, ◌<◌, min, Bool, true, false, List, length, Option, None, Some, Result, Ok, Err, option_map, IfSome, refl}
use Rattle.std.proofs.Common.{subst, ◌∙◌}
use Rattle.elf_model.specs.Style.{without_sections}
use Rattle.elf_model.proofs.StyleLemmas.{view_is_as_long}
use Rattle.elf_source.specs.declared.faults.SourceFault.{SourceFault}
use Rattle.elf_source.specs.declared.faults.SourceFault.TheVariants.{Device, Ended}
use Rattle.elf_source.specs.declared.faults.AskFault.{AskFault}
use Rattle.elf_source.specs.declared.faults.AskFault.TheVariants.{Source, Budget}

-- the parent of a range: its size in bytes, and its file, if one is known
pub record RangeParent : Type 0 where
  pub size : ℕ
  pub file : Option (List ℕ)

-- the state of a source: its size in bytes, how many of its reads failed, the file whose slices its
-- reads return, if one is known, and its parent, if it is a range
pub record SourceState : Type 0 where
  pub size : ℕ
  pub failures : ℕ
  pub file : Option (List ℕ)
  pub sized : (bytes : List ℕ) → file ≡ Some bytes → length bytes ≡ size
  pub whole : Option RangeParent

-- a source is honest: its reads return the slices of a file, and its count of failures may still
-- rise
pub record IsHonest (seen : SourceState) : Type 0 where
  pub file : List ℕ
  pub gives : seen.file ≡ Some file
  pub not_worn : seen.failures < 2 ^ 64 - 1

-- what a read keeps, fault or not
pub record KeepsSource (old new : SourceState) : Type 0 where
  pub same_size : new.size ≡ old.size
  pub no_fewer : old.failures ≤ new.failures
  pub same_file : new.file ≡ old.file
  pub same_whole : new.whole ≡ old.whole

-- what a fault of the source means: at `Device` its failures rose, at `Ended` it isn't honest
abbrev pub IsSourceFault : SourceState → SourceState → SourceFault → Type 0
IsSourceFault old new Device = old.failures < new.failures
IsSourceFault old new Ended = IsHonest new → ⊥

-- no more is requested than a limit allows, and a limit exceeds what was requested by less than
-- 2^64
abbrev pub IsWithin : ℕ → Option ℕ → Type 0
IsWithin asked most = (n : ℕ) → most ≡ Some n → (asked ≤ n) × (n < asked + 2 ^ 64)

-- a fact about every file of a source, from one about the option
abbrev each_file : (P : List ℕ → Type 0) (file : Option (List ℕ)) → IfSome file P → (bytes : List ℕ) → file ≡ Some bytes → P bytes
each_file P file holds bytes same = subst (λ (o : Option (List ℕ)). IfSome o P) same holds

-- a file, if one is known: all of it, or with zeros where its header locates section headers
abbrev pub file_by : Bool → Option (List ℕ) → Option (List ℕ)
file_by false file = file
file_by true file = option_map without_sections file

-- which has the same length
abbrev sized_by : (hides : Bool) (file : Option (List ℕ)) (size : ℕ) → ((bytes : List ℕ) → file ≡ Some bytes → length bytes ≡ size)
    → (bytes : List ℕ) → file_by hides file ≡ Some bytes → length bytes ≡ size
sized_by false file size sized = sized
sized_by true None size sized = each_file (λ bytes. length bytes ≡ size) None tt
sized_by true (Some file) size sized =
    each_file (λ bytes. length bytes ≡ size) (Some (without_sections file)) (view_is_as_long file ∙ sized file refl)

-- the state of a source whose file is shown whole, or without the header fields that locate section
-- headers
abbrev pub seen_by : Bool → SourceState → SourceState
seen_by hides seen = record {
  size = seen.size;
  failures = seen.failures;
  file = file_by hides seen.file;
  sized = sized_by hides seen.file seen.size seen.sized;
  whole = seen.whole;
}

-- a source whose reads are counted: its state as shown, the source itself, whether the fields of
-- its file header that locate section headers are hidden, how many bytes were requested, the limit
-- on that count, if one is set, and the offset of the last read that failed or exceeded the limit
pub record CountedState : Type 0 where
  pub seen : SourceState
  pub source : SourceState
  pub hides : Bool
  pub is_seen : seen ≡ seen_by hides source
  pub asked : ℕ
  pub most : Option ℕ
  pub stopped : ℕ
  pub within : IsWithin asked most
  pub fits : asked < 2 ^ 128

-- how many bytes may still be requested, if a limit is set
abbrev pub left : CountedState → Option ℕ
left c = option_map (λ n. n - c.asked) c.most

-- a count that stays at 2^128 - 1
abbrev pub counted : ℕ → ℕ → ℕ
counted asked n = min (asked + n) (2 ^ 128 - 1)

-- a limit was set or removed, and nothing else changed
pub record SetsLimit (old new : CountedState) (bytes : Option ℕ) : Type 0 where
  pub seen : new.seen ≡ old.seen
  pub asked : new.asked ≡ old.asked
  pub most : new.most ≡ option_map (counted old.asked) bytes
  pub stopped : new.stopped ≡ old.stopped
  pub source : new.source ≡ old.source
  pub hides : new.hides ≡ old.hides
  pub small : (n : ℕ) → bytes ≡ Some n → n < 2 ^ 64

-- this many bytes at an offset may be requested in one read
abbrev pub IsReadable : CountedState → ℕ → ℕ → Type 0
IsReadable c at n = (at + n ≤ c.seen.size) × (n ≤ 4096)

-- what is hidden stays so, and the source is unchanged except for its failures
pub record SameView (old new : CountedState) : Type 0 where
  pub keeps : KeepsSource old.source new.source
  pub hides : new.hides ≡ old.hides

-- WHAT READS DO, fault or not: they request at most n bytes, and keep the source and the limit
pub record ReadsUpTo (old new : CountedState) (n : ℕ) : Type 0 where
  pub keeps : KeepsSource old.seen new.seen
  pub grows : old.asked ≤ new.asked
  pub at_most : new.asked ≤ old.asked + n
  pub same_limit : new.most ≡ old.most
  pub view : SameView old new

-- what a budget refusal means, of reads that request at most n bytes: a limit was set, they could
-- have exceeded it, and fewer than 4,096 bytes of it were left
pub record ExceedsBudget (old new : CountedState) (n : ℕ) : Type 0 where
  pub most : ℕ
  pub is_set : old.most ≡ Some most
  pub above : most < old.asked + n
  pub late : most < new.asked + 4096

-- what a fault of a read of n bytes means
abbrev pub IsAskFault : CountedState → CountedState → ℕ → AskFault → Type 0
IsAskFault old new n (Source fault) = IsSourceFault old.seen new.seen fault
IsAskFault old new n Budget = ExceedsBudget old new n

-- what one read requests, exactly: the bytes are counted if it was made, and it was made unless the
-- limit had fewer left
abbrev pub CountsRead : {X : Type 0} → CountedState → CountedState → ℕ → Result X AskFault → Type 0
CountsRead old new n (Ok x) = new.asked ≡ counted old.asked n
CountsRead old new n (Err (Source fault)) = new.asked ≡ counted old.asked n
CountsRead old new n (Err Budget) = new.asked ≡ old.asked

-- a failed read records its offset, and no other call does
abbrev pub RecordsStop : {X E : Type 0} → CountedState → CountedState → ℕ → Result X E → Type 0
RecordsStop old new at (Ok x) = new.stopped ≡ old.stopped
RecordsStop old new at (Err fault) = new.stopped ≡ at

-- the source was read once, or not at all if the budget was exhausted
abbrev pub ReadsSourceOnce : {X : Type 0} → (SourceState → ℕ → ℕ → SourceState → Type 0) → CountedState → CountedState → ℕ → ℕ → Result X AskFault → Type 0
ReadsSourceOnce one_read old new at n (Ok x) = one_read old.source at n new.source
ReadsSourceOnce one_read old new at n (Err (Source fault)) = one_read old.source at n new.source
ReadsSourceOnce one_read old new at n (Err Budget) = new.source ≡ old.source

-- a read outside the limit: it is counted, and what is left of the limit is unchanged
pub record FillsUnlimited (old new : CountedState) (n : ℕ) : Type 0 where
  pub keeps : KeepsSource old.seen new.seen
  pub asks : new.asked ≡ counted old.asked n
  pub same_left : left new ≡ option_map (λ bytes. counted new.asked bytes - new.asked) (left old)
  pub view : SameView old new

-- the fields of a file header that locate section headers were hidden, or shown, and the byte count
-- and limit are unchanged
pub record MasksSectionHeaders (old new : CountedState) (hides : Bool) : Type 0 where
  pub is_hidden : new.hides ≡ hides
  pub shows : hides ≡ true → (file : List ℕ) → old.seen.file ≡ Some file → new.seen.file ≡ Some (without_sections file)
  pub same_size : new.seen.size ≡ old.seen.size
  pub same_failures : new.seen.failures ≡ old.seen.failures
  pub same_source : new.source ≡ old.source
  pub same_asked : new.asked ≡ old.asked
  pub same_limit : new.most ≡ old.most
  pub same_stopped : new.stopped ≡ old.stopped

-- the state of a source that has these bytes and never fails
abbrev pub honest : List ℕ → SourceState
honest bytes = record { size = length bytes; failures = 0; file = Some bytes; sized = each_file (λ b. length b ≡ length bytes) (Some bytes) refl; whole = None }

-- the state of a source of which no file is known
abbrev pub unknown : ℕ → ℕ → SourceState
unknown size failures = record { size = size; failures = failures; file = None; sized = each_file (λ b. length b ≡ size) None tt; whole = None }
