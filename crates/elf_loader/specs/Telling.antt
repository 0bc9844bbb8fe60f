-- The name of a symbol's version, as a lookup reads it.
use Rattle.std.specs.Prelude.{ℕ, ◌≡◌, ◌+◌, ◌*◌, true, is_some, List, None, Some, Result, Ok, Err}
use Rattle.elf_model.specs.Prelude.{ChainResult, IsBudgetRefusal, IsNameBytesAt, LookupTables, NumberNameSource, TOLD_BYTES, VersionQuery, VersymTable, asked_name, cost_where, found_lookup, named_by_record, pad64, refused_lookup, versym, versym_at}
use Rattle.elf_source.specs.Source.{CountedState}
use Rattle.elf_table.specs.Prelude.{CallReads, shown_by}
use Rattle.elf_table.specs.declared.fault.Fault.{Fault}
use Rattle.elf_table.specs.declared.fault.Fault.TheVariants.{Refused, Source}
use Rattle.elf_loader.specs.declared.resolved_version_name.ResolvedVersionName.{ResolvedVersionName}

-- how many bytes reading a name may request
abbrev pub parsed_member_bytes : ℕ
parsed_member_bytes = pad64 (TOLD_BYTES + 1)

-- how many bytes finding a version may request, with a number of records: none if the query names
-- one
abbrev pub telling_bytes : VersionQuery → ℕ → ℕ
telling_bytes asked records = elim (asked_name asked) [ None ↦ records * 28 + parsed_member_bytes | Some version ↦ 0 ]

-- THE NAME of the version of a symbol that a walk finds, by the result of searching it: the name,
-- and the offset of its bytes; or why there is none, unless a read failed
abbrev pub ReturnsVersionName : List ℕ → LookupTables → VersymTable → ℕ → NumberNameSource → CountedState → CountedState → List ℕ → Result ResolvedVersionName Fault → Type 0
ReturnsVersionName file scope words y naming before after name (Ok told) =
    CallReads before after None (naming.read * 28 + parsed_member_bytes)
    × ((walked : ChainResult) → named_by_record file scope words y walked naming ≡ found_lookup scope y walked naming.read true (Some (record { index = words.index; word = versym file (versym_at words y); name = shown_by told.end name })))
    × IsNameBytesAt file told.at name
ReturnsVersionName file scope words y naming before after name (Err (Refused refusal)) =
    CallReads before after (Some (Refused refusal)) (naming.read * 28 + cost_where (is_some naming.found) parsed_member_bytes)
    × ((IsBudgetRefusal refusal → ⊥) → (walked : ChainResult) → named_by_record file scope words y walked naming ≡ refused_lookup walked.tried walked.read naming.read (is_some naming.found) refusal)
ReturnsVersionName file scope words y naming before after name (Err (Source fault at)) =
    CallReads before after (Some (Source fault at)) (naming.read * 28 + cost_where (is_some naming.found) parsed_member_bytes)
