-- Some records of the table are compared, and the others are left.
use Rattle.std.proofs.Common.{◌≡◌, ◌+◌, ◌*◌, [], length, None}
use Rattle.elf_table.specs.Ledger.{CallDid}
use Rattle.elf_model.specs.Prelude.{VersionRecordTable as IsTableOf, define_version, pad64, readings_of}
use Rattle.elf_model.specs.declared.versions.VersionKind.TheVariants.{Definition}
use Rattle.elf_hash.specs.Symbols.{IsVersionRecordTable}
use Rattle.elf_note.specs.Reading.{IsCursorOf}
use Rattle.elf_loader.proofs.LeftReadings.{left_of}
use Rattle.elf_loader.proofs.RecordWalk.{StepsRelocationWalk, gone_by}
use Rattle.elf_library.specs.NeedWalks.{AtDefinition}
use Rattle.elf_library.proofs.defined_versions.defines.Given as goal

abbrev pub invariant-records : goal.invariant-records
invariant-records g l = record {
  walks : StepsRelocationWalk l.records l.cursor;
  so_far : CallDid l.fn.src l.src None ((gone_by l.records l.cursor) * (28 + pad64 (length l.version + 1)))
      (λ file. IsCursorOf file l.cursor × ((told : IsTableOf) → IsVersionRecordTable file told l.records → l.records.kind ≡ Definition
      → AtDefinition l.cursor.standing
      × (define_version file l.version l.hash (readings_of file told []) ≡ define_version file l.version l.hash (left_of file told.strings [] l.cursor))));
}

abbrev pub decreases-records : goal.decreases-records
decreases-records g l = l.cursor.left
