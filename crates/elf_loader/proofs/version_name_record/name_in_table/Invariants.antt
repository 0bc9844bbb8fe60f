-- Some records of the table do not have the index, and the others are left.
use Rattle.std.proofs.Common.{◌≡◌, ℕ, ◌*◌, List, Option, None, Some}
use Rattle.elf_table.specs.Ledger.{CallDid}
use Rattle.elf_model.specs.Prelude.{VersionRecordRead, VersionRecordTable as IsTableOf, VisitedRecord, file_before, naming_of, readings_of}
use Rattle.elf_hash.specs.Symbols.{IsVersionRecordTable}
use Rattle.elf_note.specs.Reading.{IsCursorOf}
use Rattle.elf_loader.specs.Naming.{IsFileIf, NamedAs}
use Rattle.elf_loader.proofs.LeftReadings.{left_of}
use Rattle.elf_loader.proofs.RecordWalk.{StepsRelocationWalk, gone_by}
use Rattle.elf_loader.proofs.version_name_record.name_in_table.Given as goal

abbrev pub invariant-records : goal.invariant-records
invariant-records g l =
    record {
      walks : StepsRelocationWalk l.records l.cursor;
      so_far : CallDid l.fn.src l.src None ((gone_by l.records l.cursor) * 28)
          (λ file. IsCursorOf file l.cursor × ((told : IsTableOf) (others : List VersionRecordRead) → IsVersionRecordTable file told l.records
          → NamedAs (gone_by l.records l.cursor) (naming_of file l.number (readings_of file told others))
          (naming_of file l.number (left_of file told.strings others l.cursor))));
      last : (file : List ℕ) → l.fn.src.seen.file ≡ Some file → (told : IsTableOf) (others : List VersionRecordRead) → IsVersionRecordTable file told l.records
          → (met : Option VisitedRecord) → IsFileIf file met l.fn.file
          → (now : Option VisitedRecord) × IsFileIf file now l.file
          × (file_before file l.number met (readings_of file told others) ≡ file_before file l.number now (left_of file told.strings others l.cursor));
    }

abbrev pub decreases-records : goal.decreases-records
decreases-records g l = l.cursor.left
