-- Some records of the table are compared, and the others are left.
use Rattle.std.proofs.Common.{◌+◌, ◌*◌, List, length, None}
use Rattle.elf_table.specs.Ledger.{CallDid}
use Rattle.elf_model.specs.Prelude.{VersionRecordRead, VersionRecordTable as IsTableOf, compared_with, pad64, readings_of}
use Rattle.elf_hash.specs.Symbols.{IsVersionRecordTable}
use Rattle.elf_note.specs.Reading.{IsCursorOf}
use Rattle.elf_loader.specs.Comparing.{CompareProgress}
use Rattle.elf_loader.proofs.LeftReadings.{left_of}
use Rattle.elf_loader.proofs.RecordWalk.{StepsRelocationWalk, gone_by}
use Rattle.elf_loader.proofs.name_comparison.compare_table.Given as goal

abbrev pub invariant-records : goal.invariant-records
invariant-records g l =
    record {
      walks : StepsRelocationWalk l.records l.cursor;
      so_far : CallDid l.fn.src l.src None ((gone_by l.records l.cursor) * (28 + pad64 (length l.version + 1)))
          (λ file. IsCursorOf file l.cursor × ((told : IsTableOf) (others : List VersionRecordRead) → IsVersionRecordTable file told l.records
          → CompareProgress l.fn.numbers l.numbers (gone_by l.records l.cursor) (compared_with file l.version (readings_of file told others))
          (compared_with file l.version (left_of file told.strings others l.cursor))));
    }

abbrev pub decreases-records : goal.decreases-records
decreases-records g l = l.cursor.left
