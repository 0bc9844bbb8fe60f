-- The words of this crate, for one import elsewhere.
pub use Rattle.elf_note.specs.Ahead.{ReadsOnCredit}
pub use Rattle.elf_note.specs.DynCursors.{AreStrings}
pub use Rattle.elf_note.specs.NoteCursors.{AdvancesNote, GivesNote, IsNoteFound, KeepsNotes, NameIs, NoteCursorState, ShowsNote, StopsNote, TakesItsBytes, cut_at, no_notes, note_cut, note_size, notes_from, notes_left}
pub use Rattle.elf_note.specs.NumberNames.{GivesName, IsNameOfRecord, IsPlaceOfRecord, NameFits, NamesNumbers, ReadsNumberNames, name_at}
pub use Rattle.elf_note.specs.Reading.{BufferedTable, GivesVersion, IsCursorOf, IsPositionInTable, IsStep, IsVersion, KeepsWalk, KnowsAhead, LeadsOn, LeavesWalk, ReadsRecord, ReturnsMet, ReturnsVersion, SpendsRecord, StartsVersions, StepsIn, VersionCursorState, bytes_each, index_bytes, record_position_of, unheld, unread, versions_left, why_stopped_now}
pub use Rattle.elf_note.specs.Steps.{StepReads}
pub use Rattle.elf_note.specs.Words.{HoldsWords, checks_of}
unfoldable pub use Rattle.elf_note.specs.Words.{HoldsName, aux_word, distance_of_name, end_of_named_record}
