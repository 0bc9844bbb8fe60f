-- The causes of refusals as numbers.
use Rattle.std.specs.Prelude.{ℕ}
use Rattle.elf_model.specs.declared.causes.Cause.TheVariants.{BadClass, BadData, BadLink, BadVersion, Budget, EntrySize, ExtendedNumbering, HashCycle, HashIndex, HashShape, LoadAlign, LoadOverlap, MemberCut, NameOutside, NameUnended, NoHash, NotArchive, NotElf, NotImage, NotRel, NotStrings, NoteCut, Overflow, PlaceOutside, Relr, Repeat, Short, SizeNotWhole, SymbolIndex, TableOutside, TableWritten, Thin, TooLong, TooManyHeaders, Undefined, Unmapped, Unplaced, Unsupported, VersionCut, VersionIndex}
use Rattle.elf_model.specs.declared.causes.Cause.{Cause}

-- the number of a cause, starting at 1; 0 is none
abbrev pub cause_number : Cause → ℕ
cause_number Short = 1
cause_number NotElf = 2
cause_number BadClass = 3
cause_number BadData = 4
cause_number BadVersion = 5
cause_number ExtendedNumbering = 6
cause_number TooManyHeaders = 7
cause_number EntrySize = 8
cause_number TableOutside = 9
cause_number BadLink = 10
cause_number NotStrings = 11
cause_number SizeNotWhole = 12
cause_number NameOutside = 13
cause_number NameUnended = 14
cause_number NoteCut = 15
cause_number NoHash = 16
cause_number HashShape = 17
cause_number HashIndex = 18
cause_number HashCycle = 19
cause_number Unsupported = 20
cause_number Overflow = 21
cause_number NotRel = 22
cause_number Unplaced = 23
cause_number Undefined = 24
cause_number PlaceOutside = 25
cause_number SymbolIndex = 26
cause_number TooLong = 27
cause_number Budget = 28
cause_number Unmapped = 29
cause_number VersionCut = 32
cause_number VersionIndex = 33
cause_number Thin = 34
cause_number NotArchive = 35
cause_number MemberCut = 36
cause_number LoadOverlap = 37
cause_number Relr = 38
cause_number NotImage = 39
cause_number LoadAlign = 40
cause_number Repeat = 41
cause_number TableWritten = 42
