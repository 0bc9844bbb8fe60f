use Rattle.elf_model.proofs.VersionLaws.{named-none}
use Rattle.elf_note.proofs.NameTables.{none-names}
use Rattle.elf_note.proofs.version_names.VersionNames.new.Goals as goal

pub returns : goal.returns
returns c = λ file places. record {
  named = λ number. none-names file 1024 number;
  placed = λ number few. rw (named-none file number) tt;
}
