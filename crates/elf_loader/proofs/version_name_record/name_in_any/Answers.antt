-- No table, or one.
use Rattle.std.proofs.Common.{List, None, Ok, arith}
use Rattle.elf_table.proofs.LedgerLaws.{CallReads-none, CallDid-as, CallDid-none}
use Rattle.elf_model.specs.Loader.{VersionRecordRead, naming_of}
use Rattle.elf_loader.specs.Naming.{NamesBefore, NamesFile}
use Rattle.elf_loader.proofs.NamingLaws.{file-none, names-none}
use Rattle.elf_loader.proofs.TablesLaws.{none-before, one-before}
use Rattle.elf_loader.proofs.version_name_record.name_in_any.Goals as goal

pub returns-in-None-clause-did : goal.returns-in-None-clause-did
returns-in-None-clause-did g c =
    rw c.in-None.is
    (CallDid-as _ (omega arith) (CallDid-none c.args.src.now)
    (λ file read costs told others are.
    none-before file told others
    (λ (all : List VersionRecordRead). NamesBefore file c.args.src.now c.args.src.now (naming_of file c.args.number all) (naming_of file c.args.number others) (Ok None))
    (names-none file c.args.src.now (naming_of file c.args.number others) (CallReads-none c.args.src.now)) are))

pub returns-in-Some-clause-did : goal.returns-in-Some-clause-did
returns-in-Some-clause-did g c =
    rw c.in-Some.is
    (CallDid-as _ (omega arith) c.name_in_table.ensures.did
    (λ file read costs told others are.
    one-before file told others c.in-Some.records
    (λ (all : List VersionRecordRead). NamesBefore file c.args.src.now c.name_in_table.new.src (naming_of file c.args.number all) (naming_of file c.args.number others) c.name_in_table.result)
    (λ one is. read one others is) are))

pub returns-in-None-clause-file : goal.returns-in-None-clause-file
returns-in-None-clause-file g c =
    rw c.in-None.is
    (λ file held told others are.
    none-before file told others (λ (all : List VersionRecordRead). NamesFile file c.args.number all others c.args.file.now c.args.file.now (Ok None))
    (file-none file c.args.number others c.args.file.now) are)

pub returns-in-Some-clause-file : goal.returns-in-Some-clause-file
returns-in-Some-clause-file g c =
    rw c.in-Some.is
    (λ file held told others are.
    one-before file told others c.in-Some.records
    (λ (all : List VersionRecordRead). NamesFile file c.args.number all others c.args.file.now c.name_in_table.new.file c.name_in_table.result)
    (λ one is. c.name_in_table.ensures.file file held one others is) are)
