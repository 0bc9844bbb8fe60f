-- The hash is another, or the name is compared.
use Rattle.std.proofs.Common.{arith}
use Rattle.elf_table.proofs.LedgerLaws.{CallDid-as, CallDid-none, CallDid-of}
use Rattle.elf_table.specs.Prelude.{strings_in}
use Rattle.elf_library.proofs.DefinedLaws.{hash_differs, name_compares, says_if}
use Rattle.elf_library.proofs.defined_versions.is_version.Goals as goal

pub returns-then-given-hash : goal.returns-then-given-hash
returns-then-given-hash g c = record {
  did = CallDid-as _ (omega arith) (CallDid-none c.args.src.now)
      (λ file told costs met others is kind. hash_differs file c.args.version.now c.args.hash (strings_in file c.args.names.now) met others c.args.given.now is kind c.if-given-hash.true);
}

pub returns : goal.returns
returns g c =
    let off = c.from.ensures in
    record {
      did = CallDid-as _ (omega arith) (CallDid-of c.equals.ensures.reads (says_if _ c.equals.result c.equals.ensures.says) c.equals.ensures.compared)
          (λ file told costs met others is kind.
          name_compares file c.args.version.now c.args.hash (strings_in file c.args.names.now) met others c.args.given.now is kind c.if-given-hash.false c.equals.result (rw off at told));
    }
