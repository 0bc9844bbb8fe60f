-- The offsets at which symbols and strings begin are those in the file.
use Rattle.std.proofs.Common.{◌≡◌, ◌∙◌, sym, arith}
use Rattle.elf_table.proofs.LedgerLaws.{CallDid-as}
use Rattle.elf_hash.proofs.SymbolCountLaws.{symbols_after}
use Rattle.elf_hash.proofs.symbols.DynamicSymbols.extent.Goals as goal

pub returns-clause-did : goal.returns-clause-did
returns-clause-did g c =
    CallDid-as _ (omega arith) c.symbol_extent.ensures.did
    (λ file told costs scope is are.
    told scope is (symbols_after file scope c.args.table.now c.args.self.now _ _ is are c.requires.count c.at.ensures c.at-2.ensures.value))
