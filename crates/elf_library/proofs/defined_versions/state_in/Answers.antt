-- No definitions, a refusal of them, or they are searched.
use Rattle.std.proofs.Common.{◌+◌, Ok, length, ap, sym, ◌∙◌, arith, mul-le-mul_right}
use Rattle.elf_model.specs.Prelude.{pad64, state_by_records}
use Rattle.elf_table.proofs.Absent.{none-of}
use Rattle.elf_table.proofs.LedgerLaws.{CallDid-as, CallDid-none}
use Rattle.elf_library.specs.NeedWalks.{needed_of}
use Rattle.elf_library.proofs.DefinedLaws.{by_fault, lies_in, state_defined, state_none, state_refused}
use Rattle.elf_library.proofs.KeptLaws.{did_anyway}
use Rattle.elf_library.proofs.NeedLaws.{max_need_records}
use Rattle.elf_library.proofs.defined_versions.state_in.Goals as goal

pub returns-in_default : goal.returns-in_default
returns-in_default g c = record {
  did = CallDid-as _ (omega arith) (CallDid-none c.args.src.now)
      (λ file told costs are.
      ap Ok (state_none file (needed_of c.args.needed.now) c.args.versions.now are c.in-Ok.found c.in-Ok.is (none-of c.in-Ok.found c.in_default.not-Some) ∙ sym c.state_without.ensures));
}

pub returns-in-Err : goal.returns-in-Err
returns-in-Err g c = record {
  did = CallDid-as _ (omega arith) (CallDid-none c.args.src.now)
      (λ file told costs are. ap Ok (state_refused file (needed_of c.args.needed.now) c.args.versions.now are c.in-Err.field-0 c.in-Err.is));
}

pub returns-in-Ok-defines : goal.returns-in-Ok-defines
returns-in-Ok-defines g c =
    let records = c.in-Some.records in
    let lies = lies_in c.args.src.now.seen.size c.args.versions.now c.in-Ok.found records c.requires.lies c.in-Ok.is c.in-Some.is in
    let name = c.bytes.ensures.value in
    let few = mul-le-mul_right (28 + pad64 (length c.args.needed.now.name + 1)) (max_need_records records c.args.src.now.seen.size lies) in
    record {
      did = CallDid-as _ (rw name few) c.in-Ok-defines.ensures.did
          (λ file told costs are.
          let needed = needed_of c.args.needed.now in
          let d = state_defined file needed c.args.versions.now are c.in-Ok.found records c.in-Ok.is c.in-Some.is in
          let defined = rw name at (told d.table d.is d.kind) in
          ap Ok (d.state ∙ ap (state_by_records needed.weak) defined ∙ sym c.state_by.ensures));
    }

pub returns-in-Err-2 : goal.returns-in-Err-2
returns-in-Err-2 g c =
    let records = c.in-Some.records in
    let lies = lies_in c.args.src.now.seen.size c.args.versions.now c.in-Ok.found records c.requires.lies c.in-Ok.is c.in-Some.is in
    let name = c.bytes.ensures.value in
    let few = mul-le-mul_right (28 + pad64 (length c.args.needed.now.name + 1)) (max_need_records records c.args.src.now.seen.size lies) in
    record {
      did = CallDid-as _ (rw name few) (did_anyway c.in-Err-defines.ensures.did)
          (λ file told costs are.
          let needed = needed_of c.args.needed.now in
          let d = state_defined file needed c.args.versions.now are c.in-Ok.found records c.in-Ok.is c.in-Some.is in
          let refuses = rw name at (told d.table d.is d.kind) in
          ap Ok (d.state ∙ by_fault needed.weak _ c.in-Err-defines.fault (rw c.if-is_reported_alone.false at c.is_reported_alone.ensures) refuses));
    }
