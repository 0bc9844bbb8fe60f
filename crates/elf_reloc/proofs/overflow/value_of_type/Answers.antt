-- B, then P, and so the value.
use Rattle.std.proofs.Common.{rules, ◌≡◌, ℕ, ℤ, ◌/◌, Option, None, Some, sym, ap, ◌∙◌}
use Rattle.elf_model.specs.Prelude.{place_there, value_by, value_outside, value_there}
use Rattle.elf_model.specs.declared.causes.Cause.TheVariants.{Unplaced}
use Rattle.elf_table.proofs.Absent.{none-of}
use Rattle.elf_reloc.specs.Entries.{target_as, value_or}
use Rattle.elf_reloc.specs.Types.{terms}
use Rattle.elf_reloc.proofs.OverflowLaws.{base_checked, base_found, place_found}
use Rattle.elf_reloc.proofs.overflow.value_of_type.Goals as goal

pub returns-in-Err : goal.returns-in-Err
returns-in-Err g c = record {
  costs = record { reads = c.in-Err.ensures.did.costs.reads; says = tt };
  known = λ file held header refers decoded.
      let target = target_as file c.args.target.now in
      let told = c.in-Err.ensures.did.known file held header refers (c.symbol.ensures ∙ ap (λ n. n / 4294967296) decoded.r_info) in
      let check = rw c.if-is_by_check.true at c.is_by_check.ensures in
      let none = base_checked target header c.args.at c.args.found c.in-Err.fault check told in
      ap (λ (b : Option ℕ). value_by file c.args.at c.args.found b (place_there target c.args.at c.args.found.formula)) none;
}

pub returns-in_default : goal.returns-in_default
returns-in_default g c = record {
  costs = record { reads = c.in-Ok.ensures.did.costs.reads; says = tt };
  known = λ file held header refers decoded.
      let target = target_as file c.args.target.now in
      let told = c.in-Ok.ensures.did.known file held header refers (c.symbol.ensures ∙ ap (λ n. n / 4294967296) decoded.r_info) in
      let base = base_found target header c.args.at c.args.found c.in-Ok.base told in
      let none = none-of c.place_value.result c.in_default.not-Some in
      let place = place_found target header c.args.at c.args.found.formula _ (c.place_value.ensures file c.args.at decoded.r_offset) in
      ap (λ (b : Option ℕ). value_by file c.args.at c.args.found b (place_there target c.args.at c.args.found.formula)) base
      ∙ ap (λ (p : Option ℕ). value_by file c.args.at c.args.found (Some c.in-Ok.base) p) (place ∙ ap (λ (o : Option ℕ). value_there (value_or o c.args.at Unplaced)) none);
}

pub returns : goal.returns
returns g c = record {
  costs = record { reads = c.in-Ok.ensures.did.costs.reads; says = tt };
  known = λ file held header refers decoded.
      let target = target_as file c.args.target.now in
      let told = c.in-Ok.ensures.did.known file held header refers (c.symbol.ensures ∙ ap (λ n. n / 4294967296) decoded.r_info) in
      let base = base_found target header c.args.at c.args.found c.in-Ok.base told in
      let place = place_found target header c.args.at c.args.found.formula _ (c.place_value.ensures file c.args.at decoded.r_offset) in
      let there = place ∙ ap (λ (o : Option ℕ). value_there (value_or o c.args.at Unplaced)) c.in-Some.is in
      let last : value_outside c.args.found (terms c.in-Ok.base c.args.entry.now.r_addend c.in-Some.place) ≡ c.value_outside.result = search rules in
      ap (λ (b : Option ℕ). value_by file c.args.at c.args.found b (place_there target c.args.at c.args.found.formula)) base
      ∙ (ap (λ (p : Option ℕ). value_by file c.args.at c.args.found (Some c.in-Ok.base) p) there
      ∙ (ap (λ (a : ℤ). value_outside c.args.found (terms c.in-Ok.base a c.in-Some.place)) (sym decoded.r_addend) ∙ last));
}
