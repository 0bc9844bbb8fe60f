-- By the type, if it stores a value.
use Rattle.std.proofs.Common.{ℕ, Option, sym, ap, subst, ◌∙◌, arith}
use Rattle.elf_model.specs.Prelude.{kind_of}
use Rattle.elf_table.proofs.LedgerLaws.{CallDid-as, CallDid-none}
use Rattle.elf_reloc.specs.Entries.{target_as}
use Rattle.elf_reloc.specs.Overflowed.{FindsValue}
use Rattle.elf_reloc.proofs.LackLaws.{type_is}
use Rattle.elf_reloc.proofs.OverflowLaws.{typed, untyped}
use Rattle.elf_reloc.proofs.overflow.unfit_value.Goals as goal

pub returns-in-Some : goal.returns-in-Some
returns-in-Some g c =
    CallDid-as _ (omega arith) c.value_of_type.ensures
    (λ file told costs header refers decoded.
    let known = ap kind_of (sym (type_is file c.args.at c.args.entry.now decoded c.kind.ensures)) ∙ (sym c.relocation_type.ensures.value ∙ c.in-Some.is) in
    subst (λ (value : Option ℕ). FindsValue value c.value_of_type.result) (sym (typed (target_as file c.args.target.now) header c.args.at c.in-Some.found known))
    (told header refers decoded))

pub returns-in-None : goal.returns-in-None
returns-in-None g c =
    CallDid-as _ (omega arith) (CallDid-none c.args.src.now)
    (λ file told costs header refers decoded.
    untyped (target_as file c.args.target.now) header c.args.at
    (ap kind_of (sym (type_is file c.args.at c.args.entry.now decoded c.kind.ensures)) ∙ (sym c.relocation_type.ensures.value ∙ c.in-None.is)))
