use Rattle.std.proofs.Common.{rules, ℕ, ◌≡◌, ◌+◌, ◌*◌, refl, ap, ◌∙◌, subst, arith}
use Rattle.std.specs.Prelude.{IfOk}
use Rattle.std.proofs.lemmas.Result.{err_from_is_err_and}
use Rattle.elf_model.specs.Records.{section_at, sh_offset}
use Rattle.elf_reloc.proofs.Opened.{gave, given_row}
use Rattle.elf_reloc.specs.Prelude.{IsWalkAlive, StepGives, WentOn, beside_entry_cost}
use Rattle.elf_reloc.specs.declared.walk.RelocationWalk.{RelocationWalk}
use Rattle.elf_reloc.specs.declared.walk.WalkStep.{WalkStep}
use Rattle.elf_reloc.proofs.ReadLaws.{check_says, IsReadFault-more, IsReadFault-then}
use Rattle.elf_reloc.proofs.WalkSteps.{unread-left, cost-row, row-asks, row-goes, goes-same, steps-row, fault-asks, end-asks, row-stores, row-nothing, row-fails, reads-row, same-walked}
use Rattle.elf_reloc.proofs.walk.RelocationWalk.step.Goals as goal

pub entry_change-requires : goal.entry_change-requires
entry_change-requires g c = record { within = rw c.in_ok-advance.ensures.reads.keeps.same_size c.requires.goes.linked }

pub open-requires-clause-goes : goal.open-requires-clause-goes
open-requires-clause-goes g c =
    let ends = rw c.if-not-branch.true at c.in_ok-advance.ensures.steps in
    goes-same _ _ c.args.target.now c.args.self.now c.advance.new.self c.requires.opened.size ends.unchanged c.requires.goes

pub returns-in-Some : goal.returns-in-Some
returns-in-Some g c =
    let gives = gave _ _ _ _ c.if-not-branch.false c.in_ok-advance.ensures.steps in
    let did = c.in_ok-placed.ensures.did in
    record {
      asks = row-asks c.args.target.now c.args.self.now _ _ _ _ refl gives.not_failed gives.still_not_failed gives.one_less c.in_ok-advance.ensures.reads c.in_ok-advance.ensures.account did.costs.reads;
      says = tt;
      went = record {
        goes = row-goes _ c.args.target.now _ c.args.self.now _ gives refl refl did.same c.requires.goes;
        counts = refl;
        gives = (steps-row c.args.target.now c.args.self.now _ refl gives.one_less, rw c.in-Some.is at c.in_ok-placed.ensures.inside);
      };
      known = λ file held reads.
          let row = given_row _ _ _ c.row-row.result file c.args.self.now.cursor.table 24 (sh_offset file (section_at file c.args.self.now.current)) gives c.row-row.ensures held reads.agrees refl c.requires.goes.entry (reads.placed (omega (arith, gives.one_less))) in
          let place : c.row-row.result.at ≡ sh_offset file (section_at file c.args.self.now.current) + c.args.self.now.cursor.index * 24 = row.here ∙ ap (λ n. sh_offset file (section_at file c.args.self.now.current) + n * 24) row.index in
          let later = c.in_ok-advance.ensures.reads.keeps.same_file ∙ held in
          let links = reads.links (omega (arith, gives.one_less)) in
          let is_at = c.decode-entry.ensures.is_at file c.row-row.result.at (c.whole.ensures ∙ row.bytes) in
          let change = did.known file (section_at file c.args.self.now.current) later links is_at in (
            row-stores file c.args.target.now c.args.self.now _ c.row-row.result.at refl refl gives.next_index gives.one_less place c.in-Some.placed (rw c.in-Some.is at change),
            reads-row file c.args.target.now _ c.args.self.now _ gives held refl reads (did.refers file (section_at file c.args.self.now.current) later links is_at),
          );
    }

pub returns-in-None : goal.returns-in-None
returns-in-None g c =
    let gives = gave _ _ _ _ c.if-not-branch.false c.in_ok-advance.ensures.steps in
    let did = c.in_ok-placed.ensures.did in
    record {
      asks = row-asks c.args.target.now c.args.self.now _ _ _ _ refl gives.not_failed gives.still_not_failed gives.one_less c.in_ok-advance.ensures.reads c.in_ok-advance.ensures.account did.costs.reads;
      says = tt;
      went = record {
        goes = row-goes _ c.args.target.now _ c.args.self.now _ gives refl refl did.same c.requires.goes;
        counts = refl;
        gives = steps-row c.args.target.now c.args.self.now _ refl gives.one_less;
      };
      known = λ file held reads.
          let row = given_row _ _ _ c.row-row.result file c.args.self.now.cursor.table 24 (sh_offset file (section_at file c.args.self.now.current)) gives c.row-row.ensures held reads.agrees refl c.requires.goes.entry (reads.placed (omega (arith, gives.one_less))) in
          let place : c.row-row.result.at ≡ sh_offset file (section_at file c.args.self.now.current) + c.args.self.now.cursor.index * 24 = row.here ∙ ap (λ n. sh_offset file (section_at file c.args.self.now.current) + n * 24) row.index in
          let later = c.in_ok-advance.ensures.reads.keeps.same_file ∙ held in
          let links = reads.links (omega (arith, gives.one_less)) in
          let is_at = c.decode-entry.ensures.is_at file c.row-row.result.at (c.whole.ensures ∙ row.bytes) in
          let change = did.known file (section_at file c.args.self.now.current) later links is_at in (
            row-nothing file c.args.target.now c.args.self.now _ c.row-row.result.at refl refl gives.next_index gives.one_less place (rw c.in-None.is at change),
            reads-row file c.args.target.now _ c.args.self.now _ gives held refl reads (did.refers file (section_at file c.args.self.now.current) later links is_at),
          );
    }

pub returns-in_err-placed : goal.returns-in_err-placed
returns-in_err-placed g c =
    let p = err_from_is_err_and c.from_residual-in_err-placed.result c.from_residual-in_err-placed.ensures.1 in
    let gives = gave _ _ _ _ c.if-not-branch.false c.in_ok-advance.ensures.steps in
    let did = c.in_err-placed.ensures.did in
    let now : RelocationWalk = record { cursor = c.advance.new.self; symbols = c.entry_change.new.symbols; current = c.args.self.now.current; next = c.args.self.now.next; count = c.args.self.now.count } in
    rw (p.1, p.2)
    (record {
      asks = row-asks c.args.target.now c.args.self.now _ _ _ _ refl gives.not_failed gives.still_not_failed gives.one_less c.in_ok-advance.ensures.reads c.in_ok-advance.ensures.account did.costs.reads;
      says =
          let own : ℕ = beside_entry_cost c.args.target.now in
          let cost = cost-row c.args.target.now c.args.self.now now _ _ (c.advance.new.src.asked + own) refl gives.not_failed gives.still_not_failed gives.one_less c.in_ok-advance.ensures.account (omega arith) in
          IsReadFault-then c.args.src.now c.advance.new.src c.entry_change.new.src _ own _ _ c.in_ok-advance.ensures.reads (omega (arith, cost)) did.costs.says;
      went = tt;
      known = λ file held reads.
          let row = given_row _ _ _ c.row-row.result file c.args.self.now.cursor.table 24 (sh_offset file (section_at file c.args.self.now.current)) gives c.row-row.ensures held reads.agrees refl c.requires.goes.entry (reads.placed (omega (arith, gives.one_less))) in
          let place : c.row-row.result.at ≡ sh_offset file (section_at file c.args.self.now.current) + c.args.self.now.cursor.index * 24 = row.here ∙ ap (λ n. sh_offset file (section_at file c.args.self.now.current) + n * 24) row.index in
          let change = did.known file (section_at file c.args.self.now.current) (c.in_ok-advance.ensures.reads.keeps.same_file ∙ held) (reads.links (omega (arith, gives.one_less))) (c.decode-entry.ensures.is_at file c.row-row.result.at (c.whole.ensures ∙ row.bytes)) in
          row-fails file c.args.target.now c.args.self.now now c.row-row.result.at refl refl gives.next_index gives.one_less place _ now change;
    })

pub returns-then-not-branch : goal.returns-then-not-branch
returns-then-not-branch g c =
    let ends = rw c.if-not-branch.true at c.in_ok-advance.ensures.steps in
    record {
      asks = end-asks c.args.target.now c.args.self.now _ _ _ c.advance.new.self ends.unchanged c.open.ensures.left c.in_ok-advance.ensures.reads c.in_ok-advance.ensures.account;
      says = check_says c.args.src.now c.advance.new.src _ c.open.result c.open.ensures.refusal;
      went =
          let P : ℕ → Type 0 = λ size. IfOk c.open.result (WentOn size c.args.target.now c.args.self.now c.open.new.self (StepGives c.args.target.now c.args.self.now c.open.new.self)) in
          subst P c.requires.opened.size (rw ends.unchanged at c.open.ensures.went);
      known = λ file held reads.
          same-walked file c.args.target.now c.args.self.now c.open.new.self c.advance.new.self c.open.result ends.unchanged (c.open.ensures.walked file (c.requires.opened.belongs file held)) reads;
    }

pub returns-in_err-advance : goal.returns-in_err-advance
returns-in_err-advance g c =
    let p = err_from_is_err_and c.from_residual.result c.from_residual.ensures.1 in
    let e = c.in_err-advance.ensures in
    rw (p.1, p.2)
    (record {
      asks = fault-asks c.args.target.now c.args.self.now _ _ _ _ refl e.steps.failed e.reads e.account;
      says = IsReadFault-more c.args.src.now c.advance.new.src _ _ _ (unread-left c.args.target.now c.args.self.now) (e.says c.requires.goes.not_failed);
      went = tt;
      known = λ file held reads. search rules;
    })
