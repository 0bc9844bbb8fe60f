use Rattle.std.proofs.Common.{rules, ◌+◌, ◌-◌, ◌*◌, ◌≤◌, ℕ, arith, sym, ap, ap₂, ◌∙◌, Err}
use Rattle.std.proofs.lemmas.Result.{err_from_is_err_and}
use Rattle.elf_model.specs.Prelude.{apply_cost_by_order, e_shnum, window_passes}
use Rattle.elf_source.proofs.GrowthLaws.{grows_not}
use Rattle.elf_source.proofs.ReadsLaws.{ReadsUpTo-then}
use Rattle.elf_table.specs.Load.{load_cost}
use Rattle.elf_reloc.specs.Applied.{apply_ceiling, after_ceiling}
use Rattle.elf_reloc.proofs.ApplySteps.{header_failed, load_failed}
use Rattle.elf_reloc.proofs.BudgetSteps.{all_says_after, all_wants_after, fault_applies, fault_wants, spends_reads, spends_then}
use Rattle.elf_reloc.proofs.CostSteps.{cost_least, load_within, order_within}
use Rattle.elf_reloc.proofs.ReadLaws.{IsReadFault-then}
use Rattle.elf_table.proofs.LoadLaws.{load_most, load_slots, header_most}
use Rattle.elf_reloc.proofs.apply_section.apply_within.Goals as goal

pub returns-in_err-header-clause-applies : goal.returns-in_err-header-clause-applies
returns-in_err-header-clause-applies g c =
    let p = err_from_is_err_and c.from_residual.result c.from_residual.ensures.1 in
    let most = header_most c.args.src.now.seen.size in
    record {
      says =
          rw (p.1, p.2) (fault_applies c.args.src.now c.header.new.src c.args.out.now _ _ c.in_err-header.field-0.0 (omega (arith, most)) c.in_err-header.ensures.says);
      text = λ file held.
          header_failed file c.args.store.now.slots c.args.section c.args.layout.now _ c.args.out.now c.in_err-header.field-0.0 _ (p.1 ∙ ap Err p.2) (c.in_err-header.ensures.read file held);
      enough = λ file held.
          let within = order_within file c.args.store.now.slots c.args.section c.args.layout.now 64 (λ never. cost_least file c.args.store.now.slots c.args.section c.args.layout.now 2)
          (cost_least file c.args.store.now.slots c.args.section c.args.layout.now (window_passes file c.args.section)) in
          rw (p.1, p.2) (fault_wants c.args.src.now c.header.new.src _ _ c.args.out.now c.in_err-header.field-0.0 (omega (arith, within, most)) c.in_err-header.ensures.says);
      cost = λ file held.
          let within = order_within file c.args.store.now.slots c.args.section c.args.layout.now 64 (λ never. cost_least file c.args.store.now.slots c.args.section c.args.layout.now 2)
          (cost_least file c.args.store.now.slots c.args.section c.args.layout.now (window_passes file c.args.section)) in
          omega (arith, within, most, c.header.ensures.reads.at_most);
      reads = spends_reads _ c.header.ensures.reads (omega (arith, most, c.header.ensures.reads.at_most));
      grows = grows_not _;
      wrote = search rules;
    }

pub returns-in_err-loaded-clause-applies : goal.returns-in_err-loaded-clause-applies
returns-in_err-loaded-clause-applies g c =
    let p = err_from_is_err_and c.from_residual-in_err-loaded.result c.from_residual-in_err-loaded.ensures.1 in
    let size : ℕ = c.header.new.src.seen.size in
    let slots : ℕ = c.args.store.now.slots in
    let loads : ℕ = load_cost c.in_ok-header.header size slots in
    let most = header_most c.args.src.now.seen.size in
    let few = load_slots c.in_ok-header.header size slots in
    let before : c.header.new.src.asked + loads ≤ c.args.src.now.asked + (64 + loads) = omega (arith, most, c.header.ensures.reads.at_most) in
    let later = IsReadFault-then c.args.src.now c.header.new.src c.load.new.src _ loads (64 + loads) c.in_err-loaded.field-0.0 c.header.ensures.reads before c.in_err-loaded.ensures.says in
    record {
      says =
          rw (p.1, p.2) (fault_applies c.args.src.now c.load.new.src c.args.out.now (64 + loads) _ c.in_err-loaded.field-0.0 (omega (arith, few)) later);
      text = λ file held.
          let read = c.in_ok-header.ensures.read file held in
          load_failed file slots c.args.section c.args.layout.now _ c.args.out.now c.in_err-loaded.field-0.0 _ c.load.new.store (p.1 ∙ ap Err p.2) read.0 c.load.ensures.slots
          (c.in_err-loaded.ensures.held file (c.header.ensures.reads.keeps.same_file ∙ held) read.1);
      enough = λ file held.
          let read = c.in_ok-header.ensures.read file held in
          let sized = c.header.ensures.reads.keeps.same_size ∙ sym (c.args.src.now.seen.sized file held) in
          let within = order_within file slots c.args.section c.args.layout.now (64 + loads) (λ never. load_within file c.in_ok-header.header size slots c.args.section c.args.layout.now 2 read.1 sized read.0)
          (load_within file c.in_ok-header.header size slots c.args.section c.args.layout.now (window_passes file c.args.section) read.1 sized read.0) in
          rw (p.1, p.2) (fault_wants c.args.src.now c.load.new.src (64 + loads) _ c.args.out.now c.in_err-loaded.field-0.0 within later);
      cost = λ file held.
          let read = c.in_ok-header.ensures.read file held in
          let sized = c.header.ensures.reads.keeps.same_size ∙ sym (c.args.src.now.seen.sized file held) in
          let within = order_within file slots c.args.section c.args.layout.now (64 + loads) (λ never. load_within file c.in_ok-header.header size slots c.args.section c.args.layout.now 2 read.1 sized read.0)
          (load_within file c.in_ok-header.header size slots c.args.section c.args.layout.now (window_passes file c.args.section) read.1 sized read.0) in
          omega (arith, within, before, c.load.ensures.reads.at_most);
      reads = spends_reads _ (ReadsUpTo-then c.header.ensures.reads c.load.ensures.reads) (omega (arith, before, few, c.load.ensures.reads.at_most));
      grows = grows_not _;
      wrote = search rules;
    }

pub returns-clause-applies : goal.returns-clause-applies
returns-clause-applies g c =
    let size : ℕ = c.header.new.src.seen.size in
    let slots : ℕ = c.args.store.now.slots in
    let before = ReadsUpTo-then c.header.ensures.reads c.load.ensures.reads in
    let most = header_most c.args.src.now.seen.size in
    let few = load_slots c.in_ok-header.header size slots in
    let bound : ℕ = after_ceiling c.load.new.src.seen.size c.load.new.store.slots c.args.layout.now in
    let same = ap₂ (λ long n. after_ceiling long n c.args.layout.now) before.keeps.same_size c.load.ensures.slots in
    let all : c.load.new.src.asked + bound ≤ c.args.src.now.asked + apply_ceiling c.args.src.now.seen.size slots c.args.layout.now = omega (arith, same, most, few, c.header.ensures.reads.at_most, c.load.ensures.reads.at_most) in
    record {
      says = all_says_after c.apply_loaded.result c.apply_loaded.new.src c.apply_loaded.new.out bound _ before all c.apply_loaded.ensures.says;
      text = search rules;
      enough = λ file held.
          let read = c.in_ok-header.ensures.read file held in
          let cost = c.apply_loaded.ensures.cost file (before.keeps.same_file ∙ held) read.0 in
          let same_cost = ap (λ n. apply_cost_by_order file n c.args.section c.args.layout.now) c.load.ensures.slots in
          let headers = load_most c.in_ok-header.header size slots in
          all_wants_after c.apply_loaded.result (apply_cost_by_order file c.load.new.store.slots c.args.section c.args.layout.now - (64 + 64 * e_shnum file)) _ before
          (omega (arith, cost, same_cost, most, headers, read.1.e_shnum, c.apply_loaded.ensures.reads.grows, c.header.ensures.reads.at_most, c.load.ensures.reads.at_most))
          (c.apply_loaded.ensures.enough file (before.keeps.same_file ∙ held) read.0);
      cost = λ file held.
          let read = c.in_ok-header.ensures.read file held in
          let cost = c.apply_loaded.ensures.cost file (before.keeps.same_file ∙ held) read.0 in
          let same_cost = ap (λ n. apply_cost_by_order file n c.args.section c.args.layout.now) c.load.ensures.slots in
          let headers = load_most c.in_ok-header.header size slots in
          omega (arith, cost, same_cost, most, headers, read.1.e_shnum, c.header.ensures.reads.at_most, c.load.ensures.reads.at_most);
      reads = spends_then _ before c.apply_loaded.ensures.reads (omega (arith, all, c.apply_loaded.ensures.reads.at_most));
      grows = search rules;
      wrote = search rules;
    }
