use Rattle.std.proofs.Common.{rules, ◌+◌, ◌-◌, ◌*◌, ℕ, length, arith, ap, ◌∙◌, Err}
use Rattle.std.proofs.lemmas.Result.{err_from_is_err_and}
use Rattle.elf_model.specs.Prelude.{cost_with, e_shnum, entries_for, window_passes}
use Rattle.elf_source.proofs.GrowthLaws.{grows_not}
use Rattle.elf_source.proofs.ReadsLaws.{ReadsUpTo-none}
use Rattle.elf_reloc.specs.Prelude.{IsApplyTarget, passes_cost, walk_all, windows}
use Rattle.elf_reloc.specs.declared.entry.ApplyTarget.{ApplyTarget}
use Rattle.elf_reloc.proofs.ApplySteps.{before_request, request_failed}
use Rattle.elf_reloc.proofs.BudgetSteps.{all_says_after, all_wants, all_wants_after, check_applies, check_wants, order_wants, spends_reads, spends_to}
use Rattle.elf_reloc.proofs.CostSteps.{loaded_early, cost_loaded, cost_stands, windows_same, order_within, walk_most, passes_below}
use Rattle.elf_model.proofs.Slices.{slice-size}
use Rattle.elf_reloc.proofs.apply_section.apply_loaded.Goals as goal

pub returns-in_err-found : goal.returns-in_err-found
returns-in_err-found g c =
    let p = err_from_is_err_and c.from_residual.result c.from_residual.ensures.1 in
    record {
      says =
          rw (p.1, p.2) (check_applies c.args.src.now c.args.src.now c.args.out.now _ c.in_err-found.field-0.0 c.in_err-found.ensures.refusal);
      reads = spends_reads _ (ReadsUpTo-none c.args.src.now 0) (omega arith);
      cost = λ file held passed.
          let belongs = c.requires.opened.belongs file held in
          let early = loaded_early file c.args.store.now.slots passed belongs.passes in
          let within = order_within file c.args.store.now.slots c.args.section c.args.layout.now (64 + 64 * e_shnum file) (λ never. cost_loaded file c.args.store.now.slots c.args.section c.args.layout.now 2 early)
          (cost_loaded file c.args.store.now.slots c.args.section c.args.layout.now (window_passes file c.args.section) early) in
          omega (arith, within);
      enough = λ file held passed.
          rw (p.1, p.2) (check_wants c.args.src.now _ c.in_err-found.field-0.0 c.in_err-found.ensures.refusal);
      grows = grows_not _;
      wrote = search rules;
      text = λ file held passed.
          let belongs = c.requires.opened.belongs file held in
          request_failed file c.args.store.now.slots c.args.section c.args.layout.now _ c.args.out.now c.in_err-found.field-0.0 _ (p.1 ∙ ap Err p.2) passed belongs.passes (c.in_err-found.ensures.held file belongs);
    }

pub returns : goal.returns
returns g c =
    let now : ApplyTarget = record { file = record { loaded = c.args.loaded; store = c.args.store; whole = c.file-1.given.0 }; layout = c.args.layout; section = c.args.section; size = c.in_ok-found.found.1 } in
    record {
      says =
          let most = passes_below (walk_all now) _ c.in_ok-found.found.1 c.args.src.now.seen.size c.args.src.now.asked _
          (walk_most now c.args.store.now.slots c.args.src.now.seen.size c.requires.few c.requires.opened.size) (omega (arith, c.in_ok-found.ensures.within, c.requires.opened.size)) (omega arith) in
          all_says_after c.apply_target.result c.apply_target.new.src c.apply_target.new.out (passes_cost now (1 + windows c.in_ok-found.found.1)) _ (ReadsUpTo-none c.args.src.now 0) most c.apply_target.ensures.says;
      reads =
          spends_to _ c.apply_target.ensures.reads
          (passes_below (walk_all now) _ c.in_ok-found.found.1 c.args.src.now.seen.size _ _
          (walk_most now c.args.store.now.slots c.args.src.now.seen.size c.requires.few c.requires.opened.size) (omega (arith, c.in_ok-found.ensures.within, c.requires.opened.size)) c.apply_target.ensures.reads.at_most);
      cost = λ file held passed.
          let belongs = c.requires.opened.belongs file held in
          let found = c.in_ok-found.ensures.held file belongs in
          let long = slice-size file c.in_ok-found.found.0 c.in_ok-found.found.1 (omega (arith, c.in_ok-found.ensures.within, belongs.size)) in
          let is_at : IsApplyTarget file c.args.store.now.slots now c.in_ok-found.found.0 =
          record { passed = before_request file c.args.store.now.slots c.args.section c.args.layout.now (length (entries_for file c.args.section)) passed belongs.passes ∙ found.0; bytes = found.1 } in
          let early = loaded_early file c.args.store.now.slots passed belongs.passes in
          let before : ℕ = c.args.src.now.asked in
          let all = cost_stands file c.args.store.now.slots now c.in_ok-found.found.0 (1 + windows c.in_ok-found.found.1) belongs early long is_at in
          let twice = cost_stands file c.args.store.now.slots now c.in_ok-found.found.0 2 belongs early long is_at in
          let same = ap (cost_with file c.args.store.now.slots c.args.section c.args.layout.now) (windows_same file c.args.store.now.slots now c.in_ok-found.found.0 long is_at) in
          let within = order_within file c.args.store.now.slots c.args.section c.args.layout.now (64 + 64 * e_shnum file + c.apply_target.new.src.asked - before)
          (λ never. let once = c.apply_target.ensures.once file held c.args.store.now.slots is_at never in omega (arith, twice, once.0))
          (omega (arith, all, same, c.apply_target.ensures.reads.at_most)) in
          omega (arith, within, c.apply_target.ensures.reads.grows);
      enough = λ file held passed.
          let belongs = c.requires.opened.belongs file held in
          let found = c.in_ok-found.ensures.held file belongs in
          let long = slice-size file c.in_ok-found.found.0 c.in_ok-found.found.1 (omega (arith, c.in_ok-found.ensures.within, belongs.size)) in
          let is_at : IsApplyTarget file c.args.store.now.slots now c.in_ok-found.found.0 =
          record { passed = before_request file c.args.store.now.slots c.args.section c.args.layout.now (length (entries_for file c.args.section)) passed belongs.passes ∙ found.0; bytes = found.1 } in
          let early = loaded_early file c.args.store.now.slots passed belongs.passes in
          let all = cost_stands file c.args.store.now.slots now c.in_ok-found.found.0 (1 + windows c.in_ok-found.found.1) belongs early long is_at in
          let twice = cost_stands file c.args.store.now.slots now c.in_ok-found.found.0 2 belongs early long is_at in
          let same = ap (cost_with file c.args.store.now.slots c.args.section c.args.layout.now) (windows_same file c.args.store.now.slots now c.in_ok-found.found.0 long is_at) in
          order_wants c.apply_target.result c.args.src.now file c.args.store.now.slots c.args.section c.args.layout.now (64 + 64 * e_shnum file)
          (λ never.
          let once = c.apply_target.ensures.once file held c.args.store.now.slots is_at never in
          all_wants_after c.apply_target.result (passes_cost now 2) _ (ReadsUpTo-none c.args.src.now 0) (omega (arith, twice)) once.1)
          (all_wants_after c.apply_target.result (passes_cost now (1 + windows c.in_ok-found.found.1)) _ (ReadsUpTo-none c.args.src.now 0) (omega (arith, all, same))
          (all_wants c.apply_target.result c.args.src.now c.apply_target.new.src c.apply_target.new.out _ c.apply_target.ensures.says));
      grows = search rules;
      wrote = search rules;
      text = λ file held passed.
          let belongs = c.requires.opened.belongs file held in
          let found = c.in_ok-found.ensures.held file belongs in
          let is_at : IsApplyTarget file c.args.store.now.slots now c.in_ok-found.found.0 =
          record { passed = before_request file c.args.store.now.slots c.args.section c.args.layout.now (length (entries_for file c.args.section)) passed belongs.passes ∙ found.0; bytes = found.1 } in
          c.apply_target.ensures.text file held c.args.store.now.slots is_at;
    }
