-- A member's line follows those before it, and its listing after that.
use Rattle.std.proofs.Common.{rules, ◌≡◌, ℕ, ◌+◌, Ok, Err, None, refl, subst, ◌∙◌, arith}
use Rattle.std.proofs.lemmas.Result.{err_from_is_err_and}
use Rattle.elf_model.specs.Prelude.{Member, header_cost, member_cost, style_ceiling}
use Rattle.elf_source.proofs.GrowthLaws.{grows_not}
use Rattle.elf_source.proofs.PutsLaws.{SinkTakes-nothing}
use Rattle.elf_options.specs.Permitted.{style_of}
use Rattle.elf_listing.proofs.RowLaws.{WroteUntilStop-first}
use Rattle.elf_source.specs.Source.{ReadsUpTo}
use Rattle.elf_archive.specs.Prelude.{ReadsAtMostIn, member_of, step_cost}
use Rattle.elf_archive.proofs.ConsumeLaws.{ReadsAtMostIn-fault, ReadsAtMostIn-then, still_whole}
use Rattle.elf_archive.proofs.ListingLaws.{cost_of_data, header_first, member_allowed, step_allowed, unread_next}
use Rattle.elf_archive.proofs.listing.list_next.Goals as goal

pub advance-requires-clause-size : goal.advance-requires-clause-size
advance-requires-clause-size g c = c.requires.size

pub advance-requires-clause-is_at : goal.advance-requires-clause-is_at
advance-requires-clause-is_at g c = c.requires.is_at

pub returns-in_err-member : goal.returns-in_err-member
returns-in_err-member g c =
    let p = err_from_is_err_and c.from_residual.result c.from_residual.ensures.1 in
    let headers = c.args.store.now.slots in
    let style = style_of c.args.choice.style in
    let bytes : ℕ = step_cost c.args.src.now.seen.size style.cap c.args.cursor.now in
    let most = step_allowed c.args.src.now.seen.size headers style c.args.cursor.now in
    record {
      slots = refl;
      grows = grows_not _;
      is_at = rw p.1 tt;
      within = rw (p.1, p.2) (record {
        bytes = bytes;
        within = omega (arith, most);
        takes = ReadsAtMostIn-fault _ _ c.args.out.now _ bytes _ (omega arith) c.in_err-member.ensures.asks.0 c.in_err-member.ensures.asks.1;
      });
      cost = λ file held.
          let asks = c.in_err-member.ensures.cost file held in
          rw (p.1, p.2) (ReadsAtMostIn-fault _ _ c.args.out.now _ _ _ (header_first file headers style c.args.choice.parts.0 c.args.cursor.now _) asks.0 asks.1);
      text = λ file held.
          rw (p.1, p.2) (WroteUntilStop-first _ _ _
          (unread_next c.args.choice.alone file headers style c.args.choice.parts.0 c.args.cursor.now c.advance.new.self c.advance.new.name _ (c.in_err-member.ensures.tells file held)));
      steps = λ file held. rw p.1 tt;
    }

pub returns-in_default : goal.returns-in_default
returns-in_default g c =
    let headers = c.args.store.now.slots in
    let style = style_of c.args.choice.style in
    let most = step_allowed c.args.src.now.seen.size headers style c.args.cursor.now in
    let none : c.in_ok-member.field-0 ≡ None = search rules in
    record {
      slots = refl;
      grows = grows_not _;
      is_at = tt;
      within = record {
        bytes = step_cost c.args.src.now.seen.size style.cap c.args.cursor.now;
        within = omega (arith, most);
        takes = (c.in_ok-member.ensures.asks.0, tt);
      };
      cost = λ file held.
          let ends = rw none at (c.in_ok-member.ensures.tells file held) in
          rw ends ((c.in_ok-member.ensures.cost file held).0, tt);
      text = λ file held.
          let ends = rw none at (c.in_ok-member.ensures.tells file held) in
          rw ends (record { takes = SinkTakes-nothing _; no_fault = refl });
      steps = λ file held. rw none at (c.in_ok-member.ensures.tells file held);
    }

pub list_with_line-requires : goal.list_with_line-requires
list_with_line-requires g c =
    let passes = rw c.in-Some.is at c.in_ok-member.ensures.steps in
    let reads = c.in_ok-member.ensures.asks.0 in
    record {
      whole = still_whole _ _ _ c.requires.whole reads;
      size = rw reads.keeps.same_size c.requires.size;
      lies = rw reads.keeps.same_size passes.lies;
    }

pub returns-in_err-refused : goal.returns-in_err-refused
returns-in_err-refused g c =
    let p = err_from_is_err_and c.from_residual-in_err-refused.result c.from_residual-in_err-refused.ensures.1 in
    let did = c.in_err-refused.ensures in
    let size = c.args.src.now.seen.size in
    let headers = c.args.store.now.slots in
    let style = style_of c.args.choice.style in
    let passes = rw c.in-Some.is at c.in_ok-member.ensures.steps in
    let first : ℕ = step_cost size style.cap c.args.cursor.now in
    let second : ℕ = 4 + style_ceiling c.in-Some.member.extent.size headers style in
    let most = member_allowed size headers style c.in-Some.member.extent.size c.args.cursor.now c.advance.new.self
    (omega (arith, passes.begins, passes.lies)) (omega (arith, passes.begins, passes.ends)) in
    let m : Member = member_of c.in-Some.member c.advance.new.name in
    record {
      slots = did.slots;
      grows = did.grows;
      is_at = rw p.1 tt;
      within = rw (p.1, p.2) (record {
        bytes = first + second;
        within = omega (arith, most);
        takes = ReadsAtMostIn-then {X = Unit {0}} _ _ _ c.list_with_line.new.out (Err c.in_err-refused.field-0.0) first second _ (omega arith) c.in_ok-member.ensures.asks.0 did.ceiling;
      });
      cost = λ file held.
          let tells = rw c.in-Some.is at (c.in_ok-member.ensures.tells file held) in
          let now = c.in_ok-member.ensures.asks.0.keeps.same_file ∙ held in
          rw (p.1, p.2, tells.0) (ReadsAtMostIn-then {X = Unit {0}} _ _ _ c.list_with_line.new.out (Err c.in_err-refused.field-0.0) (header_cost file c.args.choice.style.cap.bytes c.args.cursor.now) (member_cost file headers style c.args.choice.parts.0 m) _ (omega arith)
          (c.in_ok-member.ensures.cost file held).0 (subst (λ (n : ℕ). ReadsAtMostIn {X = Unit {0}} c.advance.new.src c.list_with_line.new.src c.list_with_line.new.out (Err c.in_err-refused.field-0.0) n) (cost_of_data file headers style c.args.choice.parts.0 m) (did.cost file now)));
      text = λ file held.
          let tells = rw c.in-Some.is at (c.in_ok-member.ensures.tells file held) in
          let now = c.in_ok-member.ensures.asks.0.keeps.same_file ∙ held in
          let shown = did.shows file now in
          rw (p.1, p.2, tells.0) shown.0;
      steps = λ file held. rw p.1 tt;
    }

pub returns : goal.returns
returns g c =
    let did = c.in_ok-refused.ensures in
    let size = c.args.src.now.seen.size in
    let headers = c.args.store.now.slots in
    let style = style_of c.args.choice.style in
    let passes = rw c.in-Some.is at c.in_ok-member.ensures.steps in
    let first : ℕ = step_cost size style.cap c.args.cursor.now in
    let second : ℕ = 4 + style_ceiling c.in-Some.member.extent.size headers style in
    let most = member_allowed size headers style c.in-Some.member.extent.size c.args.cursor.now c.advance.new.self
    (omega (arith, passes.begins, passes.lies)) (omega (arith, passes.begins, passes.ends)) in
    let m : Member = member_of c.in-Some.member c.advance.new.name in
    record {
      slots = did.slots;
      grows = did.grows;
      is_at = (passes.is_at, omega (arith, passes.begins, passes.ends));
      within = record {
        bytes = first + second;
        within = omega (arith, most);
        takes = ReadsAtMostIn-then {X = Unit {0}} _ _ _ c.list_with_line.new.out (Ok tt) first second _ (omega arith) c.in_ok-member.ensures.asks.0 (did.ceiling.0, tt);
      };
      cost = λ file held.
          let tells = rw c.in-Some.is at (c.in_ok-member.ensures.tells file held) in
          let now = c.in_ok-member.ensures.asks.0.keeps.same_file ∙ held in
          rw (tells.0) (ReadsAtMostIn-then {X = Unit {0}} _ _ _ c.list_with_line.new.out (Ok tt) (header_cost file c.args.choice.style.cap.bytes c.args.cursor.now) (member_cost file headers style c.args.choice.parts.0 m) _ (omega arith)
          (c.in_ok-member.ensures.cost file held).0 (subst (λ (n : ℕ). ReadsUpTo c.advance.new.src c.list_with_line.new.src n) (cost_of_data file headers style c.args.choice.parts.0 m) (did.cost file now).0, tt));
      text = λ file held.
          let tells = rw c.in-Some.is at (c.in_ok-member.ensures.tells file held) in
          let now = c.in_ok-member.ensures.asks.0.keeps.same_file ∙ held in
          let shown = did.shows file now in
          rw (tells.0) shown.0;
      steps = λ file held.
          let tells = rw c.in-Some.is at (c.in_ok-member.ensures.tells file held) in
          let now = c.in_ok-member.ensures.asks.0.keeps.same_file ∙ held in
          let shown = did.shows file now in
          (m, tells.0, tells.1, shown.1);
    }
