-- Each step visits the next member after those before it.
use Rattle.std.proofs.Common.{rules, ◌≡◌, ℕ, ◌+◌, length, None, Ok, Err, refl, sym, ◌∙◌, subst, arith}
use Rattle.std.proofs.lemmas.Result.{err_from_is_err_and}
use Rattle.elf_model.specs.Prelude.{Member, before_members, header_cost, member_cost, next_member, style_ceiling}
use Rattle.elf_source.proofs.GrowthLaws.{grows_not, grows_then}
use Rattle.elf_source.proofs.ReadsLaws.{ReadsUpTo-none, ReadsUpTo-then, ReadsUpTo-to}
use Rattle.elf_source.specs.Source.{ReadsUpTo}
use Rattle.elf_table.specs.Prelude.{stop_of}
use Rattle.elf_table.specs.declared.run_fault.RunFault.TheVariants.{Refused}
use Rattle.elf_options.specs.Permitted.{style_of}
use Rattle.elf_archive.specs.Prelude.{IsMemberWalkInBounds, ReadsAtMostIn, member_of, step_cost}
use Rattle.elf_archive.proofs.ConsumeLaws.{ReadsAtMostIn-fault, ReadsAtMostIn-then, still_whole}
use Rattle.elf_archive.proofs.FaultLaws.{check_begins, check_ends, check_more, fault_of_member, fault_takes, sound_member, step_cost_left, stop_of_member, walk_fault}
use Rattle.elf_archive.proofs.ListingLaws.{cost_of_data, header_first, member_allowed, step_allowed, step_ends, step_within}
use Rattle.elf_archive.proofs.first_fault.find_in_members.Goals as goal

pub members-init : goal.members-init
members-init g c = rw c.new-cursor.ensures (record {
  is_at = record { within = omega (arith, c.requires.size.0); passed = omega arith; names = tt };
  slots = refl;
  grows = grows_not _;
  bytes = 0;
  within = omega arith;
  reads = ReadsUpTo-none _ 0;
  walks = λ file held. check_begins file c.args.store.now.slots (style_of c.args.style) c.args.parts.0 (length file) before_members _ (omega arith);
})

pub advance-requires-clause-size : goal.advance-requires-clause-size
advance-requires-clause-size g c = rw c.members.invariant.reads.keeps.same_size c.requires.size.1

pub advance-requires-clause-is_at : goal.advance-requires-clause-is_at
advance-requires-clause-is_at g c = subst (λ (n : ℕ). IsMemberWalkInBounds n c.members.cursor) (sym c.members.invariant.reads.keeps.same_size) c.members.invariant.is_at

pub returns-in_err-member : goal.returns-in_err-member
returns-in_err-member g c =
    let p = err_from_is_err_and c.from_residual.result c.from_residual.ensures.1 in
    let known = c.members.invariant in
    let headers = c.args.store.now.slots in
    let style = style_of c.args.style in
    let parts = c.args.parts.0 in
    let bytes : ℕ = step_cost c.members.src.seen.size style.cap c.members.cursor in
    let most = step_allowed c.members.src.seen.size c.members.store.slots style c.members.cursor in
    let within = step_ends c.args.src.now.seen.size c.members.src.seen.size headers c.members.store.slots style known.bytes bytes _ c.members.cursor known.reads.keeps.same_size known.slots known.within (omega (arith, most)) in
    record {
      slots = known.slots;
      grows = known.grows;
      ceiling = rw (p.1, p.2) (ReadsAtMostIn-then {X = Unit {0}} _ _ _ c.members.out (Err (stop_of c.in_err-member.field-0.0)) known.bytes bytes _ within known.reads
          (ReadsAtMostIn-fault _ _ c.members.out _ bytes _ (omega arith) c.in_err-member.ensures.asks.0 c.in_err-member.ensures.asks.1));
      cost = λ file held.
          let now = known.reads.keeps.same_file ∙ held in
          let walks = known.walks file held in
          let asks = c.in_err-member.ensures.cost file now in
          let least = header_first file headers style parts c.members.cursor (next_member file style.cap c.members.cursor) in
          let most = step_cost_left file headers style parts (length file) before_members c.members.cursor _ _ walks in
          rw (p.1, p.2) (ReadsAtMostIn-then {X = Unit {0}} _ _ _ c.members.out (Err (stop_of c.in_err-member.field-0.0)) walks.spent (header_cost file style.cap c.members.cursor) _ (omega (arith, least, most)) walks.reads
          (ReadsAtMostIn-fault _ _ c.members.out _ (header_cost file style.cap c.members.cursor) _ (omega arith) asks.0 asks.1));
      shows = λ file held.
          let now = known.reads.keeps.same_file ∙ held in
          rw (p.1, p.2) (walk_fault file headers style parts (length file) before_members c.members.cursor c.advance.new.self _ _ c.advance.new.name _ (known.walks file held) (c.in_err-member.ensures.tells file now));
    }

pub list_member-requires : goal.list_member-requires
list_member-requires g c =
    let known = c.members.invariant in
    let reads = c.in_ok-member.ensures.asks.0 in
    let passes = rw c.in-Some.is at c.in_ok-member.ensures.steps in
    record {
      whole = still_whole _ _ _ c.requires.whole (ReadsUpTo-then known.reads reads);
      size = rw (reads.keeps.same_size, known.reads.keeps.same_size) c.requires.size.1;
      lies = rw reads.keeps.same_size passes.lies;
    }

pub returns-in_err-refusal : goal.returns-in_err-refusal
returns-in_err-refusal g c =
    let p = err_from_is_err_and c.from_residual-in_err-refusal.result c.from_residual-in_err-refusal.ensures.1 in
    let known = c.members.invariant in
    let did = c.in_err-refusal.ensures.lists in
    let size = c.members.src.seen.size in
    let slots = c.members.store.slots in
    let headers = c.args.store.now.slots in
    let style = style_of c.args.style in
    let parts = c.args.parts.0 in
    let passes = rw c.in-Some.is at c.in_ok-member.ensures.steps in
    let m : Member = member_of c.in-Some.member c.advance.new.name in
    let first : ℕ = step_cost size style.cap c.members.cursor in
    let second : ℕ = 4 + style_ceiling c.in-Some.member.extent.size slots style in
    let most = member_allowed size slots style c.in-Some.member.extent.size c.members.cursor c.advance.new.self
    (omega (arith, passes.begins, passes.lies)) (omega (arith, passes.begins, passes.ends)) in
    let within = step_ends c.args.src.now.seen.size size headers slots style known.bytes (first + second) _ c.members.cursor known.reads.keeps.same_size known.slots known.within (omega (arith, most)) in
    record {
      slots = did.slots ∙ known.slots;
      grows = grows_then known.grows did.grows;
      ceiling = rw (p.1, p.2) (ReadsAtMostIn-then {X = Unit {0}} _ _ _ c.list_member.new.out (Err c.in_err-refusal.field-0.0) known.bytes (first + second) _ within known.reads
          (ReadsAtMostIn-then {X = Unit {0}} _ _ _ c.list_member.new.out (Err c.in_err-refusal.field-0.0) first second _ (omega arith) c.in_ok-member.ensures.asks.0 did.ceiling));
      cost = λ file held.
          let now = known.reads.keeps.same_file ∙ held in
          let walks = known.walks file held in
          let tells = rw c.in-Some.is at (c.in_ok-member.ensures.tells file now) in
          let header = c.in_ok-member.ensures.cost file now in
          let here : ℕ = header_cost file style.cap c.members.cursor in
          let there : ℕ = member_cost file headers style parts m in
          let takes : ReadsAtMostIn {X = Unit {0}} c.advance.new.src c.list_member.new.src c.list_member.new.out (Err c.in_err-refusal.field-0.0) there =
          subst (λ (n : ℕ). ReadsAtMostIn {X = Unit {0}} c.advance.new.src c.list_member.new.src c.list_member.new.out (Err c.in_err-refusal.field-0.0) n) (cost_of_data file headers style parts m)
          (rw known.slots at (did.cost file (header.0.keeps.same_file ∙ now))) in
          let most = rw tells.0 at (step_cost_left file headers style parts (length file) before_members c.members.cursor _ _ walks) in
          rw (p.1, p.2) (ReadsAtMostIn-then {X = Unit {0}} _ _ _ c.list_member.new.out (Err c.in_err-refusal.field-0.0) walks.spent (here + there) _ (omega (arith, most)) walks.reads
          (ReadsAtMostIn-then {X = Unit {0}} _ _ _ c.list_member.new.out (Err c.in_err-refusal.field-0.0) here there _ (omega arith) header.0 takes));
      shows = λ file held.
          let now = c.in_ok-member.ensures.asks.0.keeps.same_file ∙ (known.reads.keeps.same_file ∙ held) in
          rw (p.1, p.2) (stop_of_member _ _ file slots style parts m c.in_err-refusal.field-0.0 _ (did.shows file now));
    }

pub returns-in-Some-2 : goal.returns-in-Some-2
returns-in-Some-2 g c =
    let known = c.members.invariant in
    let did = c.in_ok-refusal.ensures.lists in
    let size = c.members.src.seen.size in
    let slots = c.members.store.slots in
    let headers = c.args.store.now.slots in
    let style = style_of c.args.style in
    let parts = c.args.parts.0 in
    let passes = rw c.in-Some.is at c.in_ok-member.ensures.steps in
    let m : Member = member_of c.in-Some.member c.advance.new.name in
    let first : ℕ = step_cost size style.cap c.members.cursor in
    let second : ℕ = 4 + style_ceiling c.in-Some.member.extent.size slots style in
    let most = member_allowed size slots style c.in-Some.member.extent.size c.members.cursor c.advance.new.self
    (omega (arith, passes.begins, passes.lies)) (omega (arith, passes.begins, passes.ends)) in
    let within = step_ends c.args.src.now.seen.size size headers slots style known.bytes (first + second) _ c.members.cursor known.reads.keeps.same_size known.slots known.within (omega (arith, most)) in
    let own = rw c.in-Some-2.is at c.in_ok-refusal.ensures.own in
    let takes : (n : ℕ) → ReadsUpTo c.args.src.now c.list_member.new.src n → ReadsAtMostIn {X = Unit {0}} c.args.src.now c.list_member.new.src c.list_member.new.out (Err (Refused c.placed.result)) n =
    λ n. fault_takes _ _ c.list_member.new.out n _ c.in-Some-2.refusal c.placed.result own c.placed.ensures in
    let all = ReadsUpTo-then known.reads (ReadsUpTo-then c.in_ok-member.ensures.asks.0 did.ceiling.0) in
    record {
      slots = did.slots ∙ known.slots;
      grows = grows_then known.grows did.grows;
      ceiling = takes _ (ReadsUpTo-to all (omega (arith, all.at_most, within)));
      cost = λ file held.
          let now = known.reads.keeps.same_file ∙ held in
          let walks = known.walks file held in
          let tells = rw c.in-Some.is at (c.in_ok-member.ensures.tells file now) in
          let header = (c.in_ok-member.ensures.cost file now).0 in
          let listed = (rw known.slots at (did.cost file (header.keeps.same_file ∙ now))).0 in
          let same = cost_of_data file headers style parts m in
          let most = rw tells.0 at (step_cost_left file headers style parts (length file) before_members c.members.cursor _ _ walks) in
          let spent = ReadsUpTo-then walks.reads (ReadsUpTo-then header listed) in
          takes _ (ReadsUpTo-to spent (omega (arith, spent.at_most, most, same)));
      shows = λ file held.
          let now = known.reads.keeps.same_file ∙ held in
          let tells = rw c.in-Some.is at (c.in_ok-member.ensures.tells file now) in
          let lists = rw (known.slots, c.in-Some-2.is) at (did.shows file (c.in_ok-member.ensures.asks.0.keeps.same_file ∙ now)) in
          fault_of_member file headers style parts (length file) before_members c.members.cursor _ _ m c.in-Some-2.refusal c.placed.result (known.walks file held) tells.0 own lists c.placed.ensures;
    }

pub members-preserved : goal.members-preserved
members-preserved g c =
    let known = c.members.invariant in
    let did = c.in_ok-refusal.ensures.lists in
    let size = c.members.src.seen.size in
    let slots = c.members.store.slots in
    let headers = c.args.store.now.slots in
    let style = style_of c.args.style in
    let parts = c.args.parts.0 in
    let none : c.in_ok-refusal.field-0 ≡ None = search rules in
    let passes = rw c.in-Some.is at c.in_ok-member.ensures.steps in
    let m : Member = member_of c.in-Some.member c.advance.new.name in
    let first : ℕ = step_cost size style.cap c.members.cursor in
    let second : ℕ = 4 + style_ceiling c.in-Some.member.extent.size slots style in
    let most = member_allowed size slots style c.in-Some.member.extent.size c.members.cursor c.advance.new.self
    (omega (arith, passes.begins, passes.lies)) (omega (arith, passes.begins, passes.ends)) in
    record {
      is_at = subst (λ (n : ℕ). IsMemberWalkInBounds n c.advance.new.self) known.reads.keeps.same_size passes.is_at;
      slots = did.slots ∙ known.slots;
      grows = grows_then known.grows did.grows;
      bytes = known.bytes + (first + second);
      within = step_within c.args.src.now.seen.size size headers slots style known.bytes (first + second) _ c.members.cursor c.advance.new.self
          known.reads.keeps.same_size known.slots known.within most;
      reads = ReadsUpTo-then known.reads (ReadsUpTo-then c.in_ok-member.ensures.asks.0 did.ceiling.0);
      walks = λ file held.
          let now = known.reads.keeps.same_file ∙ held in
          let tells = rw c.in-Some.is at (c.in_ok-member.ensures.tells file now) in
          let header = (c.in_ok-member.ensures.cost file now).0 in
          let listed = (rw known.slots at (did.cost file (header.keeps.same_file ∙ now))).0 in
          let lists = rw (known.slots, none) at (did.shows file (header.keeps.same_file ∙ now)) in
          check_more file headers style parts (length file) before_members c.members.cursor c.advance.new.self _ _ _ _ m (omega (arith, passes.begins, passes.ends))
          (known.walks file held) tells.0 tells.1 header (ReadsUpTo-to listed (omega (arith, listed.at_most, cost_of_data file headers style parts m))) (sound_member file headers style parts m lists);
    }

pub members-smaller : goal.members-smaller
members-smaller g c =
    let passes = rw c.in-Some.is at c.in_ok-member.ensures.steps in
    omega (arith, passes.begins, passes.ends, passes.is_at.within, c.members.invariant.reads.keeps.same_size)

pub returns : goal.returns
returns g c =
    let known = c.members.invariant in
    let style = style_of c.args.style in
    let none : c.in_ok-member.field-0 ≡ None = search rules in
    let bytes : ℕ = step_cost c.members.src.seen.size style.cap c.members.cursor in
    let most = step_allowed c.members.src.seen.size c.members.store.slots style c.members.cursor in
    let within = step_ends c.args.src.now.seen.size c.members.src.seen.size c.args.store.now.slots c.members.store.slots style known.bytes bytes _ c.members.cursor known.reads.keeps.same_size known.slots known.within (omega (arith, most)) in
    record {
      slots = known.slots;
      grows = known.grows;
      ceiling = ReadsAtMostIn-then {X = Unit {0}} _ _ _ c.members.out (Ok tt) known.bytes bytes _ within known.reads (c.in_ok-member.ensures.asks.0, tt);
      cost = λ file held.
          let now = known.reads.keeps.same_file ∙ held in
          let ends = rw none at (c.in_ok-member.ensures.tells file now) in
          ((check_ends file c.args.store.now.slots style c.args.parts.0 (length file) before_members c.members.cursor _ _ _ (known.walks file held) ends (c.in_ok-member.ensures.cost file now).0).1, tt);
      shows = λ file held.
          let now = known.reads.keeps.same_file ∙ held in
          let ends = rw none at (c.in_ok-member.ensures.tells file now) in
          (check_ends file c.args.store.now.slots style c.args.parts.0 (length file) before_members c.members.cursor _ _ _ (known.walks file held) ends (c.in_ok-member.ensures.cost file now).0).0;
    }
