-- Each step lists the next member after those before it.
use Rattle.std.proofs.Common.{rules, ◌≡◌, ℕ, ◌+◌, ◌||◌, List, length, None, Some, Ok, Err, refl, sym, ap, ◌∙◌, subst, arith}
use Rattle.std.proofs.lemmas.Result.{err_from_is_err_and}
use Rattle.elf_model.specs.Archive.{before_members}
use Rattle.elf_source.proofs.GrowthLaws.{grows_not, grows_then}
use Rattle.elf_source.proofs.ReadsLaws.{ReadsUpTo-none, ReadsUpTo-then}
use Rattle.elf_options.specs.Permitted.{style_of}
use Rattle.elf_archive.specs.Members.{IsMemberWalkInBounds}
use Rattle.elf_archive.proofs.ConsumeLaws.{ReadsAtMostIn-then, still_whole}
use Rattle.elf_archive.proofs.ListingLaws.{step_ends, step_within}
use Rattle.elf_archive.proofs.WalkLaws.{WalksMembers, of_members, walk_begins, walk_ends, walk_more, walk_stops}
use Rattle.elf_archive.proofs.listing.list_members.Goals as goal

pub members-init : goal.members-init
members-init g c = rw c.new-cursor.ensures (record {
  is_at = record { within = omega (arith, c.requires.size.0); passed = omega arith; names = tt };
  slots = refl;
  grows = grows_not _;
  bytes = 0;
  within = omega arith;
  reads = ReadsUpTo-none _ 0;
  walks = λ file held. walk_begins c.args.choice.alone file c.args.store.now.slots (style_of c.args.choice.style) c.args.choice.parts.0 (length file) before_members _ _ (omega arith);
})

pub returns-in_err-refused : goal.returns-in_err-refused
returns-in_err-refused g c =
    let p = err_from_is_err_and c.from_residual.result c.from_residual.ensures.1 in
    let known = c.members.invariant in
    let did = c.in_err-refused.ensures in
    let step = did.within in
    let headers = c.args.store.now.slots in
    let style = style_of c.args.choice.style in
    let parts = c.args.choice.parts.0 in
    let within = step_ends c.args.src.now.seen.size c.members.src.seen.size headers c.members.store.slots style known.bytes step.bytes _ c.members.cursor known.reads.keeps.same_size known.slots known.within step.within in
    let walks : (file : List ℕ) → c.args.src.now.seen.file ≡ Some file
    → WalksMembers c.args.choice.alone file headers style parts (length file) before_members c.args.src.now c.list_next.new.src c.args.out.now c.list_next.new.out (Err c.in_err-refused.field-0.0) =
    λ file held.
    let now = known.reads.keeps.same_file ∙ held in
    let takes = rw known.slots at (did.cost file now) in
    let text = rw known.slots at (did.text file now) in
    walk_stops c.args.choice.alone file headers style parts (length file) before_members c.members.cursor _ _ _ _ _ _ c.members.any _ (known.walks file held) takes text in
    record {
      slots = did.slots ∙ known.slots;
      grows = grows_then known.grows did.grows;
      ceiling = rw (p.1, p.2) (ReadsAtMostIn-then {X = Unit {0}} _ _ _ c.list_next.new.out (Err c.in_err-refused.field-0.0) known.bytes step.bytes _ within known.reads step.takes);
      cost = λ file held. rw (p.1, p.2) (walks file held).0;
      shows = λ file held. rw (p.1, p.2) (of_members c.args.choice.alone file headers style parts c.args.src.now c.list_next.new.src c.args.out.now c.list_next.new.out (Err c.in_err-refused.field-0.0) (walks file held));
    }

pub members-preserved-then-any : goal.members-preserved-then-any
members-preserved-then-any g c =
    let known = c.members.invariant in
    let is_at = rw c.in-Some.is at c.in_ok-refused.ensures.is_at in
    let step = rw c.in-Some.is at c.in_ok-refused.ensures.within in
    record {
      is_at = subst (λ (n : ℕ). IsMemberWalkInBounds n c.list_next.new.cursor) known.reads.keeps.same_size is_at.0;
      slots = c.in_ok-refused.ensures.slots ∙ known.slots;
      grows = grows_then known.grows c.in_ok-refused.ensures.grows;
      bytes = known.bytes + step.bytes;
      within = step_within c.args.src.now.seen.size c.members.src.seen.size c.args.store.now.slots c.members.store.slots (style_of c.args.choice.style) known.bytes step.bytes _ c.members.cursor c.list_next.new.cursor
          known.reads.keeps.same_size known.slots known.within step.within;
      reads = ReadsUpTo-then known.reads step.takes.0;
      walks = λ file held.
          let now = known.reads.keeps.same_file ∙ held in
          let takes = rw known.slots at (c.in_ok-refused.ensures.cost file now) in
          let text = rw known.slots at (c.in_ok-refused.ensures.text file now) in
          let steps = rw (c.in-Some.is, known.slots) at (c.in_ok-refused.ensures.steps file now) in
          walk_more c.args.choice.alone file c.args.store.now.slots (style_of c.args.choice.style) c.args.choice.parts.0 (length file) before_members c.members.cursor c.list_next.new.cursor _ _ _ _ _ _ c.members.any c.in-Some.refused _ (ap (λ a. a || c.in-Some.refused) c.if-any.true ∙ sym c.if-any.true) is_at.1
          (known.walks file held) steps takes text;
    }

pub members-preserved : goal.members-preserved
members-preserved g c =
    let known = c.members.invariant in
    let is_at = rw c.in-Some.is at c.in_ok-refused.ensures.is_at in
    let step = rw c.in-Some.is at c.in_ok-refused.ensures.within in
    record {
      is_at = subst (λ (n : ℕ). IsMemberWalkInBounds n c.list_next.new.cursor) known.reads.keeps.same_size is_at.0;
      slots = c.in_ok-refused.ensures.slots ∙ known.slots;
      grows = grows_then known.grows c.in_ok-refused.ensures.grows;
      bytes = known.bytes + step.bytes;
      within = step_within c.args.src.now.seen.size c.members.src.seen.size c.args.store.now.slots c.members.store.slots (style_of c.args.choice.style) known.bytes step.bytes _ c.members.cursor c.list_next.new.cursor
          known.reads.keeps.same_size known.slots known.within step.within;
      reads = ReadsUpTo-then known.reads step.takes.0;
      walks = λ file held.
          let now = known.reads.keeps.same_file ∙ held in
          let takes = rw known.slots at (c.in_ok-refused.ensures.cost file now) in
          let text = rw known.slots at (c.in_ok-refused.ensures.text file now) in
          let steps = rw (c.in-Some.is, known.slots) at (c.in_ok-refused.ensures.steps file now) in
          walk_more c.args.choice.alone file c.args.store.now.slots (style_of c.args.choice.style) c.args.choice.parts.0 (length file) before_members c.members.cursor c.list_next.new.cursor _ _ _ _ _ _ c.members.any c.in-Some.refused _ (ap (λ a. a || c.in-Some.refused) c.if-any.false) is_at.1
          (known.walks file held) steps takes text;
    }

pub returns : goal.returns
returns g c =
    let known = c.members.invariant in
    let did = c.in_ok-refused.ensures in
    let none : c.in_ok-refused.field-0 ≡ None = search rules in
    let step = rw none at did.within in
    let headers = c.args.store.now.slots in
    let style = style_of c.args.choice.style in
    let parts = c.args.choice.parts.0 in
    let within = step_ends c.args.src.now.seen.size c.members.src.seen.size headers c.members.store.slots style known.bytes step.bytes _ c.members.cursor known.reads.keeps.same_size known.slots known.within step.within in
    let walks : (file : List ℕ) → c.args.src.now.seen.file ≡ Some file
    → WalksMembers c.args.choice.alone file headers style parts (length file) before_members c.args.src.now c.list_next.new.src c.args.out.now c.list_next.new.out (Ok c.members.any) =
    λ file held.
    let now = known.reads.keeps.same_file ∙ held in
    let takes = rw known.slots at (did.cost file now) in
    let text = rw known.slots at (did.text file now) in
    let steps = rw none at (did.steps file now) in
    walk_ends c.args.choice.alone file headers style parts (length file) before_members c.members.cursor c.list_next.new.cursor _ _ _ _ _ _ c.members.any (known.walks file held) steps takes text in
    record {
      slots = did.slots ∙ known.slots;
      grows = grows_then known.grows did.grows;
      ceiling = ReadsAtMostIn-then {X = Unit {0}} _ _ _ c.list_next.new.out (Ok tt) known.bytes step.bytes _ within known.reads (step.takes.0, tt);
      cost = λ file held. (walks file held).0;
      shows = λ file held. of_members c.args.choice.alone file headers style parts c.args.src.now c.list_next.new.src c.args.out.now c.list_next.new.out (Ok c.members.any) (walks file held);
    }

pub list_next-requires-clause-whole : goal.list_next-requires-clause-whole
list_next-requires-clause-whole g c = still_whole _ _ _ c.requires.whole c.members.invariant.reads

pub list_next-requires-clause-is_at : goal.list_next-requires-clause-is_at
list_next-requires-clause-is_at g c = subst (λ (n : ℕ). IsMemberWalkInBounds n c.members.cursor) (sym c.members.invariant.reads.keeps.same_size) c.members.invariant.is_at

pub members-smaller-then-any : goal.members-smaller-then-any
members-smaller-then-any g c =
    let is_at = rw c.in-Some.is at c.in_ok-refused.ensures.is_at in
    omega (arith, is_at.0.within, is_at.1, c.members.invariant.reads.keeps.same_size)

pub members-smaller : goal.members-smaller
members-smaller g c =
    let is_at = rw c.in-Some.is at c.in_ok-refused.ensures.is_at in
    omega (arith, is_at.0.within, is_at.1, c.members.invariant.reads.keeps.same_size)
