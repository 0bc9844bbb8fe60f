use Rattle.std.proofs.Common.{rules, refl, sym, ap, ◌∙◌, subst, ◌+◌, ◌-◌, ◌≤◌, arith, length, List, ℕ, ◌≡◌, Err}
use Rattle.std.proofs.lemmas.Result.{err_from_is_err_and}
use Rattle.elf_source.proofs.ReadsLaws.{ReadsUpTo-none, ReadsUpTo-then, ReadsUpTo-to}
use Rattle.elf_table.proofs.OpenLaws.{still_open}
use Rattle.elf_model.specs.Prelude.{AllInside, patched, patches_of, slice}
use Rattle.elf_reloc.specs.Prelude.{patch_as, walk_all, walk_left}
use Rattle.elf_reloc.proofs.InOrderSteps.{underway_start, underway_first, underway_next, underway_stopped, underway_end, underway_failed, finds_refusal}
use Rattle.elf_reloc.proofs.ReadLaws.{not_over, IsUnlimitedReadFault-then}
use Rattle.elf_reloc.proofs.WindowSteps.{fault_says, stopping}
use Rattle.elf_source.proofs.GrowthLaws.{grows_not, grows_then}
use Rattle.elf_model.proofs.Slices.{slice-size}
use Rattle.elf_reloc.proofs.in_order.write_one_pass.Goals as goal

pub entries-init : goal.entries-init
entries-init g c = record {
  sized = refl;
  within = omega (arith, c.new-held.ensures.low, ap length c.new-held.ensures.bytes);
  reads_most = ReadsUpTo-none _ _;
  asked = omega (arith, c.new-entries.ensures.left c.args.target.now);
  grows = grows_not _;
  wrote = omega (arith, c.args.out.now.fits, c.new-held.ensures.low);
  still = c.new-entries.ensures.begins _ c.args.target.now;
  reads = λ file held. c.new-entries.ensures.reads file c.args.target.now;
  left = λ file held patches are inside rises.
      let long : length (slice file c.args.at c.args.target.now.size) ≡ c.args.target.now.size = slice-size file c.args.at c.args.target.now.size (let belongs = c.requires.opened.belongs file held in omega (arith, belongs.size, c.requires.opened.size, c.requires.within)) in
      let P : ℕ → Type 0 = λ n. AllInside n patches in
      underway_start (slice file c.args.at c.args.target.now.size) c.new-held.result _ patches _ c.new-held.ensures.low c.new-held.ensures.bytes
      (ap patches_of (c.new-entries.ensures.changes file c.args.target.now) ∙ are) (subst P (sym long) inside) rises;
}

pub entries-smaller : goal.entries-smaller
entries-smaller g c = let gives = rw c.in-Some.is at c.in_ok-placed.ensures.went.gives in gives.0

pub store-requires-clause-low : goal.store-requires-clause-low
store-requires-clause-low g c = omega (arith, c.low.ensures, c.if-placed-low.false)

pub entries-preserved : goal.entries-preserved
entries-preserved g c =
    let known = c.entries.invariant in
    let next = c.next.ensures.asks in
    let did = c.in_ok-store-in-Some.ensures.did in
    let went = c.in_ok-placed.ensures.went in
    let gives = rw c.in-Some.is at went.gives in
    let on = c.in_ok-store-in-Some.ensures.on in
    let asked : c.store.new.src.asked + (walk_left c.args.target.now c.next.new.self + (c.args.target.now.size - (c.store.new.self.low + length c.store.new.self.bytes))) ≤ c.args.src.now.asked + (walk_all c.args.target.now + c.args.target.now.size) = omega (arith, known.asked, next.account, on.asked, on.within, gives.1, known.within) in
    record {
      sized = refl;
      within = omega (arith, on.within, gives.1, known.within);
      reads_most = ReadsUpTo-to (ReadsUpTo-then (ReadsUpTo-then known.reads_most next.reads) did.reads) (omega (arith, asked));
      asked = asked;
      grows = grows_then known.grows did.grows;
      wrote = omega (arith, known.wrote, did.wrote, c.in_ok-store-in-Some.ensures.low, c.low.ensures, c.if-placed-low.false);
      still = rw known.reads_most.keeps.same_size at went.goes;
      reads = λ file held.
          let finds = rw c.in-Some.is at c.in_ok-placed.ensures.known file (known.reads_most.keeps.same_file ∙ held) (known.reads file held) in finds.1;
      left = λ file held patches are inside rises.
          let finds = rw c.in-Some.is at c.in_ok-placed.ensures.known file (known.reads_most.keeps.same_file ∙ held) (known.reads file held) in
          let way = known.left file held patches are inside rises in
          let later = next.reads.keeps.same_file ∙ (known.reads_most.keeps.same_file ∙ held) in
          let base : List ℕ = slice file c.args.at c.args.target.now.size in
          let long : c.args.at + c.args.target.now.size ≤ length file = (let belongs = c.requires.opened.belongs file held in omega (arith, belongs.size, c.requires.opened.size, c.requires.within)) in
          let text = c.in_ok-store-in-Some.ensures.text file later way.now long way.midway in
          underway_next base (patched patches base) c.entries.held _ _ _ way (patch_as c.in-Some.placed) _ finds.0 c.store.new.self _ c.in_ok-store-in-Some.ensures.low text.0 text.1;
    }

pub returns-then-placed-low-clause-did : goal.returns-then-placed-low-clause-did
returns-then-placed-low-clause-did g c =
    let known = c.entries.invariant in
    let next = c.next.ensures.asks in
    record {
      says = λ budget. cc;
      reads = ReadsUpTo-to (ReadsUpTo-then known.reads_most next.reads) (omega (arith, known.asked, next.account));
      grows = known.grows;
      wrote = omega (arith, known.wrote, known.within);
    }

pub returns-then-placed-low-clause-text : goal.returns-then-placed-low-clause-text
returns-then-placed-low-clause-text g c = λ file held patches are inside rises.
    let known = c.entries.invariant in
    let finds = rw c.in-Some.is at c.in_ok-placed.ensures.known file (known.reads_most.keeps.same_file ∙ held) (known.reads file held) in
    let way = known.left file held patches are inside rises in
    let base : List ℕ = slice file c.args.at c.args.target.now.size in
    let first = underway_first base (patched patches base) c.entries.held _ _ _ way (patch_as c.in-Some.placed) _ finds.0 in
    absurd (omega (arith, first, c.low.ensures, c.if-placed-low.true))

pub returns-in_err-store-in-Some-clause-did : goal.returns-in_err-store-in-Some-clause-did
returns-in_err-store-in-Some-clause-did g c =
    let p = err_from_is_err_and c.from_residual-in_err-store-in-Some.result c.from_residual-in_err-store-in-Some.ensures.1 in
    let known = c.entries.invariant in
    let next = c.next.ensures.asks in
    let did = c.in_err-store-in-Some.ensures.did in
    let gives = rw c.in-Some.is at c.in_ok-placed.ensures.went.gives in
    record {
      says = search (rules, stopping);
      reads = ReadsUpTo-to (ReadsUpTo-then (ReadsUpTo-then known.reads_most next.reads) did.reads) (omega (arith, known.asked, known.within, next.account, did.reads.at_most));
      grows = grows_then known.grows did.grows;
      wrote = rw p.1 (omega (arith, known.wrote, did.wrote, gives.1, c.low.ensures, c.if-placed-low.false));
    }

pub returns-in_err-store-in-Some-clause-text : goal.returns-in_err-store-in-Some-clause-text
returns-in_err-store-in-Some-clause-text g c = λ file held patches are inside rises.
    let p = err_from_is_err_and c.from_residual-in_err-store-in-Some.result c.from_residual-in_err-store-in-Some.ensures.1 in
    let known = c.entries.invariant in
    let finds = rw c.in-Some.is at c.in_ok-placed.ensures.known file (known.reads_most.keeps.same_file ∙ held) (known.reads file held) in
    let way = known.left file held patches are inside rises in
    let later = c.next.ensures.asks.reads.keeps.same_file ∙ (known.reads_most.keeps.same_file ∙ held) in
    let base : List ℕ = slice file c.args.at c.args.target.now.size in
    let long : c.args.at + c.args.target.now.size ≤ length file = (let belongs = c.requires.opened.belongs file held in omega (arith, belongs.size, c.requires.opened.size, c.requires.within)) in
    rw (p.1, p.2) (underway_stopped base (patched patches base) c.entries.held _ _ _ way (patch_as c.in-Some.placed) _ finds.0 (Unit {0}) c.store.new.out c.in_err-store-in-Some.field-0.0
    (c.in_err-store-in-Some.ensures.text file later way.now long way.midway).0)

pub returns-in-None-clause-did : goal.returns-in-None-clause-did
returns-in-None-clause-did g c =
    let known = c.entries.invariant in
    let next = c.next.ensures.asks in
    let did = c.advance.ensures.did in
    record {
      says = search (rules, stopping);
      reads = ReadsUpTo-to (ReadsUpTo-then (ReadsUpTo-then known.reads_most next.reads) did.reads) (omega (arith, known.asked, next.account, did.reads.at_most));
      grows = grows_then known.grows did.grows;
      wrote = search (rules, stopping);
    }

pub returns-in-None-clause-text : goal.returns-in-None-clause-text
returns-in-None-clause-text g c = λ file held patches are inside rises.
    let known = c.entries.invariant in
    let finds = rw c.in-None.is at c.in_ok-placed.ensures.known file (known.reads_most.keeps.same_file ∙ held) (known.reads file held) in
    let way = known.left file held patches are inside rises in
    let later = c.next.ensures.asks.reads.keeps.same_file ∙ (known.reads_most.keeps.same_file ∙ held) in
    let base : List ℕ = slice file c.args.at c.args.target.now.size in
    let long : c.args.at + c.args.target.now.size ≤ length file = (let belongs = c.requires.opened.belongs file held in omega (arith, belongs.size, c.requires.opened.size, c.requires.within)) in
    underway_end base (patched patches base) c.entries.held _ _ _ way (Unit {0}) c.args.target.now.size c.advance.new.out c.advance.result finds
    (slice-size file c.args.at c.args.target.now.size long) (omega (arith, known.within)) (c.advance.ensures.text c.args.target.now.size (omega arith) file later way.now long way.midway).0

pub returns-in_err-placed-clause-did : goal.returns-in_err-placed-clause-did
returns-in_err-placed-clause-did g c =
    let p = err_from_is_err_and c.from_residual.result c.from_residual.ensures.1 in
    let known = c.entries.invariant in
    let next = c.next.ensures.asks in
    record {
      says =
          rw (p.1, p.2) (fault_says c.args.src.now c.next.new.src c.entries.out c.in_err-placed.field-0.0
          (IsUnlimitedReadFault-then c.args.src.now c.entries.src c.next.new.src _ c.in_err-placed.field-0.0 known.reads_most (not_over c.entries.src c.next.new.src _ c.in_err-placed.field-0.0 (known.reads_most.same_limit ∙ c.requires.free) c.in_err-placed.ensures.says)));
      reads = ReadsUpTo-to (ReadsUpTo-then known.reads_most next.reads) (omega (arith, known.asked, next.account));
      grows = known.grows;
      wrote = rw p.1 (omega (arith, known.wrote, known.within));
    }

pub returns-in_err-placed-clause-text : goal.returns-in_err-placed-clause-text
returns-in_err-placed-clause-text g c = λ file held patches are inside rises.
    let p = err_from_is_err_and c.from_residual.result c.from_residual.ensures.1 in
    let known = c.entries.invariant in
    let way = known.left file held patches are inside rises in
    let base : List ℕ = slice file c.args.at c.args.target.now.size in
    underway_failed base (patched patches base) c.entries.held _ _ _ way (Unit {0}) c.in_err-placed.field-0.0 c.from_residual.result
    (finds_refusal file c.args.target.now c.entries.entries c.next.new.self c.in_err-placed.field-0.0 c.entries.src c.next.new.src
    (not_over c.entries.src c.next.new.src _ c.in_err-placed.field-0.0 (known.reads_most.same_limit ∙ c.requires.free) c.in_err-placed.ensures.says)
    (c.in_err-placed.ensures.known file (known.reads_most.keeps.same_file ∙ held) (known.reads file held)))
    (p.1 ∙ ap Err p.2)

pub next-requires : goal.next-requires
next-requires g c = record {
  opened = still_open _ _ c.entries.invariant.reads_most c.requires.opened;
  goes = search rules;
}
