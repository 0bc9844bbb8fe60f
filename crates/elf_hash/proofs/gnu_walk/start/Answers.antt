-- The filter's word and the bucket's are the file's.
use Rattle.std.proofs.Common.{sym, ap, ◌∙◌, arith, ℕ}
use Rattle.elf_model.specs.Bytes.{field}
use Rattle.elf_table.proofs.LedgerLaws.{CallDid-as, CallDid-then}
use Rattle.elf_hash.proofs.GnuSteps.{bucket_is, filter_is, told_empty, reported_none, told_start}
use Rattle.elf_hash.proofs.gnu_walk.start.Goals as goal

pub returns-then-not-filter_may_contain : goal.returns-then-not-filter_may_contain
returns-then-not-filter_may_contain g c = record {
  did = CallDid-as _ (omega arith) c.in_ok-word.ensures
      (λ file read costs at is.
      let may = filter_is file at c.args.hash _ _ is (read ∙ ap (λ (p : ℕ). field file p 8) c.filter_at.ensures.value) in
      reported_none file at.place c.args.hash (sym (c.filter_may_contain.ensures ∙ may) ∙ c.if-not-filter_may_contain.true));
}

pub returns-then-start-eq0 : goal.returns-then-start-eq0
returns-then-start-eq0 g c = record {
  did = CallDid-as _ (omega arith) (CallDid-then c.in_ok-word.ensures c.in_ok-start.ensures)
      (λ file read costs at is.
      let may = filter_is file at c.args.hash _ _ is (read.0 ∙ ap (λ (p : ℕ). field file p 8) c.filter_at.ensures.value) in
      told_empty file at.place c.args.hash _ (sym (c.filter_may_contain.ensures ∙ may) ∙ c.if-not-filter_may_contain.false)
      (read.1 ∙ ap (λ (p : ℕ). field file p 4) (c.bucket_at.ensures.value ∙ bucket_is file at _ _ is)) c.if-start-eq0.true);
}

pub returns-else-start-eq0 : goal.returns-else-start-eq0
returns-else-start-eq0 g c = record {
  did = CallDid-as _ (omega arith) (CallDid-then c.in_ok-word.ensures c.in_ok-start.ensures)
      (λ file read costs at is.
      let may = filter_is file at c.args.hash _ _ is (read.0 ∙ ap (λ (p : ℕ). field file p 8) c.filter_at.ensures.value) in
      told_start file at.place c.args.hash _ (sym (c.filter_may_contain.ensures ∙ may) ∙ c.if-not-filter_may_contain.false)
      (read.1 ∙ ap (λ (p : ℕ). field file p 4) (c.bucket_at.ensures.value ∙ bucket_is file at _ _ is)) c.if-start-eq0.false);
}
