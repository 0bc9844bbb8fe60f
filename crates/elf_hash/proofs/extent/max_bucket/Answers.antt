-- The word of each bucket is the file's, and the largest of those that are passed is kept.
use Rattle.std.proofs.Common.{◌≡◌, ℕ, suc, ◌*◌, max, ap, sym, ◌∙◌, arith}
use Rattle.elf_model.specs.Prelude.{field, gnu_bucket_at, max_bucket, slice}
use Rattle.elf_source.proofs.ReadsLaws.{ReadsUpTo-none, ReadsUpTo-then, ReadsUpTo-to}
use Rattle.elf_table.specs.Prelude.{TableRange, next_row, row_at}
use Rattle.elf_table.proofs.CursorLaws.{agrees_none}
use Rattle.elf_hash.proofs.ExtentLaws.{bucket_stands, greater_is, highest_next, highest_none, row_given, unread_start}
use Rattle.elf_hash.proofs.extent.max_bucket.Goals as goal

pub words-init : goal.words-init
words-init g c =
    let n = c.new-cursor.ensures in
    let b = c.buckets.ensures.value in
    let is = n.table ∙ b in
    let count : c.new-cursor.result.left ≡ c.args.table.now.nbucket = n.left ∙ ap (λ (t : TableRange). t.count) b in
    let unread = unread_start c.new-cursor.result c.args.table.now n.failed is (n.unread ∙ ap (λ (t : TableRange). t.count * t.entry) (sym n.table)) in
    record {
      same_table = is;
      not_failed = n.failed;
      reads = ReadsUpTo-none c.args.src.now _;
      account = omega (arith, unread);
      counted = omega (arith, count, n.index);
      agrees = λ file held. agrees_none file c.new-cursor.result n.held;
      found = λ file held at gnu. sym (ap (max_bucket file at.place) n.index ∙ highest_none file at.place);
    }

pub words-preserved : goal.words-preserved
words-preserved g c =
    let l = c.words in
    let i = l.invariant in
    let a = c.in_ok-advance.ensures in
    let new = c.advance.new.self in
    let s = row_given l.src.seen.file l.cursor new c.in_ok-advance.field-0 c.if-branch.true a.steps in
    let size : l.cursor.table.entry ≡ 4 = ap (λ (t : TableRange). t.entry) i.same_table in
    let counted = i.counted in
    let account = i.account in
    let step = a.account in
    let next = s.next_index in
    record {
      same_table = s.same_table ∙ i.same_table;
      not_failed = s.still_not_failed;
      reads = ReadsUpTo-to (ReadsUpTo-then i.reads a.reads) (omega (arith, step, account));
      account = omega (arith, step, account);
      counted = omega (arith, counted, next, s.one_less);
      agrees = λ file h. s.agrees file (i.reads.keeps.same_file ∙ h) (i.agrees file h);
      found = λ file h at gnu.
          let bytes = c.row.ensures.its_bytes ∙ s.exact file (i.reads.keeps.same_file ∙ h) (i.agrees file h) ∙ ap (slice file (next_row l.cursor)) size in
          let word = c.word_in-word.ensures file (next_row l.cursor) bytes in
          let place : next_row l.cursor ≡ gnu_bucket_at file at.place l.cursor.index =
          ap (λ (t : TableRange). row_at t l.cursor.index) i.same_table ∙ bucket_stands file at c.args.table.now l.cursor.index gnu in
          let on : suc l.cursor.index ≡ new.index = omega (arith, next) in
          c.max-highest.ensures ∙ (greater_is l.highest c.word_in-word.result ∙ (ap (λ (n : ℕ). max n c.word_in-word.result) (i.found file h at gnu)
          ∙ (highest_next file at.place l.cursor.index c.word_in-word.result (word ∙ ap (λ (n : ℕ). field file n 4) place)
          ∙ ap (max_bucket file at.place) on)));
    }
