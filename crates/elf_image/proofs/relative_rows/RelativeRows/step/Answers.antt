use Rattle.std.proofs.Common.{◌≡◌, ◌∙◌, ◌+◌, ◌*◌, ◌^◌, unwrap_or, ap, sym, refl, arith}
use Rattle.std.proofs.lemmas.Result.{err_from_is_err_and}
use Rattle.elf_model.specs.Image.{word_addresses}
use Rattle.elf_model.specs.Prelude.{field}
use Rattle.elf_model.specs.Records.{relr_word}
use Rattle.elf_model.specs.RelativeRelocations.{base_after, bitmap_base}
use Rattle.elf_table.specs.Cursors.{next_row, unread_bytes}
use Rattle.elf_image.specs.RelativeRows.{AreRowsOf, relative_left, word_left, words_left}
use Rattle.elf_image.specs.declared.relative_rows.RelativeRows.{RelativeRows}
use Rattle.elf_image.proofs.ReadSteps.{unread_checked}
use Rattle.elf_image.proofs.RelativeSteps.{base-more, base-next, base-same, no-bits, ok-then, takes-as, takes-more, takes-unread, word-place, word-read, words-next, words-none}
use Rattle.elf_image.specs.Within.{RowsAlive}
use Rattle.elf_image.proofs.AliveSteps.{later, ok-of}
use Rattle.elf_image.proofs.ToldSteps.{reads_check}
use Rattle.elf_image.proofs.relative_rows.RelativeRows.step.Goals as goal

pub returns-then-self-gt0-clause-alive : goal.returns-then-self-gt0-clause-alive
returns-then-self-gt0-clause-alive g c =
    let b = c.bit.ensures in
    let alive : RowsAlive c.args.src.now.seen.size c.bit.new.self = record {
      unfailed = rw b.cursor c.requires.unfailed;
      table = rw b.cursor c.requires.table;
      few = omega arith;
      index = rw b.cursor c.requires.index;
      next = rw b.cursor (b.next (2 ^ 64 + 504 * c.args.self.now.cursor.index) (omega arith) c.requires.next);
    } in
    ok-of _ alive

pub word-requires-clause-index : goal.word-requires-clause-index
word-requires-clause-index g c =
    let gives = rw c.if-not-branch.false at c.in_ok-advance.ensures.steps in
    let next = gives.next_index in omega arith

pub returns-clause-alive : goal.returns-clause-alive
returns-clause-alive g c =
    let gives = rw c.if-not-branch.false at c.in_ok-advance.ensures.steps in
    let w = c.word.ensures in
    let next = gives.next_index in
    let alive : RowsAlive c.args.src.now.seen.size c.word.new.self = record {
      unfailed = rw w.cursor gives.still_not_failed;
      table = rw (w.cursor, gives.same_table) c.requires.table;
      few = w.few;
      index = rw w.cursor w.index;
      next = rw w.cursor (w.next (rw next (later c.args.self.now.next c.args.self.now.left c.args.self.now.cursor.index (omega arith) c.requires.next)));
    } in
    ok-of _ alive

pub returns-then-self-gt0-clause-takes : goal.returns-then-self-gt0-clause-takes
returns-then-self-gt0-clause-takes g c = λ file held known.
    let b = c.bit.ensures in
    let old = c.args.self.now in
    rw b.cursor (takes-more _ _ (word_left old) (word_left c.bit.new.self) (words_left file old.cursor.table.at old.cursor.index old.cursor.left) c.bit.result b.goes b.takes)

pub returns-then-self-gt0-clause-known : goal.returns-then-self-gt0-clause-known
returns-then-self-gt0-clause-known g c = λ file held known.
    let b = c.bit.ensures in
    let some = known.based c.if-self-gt0.true in
    let now : AreRowsOf file c.bit.new.self = record {
      unfailed = rw b.cursor known.unfailed;
      holds = rw b.cursor known.holds;
      based = λ more. (unwrap_or c.args.self.now.next 0 + 8, b.after);
      base = rw b.cursor (base-next c.args.self.now.next c.bit.new.self.next some.0 c.args.self.now.left c.bit.new.self.left some.1 b.after b.left ∙ known.base);
    } in
    ok-of _ now

pub returns-in_err-advance-clause-takes : goal.returns-in_err-advance-clause-takes
returns-in_err-advance-clause-takes g c = λ file held known.
    let p = err_from_is_err_and c.from_residual.result c.from_residual.ensures.1 in
    let old = c.args.self.now in
    let new : RelativeRows = record { cursor = c.advance.new.self; bits = old.bits; left = old.left; at = old.at; next = old.next; low = old.low } in
    rw (p.1, p.2) (takes-unread (next_row old.cursor) old.low old.low (relative_left file old) (relative_left file new) c.in_err-advance.field-0.0 (c.in_err-advance.ensures.steps.at_next known.unfailed))

pub returns-then-not-branch-clause-takes : goal.returns-then-not-branch-clause-takes
returns-then-not-branch-clause-takes g c = λ file held known.
    let ends = rw c.if-not-branch.true at c.in_ok-advance.ensures.steps in
    let old = c.args.self.now in
    let bits = no-bits old.at (unwrap_or old.next 0) old.bits old.left (omega arith) in
    let words = words-none file old.cursor.table.at old.cursor.index old.cursor.left ends.none_left in
    (rw (bits, words) refl, rw (ends.unchanged, bits, words) refl, refl)

pub returns-clause-takes : goal.returns-clause-takes
returns-clause-takes g c = λ file held known.
    let gives = rw c.if-not-branch.false at c.in_ok-advance.ensures.steps in
    let w = c.word.ensures in
    let old = c.args.self.now in
    let cursor = c.advance.new.self in
    let place = word-place old.cursor cursor gives.same_table c.requires.table.wide in
    let bits = no-bits old.at (unwrap_or old.next 0) old.bits old.left (omega arith) in
    let words = words-next file old.cursor.table.at old.cursor.index cursor.index old.cursor.left cursor.left (omega (arith, gives.one_less)) (omega (arith, gives.next_index)) in
    let base : bitmap_base file old.cursor.table.at old.cursor.index ≡ old.next = sym (sym (base-same old.next old.left (omega arith)) ∙ known.base) in
    let row = word-read file c.args.src.now.seen.file old.cursor cursor held gives known.holds c.requires.table.wide in
    let before = ap (λ b. word_addresses (old.cursor.table.at + 8 * old.cursor.index) b (relr_word file (old.cursor.table.at + 8 * old.cursor.index))) base ∙ (ap (word_addresses (old.cursor.table.at + 8 * old.cursor.index) old.next) row ∙ ap (λ a. word_addresses a old.next (field cursor.row 0 8)) (sym place)) in
    rw (bits, words, w.cursor, gives.same_table) (takes-more old.low c.word.new.self.low _ (word_left c.word.new.self) (words_left file old.cursor.table.at cursor.index cursor.left) c.word.result w.goes (takes-as old.low c.word.new.self.low _ _ (word_left c.word.new.self) c.word.result before (w.takes old.cursor.index (omega (arith, gives.next_index)))))

pub returns-clause-known : goal.returns-clause-known
returns-clause-known g c = λ file held known.
    let gives = rw c.if-not-branch.false at c.in_ok-advance.ensures.steps in
    let w = c.word.ensures in
    let old = c.args.self.now in
    let cursor = c.advance.new.self in
    let at : bitmap_base file old.cursor.table.at old.cursor.index ≡ old.next = sym (sym (base-same old.next old.left (omega arith)) ∙ known.base) in
    let row = word-read file c.args.src.now.seen.file old.cursor cursor held gives known.holds c.requires.table.wide in
    let more = base-more file old.cursor.table.at old.cursor.index cursor.index (omega (arith, gives.next_index)) in
    let after : base_after old.next (field cursor.row 0 8) ≡ bitmap_base file cursor.table.at cursor.index =
    ap (λ b. base_after b (field cursor.row 0 8)) (sym at) ∙ (ap (base_after (bitmap_base file old.cursor.table.at old.cursor.index)) (sym row) ∙ (sym more ∙ ap (λ t. bitmap_base file t.at cursor.index) (sym gives.same_table))) in
    ok-then c.word.result {Q = AreRowsOf file c.word.new.self} (λ base. record {
      unfailed = rw w.cursor gives.still_not_failed;
      holds = rw w.cursor (gives.agrees file held known.holds);
      based = w.based;
      base = rw w.cursor (base ∙ after);
    }) w.base

pub returns-then-self-gt0-clause-costs : goal.returns-then-self-gt0-clause-costs
returns-then-self-gt0-clause-costs g c = unread_checked c.args.src.now (unread_bytes c.args.self.now.cursor) c.bit.result c.bit.ensures.refusal

pub returns-then-self-gt0-clause-account : goal.returns-then-self-gt0-clause-account
returns-then-self-gt0-clause-account g c = rw c.bit.ensures.cursor (omega arith)

pub returns-in_err-advance-clause-costs : goal.returns-in_err-advance-clause-costs
returns-in_err-advance-clause-costs g c =
    let p = err_from_is_err_and c.from_residual.result c.from_residual.ensures.1 in
    rw (p.1, p.2) (record { reads = c.in_err-advance.ensures.reads; says = c.in_err-advance.ensures.says c.requires.unfailed })

pub returns-then-not-branch-clause-costs : goal.returns-then-not-branch-clause-costs
returns-then-not-branch-clause-costs g c = record { reads = c.in_ok-advance.ensures.reads; says = tt }

pub returns-clause-costs : goal.returns-clause-costs
returns-clause-costs g c = reads_check c.word.result c.word.ensures.refusal (record { reads = c.in_ok-advance.ensures.reads; says = tt })

pub returns-clause-account : goal.returns-clause-account
returns-clause-account g c = rw c.word.ensures.cursor c.in_ok-advance.ensures.account
