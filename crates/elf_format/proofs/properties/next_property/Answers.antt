-- Fewer bytes than a header has, than its data has with it, or a property.
use Rattle.std.proofs.Common.{◌≡◌, ◌+◌, ◌-◌, ap, inr, arith, take, drop}
use Rattle.elf_format.proofs.ContentLaws.{few_left, no_data, one_property}
use Rattle.elf_format.proofs.properties.next_property.Goals as goal

pub returns-then-bytes-lt-HEAD_BYTES-clause-next : goal.returns-then-bytes-lt-HEAD_BYTES-clause-next
returns-then-bytes-lt-HEAD_BYTES-clause-next c = few_left c.args.bytes.now c.if-bytes-lt-HEAD_BYTES.true

pub returns-then-bytes-datasz-clause-next : goal.returns-then-bytes-datasz-clause-next
returns-then-bytes-datasz-clause-next c =
    inr (omega arith, no_data c.args.bytes.now c.word_at-datasz.result (omega arith) c.word_at-datasz.ensures c.if-bytes-datasz.true)

pub returns-clause-next : goal.returns-clause-next
returns-clause-next c =
    let back : 8 + c.word_at-datasz.result - 8 ≡ c.word_at-datasz.result = omega arith in
    one_property c.args.bytes.now _ _ c.word_at-datasz.result _ (omega arith) c.word_at-kind.ensures c.word_at-datasz.ensures (omega arith)
    (ap (λ n. take n (drop 8 c.args.bytes.now)) back) (omega arith)
