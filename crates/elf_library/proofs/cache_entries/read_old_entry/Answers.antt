-- The three fields; there is no other.
use Rattle.std.proofs.Common.{ℕ, List, length, drop, ◌≤◌, length-take, ap, ◌∙◌, arith}
use Rattle.elf_model.specs.Bytes.{field, slice}
use Rattle.elf_library.proofs.CacheLaws.{no-hwcap}
use Rattle.elf_table.proofs.LedgerLaws.{CallDid-as, CallDid-of}
use Rattle.elf_library.proofs.cache_entries.read_old_entry.Goals as goal

pub returns-clause-did : goal.returns-clause-did
returns-clause-did g c =
    CallDid-as 24 (omega arith) (CallDid-of c.in_ok-fill.ensures.reads tt (λ file held. c.in_ok-fill.ensures.read file held))
    (λ file is costs.
    let few : length (slice file c.args.at 12) ≤ 16 = omega (arith, length-take 12 (drop c.args.at file)) in
    record {
      flags = c.u32_at.ensures ∙ ap (λ (b : List ℕ). field b 0 4) is;
      key = c.u32_at-2.ensures ∙ ap (λ (b : List ℕ). field b 4 4) is;
      value = c.u32_at-3.ensures ∙ ap (λ (b : List ℕ). field b 8 4) is;
      hwcap = no-hwcap (slice file c.args.at 12) few;
    })
