-- The hash table's bytes, then the symbols.
use Rattle.std.proofs.Common.{rules, ◌≡◌, ◌⊎◌, inl, inr, true, ◌<◌, ◌≤◌, refl, ap, ◌∙◌, arith}
use Rattle.std.proofs.lemmas.Result.{err_from_is_err_and}
use Rattle.elf_model.specs.Records.{segment_at}
use Rattle.elf_record.specs.declared.ehdr.Ehdr.{Ehdr}
use Rattle.elf_hash.specs.Prelude.{hash_style_of, min_hash_bytes}
use Rattle.elf_hash.proofs.LookupTableLaws.{hash_refuses, rows_refuse, scope_settles, shape_refuses}
use Rattle.elf_hash.proofs.SettleLaws.{finds, refuses}
use Rattle.elf_hash.proofs.by_segments.segment_lookup_tables.Goals as goal
use Rattle.elf_hash.proofs.by_segments.segment_lookup_tables.Goals.{then-len-min_hash_bytes-via-then-len-min_hash_bytes, then-len-min_hash_bytes-via-else-len-min_hash_bytes+then-wide}

pub returns-in_err-hash : goal.returns-in_err-hash
returns-in_err-hash c =
    let p = err_from_is_err_and c.from_residual.result c.from_residual.ensures.1 in
    rw (p.1, p.2) (refuses _ c.in_err-hash.ensures.lies (λ bytes views are value.
    let at = segment_at bytes c.args.segment in
    (hash_refuses bytes (hash_style_of c.args.kind) c.args.segment at c.args.row.now value _ (c.in_err-hash.ensures.value bytes views))))

pub returns-then-len-min_hash_bytes : goal.returns-then-len-min_hash_bytes
returns-then-len-min_hash_bytes c =
    rw c.refused.ensures
    (refuses _ (λ budget. cc) (λ bytes views are value.
    let at = segment_at bytes c.args.segment in
    let one : (c.in_ok-hash.hash.count < min_hash_bytes c.args.kind) ⊎ (c.has_64_bit_words-wide.result ≡ true) =
    elim c.then-len-min_hash_bytes.branch [
      | then-len-min_hash_bytes-via-then-len-min_hash_bytes w ↦
          inl (let a = w.if-len-min_hash_bytes.true in let b = c.len.ensures in let d = c.min_hash_bytes.ensures in omega arith)
      | then-len-min_hash_bytes-via-else-len-min_hash_bytes+then-wide w ↦ inr w.if-wide.true
    ] in
    shape_refuses bytes (hash_style_of c.args.kind) c.args.segment at c.args.row.now value _ (c.in_ok-hash.ensures.value bytes views) _ (c.has_64_bit_words-wide.ensures bytes views) one))

pub returns-in_err-symbols : goal.returns-in_err-symbols
returns-in_err-symbols c =
    let p = err_from_is_err_and c.from_residual-in_err-symbols.result c.from_residual-in_err-symbols.ensures.1 in
    rw (p.1, p.2) (refuses _ c.in_err-symbols.ensures.refusal (λ bytes views are value.
    let at = segment_at bytes c.args.segment in
    let room : min_hash_bytes c.args.kind ≤ c.in_ok-hash.hash.count = let a = c.if-len-min_hash_bytes.false in let b = c.len.ensures in let d = c.min_hash_bytes.ensures in omega arith in
    (rows_refuse bytes (hash_style_of c.args.kind) c.args.segment at c.args.row.now value _ (c.in_ok-hash.ensures.value bytes views) _ (c.has_64_bit_words-wide.ensures bytes views) c.if-wide.false room _ (c.in_err-symbols.ensures.held bytes views at are))))

pub returns : goal.returns
returns c = finds _ (search rules) (λ bytes views are value.
    let at = segment_at bytes c.args.segment in
    let room : min_hash_bytes c.args.kind ≤ c.in_ok-hash.hash.count = let a = c.if-len-min_hash_bytes.false in let b = c.len.ensures in let d = c.min_hash_bytes.ensures in omega arith in
    scope_settles bytes (hash_style_of c.args.kind) c.args.segment at c.args.row.now value _ (c.in_ok-hash.ensures.value bytes views) _ (c.has_64_bit_words-wide.ensures bytes views) c.if-wide.false room _ (c.in_ok-symbols.ensures.held bytes views at are)
    (ap (λ (h : Ehdr). h.e_machine) c.header.ensures.value ∙ views.belongs.header.e_machine) refl refl c.at.ensures c.len-2.ensures c.len-3.ensures)
