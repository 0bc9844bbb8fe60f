use Rattle.std.proofs.lemmas.Result.{err_from_is_err_and}
use Rattle.elf_resolve.proofs.KeyLaws.{index_within}
use Rattle.elf_resolve.proofs.TableLaws.{entered_not_used, name_used_by, not_entered_used}
use Rattle.elf_resolve.proofs.table.KeyTable.use_name.Goals as goal

pub use_key-requires : goal.use_key-requires
use_key-requires c =
    let entered = c.in_ok-index.ensures in
    rw (entered.index_is, entered.keys) (index_within c.args.self.now.keys c.args.name.now)

pub returns-in_err-index : goal.returns-in_err-index
returns-in_err-index c =
    let p = err_from_is_err_and c.from_residual.result c.from_residual.ensures.1 in
    rw (p.1, p.2) (not_entered_used _ _ _ _ _ c.in_err-index.ensures)

pub returns-in_err-use_key : goal.returns-in_err-use_key
returns-in_err-use_key c =
    let p = err_from_is_err_and c.from_residual-in_err-use_key.result c.from_residual-in_err-use_key.ensures.1 in
    rw (p.1, p.2) (entered_not_used _ _ _ _ _ _ _ c.in_ok-index.ensures c.in_err-use_key.ensures)

pub returns : goal.returns
returns c = name_used_by _ _ _ _ _ _ _ c.in_ok-index.ensures c.in_ok-use_key.ensures
