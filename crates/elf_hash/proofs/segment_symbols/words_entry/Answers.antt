-- Neither definitions nor needs; or the entry of the version symbol table.
use Rattle.std.proofs.Common.{◌∙◌}
use Rattle.elf_hash.proofs.SegmentLaws.{none_is, words_defined, words_missing, words_needed}
use Rattle.elf_hash.proofs.segment_symbols.words_entry.Goals as goal
use Rattle.elf_hash.proofs.segment_symbols.words_entry.Goals.{else-is_none-via-then-is_none+else-is_none-2, else-is_none-via-else-is_none}

pub returns-then-is_none-2 : goal.returns-then-is_none-2
returns-then-is_none-2 c = λ bytes at are. words_missing bytes at c.args.found.now are (none_is _ _ c.is_none.ensures ∙ c.if-is_none.true) (none_is _ _ c.is_none-then-is_none.ensures ∙ c.if-is_none-2.true)

pub returns : goal.returns
returns c = λ bytes at are.
    elim c.else-is_none.branch [
      | else-is_none-via-then-is_none+else-is_none-2 w ↦ words_needed bytes at c.args.found.now are (none_is _ _ c.is_none.ensures ∙ w.if-is_none.true) (none_is _ _ w.is_none-then-is_none.ensures ∙ w.if-is_none-2.false)
      | else-is_none-via-else-is_none w ↦ words_defined bytes at c.args.found.now are (none_is _ _ c.is_none.ensures ∙ w.if-is_none.false)
    ]
