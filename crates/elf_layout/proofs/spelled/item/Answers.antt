use Rattle.std.proofs.Common.{refl}
use Rattle.elf_layout.proofs.ItemLaws.{spelled_so}
use Rattle.elf_layout.proofs.spelled.item.Goals as goal

pub returns-clause-unspelled : goal.returns-clause-unspelled
returns-clause-unspelled c = λ none item spells.
    c.item_of.ensures.none none item (spelled_so _ _ _ c.in_ok-key.ensures.parts item spells).0

pub returns-in_err-address-clause-unspelled : goal.returns-in_err-address-clause-unspelled
returns-in_err-address-clause-unspelled c = λ none item spells.
    c.in_err-address.ensures.none refl _ (spelled_so _ _ _ c.in_ok-key.ensures.parts item spells).1
