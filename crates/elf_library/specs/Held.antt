-- Texts that are stored, and what files need, with the room that is left.
use Rattle.std.specs.Prelude.{ℕ, List, [], ◌∷◌, ◌++◌}
use Rattle.elf_model.specs.Links.{TextRoom, room_after}
use Rattle.elf_library.specs.declared.links.NeededLibrary.{NeededLibrary}

-- texts one after the other, and room for more
pub record HeldTexts : Type 0 where
  pub texts : List (List ℕ)
  pub room : TextRoom

-- with one more text
abbrev pub with_text : HeldTexts → List ℕ → HeldTexts
with_text held text = record { texts = held.texts ++ text ∷ []; room = room_after held.room text }

-- texts, and what files need
pub record LinkInfoState : Type 0 where
  pub held : HeldTexts
  pub needs : List NeededLibrary
