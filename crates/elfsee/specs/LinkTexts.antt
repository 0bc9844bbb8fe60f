-- The texts of a link, and the paths of its inputs among them.
use Rattle.std.specs.Prelude.{ℕ, ◌+◌, nat_le, if◌then◌else◌, List, [], length, Option, None, Some}
use Rattle.std.specs.List.{slice_get}
use Rattle.elf_model.specs.Bytes.{slice}
use Rattle.elfsee.specs.declared.link_texts.TextPlace.{TextPlace}

-- a text, which is empty if the bytes have none at its place
abbrev pub text_at : List ℕ → TextPlace → List ℕ
text_at bytes place = if nat_le (place.start + place.size) (length bytes) then slice bytes place.start place.size else []

-- THE PATH of an input, which is empty if there is no such input
abbrev pub path_at : List ℕ → Option TextPlace → List ℕ
path_at bytes None = []
path_at bytes (Some place) = text_at bytes place

abbrev pub path_of_input : List ℕ → List TextPlace → (input : ℕ) → List ℕ
path_of_input bytes paths input = path_at bytes (slice_get paths input)
