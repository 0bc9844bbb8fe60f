use Rattle.std.proofs.Common.{◌≡◌, ◌+◌, ◌*◌, ◌≤◌, ◌&&◌, ◌++◌, true, length}
use Rattle.arrayvec.specs.ArrayVec.{array_vec_len}
use Rattle.elf_model.specs.Prelude.{properties_in, with_properties}
use Rattle.elf_format.specs.Properties.{is_cut, is_none_listed}
use Rattle.elf_format.proofs.properties.put_properties.Given as goal

-- what is appended, and the properties that are left, are the properties
abbrev pub invariant-loop-property : goal.invariant-loop-property
invariant-loop-property l = record {
  items : l.text.items ++ with_properties l.is_first (properties_in l.rest).properties ≡ l.fn.text.items ++ with_properties true (properties_in l.bytes).properties;
  first : (l.is_first && is_none_listed (properties_in l.rest)) ≡ is_none_listed (properties_in l.bytes);
  cut : is_cut (properties_in l.rest) ≡ is_cut (properties_in l.bytes);
  room : array_vec_len l.text + 7 * length l.rest ≤ array_vec_len l.fn.text + 7 * length l.bytes;
  few : length l.rest ≤ 32;
}

abbrev pub decreases-loop-property : goal.decreases-loop-property
decreases-loop-property l = length l.rest
