-- Whether one of all entries has the name is whether one of those that are left has it.
use Rattle.std.proofs.Common.{◌≡◌, drop, length}
use Rattle.std.specs.List.{list_any}
use Rattle.elf_needs.specs.Providers.{has_needed_name, is_needed}
use Rattle.elf_needs.proofs.known_object.ObjectList.is_needed.Given as goal

abbrev pub invariant-loop-place : goal.invariant-loop-place
invariant-loop-place l = record {
  others : is_needed l.self l.name ≡ list_any (has_needed_name l.self.links.held.texts l.name) (drop l.place l.self.links.needs);
  end : l.place-end ≡ length l.self.links.needs;
}
