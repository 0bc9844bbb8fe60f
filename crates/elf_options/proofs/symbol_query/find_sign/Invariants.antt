-- No byte before is the sign.
use Rattle.std.proofs.Common.{◌≡◌, ℕ, ◌<◌, ◌==◌, false, get_or}
use Rattle.elf_model.specs.Loader.{AT_SIGN}
use Rattle.elf_options.proofs.symbol_query.find_sign.Given as goal

abbrev pub invariant-loop-place : goal.invariant-loop-place
invariant-loop-place l = (i : ℕ) → i < l.place → (get_or l.text i 0 == AT_SIGN) ≡ false
