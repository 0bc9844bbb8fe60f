-- What happened to the rest of an output of whole lines.
use Rattle.std.proofs.Common.{◌≡◌, ℕ, Bool, true, false, List, Option, length, take, drop, sym, subst, take-append-drop}
use Rattle.std.proofs.Math.Seq.{take-length}
use Rattle.std.specs.Io.KnownBytes.{Appends}
use Rattle.elf_source.specs.Output.{DeferredState}
use Rattle.elf_cli.specs.Prelude.{GivesFront, PutsRest}

pub rest_put : (old new : DeferredState) (failed : Bool) (taken : Option (List ℕ)) → GivesFront old new (length old.held) → failed ≡ new.failed → taken ≡ new.below → PutsRest true failed old.held old.below taken
rest_put old new false taken gives same is =
    let all = gives.all (sym same) in
    rw is (subst (λ (l : List ℕ). Appends old.below new.below l) (take-length old.held) (rw all at gives.went))
rest_put old new true taken gives same is =
    rw is (take gives.given old.held, drop gives.given old.held, sym (take-append-drop gives.given old.held), gives.went)
