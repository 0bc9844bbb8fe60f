-- The next record of the walk is the first.
use Rattle.std.proofs.Common.{[], List, ℕ, ap, sym, ◌∙◌}
use Rattle.elf_model.specs.Prelude.{needed_versions}
use Rattle.elf_loader.proofs.LeftReadings.{left_of, start-left}
use Rattle.elf_library.proofs.needed_versions.NeedsWalk.new.Goals as goal

pub returns-clause-starts : goal.returns-clause-starts
returns-clause-starts c =
    λ file told is. (
      record { is = is; agrees = c.one_by_one.ensures.agrees file },
      ap (λ (library : List ℕ). needed_versions file library (left_of file told.strings [] c.one_by_one.result)) c.new.ensures
          ∙ ap (needed_versions file []) (sym (start-left file told c.args.records.now [] c.one_by_one.result c.one_by_one.ensures.starts is)),
    )
