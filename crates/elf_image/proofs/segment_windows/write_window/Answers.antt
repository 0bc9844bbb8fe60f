use Rattle.std.proofs.Common.{◌≡◌, ◌∙◌, ℕ, length, ap, arith}
use Rattle.std.proofs.lemmas.Result.{err_from_is_err_and}
use Rattle.elf_model.specs.Bytes.{slice}
use Rattle.elf_image.specs.Written.{bytes_after, bytes_before}
use Rattle.elf_image.proofs.SegmentWindowSteps.{front-as, takes-as, unread, window-before, window-itself, window-met, window-unmet}
use Rattle.elf_image.proofs.StopSteps.{read-stops, stops-after}
use Rattle.elf_table.specs.Prelude.{stop_of}
use Rattle.elf_image.proofs.segment_windows.write_window.Goals as goal
use Rattle.elf_image.proofs.segment_windows.write_window.Goals.{then-place+in_ok-patch_window, else-place}

pub returns-in_err-window-clause-text : goal.returns-in_err-window-clause-text
returns-in_err-window-clause-text g c = λ source writes from met.
    let p = err_from_is_err_and c.from_residual.result c.from_residual.ensures.1 in
    rw (p.1, p.2)
    (unread (Unit {0}) c.args.out.now c.in_err-window.field-0.0 (slice (bytes_after source c.args.target.now writes) c.args.place.low (length c.args.bytes.now)) c.in_err-window.ensures.fault)

pub returns-in_err-patch_window-clause-text : goal.returns-in_err-patch_window-clause-text
returns-in_err-patch_window-clause-text g c = λ source writes from met.
    let p = err_from_is_err_and c.from_residual-in_err-patch_window.result c.from_residual-in_err-patch_window.ensures.1 in
    let told = c.read_window.ensures.costs.reads.keeps.same_file ∙ from.file in
    rw (p.1, p.2)
    (unread (Unit {0}) c.args.out.now c.in_err-patch_window.field-0.0 (slice (bytes_after source c.args.target.now writes) c.args.place.low (length c.args.bytes.now))
    (c.in_err-patch_window.ensures.unrefused source writes told from.is_image from.are_writes))

pub returns-in_err-put-clause-text : goal.returns-in_err-put-clause-text
returns-in_err-put-clause-text g c = λ source writes from met.
    let p = err_from_is_err_and c.from_residual-in_err-put.result c.from_residual-in_err-put.ensures.1 in
    let target = c.args.target.now in
    let n : ℕ = length c.args.bytes.now in
    let low : ℕ = c.args.place.low in
    let window = c.in_ok-window.window in
    let leaves = c.args.image.now.leaves in
    let read = window-before source target from.is_target low window (c.in_ok-window.ensures.shows source.whole from.whole from.small) in
    let long : length window.bytes.now ≡ n = c.in_ok-window.ensures.long in
    let told = c.read_window.ensures.costs.reads.keeps.same_file ∙ from.file in
    let is : c.bytes.result.now ≡ slice (bytes_after source target writes) low n =
    elim c.if-place.branch [
      | then-place+in_ok-patch_window w ↦
          let patches = w.in_ok-patch_window.ensures.patches source writes told from.is_image from.is_target from.are_writes
          (window-itself (bytes_before source target) low window read) (omega (arith, read.start, long, c.requires.part)) in
          c.bytes.ensures
          ∙ (ap (λ x. x.bytes.now) w.window-is
          ∙ window-met source target from.is_target leaves writes from.are_writes low n window read long c.requires.part w.patch_window.new.window patches)
      | else-place w ↦
          let unmet = met w.if-place.false in
          c.bytes.ensures
          ∙ (ap (λ x. x.bytes.now) w.window-is
          ∙ window-unmet source target from.is_target leaves writes from.are_writes low n window read long c.requires.part unmet.0 unmet.1 unmet.2 unmet.3)
    ] in
    rw (p.1, p.2) (front-as c.args.out.now c.put.new.self c.bytes.result.now (slice (bytes_after source target writes) low n) is c.in_err-put.ensures.puts.0)

pub returns-clause-text : goal.returns-clause-text
returns-clause-text g c = λ source writes from met.
    let target = c.args.target.now in
    let n : ℕ = length c.args.bytes.now in
    let low : ℕ = c.args.place.low in
    let window = c.in_ok-window.window in
    let leaves = c.args.image.now.leaves in
    let read = window-before source target from.is_target low window (c.in_ok-window.ensures.shows source.whole from.whole from.small) in
    let long : length window.bytes.now ≡ n = c.in_ok-window.ensures.long in
    let told = c.read_window.ensures.costs.reads.keeps.same_file ∙ from.file in
    let is : c.bytes.result.now ≡ slice (bytes_after source target writes) low n =
    elim c.if-place.branch [
      | then-place+in_ok-patch_window w ↦
          let patches = w.in_ok-patch_window.ensures.patches source writes told from.is_image from.is_target from.are_writes
          (window-itself (bytes_before source target) low window read) (omega (arith, read.start, long, c.requires.part)) in
          c.bytes.ensures
          ∙ (ap (λ x. x.bytes.now) w.window-is
          ∙ window-met source target from.is_target leaves writes from.are_writes low n window read long c.requires.part w.patch_window.new.window patches)
      | else-place w ↦
          let unmet = met w.if-place.false in
          c.bytes.ensures
          ∙ (ap (λ x. x.bytes.now) w.window-is
          ∙ window-unmet source target from.is_target leaves writes from.are_writes low n window read long c.requires.part unmet.0 unmet.1 unmet.2 unmet.3)
    ] in
    takes-as c.args.out.now c.put.new.self c.bytes.result.now (slice (bytes_after source target writes) low n) is c.in_ok-put.ensures.puts.0

pub returns-in_err-window-clause-stops : goal.returns-in_err-window-clause-stops
returns-in_err-window-clause-stops g c =
    let p = err_from_is_err_and c.from_residual.result c.from_residual.ensures.1 in
    rw (p.1, p.2) (read-stops _ _ c.args.out.now _ c.in_err-window.field-0.0 c.in_err-window.ensures.costs.says)

pub returns-in_err-patch_window-clause-stops : goal.returns-in_err-patch_window-clause-stops
returns-in_err-patch_window-clause-stops g c =
    let p = err_from_is_err_and c.from_residual-in_err-patch_window.result c.from_residual-in_err-patch_window.ensures.1 in
    let fault = c.in_err-patch_window.field-0.0 in
    rw (p.1, p.2)
    (stops-after c.patch_window.new.src c.args.out.now (stop_of fault) c.read_window.ensures.costs.reads
    (read-stops _ _ c.args.out.now _ fault c.in_err-patch_window.ensures.costs.says))

pub returns-in_err-put-clause-stops : goal.returns-in_err-put-clause-stops
returns-in_err-put-clause-stops g c =
    let p = err_from_is_err_and c.from_residual-in_err-put.result c.from_residual-in_err-put.ensures.1 in
    rw (p.1, p.2) (c.in_err-put.ensures.puts.1)
