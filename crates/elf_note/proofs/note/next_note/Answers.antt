use Rattle.std.proofs.Common.{◌≡◌, ℕ, ◌+◌, ◌-◌, ◌<◌, ◌≤◌, min, length, inl, ap, sym, ◌∙◌, arith, rules}
use Rattle.std.proofs.lemmas.List.{take_at}
use Rattle.std.proofs.lemmas.Result.{err_from_is_err_and}
use Rattle.elf_model.specs.Prelude.{descriptor_start, slice}
use Rattle.elf_record.specs.NoteHead.{IsNoteHead}
use Rattle.elf_table.specs.Windows.{bytes_left, range_end}
use Rattle.elf_note.specs.NoteCursors.{note_size}
use Rattle.elf_note.proofs.Stepping.{left-zeros, left-few, left-short, found-tells, no-cut, taken-size}
use Rattle.elf_table.proofs.ThroughLaws.{through_err, through_ok, through_skip, through_then}
use Rattle.elf_note.proofs.note.next_note.Given.{Over}
use Rattle.elf_note.proofs.note.next_note.Goals.{In_ok-read_rest}
use Rattle.elf_note.proofs.note.next_note.Goals as goal

pub returns-then-branch-clause-tells : goal.returns-then-branch-clause-tells
returns-then-branch-clause-tells g c = λ file h a.
    left-zeros c.args.align file c.args.window.now (search rules) (sym (c.in_ok-ends_in_zeros.ensures.zeros file h a) ∙ c.if-branch.true)

pub returns-then-left-clause-tells : goal.returns-then-left-clause-tells
returns-then-left-clause-tells g c = λ file h a f.
    left-few c.args.align file c.args.window.now (search rules) (sym (c.in_ok-ends_in_zeros.ensures.zeros file h a) ∙ c.if-branch.false)

pub returns-in_default-clause-tells : goal.returns-in_default-clause-tells
returns-in_default-clause-tells g c = λ file h a f.
    let w = c.args.window.now in
    let head = c.decode-head.result in
    let many : 12 ≤ bytes_left w = search rules in
    let sized = c.args.src.now.seen.sized file h in
    let some = c.requires.within (omega arith) in
    let ends : range_end w ≤ length file = omega arith in
    let is_at : IsNoteHead file w.at head = c.decode-head.ensures.is_at file w.at (c.in_ok-take.ensures.taken file h a) in
    let tm = c.in_ok-take.ensures.reads.went.moves.same_end in
    let ta = c.in_ok-take.ensures.at in
    let lf = c.left-2.ensures.value in
    let short = c.in_default.ensures in
    let few : bytes_left w < descriptor_start c.args.align head.namesz head.descsz + head.descsz = omega arith in
    left-short c.args.align file w head is_at ends many few

-- the offsets of the parts of a note that is read, and the window after it
laid : (g : Over) (c : In_ok-read_rest g)
    → let w = c.args.window.now in
    let head = c.decode-head.result in
    let start = descriptor_start c.args.align head.namesz head.descsz in
    (c.at-desc_at.result ≡ w.at + start) × (start + head.descsz ≤ bytes_left w) × (range_end c.read_rest.new.window ≡ range_end w)
    × (c.read_rest.new.window.at ≡ w.at + note_size c.args.align head.namesz head.descsz (bytes_left w))
laid g c =
    let w = c.args.window.now in
    let head = c.decode-head.result in
    let start : ℕ = descriptor_start c.args.align head.namesz head.descsz in
    let parts = c.in-Some.parts in
    let are = c.in-Some.ensures in
    let ta : c.take.new.window.at ≡ w.at + 12 = c.in_ok-take.ensures.at in
    let te : range_end c.take.new.window ≡ range_end w = c.in_ok-take.ensures.reads.went.moves.same_end in
    let lf : c.left-2.result ≡ bytes_left c.take.new.window = c.left-2.ensures.value in
    let f1 : c.from.result ≡ head.namesz = c.from.ensures in
    let f2 : c.from-2.result ≡ head.namesz = c.from-2.ensures in
    let na : c.read_name.new.window.at ≡ c.take.new.window.at + c.from.result = c.in_ok-name_end.ensures.at in
    let ne : range_end c.read_name.new.window ≡ range_end c.take.new.window = c.in_ok-name_end.ensures.reads.went.moves.same_end in
    let sa : c.skip.new.self.at ≡ c.read_name.new.window.at + (parts.descriptor - 12 - c.from-2.result) = c.skip.ensures.at in
    let se : range_end c.skip.new.self ≡ range_end c.read_name.new.window = c.skip.ensures.end in
    let da : c.at-desc_at.result ≡ c.skip.new.self.at = c.at-desc_at.ensures.value in
    let left : 12 + c.left-2.result ≡ bytes_left w = omega (arith, ta, te, lf) in
    let begins : parts.descriptor ≡ start = are.descriptor in
    let place : c.skip.new.self.at ≡ w.at + start = omega (arith, ta, f1, f2, na, sa, begins) in
    let fits : start + head.descsz ≤ bytes_left w = omega (arith, are.fits, begins, left) in
    let size : parts.size ≡ note_size c.args.align head.namesz head.descsz (bytes_left w) = are.size ∙ ap (note_size c.args.align head.namesz head.descsz) left in
    let within = are.within in
    let rest : c.read_rest.new.window.at ≡ c.skip.new.self.at + (parts.size - parts.descriptor) = c.in_ok-read_rest.ensures.at in
    let moved : c.read_rest.new.window.at ≡ w.at + parts.size = omega (arith, rest, place, begins, within) in (
      da ∙ place,
      fits,
      c.in_ok-read_rest.ensures.reads.went.moves.same_end ∙ se ∙ ne ∙ te,
      moved ∙ ap (λ (n : ℕ). w.at + n) size,
    )

pub returns-clause-tells : goal.returns-clause-tells
returns-clause-tells g c = λ file h a.
    let w = c.args.window.now in
    let head = c.decode-head.result in
    let all = laid g (goal.at.returns-clause-tells g c).In_ok-read_rest in
    let h1 = c.in_ok-take.ensures.reads.went.reads.keeps.same_file ∙ h in
    let h2 = c.in_ok-name_end.ensures.reads.went.reads.keeps.same_file ∙ h1 in
    let a1 = c.in_ok-take.ensures.reads.went.agrees file h a in
    let a2 = c.skip.ensures.agrees file (c.in_ok-name_end.ensures.reads.went.agrees file h1 a1) in
    let many : 12 ≤ bytes_left w = search rules in
    let sized = c.args.src.now.seen.sized file h in
    let some = c.requires.within (omega arith) in
    let ends : range_end w ≤ length file = omega arith in
    let is_at : IsNoteHead file w.at head = c.decode-head.ensures.is_at file w.at (c.in_ok-take.ensures.taken file h a) in
    let f3 : c.from.result ≡ head.namesz = c.from.ensures in
    let size : length c.read_rest.new.desc ≡ c.min-shown.result = search (rules, c.read_rest.auto.desc) in
    let rest : c.read_rest.new.desc ≡ slice file c.at-desc_at.result c.min-shown.result =
    c.in_ok-read_rest.ensures.read file h2 a2 ∙ ap (slice file c.skip.new.self.at) (sym c.read_rest.auto.desc ∙ size) ∙ ap (λ (x : ℕ). slice file x c.min-shown.result) (sym c.at-desc_at.ensures.value) in
    found-tells file c.args.align c.args.cap.bytes w c.read_rest.new.window head c.in_ok-name_end.name_end c.read_name.new.name _ c.at-at.result c.at-desc_at.result c.min-shown.result
    c.at-at.ensures.value is_at ends many all.1 all.2 all.3
    (λ note n l. c.in_ok-name_end.ensures.read file h1 a1 note (n ∙ ap (λ (x : ℕ). slice file x head.namesz) (sym c.in_ok-take.ensures.at) ∙ ap (slice file c.take.new.window.at) (sym f3)) (l ∙ sym f3))
    all.0 (c.min-shown.ensures ∙ ap (λ (x : ℕ). min x 32) c.from-3.ensures) (take_at c.read_rest.new.desc _ c.min-shown.result size ∙ rest)

pub returns-clause-sized : goal.returns-clause-sized
returns-clause-sized g c =
    let all = laid g (goal.at.returns-clause-sized g c).In_ok-read_rest in
    record {
      size = taken-size c.args.align c.decode-head.result c.args.window.now c.read_rest.new.window all.2 all.3;
      ends = omega (arith, all.0, all.1);
    }

pub returns-clause-went : goal.returns-clause-went
returns-clause-went g c =
    let s = c.skip.ensures in
    let named = through_then c.in_ok-take.ensures.reads.went c.in_ok-name_end.ensures.reads.went in
    let rest = through_then (through_skip named s) c.in_ok-read_rest.ensures.reads.went in
    through_ok _ rest

pub returns-in_err-ends_in_zeros : goal.returns-in_err-ends_in_zeros
returns-in_err-ends_in_zeros g c =
    let p = err_from_is_err_and c.from_residual.result c.from_residual.ensures.1 in
    let e = c.in_err-ends_in_zeros.ensures in
    rw (p.1, p.2) (record { went = through_err (e.reads.went); stops = inl e.reads.fault; passes = tt; sized = tt; tells = λ file h a cut. absurd (no-cut _ e.reads.fault cut) })

pub returns-in_err-take : goal.returns-in_err-take
returns-in_err-take g c =
    let p = err_from_is_err_and c.from_residual-in_err-take.result c.from_residual-in_err-take.ensures.1 in
    let e = c.in_err-take.ensures in
    rw (p.1, p.2) (record { went = through_err (e.reads.went); stops = inl e.reads.fault; passes = tt; sized = tt; tells = λ file h a cut. absurd (no-cut _ e.reads.fault cut) })

pub returns-in_err-name_end : goal.returns-in_err-name_end
returns-in_err-name_end g c =
    let p = err_from_is_err_and c.from_residual-in_err-name_end.result c.from_residual-in_err-name_end.ensures.1 in
    let e = c.in_err-name_end.ensures in
    rw (p.1, p.2) (record { went = through_err (through_then c.in_ok-take.ensures.reads.went e.reads.went); stops = inl e.reads.fault; passes = tt; sized = tt; tells = λ file h a cut. absurd (no-cut _ e.reads.fault cut) })

pub returns-in_err-read_rest : goal.returns-in_err-read_rest
returns-in_err-read_rest g c =
    let p = err_from_is_err_and c.from_residual-in_err-read_rest.result c.from_residual-in_err-read_rest.ensures.1 in
    let e = c.in_err-read_rest.ensures in
    let s = c.skip.ensures in
    let named = through_then c.in_ok-take.ensures.reads.went c.in_ok-name_end.ensures.reads.went in
    rw (p.1, p.2) (record { went = through_err (through_then (through_skip named s) e.reads.went); stops = inl e.reads.fault; passes = tt; sized = tt; tells = λ file h a cut. absurd (no-cut _ e.reads.fault cut) })
