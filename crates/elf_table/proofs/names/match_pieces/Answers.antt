use Rattle.std.proofs.Common.{◌≡◌, ℕ, ◌+◌, List, Some, length, refl, ◌∙◌, arith, rules}
use Rattle.elf_model.specs.Bytes.{slice}
use Rattle.elf_table.proofs.LedgerLaws.{CallDid-of}
use Rattle.elf_table.proofs.NameWindows.{piece-of_file, piece-some, Between-next, ReadsUpTo-next}
use Rattle.elf_table.proofs.Pieces.{alike-more, differ-here}
use Rattle.elf_table.proofs.names.match_pieces.Goals as goal

pub returns-then-not-agrees-clause-did : goal.returns-then-not-agrees-clause-did
returns-then-not-agrees-clause-did g c =
    let l = c.loop-done in
    let i = l.invariant in
    let b = c.in_ok-fill_buf.ensures in
    let p = c.front-piece.result.now in
    CallDid-of (search rules) tt (λ file h.
    let piece = piece-of_file file c.args.start c.args.want l.done l.window c.fill_buf.new.self p i.is_at b.brings
    (λ bytes e. b.went.agrees bytes (i.reads.keeps.same_file ∙ h ∙ e)) c.front-piece.ensures in
    let some = piece-some c.args.start c.args.want l.done l.window c.fill_buf.new.self p _ _ i.is_at b.brings b.went.moves c.front-piece.ensures in
    let other = c.if-not-agrees.ensures in
    let sized = c.args.src.now.seen.sized file h in
    let ends = c.requires.within in
    differ-here file p c.args.wanted.now c.args.start l.done (length p) c.args.want other.0 piece refl other.1 other.2 some.1 (omega arith))

pub loop-done-preserved : goal.loop-done-preserved
loop-done-preserved g c =
    let l = c.loop-done in
    let i = l.invariant in
    let b = c.in_ok-fill_buf.ensures in
    let p = c.front-piece.result.now in
    let some = piece-some c.args.start c.args.want l.done l.window c.fill_buf.new.self p _ _ i.is_at b.brings b.went.moves c.front-piece.ensures in
    let piece : (file : List ℕ) → c.args.src.now.seen.file ≡ Some file → p ≡ slice file (c.args.start + l.done) (length p) =
    λ file h. piece-of_file file c.args.start c.args.want l.done l.window c.fill_buf.new.self p i.is_at b.brings
    (λ bytes e. b.went.agrees bytes (i.reads.keeps.same_file ∙ h ∙ e)) c.front-piece.ensures in
    let s = c.skip.ensures in
    record {
      in_range = some.1;
      is_at = Between-next c.args.start c.args.want l.done l.window c.fill_buf.new.self c.skip.new.self p _ _ i.is_at b.brings b.went.moves c.front-piece.ensures s.at s.end s.page s.held;
      reads = ReadsUpTo-next c.args.src.now l.src c.fill_buf.new.src c.args.start c.args.want l.done l.window c.fill_buf.new.self p i.is_at b.brings b.went.moves c.front-piece.ensures i.reads b.went.reads;
      alike = λ file h. alike-more file p c.args.wanted.now c.args.start l.done (length p) (piece file h) refl (i.alike file h) c.if-not-agrees.ensures;
    }
