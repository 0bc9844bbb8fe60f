-- A note lists properties, or the next may.
use Rattle.std.proofs.Common.{◌≡◌, ℕ, ◌+◌, ◌*◌, ◌<◌, ◌≤◌, Some, Ok, refl, sym, ap, ◌∙◌, arith}
use Rattle.std.proofs.lemmas.Result.{err_from_is_err_and}
use Rattle.elf_model.specs.Notes.{note_align}
use Rattle.elf_record.specs.declared.note_head.NoteHead.{NoteHead}
use Rattle.elf_source.proofs.ReadsLaws.{ReadsUpTo-none, ReadsUpTo-then, ReadsUpTo-to}
use Rattle.elf_loader.specs.Lists.{is_list}
use Rattle.elf_loader.proofs.ListLaws.{kind_is, list_none, list_stops, named_is, namesz_is, note_gone, note_here, notes_begin, step_note}
use Rattle.elf_loader.proofs.SpendLaws.{charges_after}
use Rattle.elf_loader.proofs.trait_notes.first_list.Goals as goal

pub notes-init : goal.notes-init
notes-init g c =
    let n = c.new-cursor.ensures in
    let unread = ap (λ w. w.unread) n.ahead in
    record {
      same_table = n.its_table;
      same_align = n.its_align;
      not_failed = n.not_failed;
      reads = ReadsUpTo-none c.args.src.now _;
      account = omega (arith, unread);
      ends = rw n.ahead (omega arith);
      onward = rw n.ahead (omega arith);
      agrees = λ file held. rw n.ahead refl;
      left = λ file held. notes_begin file c.args.align c.args.table c.new-cursor.result.ahead n.ahead;
    }

pub returns-in_err-advance : goal.returns-in_err-advance
returns-in_err-advance g c =
    let p = err_from_is_err_and c.from_residual.result c.from_residual.ensures.1 in
    let i = c.notes.invariant in
    let e = c.in_err-advance.ensures in
    let account = i.account in
    rw (p.1, p.2)
    (record {
      did = record {
        costs = charges_after _ i.reads (omega (arith, account)) (record { reads = e.asks.reads; says = e.asks.says i.not_failed });
        known = λ file held.
            let now = i.reads.keeps.same_file ∙ held in
            let align = note_align c.args.align in
            let tells = rw i.same_align at (e.steps.tells file now (i.agrees file held) i.not_failed) in
            list_stops file align c.args.align c.args.table c.notes.cursor.ahead _ (i.left file held) (e.steps.leaves.1 i.not_failed) tells;
      };
      within = tt;
    })

pub returns-then-is_property_note : goal.returns-then-is_property_note
returns-then-is_property_note g c =
    let i = c.notes.invariant in
    let a = c.in_ok-advance.ensures in
    let old = c.notes.cursor in
    let new = c.advance.new.self in
    let align = note_align c.args.align in
    let step = step_note _ align 63 old new c.advance.new.name c.in_ok-advance.field-0 c.if-branch.true i.same_align a.steps in
    let account = i.account in
    let asks = a.asks.reads in
    let less = step.less in
    let shows = c.row-row.ensures.shows in
    let all = ap (λ (n : ℕ). c.args.table.count * n) c.requires.bytes in
    record {
      did = record {
        costs = charges_after _ i.reads (omega (arith, account)) (record { reads = asks; says = tt });
        known = λ file held.
            let now = i.reads.keeps.same_file ∙ held in
            let gives = step.gives file now (i.agrees file held) in
            let lists = sym (c.is_property_note.ensures gives.0 (kind_is file align old new _ _ shows gives.0 gives.2) (namesz_is file align old new _ _ shows gives.0 gives.2) (named_is file align old new _ _ shows gives.0 gives.2 _ c.bytes.ensures.value)) ∙ c.if-is_property_note.true in
            let size : c.row-row.result.head.descsz ≡ c.from.result = sym c.from.ensures in
            i.left file held ∙ (note_here file align old new _ c.row-row.result shows gives.0 gives.2 _ gives.1 lists
            ∙ ap (λ (n : ℕ). Ok (Some (is_list file (record { at = c.row-row.result.desc_at; size = n })))) size);
      };
      within =
          let size : c.from.result ≡ c.row-row.result.head.descsz = c.from.ensures in
          let head : c.row-row.result.head.descsz ≡ new.found.head.descsz = ap (λ (h : NoteHead). h.descsz) shows.its_head in
          let place : c.row-row.result.desc_at ≡ new.found.desc_at = shows.its_descriptor in
          let end = step.takes.ends in
          let ends = i.ends in
          let some : 0 < c.args.table.count = omega (arith, ends, less, i.onward) in
          let fits : c.args.table.at + c.args.table.count * c.args.table.entry ≤ c.args.src.now.seen.size = c.requires.within some in
          omega (arith, size, head, place, end, ends, all, fits);
    }

pub notes-preserved : goal.notes-preserved
notes-preserved g c =
    let i = c.notes.invariant in
    let a = c.in_ok-advance.ensures in
    let old = c.notes.cursor in
    let new = c.advance.new.self in
    let align = note_align c.args.align in
    let step = step_note _ align 63 old new c.advance.new.name c.in_ok-advance.field-0 c.if-branch.true i.same_align a.steps in
    let account = i.account in
    let more = a.keeps.moves.account in
    let shows = c.row-row.ensures.shows in
    record {
      same_table = a.keeps.same_table ∙ i.same_table;
      same_align = a.keeps.same_align ∙ i.same_align;
      not_failed = step.going;
      reads = ReadsUpTo-to (ReadsUpTo-then i.reads a.asks.reads) (omega (arith, account, more));
      account = omega (arith, account, more);
      ends = a.keeps.moves.same_end ∙ i.ends;
      onward = omega (arith, i.onward, a.keeps.moves.onward);
      agrees = λ file held. step.agrees file (i.reads.keeps.same_file ∙ held) (i.agrees file held);
      left = λ file held.
          let now = i.reads.keeps.same_file ∙ held in
          let gives = step.gives file now (i.agrees file held) in
          let isnt = sym (c.is_property_note.ensures gives.0 (kind_is file align old new _ _ shows gives.0 gives.2) (namesz_is file align old new _ _ shows gives.0 gives.2) (named_is file align old new _ _ shows gives.0 gives.2 _ c.bytes.ensures.value)) ∙ c.if-is_property_note.false in
          i.left file held ∙ note_gone file align old new _ c.row-row.result shows gives.0 gives.2 gives.1 isnt step.takes a.keeps.moves.same_end;
    }

pub returns : goal.returns
returns g c =
    let i = c.notes.invariant in
    let a = c.in_ok-advance.ensures in
    let account = i.account in
    record {
      did = record {
        costs = charges_after _ i.reads (omega (arith, account)) (record { reads = a.asks.reads; says = tt });
        known = λ file held.
            let now = i.reads.keeps.same_file ∙ held in
            let align = note_align c.args.align in
            let step = rw c.if-branch.false at a.steps in
            let tells = rw i.same_align at (step.tells file now (i.agrees file held)) in
            list_none file align c.args.align c.args.table c.notes.cursor.ahead (i.left file held) tells;
      };
      within = tt;
    }
