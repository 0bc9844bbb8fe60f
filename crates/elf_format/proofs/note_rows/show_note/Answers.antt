-- The text after the name is the content, or the digits.
use Rattle.elf_format.specs.Named.{shown_as}
use Rattle.elf_format.proofs.NoteText.{described_by}
use Rattle.elf_format.proofs.note_rows.show_note.Goals as goal

pub returns-in-Some-clause-puts : goal.returns-in-Some-clause-puts
returns-in-Some-clause-puts g c = λ descriptor known.
    let front = c.args.front.now in
    let content = rw (← c.requires.format) at c.in-Some.ensures.content in
    rw (described_by front.format front.key.now front.line.items c.args.head.now.kind c.args.head.now.descsz (shown_as c.args.is_cut c.args.name.now) c.args.first_bytes.now descriptor _ known.first_is known.size_is content)
    c.show_content.ensures.puts

pub returns-in-None-clause-puts : goal.returns-in-None-clause-puts
returns-in-None-clause-puts g c = λ descriptor known.
    let front = c.args.front.now in
    let content = rw (← c.requires.format) at c.in-None.ensures.content in
    rw (described_by front.format front.key.now front.line.items c.args.head.now.kind c.args.head.now.descsz (shown_as c.args.is_cut c.args.name.now) c.args.first_bytes.now descriptor _ known.first_is known.size_is content)
    c.show_digits.ensures.puts
