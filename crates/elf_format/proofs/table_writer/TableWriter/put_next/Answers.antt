-- The letter, the space and the fields of a line become what they become in a table.
use Rattle.std.proofs.Common.{◌≡◌, ◌-◌, ◌∙◌, ap, true, get_or}
use Rattle.elf_format.proofs.TableLaws.{fields_put, letter_put, line_ended, line_goes_on, space_put}
use Rattle.elf_format.proofs.table_writer.TableWriter.put_next.Goals as goal

pub returns-in_ok-begin_line-in-Letter-clause-puts : goal.returns-in_ok-begin_line-in-Letter-clause-puts
returns-in_ok-begin_line-in-Letter-clause-puts g c =
    let is : c.self.inside.is_table ≡ true = ap (λ s. s.is_table) c.self.view_is ∙ c.requires.kind in
    rw (← c.self.view_is)
    (letter_put _ _ c.self.inside.state c.args.bytes.now c.self.inside.is_table is c.in-Letter.is c.requires.some c.in_ok-begin_line-in-Letter.ensures)

pub returns-in-Space-clause-puts : goal.returns-in-Space-clause-puts
returns-in-Space-clause-puts g c =
    let is : c.self.inside.is_table ≡ true = ap (λ s. s.is_table) c.self.view_is ∙ c.requires.kind in
    rw (← c.self.view_is) (space_put _ c.self.inside.state c.args.bytes.now c.self.inside.is_table is c.in-Space.is c.requires.some)

pub returns-then-bytes-count-eq10-clause-puts : goal.returns-then-bytes-count-eq10-clause-puts
returns-then-bytes-count-eq10-clause-puts g c =
    let is : c.self.inside.is_table ≡ true = ap (λ s. s.is_table) c.self.view_is ∙ c.requires.kind in
    let end = c.line_end-count in
    rw (← c.self.view_is)
    (fields_put _ _ c.self.inside.state _ c.args.bytes.now end.result c.self.inside.is_table is c.in-Fields.is end.ensures.within.0 end.ensures.within.1 end.ensures.one
    c.in_ok-add-in-Fields.ensures (line_ended c.self.inside.state (get_or c.args.bytes.now (end.result - 1) 0) c.if-bytes-count-eq10.true))

pub returns-else-bytes-count-eq10-clause-puts : goal.returns-else-bytes-count-eq10-clause-puts
returns-else-bytes-count-eq10-clause-puts g c =
    let is : c.self.inside.is_table ≡ true = ap (λ s. s.is_table) c.self.view_is ∙ c.requires.kind in
    let end = c.line_end-count in
    rw (← c.self.view_is)
    (fields_put _ _ c.self.inside.state _ c.args.bytes.now end.result c.self.inside.is_table is c.in-Fields.is end.ensures.within.0 end.ensures.within.1 end.ensures.one
    c.in_ok-add-in-Fields.ensures (line_goes_on c.self.inside.state (get_or c.args.bytes.now (end.result - 1) 0) c.in-Fields.is c.if-bytes-count-eq10.false))
