-- The first section of versym entries, if one of both kinds of records has a byte.
use Rattle.std.proofs.Common.{sym, ◌∙◌}
use Rattle.elf_hash.proofs.VersionLaws.{words_defined, words_needed, words_unread}
use Rattle.elf_hash.proofs.section_versions.words_section.Goals as goal
use Rattle.elf_hash.proofs.section_versions.words_section.Goals.{then-has_bytes-via-then-has_bytes, then-has_bytes-via-else-has_bytes+then-has_bytes-2}

pub returns-then-has_bytes-clause-held : goal.returns-then-has_bytes-clause-held
returns-then-has_bytes-clause-held c = λ bytes belongs.
    c.first.ensures.held bytes belongs
    ∙ elim c.then-has_bytes.branch [
      | then-has_bytes-via-then-has_bytes w ↦ words_defined bytes (sym (c.has_bytes.ensures bytes belongs) ∙ w.if-has_bytes.true)
      | then-has_bytes-via-else-has_bytes+then-has_bytes-2 w ↦
          words_needed bytes (sym (c.has_bytes.ensures bytes belongs) ∙ w.if-has_bytes.false) (sym (w.has_bytes-else-has_bytes.ensures bytes belongs) ∙ w.if-has_bytes-2.true)
    ]

pub returns-clause-held : goal.returns-clause-held
returns-clause-held c = λ bytes belongs.
    words_unread bytes (sym (c.has_bytes.ensures bytes belongs) ∙ c.if-has_bytes.false) (sym (c.has_bytes-else-has_bytes.ensures bytes belongs) ∙ c.if-has_bytes-2.false)
