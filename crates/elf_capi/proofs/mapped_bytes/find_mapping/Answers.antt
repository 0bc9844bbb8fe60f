-- The program header that holds the bytes is the file's, and begins not above the address.
use Rattle.std.proofs.Common.{◌≡◌, List, ℕ, Some, ap, sym, ◌∙◌, arith}
use Rattle.elf_model.specs.Records.{segment_at}
use Rattle.elf_capi.proofs.mapped_bytes.find_mapping.Goals as goal

pub returns-in-Some : goal.returns-in-Some
returns-in-Some c =
    let file = c.args.file.now in
    let of = c.in_ok-headers.ensures in
    let place : c.segment_place.result ≡ segment_at file c.in-Some.segment =
    c.segment_place.ensures ∙ ap (λ (bytes : List ℕ). segment_at bytes c.in-Some.segment) of.bytes in
    let begins = c.program_header.ensures.fields.p_vaddr in
    let above = c.in-Some.ensures.holds.above in (
      of.pass,
      c.in-Some.ensures.held file of.segments of.header.e_phnum ∙ ap Some (sym place),
      rw place (c.program_header.ensures.is_at file of.segments),
      omega (arith, begins, above),
    )
