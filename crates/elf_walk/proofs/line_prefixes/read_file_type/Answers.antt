-- The type of a file, by the bytes that determine it.
use Rattle.std.proofs.Common.{◌≡◌, ◌≤◌, sym, ap, ◌∙◌, arith}
use Rattle.elf_model.specs.FileLists.{front_size, may_read_bytes}
use Rattle.elf_walk.proofs.LinePrefixLaws.{eight_decide, eight_long, four_decide, four_front, front_type, short_type, undecided_type}
use Rattle.elf_walk.proofs.line_prefixes.read_file_type.Goals as goal

pub returns-then-size-lt-ELF_MAGIC_BYTES : goal.returns-then-size-lt-ELF_MAGIC_BYTES
returns-then-size-lt-ELF_MAGIC_BYTES g c =
    short_type c.args.members c.args.budget c.args.src.now (omega (arith, c.length-size.ensures.value, c.if-size-lt-ELF_MAGIC_BYTES.true))

pub returns-then-not-may_read_bytes : goal.returns-then-not-may_read_bytes
returns-then-not-may_read_bytes g c =
    let front = c.front_bytes-front.ensures ∙ ap (front_size c.args.members) c.length-size.ensures.value in
    undecided_type c.args.members c.args.budget c.args.src.now (omega (arith, c.length-size.ensures.value, c.if-size-lt-ELF_MAGIC_BYTES.false))
    (sym (ap (may_read_bytes c.args.budget) front) ∙ (sym c.may_read_bytes.ensures ∙ c.if-not-may_read_bytes.true))

pub returns-then-front-eq-ARCHIVE_MAGIC_BYTES : goal.returns-then-front-eq-ARCHIVE_MAGIC_BYTES
returns-then-front-eq-ARCHIVE_MAGIC_BYTES g c =
    let members = c.args.members in
    let budget = c.args.budget in
    let did = c.sort_with_members.ensures in
    let front = c.front_bytes-front.ensures ∙ ap (front_size members) c.length-size.ensures.value in
    let eight = sym front ∙ c.if-front-eq-ARCHIVE_MAGIC_BYTES.true in
    let least : 8 ≤ c.args.src.now.seen.size = eight_long members c.args.src.now.seen.size eight in
    front_type members budget c.args.src.now c.sort_with_members.new.src 8 (omega (arith, least)) eight
    (sym (ap (may_read_bytes budget) front) ∙ (sym c.may_read_bytes.ensures ∙ c.if-not-may_read_bytes.false)) did.fills c.sort_with_members.result did.fails
    _ did.finds (λ file long may is. eight_decide members budget file long may is) (λ is. record { size = least; magic = did.begins is })

pub returns : goal.returns
returns g c =
    let members = c.args.members in
    let budget = c.args.budget in
    let did = c.sort_alone.ensures in
    let front = c.front_bytes-front.ensures ∙ ap (front_size members) c.length-size.ensures.value in
    let four : front_size members c.args.src.now.seen.size ≡ 4 = four_front members c.args.src.now.seen.size (λ eight. c.if-front-eq-ARCHIVE_MAGIC_BYTES.false (front ∙ eight)) in
    front_type members budget c.args.src.now c.sort_alone.new.src 4 (omega (arith, c.length-size.ensures.value, c.if-size-lt-ELF_MAGIC_BYTES.false)) four
    (sym (ap (may_read_bytes budget) front) ∙ (sym c.may_read_bytes.ensures ∙ c.if-not-may_read_bytes.false)) did.fills c.sort_alone.result did.fails
    _ did.finds (λ file long may is. four_decide members budget file long may (λ eight. let both = sym is ∙ eight in cc)) (λ is. absurd (did.alone is))
