use Rattle.std.proofs.Common.{◌≡◌, ◌<◌, ◌≤◌, length, true, Some, sym, arith}
use Rattle.elf_model.specs.ImageItems.{bytes_for, is_looked_up}
use Rattle.elf_model.specs.Prelude.{st_size}
use Rattle.elf_image.specs.Items.{copies_of, copy_bytes, said_by}
use Rattle.elf_image.proofs.StoredSteps.{copied_over, copied_within}
use Rattle.elf_image.proofs.stored.copied_bytes.Goals as goal

pub returns-in-Some-clause-value : goal.returns-in-Some-clause-value
unfolding said_by
returns-in-Some-clause-value c = λ file at is.
    let same = c.is_looked_up.ensures file at is in
    let told = c.if-not-is_looked_up.false in
    let looked : is_looked_up file at ≡ true = cc in
    let bytes = copy_bytes c.in-Some.bytes in
    let found : bytes_for (copies_of c.args.image.now.items.now.copies.now) c.args.index ≡ Some bytes = sym c.in-Some.ensures in
    let over : st_size file at < length bytes = omega (arith, c.if-len-symbol.true, is.st_size, c.len.ensures.length) in
    sym (copied_over (is_looked_up file at) (bytes_for (copies_of c.args.image.now.items.now.copies.now) c.args.index) bytes (st_size file at) looked found over)

pub returns-in-Some-2-clause-value : goal.returns-in-Some-2-clause-value
unfolding said_by
returns-in-Some-2-clause-value c = λ file at is.
    let same = c.is_looked_up.ensures file at is in
    let told = c.if-not-is_looked_up.false in
    let looked : is_looked_up file at ≡ true = cc in
    let bytes = copy_bytes c.in-Some.bytes in
    let found : bytes_for (copies_of c.args.image.now.items.now.copies.now) c.args.index ≡ Some bytes = sym c.in-Some.ensures in
    let fits : length bytes ≤ st_size file at = omega (arith, c.if-len-symbol.false, is.st_size, c.len.ensures.length) in
    sym (copied_within (is_looked_up file at) (bytes_for (copies_of c.args.image.now.items.now.copies.now) c.args.index) bytes (st_size file at) looked found fits)
