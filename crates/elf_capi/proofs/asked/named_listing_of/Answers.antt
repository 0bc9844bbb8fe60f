-- The same bytes request a listing of the rows of some names as one of every row.
use Rattle.std.proofs.Common.{ap}
use Rattle.elf_options.specs.Prelude.{named_style, texts_of}
use Rattle.elf_capi.proofs.AskedLaws.{asks_named, every_row, no_names, no_part}
use Rattle.elf_capi.proofs.asked.named_listing_of.Goals as goal

pub returns-then-not-is_chosen_part : goal.returns-then-not-is_chosen_part
returns-then-not-is_chosen_part c = no_part c.args.asked.now c.in_ok-every.every c.in_ok-every.ensures c.args.names.now c.if-not-is_chosen_part.ensures

pub returns-then-not-may_choose : goal.returns-then-not-may_choose
returns-then-not-may_choose c = no_names c.args.asked.now c.in_ok-every.every c.in_ok-every.ensures c.args.names.now c.if-not-may_choose.ensures

pub returns : goal.returns
returns c =
    let asked = c.args.asked.now in
    let every = c.in_ok-every.every in
    let gives = c.in_ok-every.ensures in
    (asks_named asked every gives c.args.names.now c.if-not-is_chosen_part.ensures c.if-not-may_choose.ensures, gives.1, λ cap. ap (named_style (texts_of c.args.names.now)) (every_row asked every gives cap))
