-- Arguments that request no listing, and those that have a fault.
use Rattle.std.proofs.Common.{inl, inr, sym}
use Rattle.elf_cli.proofs.listings.listed_by.Goals as goal

pub returns-then-not-is_listing-clause-refused : goal.returns-then-not-is_listing-clause-refused
returns-then-not-is_listing-clause-refused c =
    inr (c.in_ok-args.args, c.in_ok-args.ensures.read, inl (sym c.if-not-is_listing.ensures, c.not_listed.ensures))

pub returns-in-Some-clause-refused : goal.returns-in-Some-clause-refused
returns-in-Some-clause-refused c =
    inr (c.in_ok-args.args, c.in_ok-args.ensures.read, inr (c.in-Some.fault, sym c.in-Some.ensures, c.request_fault.ensures))
