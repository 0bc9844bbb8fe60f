-- The bytes are those of the parts, and no other bytes are.
use Rattle.elf_record.specs.Dyn.{dyn_parts}
use Rattle.elf_record.proofs.PartLaws.{IsEncoding, encoding}
use Rattle.elf_record.proofs.SignedLaws.{dyn_of_parts, dyn_to_parts}
use Rattle.elf_record.proofs.dyn_entry.Dyn.encode.Goals as goal

is_encoding : (c : goal.After-unwrap) → IsEncoding c.unwrap.result (dyn_parts c.args.self.now)
is_encoding c = encoding _ _ _ (rw c.unwrap.ensures at c.into_inner.ensures.ok) c.spelled.ensures.items c.spelled.ensures.fits

pub returns-clause-spelled : goal.returns-clause-spelled
returns-clause-spelled c = (is_encoding c).spelled

pub returns-clause-fields : goal.returns-clause-fields
returns-clause-fields c = dyn_of_parts _ _ c.spelled.ensures.signed c.spelled.ensures.fits.0 (is_encoding c).is_at

pub returns-clause-only : goal.returns-clause-only
returns-clause-only c = λ bytes byte size is. (is_encoding c).only bytes byte size (dyn_to_parts bytes _ is)
