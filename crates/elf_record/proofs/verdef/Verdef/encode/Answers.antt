-- The bytes are those of the parts, and no other bytes are.
use Rattle.elf_record.specs.Verdef.{verdef_parts}
use Rattle.elf_record.proofs.PartLaws.{IsEncoding, encoding}
use Rattle.elf_record.proofs.verdef.Verdef.encode.Goals as goal

is_encoding : (c : goal.After-unwrap) → IsEncoding c.unwrap.result (verdef_parts c.args.self.now)
is_encoding c = encoding _ _ _ (rw c.unwrap.ensures at c.into_inner.ensures.ok) c.spelled.ensures.items c.spelled.ensures.fits

pub returns-clause-spelled : goal.returns-clause-spelled
returns-clause-spelled c = (is_encoding c).spelled

pub returns-clause-fields : goal.returns-clause-fields
returns-clause-fields c = let is_at = (is_encoding c).is_at in assumption is_at

pub returns-clause-only : goal.returns-clause-only
returns-clause-only c = λ bytes byte size is. (is_encoding c).only bytes byte size (assumption is)
