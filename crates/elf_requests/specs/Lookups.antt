-- What is written for a lookup.
use Rattle.std.specs.Prelude.{ℕ, List}
use Rattle.elf_model.specs.Prelude.{Answer, LoaderLookup, Lookup, loader_text, lookup_status, lookup_text}
use Rattle.elf_model.specs.declared.formats.Format.{Format}

-- the text and the status of the result of a lookup
abbrev pub answer_of_lookup : Format → List ℕ → List ℕ → Lookup → Answer
answer_of_lookup format file wanted looked =
    record { text = lookup_text format file wanted looked.answer looked.compared; status = lookup_status looked.answer }

-- the same for the result of a loader's lookup of a name
abbrev pub resolved_answer : Format → List ℕ → List ℕ → LoaderLookup → Answer
resolved_answer format file name looked = record {
  text = loader_text format file name looked.lookup.answer looked.version looked.lookup.compared;
  status = lookup_status looked.lookup.answer;
}
