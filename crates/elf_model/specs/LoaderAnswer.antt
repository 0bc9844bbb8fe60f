-- What a loader's lookup writes: the symbol's line, its version's, and how many symbols are tried.
use Rattle.std.specs.Prelude.{ℕ, true, false, List, [], ◌++◌, Option, None, Some}
use Rattle.elf_model.specs.Answer.{Answer}
use Rattle.elf_model.specs.FindApplyAnswer.{lookup_status}
use Rattle.elf_model.specs.Hash.{Outcome, Found, Absent, Refused}
use Rattle.elf_model.specs.LineFronts.{symbol_prefix}
use Rattle.elf_model.specs.Lines.{named_line, steps_line, refusal_line}
use Rattle.elf_model.specs.Loader.{SymbolQuery, parse_query}
use Rattle.elf_model.specs.LoaderFind.{FoundVersion, loader_looked}
use Rattle.elf_model.specs.declared.formats.Format.{Format}
use Rattle.elf_model.specs.Names.DisplayedName.{Whole}
use Rattle.elf_model.specs.Records.{e_machine}
use Rattle.elf_model.specs.VersionRows.{symbol_version_prefix}

-- the line of the version of the symbol of an index, if it has one
unfoldable pub found_version_line : Format → ℕ → Option FoundVersion → List ℕ
found_version_line format index None = []
found_version_line format index (Some version) = named_line (symbol_version_prefix format version.index index version.word) version.name

-- the text of a result, after this many symbols are tried: the symbol's line, with the GNU names
-- and under the wanted name, its version's, and the number; the number alone; the refusal
abbrev pub loader_text : Format → List ℕ → List ℕ → Outcome → Option FoundVersion → ℕ → List ℕ
loader_text format file name (Found section index symbol) version tried =
    named_line (symbol_prefix format true (e_machine file) file symbol section index) (Whole name)
    ++ found_version_line format index version
    ++ steps_line format true tried
loader_text format file name Absent version tried = steps_line format false tried
loader_text format file name (Refused refusal) version tried = refusal_line format refusal

-- `find` as a loader: what a lookup writes, and 0 if it finds a symbol
unfoldable pub loader_answer_for : Format → List ℕ → ℕ → SymbolQuery → Answer
loader_answer_for format file headers wanted =
    let loader = loader_looked file headers wanted in
    record {
      text = loader_text format file wanted.name loader.lookup.answer loader.version loader.lookup.compared;
      status = lookup_status loader.lookup.answer;
    }

-- the same of a text NAME, NAME@VERSION or NAME@@VERSION
abbrev pub loader_answer : Format → List ℕ → ℕ → List ℕ → Answer
loader_answer format file headers text = loader_answer_for format file headers (parse_query text)
