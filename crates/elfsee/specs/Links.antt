-- What the program writes of a link.
use Rattle.std.specs.Prelude.{ℕ, ◌≡◌, Bool, true, false, List, Option, None, Result, Ok, Err, IfOk}
use Rattle.std.specs.Io.Buffered.{writer_buffer, writer_contents, writer_inner}
use Rattle.std.specs.List.{concat}
use Rattle.std.specs.Result.{is_ok}
use Rattle.std.specs.declared.io.buffered.BufWriter.{BufWriter}
use Rattle.elf_model.specs.LinkInputs.{Linking}
use Rattle.elf_model.specs.LinkLines.{FileNames}
use Rattle.elf_model.specs.declared.formats.Format.{Format}
use Rattle.elf_source.specs.Output.{OutState, Writing}
use Rattle.elf_source.specs.declared.faults.OutFault.{OutFault}
use Rattle.elf_cli.specs.Prelude.{PutsRest}
use Rattle.elf_resolve.specs.LinkTexts.{WritesText}
use Rattle.elf_resolve.specs.Resolved.{linking_of}
use Rattle.elf_resolve.specs.ShownLinks.{in_columns, shown_link, shown_status}
use Rattle.elf_resolve.specs.declared.lines.LinkLines.{LinkLines}
use Rattle.elf_resolve.specs.declared.linker_names.OutputKind.{OutputKind}
use Rattle.elf_resolve.specs.declared.link_faults.LinkFault.{LinkFault}
use Rattle.elf_resolve.specs.declared.link_faults.LinkFault.TheVariants as fault
use Rattle.elf_resolve.specs.declared.resolver.Resolver.{Resolver}
use Rattle.elfsee.specs.declared.resolve.LinkFailure.{LinkFailure}
use Rattle.elfsee.specs.declared.resolve.LinkFailure.TheVariants as failure

-- how a link ends whose lines were written so, by whether the output failed
unfoldable pub lines_end : Result ℕ OutFault → Bool → Result ℕ LinkFailure
lines_end (Ok status) false = Ok status
lines_end shown failed = Err failure.Write

-- LINES AND THE REST of an output are written, and the status is theirs
pub record WritesLinkLines {W A : Type 0} (contents : W → Option (List ℕ)) (text : List ℕ) (found : ℕ) (output : BufWriter W A) (answer : Result ℕ LinkFailure) (sink : Writing W) : Type 0 where
  pub before : OutState
  pub after : OutState
  pub shown : Result ℕ OutFault
  pub last : BufWriter W A
  pub begins : before.taken ≡ writer_contents contents output
  pub did : WritesText before after shown text
  pub status : IfOk shown (λ status. status ≡ found)
  pub is_at : after.taken ≡ writer_contents contents last
  pub ends : answer ≡ lines_end shown sink.failed
  pub rest : PutsRest (is_ok shown) sink.failed (writer_buffer last) (contents (writer_inner last)) (contents sink.writer)

-- the lines of a link
abbrev pub WritesLink : {W A : Type 0} → (W → Option (List ℕ)) → LinkLines → FileNames → Resolver → BufWriter W A → Result ℕ LinkFailure → Writing W → Type 0
WritesLink contents style names link output answer sink =
    WritesLinkLines contents (concat (shown_link style.problems (in_columns style.format) names link)) (shown_status link link.end) output answer sink

-- what a link did that ended so: nothing is written if a file cannot be opened or read
abbrev pub AnswersLink : (did : Type 0) (old new : Option (List ℕ)) → Result ℕ LinkFailure → Type 0
AnswersLink did old new (Ok status) = did
AnswersLink did old new (Err failure.Write) = did
AnswersLink did old new (Err other) = new ≡ old

-- A LINK IS THE DEFINITION'S, and makes what is planned, and its lines are written
pub record ResolvesLink {W A : Type 0} (contents : W → Option (List ℕ)) (style : LinkLines) (names : FileNames) (kind : OutputKind) (made : Linking) (link : Resolver) (output : BufWriter W A) (answer : Result ℕ LinkFailure) (sink : Writing W) : Type 0 where
  pub links : linking_of link ≡ made
  pub makes : link.output ≡ kind
  pub lines : WritesLink contents style names link output answer sink

-- why a link has no lines whose files fail so
unfoldable pub failure_of : LinkFault → LinkFailure
failure_of fault.Open = failure.Open
failure_of fault.Memory = failure.Memory
failure_of other = failure.Read
