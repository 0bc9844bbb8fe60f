-- Why the command line rejects arguments, and that its definition gives the kinds.
use Rattle.std.proofs.Common.{◌≡◌, List, [], true, ap, sym, ◌∙◌, refl, subst, inl, inr}
use Rattle.clap.specs.Faults.{fault_of, is_simple_and_free}
use Rattle.clap.specs.Kinds.{HasKind, IsAmong, Kinds}
use Rattle.clap.specs.Simple.{App, HasMatchesOf, is_simple, subcommand_of, subcommand_rows_of}
use Rattle.clap.specs.Values.{kind_of}
use Rattle.clap.specs.Walk.{Text}
use Rattle.clap.specs.declared.error.Error.{Error}
use Rattle.clap.specs.declared.parser.matches.ArgMatches.{ArgMatches}
use Rattle.clap.proofs.OnLiterals.{clap_on_literals}
use Rattle.elf_cli.specs.Prelude.{AreMatched, AreRejected, IsFaultOf, IsOneOf, program}
use Rattle.elf_cli.specs.declared.faults.RequestFault.TheVariants.{BadItem, BadName, BadSection, LayoutFull, LayoutRepeat, Memory, NamesFull, UnknownTrait, Words}
use Rattle.elf_cli.specs.declared.faults.RequestFault.{RequestFault}

-- the command line is one whose matches and faults are known: no argument has a rule on another
is_known : is_simple_and_free program ≡ true
unfolding clap_on_literals
is_known = refl

has_known_matches : is_simple program ≡ true
unfolding clap_on_literals
has_known_matches = refl

fault_told : (kinds : Kinds) (error : Error) (fault : RequestFault) → IsFaultOf error fault → HasKind kinds error → IsOneOf kinds fault
fault_told kinds error Memory is has = tt
fault_told kinds error (Words told) is (inl memory) = absurd (is.1 memory)
fault_told kinds error (Words told) is (inr among) = subst (λ e. IsAmong (kind_of e) kinds) (sym is.0) among
fault_told kinds error BadName is has = is
fault_told kinds error BadSection is has = is
fault_told kinds error NamesFull is has = is
fault_told kinds error BadItem is has = is
fault_told kinds error LayoutFull is has = is
fault_told kinds error LayoutRepeat is has = is
fault_told kinds error (UnknownTrait word) is has = is

-- an error of a command line that is that one
pub refused : (app : App) (words : List Text) (error : Error) (fault : RequestFault) → app ≡ program
    → (is_simple_and_free app ≡ true → HasKind (fault_of app words) error) → IsFaultOf error fault → AreRejected words fault
refused app words error fault is kinds told = record {
  among = subst (λ a. IsOneOf (fault_of a words) fault) is (fault_told (fault_of app words) error fault told (kinds (ap is_simple_and_free is ∙ is_known)));
}

-- matches of such a command line: they are those of the arguments, for which it has no fault
pub read : (app : App) (words : List Text) (m : ArgMatches) → app ≡ program
    → (is_simple_and_free app ≡ true → fault_of app words ≡ []) → HasMatchesOf app words m → AreMatched words (subcommand_rows_of m)
read app words m is taken matches = record {
  taken = subst (λ a. fault_of a words ≡ []) is (taken (ap is_simple_and_free is ∙ is_known));
  made = subst (λ a. subcommand_of a words ≡ subcommand_rows_of m) is (sym (matches (ap is_simple is ∙ has_known_matches)).1);
}
