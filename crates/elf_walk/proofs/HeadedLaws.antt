-- A listing after the line of a path, by what was written of both.
use Rattle.std.proofs.Common.{◌≡◌, ℕ, Bool, false, List, [], ◌∷◌, Option, None, Some, Result, Ok, Err, refl, ap, ◌∙◌, ◌⊎◌, inl, inr}
use Rattle.std.specs.Prelude.{IfErr}
use Rattle.elf_model.specs.Prelude.{EveryRow, ListingStyle, RowFilter, RowsOf, SymbolQuery, archive_items, fault_of, headed, listing, listing_report, members_alone, report_of}
use Rattle.elf_model.specs.FileLists.{undecided}
use Rattle.elf_model.specs.Lines.{refusal_line}
use Rattle.elf_model.specs.declared.formats.Format.{Format}
use Rattle.elf_model.specs.declared.states.FileMagic.{FileMagic}
use Rattle.elf_model.specs.declared.causes.Refusal.{Refusal}
use Rattle.elf_model.specs.declared.states.FileMagic.TheVariants as sort
use Rattle.elf_source.specs.Prelude.{CountedState, EndsLine, FailsOutput, KeepsDeferred, OutGrows, OutState, SinkTakes, SinkTakesPrefix, before_text}
use Rattle.elf_source.specs.declared.holding_sink.DeferredLine.{DeferredLine}
use Rattle.elf_source.specs.declared.faults.OutFault.{OutFault}
use Rattle.elf_source.proofs.LineLaws.{broken_takes, line_ends, line_fails, line_front}
use Rattle.elf_source.proofs.PutsLaws.{SinkTakes-nothing, SinkTakes-then, SinkTakesPrefix-then, SinkTakesPrefix-more}
use Rattle.elf_options.specs.Prelude.{style_of}
use Rattle.elf_options.specs.declared.caps.Caps.{Caps}
use Rattle.elf_options.specs.declared.caps.Limits.{Limits}
use Rattle.elf_table.specs.declared.run_fault.RunFault.TheVariants.{Out}
use Rattle.elf_table.specs.declared.run_fault.RunFault.{RunFault}
use Rattle.elf_table.specs.declared.run_fault.RunFault.TheVariants.{Refused, Source}
use Rattle.elf_listing.specs.Reports.{WroteReport, WroteText, ReturnsStop}
use Rattle.elf_archive.specs.Listed.{AnswersAfter, ArchiveSays, ReportsArchive}
use Rattle.elf_walk.specs.Lists.{IsListedText, ListsHeaded, ListsSort, ReturnsRefused, WroteHeaded, lists_refused, sort_ceiling, sort_cost}

-- something is what is listed
pub record SomeListed (kind : FileMagic) (file : List ℕ) (limits : Limits) (style : ListingStyle) (parts : ℕ) : Type 0 where
  pub text : List ℕ
  pub fault : Option Refusal
  pub listed : IsListedText kind limits.budget file limits.headers style parts text fault

some_listed : (kind : FileMagic) (file : List ℕ) (limits : Limits) (style : ListingStyle) (parts : ℕ) → SomeListed kind file limits style parts
some_listed kind file limits style parts = by_kind kind limits.budget refl
  where
    by_kind : (kind : FileMagic) (budget : Option ℕ) → limits.budget ≡ budget → SomeListed kind file limits style parts
    by_kind sort.Elf None is = record {
      text = listing_report file limits.headers style parts;
      fault = fault_of (listing file limits.headers style parts);
      listed = rw is (record { text_is = refl; fault_is = refl });
    }
    by_kind sort.Elf (Some bytes) is = record {
      text = listing_report file limits.headers style parts;
      fault = fault_of (listing file limits.headers style parts);
      listed = rw is (inl record { text_is = refl; fault_is = refl });
    }
    by_kind sort.Archive None is = record {
      text = report_of style.format (archive_items (members_alone style.choice) file limits.headers style parts);
      fault = fault_of (archive_items (members_alone style.choice) file limits.headers style parts);
      listed = rw is (record { text_is = refl; fault_is = refl });
    }
    by_kind sort.Archive (Some bytes) is = record {
      text = report_of style.format (archive_items (members_alone style.choice) file limits.headers style parts);
      fault = fault_of (archive_items (members_alone style.choice) file limits.headers style parts);
      listed = rw is (inl record { text_is = refl; fault_is = refl });
    }
    by_kind sort.Foreign budget is = record { text = []; fault = None; listed = (refl, refl) }
    by_kind sort.Thin budget is = record { text = []; fault = None; listed = (refl, refl) }
    by_kind sort.Undecided budget is = record { text = refusal_line style.format undecided; fault = Some undecided; listed = (refl, refl) }

-- the output failed at the line
pub path_stops : (kind : FileMagic) (line file : List ℕ) (limits : Limits) (style : ListingStyle) (parts : ℕ) (old new : OutState) (fault : OutFault)
    → ((text : List ℕ) → SinkTakesPrefix old new (headed style.choice line text)) → ListsHeaded kind line file limits style parts old new (Err (Out fault))
path_stops kind line file limits style parts old new fault front =
    let some = some_listed kind file limits style parts in
    record { text = some.text; fault = some.fault; listed = some.listed; wrote = front some.text; refused = tt }

-- with a prefix of it, or with nothing
pub line_begun : (line : List ℕ) (choice : RowFilter) (old new : OutState) → choice ≡ EveryRow → SinkTakesPrefix old new line → (text : List ℕ) → SinkTakesPrefix old new (headed choice line text)
line_begun line choice old new every front text = rw every (SinkTakesPrefix-more line text front)

pub line_unheld : (line : List ℕ) (choice : RowFilter) (old new : OutState) (fault : OutFault) → FailsOutput old new fault → (text : List ℕ) → SinkTakesPrefix old new (headed choice line text)
line_unheld line choice old new fault breaks text = record { front = []; rest = headed choice line text; split = refl; takes = broken_takes old new fault breaks }

-- the line is before each listing
pub every_headed : (kind : FileMagic) (line file : List ℕ) (limits : Limits) (style : ListingStyle) (parts : ℕ) (old mid new : OutState) (result : Result Bool RunFault) → style.choice ≡ EveryRow
    → SinkTakes old mid line → ListsSort kind file limits style parts mid new result → ListsHeaded kind line file limits style parts old new result
every_headed kind line file limits style parts old mid new result every p q =
    record { text = q.text; fault = q.fault; listed = q.listed; wrote = rw every (by_result result q.wrote); refused = q.refused }
  where
    by_result : (result : Result Bool RunFault) → WroteText mid new result q.text q.fault → WroteHeaded EveryRow line old new result q.text q.fault
    by_result (Ok x) wrote = (SinkTakes-then line q.text p wrote.0, wrote.1)
    by_result (Err (Refused refusal)) wrote = (SinkTakes-then line q.text p wrote.0, wrote.1)
    by_result (Err (Source fault at)) wrote = (wrote.front, wrote.rest, wrote.split, SinkTakes-then line wrote.front p wrote.takes)
    by_result (Err (Out fault)) wrote = SinkTakesPrefix-then line q.text p wrote

-- by names the line is before a text that has some byte
headed_names : (names : List SymbolQuery) (line text : List ℕ) → headed (RowsOf names) line text ≡ before_text line text
headed_names names line [] = refl
headed_names names line (byte ∷ text) = refl

module _ (old mid before last : OutState) (line : List ℕ) (held : DeferredLine) (p : KeepsDeferred old mid line held) (ends : EndsLine held before last) where
  -- the line that was deferred, and the listing after it
  pub held_headed : (kind : FileMagic) (file : List ℕ) (limits : Limits) (style : ListingStyle) (parts : ℕ) (names : List SymbolQuery) (listed result : Result Bool RunFault) → style.choice ≡ RowsOf names
      → AnswersAfter listed last result → ListsSort kind file limits style parts mid before listed → ListsHeaded kind line file limits style parts old last result
  held_headed kind file limits style parts names listed result named is q = by_result listed is q.wrote q.refused
    where
      whole : (bytes : List ℕ) → SinkTakes mid before bytes → SinkTakes old last (headed style.choice line bytes)
      whole bytes takes = rw (named, headed_names names line bytes) (line_ends old mid before line held p last bytes takes ends)

      by_result : (listed : Result Bool RunFault) → AnswersAfter listed last result → WroteText mid before listed q.text q.fault
          → ReturnsRefused listed (lists_refused kind file limits.headers style parts) → ListsHeaded kind line file limits style parts old last result
      by_result (Ok refused) is wrote told = rw is (record { text = q.text; fault = q.fault; listed = q.listed; wrote = (whole q.text wrote.0, wrote.1); refused = told })
      by_result (Err (Refused refusal)) is wrote told =
          rw is (record { text = q.text; fault = q.fault; listed = q.listed; wrote = (whole q.text wrote.0, wrote.1); refused = tt })
      by_result (Err (Source fault at)) is wrote told =
          rw is (record { text = q.text; fault = q.fault; listed = q.listed; wrote = (wrote.front, wrote.rest, wrote.split, whole wrote.front wrote.takes); refused = tt })
      by_result (Err (Out fault)) is wrote told =
          rw is.1 (record {
            text = q.text;
            fault = q.fault;
            listed = q.listed;
            wrote = rw (named, headed_names names line q.text) (line_front old mid before line held p last q.text wrote ends);
            refused = tt;
          })

  -- what a fault implies for the source and the output
  pub held_says : (a b : CountedState) (listed result : Result Bool RunFault) → OutGrows mid before → AnswersAfter listed last result → IfErr listed (ArchiveSays a b before) → IfErr result (ArchiveSays a b last)
  held_says a b (Ok refused) result grows is says = rw is tt
  held_says a b (Err (Refused refusal)) result grows is says = rw is tt
  held_says a b (Err (Source fault at)) result grows is says = rw is says
  held_says a b (Err (Out fault)) result grows is says =
      rw is.1 (record { failed = line_fails old mid before line held p last grows.bytes grows.takes ends ∙ says.failed; tells = is.2 })

-- an ELF file's own listing
pub elf_ended : (file : List ℕ) (caps : Caps) (parts : ℕ) (old new : OutState) (x : Unit {0}) → WroteReport file caps parts old new (Ok x)
    → ListsSort sort.Elf file caps.limits (style_of caps.style) parts old new (Ok false)
elf_ended file caps parts old new x q = record { text = q.text; fault = q.fault; listed = q.listed; wrote = q.wrote; refused = refl }

pub elf_stopped : (file : List ℕ) (caps : Caps) (parts : ℕ) (old new : OutState) (stop : RunFault) → WroteReport {X = Unit {0}} file caps parts old new (Err stop)
    → ListsSort sort.Elf file caps.limits (style_of caps.style) parts old new (Err stop)
elf_stopped file caps parts old new stop q = record { text = q.text; fault = q.fault; listed = q.listed; wrote = by_stop stop q.wrote; refused = tt }
  where
    by_stop : (stop : RunFault) → WroteText {X = Unit {0}} old new (Err stop) q.text q.fault → WroteText {X = Bool} old new (Err stop) q.text q.fault
    by_stop (Refused refusal) wrote = wrote
    by_stop (Source fault at) wrote = wrote
    by_stop (Out fault) wrote = wrote

-- an archive's
pub archive_listed : (file : List ℕ) (caps : Caps) (parts : ℕ) (old new : OutState) (result : Result Bool RunFault) → ReportsArchive (members_alone (style_of caps.style).choice) file caps parts old new result
    → ListsSort sort.Archive file caps.limits (style_of caps.style) parts old new result
archive_listed file caps parts old new (Ok any) q = record { text = q.text; fault = q.fault; listed = q.listed; wrote = q.wrote; refused = q.refused any refl }
archive_listed file caps parts old new (Err stop) q = record { text = q.text; fault = q.fault; listed = q.listed; wrote = q.wrote; refused = tt }

-- a file that is not decided within the budget
pub undecided_listed : (file : List ℕ) (limits : Limits) (style : ListingStyle) (parts : ℕ) (old new : OutState) (told : RunFault) → ReturnsStop style.format old new (Refused undecided) told
    → ListsSort sort.Undecided file limits style parts old new (Err told)
undecided_listed file limits style parts old new told tells =
    record { text = refusal_line style.format undecided; fault = Some undecided; listed = (refl, refl); wrote = by_told told tells; refused = tt }
  where
    by_told : (told : RunFault) → ReturnsStop style.format old new (Refused undecided) told → WroteText {X = Bool} old new (Err told) (refusal_line style.format undecided) (Some undecided)
    by_told (Refused refusal) tells = (tells.1, ap Some tells.0)
    by_told (Source fault at) tells = absurd tells
    by_told (Out fault) tells = tells.1

-- of a thin archive, and of what is neither an ELF file nor an archive, nothing is listed and
-- nothing is read
pub record NothingListed (kind : FileMagic) : Type 0 where
  pub lists : (file : List ℕ) (limits : Limits) (style : ListingStyle) (parts : ℕ) (out : OutState) → ListsSort kind file limits style parts out out (Ok false)
  pub costs : (file : List ℕ) (headers : ℕ) (style : ListingStyle) (parts : ℕ) → sort_cost kind file headers style parts ≡ 0
  pub asks : (size headers : ℕ) (style : ListingStyle) → sort_ceiling kind size headers style ≡ 0

thin_lists_nothing : NothingListed sort.Thin
thin_lists_nothing = record {
  lists = λ file limits style parts out. record { text = []; fault = None; listed = (refl, refl); wrote = (SinkTakes-nothing out, refl); refused = refl };
  costs = λ file headers style parts. refl;
  asks = λ size headers style. refl;
}

foreign_lists_nothing : NothingListed sort.Foreign
foreign_lists_nothing = record {
  lists = λ file limits style parts out. record { text = []; fault = None; listed = (refl, refl); wrote = (SinkTakes-nothing out, refl); refused = refl };
  costs = λ file headers style parts. refl;
  asks = λ size headers style. refl;
}

pub nothing_listed : (kind : FileMagic) → (kind ≡ sort.Undecided) ⊎ ((kind ≡ sort.Thin) ⊎ (kind ≡ sort.Foreign)) → (kind ≡ sort.Undecided → ⊥) → NothingListed kind
nothing_listed kind (inl undecided) decided = absurd (decided undecided)
nothing_listed kind (inr (inl thin)) decided = rw thin thin_lists_nothing
nothing_listed kind (inr (inr foreign)) decided = rw foreign foreign_lists_nothing

pub undecided_says : (format : Format) (a b : CountedState) (old new : OutState) (told : RunFault) → ReturnsStop format old new (Refused undecided) told → ArchiveSays a b new told
undecided_says format a b old new (Refused refusal) tells = tt
undecided_says format a b old new (Source fault at) tells = absurd tells
undecided_says format a b old new (Out fault) tells = tells.0
