-- What a lookup of either kind did, between the call that sets its limit and the one that removes
-- it.
use Rattle.std.proofs.Common.{◌≡◌, ℕ, suc, ◌^◌, ◌≤◌, ◌==◌, List, [], ◌∷◌, ◌++◌, append-nil, length, drop, position, Option, None, Some, Result, Ok, Err, refl, sym, ap, subst, arith, inl, inr, Bool}
use Rattle.std.proofs.lemmas.Bool.{cases_Bool}
use Rattle.std.proofs.lemmas.List.{length-drop, length-take}
use Rattle.std.specs.Prelude.{IfErr, IfSome}
use Rattle.elf_model.specs.Prelude.{AT_SIGN, Answer, FoundVersion, IsAnswered, SymbolQuery, asked_after, LoaderLookup, asked_name, find_answer, found_version_line, loader_answer, loader_answer_for, loader_ceiling, loader_cost, loader_looked, looked, looked_at, named_line, parse_query, symbol_version_prefix}
use Rattle.elf_model.specs.declared.formats.Format.{Format}
use Rattle.elf_model.specs.declared.fault_rows.FaultRow.TheVariants.{NoRow}
use Rattle.elf_source.specs.Prelude.{CountedState, OutGrows, OutPuts, OutState, SetsLimit, SinkTakes, SourceState}
use Rattle.elf_source.specs.declared.faults.OutFault.{OutFault}
use Rattle.elf_source.proofs.PutsLaws.{SinkTakes-then, SinkTakesPrefix-then}
use Rattle.elf_source.proofs.LimitLaws.{within_budget}
use Rattle.elf_table.specs.Prelude.{CallReads, stop_of}
use Rattle.elf_table.specs.declared.fault.Fault.{Fault}
use Rattle.elf_table.specs.declared.run_fault.RunFault.{RunFault}
use Rattle.elf_table.specs.declared.fault.Fault.TheVariants.{Refused as Refuses, Source as Unread}
use Rattle.elf_hash.specs.Lookups.{GivesLookup}
use Rattle.elf_listing.specs.Prelude.{IsOfOutput, ReturnsStop}
use Rattle.elf_listing.proofs.AskLaws.{told_says}
use Rattle.elf_listing.proofs.ShowLaws.{StopSays-fault}
use Rattle.elf_loader.specs.Lookups.{AnswersLoaderLookup, AreShort, LooksThrough, ReturnsLookup}
use Rattle.elf_loader.specs.declared.lookup.SymbolLookup.{SymbolLookup}
use Rattle.elf_requests.specs.Prelude.{Answers, AsksUpTo, Runs, WholeOrUsedUp, WroteAnswer, resolved_answer}
use Rattle.elf_requests.proofs.TaskLaws.{RefusesAs, answered_stop, answered_whole, lookup_stops, lookup_used, output_alone, runs}

-- what a lookup gives of a file, within its cost
abbrev GivesAnswer : Format → Option ℕ → (s0 s3 : CountedState) (cost : List ℕ → ℕ) (whole : List ℕ → Answer) → OutState → OutState → Result ℕ RunFault → List ℕ → Type 0
GivesAnswer format budget s0 s3 cost whole a b result file =
    Answers a b result (IsAnswered format budget (length file) (cost file) (whole file)) (WholeOrUsedUp budget s0 s3 result (whole file))

module _ {a b : OutState} (format : Format) (budget : Option ℕ) (s0 s1 s2 s3 : CountedState) (most : ℕ → ℕ) (cost : List ℕ → ℕ) (whole : List ℕ → Answer) (set : SetsLimit s0 s1 budget) (unset : SetsLimit s2 s3 None) where
  -- its answer was written, or a prefix of it
  pub lookup_answers : (result : Result ℕ RunFault) → CallReads s1 s2 None (most s1.seen.size) → OutGrows a b → IfErr result (IsOfOutput b)
      → ((file : List ℕ) → s1.seen.file ≡ Some file → CallReads s1 s2 None (cost file) × WroteAnswer a b result (whole file))
      → Runs s0 s3 a b result (AsksUpTo budget s0 s3 (most s0.seen.size)) cost (GivesAnswer format budget s0 s3 cost whole a b result)
  lookup_answers result charges grows fails known =
      let reads = charges.reads in
      let n = most s1.seen.size in
      let at_most = reads.at_most in
      let asked = unset.asked in
      let size = ap (λ (seen : SourceState). most seen.size) set.seen in
      let alone = output_alone budget s0 s3 b result fails in
      runs budget s0 s1 s3 (most s0.seen.size) cost set grows (rw (unset.seen) reads.keeps) unset.most (omega (arith, at_most, asked, size))
      (rw asked (within_budget budget s0 s1 s2 set reads.same_limit)) alone.0
      (λ file held.
      let told = known file held in
      let costs = told.0.reads.at_most in
      (omega (arith, costs, asked), answered_whole format budget (length file) (cost file) (whole file) result told.1 (alone.1 (whole file))))

  -- it stopped, and that was reported
  pub lookup_stopped : (fault : Fault) (told : RunFault) → s0.asked ≤ 2 ^ 127 → CallReads s1 s2 (Some fault) (most s1.seen.size) → OutGrows a b → ReturnsStop format a b (stop_of fault) told
      → ((file : List ℕ) → s1.seen.file ≡ Some file → CallReads s1 s2 (Some fault) (cost file) × RefusesAs format (whole file) fault)
      → Runs s0 s3 a b (Err told) (AsksUpTo budget s0 s3 (most s0.seen.size)) cost (GivesAnswer format budget s0 s3 cost whole a b (Err told))
  lookup_stopped fault told small charges grows tells known =
      let reads = charges.reads in
      let n = most s1.seen.size in
      let at_most = reads.at_most in
      let asked = unset.asked in
      let size = ap (λ (seen : SourceState). most seen.size) set.seen in
      runs budget s0 s1 s3 (most s0.seen.size) cost set grows (rw (unset.seen) reads.keeps) unset.most (omega (arith, at_most, asked, size))
      (rw asked (within_budget budget s0 s1 s2 set reads.same_limit))
      (told_says NoRow format s0 s1 s2 s3 a b n budget (stop_of fault) told set unset tells (StopSays-fault s1 s2 a fault n n (omega arith) charges.says))
      (λ file held.
      let it = known file held in
      let costs = it.0.reads.at_most in
      let stops = lookup_stops format s1 s2 a (cost file) fault (whole file) it.0.says it.1 in (
        omega (arith, costs, asked),
        answered_stop format a budget (length file) (cost file) (whole file) (stop_of fault) told s0 s1 small set (s1.seen.sized file held) stops tells
            (λ answer. lookup_used format a b budget s0 s1 s2 s3 (cost file) fault told (whole file) answer small set unset it.0.says tells),
      ))

-- one written after another
pub puts_then : {X : Type 0} {a b : OutState} (c : OutState) (xs ys : List ℕ) (result : Result X OutFault) → SinkTakes a b xs → OutPuts b c result ys → OutPuts a c result (xs ++ ys)
puts_then c xs ys (Ok x) first next = (SinkTakes-then xs ys first next.0, next.1)
puts_then c xs ys (Err fault) first next = (SinkTakesPrefix-then xs ys first next.0, next.1)

-- nothing is there
pub not_some : {A : Type 0} (found : Option A) → ((value : A) → found ≡ Some value → ⊥) → found ≡ None
not_some None other = refl
not_some (Some value) other = absurd (other value refl)

-- the line of a version, or none
pub no_version_line : (format : Format) (index : ℕ) (xs : List ℕ) → xs ++ found_version_line format index None ≡ xs
unfolding found_version_line
no_version_line format index xs = append-nil xs

pub version_line : (format : Format) (index : ℕ) (version : FoundVersion)
    → found_version_line format index (Some version) ≡ named_line (symbol_version_prefix format version.index index version.word) version.name
unfolding found_version_line
version_line format index version = refl

-- a refusal of a lookup is its answer
pub find_refuses : (format : Format) (file : List ℕ) (headers : ℕ) (wanted : List ℕ) (fault : Fault) → GivesLookup file (looked file headers wanted) (Err fault)
    → RefusesAs format (find_answer format file headers wanted) fault
find_refuses format file headers wanted (Refuses refusal) walks = λ other. rw (walks other) refl
find_refuses format file headers wanted (Unread fault at) walks = tt

pub resolve_is : (format : Format) (file : List ℕ) (headers : ℕ) (wanted : SymbolQuery)
    → loader_answer_for format file headers wanted ≡ resolved_answer format file wanted.name (loader_looked file headers wanted)
unfolding loader_answer_for
resolve_is format file headers wanted = refl

pub resolve_refuses : (format : Format) (file : List ℕ) (headers : ℕ) (wanted : SymbolQuery) (told : List ℕ) (fault : Fault)
    → ReturnsLookup file wanted.asked told (loader_looked file headers wanted) (Err fault) → RefusesAs format (loader_answer_for format file headers wanted) fault
resolve_refuses format file headers wanted told (Refuses refusal) tells = λ other. let is = resolve_is format file headers wanted in rw is (rw (tells other) refl)
resolve_refuses format file headers wanted told (Unread fault at) tells = tt

-- a text splits into names that are no longer than it
behind_short : (bytes : List ℕ) (n : ℕ) → length bytes ≤ n → IfSome (asked_name (asked_after bytes)) (λ version. length version ≤ n)
behind_short [] n low = omega arith
behind_short (byte ∷ bytes) n low =
    elim (cases_Bool (byte == AT_SIGN)) [
      | inl sign ↦ rw sign (omega (arith, low))
      | inr other ↦ rw other low
    ]

pub wanted_short : (text : List ℕ) → length text ≤ 4096 → AreShort (parse_query text)
unfolding parse_query
wanted_short text most = go (position (λ byte. byte == AT_SIGN) text) refl
  where
    go : (place : Option ℕ) → position (λ byte. byte == AT_SIGN) text ≡ place → AreShort (parse_query text)
    go None e = rw (e, parse_query) (most, tt)
    go (Some place) e =
        let front = length-take place text in
        let back = length-drop (suc place) text in
        rw (e, parse_query) (omega (arith, most, front), behind_short (drop (suc place) text) 4096 (omega (arith, most, back)))

-- a lookup as a loader does it, whose answer was written
pub resolve_answers : {a b : OutState} {name : List ℕ} {s0 s1 s2 s3 p q : CountedState} {slots : ℕ} {query : SymbolQuery} {lookup : SymbolLookup} {found : Result SymbolLookup Fault}
    (format : Format) (budget : Option ℕ) (headers : ℕ) (text : List ℕ) (by_segments : Bool) → SetsLimit s0 s1 budget → SetsLimit s2 s3 None → p ≡ s1 → q ≡ s2
    → found ≡ Ok lookup → slots ≡ headers → query ≡ parse_query text → (result : Result ℕ RunFault) → OutGrows a b → IfErr result (IsOfOutput b)
    → ((file : List ℕ) (looked : LoaderLookup) → AnswersLoaderLookup file query.asked name looked lookup → WroteAnswer a b result (resolved_answer format file query.name looked))
    → LooksThrough p q (looked_at by_segments) slots query name found
    → Runs s0 s3 a b result (AsksUpTo budget s0 s3 (loader_ceiling s0.seen.size headers (parse_query text))) (λ file. loader_cost (looked_at by_segments file) headers (parse_query text))
    (GivesAnswer format budget s0 s3 (λ file. loader_cost (looked_at by_segments file) headers (parse_query text)) (λ file. loader_answer format (looked_at by_segments file) headers text) a b result)
resolve_answers {a} {b} {name} {s0} {s1} {s2} {s3} {query = query} {lookup = lookup} format budget headers text by_segments set unset shows leaves is same parsed result grows fails writes looks =
    let wanted = parse_query text in
    let did = rw (leaves, shows, same, is) at looks in
    let asks = rw parsed at did in
    lookup_answers format budget s0 s1 s2 s3 (λ size. loader_ceiling size headers wanted) (λ file. loader_cost (looked_at by_segments file) headers wanted)
    (λ file. loader_answer format (looked_at by_segments file) headers text) set unset result asks.costs grows fails
    (λ file held.
    let finds = asks.known file held in
    let viewed = looked_at by_segments file in
    let answers = subst (λ (w : SymbolQuery). AnswersLoaderLookup viewed w.asked name (loader_looked viewed headers wanted) lookup) (sym parsed) finds.tells in
    let wrote = writes viewed (loader_looked viewed headers wanted) answers in (
      finds.costs,
      rw (resolve_is format viewed headers wanted)
          (subst (λ (w : SymbolQuery). WroteAnswer a b result (resolved_answer format viewed w.name (loader_looked viewed headers wanted))) parsed wrote),
    ))
