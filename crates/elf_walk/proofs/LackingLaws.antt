-- The lines of what a file lacks, one required trait after another.
use Rattle.std.proofs.Common.{◌≡◌, ℕ, zero, suc, ◌<◌, ◌≤◌, Bool, true, false, List, [], ◌∷◌, ◌++◌, length, drop, refl, ap, sym, ◌∙◌, arith, subst, append-nil, append_assoc}
use Rattle.std.specs.Prelude.{slice_index_or}
use Rattle.elf_model.specs.Prelude.{Required, has_word, is_program, lacking, lacking_columns, lacking_line, lacking_lines, lacking_status, trait_line, traits_status, traits_text}
use Rattle.elf_model.specs.declared.formats.Format.{Format}
use Rattle.elf_model.specs.declared.traits.Hardening.{Hardening}
use Rattle.elf_model.specs.declared.traits.TraitColumn.{TraitColumn}
use Rattle.elf_options.specs.Prelude.{required_word, required_words}
use Rattle.elf_options.specs.declared.required.RequiredTrait.{RequiredTrait}
use Rattle.elf_source.specs.Prelude.{OutState, SinkTakes, SinkTakesPrefix}
use Rattle.elf_source.proofs.PutsLaws.{SinkTakes-nothing, SinkTakes-then, SinkTakesPrefix-more, SinkTakesPrefix-then}

parted : (words : List RequiredTrait) (i : ℕ) (d : RequiredTrait) → i < length words → drop i words ≡ slice_index_or words i d ∷ drop (suc i) words
parted [] i d low = absurd (omega arith)
parted (w ∷ words) zero d low = refl
parted (w ∷ words) (suc i) d low = parted words i d (omega arith)

-- among some required traits, by whether the file has the first of them
one : (t : Hardening) (w : RequiredTrait) (words : List RequiredTrait) (has : Bool) → has_word t (required_word w) ≡ has
    → lacking_columns t (required_words (w ∷ words)) ≡ elim has as (λ _. List TraitColumn) [ true ↦ lacking_columns t (required_words words) | false ↦ w.column ∷ lacking_columns t (required_words words) ]
unfolding lacking_columns
one t w words has is =
    subst (λ (b : Bool). lacking_columns t (required_words (w ∷ words)) ≡ elim b as (λ _. List TraitColumn) [ true ↦ lacking_columns t (required_words words) | false ↦ w.column ∷ lacking_columns t (required_words words) ]) is refl

had : (t : Hardening) (words : List RequiredTrait) (i j : ℕ) (d : RequiredTrait) → i < length words → j ≡ suc i → has_word t (required_word (slice_index_or words i d)) ≡ true
    → lacking_columns t (required_words (drop i words)) ≡ lacking_columns t (required_words (drop j words))
had t words i j d low next is =
    ap (λ l. lacking_columns t (required_words l)) (parted words i d low) ∙ one t (slice_index_or words i d) (drop (suc i) words) true is
    ∙ ap (λ n. lacking_columns t (required_words (drop n words))) (sym next)

lacked : (t : Hardening) (words : List RequiredTrait) (i j : ℕ) (d : RequiredTrait) → i < length words → j ≡ suc i → has_word t (required_word (slice_index_or words i d)) ≡ false
    → lacking_columns t (required_words (drop i words)) ≡ (slice_index_or words i d).column ∷ lacking_columns t (required_words (drop j words))
lacked t words i j d low next is =
    ap (λ l. lacking_columns t (required_words l)) (parted words i d low) ∙ one t (slice_index_or words i d) (drop (suc i) words) false is
    ∙ ap (λ n. (slice_index_or words i d).column ∷ lacking_columns t (required_words (drop n words))) (sym next)

lines_all : (format : Format) (t : Hardening) (before after : List TraitColumn)
    → lacking_lines format t (before ++ after) ≡ lacking_lines format t before ++ lacking_lines format t after
unfolding lacking_lines
lines_all format t [] after = refl
lines_all format t (its_column ∷ before) after =
    ap (λ l. lacking_line format t its_column ++ l) (lines_all format t before after)
    ∙ sym (append_assoc (lacking_line format t its_column) (lacking_lines format t before) (lacking_lines format t after))

lines_then : (format : Format) (t : Hardening) (before : List TraitColumn) (its_column : TraitColumn)
    → lacking_lines format t before ++ lacking_line format t its_column ≡ lacking_lines format t (before ++ its_column ∷ [])
unfolding lacking_lines
lines_then format t before its_column =
    ap (λ l. lacking_lines format t before ++ l) (sym (append-nil (lacking_line format t its_column)))
    ∙ sym (lines_all format t before (its_column ∷ []))

status_then : (before : List TraitColumn) (its_column : TraitColumn) → 1 ≡ lacking_status (before ++ its_column ∷ [])
status_then [] its_column = refl
status_then (other ∷ before) its_column = refl

-- required of a program, and of nothing else
of_program : (t : Hardening) (required : List Required) → is_program t.kind ≡ true → lacking t required ≡ lacking_columns t required
unfolding lacking
of_program t required is = rw (is, lacking) refl

of_other : (t : Hardening) (required : List Required) → is_program t.kind ≡ false → lacking t required ≡ []
unfolding lacking
of_other t required is = rw (is, lacking) refl

-- the lines of what is lacking of the required traits before an index were written, and the status
-- is theirs
pub record LinesWritten (format : Format) (t : Hardening) (words : List RequiredTrait) (i : ℕ) (old new : OutState) (said : ℕ) : Type 0 where
  pub before : List TraitColumn
  pub split : lacking_columns t (required_words words) ≡ before ++ lacking_columns t (required_words (drop i words))
  pub took : SinkTakes old new (lacking_lines format t before)
  pub works : new.failed ≡ false
  pub status : said ≡ lacking_status before

pub shows_had : (format : Format) (t : Hardening) (words : List RequiredTrait) (i j : ℕ) (d : RequiredTrait) (old new : OutState) (status : ℕ) → i < length words → j ≡ suc i
    → has_word t (required_word (slice_index_or words i d)) ≡ true → LinesWritten format t words i old new status → LinesWritten format t words j old new status
shows_had format t words i j d old new status low next is so = record {
  before = so.before;
  split = so.split ∙ ap (λ l. so.before ++ l) (had t words i j d low next is);
  took = so.took;
  works = so.works;
  status = so.status;
}

pub shows_lacked : (format : Format) (t : Hardening) (words : List RequiredTrait) (i j : ℕ) (d : RequiredTrait) (old mid new : OutState) (status : ℕ) → i < length words → j ≡ suc i
    → has_word t (required_word (slice_index_or words i d)) ≡ false → LinesWritten format t words i old mid status
    → SinkTakes mid new (lacking_line format t (slice_index_or words i d).column) → new.failed ≡ false → LinesWritten format t words j old new 1
shows_lacked format t words i j d old mid new status low next is so puts works = record {
  before = so.before ++ (slice_index_or words i d).column ∷ [];
  split = so.split ∙ ap (λ l. so.before ++ l) (lacked t words i j d low next is) ∙ sym (append_assoc so.before ((slice_index_or words i d).column ∷ []) (lacking_columns t (required_words (drop j words))));
  took = subst (SinkTakes old new) (lines_then format t so.before (slice_index_or words i d).column) (SinkTakes-then _ _ so.took puts);
  works = works;
  status = status_then so.before (slice_index_or words i d).column;
}

pub shows_none : (format : Format) (t : Hardening) (words : List RequiredTrait) (out : OutState) → out.failed ≡ false → LinesWritten format t words 0 out out 0
unfolding lacking_lines
shows_none format t words out works = record { before = []; split = refl; took = SinkTakes-nothing out; works = works; status = refl }

pub shows_failed : (format : Format) (t : Hardening) (words : List RequiredTrait) (i : ℕ) (d : RequiredTrait) (old mid new : OutState) (status : ℕ) → i < length words
    → is_program t.kind ≡ true → has_word t (required_word (slice_index_or words i d)) ≡ false → LinesWritten format t words i old mid status
    → SinkTakesPrefix mid new (lacking_line format t (slice_index_or words i d).column)
    → SinkTakesPrefix old new (lacking_lines format t (lacking t (required_words words)))
unfolding lacking_lines
shows_failed format t words i d old mid new status low kind is so puts =
    let rest = lacking_columns t (required_words (drop (suc i) words)) in
    let line = lacking_line format t (slice_index_or words i d).column in
    let text : lacking_lines format t so.before ++ (line ++ lacking_lines format t rest) ≡ lacking_lines format t (lacking t (required_words words)) =
    sym (lines_all format t so.before ((slice_index_or words i d).column ∷ rest))
    ∙ ap (λ l. lacking_lines format t (so.before ++ l)) (sym (lacked t words i (suc i) d low refl is))
    ∙ ap (λ l. lacking_lines format t l) (sym so.split ∙ sym (of_program t (required_words words) kind)) in
    subst (SinkTakesPrefix old new) text (SinkTakesPrefix-then _ _ so.took (SinkTakesPrefix-more line (lacking_lines format t rest) puts))

dropped : (words : List RequiredTrait) (i : ℕ) → length words ≤ i → drop i words ≡ []
dropped [] zero low = refl
dropped [] (suc i) low = refl
dropped (w ∷ words) zero low = absurd (omega arith)
dropped (w ∷ words) (suc i) low = dropped words i (omega arith)

nothing : (t : Hardening) → lacking_columns t (required_words []) ≡ []
unfolding lacking_columns
nothing t = refl

all_shown : (format : Format) (t : Hardening) (words : List RequiredTrait) (i : ℕ) (old new : OutState) (status : ℕ) → length words ≤ i → is_program t.kind ≡ true
    → (so : LinesWritten format t words i old new status) → so.before ≡ lacking t (required_words words)
all_shown format t words i old new status low kind so =
    sym (append-nil so.before)
    ∙ ap (λ l. so.before ++ l) (sym (ap (λ l. lacking_columns t (required_words l)) (dropped words i low) ∙ nothing t))
    ∙ sym so.split ∙ sym (of_program t (required_words words) kind)

pub shows_all : (format : Format) (t : Hardening) (words : List RequiredTrait) (i : ℕ) (old new : OutState) (status : ℕ) → length words ≤ i → is_program t.kind ≡ true
    → LinesWritten format t words i old new status → SinkTakes old new (lacking_lines format t (lacking t (required_words words))) × new.failed ≡ false
shows_all format t words i old new status low kind so =
    (subst (λ l. SinkTakes old new (lacking_lines format t l)) (all_shown format t words i old new status low kind so) so.took, so.works)

pub status_of_all : (format : Format) (t : Hardening) (words : List RequiredTrait) (i : ℕ) (old new : OutState) (status : ℕ) → length words ≤ i → is_program t.kind ≡ true
    → LinesWritten format t words i old new status → status ≡ traits_status t (required_words words)
unfolding traits_status
status_of_all format t words i old new status low kind so =
    so.status ∙ ap lacking_status (all_shown format t words i old new status low kind so)

-- nothing is lacking of what is neither a program nor a library
pub shows_nothing : (format : Format) (t : Hardening) (required : List Required) (out : OutState) → is_program t.kind ≡ false → out.failed ≡ false
    → SinkTakes out out (lacking_lines format t (lacking t required)) × out.failed ≡ false
unfolding lacking_lines
shows_nothing format t required out kind works = (subst (λ l. SinkTakes out out (lacking_lines format t l)) (sym (of_other t required kind)) (SinkTakes-nothing out), works)

pub status_of_nothing : (t : Hardening) (required : List Required) → is_program t.kind ≡ false → 0 ≡ traits_status t required
unfolding traits_status
status_of_nothing t required kind = ap lacking_status (sym (of_other t required kind))

-- the lines after that of the file's traits
pub then_lacking : (format : Format) (t : Hardening) (required : List Required) (path : List ℕ)
    → trait_line format t path ++ lacking_lines format t (lacking t required) ≡ traits_text format t required path
unfolding traits_text
then_lacking format t required path = refl
