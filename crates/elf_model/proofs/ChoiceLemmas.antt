-- The rows of some names.
use Rattle.std.proofs.Common.{◌≡◌, ℕ, suc, ◌==◌, ◌&&◌, ◌||◌, not, Bool, true, false, true≢false, List, [], ◌∷◌, ◌++◌, ◌+◌, map, position, option_map, inl, inr, Option, None, Some, refl, sym, ap, ap₂, ◌∙◌, arith}
use Rattle.std.specs.List.{list_any, position_or_len}
use Rattle.std.specs.Str.{bytes_eq}
use Rattle.std.proofs.lemmas.Bool.{cases_Bool}
use Rattle.std.proofs.lemmas.Bool.Decides.{nat_tests}
use Rattle.std.proofs.lemmas.List.Sorted.{list_any-IsPermutation}
use Rattle.elf_model.specs.Prelude.{AT_SIGN, Cut, CutNamesAreNone, DefaultVersion, DisplayedName, EveryRow, NamesAloneAreChosen, NamesAreChosen, NamesFitEveryVersion, NoSuffix, NoVersion, OrderChoosesNothing, RowsOf, Suffix, Suffixed, SymbolQuery, Version, VersionQuery, VersionsAreChosen, asked_after, has_sign, has_sign_first, has_version, is_named, is_whole, parse_query, suits, wanted_text}
use Rattle.elf_model.specs.Names.DisplayedName.{Whole}

and-true : (b : Bool) → b && true ≡ b
and-true true = refl
and-true false = refl

pub names_are_chosen : NamesAreChosen
names_are_chosen [] name behind = refl
names_are_chosen (first ∷ names) name behind =
    ap₂ (λ one more. one || more) (and-true (bytes_eq name first)) (names_are_chosen names name behind)

pub cut_names_are_none : CutNamesAreNone
cut_names_are_none [] _ _ = refl
cut_names_are_none (_ ∷ names) front behind = cut_names_are_none names front behind

pub order_chooses_nothing : OrderChoosesNothing
order_chooses_nothing names others same name behind = list_any-IsPermutation (is_named name behind) names others same

-- whether the sign is in a text, by its first byte
sign_here : (byte : ℕ) (text : List ℕ) → (byte == AT_SIGN) ≡ true → position (λ byte. byte == AT_SIGN) (byte ∷ text) ≡ Some 0
sign_here byte text is =
    let at : position_or_len (λ byte. byte == AT_SIGN) (byte ∷ text) ≡ 0 = rw is refl in
    grind (arith, nat_tests)

sign_behind : (byte : ℕ) (text : List ℕ) (place : Option ℕ) → (byte == AT_SIGN) ≡ false → position (λ byte. byte == AT_SIGN) text ≡ place
    → position (λ byte. byte == AT_SIGN) (byte ∷ text) ≡ option_map suc place
sign_behind byte text place is found =
    let at : position_or_len (λ byte. byte == AT_SIGN) (byte ∷ text) ≡ 1 + position_or_len (λ byte. byte == AT_SIGN) text = rw is refl in
    by place found at
  where
    by : (place : Option ℕ) → position (λ byte. byte == AT_SIGN) text ≡ place
        → position_or_len (λ byte. byte == AT_SIGN) (byte ∷ text) ≡ 1 + position_or_len (λ byte. byte == AT_SIGN) text
        → position (λ byte. byte == AT_SIGN) (byte ∷ text) ≡ option_map suc place
    by None found at = grind (arith, nat_tests)
    by (Some place) found at = grind (arith, nat_tests)

-- a text that begins with the sign is a version of the empty name; any other first byte is one of
-- the name
starts : (byte : ℕ) (text : List ℕ) → (byte == AT_SIGN) ≡ true → parse_query (byte ∷ text) ≡ record { name = []; asked = asked_after text }
unfolding parse_query
starts byte text is = rw (sign_here byte text is, parse_query) refl

goes_on : (byte : ℕ) (text : List ℕ) → (byte == AT_SIGN) ≡ false
    → parse_query (byte ∷ text) ≡ record { name = byte ∷ (parse_query text).name; asked = (parse_query text).asked }
unfolding parse_query
goes_on byte text is = by (position (λ byte. byte == AT_SIGN) text) refl
  where
    by : (place : Option ℕ) → position (λ byte. byte == AT_SIGN) text ≡ place
        → parse_query (byte ∷ text) ≡ record { name = byte ∷ (parse_query text).name; asked = (parse_query text).asked }
    by None e = rw (e, sign_behind byte text None is e, parse_query) refl
    by (Some place) e = rw (e, sign_behind byte text (Some place) is e, parse_query) refl

-- what a text matches, without splitting it
fits : (name : List ℕ) (suffix : Suffix) (text : List ℕ) → Bool
fits name NoSuffix text = bytes_eq name text
fits name (Suffixed is_default (Cut _)) text = bytes_eq name text
fits name (Suffixed is_default (Whole version)) text =
    bytes_eq name text || ((not (has_sign_first version) && bytes_eq (name ++ AT_SIGN ∷ version) text) || (is_default && bytes_eq (name ++ AT_SIGN ∷ AT_SIGN ∷ version) text))

-- Boolean words
and-false : (b : Bool) → b && false ≡ false
and-false true = refl
and-false false = refl

or-none : (b c : Bool) → b || (c && false) ≡ b
or-none true c = refl
or-none false c = and-false c

-- the version after one sign is not the one after two
no_sign_first : (version text : List ℕ) → not (has_sign_first version) && bytes_eq version (AT_SIGN ∷ text) ≡ false
no_sign_first [] text = refl
no_sign_first (first ∷ version) text = elim (cases_Bool (first == AT_SIGN)) [ inl sign ↦ rw sign refl | inr other ↦ rw other refl ]

one_sign : (version text : List ℕ) (byte : ℕ) → (byte == AT_SIGN) ≡ false → not (has_sign_first version) && bytes_eq version (byte ∷ text) ≡ bytes_eq version (byte ∷ text)
one_sign [] text byte other = refl
one_sign (first ∷ version) text byte other = elim (cases_Bool (first == AT_SIGN)) [
  | inl sign ↦
      let differs : (first == byte) ≡ false = grind (arith, nat_tests) in
      rw (sign, differs) refl
  | inr plain ↦ rw plain refl
]

-- a version after the sign
behind_fits : (suffix : Suffix) (text : List ℕ) → suits (asked_after text) suffix ≡ fits [] suffix (AT_SIGN ∷ text)
unfolding fits
behind_fits NoSuffix [] = refl
behind_fits NoSuffix (byte ∷ text) = elim (cases_Bool (byte == AT_SIGN)) [ inl sign ↦ rw sign refl | inr other ↦ rw other refl ]
behind_fits (Suffixed is_default (Cut _)) [] = refl
behind_fits (Suffixed is_default (Cut _)) (byte ∷ text) =
    elim (cases_Bool (byte == AT_SIGN)) [ inl sign ↦ rw sign (and-false is_default) | inr other ↦ rw other refl ]
behind_fits (Suffixed is_default (Whole [])) [] = refl
behind_fits (Suffixed is_default (Whole (first ∷ version))) [] =
    sym (or-none (not (first == AT_SIGN) && false) is_default ∙ and-false (not (first == AT_SIGN)))
behind_fits (Suffixed is_default (Whole version)) (byte ∷ text) = elim (cases_Bool (byte == AT_SIGN)) [
  | inl sign ↦
      let is : byte ≡ AT_SIGN = grind (arith, nat_tests) in
      rw (is, no_sign_first version text) refl
  | inr other ↦
      let differs : (AT_SIGN == byte) ≡ false = grind (arith, nat_tests) in
      rw (other, differs, one_sign version text byte other) (sym (or-none (bytes_eq version (byte ∷ text)) is_default))
]

-- if both are compared, byte by byte
fits_end : (first : ℕ) (name : List ℕ) (behind : Suffix) → fits (first ∷ name) behind [] ≡ false
unfolding fits
fits_end first name NoSuffix = refl
fits_end first name (Suffixed is_default (Cut _)) = refl
fits_end first name (Suffixed is_default (Whole version)) = or-none (not (has_sign_first version) && false) is_default ∙ and-false (not (has_sign_first version))

fits_none : (behind : Suffix) (byte : ℕ) (text : List ℕ) → (byte == AT_SIGN) ≡ false → fits [] behind (byte ∷ text) ≡ false
unfolding fits
fits_none NoSuffix byte text other = refl
fits_none (Suffixed is_default (Cut _)) byte text other = refl
fits_none (Suffixed is_default (Whole version)) byte text other =
    let differs : (AT_SIGN == byte) ≡ false = grind (arith, nat_tests) in
    rw differs (or-none (not (has_sign_first version) && false) is_default ∙ and-false (not (has_sign_first version)))

fits_more : (first : ℕ) (name : List ℕ) (behind : Suffix) (byte : ℕ) (text : List ℕ)
    → fits (first ∷ name) behind (byte ∷ text) ≡ (first == byte) && fits name behind text
unfolding fits
fits_more first name NoSuffix byte text = refl
fits_more first name (Suffixed is_default (Cut _)) byte text = refl
fits_more first name (Suffixed is_default (Whole version)) byte text =
    shared (first == byte) (bytes_eq name text) (not (has_sign_first version)) (bytes_eq (name ++ AT_SIGN ∷ version) text) is_default
    (bytes_eq (name ++ AT_SIGN ∷ AT_SIGN ∷ version) text)
  where
    shared : (e a n b d c : Bool) → (e && a) || ((n && (e && b)) || (d && (e && c))) ≡ e && (a || ((n && b) || (d && c)))
    shared true a n b d c = refl
    shared false a n b d c = or-none (n && false) d ∙ and-false n

-- WHAT A TEXT MATCHES: a name without the sign that is the text, or that is with its version
nothing_fits : (name : List ℕ) (behind : Suffix) → is_named (Whole name) behind (parse_query []) ≡ not (has_sign name) && fits name behind []
unfolding fits parse_query
nothing_fits [] NoSuffix = refl
nothing_fits [] (Suffixed is_default (Cut _)) = refl
nothing_fits [] (Suffixed is_default (Whole version)) = refl
nothing_fits (first ∷ name) behind = sym (ap (λ b. not (has_sign (first ∷ name)) && b) (fits_end first name behind) ∙ and-false (not (has_sign (first ∷ name))))

text_fits : (name : List ℕ) (behind : Suffix) (text : List ℕ) → is_named (Whole name) behind (parse_query text) ≡ not (has_sign name) && fits name behind text
text_fits name behind [] = nothing_fits name behind
text_fits [] behind (byte ∷ text) = elim (cases_Bool (byte == AT_SIGN)) [
  | inl sign ↦
      let is : byte ≡ AT_SIGN = grind (arith, nat_tests) in
      rw (starts byte text sign) (behind_fits behind text ∙ ap (λ (b : ℕ). fits [] behind (b ∷ text)) (sym is))
  | inr other ↦ rw (goes_on byte text other) (sym (fits_none behind byte text other))
]
text_fits (first ∷ name) behind (byte ∷ text) = elim (cases_Bool (byte == AT_SIGN)) [
  | inl sign ↦ rw (starts byte text sign, fits_more first name behind byte text) (elim (cases_Bool (first == AT_SIGN)) [
    | inl same ↦ rw same refl
    | inr other ↦
        let differs : (first == byte) ≡ false = grind (arith, nat_tests) in
        rw (other, differs) (sym (and-false (not (has_sign name))))
  ])
  | inr other ↦ rw (goes_on byte text other, fits_more first name behind byte text) (elim (cases_Bool (first == byte)) [
    | inl same ↦
        let plain : (first == AT_SIGN) ≡ false = grind (arith, nat_tests) in
        rw (same, plain) (text_fits name behind text)
    | inr differs ↦ rw differs (sym (and-false (not (has_sign (first ∷ name)))))
  ])
]

-- among some texts
any_and : (n : Bool) (a b : Bool) → (n && a) || (n && b) ≡ n && (a || b)
any_and true a b = refl
any_and false a b = refl

any_fits : (texts : List (List ℕ)) (name : List ℕ) (behind : Suffix)
    → list_any (is_named (Whole name) behind) (map (wanted_text true) texts) ≡ not (has_sign name) && list_any (fits name behind) texts
any_fits [] name behind = sym (and-false (not (has_sign name)))
any_fits (text ∷ texts) name behind =
    ap₂ (λ one more. one || more) (text_fits name behind text) (any_fits texts name behind)
    ∙ any_and (not (has_sign name)) (fits name behind text) (list_any (fits name behind) texts)

any_or : (p q : List ℕ → Bool) (texts : List (List ℕ)) → list_any (λ text. p text || q text) texts ≡ list_any p texts || list_any q texts
any_or p q [] = refl
any_or p q (text ∷ texts) = ap (λ more. (p text || q text) || more) (any_or p q texts) ∙ by (p text) (q text) (list_any p texts) (list_any q texts)
  where
    by : (a b c d : Bool) → (a || b) || (c || d) ≡ (a || c) || (b || d)
    by true b c d = refl
    by false true true d = refl
    by false true false d = refl
    by false false c d = refl

any_under : (b : Bool) (p : List ℕ → Bool) (texts : List (List ℕ)) → list_any (λ text. b && p text) texts ≡ b && list_any p texts
any_under true p texts = refl
any_under false p [] = refl
any_under false p (text ∷ texts) = any_under false p texts

or-false : (b : Bool) → b || false ≡ b
or-false true = refl
or-false false = refl

pub names_alone_are_chosen : NamesAloneAreChosen
unfolding fits
names_alone_are_chosen texts name = any_fits texts name NoSuffix

any_version : (texts : List (List ℕ)) (name : List ℕ) (is_default : Bool) (version : DisplayedName)
    → list_any (fits name (Suffixed is_default version)) texts ≡ list_any (bytes_eq name) texts || has_version texts name is_default version
unfolding fits
any_version texts name is_default (Cut _) = sym (or-false (list_any (bytes_eq name) texts))
any_version texts name is_default (Whole version) =
    let plain : List ℕ → Bool = bytes_eq (name ++ AT_SIGN ∷ version) in
    let default : List ℕ → Bool = bytes_eq (name ++ AT_SIGN ∷ AT_SIGN ∷ version) in
    let first : Bool = not (has_sign_first version) in
    any_or (bytes_eq name) (λ text. (first && plain text) || (is_default && default text)) texts
    ∙ ap (λ b. list_any (bytes_eq name) texts || b)
    (any_or (λ text. first && plain text) (λ text. is_default && default text) texts
    ∙ ap₂ (λ b c. b || c) (any_under first plain texts) (any_under is_default default texts))

pub versions_are_chosen : VersionsAreChosen
versions_are_chosen texts name is_default version =
    any_fits texts name (Suffixed is_default version) ∙ ap (λ b. not (has_sign name) && b) (any_version texts name is_default version)

-- a name alone matches, no matter what follows it
alone_fits : (name : DisplayedName) (behind : Suffix) (wanted : SymbolQuery) → is_named name NoSuffix wanted ≡ true → is_named name behind wanted ≡ true
alone_fits name behind wanted fit = by (is_whole name wanted.name) wanted.asked fit
  where
    by : (whole : Bool) (asked : VersionQuery) → whole && suits asked NoSuffix ≡ true → whole && suits asked behind ≡ true
    by whole NoVersion fit = fit
    by true (Version version) fit = absurd (true≢false (sym fit))
    by true (DefaultVersion version) fit = absurd (true≢false (sym fit))
    by false (Version version) fit = fit
    by false (DefaultVersion version) fit = fit

or-second : (b c : Bool) → c ≡ true → b || c ≡ true
or-second true c is = refl
or-second false c is = is

pub names_fit_every_version : NamesFitEveryVersion
names_fit_every_version EveryRow name behind shown = refl
names_fit_every_version (RowsOf wanted) name behind shown = go wanted shown
  where
    go : (wanted : List SymbolQuery) → list_any (is_named name NoSuffix) wanted ≡ true → list_any (is_named name behind) wanted ≡ true
    go [] any = any
    go (first ∷ wanted) any = elim (cases_Bool (is_named name NoSuffix first)) [
      | inl fit ↦ rw (alone_fits name behind first fit) refl
      | inr other ↦
          let more : list_any (is_named name NoSuffix) wanted ≡ true = sym (ap (λ b. b || list_any (is_named name NoSuffix) wanted) other) ∙ any in
          or-second (is_named name behind first) _ (go wanted more)
    ]
