-- The texts of a cache.
use Rattle.std.proofs.Common.{◌≡◌, ℕ, ◌+◌, ◌-◌, ◌<◌, ◌≤◌, ◌⊎◌, inl, inr, min, Bool, true, false, List, length, take, drop, length-take, length-drop, None, Some, sym, ap, subst, ◌∙◌, arith}
use Rattle.std.proofs.lemmas.Bool.{cases_lt}
use Rattle.std.proofs.lemmas.List.{take_all}
use Rattle.elf_model.proofs.Nuls.{none-free, some-free}
use Rattle.elf_model.specs.LoaderCache.{LoaderCache}
use Rattle.elf_model.specs.Notes.{before_nul}
use Rattle.elf_model.specs.Prelude.{NulFound, cache_text, slice}

-- THE LAW: an offset outside of the file has no text
pub text-outside : (file : List ℕ) (cache : LoaderCache) (off : ℕ) → length file ≤ cache.strings + off → cache_text file cache off ≡ None
unfolding cache_text
text-outside file cache off past = grind arith

text-inside : (file : List ℕ) (cache : LoaderCache) (off : ℕ) → cache.strings + off < length file → cache_text file cache off ≡ Some (before_nul (slice file (cache.strings + off) 4096))
unfolding cache_text
text-inside file cache off inside = grind arith

-- what is left of a file, up to a size
left-taken : (rest : List ℕ) (most want : ℕ) → want ≡ min (length rest) most → (length rest < most) ⊎ (most ≤ length rest) → take want rest ≡ take most rest
left-taken rest most want is (inl short) =
    let all : want ≡ length rest = omega (arith, is, short) in
    ap (λ (n : ℕ). take n rest) all ∙ take_all (length rest) rest (omega arith) ∙ sym (take_all most rest (omega (arith, short)))
left-taken rest most want is (inr long) = ap (λ (n : ℕ). take n rest) (omega (arith, is, long))

pub left-slice : (file : List ℕ) (at want : ℕ) → want ≡ min (length file - at) 4096 → slice file at want ≡ slice file at 4096
left-slice file at want is = left-taken (drop at file) 4096 want (omega (arith, is, length-drop at file)) (cases_lt (length (drop at file)) 4096)

-- the bytes before a NUL, or all
kept-before : (bytes kept : List ℕ) (found : Bool) → length bytes ≤ 4096 → NulFound bytes 4096 found kept → kept ≡ before_nul bytes
kept-before bytes kept true few (place, some, is) =
    let first = some-free bytes place some in
    is ∙ take_all 4096 (take place bytes) (omega (arith, length-take place bytes, few)) ∙ ap (λ (n : ℕ). take n bytes) (sym first.0)
kept-before bytes kept false few (none, is) =
    is ∙ take_all 4096 bytes few ∙ sym (take_all _ bytes (omega (arith, none-free bytes none)))

-- THE LAW: bytes that were searched for a NUL are the text
pub text-searched : (file kept : List ℕ) (cache : LoaderCache) (off want : ℕ) (found : Bool) → cache.strings + off < length file → want ≡ min (length file - (cache.strings + off)) 4096
    → NulFound (slice file (cache.strings + off) want) 4096 found kept → cache_text file cache off ≡ Some kept
text-searched file kept cache off want found inside is searched =
    let at = cache.strings + off in
    let bytes = slice file at 4096 in
    text-inside file cache off inside
    ∙ ap (λ (text : List ℕ). Some text) (sym (kept-before bytes kept found (omega (arith, length-take 4096 (drop at file))) (subst (λ (b : List ℕ). NulFound b 4096 found kept) (left-slice file at want is) searched)))
