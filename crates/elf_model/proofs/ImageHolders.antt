-- Which LOAD segment has bytes in memory.
use Rattle.std.proofs.Common.{◌≡◌, ℕ, ◌+◌, ◌*◌, ◌/◌, ◌≤◌, ◌<◌, ◌==◌, ◌&&◌, not, nat_lt, inl, inr, true, List, arith}
use Rattle.std.proofs.Math.Nat.{div-mul-le_self}
use Rattle.std.proofs.lemmas.Bool.{and_from, and_parts, cases_Bool, eqb-true, false_from_ne_true, ltb-false, not-true, not_from_false}
use Rattle.elf_model.specs.Image.{holder_of, holds_in_memory}
use Rattle.elf_model.specs.ImageLaws.{HolderIsOne}
use Rattle.elf_model.specs.Numbers.{PT_LOAD}
use Rattle.elf_model.specs.Prelude.{e_phnum, p_memsz, p_type, p_vaddr, segment_at, takes_memory}
use Rattle.elf_model.proofs.LookupSteps.{first_that-some}
use Rattle.elf_model.proofs.OverlapLemmas.{no_page_shared}

-- what it says that a segment has them
record Holds (file : List ℕ) (at address size : ℕ) : Type 0 where
  load : (p_type file at == PT_LOAD) ≡ true
  low : p_vaddr file at ≤ address
  high : address + size ≤ p_vaddr file at + p_memsz file at

holds : (file : List ℕ) (at address size : ℕ) → holds_in_memory file at address size ≡ true → Holds file at address size
holds file at address size e =
    let last = p_vaddr file at + p_memsz file at in
    let parts = and_parts ((p_type file at == PT_LOAD) && not (nat_lt address (p_vaddr file at))) (not (nat_lt last (address + size))) e in
    let front = and_parts (p_type file at == PT_LOAD) (not (nat_lt address (p_vaddr file at))) parts.0 in
    record {
      load = front.0;
      low = ltb-false address (p_vaddr file at) (not-true _ front.1);
      high = ltb-false last (address + size) (not-true _ parts.1);
    }

takes : (file : List ℕ) (at address size : ℕ) → 0 < size → Holds file at address size → takes_memory file at ≡ true
takes file at address size some h = elim (cases_Bool (p_memsz file at == 0)) [
  | inl none ↦ let zero_size = eqb-true (p_memsz file at) 0 none in absurd (omega (arith, some, h.low, h.high, zero_size))
  | inr more ↦ and_from (p_type file at == PT_LOAD) (not (p_memsz file at == 0)) h.load (not_from_false (p_memsz file at == 0) more)
]

-- a number is at most the end of its page
page_end : (n : ℕ) → n ≤ (n + 4095) / 4096 * 4096
page_end n = omega arith

pub holder_is_one : HolderIsOne
unfolding holder_of
holder_is_one file address size i passes some within e =
    let here = holds file (segment_at file i) address size e in
    first_that-some (λ k. holds_in_memory file (segment_at file k) address size) 0 (e_phnum file) i (omega arith) (omega (arith, within))
    (λ j low below. false_from_ne_true (holds_in_memory file (segment_at file j) address size) (λ there_too.
    let there = holds file (segment_at file j) address size there_too in
    let apart = no_page_shared file passes j i below within (takes file (segment_at file j) address size some there) (takes file (segment_at file i) address size some here) in
    let behind = page_end (p_vaddr file (segment_at file j) + p_memsz file (segment_at file j)) in
    let front = div-mul-le_self (p_vaddr file (segment_at file i)) 4096 in
    omega (arith, apart, behind, front, some, here.low, there.high))) e
