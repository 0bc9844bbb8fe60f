-- A cursor over entries goes on.
use Rattle.std.proofs.Common.{◌≡◌, ◌∙◌, ℕ, zero, suc, ◌+◌, ◌-◌, ◌*◌, ◌^◌, ◌<◌, ◌≤◌, List, [], ◌∷◌, Bool, true, false, not, length, take, drop, get_or, min, inl, inr, ap, sym, refl, arith, length-drop, length-take, pow-suc}
use Rattle.std.proofs.lemmas.Bool.{cases_lt}
use Rattle.elf_model.specs.Bytes.{field, number, slice}
use Rattle.elf_model.proofs.Slices.{field-slice, get_or-slice, slice-slice}
use Rattle.elf_table.specs.WindowCalls.{Skips}
use Rattle.elf_table.specs.Windows.{HoldsBytes, HoldsCount, WindowState, range_end}
use Rattle.elf_image.specs.RelaRows.{AreFarRows, IsFarEntry, IsRowFar, PassesEntries, is_in_reach}
use Rattle.elf_image.specs.Within.{RelaRowsAlive, entries_ahead}
use Rattle.elf_image.specs.declared.rela_rows.RelaRows.{RelaRows}
use Rattle.elf_image.specs.declared.rela_rows.WindowReach.{WindowReach}

pub passes : (old : RelaRows) (count : ℕ) (window : WindowState) → count ≤ entries_ahead old
    → Skips old.window window (count * 24)
    → PassesEntries old (record { table = old.table; index = old.index + count; window = window }) count
passes old count window few skips =
    let long : length window.held ≡ length old.window.held - count * 24 = ap length skips.held ∙ length-drop (count * 24) old.window.held in
    record {
      table = refl;
      index = refl;
      unread = skips.unread;
      alive = λ size a. record {
        table = a.table;
        index = omega (arith, few, a.index);
        place = omega (arith, skips.at, a.place);
        end = skips.end ∙ a.end;
        page = skips.page ∙ a.page;
        small = a.small;
        few = omega (arith, long, a.few);
        held = a.held - count;
        whole = omega (arith, long, a.whole);
      };
      agrees = skips.agrees;
    }

-- the window holds the next entry
pub filled : (size : ℕ) (rows : RelaRows) (window : WindowState) → RelaRowsAlive size rows → rows.index < rows.table.count
    → HoldsCount rows.window window 24 → window.page ≡ rows.window.page → range_end window ≡ range_end rows.window
    → RelaRowsAlive size (record { table = rows.table; index = rows.index; window = window })
filled size rows window a some holds page end = elim (cases_lt (length rows.window.held) 24) [
  | inl short ↦
      let long : length window.held ≡ min rows.window.page (length rows.window.held + rows.window.unread) = holds.whole short in
      record {
        table = a.table;
        index = a.index;
        place = holds.stays ∙ a.place;
        end = end ∙ a.end;
        page = page ∙ a.page;
        small = a.small;
        few = omega (arith, long, a.page);
        held = min 170 (rows.table.count - rows.index);
        whole = omega (arith, long, a.page, a.place, a.end, a.index);
      }
  | inr enough ↦
      let same : window ≡ rows.window = holds.unchanged enough in
      record {
        table = a.table;
        index = a.index;
        place = holds.stays ∙ a.place;
        end = end ∙ a.end;
        page = page ∙ a.page;
        small = a.small;
        few = rw same a.few;
        held = a.held;
        whole = rw same a.whole;
      }
]

-- eight bytes are a number below 2^64
power-next : (n : ℕ) → 256 ^ suc n ≡ 256 * 256 ^ n
power-next n = pow-suc 256 n ∙ omega arith

bytes-fit : (n : ℕ) (bytes : List ℕ) → ((k : ℕ) → k < n → get_or bytes k 0 < 256) → length bytes ≤ n → number bytes < 256 ^ n
unfolding number
bytes-fit zero [] small few = omega arith
bytes-fit (suc n) [] small few = let rest : number [] < 256 ^ n = bytes-fit n [] (λ k h. omega arith) (omega arith) in let power : 256 ^ suc n ≡ 256 * 256 ^ n = power-next n in omega (arith, rest, power)
bytes-fit zero (byte ∷ bytes) small few = absurd (omega arith)
bytes-fit (suc n) (byte ∷ bytes) small few =
    let rest : number bytes < 256 ^ n = bytes-fit n bytes (λ k h. small (suc k) (omega arith)) (omega arith) in
    let power : 256 ^ suc n ≡ 256 * 256 ^ n = power-next n in
    let first : byte < 256 = small 0 (omega arith) in
    omega (arith, rest, first, power)

pub word-fits : (bytes : List ℕ) (at : ℕ) → ((k : ℕ) → get_or bytes k 0 < 256) → field bytes at 8 < 2 ^ 64
unfolding field
word-fits bytes at small =
    bytes-fit 8 (slice bytes at 8) (λ k below. rw (get_or-slice bytes at 8 k below) (small (at + k))) (omega (arith, length-take 8 (drop at bytes)))

-- the low byte of a number
number-first : (bytes : List ℕ) (at : ℕ) → field bytes at 8 ≡ get_or bytes at 0 + 256 * field bytes (suc at) 7
unfolding field number
number-first [] zero = omega arith
number-first [] (suc at) = omega arith
number-first (byte ∷ bytes) zero = refl
number-first (byte ∷ bytes) (suc at) = number-first bytes at

pub far-bytes : (row : List ℕ) (reach : WindowReach) → get_or row 8 0 < 256 → (get_or row 8 0 ≡ 5 → ⊥) → (get_or row 8 0 ≡ 37 → ⊥)
    → is_in_reach reach (field row 0 8) ≡ false → IsRowFar row reach
far-bytes row reach small copy indirect far =
    let low = number-first row 8 in
    record {
      direct = λ is. indirect (omega (arith, low, is, small));
      small = λ is. copy (omega (arith, low, is, small));
      far = far;
    }

-- those of a window are those of the file
pub far-entries : (file : List ℕ) (at index count : ℕ) (window : WindowState) (reach : WindowReach)
    → window.at ≡ at + 24 * index → HoldsBytes file window → 24 * count ≤ length window.held → AreFarRows window.held reach count
    → (i : ℕ) → index ≤ i → i < index + count → IsFarEntry file (at + 24 * i) reach
far-entries file at index count window reach place holds few far i from below =
    let k = i - index in
    let here : window.at + 24 * k ≡ at + 24 * i = omega (arith, place, from) in
    let row : slice window.held (24 * k) 24 ≡ slice file (at + 24 * i) 24 =
    rw holds (slice-slice file window.at (length window.held) (24 * k) 24 (omega (arith, few, below, from)) ∙ rw here) in
    let it = rw row at (far k (omega (arith, from, below))) in
    record {
      direct = λ is. it.direct (rw (field-slice file (at + 24 * i) 24 8 8 (omega arith)) is);
      small = λ is. it.small (rw (field-slice file (at + 24 * i) 24 8 8 (omega arith)) is);
      far = let e : field (slice file (at + 24 * i) 24) 0 8 ≡ field file (at + 24 * i) 8 = field-slice file (at + 24 * i) 24 0 8 (omega arith) ∙ ap (λ a. field file a 8) (omega arith) in rw (← e) it.far;
    }

-- the addend of an entry is eight of its bytes
pub addend-fits : (file : List ℕ) (at : ℕ) (bytes : List ℕ) → take 24 bytes ≡ slice file at 24 → ((k : ℕ) → get_or bytes k 0 < 256)
    → field file (at + 16) 8 < 2 ^ 64
addend-fits file at bytes is small =
    let e : field file (at + 16) 8 ≡ field bytes 16 8 = sym (field-slice file at 24 16 8 (omega arith)) ∙ (ap (λ xs. field xs 16 8) (sym is) ∙ field-slice bytes 0 24 16 8 (omega arith)) in
    rw e (word-fits bytes 16 small)

pub untrue : (b : Bool) → not b ≡ true → b ≡ false
untrue true h = sym h
untrue false h = refl
