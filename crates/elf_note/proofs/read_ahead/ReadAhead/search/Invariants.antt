-- The bytes so far have no NUL and are kept; what is left to search is paid for, and no byte after
-- it was requested.
use Rattle.std.proofs.Common.{◌≡◌, ℕ, ◌+◌, ◌-◌, ◌<◌, ◌≤◌, List, length, take, None, Some}
use Rattle.elf_model.specs.Prelude.{nul_in, slice}
use Rattle.elf_note.specs.Ahead.{IsAheadOf, IsOf, ReadsOnCredit}
use Rattle.elf_note.proofs.read_ahead.ReadAhead.search.Given as goal

abbrev pub invariant-loop-done : goal.invariant-loop-done
invariant-loop-done g l =
    let names = l.fn.index.names in
    let off = l.fn.index.off in
    let now = l.self-inside in
    record {
      in_range : l.done ≤ l.want;
      few : length l.name ≤ l.cap.bytes;
      begins : l.start ≡ names.at + off;
      ends : l.end ≡ names.at + names.size;
      paid : l.want ≤ now.credit + l.done;
      spends : ReadsOnCredit l.fn.src l.src l.fn.self.credit now.credit 0;
      behind : l.done < l.want → l.src.asked ≤ l.fn.src.asked + l.done;
      not_past : l.src.asked ≤ l.fn.src.asked + (names.size - off);
      same_symbols : now.symbols ≡ l.fn.self.symbols;
      held : (file : List ℕ) → l.fn.src.seen.file ≡ Some file → IsAheadOf file l.fn.self → IsOf file now.names;
      no_nul : (file : List ℕ) → l.fn.src.seen.file ≡ Some file → IsAheadOf file l.fn.self → nul_in (slice file (names.at + off) l.done) ≡ None;
      name : (file : List ℕ) → l.fn.src.seen.file ≡ Some file → IsAheadOf file l.fn.self → l.name ≡ take l.cap.bytes (slice file (names.at + off) l.done);
    }

abbrev pub decreases-loop-done : goal.decreases-loop-done
decreases-loop-done g l = l.want - l.done
