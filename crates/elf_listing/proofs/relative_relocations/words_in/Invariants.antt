-- The rows of the words before the cursor's were shown, and what may still be read is counted.
use Rattle.elf_options.specs.Permitted.{style_of}
use Rattle.std.proofs.Common.{◌≡◌, ℕ, ◌+◌, ◌*◌, ◌<◌, ◌≤◌, ◌^◌, List, None, Some}
use Rattle.std.specs.Prelude.{IfSome}
use Rattle.elf_model.specs.Prelude.{bitmap_base, each}
use Rattle.elf_note.specs.Ahead.{ReadsOnCredit}
use Rattle.elf_table.specs.Cursors.{HoldsRows, unread_bytes}
use Rattle.elf_source.specs.Growth.{OutGrows}
use Rattle.elf_listing.specs.Prelude.{SameFile, WroteItems, reading, rows_cost, rows_to_give}
use Rattle.elf_listing.specs.RowLayouts.{relr_layout}
use Rattle.elf_listing.proofs.relative_relocations.words_in.Given as goal

abbrev pub invariant-words : goal.invariant-words
invariant-words g l =
    let cap = l.fn.listing.style.cap.bytes in
    let now = reading l.cursor in
    let layout = relr_layout l.fn.section in
    record {
      same_table : now.table ≡ l.fn.table;
      not_failed : now.failed ≡ None;
      counted : now.index + now.left ≡ l.fn.table.count;
      keeps : SameFile l.fn.listing l.listing;
      spends : ReadsOnCredit l.fn.listing.src.now l.listing.src.now l.fn.listing.ahead.credit l.listing.ahead.credit (rows_cost layout None l.fn.table cap);
      asked : l.listing.src.now.asked + l.listing.ahead.credit + (unread_bytes now + now.left * layout.own_cost None cap) ≤ l.fn.listing.src.now.asked + (l.fn.listing.ahead.credit + rows_cost layout None l.fn.table cap);
      agrees : (file : List ℕ) → l.fn.listing.src.now.seen.file ≡ Some file → HoldsRows file now;
      listed : (file : List ℕ) → l.fn.listing.src.now.seen.file ≡ Some file → now.index + rows_to_give file l.cursor ≡ layout.listed file l.fn.table;
      grows : OutGrows l.fn.listing.out.now l.listing.out.now;
      text : (file : List ℕ) → l.fn.listing.src.now.seen.file ≡ Some file → (0 < l.fn.table.count → layout.here None file l.fn.table.at)
          → WroteItems l.fn.listing.out.now l.listing.out.now (each (layout.items None file (style_of l.fn.listing.style) l.fn.table.at) 0 now.index);
      based : (file : List ℕ) → l.fn.listing.src.now.seen.file ≡ Some file → (0 < l.fn.table.count → layout.here None file l.fn.table.at)
          → l.base ≡ bitmap_base file l.fn.table.at now.index;
      few : IfSome l.base (λ address. address ≤ 2 ^ 64 + 504 * now.index);
    }

abbrev pub decreases-words : goal.decreases-words
decreases-words g l = (reading l.cursor).left
