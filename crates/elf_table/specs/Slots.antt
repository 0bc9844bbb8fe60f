-- The memory of a store of headers.
use Rattle.std.specs.Prelude.{ℕ, ◌*◌, List, length}
use Rattle.elf_table.specs.declared.slot_memory.SlotMemory.{SlotMemory}
use Rattle.elf_table.specs.declared.slot_memory.SlotMemory.TheVariants.{Whole, Growing}

-- the bytes of a store's memory that were written
abbrev pub slot_contents : SlotMemory → List ℕ
slot_contents (Whole bytes) = bytes.now
slot_contents (Growing buffer) = buffer.now.bytes

-- how many bytes it has room for
abbrev pub slot_room : SlotMemory → ℕ
slot_room (Whole bytes) = length bytes.now
slot_room (Growing buffer) = 64 * buffer.now.slots
