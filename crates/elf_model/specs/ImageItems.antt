-- WHAT A PROCESS HAS FOR A FILE THAT IT LOADS: where the file is, where its symbols are bound, and
-- the values of relocations that follow from these (x86-64 psABI, Relocation; ELF Handling for
-- Thread-Local Storage). A symbol is at an offset of the file, and has an index.
use Rattle.std.specs.Prelude.{ℕ, ◌+◌, ◌%◌, ◌^◌, ◌==◌, ◌&&◌, ◌||◌, nat_lt, not, if◌then◌else◌, Bool, true, false, List, [], ◌∷◌, Option, None, Some, Result, Ok, Err, option_map}
use Rattle.elf_model.specs.Numbers.{SHN_ABS, SHN_LORESERVE, SHN_UNDEF, STB_LOCAL, STB_WEAK, STT_LOOS, STV_DEFAULT, STV_PROTECTED}
use Rattle.elf_model.specs.Placing.{address_in}
use Rattle.elf_model.specs.Records.{st_bind, st_shndx, st_type, st_value, st_visibility}
use Rattle.elf_model.specs.declared.causes.Cause.{Cause}
use Rattle.elf_model.specs.declared.causes.Cause.TheVariants.{Undefined, Unplaced}

-- THE ITEMS: the load address, which is that of a byte in memory less its p_vaddr; by the index of a
-- symbol where it is bound, and where its calls go, if elsewhere; of the object that it is bound in
-- the module id, the symbol's offset in that object's thread-local block, and its offset from the
-- thread pointer, where index 0 is the file itself; by the address of a resolver what it returns; by
-- the index of a symbol the bytes of an object that is copied; the function of descriptors. And
-- whether they are only some of those of a process: then a symbol that is looked up and has no item
-- may be bound in any object
pub record ItemValues : Type 0 where
  pub base : ℕ
  pub symbols : List (ℕ × ℕ)
  pub calls : List (ℕ × ℕ)
  pub modules : List (ℕ × ℕ)
  pub blocks : List (ℕ × ℕ)
  pub threads : List (ℕ × ℕ)
  pub resolved : List (ℕ × ℕ)
  pub copies : List (ℕ × List ℕ)
  pub descriptor : Option ℕ
  pub partial : Bool

-- a symbol is looked up in the objects of a process: it is not local, and its visibility does not
-- bind it to its own object (gABI 4, Symbol Visibility). Items of other symbols are not used
abbrev pub is_looked_up : List ℕ → ℕ → Bool
is_looked_up file symbol =
    not (st_bind file symbol == STB_LOCAL)
    && (st_visibility file symbol == STV_DEFAULT || st_visibility file symbol == STV_PROTECTED)

-- it is undefined
abbrev pub is_undefined : List ℕ → ℕ → Bool
is_undefined file symbol = st_shndx file symbol == SHN_UNDEF

-- it is looked up, and may be bound to nothing
abbrev pub may_be_unbound : List ℕ → ℕ → Bool
may_be_unbound file symbol = is_looked_up file symbol && st_bind file symbol == STB_WEAK

-- the item of a symbol, if it is looked up
abbrev pub item_of : List (ℕ × ℕ) → List ℕ → (index symbol : ℕ) → Option ℕ
item_of items file index symbol = elim (is_looked_up file symbol) [ true ↦ address_in items index | false ↦ None ]

-- the items do not say where a symbol is bound
abbrev pub lacks_item : List ℕ → ItemValues → ℕ → Bool
lacks_item file items symbol = items.partial && is_looked_up file symbol

-- S of a symbol that has no item: 0 if it may be unbound; its own value if it is absolute; otherwise
-- its place in the file, which a reserved index does not have, and of a system-specific type is not
-- the value
unfoldable pub own_value : List ℕ → ItemValues → ℕ → Result ℕ Cause
own_value file items symbol =
    if lacks_item file items symbol then Err Undefined
    else if is_undefined file symbol then (if may_be_unbound file symbol then Ok 0 else Err Undefined)
    else if st_shndx file symbol == SHN_ABS then Ok (st_value file symbol)
    else if not (nat_lt (st_shndx file symbol) SHN_LORESERVE) || not (nat_lt (st_type file symbol) STT_LOOS) then Err Unplaced
    else Ok ((items.base + st_value file symbol) % 2 ^ 64)

-- an item, or what is in its place
abbrev pub item_or : Option ℕ → Result ℕ Cause → Result ℕ Cause
item_or (Some value) other = Ok value
item_or None other = other

-- S OF A SYMBOL, and as it is called
unfoldable pub bound_value : List ℕ → ItemValues → (index symbol : ℕ) → Result ℕ Cause
bound_value file items index symbol = item_or (item_of items.symbols file index symbol) (own_value file items symbol)

unfoldable pub called_value : List ℕ → ItemValues → (index symbol : ℕ) → Result ℕ Cause
called_value file items index symbol = item_or (item_of items.calls file index symbol) (bound_value file items index symbol)

-- WHAT A RELOCATION SAYS OF A THREAD-LOCAL SYMBOL: the module id of its object, its offset in that
-- object's thread-local block, or its offset from the thread pointer
pub data ThreadValue : Type 0 where
  ModuleId : ThreadValue
  InBlock : ThreadValue
  FromPointer : ThreadValue

-- the items that say it
abbrev pub thread_items : ThreadValue → ItemValues → List (ℕ × ℕ)
thread_items ModuleId items = items.modules
thread_items InBlock items = items.blocks
thread_items FromPointer items = items.threads

-- that of the file's own symbols, by their value
unfoldable pub own_thread_value : ThreadValue → ItemValues → ℕ → Option ℕ
own_thread_value ModuleId items value = address_in items.modules 0
own_thread_value InBlock items value = Some value
own_thread_value FromPointer items value = option_map (λ block. (block + value) % 2 ^ 64) (address_in items.threads 0)

-- it, or no place
abbrev pub or_unplaced : Option ℕ → Result (Option ℕ) Cause
or_unplaced (Some value) = Ok (Some value)
or_unplaced None = Err Unplaced

-- of a symbol without an item: nothing if it may be unbound; that of the file's own
unfoldable pub own_thread_symbol : ThreadValue → List ℕ → ItemValues → ℕ → Result (Option ℕ) Cause
own_thread_symbol kind file items symbol =
    if lacks_item file items symbol then Err Undefined
    else if is_undefined file symbol then (if may_be_unbound file symbol then Ok None else Err Undefined)
    else or_unplaced (own_thread_value kind items (st_value file symbol))

-- that of a symbol; index 0 is the file's thread-local block, which begins with offset 0
unfoldable pub thread_value : ThreadValue → List ℕ → ItemValues → (index symbol : ℕ) → Result (Option ℕ) Cause
thread_value kind file items index symbol = elim (index == 0) [
  | true ↦ or_unplaced (own_thread_value kind items 0)
  | false ↦ elim (item_of (thread_items kind items) file index symbol) [
    | Some value ↦ Ok (Some value)
    | None ↦ own_thread_symbol kind file items symbol
  ]
]

-- the bytes of an object that is copied, by the index of its symbol
unfoldable pub bytes_for : List (ℕ × List ℕ) → ℕ → Option (List ℕ)
bytes_for [] index = None
bytes_for (item ∷ items) index = elim (item.0 == index) [ true ↦ Some item.1 | false ↦ bytes_for items index ]
