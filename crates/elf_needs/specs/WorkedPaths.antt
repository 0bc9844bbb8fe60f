-- Worked examples of the paths that are tried for a library.
use Rattle.std.specs.Prelude.{◌≡◌, List, [], ◌∷◌, codes, Option, None, Some, false, true, ℕ}
use Rattle.elf_needs.specs.Searching.{NeedingObject, is_below_default, paths_tried}

-- an object by its directories, and where it is
abbrev needer : Option (List ℕ) → Option (List ℕ) → List ℕ → NeedingObject
needer rpath runpath directory = record { rpath = rpath; runpath = runpath; directory = directory; nodeflib = false }

-- one whose needs are not searched for in the default directories
abbrev alone : Option (List ℕ) → List ℕ → NeedingObject
alone runpath directory = record { rpath = None; runpath = runpath; directory = directory; nodeflib = true }

-- a name with a slash in it is a path: that alone is tried, below another root if it begins with a
-- slash
abbrev pub NamesArePaths : Type 0
NamesArePaths =
    (paths_tried [] (codes "/p") (codes "/l") (codes "/d") (needer None None (codes "/bin") ∷ []) (codes "/x/liba.so") ≡ codes "/x/liba.so" ∷ [])
    × (paths_tried (codes "/r") (codes "/p") (codes "/l") (codes "/d") (needer None None (codes "/bin") ∷ []) (codes "/x/liba.so") ≡ codes "/r/x/liba.so" ∷ [])
    × (paths_tried (codes "/r") (codes "/p") (codes "/l") (codes "/d") (needer None None (codes "/bin") ∷ []) (codes "x/liba.so") ≡ codes "x/liba.so" ∷ [])

-- DT_RPATH of the object and of the one that first needed it, unless that has DT_RUNPATH; the given
-- library path; the default directories
abbrev pub RpathsGoUp : Type 0
RpathsGoUp =
    (paths_tried [] (codes "/p") (codes "/l") (codes "/d:/e") (needer (Some (codes "$ORIGIN/../lib:/o")) None (codes "/a/bin") ∷ needer (Some (codes "/top")) None (codes "/b") ∷ []) (codes "z")
    ≡ codes "/a/bin/../lib/z" ∷ codes "/o/z" ∷ codes "/top/z" ∷ codes "/l/z" ∷ codes "/d/z" ∷ codes "/e/z" ∷ [])
    × (paths_tried [] (codes "/p") (codes "/l") (codes "/d") (needer (Some (codes "/o")) None (codes "/a") ∷ needer (Some (codes "/top")) (Some (codes "/run")) (codes "/b") ∷ []) (codes "z")
    ≡ codes "/o/z" ∷ codes "/l/z" ∷ codes "/d/z" ∷ [])

-- DT_RUNPATH of the object follows the library path, and serves for no other's needs; with it no
-- DT_RPATH counts
abbrev pub RunpathsAreOwn : Type 0
RunpathsAreOwn =
    (paths_tried [] (codes "/p") (codes "/l") (codes "/d") (needer (Some (codes "/o")) (Some (codes "/run")) (codes "/a") ∷ needer (Some (codes "/top")) None (codes "/b") ∷ []) (codes "z")
    ≡ codes "/l/z" ∷ codes "/run/z" ∷ codes "/d/z" ∷ [])
    × (paths_tried [] (codes "/p") (codes "") (codes "/d") (needer None None (codes "/a") ∷ needer None (Some (codes "/run")) (codes "/b") ∷ []) (codes "z") ≡ codes "/d/z" ∷ [])

-- tokens, with braces or without; a `$` that begins none is a byte, and so is each in the default
-- directories; in the library path tokens are the program's
abbrev pub TokensStand : Type 0
TokensStand =
    (paths_tried [] (codes "/p") (codes "$ORIGIN/l;$x:${LIB}") (codes "/$LIB;") (needer (Some (codes "/u/$LIB:/v/${PLATFORM}x:${ORIGIN}:$ORIGINAL:/w/$:$ORIGIN/$LIB")) None (codes "/a") ∷ []) (codes "z")
    ≡ codes "/u/lib/x86_64-linux-gnu/z"
    ∷ codes "/v/x86_64x/z"
    ∷ codes "/a/z"
    ∷ codes "$ORIGINAL/z"
    ∷ codes "/w/$/z"
    ∷ codes "/a/lib/x86_64-linux-gnu/z"
    ∷ codes "/p/l/z"
    ∷ codes "$x/z"
    ∷ codes "lib/x86_64-linux-gnu/z"
    ∷ codes "/$LIB;/z"
    ∷ [])

-- tokens of a name are replaced too, and then it is seen whether it has a slash
abbrev pub NamesHaveTokens : Type 0
NamesHaveTokens =
    (paths_tried [] (codes "/p") [] (codes "/d") (needer None None (codes "/a") ∷ []) (codes "$ORIGIN/z$") ≡ codes "/a/z$" ∷ [])
    × (paths_tried [] (codes "/p") [] (codes "/d") (needer None None (codes "/a") ∷ []) (codes "z.${PLATFORM}") ≡ codes "/d/z.x86_64" ∷ [])
    × (paths_tried [] (codes "/p") [] (codes "/d") (needer None None (codes "/a") ∷ []) (codes "$LIB") ≡ codes "lib/x86_64-linux-gnu" ∷ [])

-- an object that says so has no default directories for its own needs, and nothing of a cache that
-- is below one of them
abbrev pub DefaultsAreLeftOut : Type 0
DefaultsAreLeftOut =
    (paths_tried [] (codes "/p") (codes "/l") (codes "/d:/e") (alone (Some (codes "/run")) (codes "/a") ∷ []) (codes "z") ≡ codes "/l/z" ∷ codes "/run/z" ∷ [])
    × (paths_tried [] (codes "/p") (codes "/l") (codes "/d") (needer None None (codes "/a") ∷ alone None (codes "/b") ∷ []) (codes "z") ≡ codes "/l/z" ∷ codes "/d/z" ∷ [])
    × (is_below_default (codes "/d:/e") (codes "/e/sub/z") ≡ true)
    × (is_below_default (codes "/d:/e") (codes "/ex/z") ≡ false)

-- an empty entry is the current directory, and an empty list has none; a directory that ends in a
-- slash has one more after it; another root precedes what begins with a slash, and not the
-- directory of an object
abbrev pub DirsAreJoined : Type 0
DirsAreJoined =
    (paths_tried [] (codes "/p") [] (codes ":/d/:") (needer None None (codes "/a") ∷ []) (codes "z") ≡ codes "./z" ∷ codes "/d//z" ∷ codes "./z" ∷ [])
    × (paths_tried (codes "/r") (codes "/p") [] (codes "/d:e") (needer None (Some (codes "$ORIGIN:/f")) (codes "/r/a") ∷ []) (codes "z")
    ≡ codes "/r/a/z" ∷ codes "/r/f/z" ∷ codes "/r/d/z" ∷ codes "e/z" ∷ [])
