-- Selected slots, written one after the other over a buffer.
use mathlib.Core.Path.{◌≡◌, sym}
use mathlib.Core.List.{List, map}
use Prim.Native.Nat.{ℕ, ◌+◌, ◌<◌, ◌≤◌}
use native.Mathlib.Omega.{arith}
use native.Mathlib.Numerals.{add-one}
use lib.ListN.{length, get_or, set, length-map, get_or-map}
use lib.Seq.{paste, paste-suc}
use Rattle.eval.specs.Next.{selected_by}

module _ (selects slots o out : List ℕ) (at j : ℕ) where
  abbrev value : ℕ → ℕ
  value x = get_or slots x 0

  -- one word more
  pub put-more : at + length selects ≤ length o → j < length selects → out ≡ paste o at (selected_by selects slots) j
      → set out (at + j) (get_or slots (get_or selects j 0) 0) ≡ paste o at (selected_by selects slots) (j + 1)
  put-more h l e =
      let g : get_or slots (get_or selects j 0) 0 ≡ get_or (map value selects) j (value 0) = sym (get_or-map value selects j 0) in
      let m : j < length (map value selects) = rw (length-map selects value) l in
      rw (e, g, add-one) (paste-suc o at (map value selects) j (value 0) (omega arith) m)
