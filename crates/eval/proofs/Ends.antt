-- The ends of `show`: too few visits for the first row, no visit where there was room for one, and a full buffer.
use mathlib.Core.Path.{◌≡◌, refl, sym, ap, ◌∙◌}
use mathlib.Core.Bool.{Bool, true, false}
use mathlib.Core.List.{List, []}
use Prim.Native.Nat.{ℕ, ◌+◌, ◌/◌, ◌<◌, ◌≤◌}
use native.Mathlib.Omega.{arith}
use borrow.Author.Tests.{lt-ltb, le-ltb}
use lib.ListN.{length, take, drop, length-map}
use lib.Seq.{drop-drop, take_all, length-take-le, take-nil}
use lib.Dec.{ltb}
use Rattle.tables.specs.Rows.{flat}
use Rattle.plan.specs.declared.Scan.{Scan}
use Rattle.visits.specs.Visits.{Tables, slots_at}
use Rattle.visits.specs.Window.{window}
use Rattle.eval.specs.Next.{remaining, Advanced, selected_by, rows_at, Shows}
use Rattle.eval.proofs.Passing.{drop-none, drop-next}
use Rattle.eval.proofs.Fill.{Filling, none_left, some_left, drop-map}

-- the rows of the visits that are left are what is left of the rows
pub rows_drop : (ts : Tables) (ss : List Scan) (initial selects : List ℕ) (vs ws : List (List ℕ)) (k : ℕ) → ws ≡ drop k vs
    → drop k (rows_at ts ss initial selects vs) ≡ rows_at ts ss initial selects ws
rows_drop ts ss initial selects vs ws k e =
    drop-map (λ (w : List ℕ). selected_by selects (slots_at ts ss initial w)) k vs ∙ ap (rows_at ts ss initial selects) (sym e)

-- there is no row k
pub shows-none : (ts : Tables) (ss : List Scan) (initial selects : List ℕ) (ws : List (List ℕ)) (width k : ℕ) (o : List ℕ) → drop k ws ≡ []
    → Shows (rows_at ts ss initial selects ws) width k o 0 false o
unfolding window flat
shows-none ts ss initial selects ws width k o z =
    let q : drop k (rows_at ts ss initial selects ws) ≡ [] = rows_drop ts ss initial selects ws [] k (sym z) in
    let m = length o / width in
    record {
      count_is = rw (q, take-nil {A = List ℕ} m);
      more_is = rw q (sym (le-ltb m 0 (omega arith)));
      buffer_is = rw (q, take-nil {A = List ℕ} m);
    }

module _ {ts : Tables} {ss : List Scan} {initial selects : List ℕ} {ws : List (List ℕ)} {o iters₀ slots₀ iters slots : List ℕ} {width room : ℕ}
    {out : List ℕ} {c : ℕ} (u : Filling ts ss initial selects ws o iters₀ slots₀ iters slots width room out c)
    (rs : List (List ℕ)) (k : ℕ) (q : drop k rs ≡ rows_at ts ss initial selects ws) where
  abbrev rows : List (List ℕ)
  rows = rows_at ts ss initial selects ws

  rows-length : length rows ≡ length ws
  rows-length = length-map ws (λ (w : List ℕ). selected_by selects (slots_at ts ss initial w))

  -- what is written where the first rows that fit are the first c
  shows : (more : Bool) → take room rows ≡ take c rows → more ≡ ltb room (length rows) → Shows rs width k o c more out
  unfolding window
  shows more t f = record {
    count_is = rw (q, ← u.room_is, t) (sym (length-take-le c rows (rw rows-length u.some)));
    more_is = rw (q, ← u.room_is) f;
    buffer_is = rw (q, ← u.room_is, t, u.flat_long) u.out_is;
  }

  -- no visit is left, and there was room for one
  pub shows-all : c < room → (iters' slots' : List ℕ) → Advanced ts ss initial iters false iters' slots' → Shows rs width k o c false out
  shows-all l iters' slots' v =
      let z : length ws ≤ c = none_left ws c (sym u.rest ∙ v.no_more refl) in
      let n = rows-length in
      shows false (take_all room rows (omega arith) ∙ sym (take_all c rows (omega arith))) (sym (le-ltb room (length rows) (omega arith)))

  -- the buffer is full
  pub shows-full : room ≤ c → (more : Bool) (iters' slots' : List ℕ) → Advanced ts ss initial iters more iters' slots' → Shows rs width k o c more out
  shows-full l true iters' slots' v =
      let e : room ≡ c = omega (arith, u.fits) in
      let s : c + 1 ≤ length ws = some_left ws c _ _ (sym u.rest ∙ v.next refl) in
      let n = rows-length in
      shows true (ap (λ (m : ℕ). take m rows) e) (sym (lt-ltb room (length rows) (omega arith)))
  shows-full l false iters' slots' v =
      let e : room ≡ c = omega (arith, u.fits) in
      let z : length ws ≤ c = none_left ws c (sym u.rest ∙ v.no_more refl) in
      let n = rows-length in
      shows false (ap (λ (m : ℕ). take m rows) e) (sym (le-ltb room (length rows) (omega arith)))

-- what is left after `show`: nothing where no visit is left, and otherwise what follows the one more that it took to see whether one does
module _ (vs ws : List (List ℕ)) (k room : ℕ) where
  pub left-none : drop k vs ≡ [] → ws ≡ drop k vs → ws ≡ drop (k + room + 1) vs
  left-none z e = e ∙ z ∙ sym (drop-none vs k (k + room + 1) (omega arith) z)

module _ {ts : Tables} {ss : List Scan} {initial selects : List ℕ} {ws : List (List ℕ)} {o iters₀ slots₀ iters slots : List ℕ} {width room : ℕ}
    {out : List ℕ} {c : ℕ} (u : Filling ts ss initial selects ws o iters₀ slots₀ iters slots width room out c)
    (vs : List (List ℕ)) (k : ℕ) (q : ws ≡ drop k vs) (iters' slots' : List ℕ) where
  -- after so many rows
  rest_is : remaining ts ss initial iters ≡ drop (k + c) vs
  rest_is = u.rest ∙ ap (drop c) q ∙ drop-drop c k vs

  pub left-all : Advanced ts ss initial iters false iters' slots' → remaining ts ss initial iters' ≡ drop (k + room + 1) vs
  left-all v = v.no_rest refl ∙ sym (drop-none vs (k + c) (k + room + 1) (omega (arith, u.fits)) (sym rest_is ∙ v.no_more refl))

  pub left-full : room ≤ c → (more : Bool) → Advanced ts ss initial iters more iters' slots' → remaining ts ss initial iters' ≡ drop (k + room + 1) vs
  left-full l false v = left-all v
  left-full l true v =
      let e : c ≡ room = omega (arith, u.fits) in
      rw e at (sym (drop-next vs (k + c) _ _ (sym rest_is ∙ v.next refl)))
