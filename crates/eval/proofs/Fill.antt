-- The turns of `show`'s loop: before turn c the first c rows of what remains are written, and the buffer past them is as it was.
use mathlib.Core.Path.{◌≡◌, refl, sym, ap, ◌∙◌}
use mathlib.Core.Bool.{true}
use mathlib.Core.List.{List, [], ◌∷◌, ◌++◌, map, append-nil}
use Prim.Native.Nat.{ℕ, zero, suc, ◌+◌, ◌*◌, ◌-◌, ◌/◌, ◌<◌, ◌≤◌}
use native.Mathlib.Omega.{arith}
use native.Mathlib.Nat.{div-le_self}
use lib.ListN.{length, get_or, take, drop, length-append, length-drop, length-map}
use lib.Seq.{drop-drop, drop-append-add, take-add, take_at}
use Rattle.tables.specs.Rows.{flat}
use Rattle.tables.proofs.Table.{flat_append}
use Rattle.plan.specs.declared.Scan.{Scan}
use Rattle.visits.specs.Visits.{Tables, slots_at}
use Rattle.visits.specs.Pending.{current}
use Rattle.eval.specs.Steps.{Ready}
use Rattle.eval.specs.Next.{innermost, remaining, Advanced, selected_by, rows_at}
use Rattle.eval.proofs.Passing.{drop-next}

flat-one : (x : List ℕ) → flat (x ∷ []) ≡ x
unfolding flat
flat-one x = append-nil x

module _ {A : Type 0} (l : List A) (i : ℕ) where
  -- one element more, of a list that goes on
  take_next : (w : A) (ws : List A) → drop i l ≡ w ∷ ws → take (i + 1) l ≡ take i l ++ (w ∷ [])
  take_next w ws e = take-add i 1 l ∙ ap (λ (z : List A). take i l ++ take 1 z) e

  pub none_left : drop i l ≡ [] → length l ≤ i
  none_left z = let e : length l - i ≡ 0 = sym (length-drop i l) ∙ ap length z in omega arith

  pub some_left : (w : A) (ws : List A) → drop i l ≡ w ∷ ws → i + 1 ≤ length l
  some_left w ws z = let e : length l - i ≡ suc (length ws) = sym (length-drop i l) ∙ ap length z in omega arith

pub drop-map : {A B : Type 0} (f : A → B) (k : ℕ) (l : List A) → drop k (map f l) ≡ map f (drop k l)
drop-map f zero l = refl
drop-map f (suc k) [] = refl
drop-map f (suc k) (x ∷ l) = drop-map f k l

next-at : (c w m : ℕ) → w ≡ m → c * w + m ≡ (c + 1) * w
next-at c w m e = rw (← e) (omega arith)

-- at the loop's head: the visits ws are to be shown, and c of them are
pub record Filling (ts : Tables) (ss : List Scan) (initial selects : List ℕ) (ws : List (List ℕ)) (o iters₀ slots₀ iters slots : List ℕ)
    (width room : ℕ) (out : List ℕ) (c : ℕ) : Type 0 where
  pub width_is : width ≡ length selects
  pub room_is : room ≡ length o / width
  pub ready : Ready ts ss initial iters slots (innermost ss)
  pub fits : c ≤ room
  pub some : c ≤ length ws
  pub rest : remaining ts ss initial iters ≡ drop c ws
  pub out_is : out ≡ flat (take c (rows_at ts ss initial selects ws)) ++ drop (c * width) o
  pub flat_long : length (flat (take c (rows_at ts ss initial selects ws))) ≡ c * width
  pub out_same : length out ≡ length o
  pub iters_same : length iters ≡ length iters₀
  pub slots_same : length slots ≡ length slots₀

pub fill_start : (ts : Tables) (ss : List Scan) (initial selects o iters slots : List ℕ) → Ready ts ss initial iters slots (innermost ss)
    → Filling ts ss initial selects (remaining ts ss initial iters) o iters slots iters slots (length selects) (length o / length selects) o 0
unfolding flat
fill_start ts ss initial selects o iters slots r = record {
  width_is = refl;
  room_is = refl;
  ready = r;
  fits = omega arith;
  some = omega arith;
  rest = refl;
  out_is = let z : 0 * length selects ≡ 0 = omega arith in rw z;
  flat_long = omega arith;
  out_same = refl;
  iters_same = refl;
  slots_same = refl;
}

module _ {ts : Tables} {ss : List Scan} {initial selects : List ℕ} {ws : List (List ℕ)} {o iters₀ slots₀ iters slots : List ℕ} {width room : ℕ}
    {out : List ℕ} {c : ℕ} (u : Filling ts ss initial selects ws o iters₀ slots₀ iters slots width room out c) where
  abbrev rows : List (List ℕ)
  rows = rows_at ts ss initial selects ws

  abbrev row : List ℕ → List ℕ
  row w = selected_by selects (slots_at ts ss initial w)

  pub fill-count : c < room → c + 1 ≤ length o
  fill-count l = let b : room ≤ length o = rw u.room_is (div-le_self (length o) width) in omega arith

  -- one more row is written
  pub fill-again : (iters' slots' out' : List ℕ) → c < room → Advanced ts ss initial iters true iters' slots'
      → length iters' ≡ length iters → length slots' ≡ length slots → length out' ≡ length out
      → out' ≡ take (c * width) out ++ selected_by selects slots' ++ drop (c * width + length selects) out
      → Filling ts ss initial selects ws o iters₀ slots₀ iters' slots' width room out' (c + 1)
  fill-again iters' slots' out' l v long wide whole q =
      let done : List ℕ = flat (take c rows) in
      let x : List ℕ = current iters' (length ss) in
      let left : drop c ws ≡ x ∷ remaining ts ss initial iters' = sym u.rest ∙ v.next refl in
      let it : selected_by selects slots' ≡ row x = ap (selected_by selects) (v.slots_are refl) in
      let more : drop c rows ≡ row x ∷ map row (remaining ts ss initial iters') = drop-map row c ws ∙ ap (map row) left in
      let both : flat (take (c + 1) rows) ≡ done ++ row x =
      ap flat (take_next rows c (row x) _ more) ∙ flat_append (take c rows) (row x ∷ []) ∙ ap (λ (l : List ℕ). done ++ l) (flat-one (row x)) in
      let before : take (c * width) out ≡ done = ap (take (c * width)) u.out_is ∙ take_at done (drop (c * width) o) (c * width) u.flat_long in
      let after : drop (c * width + length selects) out ≡ drop ((c + 1) * width) o =
      ap (drop (c * width + length selects)) u.out_is ∙
      ap (λ (k : ℕ). drop (k + length selects) (done ++ drop (c * width) o)) (sym u.flat_long) ∙
      drop-append-add done (drop (c * width) o) (length selects) ∙
      drop-drop (length selects) (c * width) o ∙
      ap (λ (k : ℕ). drop k o) (next-at c width (length selects) u.width_is) in
      record {
        width_is = u.width_is;
        room_is = u.room_is;
        ready = v.ready;
        fits = omega arith;
        some = some_left ws c x _ left;
        rest = sym (drop-next ws c x _ left);
        out_is = q ∙ rw (before, after, it, both);
        flat_long =
            ap length both ∙ length-append done (row x) ∙ ap (λ (k : ℕ). k + length (row x)) u.flat_long ∙
            ap (λ (k : ℕ). c * width + k) (length-map selects (λ (y : ℕ). get_or (slots_at ts ss initial x) y 0)) ∙
            next-at c width (length selects) u.width_is;
        out_same = whole ∙ u.out_same;
        iters_same = long ∙ u.iters_same;
        slots_same = wide ∙ u.slots_same;
      }
