-- Words put over others, record after record.
use mathlib.Core.Path.{◌≡◌, refl, sym, ap, ◌∙◌}
use Prim.Native.Nat.{ℕ, suc, ◌+◌, ◌*◌, ◌<◌, ◌≤◌}
use mathlib.Core.List.{List, [], ◌∷◌, ◌++◌, append_assoc, append-nil}
use native.Mathlib.Omega.{arith}
use lib.ListN.{length, get_or, take, drop, set, length-append, take-append-drop, drop_of_length-le}
use lib.Seq.{sets-eq, take_at, take_all, drop-append-add, drop-drop, length-take-le}
use Rattle.lists.specs.Laid.{laid}
use Rattle.lists.proofs.Laid.{laid-length, laid-step}
use Rattle.loader_plan_words.specs.Write.{put_at}

-- nothing put is nothing changed
pub put-none : (ws : List ℕ) (at : ℕ) → ws ≡ put_at at [] ws
put-none ws at =
    let z : at + 0 ≡ at = omega arith in
    rw (append-nil (take at ws), z) (sym (take-append-drop at ws))

-- what is put right behind is put together
pub put-more : (ws xs ys : List ℕ) (at : ℕ) → at + length xs + length ys ≤ length ws
    → put_at (at + length xs) ys (put_at at xs ws) ≡ put_at at (xs ++ ys) ws
put-more ws xs ys at h =
    let front = take at ws ++ xs in
    let long : length front ≡ at + length xs = length-append (take at ws) xs ∙ rw (length-take-le at ws (omega arith)) refl in
    let t : take (at + length xs) (put_at at xs ws) ≡ front = take_at front _ _ long in
    let further : at + length xs + length ys ≡ at + length (xs ++ ys) = rw (length-append xs ys) (omega arith) in
    let d : drop (at + length xs + length ys) (put_at at xs ws) ≡ drop (at + length (xs ++ ys)) ws =
    ap (λ (n : ℕ). drop (n + length ys) (put_at at xs ws)) (sym long) ∙ drop-append-add front (drop (at + length xs) ws) (length ys) ∙ drop-drop (length ys) (at + length xs) ws ∙
    ap (λ (n : ℕ). drop n ws) further in
    rw (t, d, append_assoc (take at ws) xs ys) refl

-- words put over all are all
pub put_all : (ws xs : List ℕ) → length xs ≡ length ws → put_at 0 xs ws ≡ xs
put_all ws xs e = rw (drop_of_length-le ws {i = 0 + length xs} (omega arith), append-nil xs) refl

-- one word, two, three, five, one after the other
pub put_one : (ws : List ℕ) (at a : ℕ) → at + 1 ≤ length ws → set ws at a ≡ put_at at (a ∷ []) ws
put_one ws at a h = sets-eq (a ∷ []) ws at h

pub put_two : (ws : List ℕ) (at a b : ℕ) → at + 2 ≤ length ws → set (set ws at a) (at + 1) b ≡ put_at at (a ∷ b ∷ []) ws
put_two ws at a b h =
    let one : at + 1 ≡ suc at = omega arith in
    rw one (sets-eq (a ∷ b ∷ []) ws at h)

pub put_three : (ws : List ℕ) (a b c : ℕ) → 3 ≤ length ws → set (set (set ws 0 a) 1 b) 2 c ≡ put_at 0 (a ∷ b ∷ c ∷ []) ws
put_three ws a b c h = sets-eq (a ∷ b ∷ c ∷ []) ws 0 h

pub put_five : (ws : List ℕ) (at a b c d e : ℕ) → at + 5 ≤ length ws
    → set (set (set (set (set ws at a) (at + 1) b) (at + 2) c) (at + 3) d) (at + 4) e ≡ put_at at (a ∷ b ∷ c ∷ d ∷ e ∷ []) ws
put_five ws at a b c d e h =
    let one : at + 1 ≡ suc at = omega arith in
    let two : at + 2 ≡ suc (suc at) = omega arith in
    let three : at + 3 ≡ suc (suc (suc at)) = omega arith in
    let four : at + 4 ≡ suc (suc (suc (suc at))) = omega arith in
    rw (one, two, three, four) (sets-eq (a ∷ b ∷ c ∷ d ∷ e ∷ []) ws at h)

module _ {A : Type 0} (f : A → List ℕ) (k : ℕ) (each : (x : A) → length (f x) ≡ k) where
  -- one record more
  pub laid_more : (l : List A) (ws vs us : List ℕ) (at i : ℕ) (z : A) → i < length l → at + k * i + k ≤ length ws
      → vs ≡ put_at at (laid f (take i l)) ws → us ≡ put_at (at + k * i) (f (get_or l i z)) vs → us ≡ put_at at (laid f (take (i + 1) l)) ws
  laid_more l ws vs us at i z h room done e =
      let long : length (laid f (take i l)) ≡ k * i = laid-length f k each (take i l) ∙ rw (length-take-le i l (omega arith)) refl in
      let one = each (get_or l i z) in
      e ∙ rw (← long, done) (put-more ws (laid f (take i l)) (f (get_or l i z)) at (rw (long, one) room)) ∙ ap (λ (n : List ℕ). put_at at n ws) (sym (laid-step f l i z h))

  pub laid-all : (l : List A) (ws vs : List ℕ) (at i : ℕ) → length l ≡ i → vs ≡ put_at at (laid f (take i l)) ws → vs ≡ put_at at (laid f l) ws
  laid-all l ws vs at i e done = done ∙ ap (λ (m : List A). put_at at (laid f m) ws) (take_all i l (omega arith))

-- what is put right behind all that was put so far
pub put_next : (ws xs ys vs us : List ℕ) (at : ℕ) → at ≡ length xs → at + length ys ≤ length ws → vs ≡ put_at 0 xs ws → us ≡ put_at at ys vs
    → us ≡ put_at 0 (xs ++ ys) ws
put_next ws xs ys vs us at e room done more =
    let z : at ≡ 0 + length xs = omega arith in
    more ∙ rw (z, done) (put-more ws xs ys 0 (omega arith))
