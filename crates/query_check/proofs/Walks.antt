-- A loop over all items of a slice, the first at place p: what it says of the first refusal, as `Walked` says it of a loop over the first k.
use mathlib.Core.Path.{◌≡◌}
use Prim.Native.Nat.{ℕ, ◌≤◌, ◌<◌}
use mathlib.Core.List.{List}
use lib.ListN.{length, get_or}
use lib.Seq.{take-length}
use Rattle.std.specs.Prelude.{Ok, Err}
use Rattle.refusal.specs.Verdict.{Refusal, Verdict}
use Rattle.refusal.specs.Verdict.{first_fault}
use Rattle.refusal.proofs.First.{Walked, walked-found, walked-done}

module _ {A : Type 0} {fault : ℕ → A → Verdict} {l : List A} {p q i : ℕ} (w : Walked fault l (length l) p q i) where
  -- item i is refused
  pub whole-found : (d : A) {r : Refusal} → i < length l → fault q (get_or l i d) ≡ Err r → first_fault fault p l ≡ Err r
  whole-found d h e = rw take-length at (walked-found w d h e)

  -- none is left
  pub whole-done : length l ≤ i → first_fault fault p l ≡ Ok tt
  whole-done h = rw take-length at (walked-done w h)
