-- An array that is filled with what is read, one after the other.
use mathlib.Core.Path.{◌≡◌, refl, sym, ap, ◌∙◌}
use Prim.Native.Nat.{ℕ, suc, ◌+◌, ◌-◌, ◌<◌, ◌≤◌}
use mathlib.Core.List.{List, [], ◌∷◌, ◌++◌, append_assoc, append-nil}
use native.Mathlib.Numerals.{add-one}
use native.Mathlib.Nat.{sub-zero}
use native.Mathlib.Omega.{arith}
use lib.ListN.{length, set, take, replicate, length-set, length-replicate}
use lib.Seq.{take-suc-set, length-take-le}
use Rattle.std.specs.Prelude.{Ok, Err}
use Rattle.refusal.specs.Verdict.{Refusal}
use Rattle.lists.specs.Padded.{padded}
use Rattle.lists.proofs.Padded.{padded-none, padded-more}
use Rattle.image.specs.Read.{Parsed, met, stopped, and_then, many}
use Rattle.image_read.specs.declared.fields.Cursor.{Cursor}
use Rattle.image_read.specs.Reads.{bit_of, bits_from, Within, Reads, ReadsMany}

-- what was read before it stands in front
abbrev behind : {A : Type 0} → List A → Parsed (List A) → Parsed (List A)
behind xs (met ys l at) = met (xs ++ ys) l at
behind xs (stopped r) = stopped r

module _ {A : Type 0} where
  behind-none : (r : Parsed (List A)) → r ≡ behind [] r
  behind-none (met ys l at) = refl
  behind-none (stopped r) = refl

  behind-one : (xs : List A) (x : A) (r : Parsed (List A)) → behind xs (and_then r (λ ys l at. met (x ∷ ys) l at)) ≡ behind (xs ++ (x ∷ [])) r
  behind-one xs x (met ys l at) = ap (λ (zs : List A). met zs l at) (sym (append_assoc xs (x ∷ []) ys))
  behind-one xs x (stopped r) = refl

module _ {A : Type 0} (p : List ℕ → ℕ → Parsed A) (z : A) (room n : ℕ) (b : List ℕ) (from : Cursor) where
  -- the first i of n are read, and the rest from `at` on
  pub record Gathered (items : List A) (i : ℕ) (at : Cursor) : Type 0 where
    pub few : i ≤ n
    pub long : length items ≡ room
    pub filled : items ≡ padded z room (take i items)
    pub left : many p n (bits_from b from) (bit_of from) ≡ behind (take i items) (many p (n - i) (bits_from b at) (bit_of at))
    pub within : Within b at

  pub gathered_none : Within b from → Gathered (replicate room z) 0 from
  gathered_none h = record {
    few = omega arith;
    long = length-replicate room z;
    filled = sym (padded-none z room);
    left = rw (sub-zero n) (behind-none _);
    within = h;
  }

  module _ {items : List A} {i : ℕ} {at : Cursor} (g : Gathered items i at) where
    -- one more
    pub gathered-more : {x : A} {d : Cursor} → n ≤ room → i < n → Reads p b at (Ok (x, d)) → Gathered (set items i x) (i + 1) d
    unfolding many
    gathered-more {x} {d} fits h r =
        let k : i < length items = omega (arith, g.long) in
        let t : take (i + 1) (set items i x) ≡ take i items ++ (x ∷ []) = rw add-one (take-suc-set items i x k) in
        let s = length-take-le i items (omega arith) in
        let m : set (padded z room (take i items)) (length (take i items)) x ≡ padded z room (take i items ++ (x ∷ [])) = padded-more z room (take i items) x (omega (arith, g.long)) in
        let f : set items i x ≡ padded z room (take i items ++ (x ∷ [])) = ap (λ (l : List A). set l i x) g.filled ∙ rw s at m in
        let o : n - i ≡ suc (n - (i + 1)) = omega arith in
        let e : p (bits_from b at) (bit_of at) ≡ met x (bits_from b d) (bit_of d) = sym r.answers in
        let w : many p (n - i) (bits_from b at) (bit_of at) ≡ and_then (many p (n - (i + 1)) (bits_from b d) (bit_of d)) (λ ys l at. met (x ∷ ys) l at) = rw (o, e) refl in
        record {
          few = omega arith;
          long = length-set items i x ∙ g.long;
          filled = rw t f;
          left = g.left ∙ ap (behind (take i items)) w ∙ behind-one (take i items) x (many p (n - (i + 1)) (bits_from b d) (bit_of d)) ∙ rw t refl;
          within = r.within;
        }

    -- reading stops at one, and so for all
    pub gathered-stopped : {f : Refusal} → i < n → Reads p b at (Err f) → ReadsMany p z room n b from (Err f)
    unfolding many
    gathered-stopped {f} h r =
        let o : n - i ≡ suc (n - (i + 1)) = omega arith in
        let e : p (bits_from b at) (bit_of at) ≡ stopped f = sym r.answers in
        let w : many p (n - i) (bits_from b at) (bit_of at) ≡ stopped f = rw (o, e) refl in
        record { reads = record { answers = sym (g.left ∙ ap (behind (take i items)) w); within = tt }; filled = tt }

    -- all are read
    pub gathered-all : n ≤ i → ReadsMany p z room n b from (Ok (items, at))
    unfolding many
    gathered-all h =
        let e : i ≡ n = omega (arith, g.few) in
        let o : n - i ≡ 0 = omega arith in
        let w : behind (take i items) (many p (n - i) (bits_from b at) (bit_of at)) ≡ met (take n items) (bits_from b at) (bit_of at) =
        rw (o, e) (ap (λ (l : List A). met l (bits_from b at) (bit_of at)) (append-nil (take n items))) in
        record { reads = record { answers = sym (g.left ∙ w); within = g.within }; filled = rw (← e) g.filled }
