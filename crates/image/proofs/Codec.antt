-- Readers of what was written: a kind read back, spelled one way, and refused with 60 where it is cut; and how kinds are put together.
use mathlib.Core.Path.{◌≡◌, refl, sym, ap, ◌∙◌}
use Prim.Native.Nat.{ℕ, zero, suc, ◌+◌, ◌-◌, ◌/◌, ◌^◌, ◌<◌, ◌≤◌}
use mathlib.Core.List.{List, [], ◌∷◌, ◌++◌, append_assoc}
use mathlib.Core.Bool.{Bool, true, false, cond}
use native.Mathlib.Omega.{arith}
use native.Mathlib.Nat.{not-suc-le-zero}
use borrow.Author.Tests.{ltb-true, ltb-false, lt-ltb, le-ltb}
use lib.ListN.{length, take, drop, length-append, take-append-drop}
use lib.Seq.{take-append-le, take-append-add, take_at, drop_at, length-take-le}
use lib.Dec.{ltb}
use Rattle.refusal.specs.Verdict.{Verdict}
use Rattle.std.specs.Prelude.{Ok, Err}
use Rattle.lists.specs.Laid.{laid}
use Rattle.bits.specs.Bits.{bits, number, AllBelow}
use Rattle.bits.proofs.Laws.{below-behind, below-take, bits-length, number-bits, number_lt, bits-number}
use Rattle.lists.specs.Every.{Every}
use Rattle.image.specs.Read.{Parsed, met, stopped, and_then, unless_fault, ran_out, field, many}

-- cut: some place of 60
abbrev pub CutShort : {A : Type 0} → Parsed A → Type 0
CutShort p = (place : ℕ) × (p ≡ stopped (ran_out place))

-- what was met: it fits, it was spelled this way, and so many bits were taken
pub record Spelled {A : Type 0} (enc : A → List ℕ) (Fit : A → Type 0) (l : List ℕ) (at : ℕ) (a : A) (l' : List ℕ) (at' : ℕ) : Type 0 where
  pub fits : Fit a
  pub spelling : l ≡ enc a ++ l'
  pub taken : at' ≡ at + length (enc a)

pub record Codec {A : Type 0} (p : List ℕ → ℕ → Parsed A) (enc : A → List ℕ) (Fit : A → Type 0) : Type 0 where
  pub reads : (a : A) (l : List ℕ) (at : ℕ) → Fit a → p (enc a ++ l) at ≡ met a l (at + length (enc a))
  pub spells : (l : List ℕ) (at : ℕ) (a : A) (l' : List ℕ) (at' : ℕ) → AllBelow 2 l → p l at ≡ met a l' at' → Spelled enc Fit l at a l' at'
  pub short : (a : A) (j at : ℕ) → Fit a → j < length (enc a) → CutShort (p (take j (enc a)) at)

-- a field
field-reads : (w n : ℕ) (l : List ℕ) (at : ℕ) → n < 2 ^ w → field w (bits w n ++ l) at ≡ met n l (at + length (bits w n))
unfolding field
field-reads w n l at h =
    let b = bits-length w n in
    let k : w ≤ length (bits w n ++ l) = omega (arith, length-append (bits w n) l) in
    let t : ltb (length (bits w n ++ l)) w ≡ false = le-ltb _ _ k in
    rw (t, take_at (bits w n) l w b, drop_at (bits w n) l w b, number-bits w n h, b) refl

field-spells : (w : ℕ) (l : List ℕ) (at n : ℕ) (l' : List ℕ) (at' : ℕ) → AllBelow 2 l → field w l at ≡ met n l' at' → Spelled (bits w) (λ n. n < 2 ^ w) l at n l' at'
unfolding field
field-spells w l at n l' at' all e = go (ltb (length l) w) refl e
  where
    go : (t : Bool) → ltb (length l) w ≡ t → cond t (stopped (ran_out (at / 8))) (met (number (take w l)) (drop w l) (at + w)) ≡ met n l' at' → Spelled (bits w) (λ n. n < 2 ^ w) l at n l' at'
    go true t e = absurd (let z : ◌≡◌ {A = ℕ} 0 1 = cc in omega arith)
    go false t e =
        let long : length (take w l) ≡ w = length-take-le w l (ltb-false _ _ t) in
        let en : number (take w l) ≡ n = cc in
        let el : drop w l ≡ l' = cc in
        let ea : at + w ≡ at' = cc in
        let below = below-take 2 w l all in
        let lt : number (take w l) < 2 ^ length (take w l) = number_lt (take w l) below in
        let back : bits (length (take w l)) (number (take w l)) ≡ take w l = bits-number (take w l) below in
        record {
          fits = rw (long, en) at lt;
          spelling = let b = rw (long, en) at back in rw (b, ← el) (sym (take-append-drop w l));
          taken = rw (bits-length w n) (sym ea);
        }

field-short : (w n j at : ℕ) → n < 2 ^ w → j < length (bits w n) → CutShort (field w (take j (bits w n)) at)
unfolding field
field-short w n j at h k =
    let m : j ≤ length (bits w n) = omega arith in
    let i : length (take j (bits w n)) < w = omega (arith, length-take-le j (bits w n) m, bits-length w n) in
    let t : ltb (length (take j (bits w n))) w ≡ true = lt-ltb _ _ i in
    (at / 8, rw t refl)

pub codec-field : (w : ℕ) → Codec (field w) (bits w) (λ n. n < 2 ^ w)
codec-field w = record { reads = field-reads w; spells = field-spells w; short = field-short w }

-- one kind, and then another that depends on it and tells it
module _ {A B : Type 0} (p : List ℕ → ℕ → Parsed A) (encA : A → List ℕ) (FitA : A → Type 0) (c : Codec p encA FitA)
    (q : ℕ → A → List ℕ → ℕ → Parsed B) (encB : A → B → List ℕ) (FitB : A → B → Type 0)
    (d : (at : ℕ) (a : A) → FitA a → Codec (q at a) (encB a) (FitB a))
    (proj : B → A) (back : (a : A) (b : B) → FitA a → FitB a b → proj b ≡ a) where
  then-reads : (b : B) (l : List ℕ) (at : ℕ) → FitA (proj b) × FitB (proj b) b
      → and_then (p ((encA (proj b) ++ encB (proj b) b) ++ l) at) (q at) ≡ met b l (at + length (encA (proj b) ++ encB (proj b) b))
  then-reads b l at f =
      let a = proj b in
      let e : at + length (encA a) + length (encB a b) ≡ at + (length (encA a) + length (encB a b)) = omega arith in
      rw (append_assoc (encA a) (encB a b) l, c.reads a (encB a b ++ l) at f.0, (d at a f.0).reads b l (at + length (encA a)) f.1, length-append (encA a) (encB a b)) (ap (met b l) e)

  then-spells : (l : List ℕ) (at : ℕ) (b : B) (l' : List ℕ) (at' : ℕ) → AllBelow 2 l → and_then (p l at) (q at) ≡ met b l' at'
      → Spelled (λ b. encA (proj b) ++ encB (proj b) b) (λ b. FitA (proj b) × FitB (proj b) b) l at b l' at'
  then-spells l at b l' at' all e = go (p l at) refl e
    where
      go : (r : Parsed A) → p l at ≡ r → and_then r (q at) ≡ met b l' at' → Spelled (λ b. encA (proj b) ++ encB (proj b) b) (λ b. FitA (proj b) × FitB (proj b) b) l at b l' at'
      go (stopped v) t e = absurd (let z : ◌≡◌ {A = ℕ} 0 1 = cc in omega arith)
      go (met a m k) t e =
          let s = c.spells l at a m k all t in
          let below : AllBelow 2 m = below-behind 2 (encA a) m (rw s.spelling at all) in
          let u = (d at a s.fits).spells m k b l' at' below e in
          let pb : proj b ≡ a = back a b s.fits u.fits in
          record {
            fits = rw pb (s.fits, u.fits);
            spelling = rw pb (s.spelling ∙ ap (λ (t : List ℕ). encA a ++ t) u.spelling ∙ sym (append_assoc (encA a) (encB a b) l'));
            taken = rw (pb, length-append (encA a) (encB a b)) (omega (arith, s.taken, u.taken));
          }

  then-short : (b : B) (j at : ℕ) → FitA (proj b) × FitB (proj b) b → j < length (encA (proj b) ++ encB (proj b) b)
      → CutShort (and_then (p (take j (encA (proj b) ++ encB (proj b) b)) at) (q at))
  then-short b j at f h = go (ltb j (length (encA (proj b)))) refl
    where
      go : (t : Bool) → ltb j (length (encA (proj b))) ≡ t → CutShort (and_then (p (take j (encA (proj b) ++ encB (proj b) b)) at) (q at))
      go true t =
          let k : j < length (encA (proj b)) = ltb-true _ _ t in
          let k' : j ≤ length (encA (proj b)) = omega arith in
          let s = c.short (proj b) j at f.0 k in
          (s.0, rw (take-append-le j (encA (proj b)) (encB (proj b) b) k', s.1) refl)
      go false t =
          let a = proj b in
          let k : length (encA (proj b)) ≤ j = ltb-false _ _ t in
          let i = j - length (encA a) in
          let e : j ≡ length (encA a) + i = omega arith in
          let m : i < length (encB a b) = omega (arith, length-append (encA a) (encB a b)) in
          let s = (d at a f.0).short b i (at + length (encA a)) f.1 m in
          let cut : take j (encA a ++ encB a b) ≡ encA a ++ take i (encB a b) = ap (λ (x : ℕ). take x (encA a ++ encB a b)) e ∙ take-append-add (encA a) (encB a b) i in
          (s.0, rw (cut, c.reads a (take i (encB a b)) at f.0, s.1) refl)

  pub codec-then : Codec (λ l at. and_then (p l at) (q at)) (λ b. encA (proj b) ++ encB (proj b) b) (λ b. FitA (proj b) × FitB (proj b) b)
  codec-then = record { reads = then-reads; spells = then-spells; short = then-short }

-- a kind made of one other
module _ {A B : Type 0} (p : List ℕ → ℕ → Parsed A) (enc : A → List ℕ) (Fit : A → Type 0) (c : Codec p enc Fit)
    (f : A → B) (proj : B → A) (back : (a : A) → Fit a → proj (f a) ≡ a) where
  map-reads : (b : B) (l : List ℕ) (at : ℕ) → Fit (proj b) × (f (proj b) ≡ b) → and_then (p (enc (proj b) ++ l) at) (λ a l at. met (f a) l at) ≡ met b l (at + length (enc (proj b)))
  map-reads b l at h = rw (c.reads (proj b) l at h.0) (ap (λ (x : B). met x l (at + length (enc (proj b)))) h.1)

  map-spells : (l : List ℕ) (at : ℕ) (b : B) (l' : List ℕ) (at' : ℕ) → AllBelow 2 l → and_then (p l at) (λ a l at. met (f a) l at) ≡ met b l' at'
      → Spelled (λ b. enc (proj b)) (λ b. Fit (proj b) × (f (proj b) ≡ b)) l at b l' at'
  map-spells l at b l' at' all e = go (p l at) refl e
    where
      go : (r : Parsed A) → p l at ≡ r → and_then r (λ a l at. met (f a) l at) ≡ met b l' at' → Spelled (λ b. enc (proj b)) (λ b. Fit (proj b) × (f (proj b) ≡ b)) l at b l' at'
      go (stopped v) t e = absurd (let z : ◌≡◌ {A = ℕ} 0 1 = cc in omega arith)
      go (met a m k) t e =
          let s = c.spells l at a m k all t in
          let fb : f a ≡ b = cc in
          let fm : m ≡ l' = cc in
          let fk : k ≡ at' = cc in
          let pb : proj b ≡ a = ap proj (sym fb) ∙ back a s.fits in
          record {
            fits = rw pb (s.fits, fb);
            spelling = rw (pb, ← fm) s.spelling;
            taken = rw (pb, ← fk) s.taken;
          }

  map-short : (b : B) (j at : ℕ) → Fit (proj b) × (f (proj b) ≡ b) → j < length (enc (proj b)) → CutShort (and_then (p (take j (enc (proj b))) at) (λ a l at. met (f a) l at))
  map-short b j at h k = let s = c.short (proj b) j at h.0 k in (s.0, rw s.1 refl)

  pub codec-map : Codec (λ l at. and_then (p l at) (λ a l at. met (f a) l at)) (λ b. enc (proj b)) (λ b. Fit (proj b) × (f (proj b) ≡ b))
  codec-map = record { reads = map-reads; spells = map-spells; short = map-short }

-- a verdict before
module _ {A : Type 0} (v : Verdict) (p : List ℕ → ℕ → Parsed A) (enc : A → List ℕ) (Fit : A → Type 0) (c : v ≡ Ok tt → Codec p enc Fit) where
  guard-spells : (l : List ℕ) (at : ℕ) (a : A) (l' : List ℕ) (at' : ℕ) → AllBelow 2 l → (w : Verdict) → v ≡ w → unless_fault w (p l at) ≡ met a l' at'
      → Spelled enc (λ a. (v ≡ Ok tt) × Fit a) l at a l' at'
  guard-spells l at a l' at' all (Err r) t e = absurd (let z : ◌≡◌ {A = ℕ} 0 1 = cc in omega arith)
  guard-spells l at a l' at' all (Ok tt) t e =
      let s = (c t).spells l at a l' at' all e in
      record { fits = (t, s.fits); spelling = s.spelling; taken = s.taken }

  pub codec-guard : Codec (λ l at. unless_fault v (p l at)) enc (λ a. (v ≡ Ok tt) × Fit a)
  codec-guard = record {
    reads = λ a l at h. rw h.0 ((c h.0).reads a l at h.1);
    spells = λ l at a l' at' all e. guard-spells l at a l' at' all v refl e;
    short = λ a j at h k. let s = (c h.0).short a j at h.1 k in (s.0, rw h.0 s.1);
  }

-- nothing read
pub codec-none : {A : Type 0} (a : A) → Codec (λ l at. met a l at) (λ _. []) (λ b. a ≡ b)
codec-none a = record {
  reads = λ b l at e. let z : at ≡ at + 0 = omega arith in rw (← z, e) refl;
  spells = λ l at b l' at' all e. record { fits = cc; spelling = cc; taken = let k : at ≡ at' = cc in omega (arith, k) };
  short = λ b j at e h. absurd (not-suc-le-zero h);
}

-- the same said another way
module _ {A : Type 0} (p : List ℕ → ℕ → Parsed A) (enc enc' : A → List ℕ) (Fit Fit' : A → Type 0)
    (to : (a : A) → Fit a → Fit' a) (fro : (a : A) → Fit' a → Fit a) (same : (a : A) → Fit a → enc a ≡ enc' a) where
  pub codec-as : Codec p enc Fit → Codec p enc' Fit'
  codec-as c = record {
    reads = λ a l at h. rw (← same a (fro a h)) (c.reads a l at (fro a h));
    spells = λ l at a l' at' all e.
        let s = c.spells l at a l' at' all e in
        record { fits = to a s.fits; spelling = rw (← same a s.fits) s.spelling; taken = rw (← same a s.fits) s.taken };
    short = λ a j at h k.
        let e = same a (fro a h) in
        rw (← e) (c.short a j at (fro a h) (rw e k));
  }

-- so many of a kind
module _ {A : Type 0} (p : List ℕ → ℕ → Parsed A) (enc : A → List ℕ) (Fit : A → Type 0) (c : Codec p enc Fit) where
  many-reads : (n : ℕ) (xs : List A) (l : List ℕ) (at : ℕ) → (length xs ≡ n) × Every Fit xs → many p n (laid enc xs ++ l) at ≡ met xs l (at + length (laid enc xs))
  unfolding many laid
  many-reads zero [] l at h = ap (met [] l) (let z : at ≡ at + 0 = omega arith in z)
  many-reads zero (x ∷ xs) l at h = absurd (let e : suc (length xs) ≡ 0 = h.0 in omega arith)
  many-reads (suc n) [] l at h = absurd (let e : 0 ≡ suc n = h.0 in omega arith)
  many-reads (suc n) (x ∷ xs) l at h =
      let e : suc (length xs) ≡ suc n = h.0 in
      let k : length xs ≡ n = omega arith in
      let z : at + length (enc x) + length (laid enc xs) ≡ at + (length (enc x) + length (laid enc xs)) = omega arith in
      rw (append_assoc (enc x) (laid enc xs) l, c.reads x (laid enc xs ++ l) at h.1.0, many-reads n xs l (at + length (enc x)) (k, h.1.1), length-append (enc x) (laid enc xs)) (ap (met (x ∷ xs) l) z)

  many-spells : (n : ℕ) (ih : Codec (many p n) (laid enc) (λ xs. (length xs ≡ n) × Every Fit xs)) (l : List ℕ) (at : ℕ) (xs : List A) (l' : List ℕ) (at' : ℕ) → AllBelow 2 l → many p (suc n) l at ≡ met xs l' at'
      → Spelled (laid enc) (λ xs. (length xs ≡ suc n) × Every Fit xs) l at xs l' at'
  unfolding many laid
  many-spells n ih l at ys l' at' all e = go (p l at) refl e
    where
      go : (r : Parsed A) → p l at ≡ r → and_then r (λ x l' at'. and_then (many p n l' at') (λ xs l'' at''. met (x ∷ xs) l'' at'')) ≡ met ys l' at'
          → Spelled (laid enc) (λ xs. (length xs ≡ suc n) × Every Fit xs) l at ys l' at'
      go (stopped v) t e = absurd (let z : ◌≡◌ {A = ℕ} 0 1 = cc in omega arith)
      go (met x m k) t e = next (many p n m k) refl e
        where
          next : (r : Parsed (List A)) → many p n m k ≡ r → and_then r (λ xs l'' at''. met (x ∷ xs) l'' at'') ≡ met ys l' at'
              → Spelled (laid enc) (λ xs. (length xs ≡ suc n) × Every Fit xs) l at ys l' at'
          next (stopped v) u e = absurd (let z : ◌≡◌ {A = ℕ} 0 1 = cc in omega arith)
          next (met xs m' k') u e =
              let s = c.spells l at x m k all t in
              let below : AllBelow 2 m = below-behind 2 (enc x) m (rw s.spelling at all) in
              let w = ih.spells m k xs m' k' below u in
              let ey : x ∷ xs ≡ ys = cc in
              let em : m' ≡ l' = cc in
              let ek : k' ≡ at' = cc in
              record {
                fits = rw (← ey) (ap suc w.fits.0, (s.fits, w.fits.1));
                spelling = rw (← ey, ← em) (s.spelling ∙ ap (λ (t : List ℕ). enc x ++ t) w.spelling ∙ sym (append_assoc (enc x) (laid enc xs) m'));
                taken = rw (← ey, ← ek, length-append (enc x) (laid enc xs)) (omega (arith, s.taken, w.taken));
              }

  many-short : (n : ℕ) (ih : Codec (many p n) (laid enc) (λ xs. (length xs ≡ n) × Every Fit xs)) (xs : List A) (j at : ℕ) → (length xs ≡ suc n) × Every Fit xs → j < length (laid enc xs) → CutShort (many p (suc n) (take j (laid enc xs)) at)
  unfolding many laid
  many-short n ih [] j at h k = absurd (not-suc-le-zero k)
  many-short n ih (x ∷ xs) j at h k = go (ltb j (length (enc x))) refl
    where
      go : (t : Bool) → ltb j (length (enc x)) ≡ t → CutShort (and_then (p (take j (enc x ++ laid enc xs)) at) (λ x l' at'. and_then (many p n l' at') (λ xs l'' at''. met (x ∷ xs) l'' at'')))
      go true t =
          let i : j < length (enc x) = ltb-true _ _ t in
          let i' : j ≤ length (enc x) = omega arith in
          let s = c.short x j at h.1.0 i in
          (s.0, rw (take-append-le j (enc x) (laid enc xs) i', s.1) refl)
      go false t =
          let e : suc (length xs) ≡ suc n = h.0 in
          let q : length xs ≡ n = omega arith in
          let f : length (enc x) ≤ j = ltb-false _ _ t in
          let i = j - length (enc x) in
          let d : j ≡ length (enc x) + i = omega arith in
          let m : i < length (laid enc xs) = omega (arith, length-append (enc x) (laid enc xs)) in
          let s = ih.short xs i (at + length (enc x)) (q, h.1.1) m in
          let cut : take j (enc x ++ laid enc xs) ≡ enc x ++ take i (laid enc xs) = ap (λ (y : ℕ). take y (enc x ++ laid enc xs)) d ∙ take-append-add (enc x) (laid enc xs) i in
          (s.0, rw (cut, c.reads x (take i (laid enc xs)) at h.1.0, s.1) refl)

  none-spells : (l : List ℕ) (at : ℕ) (xs : List A) (l' : List ℕ) (at' : ℕ) → met [] l at ≡ met xs l' at' → Spelled (laid enc) (λ xs. (length xs ≡ 0) × Every Fit xs) l at xs l' at'
  unfolding laid
  none-spells l at [] l' at' e = record { fits = (refl, tt); spelling = cc; taken = let k : at ≡ at' = cc in omega (arith, k) }
  none-spells l at (x ∷ xs) l' at' e = absurd (let z : ◌≡◌ {A = ℕ} 0 1 = cc in omega arith)

  none-short : (xs : List A) (j : ℕ) → length xs ≡ 0 → j < length (laid enc xs) → ⊥
  unfolding laid
  none-short [] j e h = not-suc-le-zero h
  none-short (x ∷ xs) j e h = let d : suc (length xs) ≡ 0 = e in omega arith

  pub codec-many : (n : ℕ) → Codec (many p n) (laid enc) (λ xs. (length xs ≡ n) × Every Fit xs)
  unfolding many
  codec-many zero = record {
    reads = many-reads 0;
    spells = λ l at xs l' at' all e. none-spells l at xs l' at' e;
    short = λ xs j at h k. absurd (none-short xs j h.0 k);
  }
  codec-many (suc n) = record { reads = many-reads (suc n); spells = many-spells n (codec-many n); short = many-short n (codec-many n) }
