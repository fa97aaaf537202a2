-- A slot, a scan's line, the scans, the selects: what their texts tell, whatever follows.
use mathlib.Core.Path.{◌≡◌, refl, sym, ap, ◌∙◌}
use Prim.Native.Nat.{ℕ}
use mathlib.Core.List.{List, [], ◌∷◌, ◌++◌, append_cancel_left}
use native.Mathlib.Omega.{arith}
use lib.ListN.{get_or, drop}
use Rattle.lists.specs.Every.{EveryPasses}
use Rattle.plan.specs.declared.Index.{Index}
use Rattle.plan.specs.declared.Index.TheVariants.{Aevt, Avet, Eavt}
use Rattle.plan.specs.declared.Flow.{Flow}
use Rattle.plan.specs.declared.Flow.TheVariants.{OutOut, InOut, InIn}
use Rattle.text_pieces.specs.Ascii.{ascii}
use Rattle.text_pieces.specs.Decimal.{decimal}
use Rattle.text_pieces.proofs.Escaped.{is_shown}
use Rattle.text_scan.specs.Line.{index_text, first_label, second_label}
use Rattle.plan_text.proofs.Parts.{Stops, hd, tl, split-first, is_digit, decimal-parts}

-- two first bytes that differ
other : {A : Type 0} (n : ℕ) (l m : List ℕ) → l ≡ m → (get_or l n 0 ≡ get_or m n 0 → ⊥) → A
other n l m q differ = absurd (differ (ap (λ (t : List ℕ). get_or t n 0) q))

index-parts : (x y : Index) (r s : List ℕ) → index_text x ++ r ≡ index_text y ++ s → (x ≡ y) × (r ≡ s)
index-parts Aevt Aevt r s q = (refl, ap (drop 8) q)
index-parts Avet Avet r s q = (refl, ap (drop 8) q)
index-parts Eavt Eavt r s q = (refl, ap (drop 8) q)
index-parts Aevt Avet r s q = other 5 _ _ q (λ z. omega arith)
index-parts Aevt Eavt r s q = other 5 _ _ q (λ z. omega arith)
index-parts Avet Aevt r s q = other 5 _ _ q (λ z. omega arith)
index-parts Avet Eavt r s q = other 5 _ _ q (λ z. omega arith)
index-parts Eavt Aevt r s q = other 5 _ _ q (λ z. omega arith)
index-parts Eavt Avet r s q = other 5 _ _ q (λ z. omega arith)

-- an index, its attribute and what follows
abbrev pub scanned_on : Index → ℕ → List ℕ → List ℕ
scanned_on x a r = index_text x ++ (ascii " attribute " ++ (decimal a ++ r))

pub record Scanned (x y : Index) (a b : ℕ) (r s : List ℕ) : Type 0 where
  pub index_is : x ≡ y
  pub attribute_is : a ≡ b
  pub rest_is : r ≡ s

scanned-parts : (x y : Index) (a b : ℕ) (r s : List ℕ) → Stops is_digit r → Stops is_digit s → scanned_on x a r ≡ scanned_on y b s → Scanned x y a b r s
scanned-parts x y a b r s h g q =
    let o = index-parts x y _ _ q in
    let p = decimal-parts a b r s h g (ap (drop 11) o.1) in
    record { index_is = o.0; attribute_is = p.0; rest_is = p.1 }

-- how a slot prints, by a name for each number, and what follows
abbrev pub slot_on : (ℕ → List ℕ) → ℕ → List ℕ → List ℕ
slot_on N k r = N k ++ (58 ∷ (decimal k ++ r))

-- a scan's line, and what follows
abbrev pub line_on : (ℕ → List ℕ) → Flow → Index → ℕ → ℕ → ℕ → List ℕ → List ℕ
line_on N OutOut x a i j r = ascii "for " ++ slot_on N i (ascii ", " ++ slot_on N j (scanned_on x a (10 ∷ r)))
line_on N InOut x a i j r = ascii "for " ++ slot_on N j (scanned_on x a (ascii " (" ++ (first_label x ++ slot_on N i (ascii ")\n" ++ r))))
line_on N InIn x a i j r = ascii "for _" ++ scanned_on x a (ascii " (" ++ (first_label x ++ slot_on N i (ascii ", " ++ (second_label x ++ slot_on N j (ascii ")\n" ++ r)))))

pub record SameLine (f g : Flow) (x y : Index) (a b i k j l : ℕ) (r s : List ℕ) : Type 0 where
  pub flow_is : f ≡ g
  pub scanned : Scanned x y a b r s
  pub first_is : i ≡ k
  pub second_is : j ≡ l

-- what follows an index begins with a space; no slot's number is followed by a digit
index-stops : (x : Index) (r : List ℕ) → Stops is_digit (index_text x ++ r)
index-stops Aevt r = refl
index-stops Avet r = refl
index-stops Eavt r = refl

index-space : (x : Index) (r : List ℕ) → hd (index_text x ++ r) ≡ 32
index-space Aevt r = refl
index-space Avet r = refl
index-space Eavt r = refl

module _ (N M : ℕ → List ℕ) (shown : (k : ℕ) → EveryPasses is_shown (N k)) (shown' : (k : ℕ) → EveryPasses is_shown (M k)) where
  pub slot-parts : (k j : ℕ) (r s : List ℕ) → Stops is_digit r → Stops is_digit s → slot_on N k r ≡ slot_on M j s → (k ≡ j) × (r ≡ s)
  slot-parts k j r s h g q =
      let o = split-first is_shown (N k) (M j) (58 ∷ (decimal k ++ r)) (58 ∷ (decimal j ++ s)) (shown k) (shown' j) refl refl q in
      decimal-parts k j r s h g (ap tl o.1)

  -- the bracket of in-out, and of in-in
  one-parts : (x : Index) (i k : ℕ) (r s : List ℕ)
      → ascii " (" ++ (first_label x ++ slot_on N i (ascii ")\n" ++ r)) ≡ ascii " (" ++ (first_label x ++ slot_on M k (ascii ")\n" ++ s)) → (i ≡ k) × (r ≡ s)
  one-parts x i k r s q =
      let o = slot-parts i k (ascii ")\n" ++ r) (ascii ")\n" ++ s) refl refl (append_cancel_left (first_label x) _ _ (ap (drop 2) q)) in
      (o.0, ap (drop 2) o.1)

  two-parts : (x : Index) (i k j l : ℕ) (r s : List ℕ)
      → ascii " (" ++ (first_label x ++ slot_on N i (ascii ", " ++ (second_label x ++ slot_on N j (ascii ")\n" ++ r))))
      ≡ ascii " (" ++ (first_label x ++ slot_on M k (ascii ", " ++ (second_label x ++ slot_on M l (ascii ")\n" ++ s))))
      → (i ≡ k) × ((j ≡ l) × (r ≡ s))
  two-parts x i k j l r s q =
      let o = slot-parts i k (ascii ", " ++ (second_label x ++ slot_on N j (ascii ")\n" ++ r))) (ascii ", " ++ (second_label x ++ slot_on M l (ascii ")\n" ++ s))) refl refl
      (append_cancel_left (first_label x) _ _ (ap (drop 2) q)) in
      let p = slot-parts j l (ascii ")\n" ++ r) (ascii ")\n" ++ s) refl refl (append_cancel_left (second_label x) _ _ (ap (drop 2) o.1)) in
      (o.0, (p.0, ap (drop 2) p.1))

  out-out : (x y : Index) (a b i k j l : ℕ) (r s : List ℕ) → line_on N OutOut x a i j r ≡ line_on M OutOut y b k l s → SameLine OutOut OutOut x y a b i k j l r s
  out-out x y a b i k j l r s q =
      let o = slot-parts i k _ _ refl refl (ap (drop 4) q) in
      let p = slot-parts j l _ _ (index-stops x _) (index-stops y _) (ap (drop 2) o.1) in
      let t = scanned-parts x y a b (10 ∷ r) (10 ∷ s) refl refl p.1 in
      record {
        flow_is = refl;
        scanned = record { index_is = t.index_is; attribute_is = t.attribute_is; rest_is = ap tl t.rest_is };
        first_is = o.0;
        second_is = p.0;
      }

  in-out : (x y : Index) (a b i k j l : ℕ) (r s : List ℕ) → line_on N InOut x a i j r ≡ line_on M InOut y b k l s → SameLine InOut InOut x y a b i k j l r s
  in-out x y a b i k j l r s q =
      let p = slot-parts j l _ _ (index-stops x _) (index-stops y _) (ap (drop 4) q) in
      let t = scanned-parts x y a b (ascii " (" ++ (first_label x ++ slot_on N i (ascii ")\n" ++ r))) (ascii " (" ++ (first_label y ++ slot_on M k (ascii ")\n" ++ s))) refl refl p.1 in
      let z : y ≡ x = sym t.index_is in
      let o = one-parts x i k r s (t.rest_is ∙ ap (λ (u : Index). ascii " (" ++ (first_label u ++ slot_on M k (ascii ")\n" ++ s))) z) in
      record {
        flow_is = refl;
        scanned = record { index_is = t.index_is; attribute_is = t.attribute_is; rest_is = o.1 };
        first_is = o.0;
        second_is = p.0;
      }

  in-in : (x y : Index) (a b i k j l : ℕ) (r s : List ℕ) → line_on N InIn x a i j r ≡ line_on M InIn y b k l s → SameLine InIn InIn x y a b i k j l r s
  in-in x y a b i k j l r s q =
      let t = scanned-parts x y a b (ascii " (" ++ (first_label x ++ slot_on N i (ascii ", " ++ (second_label x ++ slot_on N j (ascii ")\n" ++ r)))))
      (ascii " (" ++ (first_label y ++ slot_on M k (ascii ", " ++ (second_label y ++ slot_on M l (ascii ")\n" ++ s))))) refl refl (ap (drop 5) q) in
      let z : y ≡ x = sym t.index_is in
      let o = two-parts x i k j l r s (t.rest_is ∙ ap (λ (u : Index). ascii " (" ++ (first_label u ++ slot_on M k (ascii ", " ++ (second_label u ++ slot_on M l (ascii ")\n" ++ s))))) z) in
      record {
        flow_is = refl;
        scanned = record { index_is = t.index_is; attribute_is = t.attribute_is; rest_is = o.1.1 };
        first_is = o.0;
        second_is = o.1.0;
      }

  -- the flows are told apart: a comma after a slot, a space after it, no slot
  comma-space : {A : Type 0} (i l : ℕ) (r : List ℕ) (y : Index) (s : List ℕ) → slot_on N i (44 ∷ r) ≡ slot_on M l (index_text y ++ s) → A
  comma-space i l r y s q =
      let z : ◌≡◌ {A = ℕ} 44 32 = ap hd (slot-parts i l (44 ∷ r) (index_text y ++ s) refl (index-stops y s) q).1 ∙ index-space y s in
      absurd (omega arith)

  slot-none : {A : Type 0} (i : ℕ) (r : List ℕ) (y : Index) (s : List ℕ) → slot_on N i r ≡ 95 ∷ (index_text y ++ s) → A
  slot-none i r y s q =
      let o = split-first is_shown (N i) (95 ∷ []) (58 ∷ (decimal i ++ r)) (index_text y ++ s) (shown i) (refl, tt) refl (space-stops y) q in
      let z : ◌≡◌ {A = ℕ} 58 32 = ap hd o.1 ∙ index-space y s in
      absurd (omega arith)
    where
      space-stops : (y : Index) → Stops is_shown (index_text y ++ s)
      space-stops Aevt = refl
      space-stops Avet = refl
      space-stops Eavt = refl

module _ (N M : ℕ → List ℕ) (shown : (k : ℕ) → EveryPasses is_shown (N k)) (shown' : (k : ℕ) → EveryPasses is_shown (M k)) where
  pub line-parts : (f g : Flow) (x y : Index) (a b i k j l : ℕ) (r s : List ℕ) → line_on N f x a i j r ≡ line_on M g y b k l s → SameLine f g x y a b i k j l r s
  line-parts OutOut OutOut x y a b i k j l r s q = out-out N M shown shown' x y a b i k j l r s q
  line-parts InOut InOut x y a b i k j l r s q = in-out N M shown shown' x y a b i k j l r s q
  line-parts InIn InIn x y a b i k j l r s q = in-in N M shown shown' x y a b i k j l r s q
  line-parts OutOut InOut x y a b i k j l r s q = comma-space N M shown shown' i l _ y _ (ap (drop 4) q)
  line-parts InOut OutOut x y a b i k j l r s q = comma-space M N shown' shown k j _ x _ (sym (ap (drop 4) q))
  line-parts OutOut InIn x y a b i k j l r s q = slot-none N M shown shown' i _ y _ (ap (drop 4) q)
  line-parts InOut InIn x y a b i k j l r s q = slot-none N M shown shown' j _ y _ (ap (drop 4) q)
  line-parts InIn OutOut x y a b i k j l r s q = slot-none M N shown' shown k _ x _ (sym (ap (drop 4) q))
  line-parts InIn InOut x y a b i k j l r s q = slot-none M N shown' shown l _ x _ (sym (ap (drop 4) q))
