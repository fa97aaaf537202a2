-- Three tables pass the check exactly if they are sorted and hold the same facts.
use mathlib.Core.Path.{◌≡◌, refl, ap, ◌∙◌}
use mathlib.Core.Logic.{◌↔◌}
use mathlib.Core.Bool.{Bool, true, not, ◌&&◌}
use mathlib.Core.List.{List}
use Prim.Native.Nat.{ℕ, ◌%◌, ◌<◌}
use native.Mathlib.Omega.{arith}
use native.Mathlib.Nat.{zero-add}
use borrow.Author.Tests.{eqb-true, eq-eqb, not-false}
use lib.ListN.{length, get_or, length-map, get_or-map}
use lib.Dec.{eqb}
use Rattle.std.specs.Prelude.{Ok}
use Rattle.refusal.specs.Verdict.{refuse_if}
use Rattle.refusal.proofs.Fine.{refuse-fine, or-fine}
use Rattle.refusal.proofs.First.{each-passes}
use Rattle.datom.specs.Fact.{Fact, words, aevt_row, avet_row, eavt_row}
use Rattle.lists.specs.Span.{span}
use Rattle.lists.proofs.Span.{length-span, get_or-span}
use Rattle.tables.specs.Rows.{count, row, rows_of, ascending, fact_of}
use Rattle.tables.specs.Check.{is_among, lengths_fault, order_fault, missing_fault, tables_fault}
use Rattle.tables.specs.Passed.{Sorted, Passed}
use Rattle.tables.proofs.Order.{both}
use Rattle.tables.proofs.Table.{row-key}
use Rattle.tables.proofs.SameFacts.{ascending-once, same-facts, all_in, no-fewer, no_more}

-- a test that is not refused holds
held : (b : Bool) (n p : ℕ) → refuse_if (not b) n p ≡ Ok tt → b ≡ true
held b n p e = not-false b (refuse-fine (not b) n p e)

-- 1: the lengths of whole rows, all the same
lengths-fine : (a b c : ℕ) → lengths_fault a b c ≡ Ok tt → (a % words ≡ 0) × (b ≡ a) × (c ≡ a)
lengths-fine a b c e =
    let p = both (eqb (a % words) 0 && eqb b a) (eqb c a) (held _ _ _ e) in
    let q = both (eqb (a % words) 0) (eqb b a) p.0 in
    (eqb-true _ _ q.0, eqb-true _ _ q.1, eqb-true _ _ p.1)

-- the fact of a row of aevt is in both other tables
abbrev Found : List (List ℕ) → List (List ℕ) → List ℕ → Type 0
Found av ea r = (is_among (avet_row (fact_of r)) av ≡ true) × (is_among (eavt_row (fact_of r)) ea ≡ true)

-- 3: none is missing
missing-fine : (av ea : List (List ℕ)) (ae : List ℕ) → missing_fault av ea (rows_of ae) 0 ≡ Ok tt ↔ ((i : ℕ) → i < count ae → Found av ea (row ae i))
unfolding missing_fault
missing-fine av ea ae =
    let found = each-passes _ _ (row ae 0) 0 (rows_of ae) in
    let at : (i : ℕ) → i < count ae → get_or (rows_of ae) i (row ae 0) ≡ row ae i =
    λ i h. get_or-map (row ae) (span 0 (count ae)) i 0 ∙ ap (row ae) (get_or-span 0 (count ae) i h ∙ zero-add i) in
    let long : length (rows_of ae) ≡ count ae = length-map (span 0 (count ae)) (row ae) ∙ length-span 0 (count ae) in (
      λ e i h. both _ _ (not-false _ (rw (at i h) at (found.0 e i (omega arith)))),
      λ f. found.1 (λ i h. let g = f i (omega arith) in rw (at i (omega arith), g.0, g.1) refl),
    )

-- the other tables' rows tell facts apart as aevt's do
avet-apart : (f h : Fact) → avet_row f ≡ avet_row h → aevt_row f ≡ aevt_row h
avet-apart f h e = cc

eavt-apart : (f h : Fact) → eavt_row f ≡ eavt_row h → aevt_row f ≡ aevt_row h
eavt-apart f h e = cc

-- the fact that a row of avet or eavt holds
abbrev avet_fact : List ℕ → Fact
avet_fact r = record { attribute = get_or r 0 0; value = get_or r 1 0; entity = get_or r 2 0 }

abbrev eavt_fact : List ℕ → Fact
eavt_fact r = record { entity = get_or r 0 0; attribute = get_or r 1 0; value = get_or r 2 0 }

module _ (ae av ea : List ℕ) where
  -- what tables that pass the check promise
  pub tables-pass : tables_fault ae av ea ≡ Ok tt → Passed ae av ea
  unfolding tables_fault
  tables-pass e =
      let a = or-fine (lengths_fault (length ae) (length av) (length ea)) _ e in
      let b = or-fine (order_fault ae 0) _ a.1 in
      let c = or-fine (order_fault av 1) _ b.1 in
      let d = or-fine (order_fault ea 2) _ c.1 in
      let lengths = lengths-fine (length ae) (length av) (length ea) a.0 in
      let aevt = held (ascending (rows_of ae)) 2 0 b.0 in
      let avet = held (ascending (rows_of av)) 2 1 c.0 in
      let eavt = held (ascending (rows_of ea)) 2 2 d.0 in
      let found = (missing-fine (rows_of av) (rows_of ea) ae).0 d.1 in
      record {
        aevt_sorted = record { whole = lengths.0; ascends = aevt };
        avet_sorted = record { whole = rw lengths.1 lengths.0; ascends = avet };
        eavt_sorted = record { whole = rw lengths.2 lengths.0; ascends = eavt };
        avet_length = lengths.1;
        eavt_length = lengths.2;
        aevt_once = ascending-once ae aevt;
        avet_once = ascending-once av avet;
        eavt_once = ascending-once ea eavt;
        in_avet = same-facts ae avet_row avet-apart aevt av (λ i h. (found i h).0) (omega arith);
        in_eavt = same-facts ae eavt_row eavt-apart aevt ea (λ i h. (found i h).1) (omega arith);
      }

  -- sorted tables that hold the same facts pass the check
  pub pass-tables : Sorted ae → Sorted av → Sorted ea
      → ((f : Fact) → is_among (aevt_row f) (rows_of ae) ≡ is_among (avet_row f) (rows_of av))
      → ((f : Fact) → is_among (aevt_row f) (rows_of ae) ≡ is_among (eavt_row f) (rows_of ea)) → tables_fault ae av ea ≡ Ok tt
  unfolding tables_fault
  pass-tables a v e in_avet in_eavt =
      let avet = all_in ae avet_row avet-apart a.ascends av in_avet in
      let eavt = all_in ae eavt_row eavt-apart a.ascends ea in_eavt in
      let p = no-fewer ae avet_row avet-apart a.ascends av avet in
      let q = no-fewer ae eavt_row eavt-apart a.ascends ea eavt in
      let p' = no_more ae avet_row avet-apart a.ascends av in_avet v.ascends avet_fact (λ i h. rw (row-key av i h)) in
      let q' = no_more ae eavt_row eavt-apart a.ascends ea in_eavt e.ascends eavt_fact (λ i h. rw (row-key ea i h)) in
      let m : length av ≡ length ae = omega arith in
      let n : length ea ≡ length ae = omega arith in
      simp (eq-eqb _ _ a.whole, eq-eqb _ _ m, eq-eqb _ _ n, a.ascends, v.ascends, e.ascends)
      ((missing-fine (rows_of av) (rows_of ea) ae).1 (λ i h. (avet i h, eavt i h)))
